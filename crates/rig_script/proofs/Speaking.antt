-- A tenant that speaks in a line is in the roster, and a word has no space.
use Rattle.std.proofs.Common.{◌≡◌, ℕ, suc, ◌+◌, ◌<◌, ◌==◌, ◌++◌, Bool, true, false, nat_lt, List, [], ◌∷◌, length, Option, Some, None, refl, ap, subst, ◌∙◌, arith}
use Rattle.std.specs.List.{position_or_len, prefix_len, take_while}
use Rattle.std.proofs.lemmas.Bool.Decides.{nat_tests}
use Rattle.giotto_tasks.specs.declared.names.Name.{Name}
use Rattle.giotto_tasks.specs.Names.{same_name}
use Rattle.rig_model.specs.declared.config.TenantConfig.{TenantConfig}
use Rattle.rig_model.specs.config.Roster.{Rig, place_of}
use Rattle.rig_model.specs.lines.Words.{first_word_of, from_first_word, is_word_byte}
use Rattle.rig_model.specs.declared.speakers.Speaker.TheVariants.{Nobody, Operator, Tenant, Unknown}
use Rattle.rig_model.specs.Script.{operator, speaker_of}
use Rattle.rig_script.specs.cited.Refusals.{answer_in}
use Rattle.rig_script.specs.inner.Refused.{IsAddressee}

-- a byte of a word is no space
no_space : (c : ℕ) (b : Bool) → (c == 32) ≡ b → is_word_byte c ≡ true → (c == 32) ≡ false
no_space c false e h = e
no_space c true e h = let wrong : false ≡ true = rw e at h in absurd (cc)

-- what follows the first space of a text whose first byte is none
passed : (c : ℕ) (text : List ℕ) → (c == 32) ≡ false → answer_in (c ∷ text) ≡ answer_in text
passed c text e =
    let place = position_or_len (λ x. x == 32) text in
    let next : 1 + place + 1 ≡ suc (place + 1) = omega arith in
    rw (e, next) refl

word : (line answer : List ℕ) → answer_in (take_while is_word_byte line ++ 32 ∷ answer) ≡ answer
word [] answer = refl
word (c ∷ cs) answer = by (is_word_byte c) refl (word cs answer)
  where
    by : (b : Bool) → is_word_byte c ≡ b → answer_in (take_while is_word_byte cs ++ 32 ∷ answer) ≡ answer → answer_in (take_while is_word_byte (c ∷ cs) ++ 32 ∷ answer) ≡ answer
    by false e later = rw e refl
    by true e later =
        let length = prefix_len is_word_byte cs in
        let next : 1 + length ≡ suc length = omega arith in
        let front : take_while is_word_byte (c ∷ cs) ≡ c ∷ take_while is_word_byte cs = rw (e, next) refl in
        ap (λ w. answer_in (w ++ 32 ∷ answer)) front ∙ (passed c (take_while is_word_byte cs ++ 32 ∷ answer) (no_space c (c == 32) refl e) ∙ later)

-- the first word of a line is an addressee
pub first_word : (line : List ℕ) → IsAddressee (first_word_of line)
first_word line = λ answer. word (from_first_word line) answer

-- a place that was found is a place of the roster
pub place_within : (config : Rig) (x : Name) (u : ℕ) → place_of config x ≡ Some u → u < length config.tenants
place_within config x u e = by (nat_lt k (length config.tenants)) refl
  where
    k : ℕ
    k = position_or_len (λ (t : TenantConfig). same_name t.name x) config.tenants

    by : (b : Bool) → nat_lt k (length config.tenants) ≡ b → u < length config.tenants
    by true is = let found : Some k ≡ Some u = rw is at e in let same : k ≡ u = cc in subst (λ n. n < length config.tenants) same (grind (arith, nat_tests, is))
    by false is = let found : None ≡ Some u = rw is at e in absurd (cc)

module _ (config : Rig) (line : List ℕ) (t : ℕ) (e : speaker_of config line ≡ Tenant t) where
  by_place : (c : ℕ) (cs : List ℕ) → first_word_of line ≡ c ∷ cs → same_name (c ∷ cs) operator ≡ false → (place : Option ℕ) → place_of config (c ∷ cs) ≡ place → t < length config.tenants
  by_place c cs is other None p = let found : Unknown ≡ Tenant t = rw (is, other, p) at e in absurd (cc)
  by_place c cs is other (Some u) p =
      let found : Tenant u ≡ Tenant t = rw (is, other, p) at e in
      let same : u ≡ t = cc in
      subst (λ n. n < length config.tenants) same (place_within config (c ∷ cs) u p)

  by_name : (c : ℕ) (cs : List ℕ) → first_word_of line ≡ c ∷ cs → (b : Bool) → same_name (c ∷ cs) operator ≡ b → t < length config.tenants
  by_name c cs is true same = let found : Operator ≡ Tenant t = rw (is, same) at e in absurd (cc)
  by_name c cs is false same = by_place c cs is same (place_of config (c ∷ cs)) refl

  by_word : (word : List ℕ) → first_word_of line ≡ word → t < length config.tenants
  by_word [] is = let found : Nobody ≡ Tenant t = rw is at e in absurd (cc)
  by_word (c ∷ cs) is = by_name c cs is (same_name (c ∷ cs) operator) refl

  pub tenant_within : t < length config.tenants
  tenant_within = by_word (first_word_of line) refl
