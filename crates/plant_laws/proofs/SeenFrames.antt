-- A member has the same readings of a frame as of what the members see of it.
use Rattle.std.proofs.Common.{◌≡◌, ℕ, zero, suc, ◌+◌, Bool, true, false, cond, ◌&&◌, ◌||◌, ℤ, pos, List, [], ◌∷◌, map, filter, length, refl, sym, ap, ◌∙◌, subst, arith}
use Rattle.std.specs.List.{enumerate_from, list_any}
use Rattle.std.specs.Option.{option_map_or}
use Rattle.std.specs.Prelude.{slice_get}
use Rattle.std.proofs.lemmas.Bool.{and_from, false≢true}
use Rattle.giotto_tasks.proofs.cited.TestLemmas.{or_true}
use Rattle.plant_laws.specs.Seen.{is_seen, seen_frame}
use Rattle.rig_model.specs.Readings.{readings_within}
use Rattle.rig_model.specs.config.Roster.{Rig, budgets_at, may_use, no_budgets}
use Rattle.rig_model.specs.declared.config.TenantConfig.{TenantConfig}

-- values that aren't looked at may be replaced
unlooked : (p q : ℕ → Bool) → ((k : ℕ) → p k ≡ true → q k ≡ true) → (n : ℕ) (frame : List ℤ)
    → filter (λ (r : ℕ × ℤ). p r.0) (enumerate_from n (map (λ (r : ℕ × ℤ). cond (q r.0) r.1 (pos 0)) (enumerate_from n frame))) ≡ filter (λ (r : ℕ × ℤ). p r.0) (enumerate_from n frame)
unlooked p q wider n [] = refl
unlooked p q wider n (z ∷ frame) = by (p n) refl (unlooked p q wider (n + 1) frame)
  where
    seen : List (ℕ × ℤ)
    seen = filter (λ (r : ℕ × ℤ). p r.0) (enumerate_from (n + 1) (map (λ (r : ℕ × ℤ). cond (q r.0) r.1 (pos 0)) (enumerate_from (n + 1) frame)))

    whole : List (ℕ × ℤ)
    whole = filter (λ (r : ℕ × ℤ). p r.0) (enumerate_from (n + 1) frame)

    by : (b : Bool) → p n ≡ b → seen ≡ whole → cond b ((n, cond (q n) z (pos 0)) ∷ seen) seen ≡ cond b ((n, z) ∷ whole) whole
    by true is same =
        let here : cond (q n) z (pos 0) ≡ z = ap (λ b. cond b z (pos 0)) (wider n is) in
        ap (λ (y : ℤ). (n, y) ∷ seen) here ∙ ap (λ (rs : List (ℕ × ℤ)). (n, z) ∷ rs) same
    by false is same = same

-- a line that a member may read is seen
read_at : (members : ℕ → Bool) (ts : List TenantConfig) (n t k : ℕ) → may_use (option_map_or (λ (tenant : TenantConfig). tenant.budgets) (slice_get ts t) no_budgets).reads k ≡ true
    → members (n + t) ≡ true → list_any (λ (place : ℕ × TenantConfig). members place.0 && may_use place.1.budgets.reads k) (enumerate_from n ts) ≡ true
read_at members [] n t k reads is = absurd (false≢true reads)
read_at members (tenant ∷ ts) n zero k reads is =
    let first : n + 0 ≡ n = omega arith in
    let here : (members n && may_use tenant.budgets.reads k) ≡ true = and_from (members n) (may_use tenant.budgets.reads k) (ap members (sym first) ∙ is) reads in
    ap (λ b. b || list_any (λ (place : ℕ × TenantConfig). members place.0 && may_use place.1.budgets.reads k) (enumerate_from (n + 1) ts)) here
read_at members (tenant ∷ ts) n (suc t) k reads is =
    let next : n + 1 + t ≡ n + suc t = omega arith in
    ap (λ b. (members n && may_use tenant.budgets.reads k) || b) (read_at members ts (n + 1) t k reads (ap members next ∙ is))
    ∙ or_true (members n && may_use tenant.budgets.reads k)

pub read_is_seen : (config : Rig) (members : ℕ → Bool) (t k : ℕ) → members t ≡ true → may_use (budgets_at config t).reads k ≡ true → is_seen config members k ≡ true
read_is_seen config members t k is reads = let at : 0 + t ≡ t = omega arith in read_at members config.tenants 0 t k reads (ap members at ∙ is)

pub seen_readings : (config : Rig) (members : ℕ → Bool) (t : ℕ) (frame : List ℤ) → members t ≡ true
    → readings_within (budgets_at config t).reads (seen_frame config members frame) ≡ readings_within (budgets_at config t).reads frame
seen_readings config members t frame is =
    unlooked (may_use (budgets_at config t).reads) (is_seen config members) (λ k reads. read_is_seen config members t k is reads) 0 frame

-- it has as many values
pub seen_length : (config : Rig) (members : ℕ → Bool) (n : ℕ) (frame : List ℤ)
    → length (map (λ (r : ℕ × ℤ). cond (is_seen config members r.0) r.1 (pos 0)) (enumerate_from n frame)) ≡ length frame
seen_length config members n [] = refl
seen_length config members n (z ∷ frame) = ap suc (seen_length config members (n + 1) frame)
