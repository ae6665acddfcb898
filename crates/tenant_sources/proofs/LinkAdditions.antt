-- The links that an instant adds to a table, tenant by tenant and source by source.
use Rattle.std.proofs.Common.{◌≡◌, ◌<◌, ◌≤◌, ◌+◌, ℕ, Bool, true, false, cond, ◌&&◌, ◌==◌, nat_lt, List, [], ◌∷◌, ◌++◌, length, get_or, filter_map, find, All, Option, Some, None, option_map, refl, sym, ap, subst, ◌∙◌, arith}
use Rattle.std.specs.Option.{option_or}
use Rattle.std.proofs.lemmas.Bool.{and_parts}
use Rattle.std.proofs.lemmas.Bool.Decides.{nat_tests}
use Rattle.std.proofs.lemmas.List.Elements.{All-append}
use Rattle.tenant_sources.specs.declared.tables.Addition.{Addition}
use Rattle.tenant_sources.specs.declared.tables.Link.{Link}
use Rattle.tenant_sources.specs.inner.Links.{Adds, IsSquare, next_link}
use Rattle.tenant_sources.specs.cited.Additions.{IsPlaceOf, with_links}
use Rattle.tenant_sources.specs.Links.{Links, link_at, link_in, has_source}
use Rattle.rig_model.specs.Base.{Setting}
use Rattle.rig_model.specs.Tenancies.{roster_of}
use Rattle.rig_model.specs.declared.grants.rows.Bind.{Bind}
use Rattle.rig_model.specs.grants.Grants.{with_place}
use Rattle.rig_model.specs.Row.{Row}
use Rattle.tenant_sources.proofs.FirstLinks.{Placed}
use Rattle.tenant_sources.proofs.LinkTables.{is_at, link_with_link, with_links_many, with_links_square, with_one_more}

abbrev pub New : Type 0
New = ℕ → ℕ → Option Link

or_none : (o : Option Link) → option_or o None ≡ o
or_none None = refl
or_none (Some x) = refl

-- the links of a tenant to the first sources
abbrev pub first_of : New → ℕ → ℕ → ℕ → ℕ → Option Link
first_of new tenant n t u = cond (t == tenant && nat_lt u n) (new t u) None

-- the links of the first tenants
abbrev pub first_ones : New → ℕ → ℕ → ℕ → Option Link
first_ones new n t u = cond (nat_lt t n) (new t u) None

-- the links of one tenant
abbrev pub only_of : New → ℕ → ℕ → ℕ → Option Link
only_of new tenant t u = cond (t == tenant) (new t u) None

nothing : (b : Bool) (o : Option Link) → (b ≡ true → o ≡ None) → cond b o None ≡ None
nothing true o h = h refl
nothing false o h = refl

same_cond : (a b : Bool) (o : Option Link) → a ≡ b → cond a o None ≡ cond b o None
same_cond a b o e = ap (λ c. cond c o None) e

module _ (links : Links) (some more : List Addition) (new : New) where
  pub adds_begin : (tenant : ℕ) → Adds links some some (first_of new tenant 0)
  adds_begin tenant t u lt lu =
      let none : (t == tenant && nat_lt u 0) ≡ false = grind (arith, nat_tests) in
      sym (ap (λ b. option_or (link_in (with_links links some) t u) (cond b (new t u) None)) none ∙ or_none (link_in (with_links links some) t u))

  -- one more source, which no link is added for
  pub adds_none : (tenant source : ℕ) → new tenant source ≡ None → Adds links some more (first_of new tenant source) → Adds links some more (first_of new tenant (source + 1))
  adds_none tenant source none adds t u lt lu = adds t u lt lu ∙ ap (λ (o : Option Link). option_or (link_in (with_links links some) t u) o) (by (t == tenant && u == source) refl)
    where
      by : (b : Bool) → (t == tenant && u == source) ≡ b → first_of new tenant source t u ≡ first_of new tenant (source + 1) t u
      by true e =
          let parts = and_parts (t == tenant) (u == source) e in
          let here : t ≡ tenant = grind (arith, nat_tests) in
          let there : u ≡ source = grind (arith, nat_tests) in
          let is : new t u ≡ None = ap (λ v. new v u) here ∙ (ap (λ v. new tenant v) there ∙ none) in
          nothing (t == tenant && nat_lt u source) (new t u) (λ h. is) ∙ sym (nothing (t == tenant && nat_lt u (source + 1)) (new t u) (λ h. is))
      by false e =
          let same : (t == tenant && nat_lt u source) ≡ (t == tenant && nat_lt u (source + 1)) = grind (arith, nat_tests) in
          same_cond _ _ (new t u) same

  -- one more link
  pub adds_one : IsSquare links → All (IsPlaceOf links) more → (a : Addition) → IsPlaceOf links a → new a.tenant a.source ≡ Some a.link
      → Adds links some more (first_of new a.tenant a.source) → Adds links some (more ++ a ∷ []) (first_of new a.tenant (a.source + 1))
  adds_one square places a place is adds t u lt lu =
      let many = with_links_many links more square places in
      let place_behind : IsPlaceOf (with_links links more) a = (subst (λ n. a.tenant < n) (sym many) place.0, subst (λ n. a.source < n) (sym many) place.1) in
      ap (λ (ls : Links). link_in ls t u) (with_one_more links more a)
      ∙ (link_with_link (with_links links more) a (with_links_square links more square places) place_behind t u
      ∙ (ap (λ (o : Option Link). option_or o (cond (is_at a t u) (Some a.link) None)) (adds t u lt lu) ∙ by (is_at a t u) refl))
    where
      before : Option Link
      before = link_in (with_links links some) t u

      by : (b : Bool) → is_at a t u ≡ b → option_or (option_or before (first_of new a.tenant a.source t u)) (cond b (Some a.link) None) ≡ option_or before (first_of new a.tenant (a.source + 1) t u)
      by true e =
          let parts = and_parts (a.tenant == t) (a.source == u) e in
          let here : t ≡ a.tenant = grind (arith, nat_tests) in
          let there : u ≡ a.source = grind (arith, nat_tests) in
          let not_yet : (t == a.tenant && nat_lt u a.source) ≡ false = grind (arith, nat_tests) in
          let now : (t == a.tenant && nat_lt u (a.source + 1)) ≡ true = grind (arith, nat_tests) in
          let found : new t u ≡ Some a.link = ap (λ v. new v u) here ∙ (ap (λ v. new a.tenant v) there ∙ is) in
          ap (λ c. option_or (option_or before (cond c (new t u) None)) (Some a.link)) not_yet
          ∙ (ap (λ (o : Option Link). option_or o (Some a.link)) (or_none before)
          ∙ (ap (λ (o : Option Link). option_or before o) (sym found) ∙ ap (λ c. option_or before (cond c (new t u) None)) (sym now)))
      by false e =
          let same : (t == a.tenant && nat_lt u a.source) ≡ (t == a.tenant && nat_lt u (a.source + 1)) = grind (arith, nat_tests) in
          or_none (option_or before (first_of new a.tenant a.source t u)) ∙ ap (λ c. option_or before (cond c (new t u) None)) same

  -- all sources
  pub adds_all : (tenant source : ℕ) → length links ≤ source → Adds links some more (first_of new tenant source) → Adds links some more (only_of new tenant)
  adds_all tenant source all adds t u lt lu =
      let same : (t == tenant && nat_lt u source) ≡ (t == tenant) = grind (arith, nat_tests) in
      adds t u lt lu ∙ ap (λ c. option_or (link_in (with_links links some) t u) (cond c (new t u) None)) same

module _ (links : Links) (new : New) where
  pub tenants_begin : Adds links [] [] (first_ones new 0)
  tenants_begin t u lt lu =
      let none : nat_lt t 0 ≡ false = grind (arith, nat_tests) in
      sym (ap (λ b. option_or (link_in links t u) (cond b (new t u) None)) none ∙ or_none (link_in links t u))

  -- one more tenant, which gains no source
  pub tenants_none : (added : List Addition) (tenant : ℕ) → ((u : ℕ) → new tenant u ≡ None) → Adds links [] added (first_ones new tenant) → Adds links [] added (first_ones new (tenant + 1))
  tenants_none added tenant none adds t u lt lu = adds t u lt lu ∙ ap (λ (o : Option Link). option_or (link_in links t u) o) (by (t == tenant) refl)
    where
      by : (b : Bool) → (t == tenant) ≡ b → first_ones new tenant t u ≡ first_ones new (tenant + 1) t u
      by true e =
          let here : t ≡ tenant = grind (arith, nat_tests) in
          let is : new t u ≡ None = ap (λ v. new v u) here ∙ none u in
          nothing (nat_lt t tenant) (new t u) (λ h. is) ∙ sym (nothing (nat_lt t (tenant + 1)) (new t u) (λ h. is))
      by false e =
          let same : nat_lt t tenant ≡ nat_lt t (tenant + 1) = grind (arith, nat_tests) in
          same_cond _ _ (new t u) same

  -- one more tenant
  pub tenants_one : (added more : List Addition) (tenant : ℕ) → Adds links added more (only_of new tenant) → Adds links [] added (first_ones new tenant) → Adds links [] more (first_ones new (tenant + 1))
  tenants_one added more tenant one adds t u lt lu =
      one t u lt lu ∙ (ap (λ (o : Option Link). option_or o (only_of new tenant t u)) (adds t u lt lu) ∙ by (t == tenant) refl)
    where
      before : Option Link
      before = link_in links t u

      by : (b : Bool) → (t == tenant) ≡ b → option_or (option_or before (first_ones new tenant t u)) (cond b (new t u) None) ≡ option_or before (first_ones new (tenant + 1) t u)
      by true e =
          let not_yet : nat_lt t tenant ≡ false = grind (arith, nat_tests) in
          let now : nat_lt t (tenant + 1) ≡ true = grind (arith, nat_tests) in
          ap (λ c. option_or (option_or before (cond c (new t u) None)) (new t u)) not_yet
          ∙ (ap (λ (o : Option Link). option_or o (new t u)) (or_none before) ∙ ap (λ c. option_or before (cond c (new t u) None)) (sym now))
      by false e =
          let same : nat_lt t tenant ≡ nat_lt t (tenant + 1) = grind (arith, nat_tests) in
          or_none (option_or before (first_ones new tenant t u)) ∙ ap (λ c. option_or before (cond c (new t u) None)) same

pub all_with : (links : Links) (added : List Addition) (a : Addition) → All (IsPlaceOf links) added → IsPlaceOf links a → All (IsPlaceOf links) (added ++ a ∷ [])
all_with links added a places place =
    All-append (IsPlaceOf links) added (a ∷ []) places (λ k d l. let e : k ≡ 0 = omega arith in subst (λ n. IsPlaceOf links (get_or (a ∷ []) n d)) (sym e) place)

-- a tenant without binds gains no source
pub none_without_binds : (setting : Setting) (links : Links) (tick : ℕ) (row : Row) (t u : ℕ) → length row.binds ≡ 0 → next_link setting links tick row t u ≡ None
none_without_binds setting links tick row t u e =
    nothing_else (has_source links t u) (ap (λ (bs : List Bind). option_map (link_at tick) (find (λ (b : Placed). has_source links b.1 u) (filter_map (with_place (roster_of setting.config)) bs))) (empty row.binds e))
  where
    empty : (bs : List Bind) → length bs ≡ 0 → bs ≡ []
    empty [] e = refl
    empty (b ∷ bs) e = absurd (omega arith)

    nothing_else : (b : Bool) {o : Option Link} → o ≡ None → cond b None o ≡ None
    nothing_else true e = refl
    nothing_else false e = e
