-- Marks of tenants whose change can reach one tenant, from its own mark on.
use Rattle.std.proofs.Common.{◌≡◌, ◌≢◌, ◌<◌, ◌≤◌, ℕ, zero, suc, ◌+◌, ◌⊎◌, ⊎_elim, inl, inr, Bool, true, false, not, cond, ◌||◌, nat_lt, eqb, List, [], ◌∷◌, ◌++◌, length, map, filter, get_or, set, replicate, Option, Some, None, refl, sym, ap, ◌∙◌, subst, length-set, Vec, arith}
use Rattle.std.specs.Option.{option_map_or}
use Rattle.std.specs.Prelude.{slice_get, ◌↔◌}
use Rattle.std.proofs.lemmas.Bool.{cases_eq, cases_lt, false≢true}
use Rattle.std.specs.declared.alloc.Global.{Global}
use Rattle.std.proofs.lemmas.Bool.Decides.{nat_tests}
use Rattle.std.proofs.lemmas.List.{get_or-append-add, get_or-set_same, get_or-set_other, get_or_append_left, length-map, map-append}
use Rattle.std.proofs.lemmas.Option.{slice_get_past}
use Rattle.giotto_tasks.proofs.cited.ListLemmas.{filter_set}
use Rattle.giotto_tasks.proofs.cited.TestLemmas.{either}
use Rattle.plant_couplings.specs.Couplings.{can_change}
use Rattle.plant_couplings.specs.declared.couplings.Plant.{Plant}
use Rattle.plant_laws.specs.Closed.{IsClosed, Reaches, is_direct, is_driven_by}
use Rattle.rig_model.specs.Base.{Setting}
use Rattle.rig_model.specs.config.Roster.{Rig, is_tenant}
use Rattle.rig_model.specs.declared.config.TenantConfig.{TenantConfig}
use Rattle.rig_model.specs.declared.events.Event.{Event}
use Rattle.rig_retests.specs.Reached.{AreReaching, is_marked}
use Rattle.tenant_sources.specs.Links.{is_source_of}

-- a mark is within the marks
pub marked_within : (marks : List Bool) (u : ℕ) → is_marked marks u ≡ true → u < length marks
marked_within [] u is = absurd (false≢true is)
marked_within (m ∷ marks) zero is = omega arith
marked_within (m ∷ marks) (suc u) is = let rest = marked_within marks u is in omega (arith, rest)

-- no marks at all
unmarked : (n u : ℕ) → is_marked (replicate n false) u ≡ false
unmarked zero u = refl
unmarked (suc n) zero = refl
unmarked (suc n) (suc u) = unmarked n u

-- a value within a list, whatever the default
get_within : (marks : List Bool) (u : ℕ) (a b : Bool) → u < length marks → get_or marks u a ≡ get_or marks u b
get_within [] u a b lt = absurd (omega (arith, lt))
get_within (m ∷ marks) zero a b lt = refl
get_within (m ∷ marks) (suc u) a b lt = get_within marks u a b (omega (arith, lt))

-- one more mark leaves fewer without
pub fewer_unmarked : (marks after : List Bool) (u : ℕ) → u < length marks → is_marked marks u ≡ false → after ≡ set marks u true → length (filter not after) < length (filter not marks)
fewer_unmarked marks after u lt none grown =
    let here : not (get_or marks u true) ≡ true = ap not (get_within marks u true false lt ∙ none) in
    let less = filter_set not marks u true lt here refl in
    let same = ap (λ (ms : List Bool). length (filter not ms)) grown in
    omega (arith, less, same)

-- a tenant that drives another one is in the roster
driven_within : (config : Rig) (plant : Plant) (t u : ℕ) → is_driven_by config plant t u ≡ true → is_tenant config u ≡ true
driven_within config plant t u driven = by (nat_lt u (length config.tenants)) refl
  where
    looked : Option TenantConfig → Bool
    looked o = option_map_or (λ (driver : TenantConfig). option_map_or (can_change plant driver) (slice_get config.tenants t) false) o false

    by : (b : Bool) → nat_lt u (length config.tenants) ≡ b → nat_lt u (length config.tenants) ≡ true
    by true e = e
    by false e =
        let none : slice_get config.tenants u ≡ None = slice_get_past config.tenants u (grind (arith, nat_tests, e)) in
        absurd (false≢true (sym (ap looked none) ∙ driven))

module _ (setting : Setting) (plant : Plant) (past : List Event) (t : ℕ) where
  -- the tenant at place t has a mark, and each tenant with a mark can reach it
  abbrev pub AreSome : List Bool → Type 0
  AreSome marks = (is_marked marks t ≡ true) × ((u : ℕ) → is_marked marks u ≡ true → Reaches setting plant past t u)

  pub marks_begin : (n : ℕ) (marks : List Bool) → t < n → length (replicate n false) ≡ n → marks ≡ set (replicate n false) t true → AreSome marks
  marks_begin n marks lt long is = subst AreSome (sym is) (own, each)
    where
      own : is_marked (set (replicate n false) t true) t ≡ true
      own = get_or-set_same (replicate n false) t true false (subst (λ m. t < m) (sym long) lt)

      each : (u : ℕ) → is_marked (set (replicate n false) t true) u ≡ true → Reaches setting plant past t u
      each u marked = by (cases_eq u t)
        where
          by : (u ≡ t) ⊎ (u ≢ t) → Reaches setting plant past t u
          by (inl same) = λ members closed is. ap members same ∙ is
          by (inr other) = absurd (false≢true (sym (get_or-set_other (replicate n false) t u true false other ∙ unmarked n u) ∙ marked))

  pub marks_grow : (marks after : List Bool) (source : ℕ) → AreSome marks → source < length marks
      → ((v : ℕ) × (is_marked marks v ≡ true) × (is_direct setting plant past v source ≡ true)) → after ≡ set marks source true → AreSome after
  marks_grow marks after source before lt reaches grown = subst AreSome (sym grown) (stays t before.0, each)
    where
      stays : (u : ℕ) → is_marked marks u ≡ true → is_marked (set marks source true) u ≡ true
      stays u marked = by (cases_eq u source)
        where
          by : (u ≡ source) ⊎ (u ≢ source) → is_marked (set marks source true) u ≡ true
          by (inl same) = ap (is_marked (set marks source true)) same ∙ get_or-set_same marks source true false lt
          by (inr other) = get_or-set_other marks source u true false other ∙ marked

      each : (u : ℕ) → is_marked (set marks source true) u ≡ true → Reaches setting plant past t u
      each u marked = by (cases_eq u source)
        where
          by : (u ≡ source) ⊎ (u ≢ source) → Reaches setting plant past t u
          by (inl same) = λ members closed is. ap members same ∙ closed reaches.0 source (before.1 reaches.0 reaches.1 members closed is) reaches.2
          by (inr other) = before.1 u (sym (get_or-set_other marks source u true false other) ∙ marked)

  -- at the end no change reaches a marked tenant from outside, so exactly those who can reach it are marked
  pub marks_end : ((past : List Event) (t u : ℕ) → is_tenant setting.config t ≡ true → is_source_of setting past t u ≡ true → is_tenant setting.config u ≡ true)
      → (marks : List Bool) → length marks ≡ length setting.config.tenants → AreSome marks
      → ((v source : ℕ) → source < length marks → is_marked marks v ≡ true → is_direct setting plant past v source ≡ true → is_marked marks source ≡ true)
      → AreReaching plant t marks setting past
  marks_end in_roster marks long some none u = (some.1 u, λ reaches. reaches (is_marked marks) closed some.0)
    where
      closed : IsClosed setting plant past (is_marked marks)
      closed v source marked direct =
          let at = marked_within marks v marked in
          let tenant : is_tenant setting.config v ≡ true = let lt : v < length setting.config.tenants = omega (arith, at, long) in grind (arith, nat_tests) in
          let found : is_tenant setting.config source ≡ true =
          either (is_source_of setting past v source) (is_driven_by setting.config plant v source) (is_tenant setting.config source ≡ true) direct (in_roster past v source tenant)
          (driven_within setting.config plant v source) in
          let lt : source < length marks = grind (arith, nat_tests, found, long) in
          none v source lt marked direct

-- what holds of each row so far holds with one more
pub rows_grow : (P : List Bool → ℕ → Type 0) (rows after : List (Vec Bool Global)) (row : Vec Bool Global) (n : ℕ) → after ≡ rows ++ row ∷ [] → length rows ≡ n
    → ((t : ℕ) → t < n → P (get_or (map (λ (r : Vec Bool Global). r.items) rows) t []) t) → P row.items n → (t : ℕ) → t < n + 1 → P (get_or (map (λ (r : Vec Bool Global). r.items) after) t []) t
rows_grow P rows after row n grown long each one t lt = by (cases_lt t n)
  where
    marks : List (Vec Bool Global) → List (List Bool)
    marks rs = map (λ (r : Vec Bool Global). r.items) rs

    many : length (marks rows) ≡ n
    many = length-map rows (λ (r : Vec Bool Global). r.items) ∙ long

    all : marks after ≡ marks rows ++ row.items ∷ []
    all = ap marks grown ∙ map-append (λ (r : Vec Bool Global). r.items) rows (row ∷ [])

    by : (t < n) ⊎ (n ≤ t) → P (get_or (marks after) t []) t
    by (inl less) =
        let here : t < length (marks rows) = omega (arith, less, many) in
        subst (λ (ms : List Bool). P ms t) (sym (ap (λ (rs : List (List Bool)). get_or rs t []) all ∙ get_or_append_left (marks rows) (row.items ∷ []) [] t here)) (each t less)
    by (inr more) =
        let same : t ≡ n = omega (arith, lt, more) in
        let last : length (marks rows) + 0 ≡ n = omega (arith, many) in
        let found : get_or (marks after) n [] ≡ row.items =
        ap (λ (rs : List (List Bool)). get_or rs n []) all
        ∙ (ap (λ k. get_or (marks rows ++ row.items ∷ []) k []) (sym last) ∙ get_or-append-add (marks rows) (row.items ∷ []) 0 []) in
        subst (λ k. P (get_or (marks after) k []) k) (sym same) (subst (λ (ms : List Bool). P ms n) (sym found) one)
