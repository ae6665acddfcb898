-- Links added to a table.
use Rattle.std.proofs.Common.{◌≡◌, ◌⊎◌, ◌<◌, ◌≤◌, ℕ, suc, Bool, true, false, cond, ◌&&◌, ◌==◌, List, [], ◌∷◌, ◌++◌, length, map, set, get_or, All, Vec, Option, Some, None, is_some, inl, inr, refl, sym, ap, subst, ◌∙◌, arith}
use Rattle.std.specs.Option.{option_or}
use Rattle.std.specs.Vec.{with_item}
use Rattle.std.specs.declared.alloc.Global.{Global}
use Rattle.std.proofs.lemmas.Bool.{cases_eq, cases_lt}
use Rattle.std.proofs.lemmas.Bool.Decides.{nat_tests}
use Rattle.std.proofs.lemmas.List.{get_or-map, get_or-set_same, get_or-set_other, length-map, length-set, map-set, set-get_or}
use Rattle.std.proofs.Math.Seq.{set_out}
use Rattle.tenant_sources.specs.declared.tables.Addition.{Addition}
use Rattle.tenant_sources.specs.declared.tables.Link.{Link}
use Rattle.tenant_sources.specs.inner.Links.{IsSquare}
use Rattle.tenant_sources.specs.cited.Additions.{IsPlaceOf, with_link, with_links}
use Rattle.tenant_sources.specs.Links.{Links, link_in}

abbrev pub row_in : Links → ℕ → List (Option Link)
row_in links t = get_or links t []

-- the addition is from t to u
abbrev pub is_at : Addition → ℕ → ℕ → Bool
is_at a t u = a.tenant == t && a.source == u

abbrev pub put_in : Links → Addition → Links
put_in links a = set links a.tenant (set (row_in links a.tenant) a.source (Some a.link))

module _ (links : Links) (a : Addition) (square : IsSquare links) (place : IsPlaceOf links a) where
  as_many : length (put_in links a) ≡ length links
  as_many = length-set links a.tenant (set (row_in links a.tenant) a.source (Some a.link))

  pub put_square : IsSquare (put_in links a)
  put_square = record { each = λ t lt. by t (subst (λ n. t < n) as_many lt) (cases_eq t a.tenant) ∙ sym as_many }
    where
      by : (t : ℕ) → t < length links → (t ≡ a.tenant) ⊎ (t ≡ a.tenant → ⊥) → length (get_or (put_in links a) t []) ≡ length links
      by t lt (inl e) =
          ap (λ n. length (get_or (put_in links a) n [])) e
          ∙ (ap (λ (xs : List (Option Link)). length xs) (get_or-set_same links a.tenant (set (row_in links a.tenant) a.source (Some a.link)) [] place.0)
          ∙ (length-set (row_in links a.tenant) a.source (Some a.link) ∙ square.each a.tenant place.0))
      by t lt (inr other) = ap (λ (xs : List (Option Link)). length xs) (get_or-set_other links a.tenant t (set (row_in links a.tenant) a.source (Some a.link)) [] other) ∙ square.each t lt

  put_here : link_in (put_in links a) a.tenant a.source ≡ Some a.link
  put_here =
      ap (λ (xs : List (Option Link)). get_or xs a.source None) (get_or-set_same links a.tenant (set (row_in links a.tenant) a.source (Some a.link)) [] place.0)
      ∙ get_or-set_same (row_in links a.tenant) a.source (Some a.link) None (subst (λ n. a.source < n) (sym (square.each a.tenant place.0)) place.1)

  put_elsewhere : (t u : ℕ) → is_at a t u ≡ false → link_in (put_in links a) t u ≡ link_in links t u
  put_elsewhere t u e = by (cases_eq t a.tenant)
    where
      by : (t ≡ a.tenant) ⊎ (t ≡ a.tenant → ⊥) → link_in (put_in links a) t u ≡ link_in links t u
      by (inr other) = ap (λ (xs : List (Option Link)). get_or xs u None) (get_or-set_other links a.tenant t (set (row_in links a.tenant) a.source (Some a.link)) [] other)
      by (inl same) =
          let differs : u ≡ a.source → ⊥ = λ s. let here : is_at a t u ≡ true = grind (arith, nat_tests) in absurd (cc) in
          ap (λ n. link_in (put_in links a) n u) same
          ∙ (ap (λ (xs : List (Option Link)). get_or xs u None) (get_or-set_same links a.tenant (set (row_in links a.tenant) a.source (Some a.link)) [] place.0)
          ∙ (get_or-set_other (row_in links a.tenant) a.source u (Some a.link) None differs ∙ ap (λ n. link_in links n u) (sym same)))

  if_at : Bool → Option Link
  if_at b = cond b (Some a.link) None

  if_square : (b : Bool) → IsSquare (cond b links (put_in links a))
  if_square true = square
  if_square false = put_square

  if_many : (b : Bool) → length (cond b links (put_in links a)) ≡ length links
  if_many true = refl
  if_many false = as_many

  -- one more link: in its place if there was none, and nowhere else
  put_if : (b : Bool) → is_some (link_in links a.tenant a.source) ≡ b → (t u : ℕ) → link_in (cond b links (put_in links a)) t u ≡ option_or (link_in links t u) (cond (is_at a t u) (Some a.link) None)
  put_if b e t u = at (is_at a t u) refl b e
    where
      none : (o : Option Link) → option_or o None ≡ o
      none None = refl
      none (Some x) = refl

      here : is_at a t u ≡ true → (a.tenant ≡ t) × (a.source ≡ u)
      here is = (grind (arith, nat_tests), grind (arith, nat_tests))

      stands : (o : Option Link) → is_some o ≡ true → o ≡ option_or o (Some a.link)
      stands None h = absurd (cc)
      stands (Some x) h = refl

      free : (o : Option Link) → is_some o ≡ false → Some a.link ≡ option_or o (Some a.link)
      free None h = refl
      free (Some x) h = absurd (cc)

      at : (c : Bool) → is_at a t u ≡ c → (b : Bool) → is_some (link_in links a.tenant a.source) ≡ b → link_in (cond b links (put_in links a)) t u ≡ option_or (link_in links t u) (cond c (Some a.link) None)
      at false is true e = sym (none (link_in links t u))
      at false is false e = put_elsewhere t u is ∙ sym (none (link_in links t u))
      at true is true e =
          stands (link_in links t u) (ap (λ n. is_some (link_in links n u)) (sym (here is).0) ∙ (ap (λ n. is_some (link_in links a.tenant n)) (sym (here is).1) ∙ e))
      at true is false e =
          ap (λ n. link_in (put_in links a) n u) (sym (here is).0)
          ∙ (ap (λ n. link_in (put_in links a) a.tenant n) (sym (here is).1)
          ∙ (put_here ∙ free (link_in links t u) (ap (λ n. is_some (link_in links n u)) (sym (here is).0) ∙ (ap (λ n. is_some (link_in links a.tenant n)) (sym (here is).1) ∙ e))))

  pub with_link_square : IsSquare (with_link links a)
  with_link_square = if_square (is_some (link_in links a.tenant a.source))

  pub with_link_many : length (with_link links a) ≡ length links
  with_link_many = if_many (is_some (link_in links a.tenant a.source))

  pub link_with_link : (t u : ℕ) → link_in (with_link links a) t u ≡ option_or (link_in links t u) (cond (is_at a t u) (Some a.link) None)
  link_with_link t u = put_if (is_some (link_in links a.tenant a.source)) refl t u

-- nothing changes where there is no such place
pub no_place : (links : Links) (a : Addition) → IsSquare links → (IsPlaceOf links a → ⊥) → with_link links a ≡ links
no_place links a square other = by (is_some (link_in links a.tenant a.source))
  where
    row_stays : a.tenant < length links → set (row_in links a.tenant) a.source (Some a.link) ≡ row_in links a.tenant
    row_stays within =
        let many = square.each a.tenant within in
        let beyond : (a.source < length links) → ⊥ = λ lt. other (within, lt) in
        set_out (row_in links a.tenant) a.source (Some a.link) (omega (arith, many, beyond))

    stays : (a.tenant < length links) ⊎ (length links ≤ a.tenant) → put_in links a ≡ links
    stays (inl within) = ap (λ (xs : List (Option Link)). set links a.tenant xs) (row_stays within) ∙ set-get_or links a.tenant []
    stays (inr beyond) = set_out links a.tenant (set (row_in links a.tenant) a.source (Some a.link)) beyond

    by : (b : Bool) → cond b links (put_in links a) ≡ links
    by true = refl
    by false = stays (cases_lt a.tenant (length links))

-- several more links
place_behind : (links : Links) (a b : Addition) → IsSquare links → IsPlaceOf links a → IsPlaceOf links b → IsPlaceOf (with_link links a) b
place_behind links a b square place other =
    let many = with_link_many links a square place in
    (subst (λ n. b.tenant < n) (sym many) other.0, subst (λ n. b.source < n) (sym many) other.1)

pub all_behind : (links : Links) (a : Addition) (rest : List Addition) → IsSquare links → All (IsPlaceOf links) (a ∷ rest) → All (IsPlaceOf (with_link links a)) rest
all_behind links a rest square places = λ k d l. place_behind links a (get_or rest k d) square (places 0 d (omega arith)) (places (suc k) d (omega arith))

pub with_links_square : (links : Links) (added : List Addition) → IsSquare links → All (IsPlaceOf links) added → IsSquare (with_links links added)
with_links_square links [] square places = square
with_links_square links (a ∷ rest) square places =
    let here : IsPlaceOf links a = places 0 a (omega arith) in
    with_links_square (with_link links a) rest (with_link_square links a square here) (all_behind links a rest square places)

pub with_links_many : (links : Links) (added : List Addition) → IsSquare links → All (IsPlaceOf links) added → length (with_links links added) ≡ length links
with_links_many links [] square places = refl
with_links_many links (a ∷ rest) square places =
    let here : IsPlaceOf links a = places 0 a (omega arith) in
    with_links_many (with_link links a) rest (with_link_square links a square here) (all_behind links a rest square places) ∙ with_link_many links a square here

pub with_one_more : (links : Links) (added : List Addition) (a : Addition) → with_links links (added ++ a ∷ []) ≡ with_link (with_links links added) a
with_one_more links [] a = refl
with_one_more links (b ∷ rest) a = with_one_more (with_link links b) rest a

-- the rows of the code
abbrev pub CodeRow : Type 0
CodeRow = Vec (Option Link) Global

abbrev pub row_items : CodeRow → List (Option Link)
row_items row = row.items

pub is_none : {X : Type 0} (o : Option X) → is_some o ≡ false → o ≡ None
is_none None e = refl
is_none (Some x) e = absurd (cc)

pub put_view : (rows : List CodeRow) (links : Links) (a : Addition) (row : CodeRow) (link : Link) → map (λ (r : CodeRow). r.items) rows ≡ links → a.tenant < length links
    → row ≡ get_or rows a.tenant row → link ≡ a.link → map (λ (r : CodeRow). r.items) (set rows a.tenant (with_item row a.source (Some link))) ≡ put_in links a
put_view rows links a row link e lt is same =
    map-set row_items rows a.tenant (with_item row a.source (Some link))
    ∙ (ap (λ (ls : Links). set ls a.tenant (set row.items a.source (Some link))) e
    ∙ (ap (λ (xs : List (Option Link)). set links a.tenant (set xs a.source (Some link))) row_is
    ∙ ap (λ (l : Link). set links a.tenant (set (row_in links a.tenant) a.source (Some l))) same))
  where
    many : length rows ≡ length links
    many = sym (length-map rows row_items) ∙ ap (λ (ls : Links). length ls) e

    row_is : row.items ≡ get_or links a.tenant []
    row_is = ap row_items is ∙ (sym (get_or-map row_items rows a.tenant row [] (omega (arith, lt, many))) ∙ ap (λ (ls : Links). get_or ls a.tenant []) e)

pub put_is : (links : Links) (a : Addition) → link_in links a.tenant a.source ≡ None → put_in links a ≡ with_link links a
put_is links a none = ap (λ (o : Option Link). cond (is_some o) links (put_in links a)) (sym none)

pub code_many : (rows : List CodeRow) (links : Links) → map (λ (r : CodeRow). r.items) rows ≡ links → length rows ≡ length links
code_many rows links e = sym (length-map rows row_items) ∙ ap (λ (ls : Links). length ls) e
