-- The table of links after an instant, and chains in it.
use Rattle.std.proofs.Common.{◌≡◌, ◌<◌, ◌≤◌, ℕ, Bool, true, false, cond, if◌then◌else◌, ◌||◌, ◌==◌, ℤ, List, [], ◌∷◌, length, min, nat_lt, find, Option, Some, None, IfSome, is_some, option_map, refl, sym, ap, subst, ◌∙◌, arith, replicate, get_or, All}
use Rattle.std.specs.Option.{option_or}
use Rattle.std.proofs.lemmas.Bool.{or_parts}
use Rattle.std.proofs.lemmas.Bool.Decides.{nat_tests}
use Rattle.std.proofs.lemmas.List.{get_or-replicate, length-map, length-replicate}
use Rattle.rig_model.specs.declared.events.Event.{Event}
use Rattle.rig_model.specs.declared.events.Event.TheVariants.{Tick}
use Rattle.tenant_sources.specs.declared.tables.Addition.{Addition}
use Rattle.tenant_sources.specs.declared.tables.Link.{Link}
use Rattle.rig_model.specs.Host.{host_after}
use Rattle.host_core.specs.HostStanding.{HostStanding, ForEachState, Stands}
use Rattle.rig_model.specs.HostState.{row_at}
use Rattle.rig_model.specs.Legal.{IsHistory, next_tick}
use Rattle.tenant_sources.specs.inner.Links.{Adds, IsSquare, next_link}
use Rattle.tenant_sources.specs.Links.{IsLinkTable, Links, first_link, is_source_of, link_at, link_in, placed_binds, has_source}
use Rattle.tenant_sources.specs.cited.Additions.{IsPlaceOf, with_links}
use Rattle.rig_model.specs.Base.{Setting}
use Rattle.rig_model.specs.Tenancies.{roster_of}
use Rattle.rig_model.specs.Views.{row_of}
use Rattle.rig_model.specs.declared.config.TenantConfig.{TenantConfig}
use Rattle.rig_model.specs.config.Roster.{Rig}
use Rattle.rig_model.specs.Row.{Row}
use Rattle.host_core.proofs.of_laws.AloneAlong.{same_clock, same_rows}
use Rattle.tenant_sources.proofs.FirstLinks.{Placed, same_found, source_is_linked}
use Rattle.tenant_sources.proofs.LinkTables.{with_links_many}

or_none : (o : Option Link) → option_or o None ≡ o
or_none None = refl
or_none (Some x) = refl

pub is_among : (setting : Setting) (t : ℕ) → t < length setting.config.tenants → nat_lt t (length setting.config.tenants) ≡ true
is_among setting t lt = grind (arith, nat_tests)

-- the host's row and clock before an instant give the first links after it
module _ (setting : Setting) (past : List Event) (links : Links) (table : IsLinkTable setting past links) where
  abbrev pub many : ℕ
  many = length setting.config.tenants

  pub has_is : (t u : ℕ) → t < many → u < many → has_source links t u ≡ is_source_of setting past t u
  has_is t u lt lu = ap (λ (o : Option Link). t == u || is_some o) (table.each t u lt lu) ∙ sym (source_is_linked setting past t u)

  pub next_is : (frame : List ℤ) (t u : ℕ) → t < many → u < many
      → option_or (link_in links t u) (next_link setting links (next_tick setting past) (row_of setting past t) t u) ≡ first_link setting (Tick frame ∷ past) t u
  next_is frame t u lt lu =
      ap (λ (o : Option Link). option_or o (next_link setting links (next_tick setting past) (row_of setting past t) t u)) (table.each t u lt lu)
      ∙ (ap (λ b. option_or first (cond b None (option_map (link_at (next_tick setting past)) theirs))) (has_is t u lt lu)
      ∙ (ap (λ (o : Option Placed). option_or first (cond (is_source_of setting past t u) None (option_map (link_at (next_tick setting past)) o))) found_is
      ∙ by (is_source_of setting past t u) (source_is_linked setting past t u) (option_map (link_at (next_tick setting past)) ours)))
    where
      first : Option Link
      first = first_link setting past t u

      theirs : Option Placed
      theirs = find (λ (b : Placed). has_source links b.1 u) (placed_binds setting (row_of setting past t))

      ours : Option Placed
      ours = find (λ (b : Placed). is_source_of setting past b.1 u) (placed_binds setting (row_of setting past t))

      found_is : theirs ≡ ours
      found_is =
          same_found (roster_of setting.config) (λ v. has_source links v u) (λ v. is_source_of setting past v u)
          (λ v lv. has_is v u (omega (arith, lv, length-map setting.config.tenants (λ (tenant : TenantConfig). tenant.name))) lu) (row_of setting past t).binds

      nothing : (o x : Option Link) → is_some o ≡ false → option_or o x ≡ x
      nothing None x e = refl
      nothing (Some y) x e = absurd (cc)

      by : (b : Bool) → b ≡ (t == u || is_some first) → (x : Option Link) → option_or first (cond b None x) ≡ cond b first x
      by true e x = or_none first
      by false e x = nothing first x (or_parts (t == u) (is_some first) (sym e)).1

  -- the table after the instant
  pub table_behind : (frame : List ℤ) (host : HostStanding) (added : List Addition) (square : IsSquare links) (places : All (IsPlaceOf links) added)
      → IsHistory setting past → Stands setting host (host_after setting past) → (n : ℕ) → min (length links) (length host.config.tenants) ≤ n
      → ForEachState host (λ setting state. Adds links [] added (λ t u. if nat_lt t n then next_link setting links state.clock (row_at state t) t u else None))
      → IsLinkTable setting (Tick frame ∷ past) (with_links links added)
  table_behind frame host added square places history stands n enough adds = record {
    as_many = with_links_many links added square places ∙ table.as_many;
    each = λ t u lt lu.
        adds setting (host_after setting past) stands t u (subst (λ n. t < n) (sym table.as_many) lt) (subst (λ n. u < n) (sym table.as_many) lu)
        ∙ (ap (λ b. option_or (link_in links t u) (cond b (next_link setting links (host_after setting past).clock (row_at (host_after setting past) t) t u) None)) (within t lt)
        ∙ (ap (λ n. option_or (link_in links t u) (next_link setting links n (row_at (host_after setting past) t) t u)) (same_clock setting past)
        ∙ (ap (λ (r : Row). option_or (link_in links t u) (next_link setting links (next_tick setting past) r t u)) (same_rows setting history.base past t history.legal (is_among setting t lt))
        ∙ next_is frame t u lt lu)));
  }
    where
      within : (t : ℕ) → t < many → nat_lt t n ≡ true
      within t lt =
          let theirs : length host.config.tenants ≡ many = ap (λ (c : Rig). length c.tenants) stands.same_config in
          let ours = table.as_many in
          let less : t < n = omega (arith, theirs, ours, lt, enough) in
          grind (arith, nat_tests)

-- before any event there is no link
pub begins : (setting : Setting) (n : ℕ) → length setting.config.tenants ≡ n → (links : Links) → links ≡ replicate n (replicate n None) → IsLinkTable setting [] links
begins setting n as_many links e = record {
  as_many = ap (λ (ls : Links). length ls) e ∙ (length-replicate n (replicate n None) ∙ sym as_many);
  each = λ t u lt lu. ap (λ (ls : Links). link_in ls t u) e ∙ (ap (λ (xs : List (Option Link)). get_or xs u None) (get_or-replicate n t (replicate n None) [] (omega (arith, lt, as_many))) ∙ get_or-replicate n u None None (omega (arith, lu, as_many)));
}

pub square_begins : (n : ℕ) (links : Links) → links ≡ replicate n (replicate n None) → IsSquare links
square_begins n links e = record {
  each = λ t lt.
      let many : length links ≡ n = ap (λ (ls : Links). length ls) e ∙ length-replicate n (replicate n None) in
      ap (λ (ls : Links). length (get_or ls t [])) e
      ∙ (ap (λ (xs : List (Option Link)). length xs) (get_or-replicate n t (replicate n None) [] (omega (arith, lt, many))) ∙ (length-replicate n None ∙ sym many));
}

pub is_within : (setting : Setting) (t : ℕ) → nat_lt t (length setting.config.tenants) ≡ true → t < length setting.config.tenants
is_within setting t e = grind (arith, nat_tests)

-- there is a link if the code has one
pub linked_is : {X : Type 0} (o : Option X) (now : X → Link) (link : Option Link) → IfSome o (λ x. link ≡ Some (now x)) → (o ≡ None → link ≡ None) → is_some o ≡ is_some link
linked_is None now link some none = sym (ap (λ (l : Option Link). is_some l) (none refl))
linked_is (Some x) now link some none = sym (ap (λ (l : Option Link). is_some l) some)
