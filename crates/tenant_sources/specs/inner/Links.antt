-- The table of links, moved forward by one tick.
use Rattle.std.specs.Prelude.{◌≡◌, ◌<◌, ℕ, if◌then◌else◌, List, [], length, Option, None, option_map, slice_index_or}
use Rattle.std.specs.List.{find}
use Rattle.std.specs.Option.{option_or}
use Rattle.giotto_tasks.specs.declared.names.Name.{Name}
use Rattle.tenant_sources.specs.declared.tables.Addition.{Addition}
use Rattle.tenant_sources.specs.declared.tables.Link.{Link}
use Rattle.tenant_sources.specs.Links.{Links, link_at, link_in, placed_binds, has_source}
use Rattle.tenant_sources.specs.cited.Additions.{with_links}
use Rattle.rig_model.specs.Base.{Setting}
use Rattle.rig_model.specs.Row.{Row}

-- each row has as many places as there are rows
pub record IsSquare (links : Links) : Type 0 where
  pub each : (t : ℕ) → t < length links → length (slice_index_or links t []) ≡ length links

module _ (setting : Setting) where
  -- the link that a tick of this number adds from t to u, given t's row just before it
  abbrev pub next_link : Links → ℕ → Row → ℕ → ℕ → Option Link
  next_link links tick row t u =
      if has_source links t u then None else option_map (link_at tick) (find (λ (b : Name × ℕ × Name). has_source links b.1 u) (placed_binds setting row))

-- With the additions `more`, the table has what it has with the additions `some`, and also the links of `new` in places without a link.
abbrev pub Adds : Links → List Addition → List Addition → (ℕ → ℕ → Option Link) → Type 0
Adds links some more new = (t u : ℕ) → t < length links → u < length links → link_in (with_links links more) t u ≡ option_or (link_in (with_links links some) t u) (new t u)
