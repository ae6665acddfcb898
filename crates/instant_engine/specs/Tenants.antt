-- All tenants of a host, by their places in the roster.
use Rattle.std.specs.Prelude.{◌≡◌, ◌<◌, ℕ, List, length, slice_index_or}
use Rattle.std.specs.List.{sum_by, flat_map, enumerate_from}
use Rattle.tenant_state.specs.job_table.Jobs.{JobValue}
use Rattle.tenant_state.specs.Jobs.{released_at}
use Rattle.tenant_state.specs.Standing.{Standing, no_tenant, most_released}

-- the tenant at place t
abbrev pub tenant_at : List Standing → ℕ → Standing
tenant_at tenants t = slice_index_or tenants t no_tenant

-- each tenant knows its place
abbrev pub ArePlaced : List Standing → Type 0
ArePlaced tenants = (t : ℕ) → t < length tenants → (tenant_at tenants t).tenancy.owner.place ≡ t

-- the most jobs that the next instant of all these can release
abbrev pub most_of : List Standing → ℕ
most_of tenants = sum_by (λ (s : Standing). most_released s.row) tenants

-- the jobs that the instant of number n released, tenant by tenant, from this place on
abbrev pub released_from : ℕ → ℕ → List Standing → List JobValue
released_from n from tenants = flat_map (λ (place : ℕ × Standing). released_at place.0 n place.1.row) (enumerate_from from tenants)
