-- How each event changes the host.
use Rattle.std.specs.Prelude.{ℕ, ◌+◌, if◌then◌else◌, ℤ, List, [], ◌∷◌, map, filter, slice_set}
use Rattle.std.specs.List.{enumerate_from}
use Rattle.rig_model.specs.declared.events.Event.{Event}
use Rattle.rig_model.specs.declared.events.Event.TheVariants.{Own, Tick, Done}
use Rattle.rig_model.specs.HostState.{HostState, row_at, is_counted, is_awaited}
use Rattle.rig_model.specs.Jobs.{is_active}
use Rattle.rig_model.specs.Row.{Row}
use Rattle.rig_model.specs.Base.{Setting}
use Rattle.rig_model.specs.Views.{after_command, instant_for}
use Rattle.rig_model.specs.Instants.{LocalInstant, after_instant}

-- the host with these rows, and with those counted jobs that are still active
abbrev pub with_rows : HostState → List Row → HostState
with_rows host rows =
    let next : HostState = record host { rows = rows } in
    record next { counted = filter (λ j. is_active (row_at next j.tenant) j) host.counted }

module _ (setting : Setting) where
  -- what the instant is for a tenant, by the host's rows and counted jobs
  abbrev pub instant_of : HostState → List ℤ → ℕ → LocalInstant
  instant_of host frame t = instant_for setting (row_at host) (is_counted host) frame t

  -- A command changes only its tenant's row, and an instant changes all rows. An awaited completion changes only the counted jobs, and any
  -- other completion changes nothing.
  abbrev pub after_event : HostState → Event → HostState
  after_event host (Own t c) = with_rows host (slice_set host.rows t (after_command setting t c (row_at host t)).row)
  after_event host (Tick frame) =
      with_rows (record host { clock = host.clock + 1 }) (map (λ (place : ℕ × Row). after_instant (instant_of host frame place.0) place.1) (enumerate_from 0 host.rows))
  after_event host (Done j) = if is_awaited host j then record host { counted = j ∷ host.counted } else host

  -- the host after these events, the newest first
  abbrev pub host_after : List Event → HostState
  host_after [] = setting.base
  host_after (e ∷ past) = after_event (host_after past) e
