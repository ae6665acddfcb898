use Rattle.std.proofs.Common.{map, refl, arith}
use Rattle.tenant_slots.specs.well_formed.Slots.{valuation_of}
use Rattle.tenant_state.specs.Tenants.{active_of}
use Rattle.tenant_state.proofs.EnteredModes.{entered_within, enters, none_taken}
use Rattle.tenant_state.proofs.tenants.switches.switch.Goals as goal

pub returns-then-at-clause-switched : goal.returns-then-at-clause-switched
returns-then-at-clause-switched c m at =
    let quiet = c.requires.quiet m at c.args.at.now.time (omega arith) c.if-at.true in
    (none_taken m c.args.at.now.time (valuation_of c.args.at.now.checked.now c.args.values.now) m.switches quiet.no_switch, refl)

pub mode_name-requires : goal.mode_name-requires
mode_name-requires c =
    entered_within c.args.at.now.checked.now c.args.at.now.mode c.args.at.now.time _ c.in_ok-target.target c.in_ok-target.ensures.target (λ past. (c.in_ok-target.ensures.missing past).0)

pub entry_time-requires-clause-target : goal.entry_time-requires-clause-target
entry_time-requires-clause-target c =
    entered_within c.args.at.now.checked.now c.args.at.now.mode c.args.at.now.time _ c.in_ok-target.target c.in_ok-target.ensures.target (λ past. (c.in_ok-target.ensures.missing past).0)

pub returns-clause-switched : goal.returns-clause-switched
returns-clause-switched c m at =
    let p = c.args.at.now.checked.now in
    enters p m c.args.at.now.time (map (active_of p) c.args.active.now) (valuation_of p c.args.values.now) c.in_ok-target.target c.entry_time.result c.take_switch.new.values
    (c.in_ok-target.ensures.target m at) (c.take_switch.ensures.ports m at) (λ t there. c.entry_time.ensures m t at there)
