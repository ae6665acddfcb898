use Rattle.std.proofs.Common.{◌<◌, List, length, IsTrue, refl, sym, ap, subst, ◌∙◌}
use Rattle.std.specs.List.{AllByRecursion}
use Rattle.std.specs.Option.{option_and_then, option_map_or}
use Rattle.rig_model.specs.text.Program.{ModeSwitch}
use Rattle.rig_model.specs.rules.Names.{all_different_numbers}
use Rattle.giotto_check.specs.Slots.{valuation_of}
use Rattle.giotto_check.specs.cited.Slots.{with_slots}
use Rattle.giotto_check.specs.cited.Timetables.{IsExit, place_of_mode}
use Rattle.giotto_check.specs.declared.timetables.SlotDestination.{SlotDestination}
use Rattle.tenant_slots.specs.inner.Switches.{slots_given, values_given}
use Rattle.rig_model.specs.Switches.{switch_taken, with_destinations}
use Rattle.tenant_slots.proofs.cited.Quiet.{exits_positive}
use Rattle.tenant_slots.proofs.TakenSwitches.{given, given_once, given_within, none_there, some_that, taken_there}
use Rattle.tenant_slots.proofs.switches.take_switch.Goals as goal

pub first_open-requires : goal.first_open-requires
first_open-requires c = exits_positive c.args.checked.now c.known.ensures.fits c.args.mode _ c.exits.ensures.there c.exits.ensures.none

-- no switch is taken

pub returns-in_err-exit-clause-target : goal.returns-in_err-exit-clause-target
returns-in_err-exit-clause-target c = λ m at.
    let p = c.args.checked.now in
    let none = c.in_err-exit.ensures p m (c.exits.ensures.there m at) c.requires in
    c.from_residual.ensures ∙ sym (ap (option_and_then (λ (s : ModeSwitch). place_of_mode p s.target)) none)

pub returns-in_err-exit-clause-none : goal.returns-in_err-exit-clause-none
returns-in_err-exit-clause-none c = λ m at same. c.in_err-exit.ensures c.args.checked.now m (c.exits.ensures.there m at) c.requires

pub returns-in_err-exit-clause-ports : goal.returns-in_err-exit-clause-ports
returns-in_err-exit-clause-ports c = λ m at.
    let p = c.args.checked.now in
    let ports = valuation_of p c.args.values.now in
    let none = c.in_err-exit.ensures p m (c.exits.ensures.there m at) c.requires in
    sym (ap (λ o. option_map_or (λ (s : ModeSwitch). with_destinations s ports) o ports) none)

pub returns-in_err-exit-clause-missing : goal.returns-in_err-exit-clause-missing
returns-in_err-exit-clause-missing c = λ past. (c.from_residual.ensures, refl)

-- a switch is taken

pub give-requires-clause-there : goal.give-requires-clause-there
give-requires-clause-there c =
    let p = c.args.checked.now in
    let e = c.in_ok-exit.exit.now in
    let values = c.args.values.now in
    let taken = taken_there p c.known.ensures.fits c.args.mode c.args.time values c.exits.result.now e c.requires c.exits.ensures.there c.exits.ensures.none c.in_ok-exit.ensures in
    subst (λ (ds : List SlotDestination). AllByRecursion (λ k. k < length values) (slots_given ds)) (sym c.as_slice.ensures.value)
    (given_within p c.known.ensures.fits taken.0 taken.1 e taken.2 (length values) c.requires)

pub give-requires-clause-once : goal.give-requires-clause-once
give-requires-clause-once c =
    let p = c.args.checked.now in
    let e = c.in_ok-exit.exit.now in
    let values = c.args.values.now in
    let taken = taken_there p c.known.ensures.fits c.args.mode c.args.time values c.exits.result.now e c.requires c.exits.ensures.there c.exits.ensures.none c.in_ok-exit.ensures in
    subst (λ (ds : List SlotDestination). IsTrue (all_different_numbers (slots_given ds))) (sym c.as_slice.ensures.value)
    (given_once p c.known.ensures.fits taken.0 taken.1 e taken.2 taken.3)

pub returns-clause-target : goal.returns-clause-target
returns-clause-target c = λ m at.
    let p = c.args.checked.now in
    let e = c.in_ok-exit.exit.now in
    let taken = some_that (λ (s : ModeSwitch). IsExit p m s e) (switch_taken m c.args.time (valuation_of p c.args.values.now)) (c.in_ok-exit.ensures p m (c.exits.ensures.there m at) c.requires) in
    sym (ap (option_and_then (λ (s : ModeSwitch). place_of_mode p s.target)) taken.1 ∙ taken.2.target)

pub returns-clause-ports : goal.returns-clause-ports
returns-clause-ports c = λ m at.
    let p = c.args.checked.now in
    let e = c.in_ok-exit.exit.now in
    let values = c.args.values.now in
    let ports = valuation_of p values in
    let taken = some_that (λ (s : ModeSwitch). IsExit p m s e) (switch_taken m c.args.time ports) (c.in_ok-exit.ensures p m (c.exits.ensures.there m at) c.requires) in
    ap (valuation_of p) (c.give.ensures ∙ ap (λ ds. with_slots values (slots_given ds) (values_given ds values)) c.as_slice.ensures.value)
    ∙ given p c.known.ensures.fits m taken.0 e taken.2 values c.requires
    ∙ sym (ap (λ o. option_map_or (λ (s : ModeSwitch). with_destinations s ports) o ports) taken.1)

pub returns-clause-missing : goal.returns-clause-missing
returns-clause-missing c = λ past. none_there c.args.checked.now c.args.time c.args.values.now c.exits.result.now c.in_ok-exit.exit.now c.requires (c.exits.ensures.none past) c.in_ok-exit.ensures
