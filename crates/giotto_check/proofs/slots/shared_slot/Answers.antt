use Rattle.std.proofs.Common.{◌≡◌, drop, [], None, ap, sym, ◌∙◌, map, ◌++◌}
use Rattle.std.specs.List.{flat_map, position_from}
use Rattle.std.proofs.lemmas.List.{drop_all}
use Rattle.giotto_rules.specs.text.ProgramTrees.{output_of}
use Rattle.giotto_rules.specs.Ports.{is_port, ports_of_task, shared_port}
use Rattle.giotto_check.proofs.cited.SlotLemmas.{no_shared}
use Rattle.giotto_check.proofs.slots.shared_slot.Goals as goal

pub returns : goal.returns
returns c =
    let p = c.args.program.now in
    let x = c.args.name.now in
    let outputs = c.outputs-output-items.result.now in
    let none : drop c.loop-output.output-index outputs ≡ [] = drop_all c.loop-output.output-index outputs c.loop-output-test.false in
    sym (no_shared x c.loop-output.slot p.tasks)
    ∙ sym (ap (λ os. position_from (is_port None x) c.loop-output.slot (map shared_port (map (λ o. o.name) (map output_of os)) ++ flat_map ports_of_task p.tasks)) none)
    ∙ c.loop-output.invariant.slot
