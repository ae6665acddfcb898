use Rattle.std.proofs.Common.{codes, length, string_bytes}
use Rattle.rig_model.specs.rules.Ports.{ports_of}
use Rattle.rig_model.specs.Admission.{steps_of_program}
use Rattle.program_checks.proofs.Telling.{joined}
use Rattle.program_checks.specs.Budgets.{heading_of, row_of, row_of_lines}
use Rattle.program_checks.proofs.budgets.text_of_budgets.Goals as goal

pub returns : goal.returns
returns c =
    let tenant = c.args.held.now.tenant.now in
    let budgets = tenant.budgets in
    let p = c.args.held.now.checked.now in
    joined (heading_of tenant) (row_of (codes "bytes") c.args.held.now.bytes budgets.bytes) (row_of (codes "ports") (length (ports_of p)) budgets.ports) (row_of (codes "tasks") (length p.tasks) budgets.tasks)
    (row_of (codes "modes") (length p.modes) budgets.modes) (row_of (codes "steps") (steps_of_program p) budgets.steps) (row_of_lines budgets)
    (string_bytes c.in_ok-text.text) (string_bytes c.add_row.new.text) (string_bytes c.add_row-2.new.text) (string_bytes c.add_row-3.new.text) (string_bytes c.add_row-4.new.text) (string_bytes c.add_steps.new.text)
    (string_bytes c.add_lines.new.text) c.in_ok-text.ensures c.in_ok-add_row.ensures (rw c.slots.ensures at c.in_ok-add_row-2.ensures) (rw c.tasks_of.ensures at c.in_ok-add_row-3.ensures)
    (rw c.modes_of.ensures at c.in_ok-add_row-4.ensures) (rw c.greatest_cost.ensures at c.in_ok-add_steps.ensures) c.in_ok-add_lines.ensures
