use Rattle.std.proofs.Common.{◌≡◌, ◌∙◌, Some, None, ap, option_map, string_bytes, subst, sym, IfSome}
use Rattle.std.proofs.lemmas.Result.{on_ok_weaker}
use Rattle.script_checks.specs.Grants.{said_from}
use Rattle.script_checks.specs.Scripts.{fault_of_line}
use Rattle.script_checks.specs.Told.{TellLine}
use Rattle.script_checks.specs.declared.lines.Found.{Found}
use Rattle.script_checks.proofs.Reading.{faulty_line, good_line, kept_grown, report_faulty, report_good}
use Rattle.script_checks.proofs.scripts.CheckedLines.add.Goals as goal
use Rattle.script_checks.proofs.scripts.CheckedLines.add.Goals.{in-Some+in_ok-add_found-in-Some, in-None}

pub returns : goal.returns
returns c = λ lines number before.
    let config = c.args.script.now.config.now in
    let file = c.args.script.now.file.now in
    let line = c.args.line.now in
    elim c.match-branch-2.branch [
      | in-Some+in_ok-add_found-in-Some w ↦
          let found = w.in-Some.found in
          let fault : fault_of_line config line ≡ Some found.fault = sym c.in_ok-found.ensures.fault ∙ ap (option_map (λ (f : Found). f.fault)) w.in-Some.is in
          let tells : TellLine config line found = subst (λ o. IfSome o (TellLine config line)) w.in-Some.is c.in_ok-found.ensures.told in
          rw w.self-is (on_ok_weaker c.add.result (λ grown. (
            faulty_line config lines line found.fault fault,
            report_faulty config file c.args.number lines line found (string_bytes c.args.self.now.faults) _ number fault tells before.1 w.in_ok-add_found-in-Some.ensures,
            kept_grown config c.args.number lines line c.add.new.self number grown,
          )) ((rw w.self-is at c.add.ensures) (said_from config 1 lines) before.2))
      | in-None w ↦
          let none : fault_of_line config line ≡ None = sym c.in_ok-found.ensures.fault ∙ ap (option_map (λ (f : Found). f.fault)) w.in-None.is in
          rw w.self-is (on_ok_weaker c.add.result (λ grown. (
            before.0 ∙ good_line config lines line none,
            report_good config file c.args.number lines line (string_bytes c.args.self.now.faults) number none before.1,
            kept_grown config c.args.number lines line c.add.new.self number grown,
          )) ((rw w.self-is at c.add.ensures) (said_from config 1 lines) before.2))
    ]
