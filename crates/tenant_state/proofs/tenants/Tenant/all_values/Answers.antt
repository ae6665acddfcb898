use Rattle.std.proofs.Common.{◌≡◌, ◌<◌, true, List, [], ◌∷◌, length, map, nat_lt, Some, refl, sym, ap, ◌∙◌, arith}
use Rattle.std.proofs.lemmas.Bool.Decides.{nat_tests}
use Rattle.rig_model.specs.text.Program.{GiottoProgram}
use Rattle.rig_model.specs.rules.Ports.{ProgramPort, ports_of}
use Rattle.rig_model.specs.declared.lines.replies.Reply.TheVariants.{All}
use Rattle.rig_model.specs.Commands.{port_with_value, show_all}
use Rattle.rig_model.specs.Row.{Row}
use Rattle.tenant_state.specs.Standing.{Standing, StandsFor}
use Rattle.tenant_state.proofs.tenants.Tenant.all_values.Goals as goal

none_of : (row : Row) (ports : List ProgramPort) → length ports ≡ 0 → map (port_with_value row.ports) ports ≡ []
none_of row [] none = refl
none_of row (x ∷ xs) none = absurd (omega (arith, none))

-- a program without a port shows no values
none_shown : (s : Standing) (row : Row) (p : GiottoProgram) → s.row.program ≡ Some p → StandsFor s row → length (ports_of p) ≡ 0
    → show_all row row.program ≡ record { row = row; reply = All [] }
none_shown s row p is stands none =
    let program : row.program ≡ Some p = sym (ap (λ (r : Row). r.program) stands) ∙ is in
    ap (show_all row) program ∙ (λ k. record { row = row; reply = All (none_of row (ports_of p) none k) })

pub returns-then-is_empty-clause-shown : goal.returns-then-is_empty-clause-shown
returns-then-is_empty-clause-shown c = λ row stands.
    let s = c.args.self.now in
    let known = rw c.in-Some.is at c.self.invariant.0 in
    let program : s.row.program ≡ Some c.in-Some.checked = ap (λ (t : Standing). t.row.program) (sym c.self.view_is) ∙ c.in-Some.is in
    let empty : length c.self.inside.values.items ≡ 0 = grind (arith, nat_tests, c.if-is_empty.ensures, c.self.inside.values.ok) in
    rw (c.from_vec.ensures, c.new.ensures.items) (none_shown s row c.in-Some.checked program stands (omega (arith, empty, known.fits.long)))

pub returns-in_err-all-clause-room : goal.returns-in_err-all-clause-room
returns-in_err-all-clause-room c = λ none.
    let known = rw c.in-Some.is at c.self.invariant.0 in
    let some : 0 < length (ports_of c.in-Some.checked) = grind (arith, nat_tests, c.if-is_empty.ensures, c.self.inside.values.ok, known.fits.long) in
    let port : nat_lt 0 (length (ports_of c.in-Some.checked)) ≡ true = grind (arith, nat_tests, some) in
    let none = rw (← c.self.view_is, c.in-Some.is) at none in
    absurd (cc)
