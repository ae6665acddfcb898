-- The values of the lines that a host returns are those of the definitions.
use Rattle.std.proofs.Common.{◌≡◌, ℕ, zero, suc, ◌+◌, true, ℤ, List, ◌++◌, codes, refl, ap, ◌∙◌, arith}
use Rattle.std.proofs.lemmas.Bool.Decides.{nat_tests}
use Rattle.std.specs.Fmt.{signed_decimal}
use Rattle.rig_model.specs.Base.{IsBase, Setting}
use Rattle.rig_model.specs.Host.{host_after}
use Rattle.host_core.specs.HostStanding.{HostStanding, Stands, line_of}
use Rattle.rig_model.specs.HostState.{row_at}
use Rattle.rig_model.specs.Legal.{is_legal}
use Rattle.rig_model.specs.LineValues.{value_of_line}
use Rattle.rig_model.specs.Views.{row_of}
use Rattle.rig_model.specs.declared.events.Event.{Event}
use Rattle.host_core.proofs.of_laws.AloneAlong.{same_rows}
use Rattle.host_core.proofs.cited.LineValues.{line_of_rows, same_values}
use Rattle.rig_model.specs.Script.{text_of_lines}

-- one line more
pub values_more : (f : ℕ → ℤ) (k : ℕ) → text_of_lines f (k + 1) ≡ text_of_lines f k ++ (codes " " ++ signed_decimal (f k))
values_more f k = let next : k + 1 ≡ suc k = omega arith in ap (text_of_lines f) next

-- equal values have equal texts
same_texts : (f g : ℕ → ℤ) → ((k : ℕ) → f k ≡ g k) → (n : ℕ) → text_of_lines f n ≡ text_of_lines g n
same_texts f g same zero = refl
same_texts f g same (suc k) =
    let rest = same_texts f g same k in
    ap (λ ls. ls ++ (codes " " ++ signed_decimal (f k))) rest ∙ ap (λ z. text_of_lines g k ++ (codes " " ++ signed_decimal z)) (same k)

module _ (setting : Setting) (base : IsBase setting.config setting.base) (past : List Event) (legal : is_legal setting past ≡ true) (host : HostStanding) (stands : Stands setting host (host_after setting past)) where
  same_line : (k : ℕ) → line_of host k ≡ value_of_line setting.config (row_of setting past) k
  same_line k =
      line_of_rows setting host (host_after setting past) stands k
      ∙ same_values setting.config (row_at (host_after setting past)) (row_of setting past) (λ t lt. same_rows setting base past t legal (grind (arith, nat_tests, lt))) k

  pub same_lines : (n : ℕ) → text_of_lines (line_of host) n ≡ text_of_lines (value_of_line setting.config (row_of setting past)) n
  same_lines n = same_texts (line_of host) (value_of_line setting.config (row_of setting past)) same_line n
