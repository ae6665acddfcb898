use Rattle.std.proofs.Common.{◌≡◌, ◌++◌, length, map}
use denote.Shadow.{shadow}
use denote.Text.{Utf8}
use Rattle.script_reports.specs.cited.Runs.{parts_of}
use Rattle.script_reports.proofs.runs.parts_of.Given as goal

abbrev pub invariant-loop-parts : goal.invariant-loop-parts
invariant-loop-parts l = shadow (Utf8 l.rest) × (map (λ p. p.now) l.parts.items ++ parts_of l.rest ≡ parts_of l.text)

abbrev pub decreases-loop-parts : goal.decreases-loop-parts
decreases-loop-parts l = length l.rest
