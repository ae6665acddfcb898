use Rattle.std.proofs.Common.{◌≡◌, ◌≤◌, ◌++◌, drop, map, string_bytes}
use Rattle.script_reports.specs.cited.Updates.{updated_parts}
use Rattle.script_reports.proofs.updates.updated_parts.Given as goal

abbrev pub invariant-loop-part : goal.invariant-loop-part
invariant-loop-part l = record {
  few : l.place ≤ l.part-index;
  so_far : map string_bytes l.updated.items ++ updated_parts (map string_bytes l.replies) l.place (drop l.part-index (map (λ p. p.now) l.parts)) ≡ updated_parts (map string_bytes l.replies) 0 (map (λ p. p.now) l.parts);
}
