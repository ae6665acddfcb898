use Rattle.std.proofs.Common.{◌≡◌, ◌∙◌, Ok, Err, IfOk, Result, String, Global, Bor, List, ℕ, codes, map, string_bytes, ap}
use Rattle.std.specs.List.{join_by}
use Rattle.script_reports.specs.cited.Updates.{updated_parts, updated_run}
use Rattle.script_reports.specs.cited.Runs.{parts_of}
use Rattle.script_reports.proofs.Updating.{joined}
use Rattle.script_reports.proofs.updates.updated_run.Goals as goal

pub returns : goal.returns
returns c =
    by (map string_bytes c.args.replies.now) c.args.text.now (map (λ p. p.now) c.as_slice.result.now) c.as_slice-2.result.now c.join.result
    (ap (map string_bytes) c.as_slice-2.ensures.value ∙ c.in_ok-updated.ensures) (ap (map (λ (p : Bor (List ℕ)). p.now)) c.as_slice.ensures.value ∙ c.in_ok-parts.ensures) c.join.ensures.ok
  where
    by : {E : Type 0} (replies : List (List ℕ)) (text : List ℕ) (parts : List (List ℕ)) (items : List (String Global)) (r : Result (String Global) E) → map string_bytes items ≡ updated_parts replies 0 parts → parts ≡ parts_of text
        → IfOk r (λ t. string_bytes t ≡ join_by string_bytes (codes "\n") items) → IfOk r (λ run. string_bytes run ≡ updated_run text replies)
    by replies text parts items (Err e) updated are h = tt
    by replies text parts items (Ok t) updated are h = h ∙ (joined string_bytes (codes "\n") items ∙ ap (join_by (λ part. part) (codes "\n")) (updated ∙ ap (updated_parts replies 0) are))
