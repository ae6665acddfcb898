use Rattle.std.proofs.Common.{ℕ, List, Bor, ◌++◌, ◌∙◌, map, refl, ap}
use Rattle.script_reports.specs.cited.Runs.{parts_of}
use Rattle.script_reports.proofs.Reading.{parts_further, parts_at_end, pushed}
use Rattle.script_reports.proofs.runs.parts_of.Goals as goal

pub loop-parts-preserved : goal.loop-parts-preserved
loop-parts-preserved c =
    let l = c.loop-parts in
    let before = map (λ (p : Bor (List ℕ)). p.now) l.parts.items in
    let within = c.loop-parts-test.ensures.some refl in
    let further = parts_further before l.rest.now c.before_feed.result.now c.after_first_line-rest.result.now _ within (c.before_feed.ensures within) c.after_first_line-rest.ensures l.invariant.1 in (
      c.after_first_line-rest.utf8,
      ap (λ ps. ps ++ parts_of c.after_first_line-rest.result.now) (pushed l.parts.items c.push.new.self.items c.before_feed.result c.in_ok-push.ensures.items) ∙ further,
    )

pub returns : goal.returns
returns c =
    let l = c.loop-parts in
    parts_at_end (map (λ (p : Bor (List ℕ)). p.now) l.parts.items) _ l.rest.now _ (c.loop-parts-test.ensures.none refl) (pushed l.parts.items c.push-2.new.self.items l.rest c.in_ok-push-2.ensures.items) l.invariant.1
