use Rattle.std.proofs.Common.{ℕ, List, Bor, [], ◌≡◌, ◌<◌, ◌∙◌, true, map, get_or, length, sym, ap, arith}
use Rattle.std.proofs.Math.ListN.{get_or-map, length-map}
use Rattle.script_reports.specs.cited.Runs.{is_reply, is_remark}
use Rattle.script_reports.proofs.Reading.{with_entries, unawaited, same_behind, reply_further, remark_further, entry_further, one_more}
use Rattle.script_reports.proofs.runs.lines_of_parts.Goals as goal
use Rattle.script_reports.proofs.runs.lines_of_parts.Goals.{then-is_reply+else-not-is_awaited, else-is_reply+then-is_remark, else-is_reply+else-is_remark+in_ok-add_line}

pub returns-then-not-is_awaited : goal.returns-then-not-is_awaited
returns-then-not-is_awaited c =
    let ps = map (λ (p : Bor (List ℕ)). p.now) c.args.parts.now in
    let l = c.loop-place in
    let there : l.place < length ps = omega (arith, length-map c.args.parts.now (λ (p : Bor (List ℕ)). p.now), c.loop-place-test.true) in
    let part = get_or-map (λ (p : Bor (List ℕ)). p.now) c.args.parts.now l.place (record { ref_ptr = (0, 0); now = [] }) in
    let is : is_reply (get_or ps l.place []) ≡ true = ap is_reply part ∙ sym c.if-is_reply.ensures in
    sym l.invariant ∙ ap (with_entries l.lines.items) (unawaited ps l.place l.is_awaited there is c.if-not-is_awaited.true)

pub loop-place-preserved : goal.loop-place-preserved
loop-place-preserved c =
    let ps = map (λ (p : Bor (List ℕ)). p.now) c.args.parts.now in
    let l = c.loop-place in
    let there : l.place < length ps = omega (arith, length-map c.args.parts.now (λ (p : Bor (List ℕ)). p.now), c.loop-place-test.true) in
    let part = get_or-map (λ (p : Bor (List ℕ)). p.now) c.args.parts.now l.place (record { ref_ptr = (0, 0); now = [] }) in
    elim c.if-is_reply.branch [
      | then-is_reply+else-not-is_awaited w ↦
          rw (w.lines-is, w.is_awaited-is)
          (same_behind l.lines.items _ _ _ (reply_further ps l.place l.is_awaited there (ap is_reply part ∙ sym w.if-is_reply.ensures) w.if-not-is_awaited.false) l.invariant)
      | else-is_reply+then-is_remark w ↦
          rw (w.lines-is, w.is_awaited-is)
          (same_behind l.lines.items _ _ _ (remark_further ps l.place l.is_awaited there (ap is_reply part ∙ sym w.if-is_reply.ensures) (ap is_remark part ∙ sym w.if-is_remark.ensures)) l.invariant)
      | else-is_reply+else-is_remark+in_ok-add_line w ↦
          rw (w.lines-is, w.is_awaited-is)
          (one_more l.lines.items w.add_line.new.lines.items _ _ _ _
          (entry_further ps l.place l.is_awaited there (ap is_reply part ∙ sym w.if-is_reply.ensures) (ap is_remark part ∙ sym w.if-is_remark.ensures))
          (rw (← part, w.reply_at-reply.ensures) at w.in_ok-add_line.ensures) l.invariant)
    ]
