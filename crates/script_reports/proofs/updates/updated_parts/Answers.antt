use Rattle.std.proofs.Common.{◌≡◌, ◌++◌, ◌∷◌, ◌+◌, ◌<◌, ◌∙◌, Bor, List, [], ℕ, arith, true, false, get_or, length, map, string_bytes, sym, ap}
use Rattle.std.proofs.Math.ListN.{get_or-map, length-map}
use Rattle.std.proofs.lemmas.List.{map-append}
use Rattle.script_reports.specs.cited.Runs.{is_reply, is_remark}
use Rattle.script_reports.specs.cited.Updates.{reply_parts}
use Rattle.script_reports.proofs.Updating.{reply_left_out, remark_kept, line_answered, one_kept, more_kept}
use Rattle.script_reports.proofs.updates.updated_parts.Goals as goal
use Rattle.script_reports.proofs.updates.updated_parts.Goals.{then-not-is_remark+in_ok-add_reply, else-not-is_remark}

pub loop-part-preserved-then-is_reply : goal.loop-part-preserved-then-is_reply
loop-part-preserved-then-is_reply c =
    let l = c.loop-part in
    let ps = map (λ (p : Bor (List ℕ)). p.now) c.args.parts.now in
    let rs = map string_bytes c.args.replies.now in
    let there : l.part-index < length ps = omega (arith, length-map c.args.parts.now (λ (p : Bor (List ℕ)). p.now), c.loop-part-test.true) in
    let part = get_or-map (λ (p : Bor (List ℕ)). p.now) c.args.parts.now l.part-index (record { ref_ptr = (0, 0); now = [] }) in
    let is : is_reply (get_or ps l.part-index []) ≡ true = ap is_reply part ∙ (sym c.is_reply.ensures ∙ c.if-is_reply.true) in
    record {
      few = omega (arith, l.invariant.few);
      so_far = ap (λ x. map string_bytes l.updated.items ++ x) (sym (reply_left_out rs ps l.place l.part-index there is)) ∙ l.invariant.so_far;
    }

pub loop-part-preserved : goal.loop-part-preserved
loop-part-preserved c =
    let l = c.loop-part in
    let ps = map (λ (p : Bor (List ℕ)). p.now) c.args.parts.now in
    let rs = map string_bytes c.args.replies.now in
    let there : l.part-index < length ps = omega (arith, length-map c.args.parts.now (λ (p : Bor (List ℕ)). p.now), c.loop-part-test.true) in
    let part = get_or-map (λ (p : Bor (List ℕ)). p.now) c.args.parts.now l.part-index (record { ref_ptr = (0, 0); now = [] }) in
    let none : is_reply (get_or ps l.part-index []) ≡ false = ap is_reply part ∙ (sym c.is_reply.ensures ∙ c.if-is_reply.false) in
    let text = string_bytes c.in_ok-from_str.field-0 in
    let is_part : text ≡ get_or ps l.part-index [] = c.in_ok-from_str.ensures.ok ∙ sym part in
    let pushed : map string_bytes c.push.new.self.items ≡ map string_bytes l.updated.items ++ get_or ps l.part-index [] ∷ [] =
    ap (map string_bytes) c.in_ok-push.ensures.items ∙ (map-append string_bytes l.updated.items (c.in_ok-from_str.field-0 ∷ []) ∙ ap (λ t. map string_bytes l.updated.items ++ t ∷ []) is_part) in
    elim c.if-not-is_remark.branch [
      | then-not-is_remark+in_ok-add_reply w ↦
          let other : is_remark (get_or ps l.part-index []) ≡ false = ap is_remark part ∙ (sym c.is_remark.ensures ∙ w.if-not-is_remark.true) in
          rw (w.updated-is, w.place-is) (record {
            few = omega (arith, l.invariant.few);
            so_far =
                more_kept _ _ (reply_parts (get_or rs l.place [])) _ _ (w.in_ok-add_reply.ensures ∙ ap (λ r. map string_bytes c.push.new.self.items ++ reply_parts r) w.reply_at.ensures)
                (one_kept _ _ _ _ _ pushed (ap (λ x. map string_bytes l.updated.items ++ x) (sym (line_answered rs ps l.place l.part-index there none other)) ∙ l.invariant.so_far));
          })
      | else-not-is_remark w ↦
          let is : is_remark (get_or ps l.part-index []) ≡ true = ap is_remark part ∙ (sym c.is_remark.ensures ∙ w.if-not-is_remark.false) in
          rw (w.updated-is, w.place-is) (record {
            few = omega (arith, l.invariant.few);
            so_far = one_kept _ _ _ _ _ pushed (ap (λ x. map string_bytes l.updated.items ++ x) (sym (remark_kept rs ps l.place l.part-index there none is)) ∙ l.invariant.so_far);
          })
    ]
