use Rattle.std.proofs.Common.{rules, ◌≡◌, ℕ, ◌+◌, ◌-◌, ◌<◌, ◌++◌, length, map, get_or, pos, sym, ap, ◌∙◌, arith}
use Rattle.std.proofs.Math.Seq.{paste}
use Rattle.std.proofs.lemmas.List.{places, length-append, length-map}
use Rattle.std.proofs.lemmas.List.Edits.{paste-paste}
use Rattle.std.proofs.lemmas.Slice.{put_mid-paste}
use borrow.Rule.Slice.PartMut.{put_mid}
use Rattle.giotto_tasks.specs.declared.names.Name.{Name}
use Rattle.rig_model.specs.text.ProgramTrees.{task_of}
use Rattle.giotto_check.specs.cited.Slots.{with_range}
use Rattle.tenant_slots.proofs.InitialValues.{task_values, task_long}
use Rattle.tenant_slots.proofs.WrittenRanges.{range_is, zeros_are}
use Rattle.tenant_slots.proofs.beginning.reset_own.Goals as goal

pub slice_bounds-copy_from_slice-end : goal.slice_bounds-copy_from_slice-end
slice_bounds-copy_from_slice-end c =
    let long = task_long c.args.task.now in
    let inputs : c.as_slice.result.now ≡ (task_of c.args.task.now).inputs = search rules in
    let counted = ap length inputs in
    search rules

pub returns-clause-end : goal.returns-clause-end
returns-clause-end c =
    let inputs : c.as_slice.result.now ≡ (task_of c.args.task.now).inputs = search rules in
    let states : c.as_slice-2.result.now ≡ c.args.task.now.states = search rules in
    omega (arith, task_long c.args.task.now, ap length inputs, ap length states)

pub returns-clause-values : goal.returns-clause-values
returns-clause-values c =
    let t = c.args.task.now in
    let names = (task_of t).inputs in
    let before = c.args.values.now in
    let first = c.args.first in
    let n = length c.as_slice.result.now in
    let m = length c.as_slice-2.result.now in
    let zeros = map (λ (x : Name). pos 0) names in
    let states = t.states in
    let inputs : c.as_slice.result.now ≡ names = search rules in
    let same : c.as_slice-2.result.now ≡ states = search rules in
    let filled : length c.fill.new.self ≡ n = search rules in
    let each : (i : ℕ) → i < length c.fill.new.self → get_or c.fill.new.self i (pos 0) ≡ pos 0 = search (rules, places) in
    let copied : c.copy_from_slice.new.self ≡ states = search rules in
    let long = length-map names (λ (x : Name). pos 0) in
    let are = zeros_are names c.fill.new.self (filled ∙ ap length inputs) each in
    let inner = put_mid-paste first (first + n - first) before c.fill.new.self zeros n are (omega arith) (ap length inputs ∙ sym long) in
    let all = length-append zeros states in
    ap (λ vs. put_mid (first + n) (first + n + m - (first + n)) vs c.copy_from_slice.new.self) inner
    ∙ put_mid-paste (first + n) (first + n + m - (first + n)) (paste before first zeros n) c.copy_from_slice.new.self states m copied (omega arith) (ap length same)
    ∙ paste-paste before first zeros states n m (ap length inputs ∙ sym long) (ap length same) (omega (arith, c.requires))
    ∙ range_is before first (zeros ++ states) (n + m) (omega (arith, all, long, ap length inputs, ap length same)) ∙ ap (with_range before first) (sym (task_values t))
