use Rattle.std.proofs.Common.{◌≡◌, ℕ, pos, length, get_or, map, refl, sym, ◌∙◌, ap, ◌<◌, List, arith, rules, w64, SFits}
use Rattle.std.specs.List.{zip}
use Rattle.std.proofs.lemmas.Int.{to_z-of_z}
use Rattle.std.proofs.lemmas.List.{get_or_default, take_all}
use Rattle.std.proofs.lemmas.Slice.Zip.{get_or-zip, length-zip}
use Rattle.giotto_text.specs.Canonical.{keyword, state_tokens, with_commas}
use Rattle.giotto_text.specs.declared.tokens.Keyword.TheVariants as keywords
use Rattle.giotto_read.proofs.PrintingLemmas.{behind, commas_more, none_left, optional_some, some_left}
use Rattle.giotto_read.proofs.Writing.{written_none}
use Rattle.giotto_read.proofs.printing.Printer.task_states.Goals as goal

pair_at : {X Y : Type 0} (xs : List X) (ys : List Y) (i : ℕ) (x : X) (y : Y) → i < length xs → i < length ys → x ≡ get_or xs i x → y ≡ get_or ys i y → (x, y) ≡ get_or (zip xs ys) i (x, y)
pair_at {X} {Y} xs ys i x y a b p q =
    let left : X → X × Y = λ u. (u, y) in
    let right : Y → X × Y = λ v. (get_or xs i x, v) in
    ap left p ∙ ap right q ∙ sym (get_or-zip xs ys i (x, y) a b)

pub returns-then-is_empty : goal.returns-then-is_empty
returns-then-is_empty c = rw (none_left c.args.names.now c.is_empty.result c.is_empty.ensures c.if-is_empty.true) (sym (written_none c.args.self.now))

pub loop-i-preserved : goal.loop-i-preserved
loop-i-preserved c =
    let names = c.args.names.now in
    let values = c.args.values.now in
    let i = c.loop-i.i in
    let value = get_or values i (pos 0) in
    let fits : SFits w64 value = search rules in
    let after = rw (to_z-of_z w64 value fits) at c.in_ok-state.ensures in
    let within : i < length values = omega (arith, c.loop-i-test.true, c.requires) in
    let size : i < length (zip names values) = omega (arith, length-zip names values, c.loop-i-test.true, within) in
    let pair = pair_at names values i c.index-names-i.result value c.loop-i-test.true within c.index-names-i.is (get_or_default values i (pos 0) value within) in
    commas_more state_tokens c.keyword.new.self (zip names values) i (c.index-names-i.result, value) c.loop-i.self c.comma_before.new.self c.state.new.self size pair c.loop-i.invariant c.in_ok-comma_before.ensures after

pub returns : goal.returns
returns c =
    let xs = zip c.args.names.now c.args.values.now in
    let size : length xs ≡ length c.args.names.now = omega (arith, length-zip c.args.names.now c.args.values.now, c.requires) in
    let some = some_left c.args.names.now c.is_empty.result c.is_empty.ensures c.if-is_empty.false in
    let all = take_all c.loop-i.i xs (rw size c.loop-i-test.false) in
    rw (optional_some keywords.State state_tokens xs (rw size some), behind c.args.self.now c.keyword.new.self (keyword keywords.State) (with_commas (map state_tokens xs)) c.in_ok-keyword.ensures, c.loop-i.invariant, all) refl
