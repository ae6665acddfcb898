use Rattle.std.proofs.Common.{◌≡◌, ◌<◌, ◌==◌, true, false, length, sym, ap, ◌∙◌, arith}
use Rattle.std.proofs.lemmas.Bool.Decides.{nat_tests}
use Rattle.rig_model.specs.text.Bytes.{is_name}
use Rattle.rig_model.specs.lines.Words.{first_word_of, behind_first_word}
use Rattle.rig_sessions.proofs.SessionLines.{no_name, no_key, name_and_key}
use Rattle.rig_sessions.proofs.sessions.is_hello.Goals as goal

pub returns-then-not-is_name : goal.returns-then-not-is_name
returns-then-not-is_name c =
    let is : is_name (first_word_of c.args.rest.now) ≡ false = (let a = c.is_name.ensures in let b = c.as_bytes.ensures.value in let d = c.first_word.ensures in let e = c.if-not-is_name.true in cc) in
    no_name c.args.rest.now is

pub returns-then-is_empty : goal.returns-then-is_empty
returns-then-is_empty c =
    let word = c.first_word-2.ensures ∙ ap first_word_of c.behind_first_word-behind.ensures in
    let is : (length c.first_word-2.result.now == 0) ≡ true = sym c.is_empty.ensures ∙ c.if-is_empty.true in
    let none : length c.first_word-2.result.now ≡ 0 = grind (arith, nat_tests, is) in
    no_key c.args.rest.now (sym (ap length word) ∙ none)

pub returns : goal.returns
returns c =
    let rest = c.args.rest.now in
    let behind = behind_first_word rest in
    let good : is_name (first_word_of rest) ≡ true = (let a = c.is_name.ensures in let b = c.as_bytes.ensures.value in let d = c.first_word.ensures in let e = c.if-not-is_name.false in cc) in
    let word = c.first_word-2.ensures ∙ ap first_word_of c.behind_first_word-behind.ensures in
    let is : (length c.first_word-2.result.now == 0) ≡ false = sym c.is_empty.ensures ∙ c.if-is_empty.false in
    let some : 0 < length c.first_word-2.result.now = grind (arith, nat_tests, is) in
    let some_key : 0 < length (first_word_of behind) = rw (← word) some in
    let last : c.first_word-3.result.now ≡ first_word_of (behind_first_word behind) = c.first_word-3.ensures ∙ ap first_word_of (c.behind_first_word.ensures ∙ ap behind_first_word c.behind_first_word-behind.ensures) in
    let same : (length (first_word_of (behind_first_word behind)) == 0) ≡ c.is_empty-2.result = ap (λ w. length w == 0) (sym last) ∙ sym c.is_empty-2.ensures in
    rw same at (name_and_key rest good some_key)
