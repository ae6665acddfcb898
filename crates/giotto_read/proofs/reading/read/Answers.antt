use Rattle.std.proofs.Common.{◌≡◌, length, Ok, Err, sym, ap, ◌∙◌, subst}
use Rattle.std.proofs.lemmas.Result.{err_from_is_err_and}
use Rattle.giotto_text.specs.Parsing.{parsed_tokens}
use Rattle.giotto_text.specs.cited.Reading.{IsLexicalFault}
use Rattle.giotto_text.specs.Tokens.{tokens_of}
use Rattle.giotto_read.proofs.TextReading.{parsed_at_fault}
use Rattle.giotto_read.proofs.reading.read.Goals as goal

pub returns-in_err-tokens-clause-fault : goal.returns-in_err-tokens-clause-fault
returns-in_err-tokens-clause-fault c = λ f e other.
    let p = err_from_is_err_and c.from_residual.result c.from_residual.ensures.1 in
    let both : Err p.0 ≡ Err f = sym p.1 ∙ e in
    let same : p.0 ≡ f = cc in
    parsed_at_fault c.args.text.now f (subst (IsLexicalFault c.args.text.now) (sym p.2 ∙ same) (rw c.as_bytes.ensures.value at c.in_err-tokens.ensures.fault)) other

pub new-requires : goal.new-requires
new-requires c =
    let found : tokens_of c.args.text.now ≡ Ok c.deref.result.now = rw c.deref.ensures.value (rw c.as_bytes.ensures.value at c.in_ok-tokens.ensures.ok) in
    c.printable.ensures c.args.text.now c.in_ok-parts.parts (ap (parsed_tokens (length c.args.text.now)) found ∙ c.in_ok-parts.ensures.found)
