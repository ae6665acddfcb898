use Rattle.std.proofs.Common.{◌≡◌, Ok, None, length, sym, ◌∙◌, ap}
use Rattle.giotto_read.specs.text.Tokens.{tokens_of}
use Rattle.giotto_faults.specs.Nesting.{first_too_deep}
use Rattle.giotto_faults.proofs.DeepTokens.{deep_somewhere}
use Rattle.giotto_faults.proofs.faults.too_deep.Goals as goal

pub unreachable-requires : goal.unreachable-requires
unreachable-requires c =
    let cut : tokens_of c.as_bytes.result.now ≡ Ok c.in-Ok.tokens.items = c.in-Ok.ensures.ok in
    let cut_text : tokens_of c.args.text.now ≡ Ok c.in-Ok.tokens.items = ap tokens_of (sym c.as_bytes.ensures.value) ∙ cut in
    let none : first_too_deep 0 c.in-Ok.tokens.items ≡ None = ap (first_too_deep 0) (sym c.deref.ensures.value) ∙ sym c.first_too_deep.ensures ∙ c.in_default-first_too_deep.is in
    deep_somewhere c.args.text.now (length c.args.text.now) c.in-Ok.tokens.items cut_text c.requires none
