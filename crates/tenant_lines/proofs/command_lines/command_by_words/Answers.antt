use Rattle.std.proofs.Common.{◌≡◌, ℕ, List, codes, ap, sym, ◌∙◌, rules}
use Rattle.tenant_lines.specs.CommandLine.{command_of_line, command_of_words}
use Rattle.tenant_lines.specs.Words.{first_word_of, behind_first_word}
use Rattle.tenant_lines.specs.inner.CutLines.{words_from}
use Rattle.tenant_lines.proofs.CommandLines.{cut_words, differ, words_alone}
use Rattle.tenant_lines.proofs.command_lines.command_by_words.Goals as goal

-- a line that was cut, and begins with neither "load" nor "replace"
by_words : (line word rest : List ℕ) → word ≡ first_word_of line → rest ≡ behind_first_word line → (word ≡ codes "load" → ⊥) → (word ≡ codes "replace" → ⊥)
    → command_of_line line ≡ command_of_words (words_from word rest)
by_words line word rest is_word is_rest no_load no_replace =
    words_alone line (λ is. no_load (is_word ∙ is)) (λ is. no_replace (is_word ∙ is)) ∙ ap command_of_words (cut_words line)
    ∙ (λ k. command_of_words (words_from (sym is_word k) (sym is_rest k)))

pub returns-clause-command : goal.returns-clause-command
returns-clause-command c =
    let word = c.cut.result.0.now in
    rw (by_words c.args.line.now word c.cut.result.1.now c.cut.ensures.word c.cut.ensures.rest (differ word (codes "load") c.if-is_word.ensures) (differ word (codes "replace") c.if-is_word-2.ensures)) (search rules)

pub returns-clause-none : goal.returns-clause-none
returns-clause-none c =
    let word = c.cut.result.0.now in
    rw (by_words c.args.line.now word c.cut.result.1.now c.cut.ensures.word c.cut.ensures.rest (differ word (codes "load") c.if-is_word.ensures) (differ word (codes "replace") c.if-is_word-2.ensures)) (search rules)
