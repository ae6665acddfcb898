use Rattle.std.proofs.Common.{codes, sym, ap, ◌∙◌}
use Rattle.giotto_tasks.proofs.cited.NameLemmas.{same_name_is}
use Rattle.tenant_lines.specs.CommandLine.{command_of_words}
use Rattle.tenant_lines.specs.inner.CutLines.{words_from}
use Rattle.tenant_lines.proofs.command_lines.command_of_words.Goals as goal

pub returns-then-is_word : goal.returns-then-is_word
returns-then-is_word c = c.show.ensures ∙ sym (ap (λ w. command_of_words (words_from w c.args.rest.now)) (same_name_is c.args.word.now (codes "show") (sym c.if-is_word.ensures)))
