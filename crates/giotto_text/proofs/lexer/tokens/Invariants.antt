use Rattle.std.proofs.Common.{◌≡◌, ◌-◌, ◌≤◌, drop, length}
use Rattle.giotto_text.specs.Tokens.{tokens_of, tokens_from}
use Rattle.giotto_text.proofs.Lexing.{behind}
use Rattle.giotto_text.proofs.lexer.tokens.Given as goal

abbrev pub invariant-loop-start : goal.invariant-loop-start
invariant-loop-start l =
    record { within : l.start ≤ length l.text; so_far : tokens_of l.text ≡ behind l.found.items (tokens_from 0 l.start (drop l.start l.text)) }

abbrev pub decreases-loop-start : goal.decreases-loop-start
decreases-loop-start l = length l.text - l.start
