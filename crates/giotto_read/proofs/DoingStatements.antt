-- The kind of a statement, decided by its first token.
use Rattle.std.proofs.Common.{◌≡◌, true, false, List, refl}
use Rattle.giotto_read.specs.inner.Doing.{left}
use Rattle.giotto_read.specs.declared.reader.Reader.{Reader}
use Rattle.giotto_tasks.specs.Syntax.{Block}
use Rattle.giotto_text.specs.declared.tokens.Keyword.TheVariants.{If, Else, Repeat}
use Rattle.giotto_text.specs.declared.tokens.PlacedToken.{PlacedToken}
use Rattle.giotto_text.specs.declared.tokens.Token.{Token}
use Rattle.giotto_text.specs.declared.tokens.Token.TheVariants as tokens
use Rattle.giotto_text.specs.Parsing.{Parser, got, stopped, next_of, same_token, read_token, read_assignment, read_branch_of, read_repetition_of, read_else_of, read_statement_of}
use Rattle.giotto_read.proofs.DoingLists.{took_this}

abbrev pub if_token : Token
if_token = tokens.Keyword If

abbrev pub else_token : Token
else_token = tokens.Keyword Else

abbrev pub repeat_token : Token
repeat_token = tokens.Keyword Repeat

pub reads_branch : (nested : Parser Block) (ts : List PlacedToken) → same_token if_token (next_of ts) ≡ true → read_statement_of nested ts ≡ read_branch_of nested ts
reads_branch nested ts test = rw test refl

pub reads_repetition : (nested : Parser Block) (ts : List PlacedToken) → same_token if_token (next_of ts) ≡ false → same_token repeat_token (next_of ts) ≡ true → read_statement_of nested ts ≡ read_repetition_of nested ts
reads_repetition nested ts no_if test = rw (no_if, test) refl

pub assignment_stopped : (nested : Parser Block) (r u : Reader) → same_token if_token (next_of (left r)) ≡ false → same_token repeat_token (next_of (left r)) ≡ false → read_assignment (left r) ≡ stopped (left u) → read_statement_of nested (left r) ≡ stopped (left u)
assignment_stopped nested r u no_if no_repeat e = rw (no_if, no_repeat, e) refl

pub else_read : (nested : Parser Block) (r s u : Reader) (b : Block) → read_token else_token (left r) ≡ got tt (left s) → nested (left s) ≡ got b (left u) → read_else_of nested (left r) ≡ got b (left u)
else_read nested r s u b next e = let test = took_this (left r) (left s) else_token next in rw (test, next, e) refl
