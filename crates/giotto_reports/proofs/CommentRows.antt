-- Texts of files turned into one line, computed from the definition.
use Rattle.std.proofs.Common.{◌≡◌, [], ◌∷◌, refl}
use Rattle.std.specs.Prelude.{codes}
use Rattle.giotto_reports.specs.Comments.{one_line}

pub no_text : one_line [] ≡ []
no_text = refl

pub program_alone : one_line (codes "a := b / c;") ≡ codes "a := b / c;"
program_alone = refl

pub line_ends : one_line (codes "a\nb\r\nc\rd\n") ≡ codes "a b  c d "
line_ends = refl

pub comment_to_the_end_of_its_line : one_line (codes "a//b\nc") ≡ codes "a    c"
comment_to_the_end_of_its_line = refl

pub comment_to_a_cr : one_line (codes "a//b\rc") ≡ codes "a    c"
comment_to_a_cr = refl

pub comment_to_the_end_of_the_text : one_line (codes "a // b") ≡ codes "a     "
comment_to_the_end_of_the_text = refl

pub comment_alone : one_line (codes "//") ≡ codes "  "
comment_alone = refl

pub comment_in_a_comment : one_line (codes "a // b // c\n// d\ne") ≡ codes "a                e"
comment_in_a_comment = refl

pub three_slashes : one_line (codes "a/// b\nc") ≡ codes "a      c"
three_slashes = refl

pub slashes_apart : one_line (codes "a / / b/") ≡ codes "a / / b/"
slashes_apart = refl

pub slashes_in_two_lines : one_line (codes "a/\n/b") ≡ codes "a/ /b"
slashes_in_two_lines = refl

-- `é` in a comment, and then outside of one
pub a_blank_for_each_byte : one_line (47 ∷ 47 ∷ 195 ∷ 169 ∷ 10 ∷ 195 ∷ 169 ∷ []) ≡ 32 ∷ 32 ∷ 32 ∷ 32 ∷ 32 ∷ 195 ∷ 169 ∷ []
a_blank_for_each_byte = refl
