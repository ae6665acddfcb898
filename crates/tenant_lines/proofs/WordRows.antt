-- Which words are names and values, computed from the definitions.
use Rattle.std.proofs.Common.{◌≡◌, ◌^◌, ◌-◌, true, false, pos, neg_ℤ, [], ◌∷◌, Some, None, refl}
use Rattle.std.specs.Prelude.{codes}
use Rattle.giotto_text.specs.Bytes.{is_name}
use Rattle.tenant_lines.specs.Words.{value_of_word, words_of}

pub underscore_first : is_name (codes "_a9") ≡ true
underscore_first = refl

pub digit_first : is_name (codes "9a") ≡ false
digit_first = refl

pub dash_inside : is_name (codes "a-b") ≡ false
dash_inside = refl

pub no_byte : is_name [] ≡ false
no_byte = refl

pub minus_zero : value_of_word (codes "-0") ≡ Some (pos 0)
minus_zero = refl

pub leading_zeros : value_of_word (codes "-007") ≡ Some (neg_ℤ (pos 7))
leading_zeros = refl

pub more_than_19_digits : value_of_word (codes "0000000000000000000000000000005") ≡ Some (pos 5)
more_than_19_digits = refl

pub greatest : value_of_word (codes "9223372036854775807") ≡ Some (pos (2 ^ 63 - 1))
greatest = refl

pub least : value_of_word (codes "-9223372036854775808") ≡ Some (neg_ℤ (pos (2 ^ 63)))
least = refl

pub above_the_greatest : value_of_word (codes "9223372036854775808") ≡ None
above_the_greatest = refl

pub below_the_least : value_of_word (codes "-9223372036854775809") ≡ None
below_the_least = refl

pub plus_first : value_of_word (codes "+5") ≡ None
plus_first = refl

pub minus_alone : value_of_word (codes "-") ≡ None
minus_alone = refl

pub two_minuses : value_of_word (codes "--5") ≡ None
two_minuses = refl

pub letter_behind : value_of_word (codes "5x") ≡ None
letter_behind = refl

pub blanks_between : words_of (codes "  1 -2\t03 ") ≡ codes "1" ∷ codes "-2" ∷ codes "03" ∷ []
blanks_between = refl
