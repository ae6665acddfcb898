-- The rules for tokens, each shown by an example.
use Rattle.std.proofs.Common.{◌≡◌, ◌∷◌, [], Ok, Err, codes, refl}
use Rattle.giotto_text.specs.declared.tokens.Keyword.TheVariants.{Do, Sensor}
use Rattle.giotto_text.specs.declared.tokens.Symbol.TheVariants.{Becomes, Semicolon, AtMost, Less, EqualEqual, Minus, Not, Slash}
use Rattle.giotto_text.specs.Tokens.{tokens_of}
use Rattle.giotto_text.proofs.cited.Adder.{word, named, count, mark}

-- a number consists of digits alone: no blank is needed between it and a word
pub number_then_keyword : tokens_of (codes "1do") ≡ Ok (count 1 0 ∷ word Do 1 ∷ [])
number_then_keyword = refl

pub number_then_name : tokens_of (codes "5abc") ≡ Ok (count 5 0 ∷ named (codes "abc") 1 ∷ [])
number_then_name = refl

-- a name has at most 32 bytes; a longer run is a fault where it begins
pub name_of_32_bytes : tokens_of (codes " abcdefghijklmnopqrstuvwxyz_12345") ≡ Ok (named (codes "abcdefghijklmnopqrstuvwxyz_12345") 1 ∷ [])
name_of_32_bytes = refl

pub name_of_33_bytes : tokens_of (codes " abcdefghijklmnopqrstuvwxyz_123456") ≡ Err 1
name_of_33_bytes = refl

pub number_then_long_name : tokens_of (codes "5abcdefghijklmnopqrstuvwxyz_123456") ≡ Err 1
number_then_long_name = refl

-- a word that continues after a keyword is a name; keywords are in lower case
pub name_over_keyword : tokens_of (codes "sensor sensors Sensor") ≡ Ok (word Sensor 0 ∷ named (codes "sensors") 7 ∷ named (codes "Sensor") 15 ∷ [])
name_over_keyword = refl

-- at most 19 digits, leading zeros included, and at most 9223372036854775808
pub number_of_19_digits : tokens_of (codes "0000000000000000007") ≡ Ok (count 7 0 ∷ [])
number_of_19_digits = refl

pub number_of_20_digits : tokens_of (codes "00000000000000000007") ≡ Err 0
number_of_20_digits = refl

pub greatest_number : tokens_of (codes "9223372036854775808") ≡ Ok (count 9223372036854775808 0 ∷ [])
greatest_number = refl

pub too_great_number : tokens_of (codes "9223372036854775809") ≡ Err 0
too_great_number = refl

-- a symbol is as long as possible, and needs no blanks around it
pub longest_mark : tokens_of (codes "a<=b<c==-1") ≡ Ok
    (named (codes "a") 0 ∷ mark AtMost 1 ∷ named (codes "b") 3 ∷ mark Less 4 ∷ named (codes "c") 5 ∷ mark EqualEqual 6 ∷ mark Minus 8 ∷ count 1 9 ∷ [])
longest_mark = refl

pub two_marks : tokens_of (codes "!!a //") ≡ Ok (mark Not 0 ∷ mark Not 1 ∷ named (codes "a") 2 ∷ mark Slash 4 ∷ mark Slash 5 ∷ [])
two_marks = refl

pub blank_in_a_mark : tokens_of (codes "a < =b") ≡ Err 4
blank_in_a_mark = refl

pub rest_of_a_mark : tokens_of (codes "!==") ≡ Err 2
rest_of_a_mark = refl

pub no_blanks : tokens_of (codes "a:=b;") ≡ Ok (named (codes "a") 0 ∷ mark Becomes 1 ∷ named (codes "b") 3 ∷ mark Semicolon 4 ∷ [])
no_blanks = refl

-- a single colon begins no token, and neither does a byte above 127
pub colon_alone : tokens_of (codes "a : = 0") ≡ Err 2
colon_alone = refl

pub colon_at_the_end : tokens_of (codes "a :") ≡ Err 2
colon_at_the_end = refl

pub high_byte : tokens_of (97 ∷ 32 ∷ 195 ∷ 164 ∷ []) ≡ Err 2
high_byte = refl

-- space, tab, CR and LF are blanks
pub blanks : tokens_of (32 ∷ 9 ∷ 97 ∷ 13 ∷ 10 ∷ 98 ∷ 32 ∷ []) ≡ Ok (named (codes "a") 2 ∷ named (codes "b") 5 ∷ [])
blanks = refl

pub no_blank : tokens_of (97 ∷ 11 ∷ []) ≡ Err 1
no_blank = refl
