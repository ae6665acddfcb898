-- When two replies count as the same answer: if they are the same, but for values that differ by at most a tolerance.
use Rattle.std.specs.Prelude.{◌-◌, ◌-ℤ◌, ◌==◌, ◌&&◌, ◌||◌, not, nat_le, nat_lt, unsigned_abs, ℕ, ℤ, Bool, false, List, length, take, drop, Option, Some, None, codes}
use Rattle.std.specs.Cmp.Lexicographic.{pointwise}
use Rattle.std.specs.List.{before_first, suffix_len}
use Rattle.giotto_tasks.specs.Names.{same_name}
use Rattle.tenant_lines.specs.Words.{behind_first_word, first_word_of, value_of_word, words_of}

-- "=" or ":"
abbrev pub is_mark : ℕ → Bool
is_mark c = c == 61 || c == 58

-- the length of a word up to its last mark, with that; 0 if it has none
abbrev pub mark_end : List ℕ → ℕ
mark_end word = length word - suffix_len (λ c. not (is_mark c)) word

abbrev pub front_of : List ℕ → List ℕ
front_of word = take (mark_end word) word

-- the value at the end of a word, as of `5`, `a=5` and `4:act:a:5`, if there is one
abbrev pub value_of : List ℕ → Option ℤ
value_of word = value_of_word (drop (mark_end word) word)

-- whether there are two values that differ by at most the tolerance
abbrev pub are_near : ℕ → Option ℤ → Option ℤ → Bool
are_near tolerance None other = false
are_near tolerance (Some x) None = false
are_near tolerance (Some x) (Some y) = nat_le (unsigned_abs (x -ℤ y)) tolerance

-- whether two words are the same, or end with near values after the same
abbrev pub are_alike_words : ℕ → List ℕ → List ℕ → Bool
are_alike_words tolerance word other = same_name word other || (same_name (front_of word) (front_of other) && are_near tolerance (value_of word) (value_of other))

-- a reply without its LF
abbrev pub line_in : List ℕ → List ℕ
line_in reply = before_first (λ c. c == 10) reply

-- the words after "ok" in the replies to `show port`, `show all`, `trace` and `op lines`
abbrev pub is_word_before_values : List ℕ → Bool
is_word_before_values word = same_name word (codes "port") || (same_name word (codes "all") || (same_name word (codes "trace") || same_name word (codes "lines")))

-- whether the line of a reply shows values
abbrev pub shows_values : List ℕ → Bool
shows_values line = by (behind_first_word line)
  where
    by : List ℕ → Bool
    by rest = same_name (first_word_of rest) (codes "ok") && is_word_before_values (first_word_of (behind_first_word rest))

-- whether the words of two lines are alike, one by one
abbrev pub have_alike_words : ℕ → List ℕ → List ℕ → Bool
have_alike_words tolerance line other = pointwise (are_alike_words tolerance) (words_of line) (words_of other)

-- Whether two replies count as the same answer. With tolerance 0 only the same bytes do.
abbrev pub are_alike : ℕ → List ℕ → List ℕ → Bool
are_alike tolerance reply other =
    same_name reply other || (nat_lt 0 tolerance && (shows_values (line_in reply) && have_alike_words tolerance (line_in reply) (line_in other)))
