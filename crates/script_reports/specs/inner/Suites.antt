-- A suite of tests in the form of JUnit.
use Rattle.std.specs.Prelude.{◌≡◌, ℕ, ◌+◌, ◌==◌, nat_lt, if◌then◌else◌, Bool, true, false, List, [], ◌∷◌, ◌++◌, get_or, length, codes}
use Rattle.std.specs.Char.{encode_utf8}
use Rattle.std.specs.Fmt.{decimal}
use Rattle.std.specs.List.{flat_map}
use Rattle.std.specs.Str.{encode_utf8_all}
use Rattle.giotto_tasks.specs.Names.{same_name}
use Rattle.script_reports.specs.cited.Runs.{RunEntry}
use Rattle.script_reports.specs.cited.Reports.{first_words}
use Rattle.script_reports.specs.inner.Differences.{failures_from, text_of_changes}

-- a character as it may be written in XML: one that has a meaning there as its entity, and a control character except LF, or one of the two
-- others that XML doesn't have, as `?`
abbrev pub escaped_character : ℕ → List ℕ
escaped_character c =
    if c == 38 then codes "&amp;" else (if c == 60 then codes "&lt;" else (if c == 62 then codes "&gt;" else (if c == 34 then codes "&quot;"
    else (if c == 10 then 10 ∷ [] else (if nat_lt c 32 then codes "?" else (if c == 65534 then codes "?" else (if c == 65535 then codes "?" else encode_utf8 c)))))))

-- a text as it may be written in XML: each of its characters as it may be written there
abbrev pub IsEscaped : List ℕ → List ℕ → Type 0
IsEscaped text shown = (characters : List ℕ) × (encode_utf8_all characters ≡ text) × (shown ≡ flat_map escaped_character characters)

-- the test of a line with this number and these first words, in a suite with this name: it passes, or it fails with what differs
abbrev pub passed_test : List ℕ → ℕ → List ℕ → List ℕ
passed_test suite number words = codes "<testcase classname=\"" ++ (suite ++ (codes "\" name=\"" ++ (decimal number ++ (codes ": " ++ (words ++ codes "\"/>\n")))))

abbrev pub failed_test : List ℕ → ℕ → List ℕ → List ℕ → List ℕ
failed_test suite number words changes =
    codes "<testcase classname=\"" ++ (suite ++ (codes "\" name=\"" ++ (decimal number ++ (codes ": " ++ (words
    ++ (codes "\">\n<failure message=\"another reply\">" ++ (changes ++ codes "</failure>\n</testcase>\n")))))))

-- the test of a line to which this reply came: it fails if the line should get another reply
abbrev pub IsTest : List ℕ → RunEntry → List ℕ → List ℕ → Type 0
IsTest suite line came text = (words : List ℕ) × IsEscaped (first_words line.text) words × by words (same_name line.reply came)
  where
    by : List ℕ → Bool → Type 0
    by words true = text ≡ passed_test suite line.number words
    by words false = (changes : List ℕ) × IsEscaped (text_of_changes line.reply came) changes × (text ≡ failed_test suite line.number words changes)

-- a test for each line of a run from a place on, with the replies that came to all lines
abbrev pub AreTests : List ℕ → List (List ℕ) → ℕ → List RunEntry → List ℕ → Type 0
AreTests suite replies place [] text = text ≡ []
AreTests suite replies place (line ∷ lines) text =
    (first : List ℕ) × (later : List ℕ) × IsTest suite line (get_or replies place []) first × AreTests suite replies (place + 1) lines later × (text ≡ first ++ later)

-- a suite with this name and this many tests, of which this many fail
abbrev pub suite_of : List ℕ → ℕ → ℕ → List ℕ → List ℕ
suite_of suite count failed tests =
    codes "<?xml version=\"1.0\" encoding=\"UTF-8\"?>\n<testsuites>\n<testsuite name=\"" ++ (suite ++ (codes "\" tests=\"" ++ (decimal count
    ++ (codes "\" failures=\"" ++ (decimal failed ++ (codes "\">\n" ++ (tests ++ codes "</testsuite>\n</testsuites>\n")))))))

-- the suite of a run: a test for each line, and how many lines have a different reply from the one that they should get
abbrev pub IsSuite : List ℕ → List RunEntry → List (List ℕ) → List ℕ → Type 0
IsSuite name lines replies text =
    (suite : List ℕ) × (tests : List ℕ) × IsEscaped name suite × AreTests suite replies 0 lines tests × (text ≡ suite_of suite (length lines) (failures_from replies 0 lines) tests)
