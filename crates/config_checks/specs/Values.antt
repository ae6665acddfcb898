-- The value of a field as text.
use Rattle.std.specs.Prelude.{◌≡◌, ℕ, if◌then◌else◌, List, [], ◌++◌, Option, Some, None, IfSome, codes}
use Rattle.std.specs.Fmt.{debug_str, signed_decimal}
use Rattle.toml.specs.Data.{Data, string, integer, float, boolean, datetime, array, table, Items, no_items, item}

-- a value that is not an array: a text in quotes, a number, `true` or `false`, or else the kind of the value; nothing is said
-- about a float
abbrev pub text_of_one : Data → Option (List ℕ)
text_of_one (string text) = debug_str text
text_of_one (integer z) = Some (signed_decimal z)
text_of_one (float x) = None
text_of_one (boolean truth) = Some (if truth then codes "true" else codes "false")
text_of_one (datetime at) = Some (codes "a value of the kind `datetime`")
text_of_one (array values) = Some (codes "a value of the kind `array`")
text_of_one (table fields) = Some (codes "a value of the kind `table`")

-- this is the text of a value, if anything is said about the value
abbrev pub IsToldSo : Data → List ℕ → Type 0
IsToldSo value text = IfSome (text_of_one value) (λ one. text ≡ one)

-- values after others, each after a comma
abbrev pub AreTold : Items → List ℕ → Type 0
AreTold no_items text = text ≡ []
AreTold (item value others) text = (one : List ℕ) × (later : List ℕ) × (text ≡ codes ", " ++ (one ++ later)) × IsToldSo value one × AreTold others later

-- the values of an array in brackets, with commas between them
abbrev pub IsArrayTold : Items → List ℕ → Type 0
IsArrayTold no_items text = text ≡ codes "[]"
IsArrayTold (item value others) text = (one : List ℕ) × (later : List ℕ) × (text ≡ codes "[" ++ (one ++ (later ++ codes "]"))) × IsToldSo value one × AreTold others later

-- this is the text of a value that may be an array
abbrev pub IsValue : Data → List ℕ → Type 0
IsValue (array values) text = IsArrayTold values text
IsValue (string s) text = IsToldSo (string s) text
IsValue (integer z) text = IsToldSo (integer z) text
IsValue (float x) text = IsToldSo (float x) text
IsValue (boolean truth) text = IsToldSo (boolean truth) text
IsValue (datetime at) text = IsToldSo (datetime at) text
IsValue (table fields) text = IsToldSo (table fields) text
