-- The lines of a value change dump, the names of its variables, and its timescales.
use Rattle.std.specs.Prelude.{ℕ, ◌==◌, Bool, true, false, ◌||◌, ◌&&◌, ℤ, List, ◌++◌, Option, Some, None, codes}
use Rattle.std.specs.List.{after_first, before_first}
use Rattle.std.specs.Fmt.{decimal, digits}
use Rattle.std.specs.Int.{w64, cast_unsigned}
use Rattle.giotto_tasks.specs.Names.{same_name}
use Rattle.tenant_dumps.specs.declared.variables.Value.{Value}
use Rattle.tenant_dumps.specs.declared.variables.Value.TheVariants.{Bit, Number}
use Rattle.tenant_lines.specs.declared.ports.PortName.{PortName}
use Rattle.tenant_lines.specs.declared.replies.Status.{Status}
use Rattle.tenant_lines.specs.declared.replies.Status.TheVariants.{Empty, Loaded, Running, StoppedAsked, StoppedOverrun}
use Rattle.tenant_lines.specs.Replies.{text_of_port}

-- the variable of a tenant's port: the tenant's name, a dot, and the port as replies name it
abbrev pub variable_of : List ℕ → PortName → List ℕ
variable_of tenant port = tenant ++ (codes "." ++ text_of_port port)

-- the variable that says this of a tenant's task: `is-active`, `is-worked` or `is-late`
abbrev pub variable_of_task : List ℕ → List ℕ → List ℕ → List ℕ
variable_of_task tenant task what = tenant ++ (codes "." ++ (task ++ (codes "." ++ what)))

-- the variable of a line of the rig, `in` or `out`
abbrev pub variable_of_line : List ℕ → ℕ → List ℕ
variable_of_line direction line = codes "host." ++ (direction ++ (codes "-" ++ decimal line))

-- the line of a variable's number: `b`, the value's 64 bits without leading zeros, a space, the variable, and LF; if there is no
-- value, `x` in place of the bits
abbrev pub line_of_number : List ℕ → Option ℤ → List ℕ
line_of_number variable None = codes "bx " ++ (variable ++ codes "\n")
line_of_number variable (Some v) = codes "b" ++ (digits 2 false (cast_unsigned w64 v) ++ (codes " " ++ (variable ++ codes "\n")))

-- the line of a variable's bit: `1` if it is true and `0` if not, or `x` if there is none, the variable, and LF
abbrev pub line_of_bit : List ℕ → Option Bool → List ℕ
line_of_bit variable None = codes "x" ++ (variable ++ codes "\n")
line_of_bit variable (Some true) = codes "1" ++ (variable ++ codes "\n")
line_of_bit variable (Some false) = codes "0" ++ (variable ++ codes "\n")

-- the line of a variable's value
abbrev pub line_of : List ℕ → Value → List ℕ
line_of variable (Bit b) = line_of_bit variable b
line_of variable (Number v) = line_of_number variable v

-- the line of a variable's word: `s`, the word, a space, the variable, and LF
abbrev pub line_of_word : List ℕ → List ℕ → List ℕ
line_of_word variable word = codes "s" ++ (word ++ (codes " " ++ (variable ++ codes "\n")))

-- a tenant's state as one word, with the reason if it is stopped
abbrev pub word_of_state : Status → List ℕ
word_of_state Empty = codes "empty"
word_of_state (Loaded m) = codes "loaded"
word_of_state (Running m x) = codes "running"
word_of_state StoppedAsked = codes "stopped:asked"
word_of_state (StoppedOverrun t) = codes "stopped:overrun:" ++ t

-- the mode that is shown, or `-` if there is none
abbrev pub word_of_mode : Status → List ℕ
word_of_mode Empty = codes "-"
word_of_mode (Loaded m) = m
word_of_mode (Running m x) = m
word_of_mode StoppedAsked = codes "-"
word_of_mode (StoppedOverrun t) = codes "-"

-- a timescale's number, and its unit
abbrev pub is_timescale_number : List ℕ → Bool
is_timescale_number text = same_name text (codes "1") || (same_name text (codes "10") || same_name text (codes "100"))

abbrev pub is_timescale_unit : List ℕ → Bool
is_timescale_unit text = same_name text (codes "s") || (same_name text (codes "ms") || (same_name text (codes "us")
    || (same_name text (codes "ns") || (same_name text (codes "ps") || same_name text (codes "fs")))))

-- whether a tick can have this duration: what is before the first space is a number, and what is after it is a unit
abbrev pub is_timescale : List ℕ → Bool
is_timescale text = is_timescale_number (before_first (λ c. c == 32) text) && is_timescale_unit (after_first (λ c. c == 32) text)
