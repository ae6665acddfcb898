-- What is read, as the arguments name it.
use Rattle.std.specs.Prelude.{ℕ, if◌then◌else◌, List, Option, Some, None, codes, nat_eq}
use Rattle.std.specs.Cmp.Lexicographic.{pointwise}
use Rattle.rig_arguments.specs.declared.requests.Input.{Input}
use Rattle.rig_arguments.specs.declared.requests.Input.TheVariants.{Standard, File}

-- the path of a file; standard input has none
abbrev pub path_of : Input → Option (List ℕ)
path_of Standard = None
path_of (File path) = Some path.now

-- the name for messages
abbrev pub name_of : Input → List ℕ
name_of Standard = codes "-"
name_of (File path) = path.now

-- "-" and no argument name standard input, any other argument a file
abbrev pub path_in : Option (List ℕ) → Option (List ℕ)
path_in None = None
path_in (Some argument) = if pointwise nat_eq argument (codes "-") then None else Some argument
