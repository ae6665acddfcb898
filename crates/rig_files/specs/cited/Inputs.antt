-- The bytes of the scripts that are read.
use Rattle.std.specs.Prelude.{◌≡◌, ℕ, List, Option, None, Some, Ok, ⊤, string_bytes}
use Rattle.std.specs.Io.Buffered.{reader_remaining}
use Rattle.rig_arguments.specs.declared.requests.Input.{Input}
use Rattle.rig_arguments.specs.declared.requests.Input.TheVariants as named
use Rattle.script_reports.specs.cited.Runs.{configuration_of, entries_of, placed_script_of}
use Rattle.rig_script.specs.declared.faults.ScriptFault.TheVariants.{Read}
use Rattle.rig_files.specs.declared.faults.SubcommandFault.{SubcommandFault}
use Rattle.rig_files.specs.declared.faults.SubcommandFault.TheVariants as fault
use Rattle.rig_files.specs.declared.inputs.Run.{Run}
use Rattle.rig_files.specs.declared.inputs.ScriptInput.{ScriptInput}
use Rattle.rig_files.specs.declared.inputs.ScriptInput.TheVariants as input
use Rattle.rig_files.specs.declared.inputs.ScriptReader.{ScriptReader}
use Rattle.rig_files.specs.declared.inputs.ScriptReader.TheVariants as reader
use Rattle.rig_files.specs.declared.file_faults.PictureFault.TheVariants.{Script}

-- the bytes that a script's reader still gives, where those of standard input and of files are known
abbrev pub bytes_left : {I F : Type 0} → (I → Option (List ℕ)) → (F → Option (List ℕ)) → ScriptReader I F → Option (List ℕ)
bytes_left standard file (reader.Standard r) = standard r
bytes_left standard file (reader.File r) = reader_remaining file r
bytes_left standard file (reader.Run bytes) = Some bytes.now

-- the script that an input names, if it is no run
abbrev pub script_of : Input → ScriptInput
script_of named.Standard = input.Standard
script_of (named.File path) = input.File path

-- a run has the text and the lines of its file; its script has these lines, each with its number
abbrev pub IsRunOf : List ℕ → Run → Type 0
IsRunOf text run = (string_bytes run.text ≡ text) × (entries_of text ≡ Ok run.lines.items) × (string_bytes run.script ≡ placed_script_of run.lines.items)

-- the path of a script's configuration: the one that the arguments give, or else the one that a run names
abbrev pub configuration_path : ScriptInput → Option (List ℕ) → Option (List ℕ)
configuration_path (input.Run run) None = configuration_of (string_bytes run.text)
configuration_path (input.Run run) (Some path) = Some path
configuration_path input.Standard given = given
configuration_path (input.File path) given = given

-- the fault if a script can't be read
abbrev pub unread_fault : ScriptInput → SubcommandFault
unread_fault (input.File path) = fault.Picture Script
unread_fault input.Standard = fault.Script Read
unread_fault (input.Run run) = fault.Script Read

-- the reader of a run gives the run's script
abbrev pub IsReaderOf : {I F : Type 0} → ScriptInput → ScriptReader I F → Type 0
IsReaderOf (input.Run run) (reader.Run bytes) = bytes.now ≡ string_bytes run.script
IsReaderOf (input.Run run) (reader.Standard r) = ⊥
IsReaderOf (input.Run run) (reader.File r) = ⊥
IsReaderOf input.Standard opened = ⊤
IsReaderOf (input.File path) opened = ⊤

-- the bytes of a script are those of its run. Nothing is said of other scripts, whose bytes aren't known
abbrev pub AreBytesOf : ScriptInput → List ℕ → Type 0
AreBytesOf (input.Run run) bytes = bytes ≡ string_bytes run.script
AreBytesOf input.Standard bytes = ⊤
AreBytesOf (input.File path) bytes = ⊤
