-- The bytes that are read of a run are those of its script.
use Rattle.std.proofs.Common.{◌≡◌, ◌∙◌, ℕ, List, Option, IfSome}
use Rattle.rig_files.specs.declared.inputs.ScriptInput.{ScriptInput}
use Rattle.rig_files.specs.declared.inputs.ScriptInput.TheVariants as input
use Rattle.rig_files.specs.declared.inputs.ScriptReader.{ScriptReader}
use Rattle.rig_files.specs.declared.inputs.ScriptReader.TheVariants as reader
use Rattle.rig_files.specs.cited.Inputs.{AreBytesOf, IsReaderOf, bytes_left}

module _ {I F : Type 0} (standard : I → Option (List ℕ)) (file : F → Option (List ℕ)) where
  pub bytes_of_run : (given : ScriptInput) (opened : ScriptReader I F) (bytes : List ℕ) → IsReaderOf given opened → IfSome (bytes_left standard file opened) (λ all. bytes ≡ all) → AreBytesOf given bytes
  bytes_of_run (input.Run run) (reader.Run text) bytes is all = all ∙ is
  bytes_of_run (input.Run run) (reader.Standard r) bytes is all = absurd is
  bytes_of_run (input.Run run) (reader.File r) bytes is all = absurd is
  bytes_of_run input.Standard opened bytes is all = is
  bytes_of_run (input.File path) opened bytes is all = is
