use Rattle.std.proofs.Common.{ℕ, List, Option, Some, None, String, Global, IfSome, string_bytes}
use Rattle.std.proofs.lemmas.Result.{IfOk-weaker}
use Rattle.std.specs.Option.{option_map}
use Rattle.rig_client.specs.Findings.{AreFindingsIn, AreFindingsOn}
use Rattle.rig_client.proofs.programs.findings_on.Goals as goal

in_some_source : (path source : List ℕ) (found : Option (String Global)) → AreFindingsIn path source (option_map string_bytes found) → IfSome found (λ findings. AreFindingsOn path (string_bytes findings))
in_some_source path source None at = tt
in_some_source path source (Some findings) at = (source, at)

pub returns-in-Some : goal.returns-in-Some
returns-in-Some g c = IfOk-weaker c.findings_in.result _ _ (in_some_source c.args.path.now c.as_str.result.now) c.findings_in.ensures
