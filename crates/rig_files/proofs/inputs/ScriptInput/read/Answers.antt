use Rattle.rig_files.proofs.ReadRuns.{bytes_of_run}
use Rattle.rig_files.proofs.inputs.ScriptInput.read.Goals as goal

pub returns : goal.returns
returns g c = bytes_of_run _ _ c.args.self.now c.in_ok-open.field-0 c.read_to_end.new.buf.items c.in_ok-open.ensures (rw c.new-bytes.ensures.items at c.in_ok-read_to_end.ensures.bytes)
