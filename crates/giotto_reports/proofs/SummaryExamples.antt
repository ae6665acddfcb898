-- The lines of a summary.
use Rattle.std.proofs.Common.{◌≡◌, [], Some, pos, codes, refl}
use Rattle.std.specs.Fmt.{digits}
use Rattle.giotto_tasks.specs.Syntax.{finished}
use Rattle.giotto_breaks.specs.text.Program.{from_line, from_grant}
use Rattle.giotto_reports.specs.Parts.{body}
use Rattle.giotto_reports.specs.Summaries.{line_of_sensor, line_of_actuator, line_of_dearest}

granted_sensor : line_of_sensor (record { name = codes "s"; initial = pos 0; source = from_grant }) ≡ codes "sensor s: takes what is granted to it"
granted_sensor = refl

sensor : line_of_sensor (record { name = codes "s"; initial = pos 0; source = from_line 12 }) ≡ codes "sensor s: reads line 12"
unfolding digits
sensor = refl

actuator : line_of_actuator (record { name = codes "a"; initial = pos 0; line = Some 3 }) ≡ codes "actuator a: drives line 3"
unfolding digits
actuator = refl

dearest : line_of_dearest 2 (Some (body (record { name = codes "T"; inputs = []; outputs = []; states = []; block = finished }))) ≡ codes "greatest cost: 2, of the body of `T`"
unfolding digits
dearest = refl
