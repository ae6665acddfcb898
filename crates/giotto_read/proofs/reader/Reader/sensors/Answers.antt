use Rattle.std.proofs.Common.{map}
use Rattle.std.proofs.lemmas.List.{map-append}
use Rattle.giotto_text.specs.declared.tokens.Keyword.TheVariants as keyword
use Rattle.giotto_text.specs.declared.tokens.Token.TheVariants as token
use Rattle.giotto_read.specs.inner.Doing.{left}
use Rattle.giotto_text.specs.Parsing.{is_keyword, many, read_sensor}
use Rattle.giotto_text.specs.ProgramTrees.{sensor_of}
use Rattle.giotto_read.proofs.DoingLists.{none_yet, one_more, some_stopped, all_read, failed_as, next_yes, next_no}
use Rattle.giotto_read.proofs.Shrinking as shrinking
use Rattle.giotto_read.proofs.reader.Reader.sensors.Goals as goal

pub loop-self-init : goal.loop-self-init
loop-self-init c = rw c.new-sensors.ensures.items (none_yet (is_keyword keyword.Sensor) read_sensor c.args.self.now)

pub returns-in_err-sensor : goal.returns-in_err-sensor
returns-in_err-sensor c =
    failed_as (map sensor_of) sensor_of (many (is_keyword keyword.Sensor) read_sensor) read_sensor c.args.self.now c.loop-self.self c.sensor.new.self c.in_err-sensor.field-0.0 c.from_residual.result c.from_residual.ensures
    (some_stopped c.sensor.new.self c.loop-self.invariant (next_yes c.loop-self.self (token.Keyword keyword.Sensor) c.loop-self-test.ensures.yes)) c.in_err-sensor.ensures

pub loop-self-smaller : goal.loop-self-smaller
loop-self-smaller c = shrinking.sensor.shorter (left c.loop-self.self) (sensor_of c.in_ok-sensor.sensor) (left c.sensor.new.self) c.in_ok-sensor.ensures

pub loop-self-preserved : goal.loop-self-preserved
loop-self-preserved c =
    rw (c.in_ok-push.ensures.items, map-append)
    (one_more c.sensor.new.self shrinking.sensor c.loop-self.invariant (next_yes c.loop-self.self (token.Keyword keyword.Sensor) c.loop-self-test.ensures.yes) c.in_ok-sensor.ensures)

pub returns : goal.returns
returns c = rw c.from_vec.ensures (all_read c.loop-self.invariant (next_no c.loop-self.self (token.Keyword keyword.Sensor) c.loop-self-test.ensures.no))
