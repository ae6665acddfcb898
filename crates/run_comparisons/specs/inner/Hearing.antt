-- A line as a listener hears it.
use Rattle.std.specs.Prelude.{◌++◌, codes}
use Rattle.host_core.specs.HostStanding.{HostStanding, line_of}
use Rattle.rig_model.specs.Answered.{reply_line}
use Rattle.rig_model.specs.Script.{operator, text_of_lines}
use Rattle.rig_script.specs.Instants.{is_instant}
use Rattle.rig_script.specs.declared.listeners.Answered.{Answered}
use Rattle.run_comparisons.specs.Answers.{ShownLine}

-- the line, with what the host shows after it
abbrev pub shown_by : HostStanding → Answered → ShownLine
shown_by host line = record {
  speaker = line.speaker;
  gives_tick = is_instant line.events.items;
  number = line.number;
  ticks = host.clock;
  text = line.text.now;
  reply = line.reply.now;
  driven = reply_line operator (codes "ok lines" ++ text_of_lines (line_of host) host.config.lines);
}
