use Rattle.std.proofs.Common.{◌≡◌, [], length, take, reverse}
use Rattle.rig_model.specs.Base.{Setting}
use Rattle.host_core.specs.inner.Playing.{IsPlayed}
use Rattle.host_core.specs.inner.Trials.{AllLeadBack}
use Rattle.host_core.proofs.trials.play_noting.Given as goal

abbrev pub invariant-loop-i : goal.invariant-loop-i
invariant-loop-i l = record {
  as_many : length l.noted.items ≡ l.i;
  played : (setting : Setting) → IsPlayed setting [] l.initial.stage.host l.initial.stage.texts.items l.initial.stage.released.keys
      → IsPlayed setting (reverse (take l.i l.events)) l.stage.host l.stage.texts.items l.stage.released.keys;
  lead_back : (setting : Setting) → IsPlayed setting [] l.initial.stage.host l.initial.stage.texts.items l.initial.stage.released.keys
      → AllLeadBack setting (reverse (take l.i l.events)) (reverse l.noted.items);
}
