-- Programs that can be printed have small tasks.
use Rattle.std.proofs.Common.{◌≡◌, true}
use Rattle.giotto_rules.specs.text.Program.{GiottoProgram}
use Rattle.giotto_rules.specs.text.Reading.{has_small_tasks}
use Rattle.giotto_rules.specs.text.Sound.{IsPrintable, can_be_printed}

pub small_if_printable : (p : GiottoProgram) → IsPrintable p → has_small_tasks p ≡ true
small_if_printable p (can_be_printed sound spelled shallow small) = small
