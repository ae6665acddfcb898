use Rattle.std.proofs.Common.{◌<◌, subst}
use Rattle.locked_book.specs.Logs.{LogValue}
use Rattle.locked_book.proofs.logs.Log.known.Goals as goal

pub returns : goal.returns
returns g c = subst (λ (l : LogValue). l.capacity < 9223372036854775808) c.self.view_is c.self.inside.entries.small
