use Rattle.tenant_slots.proofs.cited.CommonMultiples.{by_divisor, some_divisor}
use Rattle.tenant_slots.proofs.periods.common_multiple.Goals as goal

pub nonzero_div-result : goal.nonzero_div-result
nonzero_div-result c = some_divisor c.args.a c.args.b c.greatest_common_divisor.result c.requires.positive.0 c.requires.positive.1 c.greatest_common_divisor.ensures

pub returns : goal.returns
returns c = by_divisor c.args.a c.args.b c.greatest_common_divisor.result c.requires.positive.0 c.requires.positive.1 c.greatest_common_divisor.ensures
