use Rattle.tenant_trace.proofs.cited.Kept as kept
use Rattle.tenant_trace.proofs.laws.last_of_all.Goals as goal

pub returns : goal.returns
returns c = record { kept = λ most tick happenings all. kept.last_of_all most tick happenings all }
