use Rattle.rig_laws.proofs.cited.TwoWorlds.{kept_legal}
use Rattle.rig_laws.proofs.laws.kept_list_is_legal.Goals as goal

pub returns : goal.returns
returns c = λ setting past t history. kept_legal setting history.base past t history.legal
