use Rattle.toml.proofs.Views.{table_get}
use Rattle.rig_config.proofs.reading.value_of.Goals as goal

pub returns-in-Some-clause-found : goal.returns-in-Some-clause-found
returns-in-Some-clause-found c =
    let found = table_get c.get.result c.word.result.now c.args.fields.now.entries c.get.ensures.value in
    rw (← c.word.ensures, ← found, c.in-Some.is)

pub returns-in-None-clause-missing : goal.returns-in-None-clause-missing
returns-in-None-clause-missing c =
    let found = table_get c.get.result c.word.result.now c.args.fields.now.entries c.get.ensures.value in
    rw (← c.word.ensures, ← found, c.in-None.is)
