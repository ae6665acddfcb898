-- What is reported of a script's sources.
use Rattle.std.specs.Prelude.{ℕ, List}
use Rattle.tenant_sources.specs.Links.{Links}
use Rattle.rig_script.specs.declared.courses.Course.{Course}

-- the links between its tenants, the line that gave each tick, from tick 0 on, and how the script went
pub record Retested : Type 0 where
  pub links : Links
  pub tick_lines : List ℕ
  pub course : Course
