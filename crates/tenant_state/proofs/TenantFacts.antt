-- What is known of every tenant, and of the tasks of its program.
use Rattle.std.proofs.Common.{◌≡◌, ℕ, ◌<◌, ℤ, List, [], ◌∷◌, map, length, Option, Some, None, refl, ap, ◌∙◌, arith}
use Rattle.std.specs.Arc.{arc_value}
use Rattle.std.specs.List.{AllByRecursion}
use Rattle.std.proofs.lemmas.Slice.Zip.{firsts-zip}
use Rattle.giotto_tasks.specs.Syntax.{TaskBody}
use Rattle.rig_model.specs.text.Program.{GiottoProgram, body_of}
use Rattle.rig_model.specs.text.ProgramTrees as trees
use Rattle.rig_model.specs.declared.text.programs.Task.{Task}
use Rattle.rig_model.specs.grants.Grants.{GrantRows}
use Rattle.rig_model.specs.declared.config.Budgets.{Budgets}
use Rattle.rig_model.specs.trace.Trace.{LastRecords}
use Rattle.tenant_state.specs.declared.tenants.Active.{Active}
use Rattle.tenant_state.specs.declared.tenants.waiting.Waiting.{Waiting}
use Rattle.tenant_state.specs.declared.tenants.State as code
use Rattle.rig_model.specs.Row.{ActiveTask}
use Rattle.tenant_state.specs.Standing.{IsKnown}
use Rattle.tenant_state.specs.Tenants.{state_of, active_of, tasks_in, standing_of}
use Rattle.tenant_state.specs.inner.Tenants.{IsActiveIn, FitsIts, IsTenant, IsTraceOf}
use Rattle.giotto_tasks.proofs.cited.ListLemmas.{all_map, all_mapped}

abbrev pub AreEarly : ℕ → List ActiveTask → Type 0
AreEarly count tasks = AllByRecursion (λ (a : ActiveTask). a.release < count) tasks

-- no entries represent no tasks
none_in : (o : Option GiottoProgram) → tasks_in o [] ≡ []
none_in None = refl
none_in (Some p) = refl

-- if entries represent no tasks, there are none
pub none_stand : (p : GiottoProgram) (tasks : List Active) → map (active_of p) tasks ≡ [] → tasks ≡ []
none_stand p [] e = refl
none_stand p (a ∷ tasks) e = absurd (omega (arith, ap length e))

module _ (grants : GrantRows) (mode time next : ℕ) (active ended : List Active) (values : List ℤ) (shares : List (Option TaskBody)) (count : ℕ) where
  pub early_of : (o : Option GiottoProgram) → FitsIts o mode time next active ended values shares count → AreEarly count (tasks_in o active)
  early_of None fits = tt
  early_of (Some p) fits = all_mapped _ (active_of p) active (all_map (IsActiveIn p count) _ active (λ a is. is.early) fits.each)

  pub known_of : (state : code.State) (o : Option GiottoProgram) → IsTenant (state_of state) o mode time next active ended values shares count
      → (budgets : Budgets) (waiting : Option Waiting) (trace : LastRecords) → IsTraceOf budgets.trace trace
      → IsKnown (record { owner = grants.owner; budgets = budgets }) (standing_of budgets grants state o mode time active ended 0 values shares waiting trace count).row
  known_of state o known budgets waiting trace kept = record {
    few_records = kept.few;
    tasks = λ e. ap (λ o. tasks_in o active) e;
    rests = λ e. ap (tasks_in o) (known.rests e) ∙ none_in o;
    early = early_of o known.fits;
    different = known.different;
  }

-- a task's body is that of its declaration
pub body_of_task : (t : Task) → body_of (trees.task_of t) ≡ arc_value t.body
body_of_task t =
    let b = arc_value t.body in
    λ k. record { inputs = b.inputs; outputs = b.outputs; states = firsts-zip b.states t.states t.each_state k; block = b.block }
