-- Two scripts compared.
use Rattle.std.specs.Prelude.{◌≡◌, ℕ, Bool, List, [], length}
use Rattle.plant_couplings.specs.declared.couplings.Plant.{Plant}
use Rattle.rig_model.specs.Base.{Setting}
use Rattle.rig_model.specs.Script.{past_after}
use Rattle.rig_model.specs.TextLines.{cut}
use Rattle.rig_model.specs.config.Roster.{Rig}
use Rattle.rig_retests.specs.Named.{AreNamed}
use Rattle.rig_script.specs.Courses.{has_tenant_in}
use Rattle.rig_script.specs.Given.{bad_line_of, texts_of}
use Rattle.rig_script.specs.declared.courses.Course.{Course}
use Rattle.run_comparisons.specs.Answers.{run_answers}
use Rattle.run_comparisons.specs.Changes.{changes_of, unnamed_tenants}
use Rattle.run_comparisons.specs.Texts.{text_of_comparison}
use Rattle.run_comparisons.specs.declared.changes.Scope.{Scope}

-- `old` and `new` are the bytes of two scripts, which are run from a new host on; answers are compared with the tolerance
module _ (setting : Setting) (plant : Plant) (scope : Scope) (tolerance : ℕ) (old new : List ℕ) where
  -- `names t s`: a retest of the new script names the tenant at place t after a change of the one at place s
  abbrev pub AreNames : (ℕ → ℕ → Bool) → Type 0
  AreNames names = AreNamed setting plant (past_after setting [] (cut new)) names

  -- this is printed, with the paths of the scripts
  abbrev pub IsPrinted : List ℕ → List ℕ → List ℕ → Type 0
  IsPrinted path other_path text =
      (names : ℕ → ℕ → Bool) × AreNames names × (text ≡ text_of_comparison tolerance setting.config path other_path (run_answers setting old) (run_answers setting new) scope names)

  -- these are the tenants that are compared and have other answers though no retest names them
  abbrev pub AreUnnamed : List ℕ → Type 0
  AreUnnamed tenants =
      (names : ℕ → ℕ → Bool) × AreNames names × (tenants ≡ unnamed_tenants names (changes_of tolerance (run_answers setting old) (run_answers setting new) (length setting.config.tenants)) scope)

-- how a script of these bytes went: which line ended it, if one did, and whether one of its lines is a tenant's
abbrev pub HasCourse : Rig → List ℕ → Course → Type 0
HasCourse config bytes course = (course.bad_line ≡ bad_line_of (cut bytes)) × (course.has_tenant ≡ has_tenant_in config (texts_of (cut bytes)))
