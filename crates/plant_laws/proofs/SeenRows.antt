-- What beta sees alone, computed from the definitions: alpha may read line 0, beta line 1.
use Rattle.std.proofs.Common.{◌≡◌, ℕ, ◌==◌, Bool, true, false, ℤ, pos, List, [], ◌∷◌, Some, refl}
use Rattle.std.specs.Prelude.{codes}
use Rattle.std.specs.Char.{encode_utf8}
use Rattle.std.specs.Fmt.{digits}
use Rattle.std.specs.Str.{chars, is_utf8}
use Rattle.plant_couplings.specs.declared.couplings.Plant.{Plant}
use Rattle.plant_laws.specs.Closed.{is_driven_by}
use Rattle.plant_laws.specs.Seen.{seen_frame, seen_of}
use Rattle.plant_laws.specs.SeenLines.{seen_lines, seen_text, seen_tick}
use Rattle.rig_model.specs.config.BuiltIn.{built_in_tenant}
use Rattle.rig_model.specs.config.Roster.{Rig}
use Rattle.rig_model.specs.declared.config.TenantConfig.{TenantConfig}
use Rattle.rig_model.specs.declared.events.Event.TheVariants.{Own, Tick}
use Rattle.rig_model.specs.declared.lines.commands.Command.{Command}

-- a tenant that may read these lines and drive those
abbrev with_lines : List ℕ → List ℕ → List ℕ → TenantConfig
with_lines name reads writes = let one = built_in_tenant name (codes "k") writes in record one { budgets = record one.budgets { reads = reads } }

abbrev two : Rig
two = record { lines = 2; tenants = with_lines (codes "alpha") (0 ∷ []) (0 ∷ []) ∷ with_lines (codes "beta") (1 ∷ []) [] ∷ [] }

abbrev beta : ℕ → Bool
beta t = t == 1

one_value : seen_frame two beta (pos 5 ∷ pos 7 ∷ []) ≡ pos 0 ∷ pos 7 ∷ []
one_value = refl

own_events : (c d : Command) → seen_of two beta (Own 0 c ∷ Tick (pos 5 ∷ pos 7 ∷ []) ∷ Own 1 d ∷ []) ≡ Tick (pos 0 ∷ pos 7 ∷ []) ∷ Own 1 d ∷ []
own_events c d = refl

own_lines : seen_lines two beta (codes "alpha start" ∷ codes "op tick 5 7" ∷ codes "beta start" ∷ codes "op work" ∷ [])
    ≡ seen_tick (pos 0 ∷ pos 7 ∷ []) ∷ seen_text (codes "beta start") ∷ seen_text (codes "op work") ∷ []
unfolding digits is_utf8 chars encode_utf8
own_lines = refl

-- what alpha drives on line 0 comes back on line 1
abbrev back : Plant
back = record { couplings = Some (record { from = 0 ∷ []; to = 1 ∷ [] } ∷ []) }

alpha_drives_beta : is_driven_by two back 1 0 ≡ true
alpha_drives_beta = refl

beta_does_not_drive_alpha : is_driven_by two back 0 1 ≡ false
beta_does_not_drive_alpha = refl
