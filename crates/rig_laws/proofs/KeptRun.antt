-- The parts of lists that are kept for a tenant, and its sources, computed from the definitions.
use Rattle.std.proofs.Common.{◌≡◌, ℕ, List, [], ◌∷◌, ◌++◌, refl, true, reverse, map, take, drop}
use Rattle.std.specs.Prelude.{codes, None}
use Rattle.std.specs.Fmt.{digits}
use Rattle.rig_model.specs.config.BuiltIn.{built_in_tenant}
use Rattle.rig_model.specs.config.Roster.{Rig}
use Rattle.rig_model.specs.declared.lines.commands.Command.TheVariants.{Load, Start, Grants}
use Rattle.rig_model.specs.declared.lines.grant_lines.GrantCommand.TheVariants.{Offer, Unoffer, Unbind}
use Rattle.rig_model.specs.declared.events.Event.{Event}
use Rattle.rig_model.specs.declared.events.Event.TheVariants.{Own}
use Rattle.rig_model.specs.Answers.{answers_of}
use Rattle.rig_model.specs.Base.{new_base, Setting}
use Rattle.rig_model.specs.Legal.{is_legal}
use Rattle.rig_model.specs.Sources.{kept_of, sources_of}
use Rattle.rig_model.proofs.of_text.Adder.{adder_text}
use Rattle.rig_laws.proofs.FirstRun.{answered, tick, completed, shown, loaded_and_started, beside_beta}
use Rattle.rig_laws.proofs.GrantedRun.{consumer_text, bound_to, granted_run}
use Rattle.rig_laws.proofs.Rig.{rig}

abbrev unbound : ℕ → Event
unbound t = Own t (Grants (Unbind (codes "g")))

-- Beta is bound to alpha, so everything is kept for it.
pub granted_run_is_legal : is_legal rig (reverse granted_run) ≡ true
granted_run_is_legal = refl

pub all_is_kept_for_the_consumer : kept_of rig (reverse granted_run) 1 ≡ reverse granted_run
all_is_kept_for_the_consumer = refl

-- Alpha is bound to nobody, so none of beta's events is kept for it.
abbrev alpha_alone : List Event
alpha_alone =
    Own 0 (Load adder_text) ∷ Own 0 (Grants (Offer (codes "a") (codes "beta") None)) ∷ Own 0 Start ∷ tick 5 ∷ tick 7 ∷ completed 0 0 ∷ tick 9
    ∷ Own 0 (Grants (Unoffer (codes "a") (codes "beta"))) ∷ tick 11 ∷ []

pub supplier_is_kept_alone : kept_of rig (reverse granted_run) 0 ≡ reverse alpha_alone
supplier_is_kept_alone = refl

pub supplier_alone_is_answered : answers_of rig (reverse alpha_alone) 0 ≡ answered (codes "ok load" ∷ codes "ok offer" ∷ codes "ok start" ∷ codes "ok unoffer" ∷ [])
unfolding digits
supplier_alone_is_answered = refl

-- Nobody is bound: a tenant's own completion is kept, and the other tenant's isn't.
pub own_completion_is_kept : kept_of rig (reverse beside_beta) 0 ≡ reverse (loaded_and_started 0 ++ tick 5 ∷ tick 7 ∷ completed 0 0 ∷ tick 9 ∷ shown 0 (codes "a") ∷ [])
own_completion_is_kept = refl

-- The bind exists only before the first instant, without an offer. The supplier counts up to there: its load is kept, and its start isn't.
abbrev bound_at_first : List Event → List Event
bound_at_first start =
    Own 0 (Load adder_text) ∷ Own 1 (Load consumer_text) ∷ bound_to 1 (codes "alpha") ∷ Own 1 Start ∷ tick 5
    ∷ unbound 1 ∷ (start ++ tick 5 ∷ shown 1 (codes "g") ∷ [])

pub bound_at_first_is_legal : is_legal rig (reverse (bound_at_first (Own 0 Start ∷ []))) ≡ true
bound_at_first_is_legal = refl

pub load_is_kept_and_start_is_not : kept_of rig (reverse (bound_at_first (Own 0 Start ∷ []))) 1 ≡ reverse (bound_at_first [])
load_is_kept_and_start_is_not = refl

pub whole_is_answered : answers_of rig (reverse (bound_at_first (Own 0 Start ∷ []))) 1
    ≡ answered (codes "ok load" ∷ codes "ok bind" ∷ codes "ok start" ∷ codes "ok unbind" ∷ codes "ok port g -1" ∷ [])
unfolding digits
whole_is_answered = refl

pub kept_is_answered : answers_of rig (reverse (bound_at_first [])) 1
    ≡ answered (codes "ok load" ∷ codes "ok bind" ∷ codes "ok start" ∷ codes "ok unbind" ∷ codes "ok port g -1" ∷ [])
unfolding digits
kept_is_answered = refl

-- A bind that is removed before any instant adds no source.
pub undone_bind_adds_none : kept_of rig (reverse (Own 0 (Load adder_text) ∷ bound_to 1 (codes "alpha") ∷ unbound 1 ∷ tick 5 ∷ [])) 1
    ≡ reverse (bound_to 1 (codes "alpha") ∷ unbound 1 ∷ tick 5 ∷ [])
undone_bind_adds_none = refl

-- A late completion of a source is kept: the supplier overran at the third instant.
abbrev late : List Event
late =
    loaded_and_started 0 ++ Own 1 (Load consumer_text) ∷ bound_to 1 (codes "alpha") ∷ Own 1 Start ∷ tick 5 ∷ tick 7 ∷ tick 9 ∷ completed 0 0 ∷ tick 11
    ∷ shown 1 (codes "g") ∷ []

pub late_is_legal : is_legal rig (reverse late) ≡ true
late_is_legal = refl

pub late_completion_is_kept : kept_of rig (reverse late) 1 ≡ reverse late
late_completion_is_kept = refl

-- Three tenants in a chain: gamma is bound to beta, and beta to alpha.
abbrev pub three : Rig
three = record {
  lines = 1;
  tenants = built_in_tenant (codes "alpha") (codes "ka") [] ∷ built_in_tenant (codes "beta") (codes "kb") [] ∷ built_in_tenant (codes "gamma") (codes "kc") [] ∷ [];
}

abbrev pub three_rig : Setting
three_rig = record { config = three; base = new_base three 0 }

-- Beta's bind exists only before the first of three instants, and gamma's before all.
abbrev chained : List Event
chained =
    bound_to 1 (codes "alpha") ∷ bound_to 2 (codes "beta") ∷ tick 0 ∷ Own 0 (Load adder_text) ∷ unbound 1 ∷ tick 0 ∷ Own 1 (Load consumer_text) ∷ tick 0
    ∷ Own 0 Start ∷ Own 2 (Load consumer_text) ∷ []

pub chained_is_legal : is_legal three_rig (reverse chained) ≡ true
chained_is_legal = refl

-- gamma's sources after this many of these events
abbrev sources_behind : ℕ → List ℕ
sources_behind n = sources_of three_rig 2 (reverse (drop n chained)) (reverse (take n chained))

-- Backwards, from the tenth event on: gamma alone; beta before the third instant; alpha before the first.
pub sources_at_each_place : map sources_behind (10 ∷ 9 ∷ 8 ∷ 7 ∷ 6 ∷ 5 ∷ 4 ∷ 3 ∷ 2 ∷ 1 ∷ 0 ∷ [])
    ≡ (2 ∷ []) ∷ (2 ∷ []) ∷ (2 ∷ []) ∷ (2 ∷ 1 ∷ []) ∷ (2 ∷ 1 ∷ []) ∷ (2 ∷ 1 ∷ 1 ∷ []) ∷ (2 ∷ 1 ∷ 1 ∷ []) ∷ (2 ∷ 1 ∷ 1 ∷ [])
    ∷ (2 ∷ 1 ∷ 1 ∷ 1 ∷ 0 ∷ 0 ∷ []) ∷ (2 ∷ 1 ∷ 1 ∷ 1 ∷ 0 ∷ 0 ∷ []) ∷ (2 ∷ 1 ∷ 1 ∷ 1 ∷ 0 ∷ 0 ∷ []) ∷ []
sources_at_each_place = refl

-- Alpha's events come after the only instant before which beta is bound to it, so they are left out.
pub chain_is_kept : kept_of three_rig (reverse chained) 2
    ≡ reverse (bound_to 1 (codes "alpha") ∷ bound_to 2 (codes "beta") ∷ tick 0 ∷ unbound 1 ∷ tick 0 ∷ Own 1 (Load consumer_text) ∷ tick 0 ∷ Own 2 (Load consumer_text) ∷ [])
chain_is_kept = refl
