-- The two stages of a trial, and what is known of them.
use Rattle.std.proofs.Common.{◌≡◌, ℕ, ◌+◌, ◌<◌, Bool, true, List, [], ◌∷◌, ◌++◌, length, take, reverse, get_or, refl, sym, ap, subst, ◌∙◌, append_assoc, length-append, ◌≤◌, arith}
use Rattle.std.specs.Prelude.{slice_get}
use Rattle.std.proofs.lemmas.List.{length-reverse, reverse-append}
use Rattle.giotto_tasks.proofs.cited.ListLemmas.{reverse_more}
use Rattle.rig_model.specs.config.Roster.{Rig}
use Rattle.rig_model.specs.declared.jobs.JobId.{JobId}
use Rattle.rig_model.specs.Base.{new_base, Setting}
use Rattle.host_core.specs.HostStanding.{HostStanding}
use Rattle.rig_model.specs.Legal.{is_legal}
use Rattle.rig_model.specs.Plays.{IsSettingOf, IsTrial}
use Rattle.rig_model.specs.Sources.{is_source, sources_before, stays}
use Rattle.rig_model.specs.declared.events.Event.{Event}
use Rattle.host_core.specs.declared.plays.Stage.{Stage}
use Rattle.host_core.specs.declared.trials.Flow.{Flow}
use Rattle.host_core.specs.inner.Playing.{IsPlayed, IsStage}
use Rattle.host_core.specs.inner.Trials.{AllLeadBack, AreBoth, AreFlowsBefore, IsNoted, is_reached, marked, marks_from}
use Rattle.host_core.proofs.Flows.{lead_back}
use Rattle.host_core.proofs.Marks.{as_many_marks, kept_by_marks, mark_at}
use Rattle.host_core.proofs.SameMarks.{same_marks}
use Rattle.instant_engine.proofs.of_laws.TwoWorlds.{kept_answers}
use Rattle.instant_engine.proofs.of_laws.TwoWorlds.{kept_legal}

-- the setting of a new host of a configuration
abbrev pub setting_of : Rig → Setting
setting_of config = record { config = config; base = new_base config 0 }

pub is_setting_of : (config : Rig) → IsSettingOf config (setting_of config)
is_setting_of config = record { same_config = refl; new = refl }

-- one event backwards
marked_back : (setting : Setting) (events : List Event) (noted : List (List Flow)) (left : ℕ) (e : Event) (flows : List Flow) (sources before : List ℕ) (marks all : List Bool)
    → left < length events → left < length noted → e ≡ get_or events left e → flows ≡ get_or noted left flows
    → AllLeadBack setting (reverse (take (left + 1) events)) (reverse (take (left + 1) noted))
    → ((u : ℕ) → is_source before u ≡ is_reached sources flows u)
    → marks ++ marks_from setting sources (reverse (take (left + 1) events)) ≡ all
    → AllLeadBack setting (reverse (take left events)) (reverse (take left noted))
    × ((marks ++ stays sources e ∷ []) ++ marks_from setting before (reverse (take left events)) ≡ all)
marked_back setting events noted left e flows sources before marks all lt lt_noted is are lead reached so_far =
    let past = reverse (take left events) in
    let events_are : reverse (take (left + 1) events) ≡ e ∷ past = reverse_more events left e lt ∙ ap (λ x. x ∷ past) (sym is) in
    let noted_are : reverse (take (left + 1) noted) ≡ flows ∷ reverse (take left noted) = reverse_more noted left flows lt_noted ∙ ap (λ x. x ∷ reverse (take left noted)) (sym are) in
    let here : AllLeadBack setting (e ∷ past) (flows ∷ reverse (take left noted)) =
    subst (λ fs. AllLeadBack setting (e ∷ past) fs) noted_are (subst (λ es. AllLeadBack setting es (reverse (take (left + 1) noted))) events_are lead) in (
      here.1,
      append_assoc marks (stays sources e ∷ []) (marks_from setting before past)
          ∙ (ap (λ ms. marks ++ stays sources e ∷ ms) (same_marks setting past before (sources_before setting e past sources) (λ u. reached u ∙ here.0 sources u))
          ∙ (ap (λ es. marks ++ marks_from setting sources es) (sym events_are) ∙ so_far)),
    )

-- one event backwards, if this many events are left
pub one_back : (setting : Setting) (events : List Event) (noted : List (List Flow)) (now left : ℕ) (e : Event) (flows : List Flow) (sources before : List ℕ) (marks more all : List Bool)
    → now ≡ left + 1 → now ≤ length events → length noted ≡ length events → e ≡ get_or events left e → flows ≡ get_or noted left flows
    → AllLeadBack setting (reverse (take now events)) (reverse (take now noted)) × (marks ++ marks_from setting sources (reverse (take now events)) ≡ all)
    → ((u : ℕ) → is_source before u ≡ is_reached sources flows u)
    → more ≡ marks ++ stays sources e ∷ []
    → AllLeadBack setting (reverse (take left events)) (reverse (take left noted)) × (more ++ marks_from setting before (reverse (take left events)) ≡ all)
one_back setting events noted now left e flows sources before marks more all is_now le as_many is are so_far reached one_more =
    let back = marked_back setting events noted left e flows sources before marks all (omega (arith, is_now, le)) (omega (arith, is_now, le, as_many)) is are
    (subst (λ n. AllLeadBack setting (reverse (take n events)) (reverse (take n noted))) is_now so_far.0) reached
    (ap (λ n. marks ++ marks_from setting sources (reverse (take n events))) (sym is_now) ∙ so_far.1) in
    (back.0, ap (λ ms. ms ++ marks_from setting before (reverse (take left events))) one_more ∙ back.1)

-- one more note
pub noted_more : (e : Event) (stage : Stage) (host : HostStanding) (before after : List (List Flow)) (flows : List Flow) → host ≡ stage.host → AreFlowsBefore e host flows
    → after ≡ before ++ flows ∷ [] → IsNoted e stage before after
noted_more e stage host before after flows same are all = record {
  as_many = ap length all ∙ length-append before (flows ∷ []);
  lead_back = λ setting past played lead.
      subst (AllLeadBack setting (e ∷ past)) (sym (ap reverse all ∙ reverse-append before (flows ∷ [])))
      (lead_back setting past e stage.host stage.texts.items stage.released.keys flows played (subst (λ h. AreFlowsBefore e h flows) same are), lead);
}

-- the kept list of a legal list is legal
pub kept_plays : (setting : Setting) (events : List Event) (t : ℕ) (marks : List Bool) (host : HostStanding) (texts : List (List ℕ)) (released : List JobId)
    → IsPlayed setting (reverse events) host texts released → marks ≡ reverse (marks_from setting (t ∷ []) (reverse events)) → is_legal setting (reverse (marked events marks)) ≡ true
kept_plays setting events t marks host texts released played are =
    ap (is_legal setting) (kept_by_marks setting events t marks are) ∙ kept_legal setting played.base (reverse events) t played.legal

-- the stages of a list and of its marked events
pub are_both : (setting : Setting) (events : List Event) (t : ℕ) (whole kept : Stage) (marks read : List Bool) → IsStage setting (reverse events) whole
    → marks ≡ reverse (marks_from setting (t ∷ []) (reverse events)) → read ≡ marks → IsStage setting (reverse (marked events read)) kept → AreBoth setting events t whole kept marks
are_both setting events t whole kept marks read of_whole are same of_kept = record {
  of_whole = of_whole;
  of_kept = subst (λ past. IsStage setting past kept) (ap (λ ms. reverse (marked events ms)) same ∙ kept_by_marks setting events t marks are) of_kept;
  are_marks = are;
}

-- what a trial returns
pub is_trial : (setting : Setting) (events : List Event) (t : ℕ) (whole kept : Stage) (marks : List Bool) (of_whole of_kept : List ℕ) → AreBoth setting events t whole kept marks
    → t < length setting.config.tenants → of_whole ≡ get_or whole.texts.items t [] → of_kept ≡ get_or kept.texts.items t [] → IsTrial setting events t of_whole of_kept marks
is_trial setting events t whole kept marks of_whole of_kept both lt whole_is kept_is = record {
  legal = both.of_whole.legal;
  of_whole = whole_is ∙ both.of_whole.each t lt;
  of_kept = kept_is ∙ both.of_kept.each t lt;
  as_many =
      ap length both.are_marks
      ∙ (length-reverse (marks_from setting (t ∷ []) (reverse events)) ∙ (as_many_marks setting (reverse events) (t ∷ []) ∙ length-reverse events));
  each = λ later past e is.
      ap (λ ms. slice_get ms (length past)) both.are_marks
      ∙ (ap (λ es. slice_get (reverse (marks_from setting (t ∷ []) es)) (length past)) is ∙ mark_at setting later past e (t ∷ []));
}

-- the two texts are equal
pub same_texts : (setting : Setting) (events : List Event) (t : ℕ) (whole kept : List ℕ) (marks : List Bool) → IsTrial setting events t whole kept marks → kept ≡ whole
same_texts setting events t whole kept marks tried = tried.of_kept ∙ (kept_answers setting (reverse events) t ∙ sym tried.of_whole)
