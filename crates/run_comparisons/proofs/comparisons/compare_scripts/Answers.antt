use Rattle.std.proofs.Common.{◌≡◌, ◌∙◌, List, [], ap, length, map, sym}
use Rattle.rig_model.specs.Script.{past_after}
use Rattle.rig_model.specs.TextLines.{cut}
use Rattle.rig_model.specs.config.Roster.{Rig}
use Rattle.rig_retests.specs.Named.{is_named_by}
use Rattle.run_comparisons.specs.Answers.{RunAnswer, run_answers}
use Rattle.run_comparisons.specs.Changes.{changes_of, unnamed_tenants}
use Rattle.run_comparisons.specs.Texts.{text_of_comparison}
use Rattle.run_comparisons.proofs.comparisons.compare_scripts.Goals as goal

pub returns-clause-text : goal.returns-clause-text
returns-clause-text c = λ setting of.
    let past = past_after setting [] (cut c.args.new.now.bytes.now) in
    let path = c.args.old.now.path.now in
    let other_path = c.args.new.now.path.now in
    let names = is_named_by c.args.plant.now c.in_ok-reach.reach c.in_ok-retests.retests.links in
    let table = c.in_ok-retests.ensures.sources setting of in
    let are_names = c.reached_are_named.ensures setting c.args.plant.now past c.in_ok-reach.reach c.in_ok-retests.retests.links table (c.in_ok-reach.ensures setting past of.same_config table) in
    let before : c.as_slice.result.now ≡ run_answers setting c.args.old.now.bytes.now = c.as_slice.ensures.value ∙ c.in_ok-before.ensures.answers setting of in
    let after : c.as_slice-2.result.now ≡ run_answers setting c.args.new.now.bytes.now = c.as_slice-2.ensures.value ∙ c.in_ok-after.ensures.answers setting of in (
      names,
      are_names,
      c.in_ok-compare_runs.ensures.text
          ∙ (ap (λ (r : Rig). text_of_comparison c.args.tolerance r path other_path c.as_slice.result.now c.as_slice-2.result.now c.args.scope names) (sym of.same_config)
          ∙ (ap (λ (answers : List RunAnswer). text_of_comparison c.args.tolerance setting.config path other_path answers c.as_slice-2.result.now c.args.scope names) before
          ∙ ap (λ (answers : List RunAnswer). text_of_comparison c.args.tolerance setting.config path other_path (run_answers setting c.args.old.now.bytes.now) answers c.args.scope names) after)),
    )

pub returns-clause-unnamed : goal.returns-clause-unnamed
returns-clause-unnamed c = λ setting of.
    let past = past_after setting [] (cut c.args.new.now.bytes.now) in
    let names = is_named_by c.args.plant.now c.in_ok-reach.reach c.in_ok-retests.retests.links in
    let table = c.in_ok-retests.ensures.sources setting of in
    let are_names = c.reached_are_named.ensures setting c.args.plant.now past c.in_ok-reach.reach c.in_ok-retests.retests.links table (c.in_ok-reach.ensures setting past of.same_config table) in
    let before : c.as_slice.result.now ≡ run_answers setting c.args.old.now.bytes.now = c.as_slice.ensures.value ∙ c.in_ok-before.ensures.answers setting of in
    let after : c.as_slice-2.result.now ≡ run_answers setting c.args.new.now.bytes.now = c.as_slice-2.ensures.value ∙ c.in_ok-after.ensures.answers setting of in (
      names,
      are_names,
      c.in_ok-compare_runs.ensures.unnamed
          ∙ (ap (λ (r : Rig). unnamed_tenants names (changes_of c.args.tolerance c.as_slice.result.now c.as_slice-2.result.now (length r.tenants)) c.args.scope) (sym of.same_config)
          ∙ (ap (λ (answers : List RunAnswer). unnamed_tenants names (changes_of c.args.tolerance answers c.as_slice-2.result.now (length setting.config.tenants)) c.args.scope) before
          ∙ ap (λ (answers : List RunAnswer). unnamed_tenants names (changes_of c.args.tolerance (run_answers setting c.args.old.now.bytes.now) answers (length setting.config.tenants)) c.args.scope) after)),
    )

pub returns-clause-courses : goal.returns-clause-courses
returns-clause-courses c = λ setting of.
    let before = c.in_ok-before.ensures.course setting of in
    let after = c.in_ok-after.ensures.course setting of in
    ((before.0.0, before.1), (after.0.0, after.1))
