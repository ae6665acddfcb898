use Rattle.std.proofs.Common.{◌≡◌, ◌<◌, ◌≤◌, ℤ, List, [], ◌∷◌, length, map, slice_index_or, refl, sym, ap, ◌∙◌, subst, arith, rules, w64, SFits}
use Rattle.std.proofs.lemmas.Int.{to_z-of_z}
use Rattle.std.proofs.lemmas.List.{take_all}
use Rattle.giotto_tasks.specs.Meaning.{value_of}
use Rattle.giotto_tasks.specs.Syntax.{Expression}
use Rattle.rig_model.specs.text.Program.{GiottoProgram}
use Rattle.giotto_check.specs.cited.Slots.{slots_of}
use Rattle.giotto_check.specs.Slots.{valuation_of}
use Rattle.giotto_check.specs.cited.Timetables.{AreEach, IsExpression, value_over}
use Rattle.giotto_check.specs.declared.timetables.SlotExpr.{SlotExpr}
use Rattle.tenant_slots.proofs.tasks.argument_values.Goals as goal

same_values : (p : GiottoProgram) (values : List ℤ) (es : List Expression) (as' : List SlotExpr) → AreEach (IsExpression p) es as' → length values ≡ slots_of p
    → map (λ (a : SlotExpr). value_over a values) as' ≡ map (λ e. value_of e (valuation_of p values)) es
same_values p values [] [] each long = refl
same_values p values [] (a ∷ as') each long = absurd each
same_values p values (e ∷ es) [] each long = absurd each
same_values p values (e ∷ es) (a ∷ as') each long = rw (each.0 values long, same_values p values es as' each.1 long) refl

one_is : (xs : List SlotExpr) (x : SlotExpr) → 1 ≤ length xs → length xs < 2 → x ≡ slice_index_or xs 0 x → xs ≡ x ∷ []
one_is [] x least most is = absurd (omega (arith, least))
one_is (y ∷ []) x least most is = ap (λ z. z ∷ []) (sym is)
one_is (y ∷ z ∷ zs) x least most is = absurd (omega (arith, most))

pub returns-in-len1 : goal.returns-in-len1
returns-in-len1 c = λ p es each long.
    let one = one_is c.args.arguments.now c.argument-item.result c.in-len1.len_at_least c.in-len1.len_below c.argument-item.is in
    let fits : SFits w64 c.slot_value.result = search rules in
    let put : c.set.new.self ≡ c.slot_value.result ∷ [] = rw (to_z-of_z w64 c.slot_value.result fits) at c.set.ensures in
    put ∙ (ap (λ v. v ∷ []) c.slot_value.ensures ∙ same_values p c.args.values.now es (c.argument-item.result ∷ []) (subst (AreEach (IsExpression p) es) one each) long)

pub returns : goal.returns
returns c = λ p es each long.
    c.loop-argument.invariant ∙ ap (map (λ (a : SlotExpr). value_over a c.args.values.now)) (take_all c.loop-argument.argument-index c.args.arguments.now c.loop-argument-test.false) ∙ same_values p c.args.values.now es _ each long
