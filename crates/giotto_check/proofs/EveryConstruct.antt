-- The program with every construct, from its text: it is well-formed, its cost, and what three releases of its task compute.
use Rattle.std.proofs.Common.{◌≡◌, ℕ, ℤ, pos, negsuc, List, [], ◌∷◌, map, None, refl, codes}
use Rattle.std.specs.Prelude.{Ok, Err, Result}
use Rattle.giotto_tasks.specs.Meaning.{outputs_of, states_of}
use Rattle.giotto_rules.specs.declared.text.faults.ReadFault.{ReadFault}
use Rattle.giotto_rules.specs.text.Parsing.{parsed}
use Rattle.giotto_rules.specs.text.Program.{TaskDeclaration, GiottoProgram, body_of}
use Rattle.giotto_rules.specs.Rules.{first_broken_rule}
use Rattle.giotto_rules.specs.Costs.{greatest_cost_of}

abbrev every_construct_text : List ℕ
every_construct_text =
    codes "sensor s := 0 line 0; actuator a := 0; output o := 0; output q := 0; task T(i, j) output o, q state k := 1, l := 0 { o := -(!(i < 0)); repeat 416 { if (i > j) || (k == l) { k := k + (i * 3); } else { k := k - (j / 2); } if (!(k % 7)) && (l <= 100) { l := l + 1; } repeat 2 { o := o + (k != l); } } l := (l + (k % 5)) * (i - (j == 3)); q := (k * 1000) - (l >= (o + 1)); } mode m period 2 { actfreq 2 if o > 0 do a := q; taskfreq 1 if s != 7 do T(s, 3); } start m;"

abbrev program_in : Result GiottoProgram ReadFault → List GiottoProgram
program_in (Ok p) = p ∷ []
program_in (Err f) = []

abbrev every_construct : List GiottoProgram
every_construct = program_in (parsed every_construct_text)

every_construct_is_well_formed : map first_broken_rule every_construct ≡ None ∷ []
every_construct_is_well_formed = refl

every_construct_costs : map greatest_cost_of every_construct ≡ 10000 ∷ []
every_construct_costs = refl

abbrev tasks_of : List GiottoProgram → List TaskDeclaration
tasks_of [] = []
tasks_of (p ∷ ps) = p.tasks

-- the outputs and the states after a release with these inputs and states
abbrev computed : List ℤ → List ℤ → List (List ℤ × List ℤ)
computed inputs states = map (λ (t : TaskDeclaration). (outputs_of (body_of t) inputs states, states_of (body_of t) inputs states)) (tasks_of every_construct)

first_release : computed (pos 4 ∷ pos 3 ∷ []) (pos 1 ∷ pos 0 ∷ []) ≡ (pos 831 ∷ pos 4993000 ∷ [], pos 4993 ∷ pos 186 ∷ []) ∷ []
first_release = refl

second_release : computed (negsuc 1 ∷ pos 3 ∷ []) (pos 4993 ∷ pos 186 ∷ []) ≡ (pos 832 ∷ pos 4577000 ∷ [], pos 4577 ∷ negsuc 563 ∷ []) ∷ []
second_release = refl

third_release : computed (pos 9 ∷ pos 3 ∷ []) (pos 4577 ∷ negsuc 563 ∷ []) ≡ (pos 831 ∷ pos 15809000 ∷ [], pos 15809 ∷ negsuc 4007 ∷ []) ∷ []
third_release = refl
