-- Two scripts that differ in one tenant's lines, computed from the definitions. A granted value is a guard, so `op work` completes different
-- jobs in each. A tenant that doesn't have that tenant as a source has the same replies in both.
use Rattle.std.proofs.Common.{◌≡◌, ℕ, ◌==◌, true, false, List, [], ◌∷◌, ◌++◌, refl, ap, ◌∙◌}
use Rattle.std.specs.Prelude.{codes}
use Rattle.std.specs.Char.{encode_utf8}
use Rattle.std.specs.Fmt.{digits}
use Rattle.std.specs.Str.{chars, is_utf8}
use Rattle.rig_model.specs.DifferingScripts.{without_lines_of, DifferInNoSource}
use Rattle.rig_model.specs.Script.{past_after, script_from}
use Rattle.rig_model.specs.Sources.{is_source, sources_of}
use Rattle.rig_model.specs.TenantReplies.{own_replies}
use Rattle.rig_model.proofs.of_text.Adder.{adder_text}
use Rattle.rig_laws.proofs.cited.TwoWorlds.{same_place}
use Rattle.rig_laws.proofs.FirstRun.{answered}
use Rattle.rig_laws.proofs.KeptRun.{three, three_rig}

-- alpha adds; beta drives its actuator with a number, and grants it to gamma, which has work while that is not 0
abbrev guarded : List ℕ → List (List ℕ)
guarded number =
    (codes "alpha load " ++ adder_text) ∷ codes "alpha start"
    ∷ (codes "beta load actuator a := " ++ (number ++ codes "; mode m period 1 { } start m;")) ∷ codes "beta offer a to gamma"
    ∷ codes "gamma load sensor g := 0 grant; task T() { } mode m period 1 { exitfreq 1 if g do n; } mode n period 1 { taskfreq 1 do T(); } start m;"
    ∷ codes "gamma bind g from beta.a" ∷ codes "gamma start"
    ∷ codes "op tick 5" ∷ codes "op work" ∷ codes "op tick 7" ∷ codes "op work" ∷ codes "op tick 9" ∷ codes "alpha show port a" ∷ codes "gamma show mode" ∷ []

-- the replies, by the number of jobs of each `op work` and by gamma's mode
abbrev replied : List ℕ → List ℕ → List ℕ → List ℕ
replied first second mode =
    answered (
    codes "alpha ok load" ∷ codes "alpha ok start" ∷ codes "beta ok load" ∷ codes "beta ok offer" ∷ codes "gamma ok load" ∷ codes "gamma ok bind" ∷ codes "gamma ok start"
    ∷ codes "op ok tick 0" ∷ (codes "op ok work " ++ first) ∷ codes "op ok tick 1" ∷ (codes "op ok work " ++ second) ∷ codes "op ok tick 2"
    ∷ codes "alpha ok port a 6" ∷ (codes "gamma ok mode running " ++ mode) ∷ []
    )

works_with_a_nine : script_from three_rig [] (guarded (codes "9")) ≡ replied (codes "2") (codes "1") (codes "n 0")
unfolding digits is_utf8 chars encode_utf8
works_with_a_nine = refl

works_with_a_zero : script_from three_rig [] (guarded (codes "0")) ≡ replied (codes "1") (codes "0") (codes "m 0")
unfolding digits is_utf8 chars encode_utf8
works_with_a_zero = refl

-- The two differ only in a line of beta, and alpha has no source but itself, so the law applies.
one_line_differs : without_lines_of three (λ u. u == 1) (guarded (codes "9")) ≡ without_lines_of three (λ u. u == 1) (guarded (codes "0"))
unfolding digits is_utf8 chars encode_utf8
one_line_differs = refl

own_source_alone : sources_of three_rig 0 (past_after three_rig [] (guarded (codes "9"))) [] ≡ 0 ∷ []
unfolding digits is_utf8 chars encode_utf8
own_source_alone = refl

no_source_is_beta : (u : ℕ) → (u == 1) ≡ true → is_source (0 ∷ []) u ≡ false
no_source_is_beta u e = ap (is_source (0 ∷ [])) (same_place u 1 e)

differ_in_no_source : DifferInNoSource three_rig (λ u. u == 1) 0 [] (guarded (codes "9")) (guarded (codes "0"))
differ_in_no_source = record { same_else = one_line_differs; no_source = λ u e. ap (λ (sources : List ℕ). is_source sources u) own_source_alone ∙ no_source_is_beta u e }

replies_with_a_nine : own_replies three_rig 0 [] (guarded (codes "9")) ≡ answered (codes "ok load" ∷ codes "ok start" ∷ codes "ok port a 6" ∷ [])
unfolding digits is_utf8 chars encode_utf8
replies_with_a_nine = refl

replies_with_a_zero : own_replies three_rig 0 [] (guarded (codes "0")) ≡ answered (codes "ok load" ∷ codes "ok start" ∷ codes "ok port a 6" ∷ [])
unfolding digits is_utf8 chars encode_utf8
replies_with_a_zero = refl

-- Gamma, which is bound to beta, has other replies.
consumer_with_a_nine : own_replies three_rig 2 [] (guarded (codes "9")) ≡ answered (codes "ok load" ∷ codes "ok bind" ∷ codes "ok start" ∷ codes "ok mode running n 0" ∷ [])
unfolding digits is_utf8 chars encode_utf8
consumer_with_a_nine = refl

consumer_with_a_zero : own_replies three_rig 2 [] (guarded (codes "0")) ≡ answered (codes "ok load" ∷ codes "ok bind" ∷ codes "ok start" ∷ codes "ok mode running m 0" ∷ [])
unfolding digits is_utf8 chars encode_utf8
consumer_with_a_zero = refl
