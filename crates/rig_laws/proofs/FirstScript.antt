-- Scripts, from their bytes to the bytes that answer them, computed from the definitions.
use Rattle.std.proofs.Common.{◌≡◌, ℕ, List, [], ◌∷◌, ◌++◌, refl}
use Rattle.std.specs.Prelude.{codes}
use Rattle.std.specs.Char.{encode_utf8}
use Rattle.std.specs.Fmt.{digits}
use Rattle.std.specs.List.{flat_map}
use Rattle.std.specs.Str.{chars, is_utf8}
use Rattle.rig_model.proofs.of_text.Adder.{adder_text}
use Rattle.rig_laws.proofs.Rig.{rig}
use Rattle.rig_model.specs.Script.{script_text_of, memory_reply}

-- lines, each followed by LF
abbrev lines : List (List ℕ) → List ℕ
lines ls = flat_map (λ l. l ++ 10 ∷ []) ls

first_script : script_text_of rig (lines (
    (codes "alpha load " ++ adder_text) ∷ codes "alpha start" ∷ codes "op tick 5" ∷ codes "op tick 7" ∷ codes "op work" ∷ codes "op tick 9" ∷ codes "alpha show port a" ∷ []))
    ≡ lines (codes "alpha ok load" ∷ codes "alpha ok start" ∷ codes "op ok tick 0" ∷ codes "op ok tick 1" ∷ codes "op ok work 1" ∷ codes "op ok tick 2" ∷ codes "alpha ok port a 6" ∷ [])
unfolding digits is_utf8 chars encode_utf8
first_script = refl

-- A frame needs a value for each line. A refused tick isn't counted.
bad_frame : script_text_of rig (lines (codes "op tick" ∷ codes "op tick 5" ∷ [])) ≡ lines (codes "op err bad-frame" ∷ codes "op ok tick 0" ∷ [])
unfolding digits is_utf8 chars encode_utf8
bad_frame = refl

-- `op work` works for one tenant, by its name, or for all.
work_of_one : script_text_of rig (lines (
    (codes "alpha load " ++ adder_text) ∷ codes "alpha start" ∷ (codes "beta load " ++ adder_text) ∷ codes "beta start" ∷ codes "op tick 5"
    ∷ codes "op work alpha" ∷ codes "op work alpha" ∷ codes "op work nobody" ∷ codes "op work alpha beta" ∷ codes "op work" ∷ codes "op work beta" ∷ []))
    ≡ lines (codes "alpha ok load" ∷ codes "alpha ok start" ∷ codes "beta ok load" ∷ codes "beta ok start" ∷ codes "op ok tick 0"
    ∷ codes "op ok work 1" ∷ codes "op ok work 0" ∷ codes "op err who" ∷ codes "op err bad-command" ∷ codes "op ok work 1" ∷ codes "op ok work 0" ∷ [])
unfolding digits is_utf8 chars encode_utf8
work_of_one = refl

-- The speaker is checked before the rest of the line. Blank lines have no reply. A CR before LF and a missing last LF don't matter.
speakers : script_text_of rig (lines (codes "nobody fly" ∷ codes "alpha" ∷ codes "op" ∷ codes "  " ∷ codes "alpha fly" ∷ codes "op work 9x" ∷ []) ++ (13 ∷ 10 ∷ codes "alpha start" ++ 13 ∷ []))
    ≡ lines (codes "host err who" ∷ codes "alpha err bad-command" ∷ codes "op err bad-command" ∷ codes "alpha err bad-command" ∷ codes "op err bad-command" ∷ codes "alpha err not-loaded" ∷ [])
unfolding digits is_utf8 chars encode_utf8
speakers = refl

-- A line that is not UTF-8 ends the script.
no_text : script_text_of rig (lines (codes "alpha start" ∷ (0xff ∷ []) ∷ codes "alpha start" ∷ [])) ≡ lines (codes "alpha err not-loaded" ∷ codes "host bye bad-line" ∷ [])
unfolding digits is_utf8 chars encode_utf8
no_text = refl

-- If memory is refused, the reply says so under the name that would have answered.
no_memory_for_a_tenant : memory_reply rig (codes "\talpha start") ≡ codes "alpha err memory" ++ 10 ∷ []
no_memory_for_a_tenant = refl

no_memory_for_the_operator : memory_reply rig (codes "op work") ≡ codes "op err memory" ++ 10 ∷ []
no_memory_for_the_operator = refl

no_memory_for_nobody : memory_reply rig (codes "nobody fly") ≡ codes "host err memory" ++ 10 ∷ []
no_memory_for_nobody = refl
