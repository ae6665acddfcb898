-- Texts and their canonical texts.
use Rattle.std.proofs.Common.{◌≡◌, List, ℕ, ◌++◌, Ok, codes, refl}
use Rattle.std.specs.Fmt.{digits}
use Rattle.std.specs.Result.{result_map_both}
use Rattle.giotto_text.specs.Canonical.{canonical_of}
use Rattle.giotto_text.specs.Parsing.{parsed}
use Rattle.giotto_text.proofs.cited.Adder.{adder}

pub canonical_adder : canonical_of adder ≡ codes "sensor s := 0 line 0 ; actuator a := 0 ; output o := 0 ; task T ( i ) output o { o := i + 1 ; } mode m period 2 { actfreq 1 do a := o ; taskfreq 1 do T ( s ) ; } start m ;"
unfolding digits
canonical_adder = refl

-- a text that uses each rule of the canonical text
abbrev each_rule : List ℕ
each_rule =
    codes "sensor s := -007 line 00;\noutput o := -0;\ntask T(i) output o { if ((i > 3)) { o := (i * (2)) + (-1); } else { } }\n"
    ++ codes "mode m period 02 { exitfreq 1 if (s) do m { }; taskfreq 1 do T((s)); }\nstart m;"

pub canonical_each_rule : result_map_both canonical_of (λ f. f) (parsed each_rule)
    ≡ Ok (codes "sensor s := - 7 line 0 ; output o := 0 ; task T ( i ) output o { if i > 3 { o := ( i * 2 ) + ( - 1 ) ; } } mode m period 2 { exitfreq 1 if s do m ; taskfreq 1 do T ( s ) ; } start m ;")
unfolding digits
canonical_each_rule = refl
