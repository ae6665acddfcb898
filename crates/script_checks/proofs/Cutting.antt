-- The lines of some bytes, one line further.
use Rattle.std.proofs.Common.{◌≡◌, ◌≢◌, ◌-◌, ◌<◌, ◌==◌, ◌∙◌, ℕ, suc, Bool, true, false, true≢false, nat_lt, if◌then◌else◌, List, [], ◌∷◌, ◌++◌, Option, Some, None, IfSome, length, take, refl, sym, ap, subst, append_assoc, append-nil, arith}
use Rattle.std.proofs.lemmas.Bool.Decides.{nat_tests}
use Rattle.std.proofs.lemmas.List.Elements.{All-cons, All-head, All-nil, All-tail}
use Rattle.std.specs.Io.{StopsAt}
use Rattle.std.specs.Io.BufRead.{DropsThrough, drop_through, ends_with_byte, strip_last, take_through}
use Rattle.std.specs.Io.KnownBytes.{Consumes, IsAtEnd}
use Rattle.rig_model.specs.TextLines.{cut}
use Rattle.script_checks.specs.inner.Reading.{HasNoLf, IsNextLine}

abbrev IsOther : ℕ → Type 0
IsOther c = c ≢ 10

no_lf : (c : ℕ) → c ≢ 10 → (c == 10) ≡ false
no_lf c other = grind (arith, nat_tests, other)

-- what comes before the first LF is the first line
cut_once : (line rest : List ℕ) → HasNoLf line → cut ((line ++ 10 ∷ []) ++ rest) ≡ line ∷ cut rest
cut_once [] rest none = refl
cut_once (c ∷ cs) rest none = rw (no_lf c (All-head IsOther c cs none), cut_once cs rest (All-tail IsOther c cs none)) refl

-- bytes without an LF are one line
cut_last : (c : ℕ) (cs : List ℕ) → HasNoLf (c ∷ cs) → cut (c ∷ cs) ≡ (c ∷ cs) ∷ []
cut_last c [] none = rw (no_lf c (All-head IsOther c [] none)) refl
cut_last c (d ∷ ds) none = rw (no_lf c (All-head IsOther c (d ∷ ds) none), cut_last d ds (All-tail IsOther c (d ∷ ds) none)) refl

positive : (c : ℕ) (cs : List ℕ) → nat_lt 0 (length (c ∷ cs)) ≡ true
positive c cs = grind (arith, nat_tests)

one_less : (c d : ℕ) (ds : List ℕ) → length (c ∷ d ∷ ds) - 1 ≡ suc (length (d ∷ ds) - 1)
one_less c d ds = omega arith

-- how bytes end, with one more before them
ends_more : (c : ℕ) (cs : List ℕ) → 0 < length cs → ends_with_byte 10 (c ∷ cs) ≡ ends_with_byte 10 cs
ends_more c [] some = absurd (omega (arith, some))
ends_more c (d ∷ ds) some = rw (one_less c d ds, positive c (d ∷ ds), positive d ds) refl

-- bytes that end with an LF
before_lf : (xs : List ℕ) → ends_with_byte 10 xs ≡ true → xs ≡ take (length xs - 1) xs ++ 10 ∷ []
before_lf [] ends = absurd (true≢false (sym ends))
before_lf (c ∷ []) ends = let is : c ≡ 10 = grind (arith, nat_tests, ends) in ap (λ b. b ∷ []) is
before_lf (c ∷ d ∷ ds) ends =
    let later = before_lf (d ∷ ds) (sym (ends_more c (d ∷ ds) (omega arith)) ∙ ends) in
    rw (one_less c d ds) (ap (λ l. c ∷ l) later)

-- bytes that don't
all_but_last : (xs : List ℕ) → StopsAt xs 10 → ends_with_byte 10 xs ≡ false → HasNoLf xs
all_but_last [] stops ends = All-nil IsOther
all_but_last (c ∷ []) stops ends = All-cons IsOther c [] (λ is. true≢false (sym (ap (λ b. b == 10) is) ∙ ends)) (All-nil IsOther)
all_but_last (c ∷ d ∷ ds) stops ends =
    let more : HasNoLf (c ∷ take (length (d ∷ ds) - 1) (d ∷ ds)) = rw (one_less c d ds) at stops in
    All-cons IsOther c (d ∷ ds) (All-head IsOther c _ more) (all_but_last (d ∷ ds) (All-tail IsOther c _ more) (sym (ends_more c (d ∷ ds) (omega arith)) ∙ ends))

some_through : (c : ℕ) (cs : List ℕ) → 0 < length (take_through 10 (c ∷ cs))
some_through c cs = by (c == 10) refl
  where
    by : (b : Bool) → (c == 10) ≡ b → 0 < length (take_through 10 (c ∷ cs))
    by true e = rw e (omega arith)
    by false e = rw e (omega arith)

-- after a line without LF nothing is left
nothing_left : (xs : List ℕ) → ends_with_byte 10 (take_through 10 xs) ≡ false → drop_through 10 xs ≡ []
nothing_left [] ends = refl
nothing_left (c ∷ []) ends = by (c == 10) refl
  where
    by : (b : Bool) → (c == 10) ≡ b → drop_through 10 (c ∷ []) ≡ []
    by true e = rw e refl
    by false e = rw e refl
nothing_left (c ∷ d ∷ ds) ends = by (c == 10) refl ends (nothing_left (d ∷ ds))
  where
    by : (b : Bool) → (c == 10) ≡ b → ends_with_byte 10 (take_through 10 (c ∷ d ∷ ds)) ≡ false
        → (ends_with_byte 10 (take_through 10 (d ∷ ds)) ≡ false → drop_through 10 (d ∷ ds) ≡ []) → drop_through 10 (c ∷ d ∷ ds) ≡ []
    by true e ends later = absurd (true≢false (sym e ∙ (rw e at ends)))
    by false e ends later = rw e (later (sym (ends_more c (take_through 10 (d ∷ ds)) (some_through d ds)) ∙ (rw e at ends)))

-- what a read through the next LF gives
pub next_line : (old new : Option (List ℕ)) (full line : List ℕ) (whole : Bool) → StopsAt full 10 → Consumes old new full → IfSome old (λ all. full ≡ take_through 10 all) → DropsThrough old new 10
    → whole ≡ ends_with_byte 10 full → line ≡ strip_last 10 full → IsNextLine old new whole line
next_line old new full line whole stops taken known rest is stripped = by whole (sym is)
  where
    at_end : (o : Option (List ℕ)) → IfSome o (λ all. full ≡ take_through 10 all) → DropsThrough o new 10 → ends_with_byte 10 full ≡ false → IfSome o (λ all. IsAtEnd new)
    at_end None known rest ends = known
    at_end (Some all) known rest ends = subst IsAtEnd (sym (rest ∙ ap Some (nothing_left all (sym (ap (ends_with_byte 10) known) ∙ ends)))) refl

    by : (b : Bool) → ends_with_byte 10 full ≡ b → IsNextLine old new b line
    by true ends =
        let same : line ≡ take (length full - 1) full = stripped ∙ ap (λ (b : Bool). if b then take (length full - 1) full else full) ends in
        let again : full ≡ line ++ 10 ∷ [] = before_lf full ends ∙ ap (λ (l : List ℕ). l ++ 10 ∷ []) (sym same) in
        (subst HasNoLf (sym same) stops, subst (Consumes old new) again taken, λ e. absurd (true≢false e))
    by false ends =
        let same : line ≡ full = stripped ∙ ap (λ (b : Bool). if b then take (length full - 1) full else full) ends in
        (subst HasNoLf (sym same) (all_but_last full stops ends), subst (Consumes old new) (sym same) taken, λ e. at_end old known rest ends)

-- bytes that were taken one after the other
pub taken_both : (old now new : Option (List ℕ)) (first second : List ℕ) → Consumes old now first → Consumes now new second → Consumes old new (first ++ second)
taken_both None now new first second a b = a
taken_both (Some xs) None new first second a b = absurd a
taken_both (Some xs) (Some ys) None first second a b = absurd b
taken_both (Some xs) (Some ys) (Some zs) first second a b = a ∙ (ap (λ (l : List ℕ). first ++ l) b ∙ sym (append_assoc first second zs))

-- bytes up to the end of what a reader has are all that it had
pub all_taken : (old now new : Option (List ℕ)) (first last : List ℕ) → Consumes old now first → Consumes now new last → IfSome now (λ all. IsAtEnd new) → IfSome old (λ all. all ≡ first ++ last)
all_taken None now new first last a b ended = a
all_taken (Some xs) None new first last a b ended = absurd a
all_taken (Some xs) (Some ys) None first last a b ended = absurd b
all_taken (Some xs) (Some ys) (Some zs) first last a b ended = a ∙ ap (λ (l : List ℕ). first ++ l) (b ∙ (ap (λ (l : List ℕ). last ++ l) ended ∙ append-nil last))

-- the lines of what was taken, with the next line
pub cut_more : (taken line : List ℕ) (lines : List (List ℕ)) → ((rest : List ℕ) → cut (taken ++ rest) ≡ lines ++ cut rest) → HasNoLf line
    → (rest : List ℕ) → cut ((taken ++ (line ++ 10 ∷ [])) ++ rest) ≡ (lines ++ line ∷ []) ++ cut rest
cut_more taken line lines so_far none rest =
    ap cut (append_assoc taken (line ++ 10 ∷ []) rest) ∙ (so_far ((line ++ 10 ∷ []) ++ rest) ∙ (ap (λ (l : List (List ℕ)). lines ++ l) (cut_once line rest none) ∙ sym (append_assoc lines (line ∷ []) (cut rest))))

-- the lines of all bytes, the last of which has no LF
pub cut_to_end : (taken line : List ℕ) (lines : List (List ℕ)) → ((rest : List ℕ) → cut (taken ++ rest) ≡ lines ++ cut rest) → HasNoLf line → 0 < length line → cut (taken ++ line) ≡ lines ++ line ∷ []
cut_to_end taken [] lines so_far none some = absurd (omega (arith, some))
cut_to_end taken (c ∷ cs) lines so_far none some = so_far (c ∷ cs) ∙ ap (λ (l : List (List ℕ)). lines ++ l) (cut_last c cs none)
