-- Passes that are compared one by one.
use Rattle.std.proofs.Common.{◌≡◌, ◌≢◌, ◌<◌, ◌+◌, ℕ, ⊎_elim, Bool, true, false, ◌||◌, eqb, List, [], length, take, set, refl, sym, ap, ◌∙◌}
use Rattle.std.proofs.Math.ListN.{get_or}
use Rattle.std.proofs.lemmas.Bool.{cases_eq, eqb-true, eq-eqb}
use Rattle.std.proofs.lemmas.List.{get_or-set_same, get_or-set_other}
use Rattle.std.proofs.lemmas.List.Folds.{list_any_more}
use Rattle.giotto_tasks.proofs.cited.TestLemmas.{or_true, or_turned}
use Rattle.locked_book.specs.Books.{PassValue, has_seat, pass_at}

abbrev pub no_pass : PassValue
no_pass = record { seat = 0; calls = []; seen = 0 }

-- one more mark: the seat of the next pass
pub marked_on : (marks : List Bool) (passes : List PassValue) (i seat : ℕ) → ((s : ℕ) → get_or marks s false ≡ has_seat (take i passes) s)
    → i < length passes → seat ≡ (pass_at passes i).seat → seat < length marks
    → (s : ℕ) → get_or (set marks seat true) s false ≡ has_seat (take (i + 1) passes) s
marked_on marks passes i seat same within is given s = ⊎_elim here there (cases_eq s seat)
  where
    more : has_seat (take (i + 1) passes) s ≡ (has_seat (take i passes) s || eqb (pass_at passes i).seat s)
    more = list_any_more (λ (p : PassValue). eqb p.seat s) passes i no_pass within

    here : s ≡ seat → get_or (set marks seat true) s false ≡ has_seat (take (i + 1) passes) s
    here e =
        ap (λ k. get_or (set marks seat true) k false) e ∙ get_or-set_same marks seat true false given
        ∙ sym (more ∙ ap (λ b. has_seat (take i passes) s || b) (eq-eqb (pass_at passes i).seat s (sym is ∙ sym e)) ∙ or_true (has_seat (take i passes) s))

    not_test : s ≢ seat → eqb (pass_at passes i).seat s ≡ false
    not_test ne = by (eqb (pass_at passes i).seat s) refl
      where
        by : (b : Bool) → eqb (pass_at passes i).seat s ≡ b → b ≡ false
        by true e = absurd (ne (sym (is ∙ eqb-true (pass_at passes i).seat s e)))
        by false e = refl

    there : s ≢ seat → get_or (set marks seat true) s false ≡ has_seat (take (i + 1) passes) s
    there ne =
        get_or-set_other marks seat s true false ne ∙ same s
        ∙ sym (more ∙ ap (λ b. has_seat (take i passes) s || b) (not_test ne) ∙ or_turned (has_seat (take i passes) s) false)
