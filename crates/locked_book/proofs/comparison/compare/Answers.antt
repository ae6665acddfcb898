use Rattle.std.proofs.Common.{◌≡◌, length, true, false, Bool, refl, sym, ap, ◌∙◌, subst}
use Rattle.std.proofs.lemmas.List.{get_or_default}
use Rattle.locked_book.specs.Books.{BookValue, IsMissing, PassValue, pass_at, has_seat}
use Rattle.locked_book.proofs.Comparisons.{no_pass}
use Rattle.locked_book.proofs.Places.{no_calls, no_places}
use Rattle.locked_book.proofs.comparison.compare.Goals as goal

true_from : (b : Bool) → (b ≡ false → ⊥) → b ≡ true
true_from true f = refl
true_from false f = absurd (f refl)

pub returns-in-Some-clause-mismatch : goal.returns-in-Some-clause-mismatch
returns-in-Some-clause-mismatch g c = λ host seat e.
    let i = c.in-Some.i in
    let passes = c.args.passes.now in
    let found = c.in-Some.ensures in
    let same : c.seat.result ≡ seat = cc in
    let read : c.index-passes-i.result ≡ pass_at passes i = c.index-passes-i.is ∙ get_or_default passes i c.index-passes-i.result no_pass found.within in
    record {
      place = i;
      within = found.within;
      its_seat = sym same ∙ (c.seat.ensures ∙ ap (λ (p : PassValue). p.seat) read);
      before = λ k lt. found.before host k lt;
      first = found.first host;
    }

pub returns-in-None-clause-all : goal.returns-in-None-clause-all
returns-in-None-clause-all g c = λ e host.
    let all = c.in_default.ensures in
    record {
      all = λ k lt. all.all refl host k lt;
      called = λ s called. true_from (has_seat c.args.passes.now s)
          (λ none. called (no_calls s c.args.log.now (sym (c.requires.places s) ∙ c.in-None.ensures.none refl s (all.marked refl s ∙ none))));
    }

pub returns-in-Some-first_missing-clause-missing : goal.returns-in-Some-first_missing-clause-missing
returns-in-Some-first_missing-clause-missing g c = λ host seat e.
    let all = c.in_default.ensures in
    let found = c.in-Some-first_missing.ensures in
    let s = c.in-Some-first_missing.seat in
    let book : BookValue = record { base = c.args.base.now; host = host; log = c.args.log.now; seats = length c.args.seats.now } in
    let same : s ≡ seat = cc in
    subst (IsMissing book c.args.passes.now) same
    (record {
      all = λ k lt. all.all refl host k lt;
      called = λ none. found.called (c.requires.places s ∙ no_places s c.args.log.now none);
      none = sym (all.marked refl s) ∙ found.unmarked;
      least = λ t lt called. true_from (has_seat c.args.passes.now t)
          (λ none. called (no_calls t c.args.log.now (sym (c.requires.places t) ∙ found.least t lt (all.marked refl t ∙ none))));
    })
