use Rattle.std.proofs.Common.{List, ℕ, slice_index_or, sym, ap, ◌∙◌}
use Rattle.std.proofs.lemmas.Bool.{false≢true}
use Rattle.locked_book.proofs.bases.Base.is_same.Goals as goal

pub returns-then-not-has_same_calls : goal.returns-then-not-has_same_calls
returns-then-not-has_same_calls c = rw (← c.self.view_is, ← c.other.view_is) (
  λ h. absurd (false≢true h),
  λ is.
      let at : ℕ → List ℕ → ℕ = λ seat calls. slice_index_or calls seat 0 in
      let same = c.has_same_calls.ensures.1 (λ seat. ap (at seat) c.as_slice.ensures.value ∙ (is.calls seat ∙ ap (at seat) (sym c.as_slice-2.ensures.value))) in
      sym c.if-not-has_same_calls.true ∙ same,
)
