use Rattle.std.proofs.Common.{◌≡◌, ◌∷◌, [], ◌++◌, List, ℤ, arith, map, sym, ap, ◌∙◌, subst, rules, w64, SFits}
use Rattle.std.specs.List.{range_with_len}
use Rattle.std.proofs.lemmas.Int.{to_z-of_z}
use Rattle.std.proofs.lemmas.List.FromFn.{map-range_with_len_more}
use Rattle.rig_model.specs.config.Roster.{Rig}
use Rattle.rig_model.specs.HostState.{row_at}
use Rattle.rig_model.specs.LineValues.{value_of_line}
use Rattle.host_core.specs.HostStanding.{Stands}
use Rattle.locked_book.specs.Books.{BookValue}
use Rattle.locked_book.proofs.books.Book.lines.Goals as goal

pub loop-line-preserved : goal.loop-line-preserved
loop-line-preserved g c = λ setting state st.
    let fits : SFits w64 c.line_value.result = search rules in
    let inside = subst (λ (b : BookValue). Stands setting b.host state) (sym c.self.view_is) st in
    (rw (to_z-of_z w64 c.line_value.result fits) at c.in_ok-push.ensures.items)
    ∙ (ap (λ (xs : List ℤ). xs ++ c.line_value.result ∷ []) (c.loop-line.invariant setting state st)
    ∙ (ap (λ z. map (value_of_line setting.config (row_at state)) (range_with_len 0 c.loop-line.line) ++ z ∷ []) (c.line_value.ensures.rows setting state inside)
    ∙ sym (map-range_with_len_more (value_of_line setting.config (row_at state)) 0 c.loop-line.line c.loop-line.line (omega arith))))

pub returns : goal.returns
returns g c = λ setting state st.
    let same = c.lines-lines.ensures.value ∙ (ap (λ (r : Rig). r.lines) c.config.ensures ∙ (ap (λ (b : BookValue). b.host.config.lines) c.self.view_is ∙ ap (λ (r : Rig). r.lines) st.same_config)) in
    let least = c.loop-line-test.false in
    let most = c.loop-line.auto.line-end in
    let end : c.loop-line.line ≡ setting.config.lines = omega (arith, same, least, most) in
    c.loop-line.invariant setting state st ∙ ap (λ n. map (value_of_line setting.config (row_at state)) (range_with_len 0 n)) end
