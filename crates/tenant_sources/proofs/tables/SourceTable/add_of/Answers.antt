use Rattle.std.proofs.Common.{◌≤◌, ◌+◌, List, length, sym, subst, ◌∙◌, arith}
use Rattle.std.specs.List.{All}
use Rattle.tenant_sources.specs.declared.tables.Addition.{Addition}
use Rattle.rig_model.specs.HostState.{row_at}
use Rattle.tenant_sources.specs.cited.Additions.{IsPlaceOf}
use Rattle.tenant_sources.specs.inner.Links.{Adds, IsSquare, next_link}
use Rattle.tenant_sources.proofs.LinkAdditions.{New, adds_all, adds_begin, adds_none, adds_one, all_with, first_of}
use Rattle.tenant_sources.proofs.LinkTables.{code_many}
use Rattle.tenant_sources.proofs.tables.SourceTable.add_of.Goals as goal

pub loop-source-init : goal.loop-source-init
loop-source-init c = (c.requires.places, λ setting state stands. adds_begin c.args.self.now c.args.added.now.items c.args.added.now.items (λ t u. next_link setting c.args.self.now state.clock (row_at state t) t u) c.args.tenant)

pub loop-source-preserved-in_default : goal.loop-source-preserved-in_default
loop-source-preserved-in_default c = (
  c.loop-source.invariant.0,
  λ setting state stands.
      adds_none c.args.self.now c.args.added.now.items c.loop-source.added.items (λ t u. next_link setting c.args.self.now state.clock (row_at state t) t u) c.args.tenant c.loop-source.source
      (sym (c.next_link.ensures setting state stands) ∙ c.in_default.is) (c.loop-source.invariant.1 setting state stands),
)

pub loop-source-preserved : goal.loop-source-preserved
loop-source-preserved c =
    let many = code_many c.self.inside.rows.items c.args.self.now c.self.view_is in
    let square : IsSquare c.args.self.now = subst IsSquare c.self.view_is c.self.invariant in
    let a : Addition = record { tenant = c.args.tenant; source = c.loop-source.source; link = c.in-Some.link } in
    let place : IsPlaceOf c.args.self.now a = (c.requires.row, omega (arith, c.loop-source-test.true, c.len-source-end.ensures, many)) in (
      subst (λ (xs : List Addition). All (IsPlaceOf c.args.self.now) xs) (sym c.in_ok-push.ensures.items) (all_with c.args.self.now c.loop-source.added.items a c.loop-source.invariant.0 place),
      λ setting state stands.
          let new : New = λ t u. next_link setting c.args.self.now state.clock (row_at state t) t u in
          subst (λ (xs : List Addition). Adds c.args.self.now c.args.added.now.items xs (first_of (λ t u. next_link setting c.args.self.now state.clock (row_at state t) t u) c.args.tenant (c.loop-source.source + 1))) (sym c.in_ok-push.ensures.items)
          (adds_one c.args.self.now c.args.added.now.items c.loop-source.added.items (λ t u. next_link setting c.args.self.now state.clock (row_at state t) t u) square c.loop-source.invariant.0 a place
          (sym (c.next_link.ensures setting state stands) ∙ c.in-Some.is) (c.loop-source.invariant.1 setting state stands)),
    )

pub returns-clause-added : goal.returns-clause-added
returns-clause-added c = λ setting state stands.
    let many = code_many c.self.inside.rows.items c.args.self.now c.self.view_is in
    let all : length c.args.self.now ≤ c.loop-source.source = omega (arith, c.loop-source-test.false, c.len-source-end.ensures, many) in
    adds_all c.args.self.now c.args.added.now.items c.loop-source.added.items (λ t u. next_link setting c.args.self.now state.clock (row_at state t) t u) c.args.tenant c.loop-source.source all (c.loop-source.invariant.1 setting state stands)
