use Rattle.std.proofs.Common.{Bor, ℕ, ◌≡◌, ◌<◌, ◌+◌, true, false, cond, Some, None, List, length, find, filter_map, refl, sym, ap, ◌∙◌, arith}
use Rattle.std.specs.Option.{option_map}
use Rattle.std.proofs.lemmas.List.{take_all}
use Rattle.giotto_tasks.specs.declared.names.Name.{Name}
use Rattle.rig_model.specs.HostState.{row_at}
use Rattle.tenant_sources.specs.Links.{has_source}
use Rattle.rig_model.specs.Tenancies.{roster_of}
use Rattle.rig_model.specs.grants.Grants.{with_place}
use Rattle.rig_model.specs.declared.grants.rows.Bind.{Bind}
use Rattle.tenant_sources.proofs.FirstLinks.{Placed, found_next, found_before}
use Rattle.tenant_sources.proofs.tables.SourceTable.next_link.Goals as goal

pub returns-then-is_source-2 : goal.returns-then-is_source-2
returns-then-is_source-2 c = λ setting state stands.
    let binds = (row_at state c.args.tenant).binds in
    let x : Placed = (c.in-Some.sensor.now, c.in-Some.supplier, c.in-Some.actuator.now) in
    let within : c.loop-i.i < length binds = omega (arith, c.loop-i-test.true, c.bind_count-i-end.ensures.rows setting state stands) in
    let next = found_next (roster_of setting.config) (λ v. has_source c.args.self.now v c.args.source) binds c.loop-i.i x (c.loop-i.invariant setting state stands) within
    (sym (c.bind_at.ensures.rows setting state stands) ∙ ap (option_map (λ (b : Bor Name × ℕ × Bor Name). (b.0.now, b.1, b.2.now))) c.in-Some.is) in
    let passes : has_source c.args.self.now c.in-Some.supplier c.args.source ≡ true = sym c.is_source-in-loop-i.ensures.links ∙ c.if-is_source-2.true in
    let found = found_before (roster_of setting.config) (λ v. has_source c.args.self.now v c.args.source) binds (c.loop-i.i + 1) x (next ∙ ap (λ b. cond b (Some x) None) passes) in
    let new : has_source c.args.self.now c.args.tenant c.args.source ≡ false = sym c.is_source.ensures.links ∙ c.if-is_source.false in
    rw (new, found, c.clock.ensures, stands.same_clock, c.copy.ensures, c.copy-then-is_source-2.ensures) refl

pub loop-i-preserved : goal.loop-i-preserved
loop-i-preserved c = λ setting state stands.
    let binds = (row_at state c.args.tenant).binds in
    let x : Placed = (c.in-Some.sensor.now, c.in-Some.supplier, c.in-Some.actuator.now) in
    let within : c.loop-i.i < length binds = omega (arith, c.loop-i-test.true, c.bind_count-i-end.ensures.rows setting state stands) in
    let next = found_next (roster_of setting.config) (λ v. has_source c.args.self.now v c.args.source) binds c.loop-i.i x (c.loop-i.invariant setting state stands) within
    (sym (c.bind_at.ensures.rows setting state stands) ∙ ap (option_map (λ (b : Bor Name × ℕ × Bor Name). (b.0.now, b.1, b.2.now))) c.in-Some.is) in
    let fails : has_source c.args.self.now c.in-Some.supplier c.args.source ≡ false = sym c.is_source-in-loop-i.ensures.links ∙ c.if-is_source-2.false in
    next ∙ ap (λ b. cond b (Some x) None) fails

pub returns : goal.returns
returns c = λ setting state stands.
    let binds = (row_at state c.args.tenant).binds in
    let new : has_source c.args.self.now c.args.tenant c.args.source ≡ false = sym c.is_source.ensures.links ∙ c.if-is_source.false in
    let many = c.bind_count-i-end.ensures.rows setting state stands in
    let none : find (λ (b : Placed). has_source c.args.self.now b.1 c.args.source) (filter_map (with_place (roster_of setting.config)) binds) ≡ None =
    ap (λ (bs : List Bind). find (λ (b : Placed). has_source c.args.self.now b.1 c.args.source) (filter_map (with_place (roster_of setting.config)) bs)) (sym (take_all c.loop-i.i binds (omega (arith, many, c.loop-i-test.false))))
    ∙ c.loop-i.invariant setting state stands in
    rw (new, none) refl
