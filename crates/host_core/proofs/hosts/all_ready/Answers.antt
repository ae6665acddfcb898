use Rattle.std.proofs.Common.{◌≡◌, ◌+◌, ◌∙◌, arith}
use Rattle.std.specs.Prelude.{IsOk}
use Rattle.std.proofs.lemmas.Bool.{false≢true}
use Rattle.instant_engine.proofs.cited.AtRest.{same_most}
use Rattle.host_core.proofs.hosts.all_ready.Goals as goal

pub returns-in_err-entries-clause-never_refused : goal.returns-in_err-entries-clause-never_refused
returns-in_err-entries-clause-never_refused c = λ none.
    let most : c.in_ok-most.most ≡ 0 = c.in_ok-most.ensures.most ∙ same_most c.args.tenants.now c.ready.new.tenants c.ready.ensures.rest ∙ none in
    absurd (c.in_err-entries.ensures (omega (arith, most, c.entry_count.type_inv)))

pub returns-in_err-ok-clause-never_refused : goal.returns-in_err-ok-clause-never_refused
returns-in_err-ok-clause-never_refused c = λ none.
    let most : c.in_ok-most.most ≡ 0 = c.in_ok-most.ensures.most ∙ same_most c.args.tenants.now c.ready.new.tenants c.ready.ensures.rest ∙ none in
    let entries : c.in_ok-entries.entries ≡ c.entry_count.result + c.in_ok-most.most = c.in_ok-entries.ensures.1 in
    let given : IsOk c.room.result = c.room.ensures.never_refused (omega (arith, most, entries, c.entry_count.ensures)) in
    absurd (false≢true (c.in_err-ok.ensures.variant ∙ given))
