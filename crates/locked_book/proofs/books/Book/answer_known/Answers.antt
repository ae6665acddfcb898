use Rattle.std.proofs.Common.{◌≡◌, ◌<◌, ◌+◌, ◌∷◌, [], ◌++◌, arith, ℕ, List, sym, ap, ◌∙◌, subst, length}
use Rattle.std.proofs.lemmas.List.{length-set, get_or_default}
use Rattle.rig_model.specs.declared.events.Event.TheVariants.{Own}
use Rattle.rig_model.specs.declared.logged.Call.{Call}
use Rattle.rig_model.specs.declared.logged.Logged.{Logged}
use Rattle.rig_model.specs.declared.logged.Logged.TheVariants as logged
use Rattle.rig_model.specs.Logs.{calls_of_seat}
use Rattle.host_core.specs.HostStanding.{Stands, outstanding_count}
use Rattle.locked_book.specs.Books.{BookValue, PassValue, Knows}
use Rattle.locked_book.specs.Books.{SeatValue}
use Rattle.locked_book.specs.inner.Books.{seat_at}
use Rattle.locked_book.specs.inner.Carried.{call_with}
use Rattle.locked_book.proofs.Kept.{takes_as}
use Rattle.locked_book.proofs.Steps.{no_earlier, no_seat, of_roster, seat_on, call_on, as_many_calls}
use Rattle.locked_book.proofs.Numbers.{calls_with, front_of_log}
use Rattle.locked_book.proofs.books.Book.answer_known.Goals as goal

pub invariant_of-self-2 : goal.invariant_of-self-2
invariant_of-self-2 g c =
    let rig = g.N.Naming.config in
    let first = g.N.Naming.first_tick in
    let carried = c.in_ok-carried.carried in
    let made = c.in_ok-carried.ensures.carried in
    let call : Call = call_with c.args.tenant c.args.prepared carried.logged.reply in
    let book : BookValue = record { base = c.self.inside.base; host = c.self.inside.host; log = c.self.inside.log.items; seats = length c.self.inside.seats.items } in
    let pass : PassValue = record { seat = c.pass.inside.seat; calls = c.pass.inside.calls.items; seen = c.pass.inside.seen } in
    let known : Knows book pass = rw (c.self.view_is, c.pass.view_is) c.requires.known in
    let many = as_many_calls rig first book c.self.inside.seats.items pass c.self.invariant.2 known in
    let room : length pass.calls < 4096 = (let r = c.requires.room in let l = ap (λ (p : PassValue). length p.calls) c.pass.view_is in omega (arith, r, l)) in
    let read : c.index_mut-seat.result.now ≡ seat_at c.self.inside.seats.items c.pass.inside.seat =
    c.index_mut-seat.ensures.value ∙ get_or_default c.self.inside.seats.items c.pass.inside.seat c.index_mut-seat.result.now no_seat known.given in
    let place : c.len-place.result ≡ length c.self.inside.log.items = c.len-place.ensures in
    let seat = seat_at c.self.inside.seats.items c.pass.inside.seat in
    let places : c.push_reserved.new.self.items ≡ c.seat.inside.places.items ++ c.len-place.result ∷ [] =
    c.push_reserved.ensures.items ∙ ap (λ (ps : List ℕ). ps ++ c.len-place.result ∷ []) c.in_ok-make_room.ensures.places in
    let added : record { places = c.push_reserved.new.self.items; calls = c.seat.inside.calls + 1 } ≡ seat_on seat (length c.self.inside.log.items) =
    ap (λ (ps : List ℕ). record { places = ps; calls = c.seat.inside.calls + 1 }) places
    ∙ (ap (λ (s : SeatValue). seat_on s c.len-place.result) (c.seat.view_is ∙ read)
    ∙ ap (seat_on seat) place) in
    let fewer = c.in_ok-carried.ensures.outstanding in
    let tenant : c.args.tenant < length book.host.config.tenants = subst (λ (b : BookValue). c.args.tenant < length b.host.config.tenants) (sym c.self.view_is) c.requires.tenant in (
      omega (arith, fewer, c.outstanding-outstanding.ensures, c.in_ok-make_room.ensures.log_room, c.push_reserved-2.ensures.len, c.push_reserved-2.ensures.capacity),
      c.self.invariant.1 ∙ sym (length-set c.self.inside.seats.items c.pass.inside.seat _),
      rw (length-set c.self.inside.seats.items c.pass.inside.seat _, c.push_reserved-2.ensures.items, c.in_ok-make_room.ensures.log, made.call, added)
          (call_on rig first book c.self.inside.seats.items c.carry_out.new.host c.pass.inside.seat call c.self.invariant.2 known.given (omega (arith, many, room))
          (λ setting state st. (made.taken.step setting state st, (of_roster setting book.host state c.args.tenant st tenant, made.taken.right setting state st)))
          fewer),
    )

pub returns-clause-noted : goal.returns-clause-noted
returns-clause-noted g c =
    let carried = c.in_ok-carried.carried in
    let made = c.in_ok-carried.ensures.carried in
    record {
      reply = carried.logged.reply;
      log = rw (← c.self.view_is, ← c.pass.view_is, ← made.call) (c.push_reserved-2.ensures.items ∙ ap (λ (log : List Logged). log ++ logged.Call c.pass.inside.seat carried.logged ∷ []) c.in_ok-make_room.ensures.log);
      pass = rw (← c.pass.view_is, ← made.call)
          (ap (λ (cs : List Call). record { seat = c.pass.inside.seat; calls = cs; seen = c.pass.inside.seen })
          (c.push_reserved-3.ensures.items ∙ (ap (λ (cs : List Call). cs ++ carried.noted ∷ []) c.in_ok-make_room.ensures.calls ∙ ap (λ (x : Call). c.pass.inside.calls.items ++ x ∷ []) made.same)));
      base = ap (λ (b : BookValue). b.base) c.self.view_is;
      seats = length-set c.self.inside.seats.items c.pass.inside.seat _ ∙ ap (λ (b : BookValue). b.seats) c.self.view_is;
      right = λ setting state st. made.taken.right setting state (subst (λ (b : BookValue). Stands setting b.host state) (sym c.self.view_is) st);
      step = takes_as (Own c.args.tenant c.args.prepared) c.self.inside.host c.args.self.now.host c.carry_out.new.host (ap (λ (b : BookValue). b.host) c.self.view_is) made.taken.step;
      other = made.taken.other;
      got = subst (g.T.FromReply.is_of c.in_ok-got.got) (ap (λ (x : Call). x.reply) c.as_call.ensures) c.in_ok-got.ensures.of;
    }

pub invariant_of-pass-2 : goal.invariant_of-pass-2
invariant_of-pass-2 g c =
    let rig = g.N.Naming.config in
    let first = g.N.Naming.first_tick in
    let made = c.in_ok-carried.ensures.carried in
    let call : Call = call_with c.args.tenant c.args.prepared c.in_ok-carried.carried.logged.reply in
    let book : BookValue = record { base = c.self.inside.base; host = c.self.inside.host; log = c.self.inside.log.items; seats = length c.self.inside.seats.items } in
    let pass : PassValue = record { seat = c.pass.inside.seat; calls = c.pass.inside.calls.items; seen = c.pass.inside.seen } in
    let known : Knows book pass = rw (c.self.view_is, c.pass.view_is) c.requires.known in
    let all : c.self.inside.base.entries_before ≡ 0 → c.push_reserved-3.new.self.items ≡ calls_of_seat pass.seat c.push_reserved-2.new.self.items = λ none.
    rw (c.push_reserved-3.ensures.items, c.in_ok-make_room.ensures.calls, made.same, c.push_reserved-2.ensures.items, c.in_ok-make_room.ensures.log, made.call)
    (calls_with rig first book c.self.inside.seats.items pass c.self.invariant.2 call (no_earlier rig first book c.self.inside.seats.items c.self.invariant.2 none pass.seat) known) in
    front_of_log (c.self.inside.base.entries_before ≡ 0) _ _ c.push_reserved-2.new.self.items c.push_reserved-3.new.self.items pass.seat c.replace.ensures.after c.front_of.ensures.log c.front_of.ensures.none all

pub invariant_of-pass-in_err-got : goal.invariant_of-pass-in_err-got
invariant_of-pass-in_err-got g c = rw c.in_ok-make_room.ensures.calls c.pass.invariant
