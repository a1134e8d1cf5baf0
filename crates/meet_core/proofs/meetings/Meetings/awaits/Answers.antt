-- Proof of `Meetings::awaits`, src/meetings/probes.rt. Whether the seat's open ticket is this one; and while its item
-- lies here, since it waits or was cut, whether the item has this mark, or there is none where this is none.
use Rattle.std.proofs.Common.{◌≡◌, ◌∙◌, sym, ap, Some, option_map, rules}
use Rattle.meet_tickets.specs.declared.lines.Hold.TheVariants.{Waiting, Cut}
use Rattle.meet_tickets.specs.BySeat.{open_ticket, entry_of}
use Rattle.meet_core.specs.Queue.{seats_of}
use Rattle.meet_core.proofs.meetings.Meetings.awaits.Goals as goal

pub returns-in-Some : goal.returns-in-Some
returns-in-Some g c =
    let q = c.args.self.now in
    let opened : open_ticket ((seats_of q).holds c.args.seat) ≡ Some c.args.ticket = search rules in
    let waits : (seats_of q).holds c.args.seat ≡ Waiting c.args.ticket = search rules in
    let there : entry_of q.line ((seats_of q).holds c.args.seat) ≡ Some c.in-Some.entry.now = search rules in (
      λ same. record {
        is_open = opened;
        waiting = λ e is. (let one : c.in-Some.entry.now ≡ e = some_is (sym there ∙ is) in ap (λ x. option_map g.T.Marked.mark_of x.item) (sym one) ∙ c.has_mark.ensures.0 same);
        cut = λ item is. (let never : Waiting c.args.ticket ≡ Cut c.args.ticket item = sym waits ∙ is in absurd (cc));
      },
      λ a. c.has_mark.ensures.1 (a.waiting c.in-Some.entry.now there),
    )
  where
    some_is : {A : Type 0} {x y : A} → Some x ≡ Some y → x ≡ y
    some_is e = cc
