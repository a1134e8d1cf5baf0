-- What a seat's open ticket is, as one who can't see the queue may remember it (our choice).
use Rattle.std.specs.Prelude.{◌≡◌, ℕ, Option, Some, option_map}
use Rattle.meet_tickets.specs.declared.lines.Entry.{Entry}
use Rattle.meet_tickets.specs.declared.lines.Hold.TheVariants.{Cut}
use Rattle.meet_tickets.specs.BySeat.{Seats, open_ticket, entry_of}

-- the seat's open ticket is this one; and while its item lies there, since it waits or was cut, the item has this mark,
-- or there is none
pub record AwaitsAs {T : Type 0} (mark_of : T → ℕ) (s : Seats T) (seat ticket : ℕ) (mark : Option ℕ) : Type 0 where
  pub is_open : open_ticket (s.holds seat) ≡ Some ticket
  pub waiting : (e : Entry T) → entry_of s.line (s.holds seat) ≡ Some e → option_map mark_of e.item ≡ mark
  pub cut : (item : Option T) → s.holds seat ≡ Cut ticket item → option_map mark_of item ≡ mark
