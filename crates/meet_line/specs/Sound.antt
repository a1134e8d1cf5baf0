-- What stays true of a line, and of what seats hold beside it.
use Rattle.std.specs.Prelude.{◌≡◌, ◌≢◌, ℕ, ◌+◌, ◌<◌, ◌≤◌, true, false, Some, is_some, IsSome, List}
use Rattle.std.specs.Prelude.{All, AllPairs}
use Rattle.meet_tickets.specs.declared.lines.Entry.{Entry}
use Rattle.meet_tickets.specs.declared.lines.Hold.{Hold}
use Rattle.meet_tickets.specs.declared.lines.Hold.TheVariants.{Waiting}
use Rattle.meet_tickets.specs.BySeat.{open_ticket}
use Rattle.meet_tickets.specs.Limits.{last_ticket}

-- an entry that waits is what its seat holds; one that is kept has an item, and is open at no seat
-- (LinkedTransferQueue: the giver of a kept item went on); its ticket was used
pub record Stands {T : Type 0} (holds : ℕ → Hold T) (next : ℕ) (e : Entry T) : Type 0 where
  pub held : e.waits ≡ true → holds e.seat ≡ Waiting e.ticket
  pub given : e.waits ≡ false → IsSome e.item
  pub closed : e.waits ≡ false → (seat : ℕ) → open_ticket (holds seat) ≢ Some e.ticket
  pub used : e.ticket < next

-- two entries of one line have two tickets and one side
pub record AreFellows {T : Type 0} (e f : Entry T) : Type 0 where
  pub tickets : e.ticket ≢ f.ticket
  pub side : is_some e.item ≡ is_some f.item

-- what stays true of them
pub record IsSound {T : Type 0} (line : List (Entry T)) (holds : ℕ → Hold T) (next : ℕ) : Type 0 where
  pub standing : All (Stands holds next) line
  pub fellows : AllPairs AreFellows line
  pub opened : (seat t : ℕ) → open_ticket (holds seat) ≡ Some t → t < next  -- what is open was used
  pub tickets_from : 0 < next
  pub tickets_to : next ≤ last_ticket + 1
