-- What a base says of a seat, looked up in its three lists; and whom a request would meet.
use Rattle.std.specs.Prelude.{ℕ, ◌==◌, ◌&&◌, Option, option_map, List, find}
use Rattle.std.specs.Option.{option_map_or}
use Rattle.meet_tickets.specs.declared.bases.OpenPair.{OpenPair}
use Rattle.meet_tickets.specs.declared.bases.OpenCut.{OpenCut}
use Rattle.meet_tickets.specs.declared.lines.Entry.{Entry}
use Rattle.meet_tickets.specs.declared.lines.Hold.{Hold}
use Rattle.meet_tickets.specs.declared.lines.Hold.TheVariants.{Free, Waiting, Cut}
use Rattle.meet_tickets.specs.declared.places.Kind.{Kind}
use Rattle.meet_tickets.specs.declared.places.Side.{Side}
use Rattle.meet_tickets.specs.Bases.{Based, hold_met}
use Rattle.meet_tickets.specs.Meeting.{end_of, partner}

-- the entry with which a seat waits
abbrev pub waiting_of : List (Entry ℕ) → (seat : ℕ) → Option (Entry ℕ)
waiting_of line i = find (λ e. e.waits && (e.seat == i)) line

-- the seat's open ticket that was met
abbrev pub paired_of : List OpenPair → (seat : ℕ) → Option OpenPair
paired_of pairs i = find (λ p. p.seat == i) pairs

-- the seat's open ticket that was cut
abbrev pub cut_of : List OpenCut → (seat : ℕ) → Option OpenCut
cut_of cut i = find (λ c. c.seat == i) cut

-- what the seat has open
abbrev pub hold_of : Based → (seat : ℕ) → Hold ℕ
hold_of b i = option_map_or (λ e. Waiting e.ticket)
    (waiting_of b.line i)
    (option_map_or (λ p. hold_met p.side p.ticket p.partner p.mark) (paired_of b.pairs i)
    (option_map_or (λ c. Cut c.ticket c.item) (cut_of b.cut i) Free))

-- the ticket and the item of the entry that a request of this side would meet
abbrev pub whom : Kind → List (Entry ℕ) → Side → Option (ℕ × Option ℕ)
whom k line side = option_map (λ e. (e.ticket, e.item)) (partner (end_of k.order) line side)
