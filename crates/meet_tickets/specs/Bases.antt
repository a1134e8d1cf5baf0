-- What stands for the records that were folded away: where they left the place. A history is a base and the records
-- since.
use Rattle.std.specs.Prelude.{◌≡◌, ◌≢◌, ◌↔◌, ℕ, ◌<◌, ◌≤◌, ◌==◌, true, false, ⊤, Option, is_some, MatchOption, List}
use Rattle.std.specs.Prelude.{[], ◌∷◌, ◌++◌, map, filter, find, Contains, All, AllPairs}
use Rattle.std.specs.List.{list_any, flat_map}
use Rattle.std.specs.Option.{option_map_or}
use Rattle.meet_tickets.specs.declared.lines.Entry.{Entry}
use Rattle.meet_tickets.specs.declared.lines.Hold.{Hold}
use Rattle.meet_tickets.specs.declared.lines.Hold.TheVariants.{Free, Waiting, Handed, Served, Cut}
use Rattle.meet_tickets.specs.declared.places.Side.{Side}
use Rattle.meet_tickets.specs.declared.places.Side.TheVariants.{Giver, Taker}
use Rattle.meet_tickets.specs.declared.places.Kind.{Kind}
use Rattle.meet_tickets.specs.declared.records.Record.{Record}
use Rattle.meet_tickets.specs.declared.records.Deed.{Deed}
use Rattle.meet_tickets.specs.declared.bases.OpenPair.{OpenPair}
use Rattle.meet_tickets.specs.declared.bases.OpenCut.{OpenCut}
use Rattle.meet_tickets.specs.Meeting.{keeps, kept_count}
use Rattle.meet_tickets.specs.ByLists.{State, Pair, IsLegalFrom}
use Rattle.meet_tickets.specs.BySeat.{Moment, moment_of}

-- what a base shows of itself
pub record Based : Type 0 where
  pub gone : ℕ  -- how many records were folded away
  pub last : ℕ  -- their greatest ticket
  pub line : List (Entry ℕ)  -- the unmatched tickets in order of request, items by their marks
  pub pairs : List OpenPair  -- the open tickets that were met, by rising ticket
  pub cut : List OpenCut  -- the open tickets that were cut, by rising ticket
  pub flags : List ℕ  -- the flagged seats, rising

-- no record was folded away
abbrev pub no_base : Based
no_base = record { gone = 0; last = 0; line = []; pairs = []; cut = []; flags = [] }

-- a seat's open ticket, and what the seat holds
pub record Held : Type 0 where
  pub seat : ℕ
  pub ticket : ℕ
  pub hold : Hold ℕ

-- what the seat of a ticket of this side holds, once it was met
abbrev pub hold_met : Side → (ticket partner mark : ℕ) → Hold ℕ
hold_met Giver t u m = Handed t u m
hold_met Taker t u m = Served t u m

-- the pair of a ticket of this side
abbrev pub pair_met : Side → (ticket partner mark : ℕ) → Pair
pair_met Giver t u m = record { giver = t; taker = u; mark = m }
pair_met Taker t u m = record { giver = u; taker = t; mark = m }

abbrev pub waiting_held : Entry ℕ → Held
waiting_held e = record { seat = e.seat; ticket = e.ticket; hold = Waiting e.ticket }

abbrev pub paired_held : OpenPair → Held
paired_held p = record { seat = p.seat; ticket = p.ticket; hold = hold_met p.side p.ticket p.partner p.mark }

abbrev pub cut_held : OpenCut → Held
cut_held c = record { seat = c.seat; ticket = c.ticket; hold = Cut c.ticket c.item }

-- what the seats hold, each open ticket once
abbrev pub held_in : Based → List Held
held_in b = map waiting_held (filter (λ e. e.waits) b.line) ++ (map paired_held b.pairs ++ map cut_held b.cut)

-- the tickets and partners that a base names
abbrev pub named_in : Based → List ℕ
named_in b = map (λ e. e.ticket) b.line ++ (flat_map (λ p. p.ticket ∷ p.partner ∷ []) b.pairs
    ++ map (λ c. c.ticket) b.cut)

-- the state that a base stands for; of the pairs only those with an open ticket are left
abbrev pub state_of_base : Based → State
state_of_base b = record {
  last = b.last;
  line = b.line;
  pairs = map (λ p. pair_met p.side p.ticket p.partner p.mark) b.pairs;
  cut = map (λ c. c.ticket) b.cut;
  unended = map (λ h. record { ticket = h.ticket; seat = h.seat }) (held_in b);
  flags = b.flags;
}

-- the same by seat
abbrev pub moment_of_base : Based → Moment
moment_of_base b = record {
  last = b.last;
  seats = record {
    line = b.line;
    holds = λ i. option_map_or (λ h. h.hold) (find (λ h. h.seat == i) (held_in b)) Free;
    flags = λ i. list_any (λ j. j == i) b.flags;
  };
}

-- a kept entry is a giver's, in a place that keeps items
abbrev pub MayStand : Kind → Entry ℕ → Type 0
MayStand k e = e.waits ≡ false → (is_some e.item ≡ true) × (keeps k.order ≡ true)

-- a base is well formed
pub record IsWellFormed (k : Kind) (b : Based) : Type 0 where
  pub one_side : AllPairs (λ e f. is_some e.item ≡ is_some f.item) b.line
  pub line_rises : AllPairs (λ e f. e.ticket < f.ticket) b.line
  pub kept : All (MayStand k) b.line
  pub few : MatchOption k.bound ⊤ (λ most. kept_count b.line ≤ most)
  pub pairs_rise : AllPairs (λ p q. p.ticket < q.ticket) b.pairs
  pub cut_rises : AllPairs (λ c d. c.ticket < d.ticket) b.cut
  pub flags_rise : AllPairs (λ i j. i < j) b.flags
  pub apart : AllPairs (λ t u. t ≢ u) (named_in b)
  pub named : All (λ t. (1 ≤ t) × (t ≤ b.last)) (named_in b)
  pub seats : AllPairs (λ h g. h.seat ≢ g.seat) (held_in b)
  pub unflagged : All (λ e. e.waits ≡ true → Contains b.flags e.seat → ⊥) b.line

-- records are legal after a base
abbrev pub IsLegalOn : Kind → Based → List (Record Deed) → Type 0
IsLegalOn k b records = IsLegalFrom k (state_of_base b) records

-- the base of a moment, with so many records folded away: it names what the seats hold, and nothing else
pub record IsBaseOf (m : Moment) (count : ℕ) (b : Based) : Type 0 where
  pub gone : b.gone ≡ count
  pub last : b.last ≡ m.last
  pub line : b.line ≡ m.seats.line
  pub pairs_sorted : AllPairs (λ p q. p.ticket ≤ q.ticket) b.pairs
  pub pair_seats : AllPairs (λ p q. p.seat ≢ q.seat) b.pairs
  pub pairs : (p : OpenPair) → Contains b.pairs p → m.seats.holds p.seat ≡ hold_met p.side p.ticket p.partner p.mark
  pub handed : (i t u mark : ℕ) → m.seats.holds i ≡ Handed t u mark
      → Contains b.pairs (record { ticket = t; seat = i; side = Giver; partner = u; mark = mark })
  pub served : (i t u mark : ℕ) → m.seats.holds i ≡ Served t u mark
      → Contains b.pairs (record { ticket = t; seat = i; side = Taker; partner = u; mark = mark })
  pub cut_sorted : AllPairs (λ c d. c.ticket ≤ d.ticket) b.cut
  pub cut_seats : AllPairs (λ c d. c.seat ≢ d.seat) b.cut
  pub cuts : (c : OpenCut) → Contains b.cut c → m.seats.holds c.seat ≡ Cut c.ticket c.item
  pub cut : (i t : ℕ) (item : Option ℕ) → m.seats.holds i ≡ Cut t item
      → Contains b.cut (record { ticket = t; seat = i; item = item })
  pub flags_rise : AllPairs (λ i j. i < j) b.flags
  pub flags : (i : ℕ) → list_any (λ j. j == i) b.flags ≡ m.seats.flags i

-- a base that a moment left by records after another base stands for these: it is well formed, and the same records
-- may come next
pub record Folds (k : Kind) (old : Based) (records : List (Record Deed)) (new : Based) : Type 0 where
  pub well_formed : IsWellFormed k new
  pub stands : moment_of_base new ≡ moment_of k (moment_of_base old) records
  pub next : (more : List (Record Deed)) → IsLegalOn k new more ↔ IsLegalOn k old (records ++ more)
