-- A base as plain numbers.
use Rattle.std.specs.Prelude.{ℕ, List, ◌++◌, map, length, Bool, true, false, Option, Some, None}
use Rattle.meet_tickets.specs.declared.lines.Entry.{Entry}
use Rattle.meet_tickets.specs.declared.bases.OpenPair.{OpenPair}
use Rattle.meet_tickets.specs.declared.bases.OpenCut.{OpenCut}
use Rattle.meet_tickets.specs.Bases.{Based}
use Rattle.meet_c.specs.declared.bases.BaseRow.{BaseRow}
use Rattle.meet_c.specs.declared.bases.PlainBase.{PlainBase}
use Rattle.meet_c.specs.Entries.{side_number}

-- a giver has an item, a taker none
abbrev pub side_of : Option ℕ → ℕ
side_of (Some m) = 0
side_of None = 1

abbrev pub mark_of : Option ℕ → ℕ
mark_of (Some m) = m
mark_of None = 0

-- a request that waits, or a kept item
abbrev pub entry_number : (waits : Bool) → ℕ
entry_number true = 1
entry_number false = 2

abbrev pub row_of_entry : Entry ℕ → BaseRow
row_of_entry e = record {
  what = entry_number e.waits;
  seat = e.seat;
  ticket = e.ticket;
  side = side_of e.item;
  mark = mark_of e.item;
  partner = 0;
}

abbrev pub row_of_pair : OpenPair → BaseRow
row_of_pair p = record {
  what = 3;
  seat = p.seat;
  ticket = p.ticket;
  side = side_number p.side;
  mark = p.mark;
  partner = p.partner;
}

abbrev pub row_of_cut : OpenCut → BaseRow
row_of_cut c =
    record { what = 4; seat = c.seat; ticket = c.ticket; side = side_of c.item; mark = mark_of c.item; partner = 0 }

abbrev pub row_of_flag : (seat : ℕ) → BaseRow
row_of_flag seat = record { what = 5; seat = seat; ticket = 0; side = 0; mark = 0; partner = 0 }

-- all rows: the wait queue, the pairs, the interrupted requests, the pending interrupts
abbrev pub rows_of : Based → List BaseRow
rows_of b = map row_of_entry b.line ++ (map row_of_pair b.pairs ++ (map row_of_cut b.cut ++ map row_of_flag b.flags))

-- how many there are of each
abbrev pub told_base : Based → PlainBase
told_base b = record {
  gone = b.gone;
  last = b.last;
  line = length b.line;
  pairs = length b.pairs;
  cut = length b.cut;
  flags = length b.flags;
}
