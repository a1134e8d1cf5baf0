-- What seats hold, and which are flagged, as a base's entries are laid one by one.
use Rattle.std.specs.Prelude.{ℕ, Bool, true, List, [], ◌∷◌, map, filter}
use Rattle.meet_tickets.specs.declared.lines.Entry.{Entry}
use Rattle.meet_tickets.specs.declared.lines.Hold.{Hold}
use Rattle.meet_tickets.specs.Bases.{Held, waiting_held}
use Rattle.meet_tickets.specs.BySeat.{put_at}

-- what seats hold once these are put there
abbrev pub held_once : (ℕ → Hold ℕ) → List Held → ℕ → Hold ℕ
held_once holds [] = holds
held_once holds (h ∷ hs) = held_once (put_at holds h.seat h.hold) hs

-- the seats that wait in a line, and what they hold
abbrev pub waiting_in_line : List (Entry ℕ) → List Held
waiting_in_line line = map waiting_held (filter (λ e. e.waits) line)

-- which seats are flagged once these are
abbrev pub flagged_once : (ℕ → Bool) → List ℕ → ℕ → Bool
flagged_once flags [] = flags
flagged_once flags (i ∷ is) = flagged_once (put_at flags i true) is
