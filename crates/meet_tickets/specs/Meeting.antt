-- Whom a request meets. Both tellings of the rules speak of a place's line in these words.
use Rattle.std.specs.Prelude.{◌≡◌, ℕ, ◌-◌, ◌<◌, ◌≤◌, Bool, true, false, not, ⊤, Option, Some, None, is_some, is_none}
use Rattle.std.specs.Prelude.{List, [], ◌∷◌, length, slice_get, count_by, MatchOption, if◌then◌else◌}
use Rattle.meet_tickets.specs.declared.lines.Entry.{Entry}
use Rattle.meet_tickets.specs.declared.places.Side.{Side}
use Rattle.meet_tickets.specs.declared.places.Side.TheVariants.{Giver, Taker}
use Rattle.meet_tickets.specs.declared.places.End.{End}
use Rattle.meet_tickets.specs.declared.places.End.TheVariants.{Front, Back}
use Rattle.meet_tickets.specs.declared.places.Order.{Order}
use Rattle.meet_tickets.specs.declared.places.Order.TheVariants.{Fair, Unfair, Transfer}
use Rattle.meet_tickets.specs.declared.places.Kind.{Kind}
use Rattle.meet_tickets.specs.Limits.{most_kept}

-- whether an entry stands on this side: a giver presents an item, a taker none
abbrev pub is_on : {X : Type 0} → Side → Entry X → Bool
is_on Giver e = is_some e.item
is_on Taker e = is_none e.item

-- the end of its line at which a place's entries are met: the front (SynchronousQueue in fair mode,
-- LinkedTransferQueue), or the back (SynchronousQueue in its default mode; that it is exactly last in, first out is
-- our choice)
abbrev pub end_of : Order → End
end_of Fair = Front
end_of Unfair = Back
end_of Transfer = Front

-- whether a place keeps the items of givers that went on (LinkedTransferQueue alone)
abbrev pub keeps : Order → Bool
keeps Fair = false
keeps Unfair = false
keeps Transfer = true

-- which entry is met: the first, or the last
abbrev pub met : {E : Type 0} → End → List E → Option E
met Front line = slice_get line 0
met Back line = slice_get line (length line - 1)

-- the partner of a request: nobody where the line is empty or holds the request's own side (Scherer and Scott 2004);
-- a line has one side, so its first entry tells
abbrev pub partner : {X : Type 0} → End → List (Entry X) → Side → Option (Entry X)
partner end [] side = None
partner end (e ∷ line) side = if is_on side e then None else met end (e ∷ line)

-- a request of this side has no partner
abbrev pub Alone : {X : Type 0} → Kind → List (Entry X) → Side → Type 0
Alone k line side = partner (end_of k.order) line side ≡ None

-- a giver of this item, or a taker where it is none, has no partner
abbrev pub IsAlone : {X : Type 0} → End → List (Entry X) → Option X → Type 0
IsAlone end line item = MatchOption item (partner end line Taker ≡ None) (λ _. partner end line Giver ≡ None)

-- the partner has this ticket and presents this item
abbrev pub Finds : {X : Type 0} → Kind → List (Entry X) → Side → ℕ → Option X → Type 0
Finds {X} k line side ticket item = (e : Entry X) × (partner (end_of k.order) line side ≡ Some e)
    × (e.ticket ≡ ticket) × (e.item ≡ item)

-- how many entries wait: their tickets are open
abbrev pub waiting_count : {X : Type 0} → List (Entry X) → ℕ
waiting_count line = count_by (λ e. e.waits) line

-- how many items are kept: their givers went on
abbrev pub kept_count : {X : Type 0} → List (Entry X) → ℕ
kept_count line = count_by (λ e. not e.waits) line

-- how many entries stand on this side: givers, kept or waiting, or takers
abbrev pub count_on : {X : Type 0} → Side → List (Entry X) → ℕ
count_on side line = count_by (is_on side) line

-- an item may be kept in a place that keeps items and isn't full (LinkedTransferQueue.put; the bound is our choice)
abbrev pub MayKeep : {X : Type 0} → Kind → List (Entry X) → Type 0
MayKeep k line = (keeps k.order ≡ true) × MatchOption k.bound ⊤ (λ most. kept_count line < most)

-- only a place that keeps items has a bound, from 1 to 1,048,576
abbrev pub FitsBound : Order → Option ℕ → Type 0
FitsBound order None = ⊤
FitsBound order (Some n) = (keeps order ≡ true) × (1 ≤ n) × (n ≤ most_kept)
