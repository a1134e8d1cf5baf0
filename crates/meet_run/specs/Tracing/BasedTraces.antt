-- What a whole trace with a base says (our choice of format): its first line names the place, the second has the base's
-- numbers, then come the base's pieces, each of which may follow those before it, and then the records since.
use Rattle.std.specs.Prelude.{◌≡◌, ℕ, ◌+◌, nat_le, Bool, true, false, Option, Some, None, IfSome, List, [], ◌∷◌}
use Rattle.std.specs.Prelude.{if◌then◌else◌}
use Rattle.std.specs.Option.{option_map_or}
use Rattle.meet_tickets.specs.declared.places.Kind.{Kind}
use Rattle.meet_tickets.specs.declared.records.Deed.{Deed}
use Rattle.meet_tickets.specs.declared.records.Record.{Record}
use Rattle.meet_tickets.specs.Bases.{Based, IsLegalOn}
use Rattle.meet_tickets.specs.Limits.{most_records}
use Rattle.meet_history.specs.declared.checker.Why.{Why}
use Rattle.meet_history.specs.Checking.{IsIllegalAt}
use Rattle.meet_history.specs.Pushing.{Progress, HasSeen}
use Rattle.meet_history.specs.Pieces.{bare_base, with_piece, may_follow}
use Rattle.meet_history.specs.Standings.{standing_on}
use Rattle.std.specs.Prelude.{length}
use Rattle.meet_run.specs.Texts.Reading.{Listed, listed, Both, lines_of}
use Rattle.meet_run.specs.Tracing.TraceGrammar.{record_of}
use Rattle.meet_run.specs.Tracing.TraceWording.{illegal_line}
use Rattle.meet_run.specs.Scripts.Wording.{last_line}
use Rattle.meet_run.specs.Tracing.BaseGrammar.{piece_of, numbers_of, based_head_of}

-- what lines say of a base and records: up to the first faulty one, and its number, if there is one
pub record Told : Type 0 where
  pub base : Based
  pub records : List (Record Deed)
  pub fault : Option ℕ

-- the record of a line with this number, where the first record stands in that line: at most 1,048,576 of them
unfoldable pub record_from : (first n : ℕ) → (line : List ℕ) → Option (Record Deed)
record_from first n line = if nat_le (first + most_records) n then None else record_of line

-- the records of these lines, of which the first has this number, after a base
unfoldable pub records_told : Based → (first : ℕ) → (lines : List (List ℕ)) → Told
records_told b first lines = record {
  base = b;
  records = (listed (record_from first) first lines).items;
  fault = (listed (record_from first) first lines).fault;
}

-- a line of this number that shows that the base isn't well formed, or out of its order
abbrev pub ill_at : Based → (n : ℕ) → Told
ill_at b n = record { base = b; records = []; fault = Some n }

-- what these lines say, of which the first has this number, where the base came this far
unfoldable pub told_from : Kind → Based → (n : ℕ) → (lines : List (List ℕ)) → Told
told_from k b n [] = record { base = b; records = []; fault = None }
told_from k b n (line ∷ lines) = option_map_or
    (λ piece. if may_follow k b piece then told_from k (with_piece b piece) (n + 1) lines else ill_at b n)
    (piece_of line) (records_told b n (line ∷ lines))

-- what the lines behind a first line say that names this kind of place; a text that ends before the base's numbers is
-- at fault in line 2
unfoldable pub told_behind : Kind → (lines : List (List ℕ)) → Told
told_behind k [] = ill_at (bare_base 0 0) 2
told_behind k (line ∷ lines) =
    option_map_or (λ numbers. told_from k (bare_base numbers.0 numbers.1) 3 lines)
    (numbers_of line) (ill_at (bare_base 0 0) 2)

-- these lines are a whole trace with this base, of such a place, with these records since
pub record IsBasedTrace
    (lines : List (List ℕ)) (kind : Kind) (base : Based) (records : List (Record Deed)) : Type 0 where
  pub first : List ℕ
  pub rest : List (List ℕ)
  pub parts : lines ≡ first ∷ rest
  pub head : based_head_of first ≡ Some kind
  pub behind : told_behind kind rest ≡ record { base = base; records = records; fault = None }

-- what is found of a base and the records since: the line that says so counts all records from the first
abbrev pub IsVerdictOn : Kind → Based → List (Record Deed) → (legal : Bool) → (text : List ℕ) → Type 0
IsVerdictOn kind base records true text =
    IsLegalOn kind base records × (text ≡ last_line (base.gone + length records) (standing_on base records))
IsVerdictOn kind base records false text = (number : ℕ) × (why : Why) × IsIllegalAt kind base records number why
    × (text ≡ illegal_line number why)

-- what lines said from the base's pieces on: where a line is left that is no piece, it and the rest are records from
-- this number on; else nothing follows the base
abbrev pub HasLaid : Kind → (old : Based) → (more : Bool) → (line : List ℕ) → (new : Based) → (number : ℕ)
    → (before after : Option (List ℕ)) → Type 0
HasLaid k old true line new number before after =
    Both before after (λ first rest.
    told_from k old 3 (lines_of first) ≡ records_told new number (line ∷ lines_of rest))
HasLaid k old false line new number before after =
    IfSome before (λ first. told_from k old 3 (lines_of first) ≡ record { base = new; records = []; fault = None })

-- these lines are records to their end, so many, and just they were pushed on the checker
abbrev pub ArePushedOn : (old new : Progress) → (count : ℕ) → Listed (Record Deed) → Type 0
ArePushedOn old new count lines =
    (lines.fault ≡ None) × (count ≡ length lines.items) × ((b : Based) → HasSeen b old [] → HasSeen b new lines.items)

-- these lines behind a first line are a whole trace with this base, of which the checker has seen the records; there
-- are so many from the first
pub record IsChecked
    (kind : Kind) (lines : List (List ℕ)) (base : Based) (checker : Progress) (count : ℕ) : Type 0 where
  pub records : List (Record Deed)
  pub told : told_behind kind lines ≡ record { base = base; records = records; fault = None }
  pub seen : HasSeen base checker records
  pub counted : count ≡ base.gone + length records
  pub own : checker.place.kind ≡ kind

-- lines are a whole trace with a base, of which this is found
pub record IsFoundOn (lines : List (List ℕ)) (legal : Bool) (text : List ℕ) : Type 0 where
  pub kind : Kind
  pub base : Based
  pub records : List (Record Deed)
  pub trace : IsBasedTrace lines kind base records
  pub verdict : IsVerdictOn kind base records legal text
