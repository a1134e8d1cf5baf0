-- What a whole script gives: its calls, its first faulty line, and its text.
use Rattle.std.specs.Prelude.{◌≡◌, ℕ, ◌+◌, Option, Some, None, ⊤, List, [], ◌∷◌, ◌++◌, length}
use Rattle.std.specs.Option.{option_map_or}
use Rattle.std.specs.List.{flat_map}
use Rattle.meet_tickets.specs.declared.places.Order.{Order}
use Rattle.meet_history.specs.declared.one_thread.verbs.Call.{Call}
use Rattle.meet_history.specs.declared.one_thread.setup.Setup.{Setup}
use Rattle.meet_history.specs.declared.one_thread.replies.Reply.{Reply}
use Rattle.meet_history.specs.OneThread.{Place, start, turns, records, standing_of}
use Rattle.meet_history.specs.Standings.{standing_in}
use Rattle.meet_run.specs.Scripts.Grammar.{call_of, setup_of}
use Rattle.meet_run.specs.Scripts.Wording.{text_of, last_line}
use Rattle.meet_run.specs.Texts.Reading.{lines_of, Listed, listed}

-- the calls of these lines, of which the first has this number, up to the first that is none
abbrev pub calls_from : Order → (n : ℕ) → (lines : List (List ℕ)) → Listed Call
calls_from order n lines = listed (λ n line. call_of order line) n lines

-- the text of these replies
unfoldable pub replies_text : List Reply → List ℕ
replies_text replies = flat_map text_of replies

-- the text of the calls from here on
unfoldable pub text_from : Setup → Place → List Call → List ℕ
text_from setup place calls = replies_text (turns setup place calls).replies

-- the text of one thread's calls, from the first
abbrev pub text : Setup → List Call → List ℕ
text setup calls = text_from setup (start setup) calls

-- the last line, after the calls from here on
unfoldable pub closing_from : Setup → Place → List Call → List ℕ
closing_from setup place calls =
    last_line (place.gone + place.records + length (turns setup place calls).records)
    (standing_of setup (turns setup place calls).place)

-- the same; after a fault there is none
unfoldable pub ending_from : Setup → Place → Listed Call → List ℕ
ending_from setup place rest = option_map_or (λ n. []) rest.fault (closing_from setup place rest.items)

-- all that is written from here on
unfoldable pub output_from : Setup → Place → Listed Call → List ℕ
output_from setup place rest = text_from setup place rest.items ++ ending_from setup place rest

-- the calls behind the first line
abbrev pub calls_behind : Setup → (lines : List (List ℕ)) → Listed Call
calls_behind setup lines = calls_from setup.kind.order 2 lines

-- the number of the first faulty line; without a first line it is 1
unfoldable pub fault_in : (lines : List (List ℕ)) → Option ℕ
fault_in [] = Some 1
fault_in (line ∷ lines) = option_map_or (λ setup. (calls_behind setup lines).fault) (setup_of line) (Some 1)

-- the text of the calls before the first fault
unfoldable pub text_in : (lines : List (List ℕ)) → List ℕ
text_in [] = []
text_in (line ∷ lines) =
    option_map_or (λ setup. text setup (calls_behind setup lines).items) (setup_of line) []

-- that text, and without a fault the last line
unfoldable pub output_in : (lines : List (List ℕ)) → List ℕ
output_in [] = []
output_in (line ∷ lines) =
    option_map_or (λ setup. output_from setup (start setup) (calls_behind setup lines)) (setup_of line) []

-- the number of a script's first faulty line
abbrev pub fault_of : (input : List ℕ) → Option ℕ
fault_of input = fault_in (lines_of input)

-- the text of its calls before the first fault
abbrev pub text_before : (input : List ℕ) → List ℕ
text_before input = text_in (lines_of input)

-- all that it writes
abbrev pub output_of : (input : List ℕ) → List ℕ
output_of input = output_in (lines_of input)

-- the lines behind the first are these calls
abbrev pub AreCalls : Order → (lines : List (List ℕ)) → List Call → Type 0
AreCalls order [] [] = ⊤
AreCalls order [] (call ∷ calls) = ⊥
AreCalls order (line ∷ lines) [] = ⊥
AreCalls order (line ∷ lines) (call ∷ calls) = (call_of order line ≡ Some call) × AreCalls order lines calls

-- the line at the end of one thread's calls: how many records they wrote, and how many tickets have which fate by them
abbrev pub closing : Setup → List Call → List ℕ
closing setup calls = last_line (length (records setup calls)) (standing_in (records setup calls))

-- a script about a place, all of whose other lines are calls, has no fault; it writes their replies and the last line
abbrev pub ScriptsAreAnswered : Type 0
ScriptsAreAnswered =
    (line : List ℕ) (lines : List (List ℕ)) (setup : Setup) (calls : List Call)
    → setup_of line ≡ Some setup → AreCalls setup.kind.order lines calls
    → (fault_in (line ∷ lines) ≡ None) × (output_in (line ∷ lines) ≡ text setup calls ++ closing setup calls)

-- a script with a line that is no call has its fault there; it writes the replies to the calls before, whatever follows
abbrev pub FaultsEndScripts : Type 0
FaultsEndScripts =
    (line : List ℕ) (lines : List (List ℕ)) (bad : List ℕ) (more : List (List ℕ)) (setup : Setup) (calls : List Call)
    → setup_of line ≡ Some setup → AreCalls setup.kind.order lines calls → call_of setup.kind.order bad ≡ None
    → (fault_in (line ∷ (lines ++ bad ∷ more)) ≡ Some (length lines + 2))
    × (output_in (line ∷ (lines ++ bad ∷ more)) ≡ text setup calls)

-- how far a run has come: of the input this rest is left, which begins with line n; the place is here, and this was
-- written
pub record Reached (setup : Setup) (input rest : List ℕ) (n : ℕ) (place : Place) (written : List ℕ) : Type 0 where
  pub fault : fault_of input ≡ (calls_from setup.kind.order n (lines_of rest)).fault
  pub text : text_before input ≡ written ++ text_from setup place (calls_from setup.kind.order n (lines_of rest)).items
  pub output : output_of input ≡ written ++ output_from setup place (calls_from setup.kind.order n (lines_of rest))
