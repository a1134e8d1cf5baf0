-- What a chain says: whole traces, one behind another, each of which begins with a trace's first line (our choice).
use Rattle.std.specs.Prelude.{◌≡◌, ℕ, ◌+◌, ◌<◌, ◌||◌, Bool, true, false, Option, Some, None, is_some, IfSome, List, []}
use Rattle.std.specs.Prelude.{◌∷◌, ◌++◌, length, All, ⊤, if◌then◌else◌}
use Rattle.std.specs.Io.KnownBytes.{Appends}
use Rattle.std.specs.Prelude.{Result, Ok, Err}
use Rattle.std.specs.Option.{option_map_or}
use Rattle.meet_tickets.specs.declared.refusals.Refusal.{Refusal}
use Rattle.meet_tickets.specs.declared.refusals.Refusal.TheVariants.{Memory, BadTrace, ReadFault, WriteFault}
use Rattle.meet_run.specs.declared.trace.check.ReadTrace.{ReadTrace}
use Rattle.meet_run.specs.declared.trace.chains.Behind.{Behind}
use Rattle.meet_run.specs.declared.trace.chains.Behind.TheVariants.{Head, End, TooLong}
use Rattle.meet_run.specs.declared.text.faults.RunFault.{RunFault}
use Rattle.meet_run.specs.Tracing.BaseGrammar.{based_head_of}
use Rattle.meet_run.specs.Tracing.Chapters.{Chapter, IsFoundOfAll}
use Rattle.meet_run.specs.Tracing.TraceGrammar.{head_of}
use Rattle.meet_run.specs.Texts.Reading.{lines_of, Both}
use Rattle.meet_run.specs.Tracing.Traces.{trace_fault_in, IsTraceOn, IsRead}
use Rattle.meet_run.specs.Texts.Writing.{AppendsPrefix}

-- whether a line is the first of a trace
abbrev pub is_head : (line : List ℕ) → Bool
is_head line = is_some (head_of line) || is_some (based_head_of line)

-- a line in front of the parts behind it: of the first one, or of its own where that begins with a trace's first line
abbrev pub with_line : (line : List ℕ) → (parts : List (List (List ℕ))) → List (List (List ℕ))
with_line line [] = (line ∷ []) ∷ []
with_line line ([] ∷ parts) = (line ∷ []) ∷ parts
with_line line ((first ∷ part) ∷ parts) =
    if is_head first then (line ∷ []) ∷ ((first ∷ part) ∷ parts) else (line ∷ first ∷ part) ∷ parts

-- the lines of a text, parted before each that is the first of a trace
unfoldable pub parts_of : (lines : List (List ℕ)) → List (List (List ℕ))
parts_of [] = []
parts_of (line ∷ lines) = with_line line (parts_of lines)

-- the number of the first faulty line of these parts, where so many lines stand before them
unfoldable pub fault_in_parts : (before : ℕ) → (parts : List (List (List ℕ))) → Option ℕ
fault_in_parts before [] = None
fault_in_parts before (part ∷ parts) =
    option_map_or (λ n. Some (before + n)) (trace_fault_in part) (fault_in_parts (before + length part) parts)

-- the number of a chain's first faulty line; without a line it is 1
unfoldable pub chain_fault_in : (lines : List (List ℕ)) → Option ℕ
chain_fault_in [] = Some 1
chain_fault_in (line ∷ lines) = fault_in_parts 0 (parts_of (line ∷ lines))

-- parts are the whole traces of these chapters, one of each
abbrev pub AreTraces : (parts : List (List (List ℕ))) → (chapters : List Chapter) → Type 0
AreTraces [] [] = ⊤
AreTraces (part ∷ parts) (chapter ∷ chapters) =
    IsTraceOn part chapter.kind chapter.base chapter.records × AreTraces parts chapters
AreTraces _ _ = ⊥

-- the lines are a chain, of which this is found
pub record IsChainFound (lines : List (List ℕ)) (legal : Bool) (text : List ℕ) : Type 0 where
  pub chapters : List Chapter
  pub traces : AreTraces (parts_of lines) chapters
  pub found : IsFoundOfAll chapters legal text

-- what a fault leaves of a chain's check: nothing is written but where a write failed, and then a prefix of what is
-- found
abbrev pub ChainBreaks : (lines : List (List ℕ)) → Refusal → Option ℕ → (old new : Option (List ℕ)) → Type 0
ChainBreaks lines BadTrace (Some n) old new = (chain_fault_in lines ≡ Some n) × Appends old new []
ChainBreaks lines Memory None old new = Appends old new []
ChainBreaks lines ReadFault None old new = Appends old new []
ChainBreaks lines WriteFault None old new = (legal : Bool) × (text : List ℕ) × IsChainFound lines legal text
    × AppendsPrefix old new text
ChainBreaks lines _ _ old new = ⊥

-- what came of a chain's check
abbrev pub ChainEnds : (lines : List (List ℕ)) → Result Bool RunFault → (old new : Option (List ℕ)) → Type 0
ChainEnds lines (Ok legal) old new = (text : List ℕ) × IsChainFound lines legal text × Appends old new text
ChainEnds lines (Err f) old new = ChainBreaks lines f.why f.line old new

-- none of these lines is the first of a trace
abbrev pub HaveNoHead : (lines : List (List ℕ)) → Type 0
HaveNoHead lines = All (λ line. is_head line ≡ false) lines

-- a part begins with this line: its lines are read, as this text, and this stands behind it
abbrev pub IsPart : (first : List ℕ) → (old new : Option (List ℕ)) → (lines : ℕ) → Behind → (text line : List ℕ)
    → Type 0
IsPart first old new lines Head text line = Both old new (λ xs ys. (own : List (List ℕ))
    × (lines_of xs ≡ own ++ line ∷ lines_of ys) × HaveNoHead own × (is_head line ≡ true)
    × (lines_of text ≡ first ∷ own) × (lines ≡ length own + 1))
IsPart first old new lines End text line = IfSome old (λ xs. HaveNoHead (lines_of xs)
    × (lines_of text ≡ first ∷ lines_of xs) × (lines ≡ length (lines_of xs) + 1))
IsPart first old new lines TooLong text line = IfSome old (λ xs. (own : List (List ℕ)) × (long : List ℕ)
    × (rest : List (List ℕ)) × (lines_of xs ≡ own ++ long ∷ rest) × (128 < length long) × HaveNoHead own
    × (lines_of text ≡ first ∷ own) × (lines ≡ length own + 1))

-- a part begins with this line: its lines are those of the trace that was read; so many lines stand before what is
-- behind it, where that is another part, which begins with this line
abbrev pub IsChapterRead : (first : List ℕ) → (old new : Option (List ℕ)) → (before : ℕ) → ReadTrace → (after : ℕ)
    → (more : Bool) → (line : List ℕ) → Type 0
IsChapterRead first old new before trace after true line = Both old new (λ xs ys. (own : List (List ℕ))
    × (lines_of xs ≡ own ++ line ∷ lines_of ys) × HaveNoHead own × (is_head line ≡ true)
    × IsRead (first ∷ own) trace × (after ≡ before + (length own + 1)))
IsChapterRead first old new before trace after false line = IfSome old (λ xs. HaveNoHead (lines_of xs)
    × IsRead (first ∷ lines_of xs) trace)
