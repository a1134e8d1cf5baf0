-- The lines of a text, and what reading one of them takes.
use Rattle.std.specs.Prelude.{◌≡◌, ◌⊎◌, ℕ, ◌+◌, ◌<◌, ◌≤◌, ◌==◌, Option, Some, None, IfSome, ⊤, List, [], ◌∷◌, length}
use Rattle.std.specs.Prelude.{if◌then◌else◌, false}
use Rattle.std.specs.Option.{option_map_or}
use Rattle.std.specs.Io.KnownBytes.{Consumes, IsAtEnd}
use Rattle.meet_run.specs.declared.text.reading.ByteRead.{ByteRead}
use Rattle.meet_run.specs.declared.text.reading.ByteRead.TheVariants.{Byte, End as EndOfBytes, Failed as ByteFailed}
use Rattle.meet_run.specs.declared.text.reading.LineRead.{LineRead}
use Rattle.meet_run.specs.declared.text.reading.LineRead.TheVariants.{Line, End, TooLong, Failed}

-- a byte in front of the first line, or a line of its own where there is none
abbrev pub with_front : ℕ → List (List ℕ) → List (List ℕ)
with_front b [] = (b ∷ []) ∷ []
with_front b (line ∷ lines) = (b ∷ line) ∷ lines

-- the lines of a text, each ended by the byte 10; the last may lack it
unfoldable pub lines_of : List ℕ → List (List ℕ)
lines_of [] = []
lines_of (b ∷ bs) = if b == 10 then [] ∷ lines_of bs else with_front b (lines_of bs)

-- no byte ends a line
abbrev pub HasNoEnd : List ℕ → Type 0
HasNoEnd [] = ⊤
HasNoEnd (b ∷ bs) = ((b == 10) ≡ false) × HasNoEnd bs

-- what lines read as, up to the first that reads as nothing, and the number of that line, if there is one
pub record Listed (A : Type 0) : Type 0 where
  pub items : List A
  pub fault : Option ℕ

-- no line is left
abbrev pub no_more : {A : Type 0} → Listed A
no_more = record { items = []; fault = None }

-- the line with this number is faulty
abbrev pub faulty_at : {A : Type 0} → (n : ℕ) → Listed A
faulty_at n = record { items = []; fault = Some n }

-- one more in front
abbrev pub with_item : {A : Type 0} → A → Listed A → Listed A
with_item item rest = record { items = item ∷ rest.items; fault = rest.fault }

-- what these lines read as, by their numbers, of which this is the first
unfoldable pub listed : {A : Type 0} → (reading : ℕ → List ℕ → Option A) → (n : ℕ) → (lines : List (List ℕ)) → Listed A
listed reading n [] = no_more
listed reading n (line ∷ lines) =
    option_map_or (λ item. with_item item (listed reading (n + 1) lines)) (reading n line) (faulty_at n)

-- a fact of the known bytes before and after
abbrev pub Both : (old new : Option (List ℕ)) → (List ℕ → List ℕ → Type 0) → Type 0
Both None new P = ⊤
Both (Some xs) None P = ⊥
Both (Some xs) (Some ys) P = P xs ys

-- the known bytes begin with a line, and lose it
abbrev pub TakesLine : (old new : Option (List ℕ)) → (line : List ℕ) → Type 0
TakesLine old new line = Both old new (λ xs ys. lines_of xs ≡ line ∷ lines_of ys)

-- the known bytes begin with a line of more than 128 bytes
abbrev pub BeginsTooLong : (old : Option (List ℕ)) → Type 0
BeginsTooLong old =
    IfSome old (λ xs. (line : List ℕ) × (lines : List (List ℕ)) × (lines_of xs ≡ line ∷ lines) × (128 < length line))

-- known bytes were taken from the front, each at the cost of a turn
abbrev pub UsesTurns : (old new : Option (List ℕ)) → (turns rest : ℕ) → Type 0
UsesTurns old new turns rest = (seen : List ℕ) × Consumes old new seen × (length seen + rest ≤ turns)

-- a read that failed behind so many bytes, each of which cost a turn: it cost one more, or none was left for it
abbrev pub FailsBehind : (bytes : ℕ) → (turns rest : ℕ) → Type 0
FailsBehind bytes turns rest = (bytes + rest + 1 ≡ turns) ⊎ ((bytes ≡ turns) × (rest ≡ 0))

-- what reading a byte did to the known bytes, and to the turns
abbrev pub ReadsByte : ByteRead → (old new : Option (List ℕ)) → (turns rest : ℕ) → Type 0
ReadsByte (Byte b) old new turns rest = Consumes old new (b ∷ []) × (rest + 1 ≡ turns)
ReadsByte EndOfBytes old new turns rest = Consumes old new [] × IsAtEnd new × (rest + 1 ≡ turns)
ReadsByte ByteFailed old new turns rest = Consumes old new [] × FailsBehind 0 turns rest

-- what reading a line did to the known bytes: a line was taken; there was none; the first is too long; or a read failed
-- behind these bytes
abbrev pub ReadsLine : LineRead → (old new : Option (List ℕ)) → (turns rest : ℕ) → (line : List ℕ) → Type 0
ReadsLine Line old new turns rest line = TakesLine old new line × (length line ≤ 128)
ReadsLine End old new turns rest line = Consumes old new [] × IsAtEnd new × (rest + 1 ≤ turns)
ReadsLine TooLong old new turns rest line = BeginsTooLong old
ReadsLine Failed old new turns rest line = Consumes old new line × FailsBehind (length line) turns rest

-- the known bytes ended within the turns: each byte cost one, and so did seeing the end
abbrev pub EndsInTurns : (old : Option (List ℕ)) → (turns : ℕ) → Type 0
EndsInTurns old turns = IfSome old (λ xs. length xs < turns)

-- all that reading a line does but to fail costs a turn
abbrev pub SpendsTurn : LineRead → (turns rest : ℕ) → Type 0
SpendsTurn Line turns rest = rest + 1 ≤ turns
SpendsTurn End turns rest = rest + 1 ≤ turns
SpendsTurn TooLong turns rest = rest + 1 ≤ turns
SpendsTurn Failed turns rest = rest ≤ turns
