-- What reading a line of calls takes from a text.
use Rattle.std.specs.Prelude.{◌≡◌, ℕ, Option, Some, None, List, [], ◌∷◌, ◌++◌}
use Rattle.std.specs.Io.KnownBytes.{Consumes, IsAtEnd}
use Rattle.meet_overlap.specs.declared.calls.Calls.{Calls}
use Rattle.meet_overlap.specs.declared.calls.Call.{Call}
use Rattle.meet_judge.specs.declared.reading.Taken.{Taken}
use Rattle.meet_judge.specs.declared.reading.Taken.TheVariants.{Line, End, Faulty}
use Rattle.meet_judge.specs.CallText.{call_text, words_of}

-- a byte is taken from the known bytes, or there is none
abbrev pub TakesByte : (old new : Option (List ℕ)) → Option ℕ → Type 0
TakesByte old new None = Consumes old new [] × IsAtEnd new
TakesByte old new (Some byte) = Consumes old new (byte ∷ [])

-- a line is taken from the known bytes, with its end; or there is none. Of a faulty one nothing is said
abbrev pub Takes : (old new : Option (List ℕ)) → (line : List ℕ) → Taken → Type 0
Takes old new line Line = Consumes old new line
Takes old new line End = Consumes old new [] × IsAtEnd new
Takes old new line Faulty = Unit {0}

-- a call's line is taken from the known bytes, and the call is added; or there is none
abbrev pub ReadsNext : (begin : Option ℕ) → (old new : Option (List ℕ)) → (before after : Calls) → Type 0
ReadsNext None old new before after = Consumes old new [] × IsAtEnd new × (after ≡ before)
ReadsNext (Some begin) old new before after = (call : Call) × Consumes old new (call_text (words_of before.queue) call)
    × (after.queue ≡ before.queue) × (after.list.items ≡ before.list.items ++ call ∷ [])
