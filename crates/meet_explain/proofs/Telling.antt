-- What is told of a text that was read, where its bytes are known.
use Rattle.std.proofs.Common.{◌≡◌, ℕ, refl, sym, subst, Bool, true, false, Option, Some, None, Ok, List, [], ◌++◌, append-nil}
use Rattle.std.specs.Prelude.{IfSome}
use Rattle.std.specs.Io.KnownBytes.{Appends}
use Rattle.std.proofs.lemmas.Bool.{true≢false}
use Rattle.meet_run.specs.Texts.Reading.{lines_of}
use Rattle.meet_run.specs.Tracing.Traces.{IsFoundIn}
use Rattle.meet_explain.specs.Explained.{IsTold, IsExplained, ExplainEnds}

-- of a legal trace the line that `check` finds
pub told-legal : (old : Option (List ℕ)) (legal : Bool) (line : List ℕ) → legal ≡ true → IfSome old (λ input. IsFoundIn (lines_of input) legal line) → IfSome old (λ input. IsTold (lines_of input) true line)
told-legal None legal line is found = tt
told-legal (Some xs) legal line is found = record {
  line = line;
  found = subst (λ b. IsFoundIn (lines_of xs) b line) is found;
  more = [];
  whole = sym (append-nil line);
  alone = λ _. refl;
}

-- of another one more behind it
pub told-more : (old : Option (List ℕ)) (legal : Bool) (line more text : List ℕ) → legal ≡ false → IfSome old (λ input. IsFoundIn (lines_of input) legal line) → text ≡ line ++ more → IfSome old (λ input. IsTold (lines_of input) false text)
told-more None legal line more text is found whole = tt
told-more (Some xs) legal line more text is found whole = record {
  line = line;
  found = subst (λ b. IsFoundIn (lines_of xs) b line) is found;
  more = more;
  whole = whole;
  alone = λ yes. absurd (true≢false (sym yes));
}

-- and it is written
pub told-written : (old before after : Option (List ℕ)) (legal : Bool) (text : List ℕ) → IfSome old (λ input. IsTold (lines_of input) legal text) → Appends before after text → IfSome old (λ input. ExplainEnds (lines_of input) (Ok legal) before after)
told-written None before after legal text told wrote = tt
told-written (Some xs) before after legal text told wrote = (text, told, wrote)
