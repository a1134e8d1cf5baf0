-- Lines that end a run, and the text of some replies.
use Rattle.std.proofs.Common.{◌≡◌, ℕ, ◌+◌, ◌<◌, List, [], ◌∷◌, ◌++◌, length, take, get_or, Option, Some, None, refl, sym, ap, ◌∙◌}
use Rattle.std.specs.Prelude.{IfSome}
use Rattle.std.specs.List.{flat_map}
use Rattle.std.specs.Io.KnownBytes.{Consumes, IsAtEnd}
use Rattle.std.proofs.lemmas.List.{take_more, flat_map_more}
use Rattle.meet_history.specs.declared.one_thread.replies.Reply.{Reply}
use Rattle.meet_run.specs.Texts.Reading.{lines_of, BeginsTooLong}
use Rattle.meet_run.specs.Scripts.Script.{replies_text}
use Rattle.meet_run.specs.Scripts.Wording.{text_of}
use Rattle.meet_run.proofs.Texts.LineLemmas.{no-lines}

-- at the end of the input no line was left
pub ended-lines : (old new : Option (List ℕ)) → Consumes old new [] → IsAtEnd new → IfSome old (λ xs. lines_of xs ≡ [])
ended-lines None new same end = tt
ended-lines (Some xs) None same end = absurd same
ended-lines (Some xs) (Some ys) same end = ap lines_of same ∙ no-lines (Some ys) end

-- a line that is too long reads as nothing
pub too-long-line : {A : Type 0} (reading : List ℕ → Option A) (old : Option (List ℕ)) → ((line : List ℕ) → 128 < length line → reading line ≡ None) → BeginsTooLong old → IfSome old (λ xs. (line : List ℕ) × (lines : List (List ℕ)) × (lines_of xs ≡ line ∷ lines) × (reading line ≡ None))
too-long-line reading None none begins = tt
too-long-line reading (Some xs) none begins = (begins.0, begins.1, begins.2, none begins.0 begins.3)

-- no reply has no text
pub text-none : replies_text [] ≡ []
unfolding replies_text
text-none = refl

-- the text of some replies and of one more
pub text-take : (prefix : List ℕ) (replies : List Reply) (i : ℕ) (reply : Reply) → i < length replies → reply ≡ get_or replies i reply → (prefix ++ replies_text (take i replies)) ++ text_of reply ≡ prefix ++ replies_text (take (i + 1) replies)
unfolding replies_text
text-take prefix replies i reply there is =
    flat_map_more text_of prefix (take i replies) reply
    ∙ ap (λ rs. prefix ++ flat_map text_of rs) (ap (λ r. take i replies ++ r ∷ []) is ∙ sym (take_more replies i reply there))
