-- The text of calls, read line by line.
use Rattle.std.proofs.Common.{◌≡◌, ◌∙◌, ℕ, ap, sym, subst, Option, Some, None, List, [], ◌∷◌, ◌++◌, append_assoc}
use Rattle.std.specs.Prelude.{IfSome, codes}
use Rattle.std.specs.Io.KnownBytes.{Consumes, IsAtEnd}
use Rattle.std.proofs.lemmas.List.{append-nil}
use Rattle.meet_overlap.specs.declared.calls.Call.{Call}
use Rattle.meet_overlap.specs.declared.calls.Queue.{Queue}
use Rattle.meet_run.proofs.Texts.LineLemmas.{consumes-more}
use Rattle.meet_judge.specs.CallText.{call_text, calls_text, lines_text, queue_text, words_of}
use Rattle.meet_judge.proofs.Lines.{lines_more}

-- at the end all of it was read
pub all_taken : (old mid new : Option (List ℕ)) (text : List ℕ) → Consumes old mid text → Consumes mid new [] → IsAtEnd new → IfSome old (λ input. input ≡ text)
all_taken None mid new text taken none end = tt
all_taken (Some a) None new text taken none end = absurd taken
all_taken (Some a) (Some b) None text taken none end = absurd none
all_taken (Some a) (Some b) (Some c) text taken none end = taken ∙ ap (λ (t : List ℕ). text ++ t) (none ∙ end) ∙ append-nil text

-- a call more is a line more
pub calls_more : (queue : Queue) (calls : List Call) (call : Call) → calls_text queue calls ++ call_text (words_of queue) call ≡ calls_text queue (calls ++ call ∷ [])
calls_more queue calls call =
    append_assoc (codes "calls 1 " ++ queue_text queue ++ codes "\n") (lines_text (words_of queue) calls) (call_text (words_of queue) call)
    ∙ ap (λ t. codes "calls 1 " ++ queue_text queue ++ codes "\n" ++ t) (sym (lines_more (words_of queue) calls call))

pub one_more_taken : (queue : Queue) (calls : List Call) (call : Call) (old mid new : Option (List ℕ)) → Consumes old mid (calls_text queue calls) → Consumes mid new (call_text (words_of queue) call) → Consumes old new (calls_text queue (calls ++ call ∷ []))
one_more_taken queue calls call old mid new taken more =
    subst (Consumes old new) (calls_more queue calls call) (consumes-more old mid new (calls_text queue calls) (call_text (words_of queue) call) taken more)
