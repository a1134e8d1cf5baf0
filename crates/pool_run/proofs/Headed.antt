-- A text whose first line says what a pool is made with, and what comes of the others.
use Rattle.std.proofs.Common.{◌≡◌, ◌⊎◌, inl, inr, ℕ, List, [], ◌∷◌, Option, Some, None, Result, Err, Bool, sym, subst}
use Rattle.std.specs.Prelude.{IfSome, MatchOption}
use Rattle.meet_tickets.specs.declared.refusals.Refusal.{Refusal}
use Rattle.meet_tickets.specs.declared.refusals.Refusal.TheVariants.{Memory, ReadFault}
use Rattle.meet_run.specs.declared.text.faults.RunFault.{RunFault}
use Rattle.meet_run.specs.Texts.Reading.{lines_of, Both}
use Rattle.meet_run.proofs.Scripts.Ran.{appends-nothing}
use Rattle.pool_core.specs.declared.settings.Settings.{Settings}
use Rattle.pool_run.specs.FirstLines.{settings_of}
use Rattle.pool_run.specs.Scripts.{IsHeadless, TextEnds}
use Rattle.pool_run.proofs.Came.{everywhere}
use Rattle.pool_run.proofs.Running.{outside}

module _ (Comes : Settings → (lines : List (List ℕ)) → Result Bool RunFault → (old new : Option (List ℕ)) → Type 0) where
  -- the first line was read
  pub text-behind : (old mid : Option (List ℕ)) (s : Settings) (r : Result Bool RunFault) (before after : Option (List ℕ)) → Both old mid (λ xs ys. (line : List ℕ) × (lines_of xs ≡ line ∷ lines_of ys) × (settings_of line ≡ Some s)) → IfSome mid (λ ys. Comes s (lines_of ys) r before after) → IfSome old (λ xs. TextEnds Comes (lines_of xs) r before after)
  unfolding TextEnds
  text-behind None mid s r before after head came = tt
  text-behind (Some xs) None s r before after head came = absurd head
  text-behind (Some xs) (Some ys) s r before after head came = subst (λ ls. TextEnds Comes ls r before after) (sym head.1) (at-head head.0 (lines_of ys) head.2 came)
    where
      at-head : (line : List ℕ) (lines : List (List ℕ)) → settings_of line ≡ Some s → Comes s lines r before after → TextEnds Comes (line ∷ lines) r before after
      at-head line lines is here = subst (λ o. MatchOption o (IsHeadless r before after) (λ z. Comes z lines r before after)) (sym is) here

  -- there is none
  pub text-lineless : (old : Option (List ℕ)) (r : Result Bool RunFault) (before after : Option (List ℕ)) → IfSome old (λ xs. lines_of xs ≡ []) → IsHeadless r before after → IfSome old (λ xs. TextEnds Comes (lines_of xs) r before after)
  unfolding TextEnds
  text-lineless None r before after none is = tt
  text-lineless (Some xs) r before after none is = subst (λ ls. TextEnds Comes ls r before after) (sym none) is

  -- or it says nothing
  pub text-headless : (old : Option (List ℕ)) (r : Result Bool RunFault) (before after : Option (List ℕ)) → IfSome old (λ xs. (line : List ℕ) × (lines : List (List ℕ)) × (lines_of xs ≡ line ∷ lines) × (settings_of line ≡ None)) → IsHeadless r before after → IfSome old (λ xs. TextEnds Comes (lines_of xs) r before after)
  unfolding TextEnds
  text-headless None r before after bad is = tt
  text-headless (Some xs) r before after bad is = subst (λ ls. TextEnds Comes ls r before after) (sym bad.2) (at-bad bad.0 bad.1 bad.3)
    where
      at-bad : (line : List ℕ) (lines : List (List ℕ)) → settings_of line ≡ None → TextEnds Comes (line ∷ lines) r before after
      at-bad line lines none = subst (λ o. MatchOption o (IsHeadless r before after) (λ z. Comes z lines r before after)) (sym none) is

  -- it wasn't read, or there was no memory
  text-unread : (why : Refusal) (writer : Option (List ℕ)) → (why ≡ Memory) ⊎ (why ≡ ReadFault) → ((s : Settings) (lines : List (List ℕ)) → Comes s lines (Err (outside why)) writer writer) → (lines : List (List ℕ)) → TextEnds Comes lines (Err (outside why)) writer writer
  unfolding TextEnds
  text-unread why writer is comes lines = by_lines lines
    where
      headless : (why ≡ Memory) ⊎ (why ≡ ReadFault) → IsHeadless (Err (outside why)) writer writer
      headless (inl same) = subst (λ w. IsHeadless (Err (outside w)) writer writer) (sym same) (appends-nothing writer)
      headless (inr same) = subst (λ w. IsHeadless (Err (outside w)) writer writer) (sym same) (appends-nothing writer)

      by_head : (lines : List (List ℕ)) (o : Option Settings) → MatchOption o (IsHeadless (Err (outside why)) writer writer) (λ z. Comes z lines (Err (outside why)) writer writer)
      by_head lines None = headless is
      by_head lines (Some s) = comes s lines

      by_lines : (lines : List (List ℕ)) → TextEnds Comes lines (Err (outside why)) writer writer
      by_lines [] = headless is
      by_lines (line ∷ lines) = by_head lines (settings_of line)

  pub text-none : (old : Option (List ℕ)) (f : RunFault) (why : Refusal) (writer : Option (List ℕ)) → f ≡ outside why → (why ≡ Memory) ⊎ (why ≡ ReadFault) → ((s : Settings) (lines : List (List ℕ)) → Comes s lines (Err (outside why)) writer writer) → IfSome old (λ xs. TextEnds Comes (lines_of xs) (Err f) writer writer)
  text-none old f why writer fault is comes = everywhere old (λ xs. TextEnds Comes (lines_of xs) (Err f) writer writer)
      (λ xs. subst (λ g. TextEnds Comes (lines_of xs) (Err g) writer writer) (sym fault) (text-unread why writer is comes (lines_of xs)))
