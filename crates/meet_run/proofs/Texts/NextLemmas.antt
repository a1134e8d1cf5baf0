-- What the next line is, by what came of reading it.
use Rattle.std.proofs.Common.{◌≡◌, ℕ, ◌+◌, ◌<◌, ◌≤◌, Bool, true, false, cond, ltb, List, ◌∷◌, length, Option, Some, None, refl, sym, ap, subst, ◌∙◌}
use Rattle.std.specs.Prelude.{IfSome}
use Rattle.std.proofs.lemmas.Bool.{lt-ltb, le-ltb}
use Rattle.meet_tickets.specs.Limits.{most_records}
use Rattle.meet_run.specs.declared.text.reading.LineRead.{LineRead}
use Rattle.meet_run.specs.declared.text.reading.LineRead.TheVariants.{Line, End, TooLong, Failed}
use Rattle.meet_run.specs.declared.text.next.Next.{Next}
use Rattle.meet_run.specs.Texts.Reading.{lines_of, Both, TakesLine, ReadsLine, SpendsTurn}
use Rattle.meet_run.specs.Scripts.Running.{IsNext, IfRead, next_from}
use Rattle.meet_run.specs.Tracing.TraceGrammar.{head_of, record_of}
use Rattle.meet_run.specs.Tracing.Traces.{record_at}
use Rattle.meet_run.proofs.Scripts.RunLemmas.{ended-lines, too-long-line}

module _ {A : Type 0} (reading : List ℕ → Option A) where
  -- a line was read
  next-line : (o : Option A) (old new : Option (List ℕ)) (turns left : ℕ) (line : List ℕ) → reading line ≡ o → TakesLine old new line → left + 1 ≤ turns → IsNext reading (next_from Line o) old new turns left
  next-line (Some a) old new turns left line is takes spends = (found old new takes, spends)
    where
      found : (o n : Option (List ℕ)) → TakesLine o n line → Both o n (λ xs ys. (l : List ℕ) × (lines_of xs ≡ l ∷ lines_of ys) × (reading l ≡ Some a))
      found None n takes = tt
      found (Some xs) None takes = absurd takes
      found (Some xs) (Some ys) takes = (line, takes, is)
  next-line None old new turns left line is takes spends = (found old new takes, spends)
    where
      found : (o n : Option (List ℕ)) → TakesLine o n line → IfSome o (λ xs. (l : List ℕ) × (lines : List (List ℕ)) × (lines_of xs ≡ l ∷ lines) × (reading l ≡ None))
      found None n takes = tt
      found (Some xs) None takes = absurd takes
      found (Some xs) (Some ys) takes = (line, lines_of ys, takes, is)

  by_came : (came : LineRead) (old new : Option (List ℕ)) (turns left : ℕ) (line : List ℕ) → ((l : List ℕ) → 128 < length l → reading l ≡ None) → ReadsLine came old new turns left line → SpendsTurn came turns left → IsNext reading (next_from came (reading line)) old new turns left
  by_came Line old new turns left line none reads spends = next-line (reading line) old new turns left line refl reads.0 spends
  by_came End old new turns left line none reads spends = (ended-lines old new reads.0 reads.1, reads.0, reads.1, spends)
  by_came TooLong old new turns left line none reads spends = (too-long-line reading old none reads, spends)
  by_came Failed old new turns left line none reads spends = spends

  -- what the next line is; a line that is too long reads as nothing
  pub next-is : (next : Next A) (came : LineRead) (read : Option A) (old new : Option (List ℕ)) (turns left : ℕ) (line : List ℕ) → ((l : List ℕ) → 128 < length l → reading l ≡ None) → ReadsLine came old new turns left line → SpendsTurn came turns left → next ≡ next_from came read → read ≡ reading line → IsNext reading next old new turns left
  next-is next came read old new turns left line none reads spends is same =
      subst (λ n. IsNext reading n old new turns left) (sym (is ∙ ap (λ o. next_from came o) same)) (by_came came old new turns left line none reads spends)

-- what holds of all that is read holds of the next line
by_case : {A : Type 0} (P : A → Type 0) (came : LineRead) (o : Option A) → IfSome o P → IfRead (next_from came o) P
by_case P Line (Some a) fits = fits
by_case P Line None fits = tt
by_case P End o fits = tt
by_case P TooLong o fits = tt
by_case P Failed o fits = tt

pub fits-read : {A : Type 0} (P : A → Type 0) (next : Next A) (came : LineRead) (o : Option A) → next ≡ next_from came o → IfSome o P → IfRead next P
fits-read P next came o is fits = subst (λ n. IfRead n P) (sym is) (by_case P came o fits)

-- ---- lines of a trace that are too long

pub head-too_long : (line : List ℕ) → 128 < length line → head_of line ≡ None
unfolding head_of
head-too_long line long = rw (lt-ltb 128 (length line) long) refl

pub record-too_long : (n : ℕ) (line : List ℕ) → 128 < length line → record_at n line ≡ None
unfolding record_at record_of
record-too_long n line long = rw (lt-ltb 128 (length line) long) (either None (ltb (most_records + 1) n))
  where
    either : {A : Type 0} (o : Option A) (b : Bool) → cond b o o ≡ o
    either o true = refl
    either o false = refl

-- ---- lines of a trace that stand behind too many others

pub record_at-past : (n : ℕ) (line : List ℕ) → most_records + 1 < n → record_at n line ≡ None
unfolding record_at
record_at-past n line past = rw (lt-ltb (most_records + 1) n past) refl

pub record_at-within : (n : ℕ) (line : List ℕ) → n ≤ most_records + 1 → record_at n line ≡ record_of line
unfolding record_at
record_at-within n line within = rw (le-ltb (most_records + 1) n within) refl
