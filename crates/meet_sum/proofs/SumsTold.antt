-- What is said of a trace that was read, and what a fault leaves.
use Rattle.std.proofs.Common.{◌≡◌, inl, inr, ℕ, ◌+◌, sym, ap, ◌∙◌, subst, Bool, false, Option, Some, None, Ok, List, ◌++◌, length}
use Rattle.std.specs.Prelude.{IfSome}
use Rattle.std.specs.Io.KnownBytes.{Appends}
use Rattle.meet_tickets.specs.declared.records.Deed.{Deed}
use Rattle.meet_tickets.specs.declared.records.Record.{Record}
use Rattle.meet_tickets.specs.declared.refusals.Refusal.TheVariants.{Memory, WriteFault}
use Rattle.meet_tickets.specs.Bases.{IsWellFormed, IsLegalOn}
use Rattle.meet_history.specs.declared.checker.CheckFault.TheVariants.{Illegal}
use Rattle.meet_history.specs.declared.checker.Standing.{Standing}
use Rattle.meet_history.specs.declared.checker.Why.{Why}
use Rattle.meet_history.specs.Pushing.{HasTaken, SeenWith, IsStandingOf}
use Rattle.meet_run.specs.declared.trace.check.ReadTrace.{ReadTrace}
use Rattle.meet_run.specs.declared.text.faults.RunFault.{RunFault}
use Rattle.meet_run.specs.Texts.Reading.{lines_of}
use Rattle.meet_run.specs.Tracing.Traces.{IsRead, IsReadWith, IsFoundIn, IsUnreadTrace, IsVerdictOf, NamesLine, trace_fault_in}
use Rattle.meet_run.specs.Tracing.TraceWording.{illegal_line}
use Rattle.meet_run.specs.Scripts.Wording.{last_line}
use Rattle.meet_run.specs.Texts.Writing.{AppendsPrefix}
use Rattle.meet_run.proofs.Scripts.Ran.{appends-nothing}
use Rattle.meet_run.proofs.Tracing.TraceReading.{found-lines}
use Rattle.meet_sum.specs.declared.sums.Sums.{Sums}
use Rattle.meet_sum.specs.Summing.{IsSummed, IsSaid, SumBreaks, SumEnds}
use Rattle.meet_sum.specs.Sums.{AreSums}
use Rattle.meet_sum.specs.SumTexts.{sums_text}

-- of a legal trace its line and its sums
pub summed : (lines : List (List ℕ)) (trace : ReadTrace) (standing : Standing) (records : List (Record Deed)) (sums : Sums) (text : List ℕ) → IsReadWith lines trace records → trace.checker.fault ≡ None → IsStandingOf trace.checker standing →
    AreSums trace.base records sums → text ≡ last_line trace.count standing ++ sums_text sums → IsSummed lines text
summed lines trace standing records sums text (read, is) sound stands add told =
    let same : records ≡ read.records = sym is in
    let taken : HasTaken trace.base trace.checker read.records = subst (λ f. SeenWith trace.base f trace.checker read.records) sound read.seen.1 in
    record {
      kind = trace.kind;
      base = trace.base;
      records = read.records;
      trace = read.told;
      well_formed = subst (λ k. IsWellFormed k trace.base) read.own read.seen.0;
      legal = subst (λ k. IsLegalOn k trace.base read.records) read.own taken.legal;
      sums = sums;
      are = subst (λ rs. AreSums trace.base rs sums) same add;
      told = told ∙ ap (λ n. last_line n standing ++ sums_text sums) read.counted
          ∙ ap (λ s. last_line (trace.base.gone + length read.records) s ++ sums_text sums) (stands trace.base read.records read.seen);
    }

-- of another one the line of the first record that can't stand
pub faulted : (lines : List (List ℕ)) (trace : ReadTrace) (number : ℕ) (why : Why) (text : List ℕ) → IsRead lines trace → trace.checker.fault ≡ Some (Illegal number why) → text ≡ illegal_line number why → IsFoundIn lines false text
faulted lines trace number why text read fault told = found-lines lines trace false text read verdict
  where
    verdict : IsVerdictOf trace.checker trace.count false text
    verdict = λ base records seen counted. (number, why, subst (λ f. SeenWith base f trace.checker records) fault seen.1, told)

-- faults of a text that wasn't read to its end
pub sum-unread : (lines : List (List ℕ)) (writer : Option (List ℕ)) (f : RunFault) → IsUnreadTrace f → NamesLine f (trace_fault_in lines) → SumBreaks lines f.why f.line writer writer
sum-unread lines writer f (inl bad) names =
    let at : trace_fault_in lines ≡ Some bad.0 = sym (names (ap (λ x. x.why) bad.1)) ∙ ap (λ x. x.line) bad.1 in
    subst (λ (x : RunFault). SumBreaks lines x.why x.line writer writer) (sym bad.1) (at, appends-nothing writer)
sum-unread lines writer f (inr (inl memory)) names =
    subst (λ (x : RunFault). SumBreaks lines x.why x.line writer writer) (sym memory) (appends-nothing writer)
sum-unread lines writer f (inr (inr read)) names =
    subst (λ (x : RunFault). SumBreaks lines x.why x.line writer writer) (sym read) (appends-nothing writer)

-- a write that failed
pub sum-broken : (lines : List (List ℕ)) (before after : Option (List ℕ)) (f : RunFault) (legal : Bool) (text : List ℕ) → f ≡ record { why = WriteFault; line = None } → IsSaid lines legal text → AppendsPrefix before after text → SumBreaks lines f.why f.line before after
sum-broken lines before after f legal text is said prefix =
    subst (λ (x : RunFault). SumBreaks lines x.why x.line before after) (sym is) (legal, text, said, prefix)

-- the same of what came of reading it
pub sum-none : (old writer : Option (List ℕ)) (f : RunFault) → IsUnreadTrace f → IfSome old (λ input. NamesLine f (trace_fault_in (lines_of input))) → IfSome old (λ input. SumBreaks (lines_of input) f.why f.line writer writer)
sum-none None writer f unread names = tt
sum-none (Some xs) writer f unread names = sum-unread (lines_of xs) writer f unread names

module _ (old : Option (List ℕ)) (trace : ReadTrace) (records : List (Record Deed)) (read : IfSome old (λ input. IsReadWith (lines_of input) trace records)) (legal : Bool) (text : List ℕ)
    (said : (lines : List (List ℕ)) → IsReadWith lines trace records → IsSaid lines legal text) (before after : Option (List ℕ)) where
  pub sum-short : (f : RunFault) → f ≡ record { why = WriteFault; line = None } → AppendsPrefix before after text → IfSome old (λ input. SumBreaks (lines_of input) f.why f.line before after)
  sum-short f is prefix = by old read
    where
      by : (o : Option (List ℕ)) → IfSome o (λ input. IsReadWith (lines_of input) trace records) → IfSome o (λ input. SumBreaks (lines_of input) f.why f.line before after)
      by None own = tt
      by (Some xs) own = sum-broken (lines_of xs) before after f legal text is (said (lines_of xs) own) prefix

  pub sum-done : Appends before after text → IfSome old (λ input. SumEnds (lines_of input) (Ok legal) before after)
  sum-done wrote = by old read
    where
      by : (o : Option (List ℕ)) → IfSome o (λ input. IsReadWith (lines_of input) trace records) → IfSome o (λ input. SumEnds (lines_of input) (Ok legal) before after)
      by None own = tt
      by (Some xs) own = (text, said (lines_of xs) own, wrote)

-- there was no memory
pub sum-memory : (old writer : Option (List ℕ)) (f : RunFault) → f ≡ record { why = Memory; line = None } → IfSome old (λ input. SumBreaks (lines_of input) f.why f.line writer writer)
sum-memory None writer f is = tt
sum-memory (Some xs) writer f is = subst (λ (x : RunFault). SumBreaks (lines_of xs) x.why x.line writer writer) (sym is) (appends-nothing writer)
