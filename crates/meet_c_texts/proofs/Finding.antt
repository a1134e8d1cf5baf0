-- What is found of a trace that was read, or of one that can't be read.
use Rattle.std.proofs.Common.{◌≡◌, ◌≢◌, ℕ, List, Some, sym, ap, subst, ◌∙◌, inl, inr, arith}
use Rattle.std.specs.Option.{unwrap_or}
use Rattle.meet_tickets.specs.Refusals.{number_of}
use Rattle.meet_history.specs.Checking.{IsIllegalAt}
use Rattle.meet_history.specs.Pushing.{SeenWith}
use Rattle.meet_history.proofs.Pushed.{taken-all}
use Rattle.meet_run.specs.declared.trace.check.ReadTrace.{ReadTrace}
use Rattle.meet_run.specs.declared.text.faults.RunFault.{RunFault}
use Rattle.meet_run.specs.Texts.Reading.{lines_of}
use Rattle.meet_run.specs.Tracing.Traces.{IsRead, IsUnreadTrace, NamesLine, trace_fault_in}
use Rattle.meet_c_texts.specs.declared.checks.Verdict.{Verdict}
use Rattle.meet_c_texts.specs.Found.{VerdictOf, FoundIn, status_at}

-- a trace that was read
pub found-read : (text : List ℕ) (trace : ReadTrace) (v : Verdict) → IsRead (lines_of text) trace → VerdictOf trace v → FoundIn text v
found-read text trace v read is = record {
  legal = λ zero. let told = is.legal zero in (
    trace.kind,
    trace.base,
    read.records,
    read.told,
    record {
      legal = taken-all trace.base trace.checker trace.kind read.records read.own told.0 read.seen;
      stands = told.1 trace.base read.records read.seen;
      count = told.2 ∙ read.counted;
    },
  );
  illegal = λ one. let told = is.illegal one in
      let seen : IsIllegalAt trace.checker.place.kind trace.base read.records v.place told.0 = subst (λ f. SeenWith trace.base f trace.checker read.records) told.1 read.seen.1 in (
        trace.kind,
        trace.base,
        read.records,
        read.told,
        record {
          why = told.0;
          at = subst (λ k. IsIllegalAt k trace.base read.records v.place told.0) read.own seen;
          told = told.2;
        },
      );
  bad = λ fifteen. let not_zero : v.status ≢ 0 = λ e. absurd (omega (arith, fifteen, e)) in
      let not_one : v.status ≢ 31 = λ e. absurd (omega (arith, fifteen, e)) in
      let other : v.status ≡ 1 = ap (λ w. w.status) (is.others not_zero not_one) in absurd (omega (arith, fifteen, other));
  others = λ not_zero not_one not_bad. inl (is.others not_zero not_one);
}

-- the verdict on a trace that can't be read
abbrev pub fault_at : RunFault → Verdict
fault_at f = status_at (number_of f.why) (unwrap_or f.line 0)

module _ (text : List ℕ) (v : Verdict) where
  bad-line : (n : ℕ) → trace_fault_in (lines_of text) ≡ Some n → v ≡ status_at 15 n → FoundIn text v
  bad-line n at is =
      let status : v.status ≡ 15 = ap (λ w. w.status) is in
      record {
        legal = λ zero. absurd (omega (arith, status, zero));
        illegal = λ one. absurd (omega (arith, status, one));
        bad = λ fifteen. at ∙ ap (λ w. Some w.line) (sym is);
        others = λ a b not_bad. absurd (not_bad status);
      }

  no-memory : v ≡ status_at 1 0 → FoundIn text v
  no-memory is =
      let status : v.status ≡ 1 = ap (λ w. w.status) is in
      record {
        legal = λ zero. absurd (omega (arith, status, zero));
        illegal = λ one. absurd (omega (arith, status, one));
        bad = λ fifteen. absurd (omega (arith, status, fifteen));
        others = λ a b not_bad. inl is;
      }

  no-read : v ≡ status_at 16 0 → FoundIn text v
  no-read is =
      let status : v.status ≡ 16 = ap (λ w. w.status) is in
      record {
        legal = λ zero. absurd (omega (arith, status, zero));
        illegal = λ one. absurd (omega (arith, status, one));
        bad = λ fifteen. absurd (omega (arith, status, fifteen));
        others = λ a b not_bad. inr is;
      }

  pub found-fault : (f : RunFault) → IsUnreadTrace f → NamesLine f (trace_fault_in (lines_of text)) → v ≡ fault_at f → FoundIn text v
  found-fault f (inl (n, is)) names told =
      bad-line n (sym (names (ap (λ g. g.why) is)) ∙ ap (λ g. g.line) is) (told ∙ ap fault_at is)
  found-fault f (inr (inl is)) names told = no-memory (told ∙ ap fault_at is)
  found-fault f (inr (inr is)) names told = no-read (told ∙ ap fault_at is)
