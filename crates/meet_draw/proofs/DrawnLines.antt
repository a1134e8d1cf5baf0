-- What is drawn of a trace that was read, and what a fault leaves.
use Rattle.std.proofs.Common.{◌≡◌, inl, inr, ℕ, ◌+◌, ◌-◌, sym, ap, ◌∙◌, subst, Bool, true, false, Option, Some, None, Ok, List, ◌++◌, length, take}
use Rattle.std.specs.Prelude.{IfSome}
use Rattle.std.specs.Io.KnownBytes.{Appends}
use Rattle.meet_tickets.specs.declared.places.Kind.{Kind}
use Rattle.meet_tickets.specs.declared.records.Deed.{Deed}
use Rattle.meet_tickets.specs.declared.records.Record.{Record}
use Rattle.meet_tickets.specs.declared.refusals.Refusal.TheVariants.{WriteFault}
use Rattle.meet_tickets.specs.Bases.{IsLegalOn}
use Rattle.meet_history.specs.declared.checker.CheckFault.TheVariants.{Illegal}
use Rattle.meet_history.specs.declared.checker.Standing.{Standing}
use Rattle.meet_history.specs.declared.checker.Why.{Why}
use Rattle.meet_history.specs.Checking.{IsIllegalAt}
use Rattle.meet_history.specs.Pushing.{HasTaken, SeenWith, IsStandingOf}
use Rattle.meet_run.specs.declared.trace.check.ReadTrace.{ReadTrace}
use Rattle.meet_run.specs.declared.text.faults.RunFault.{RunFault}
use Rattle.meet_run.specs.Texts.Reading.{lines_of}
use Rattle.meet_run.specs.Tracing.Traces.{IsReadWith, IsUnreadTrace, NamesLine, trace_fault_in}
use Rattle.meet_run.specs.Tracing.TraceWording.{illegal_line}
use Rattle.meet_run.specs.Scripts.Wording.{last_line}
use Rattle.meet_run.specs.Texts.Writing.{AppendsPrefix}
use Rattle.meet_run.proofs.Scripts.Ran.{appends-nothing}
use Rattle.meet_draw.specs.declared.style.Style.{Style}
use Rattle.meet_draw.specs.Pictures.{drawn}
use Rattle.meet_draw.specs.Drawn.{IsPicture, IsDrawn, DrawBreaks, DrawEnds}

module _ (style : Style) (width : ℕ) where
  -- of a legal trace all, and the line that says so
  pub legal-drawn : (lines : List (List ℕ)) (trace : ReadTrace) (records : List (Record Deed)) (standing : Standing) (text : List ℕ) → trace.checker.fault ≡ None → IsStandingOf trace.checker standing → text ≡ drawn style width trace.kind trace.base records None ++ last_line trace.count standing → IsReadWith lines trace records → IsDrawn style width lines true text
  legal-drawn lines trace records standing text sound stands told (read, is) =
      let taken : HasTaken trace.base trace.checker read.records = subst (λ f. SeenWith trace.base f trace.checker read.records) sound read.seen.1 in
      record {
        kind = trace.kind;
        base = trace.base;
        records = read.records;
        trace = read.told;
        picture = (
          subst (λ k. IsLegalOn k trace.base read.records) read.own taken.legal,
          told ∙ ap (λ (rs : List (Record Deed)). drawn style width trace.kind trace.base rs None ++ last_line trace.count standing) (sym is)
              ∙ ap (λ n. drawn style width trace.kind trace.base read.records None ++ last_line n standing) read.counted
              ∙ ap (λ s. drawn style width trace.kind trace.base read.records None ++ last_line (trace.base.gone + length read.records) s) (stands trace.base read.records read.seen),
        );
      }

  -- of another one the records up to the first that can't stand, and the line that names it
  pub illegal-drawn : (lines : List (List ℕ)) (trace : ReadTrace) (records : List (Record Deed)) (number : ℕ) (why : Why) (text : List ℕ) → trace.checker.fault ≡ Some (Illegal number why) → text ≡ drawn style width trace.kind trace.base (take (number - trace.base.gone) records) (Some number) ++ illegal_line number why → IsReadWith lines trace records → IsDrawn style width lines false text
  illegal-drawn lines trace records number why text fault told (read, is) = record {
    kind = trace.kind;
    base = trace.base;
    records = read.records;
    trace = read.told;
    picture = (
      number,
      why,
      subst (λ k. IsIllegalAt k trace.base read.records number why) read.own (subst (λ f. SeenWith trace.base f trace.checker read.records) fault read.seen.1),
      told ∙ ap (λ (rs : List (Record Deed)). drawn style width trace.kind trace.base (take (number - trace.base.gone) rs) (Some number) ++ illegal_line number why) (sym is),
    );
  }

  -- the same of what came of reading it
  pub read-drawn : (old : Option (List ℕ)) (trace : ReadTrace) (records : List (Record Deed)) (legal : Bool) (text : List ℕ) → IfSome old (λ input. IsReadWith (lines_of input) trace records) → ((lines : List (List ℕ)) → IsReadWith lines trace records → IsDrawn style width lines legal text) → IfSome old (λ input. IsDrawn style width (lines_of input) legal text)
  read-drawn None trace records legal text read draws = tt
  read-drawn (Some xs) trace records legal text read draws = draws (lines_of xs) read

  -- a trace that wasn't read to its end: nothing is written
  pub draw-unread : (old writer : Option (List ℕ)) (f : RunFault) → IsUnreadTrace f → IfSome old (λ input. NamesLine f (trace_fault_in (lines_of input))) → IfSome old (λ input. DrawBreaks style width (lines_of input) f.why f.line writer writer)
  draw-unread None writer f unread names = tt
  draw-unread (Some xs) writer f (inl bad) names =
      let at : trace_fault_in (lines_of xs) ≡ Some bad.0 = sym (names (ap (λ x. x.why) bad.1)) ∙ ap (λ x. x.line) bad.1 in
      subst (λ (x : RunFault). DrawBreaks style width (lines_of xs) x.why x.line writer writer) (sym bad.1) (at, appends-nothing writer)
  draw-unread (Some xs) writer f (inr (inl memory)) names =
      subst (λ (x : RunFault). DrawBreaks style width (lines_of xs) x.why x.line writer writer) (sym memory) (appends-nothing writer)
  draw-unread (Some xs) writer f (inr (inr read)) names =
      subst (λ (x : RunFault). DrawBreaks style width (lines_of xs) x.why x.line writer writer) (sym read) (appends-nothing writer)

  -- a picture that is written but for a part, or whole
  pub draw-broken : (old before after : Option (List ℕ)) (f : RunFault) (legal : Bool) (text : List ℕ) → f ≡ record { why = WriteFault; line = None } → IfSome old (λ input. IsDrawn style width (lines_of input) legal text) → AppendsPrefix before after text → IfSome old (λ input. DrawBreaks style width (lines_of input) f.why f.line before after)
  draw-broken None before after f legal text is draws prefix = tt
  draw-broken (Some xs) before after f legal text is draws prefix =
      subst (λ (x : RunFault). DrawBreaks style width (lines_of xs) x.why x.line before after) (sym is) (legal, text, draws, prefix)

  pub draw-done : (old before after : Option (List ℕ)) (legal : Bool) (text : List ℕ) → IfSome old (λ input. IsDrawn style width (lines_of input) legal text) → Appends before after text → IfSome old (λ input. DrawEnds style width (lines_of input) (Ok legal) before after)
  draw-done None before after legal text draws wrote = tt
  draw-done (Some xs) before after legal text draws wrote = (text, draws, wrote)
