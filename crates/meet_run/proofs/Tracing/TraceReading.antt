-- How far the records of a trace were read.
use Rattle.std.proofs.Common.{◌≡◌, inl, inr, ℕ, ◌+◌, ◌<◌, Bool, true, false, arith, List, [], ◌∷◌, ◌++◌, length, Option, Some, None, Ok, refl, sym, ap, ◌∙◌, subst, append_assoc, append-nil}
use Rattle.std.specs.Prelude.{IfSome, IfOk, IfErr, OnOk, Result, Err}
use Rattle.std.specs.Io.KnownBytes.{Appends}
use Rattle.meet_tickets.specs.declared.places.Kind.{Kind}
use Rattle.meet_tickets.specs.declared.records.Deed.{Deed}
use Rattle.meet_tickets.specs.declared.records.Record.{Record}
use Rattle.meet_tickets.specs.declared.refusals.Refusal.TheVariants.{BadTrace, WriteFault}
use Rattle.meet_tickets.specs.Bases.{Based, no_base}
use Rattle.meet_history.specs.Pushing.{Progress, HasSeen}
use Rattle.meet_run.specs.declared.text.faults.RunFault.{RunFault}
use Rattle.std.specs.Io.KnownBytes.{Consumes, IsAtEnd}
use Rattle.std.proofs.lemmas.Bool.{lt-ltb}
use Rattle.meet_run.specs.Tracing.BaseGrammar.{based_head_of}
use Rattle.meet_run.specs.declared.trace.check.ReadTrace.{ReadTrace}
use Rattle.meet_run.specs.declared.trace.kept.Kept.{Kept}
use Rattle.meet_run.specs.Tracing.Keeping.{HasKept}
use Rattle.meet_run.specs.Tracing.BasedTraces.{Told, told_behind, IsBasedTrace, IsVerdictOn, IsChecked}
use Rattle.meet_run.proofs.Scripts.RunLemmas.{ended-lines}
use Rattle.meet_run.proofs.Texts.NextLemmas.{head-too_long}
use Rattle.meet_run.specs.Texts.Reading.{lines_of, Listed, Both, TakesLine, BeginsTooLong, listed, no_more, faulty_at, with_item}
use Rattle.meet_run.specs.Tracing.TraceGrammar.{head_of}
use Rattle.meet_run.specs.Tracing.Traces.{record_at, records_behind, trace_fault_in, IsTrace, IsTraceOn, IsRead, IsReadInto, NamesLine, IsVerdict, IsFoundIn, ArePushed, IsVerdictOf, CheckBreaks, CheckEnds, IsUnreadTrace, IsTraceFault}
use Rattle.meet_history.specs.Standings.{standing_in}
use Rattle.meet_run.specs.Scripts.Wording.{last_line}
use Rattle.meet_run.specs.Texts.Writing.{AppendsPrefix}
use Rattle.meet_run.proofs.Scripts.Ran.{appends-nothing}
use Rattle.meet_run.proofs.Scripts.ScriptLemmas.{listed-end, listed-more, listed-fault}

-- these records, and then what the rest reads as
abbrev pub after_records : (past : List (Record Deed)) → Listed (Record Deed) → Listed (Record Deed)
after_records past rest = record { items = past ++ rest.items; fault = rest.fault }

-- of the known bytes so many lines were read as these records
abbrev pub WasRead : (old now : Option (List ℕ)) → (read : ℕ) → (past : List (Record Deed)) → Type 0
WasRead old now read past =
    Both old now (λ first rest. records_behind (lines_of first) ≡ after_records past (listed record_at (read + 1) (lines_of rest)))

-- nothing was read so far
pub read-none : (reader : Option (List ℕ)) (past : List (Record Deed)) → past ≡ [] → WasRead reader reader 1 past
read-none None past none = tt
read-none (Some xs) past none = subst (λ q. records_behind (lines_of xs) ≡ after_records q (listed record_at 2 (lines_of xs))) (sym none) refl

module _ (past : List (Record Deed)) (read : ℕ) where
  -- a record was read
  pub read-more : (old mid new : Option (List ℕ)) (entry : Record Deed) (now : List (Record Deed)) → WasRead old mid read past → Both mid new (λ xs ys. (line : List ℕ) × (lines_of xs ≡ line ∷ lines_of ys) × (record_at (read + 1) line ≡ Some entry)) → now ≡ past ++ entry ∷ [] → WasRead old new (read + 1) now
  read-more None mid new entry now was next more = tt
  read-more (Some xs) None new entry now was next more = absurd was
  read-more (Some xs) (Some ys) None entry now was next more = absurd next
  read-more (Some xs) (Some ys) (Some zs) entry now was next more =
      let left : Listed (Record Deed) = listed record_at (read + 1 + 1) (lines_of zs) in
      let items : listed record_at (read + 1) (lines_of ys) ≡ with_item entry left = ap (λ (ls : List (List ℕ)). listed record_at (read + 1) ls) next.1 ∙ listed-more record_at (read + 1) next.0 (lines_of zs) entry next.2 in
      let joined : after_records past (with_item entry left) ≡ after_records (past ++ entry ∷ []) left = ap (λ (q : List (Record Deed)). let l : Listed (Record Deed) = record { items = q; fault = left.fault } in l) (sym (append_assoc past (entry ∷ []) left.items)) in
      subst (λ q. records_behind (lines_of xs) ≡ after_records q left) (sym more) (was ∙ (ap (λ (c : Listed (Record Deed)). after_records past c) items ∙ joined))

  -- no line is left
  pub read-end : (old mid : Option (List ℕ)) (checker : Progress) (count : ℕ) → WasRead old mid read past → count ≡ length past → HasSeen no_base checker past → IfSome mid (λ xs. lines_of xs ≡ []) → IfSome old (λ rest. ArePushed checker count (records_behind (lines_of rest)))
  read-end None mid checker count was many seen none = tt
  read-end (Some xs) None checker count was many seen none = absurd was
  read-end (Some xs) (Some ys) checker count was many seen none =
      let items : listed record_at (read + 1) (lines_of ys) ≡ no_more = ap (λ (ls : List (List ℕ)). listed record_at (read + 1) ls) none ∙ listed-end record_at (read + 1) in
      let whole : Listed (Record Deed) = record { items = past; fault = None } in
      let all : records_behind (lines_of xs) ≡ whole = was ∙ (ap (λ (c : Listed (Record Deed)). after_records past c) items ∙ ap (λ (q : List (Record Deed)). let l : Listed (Record Deed) = record { items = q; fault = None } in l) (append-nil past)) in
      let pushed : ArePushed checker count whole = (refl, many, seen) in
      subst (λ c. ArePushed checker count c) (sym all) pushed

  -- and so what was kept are the records
  pub read-kept : (old mid : Option (List ℕ)) (wanted : Bool) (kept : Kept) → WasRead old mid read past → HasKept wanted kept past → IfSome mid (λ xs. lines_of xs ≡ []) → IfSome old (λ rest. HasKept wanted kept (records_behind (lines_of rest)).items)
  read-kept None mid wanted kept was has none = tt
  read-kept (Some xs) None wanted kept was has none = absurd was
  read-kept (Some xs) (Some ys) wanted kept was has none =
      let items : listed record_at (read + 1) (lines_of ys) ≡ no_more = ap (λ (ls : List (List ℕ)). listed record_at (read + 1) ls) none ∙ listed-end record_at (read + 1) in
      let all : (records_behind (lines_of xs)).items ≡ past = ap (λ (l : Listed (Record Deed)). l.items) (was ∙ ap (λ (c : Listed (Record Deed)). after_records past c) items) ∙ append-nil past in
      subst (HasKept wanted kept) (sym all) has

  -- the next line is no record
  pub read-fault : (old mid : Option (List ℕ)) → WasRead old mid read past → IfSome mid (λ xs. (line : List ℕ) × (lines : List (List ℕ)) × (lines_of xs ≡ line ∷ lines) × (record_at (read + 1) line ≡ None)) → IfSome old (λ rest. (records_behind (lines_of rest)).fault ≡ Some (read + 1))
  read-fault None mid was next = tt
  read-fault (Some xs) None was next = absurd was
  read-fault (Some xs) (Some ys) was next =
      let items : listed record_at (read + 1) (lines_of ys) ≡ faulty_at (read + 1) = ap (λ (ls : List (List ℕ)). listed record_at (read + 1) ls) next.2 ∙ listed-fault record_at (read + 1) next.0 next.1 next.3 in
      ap (λ (c : Listed (Record Deed)). c.fault) (was ∙ ap (λ (c : Listed (Record Deed)). after_records past c) items)

-- a fault at a known line names it
pub names-it : (old : Option (List ℕ)) (fault : List ℕ → Option ℕ) (f : RunFault) (n : ℕ) → f ≡ record { why = BadTrace; line = Some n } → IfSome old (λ xs. fault xs ≡ Some n) → IfSome old (λ xs. NamesLine f (fault xs))
names-it None fault f n is at = tt
names-it (Some xs) fault f n is at = λ bad. ap (λ x. x.line) is ∙ sym at

-- ---- a whole trace

-- what follows of a fault
pub err-follows : {A B : Type 0} {P Q : B → Type 0} (r : Result A B) → ((f : B) → P f → Q f) → IfErr r P → IfErr r Q
err-follows (Ok a) more own = tt
err-follows (Err f) more own = more f own

-- the lines behind a first line that names no base are records to their end: it is a whole trace, and was read
pub read-plain : (old mid : Option (List ℕ)) (line : List ℕ) (kind : Kind) (trace : ReadTrace) (wanted : Bool) (kept : Kept) → TakesLine old mid line → head_of line ≡ Some kind → IfSome mid (λ rest. ArePushed trace.checker trace.count (records_behind (lines_of rest))) → trace.kind ≡ kind → trace.checker.place.kind ≡ kind → trace.base ≡ no_base → IfSome mid (λ rest. HasKept wanted kept (records_behind (lines_of rest)).items) → IfSome old (λ input. IsReadInto (lines_of input) trace wanted kept)
unfolding trace_fault_in
read-plain None mid line kind trace wanted kept takes head pushed of own none has = tt
read-plain (Some xs) None line kind trace wanted kept takes head pushed of own none has = absurd takes
read-plain (Some xs) (Some ys) line kind trace wanted kept takes head pushed of own none has =
    let lines : Listed (Record Deed) = records_behind (lines_of ys) in
    let whole : lines ≡ record { items = lines.items; fault = None } = ap (λ (f : Option ℕ). let l : Listed (Record Deed) = record { items = lines.items; fault = f } in l) pushed.0 in
    let plain : IsTrace (lines_of xs) kind lines.items = record { first = line; rest = lines_of ys; parts = takes; head = head; behind = whole } in
    let clean : trace_fault_in (line ∷ lines_of ys) ≡ None = rw head pushed.0 in (
      record {
        records = lines.items;
        told = inl (subst (λ k. IsTrace (lines_of xs) k lines.items) (sym of) plain, none);
        whole = ap (λ (ls : List (List ℕ)). trace_fault_in ls) takes ∙ clean;
        own = own ∙ sym of;
        seen = subst (λ b. HasSeen b trace.checker lines.items) (sym none) pushed.2;
        counted = omega (arith, pushed.1, ap (λ (b : Based). b.gone) none);
      },
      has,
    )

-- so is one that names its base
pub read-based : (old mid : Option (List ℕ)) (line : List ℕ) (kind : Kind) (trace : ReadTrace) (wanted : Bool) (kept : Kept) → TakesLine old mid line → head_of line ≡ None → based_head_of line ≡ Some kind → IfSome mid (λ rest. IsChecked kind (lines_of rest) trace.base trace.checker trace.count) → trace.kind ≡ kind → IfSome mid (λ rest. HasKept wanted kept (told_behind kind (lines_of rest)).records) → IfSome old (λ input. IsReadInto (lines_of input) trace wanted kept)
unfolding trace_fault_in
read-based None mid line kind trace wanted kept takes none head checked of has = tt
read-based (Some xs) None line kind trace wanted kept takes none head checked of has = absurd takes
read-based (Some xs) (Some ys) line kind trace wanted kept takes none head checked of has =
    let based : IsBasedTrace (lines_of xs) kind trace.base checked.records = record { first = line; rest = lines_of ys; parts = takes; head = head; behind = checked.told } in
    let clean : trace_fault_in (line ∷ lines_of ys) ≡ None = rw (none, head) (ap (λ (t : Told). t.fault) checked.told) in (
      record {
        records = checked.records;
        told = inr (subst (λ k. IsBasedTrace (lines_of xs) k trace.base checked.records) (sym of) based);
        whole = ap (λ (ls : List (List ℕ)). trace_fault_in ls) takes ∙ clean;
        own = checked.own ∙ sym of;
        seen = checked.seen;
        counted = checked.counted;
      },
      subst (HasKept wanted kept) (ap (λ (t : Told). t.records) checked.told) has,
    )

-- the same of what came of reading them
pub plain-came : (old mid : Option (List ℕ)) (line : List ℕ) (kind : Kind) (wanted : Bool) (kept : Kept) (r : Result ReadTrace RunFault) → TakesLine old mid line → head_of line ≡ Some kind → IfOk r (λ trace. IfSome mid (λ rest. ArePushed trace.checker trace.count (records_behind (lines_of rest)))) → IfOk r (λ trace. trace.kind ≡ kind) → IfOk r (λ trace. trace.checker.place.kind ≡ kind) → IfOk r (λ trace. trace.base ≡ no_base) → OnOk r (IfSome mid (λ rest. HasKept wanted kept (records_behind (lines_of rest)).items)) → IfOk r (λ trace. IfSome old (λ input. IsReadInto (lines_of input) trace wanted kept))
plain-came old mid line kind wanted kept (Ok trace) takes head pushed of own none has = read-plain old mid line kind trace wanted kept takes head pushed of own none has
plain-came old mid line kind wanted kept (Err f) takes head pushed of own none has = tt

pub based-came : (old mid : Option (List ℕ)) (line : List ℕ) (kind : Kind) (wanted : Bool) (kept : Kept) (r : Result ReadTrace RunFault) → TakesLine old mid line → head_of line ≡ None → based_head_of line ≡ Some kind → IfOk r (λ trace. IfSome mid (λ rest. IsChecked kind (lines_of rest) trace.base trace.checker trace.count)) → IfOk r (λ trace. trace.kind ≡ kind) → OnOk r (IfSome mid (λ rest. HasKept wanted kept (told_behind kind (lines_of rest)).records)) → IfOk r (λ trace. IfSome old (λ input. IsReadInto (lines_of input) trace wanted kept))
based-came old mid line kind wanted kept (Ok trace) takes none head checked of has = read-based old mid line kind trace wanted kept takes none head checked of has
based-came old mid line kind wanted kept (Err f) takes none head checked of has = tt

-- what follows where all is well
pub well-follows : {A B : Type 0} {P Q : Type 0} (r : Result A B) → (P → Q) → OnOk r P → OnOk r Q
well-follows (Ok a) more own = more own
well-follows (Err f) more own = tt

-- its fault is behind its first line
pub fault-behind : (old mid : Option (List ℕ)) (line : List ℕ) (kind : Kind) (P : Option ℕ → Type 0) → TakesLine old mid line → head_of line ≡ Some kind → IfSome mid (λ rest. P (records_behind (lines_of rest)).fault) → IfSome old (λ input. P (trace_fault_in (lines_of input)))
unfolding trace_fault_in
fault-behind None mid line kind P takes head rest = tt
fault-behind (Some xs) None line kind P takes head rest = absurd takes
fault-behind (Some xs) (Some ys) line kind P takes head rest =
    subst (λ ls. P (trace_fault_in ls)) (sym takes) (rw head rest)

pub fault-based : (old mid : Option (List ℕ)) (line : List ℕ) (kind : Kind) (P : Option ℕ → Type 0) → TakesLine old mid line → head_of line ≡ None → based_head_of line ≡ Some kind → IfSome mid (λ rest. P (told_behind kind (lines_of rest)).fault) → IfSome old (λ input. P (trace_fault_in (lines_of input)))
unfolding trace_fault_in
fault-based None mid line kind P takes none head rest = tt
fault-based (Some xs) None line kind P takes none head rest = absurd takes
fault-based (Some xs) (Some ys) line kind P takes none head rest =
    subst (λ ls. P (trace_fault_in ls)) (sym takes) (rw (none, head) rest)

-- its first line is at fault, or isn't there
fault-of : (line : List ℕ) (lines : List (List ℕ)) → head_of line ≡ None → based_head_of line ≡ None → trace_fault_in (line ∷ lines) ≡ Some 1
unfolding trace_fault_in
fault-of line lines none other = rw (none, other) refl

pub fault-first : (old mid : Option (List ℕ)) (line : List ℕ) → TakesLine old mid line → head_of line ≡ None → based_head_of line ≡ None → IfSome old (λ input. trace_fault_in (lines_of input) ≡ Some 1)
fault-first None mid line takes none other = tt
fault-first (Some xs) None line takes none other = absurd takes
fault-first (Some xs) (Some ys) line takes none other = ap (λ (ls : List (List ℕ)). trace_fault_in ls) takes ∙ fault-of line (lines_of ys) none other

pub based-long : (line : List ℕ) → 128 < length line → based_head_of line ≡ None
unfolding based_head_of
based-long line long = rw (lt-ltb 128 (length line) long) refl

pub fault-long : (old : Option (List ℕ)) → BeginsTooLong old → IfSome old (λ input. trace_fault_in (lines_of input) ≡ Some 1)
fault-long None long = tt
fault-long (Some xs) long = ap (λ (ls : List (List ℕ)). trace_fault_in ls) long.2 ∙ fault-of long.0 long.1 (head-too_long long.0 long.3) (based-long long.0 long.3)

pub fault-none : (old new : Option (List ℕ)) → Consumes old new [] → IsAtEnd new → IfSome old (λ input. trace_fault_in (lines_of input) ≡ Some 1)
unfolding trace_fault_in
fault-none old new consumes at_end = by old (ended-lines old new consumes at_end)
  where
    by : (o : Option (List ℕ)) → IfSome o (λ xs. lines_of xs ≡ []) → IfSome o (λ input. trace_fault_in (lines_of input) ≡ Some 1)
    by None none = tt
    by (Some xs) none = ap (λ (ls : List (List ℕ)). trace_fault_in ls) none

-- ---- what is found of it

-- a trace that wasn't read to its end: nothing is written
pub check-unread : (old writer : Option (List ℕ)) (f : RunFault) → IsUnreadTrace f → IfSome old (λ input. NamesLine f (trace_fault_in (lines_of input))) → IfSome old (λ input. CheckBreaks (lines_of input) f.why f.line writer writer)
check-unread None writer f unread names = tt
check-unread (Some xs) writer f (inl bad) names =
    let at : trace_fault_in (lines_of xs) ≡ Some bad.0 = sym (names (ap (λ x. x.why) bad.1)) ∙ ap (λ x. x.line) bad.1 in
    subst (λ (x : RunFault). CheckBreaks (lines_of xs) x.why x.line writer writer) (sym bad.1) (at, appends-nothing writer)
check-unread (Some xs) writer f (inr (inl memory)) names =
    subst (λ (x : RunFault). CheckBreaks (lines_of xs) x.why x.line writer writer) (sym memory) (appends-nothing writer)
check-unread (Some xs) writer f (inr (inr read)) names =
    subst (λ (x : RunFault). CheckBreaks (lines_of xs) x.why x.line writer writer) (sym read) (appends-nothing writer)

-- such a fault ends a check
pub unread-faults : (f : RunFault) → IsUnreadTrace f → IsTraceFault f
unread-faults f (inl bad) = subst IsTraceFault (sym bad.1) tt
unread-faults f (inr (inl memory)) = subst IsTraceFault (sym memory) tt
unread-faults f (inr (inr read)) = subst IsTraceFault (sym read) tt

-- a trace that was read, whose line is written whole, or but for a part
pub check-broken : (old before after : Option (List ℕ)) (f : RunFault) (legal : Bool) (text : List ℕ) → f ≡ record { why = WriteFault; line = None } → IfSome old (λ input. IsFoundIn (lines_of input) legal text) → AppendsPrefix before after text → IfSome old (λ input. CheckBreaks (lines_of input) f.why f.line before after)
check-broken None before after f legal text is found prefix = tt
check-broken (Some xs) before after f legal text is found prefix =
    subst (λ (x : RunFault). CheckBreaks (lines_of xs) x.why x.line before after) (sym is) (legal, text, found, prefix)

pub check-done : (old before after : Option (List ℕ)) (legal : Bool) (text : List ℕ) → IfSome old (λ input. IsFoundIn (lines_of input) legal text) → Appends before after text → IfSome old (λ input. CheckEnds (lines_of input) (Ok legal) before after)
check-done None before after legal text found wrote = tt
check-done (Some xs) before after legal text found wrote = (text, found, wrote)

-- a verdict of no base and records is one of the records
plain-verdict : (k : Kind) (records : List (Record Deed)) (legal : Bool) (text : List ℕ) → IsVerdictOn k no_base records legal text → IsVerdict k records legal text
plain-verdict k records true text found =
    let same : 0 + length records ≡ length records = omega arith in
    (found.0, found.1 ∙ ap (λ n. last_line n (standing_in records)) same)
plain-verdict k records false text found = found

-- what the checker of a trace that was read found is found of it
pub found-lines : (lines : List (List ℕ)) (trace : ReadTrace) (legal : Bool) (text : List ℕ) → IsRead lines trace → IsVerdictOf trace.checker trace.count legal text → IsFoundIn lines legal text
found-lines lines trace legal text read verdict = by read.told
  where
    found : IsVerdictOn trace.kind trace.base read.records legal text
    found = subst (λ k. IsVerdictOn k trace.base read.records legal text) read.own (verdict trace.base read.records read.seen read.counted)

    by : IsTraceOn lines trace.kind trace.base read.records → IsFoundIn lines legal text
    by (inl plain) = inl (record {
      kind = trace.kind;
      records = read.records;
      trace = plain.0;
      verdict = plain-verdict trace.kind read.records legal text (subst (λ b. IsVerdictOn trace.kind b read.records legal text) plain.1 found);
    })
    by (inr based) = inr (record { kind = trace.kind; base = trace.base; records = read.records; trace = based; verdict = found })

pub found-read : (old : Option (List ℕ)) (trace : ReadTrace) (legal : Bool) (text : List ℕ) → IfSome old (λ input. IsRead (lines_of input) trace) → IsVerdictOf trace.checker trace.count legal text → IfSome old (λ input. IsFoundIn (lines_of input) legal text)
found-read None trace legal text read verdict = tt
found-read (Some xs) trace legal text read verdict = found-lines (lines_of xs) trace legal text read verdict
