-- A trace that is read whole, and what is written of what is left of it.
use Rattle.std.proofs.Common.{◌≡◌, inl, inr, ℕ, ◌+◌, Bool, false, List, [], ◌∷◌, Option, Some, None, Ok, refl, sym, ap, ◌∙◌, subst, append-nil}
use Rattle.std.specs.Prelude.{IfSome}
use Rattle.meet_tickets.specs.declared.places.Kind.{Kind}
use Rattle.meet_tickets.specs.declared.records.Deed.{Deed}
use Rattle.meet_tickets.specs.declared.records.Record.{Record}
use Rattle.meet_tickets.specs.declared.refusals.Refusal.{Refusal}
use Rattle.meet_history.specs.declared.checker.Why.{Why}
use Rattle.meet_history.specs.declared.checker.CheckFault.{CheckFault}
use Rattle.meet_history.specs.Checking.{IsCheckFault}
use Rattle.meet_run.specs.declared.text.faults.RunFault.{RunFault}
use Rattle.meet_tickets.specs.Bases.{no_base}
use Rattle.meet_run.specs.Tracing.Erasing.{AreRecords, IsErasure, WritesErased, BeginsErased, EraseBreaks, EraseEnds, erase_fault_in}
use Rattle.meet_run.specs.Texts.Reading.{lines_of, Listed, Both, listed, no_more}
use Rattle.meet_run.specs.Scripts.Running.{IsCutShort}
use Rattle.meet_run.specs.Tracing.TraceGrammar.{head_of}
use Rattle.meet_run.specs.Tracing.TraceWording.{illegal_line}
use Rattle.meet_run.specs.Tracing.Traces.{record_at, records_behind, IsTrace, NamesLine, IsUnreadTrace}
use Rattle.meet_run.specs.Texts.Writing.{AppendsPrefix}
use Rattle.meet_run.proofs.Scripts.Ran.{appends-nothing}
use Rattle.meet_run.proofs.Scripts.ScriptLemmas.{listed-end}
use Rattle.meet_run.proofs.Tracing.TraceReading.{after_records, WasRead}

-- no line is left
pub read_whole : (past : List (Record Deed)) (read : ℕ) (old mid : Option (List ℕ)) → WasRead old mid read past → IfSome mid (λ xs. lines_of xs ≡ []) → IfSome old (λ rest. AreRecords past (records_behind (lines_of rest)))
read_whole past read None mid was none = tt
read_whole past read (Some xs) None was none = absurd was
read_whole past read (Some xs) (Some ys) was none =
    let items : listed record_at (read + 1) (lines_of ys) ≡ no_more = ap (λ (ls : List (List ℕ)). listed record_at (read + 1) ls) none ∙ listed-end record_at (read + 1) in
    was ∙ (ap (λ (c : Listed (Record Deed)). after_records past c) items ∙ ap (λ (q : List (Record Deed)). let l : Listed (Record Deed) = record { items = q; fault = None } in l) (append-nil past))

-- the records behind its first line are those of a trace
pub trace_behind_first : (old mid : Option (List ℕ)) (kind : Kind) (records : List (Record Deed)) → Both old mid (λ xs ys. (line : List ℕ) × (lines_of xs ≡ line ∷ lines_of ys) × (head_of line ≡ Some kind)) → IfSome mid (λ rest. AreRecords records (records_behind (lines_of rest))) → IfSome old (λ input. IsTrace (lines_of input) kind records)
trace_behind_first None mid kind records first rest = tt
trace_behind_first (Some xs) None kind records first rest = absurd first
trace_behind_first (Some xs) (Some ys) kind records first rest =
    record { first = first.0; rest = lines_of ys; parts = first.1; head = first.2; behind = rest }

-- a prefix of the line that names a record was written
pub begins_illegal : {n : ℕ} {w : Why} (kind : Kind) (records : List (Record Deed)) (fault : CheckFault) (number : ℕ) (why : Why) (old new : Option (List ℕ)) → fault ≡ CheckFault.Illegal number why → IsCheckFault kind no_base records fault → n ≡ number → w ≡ why → AppendsPrefix old new (illegal_line n w) → BeginsErased kind records old new
begins_illegal {n} {w} kind records fault number why old new is illegal place reason prefix =
    let text : IsErasure kind records false (illegal_line number why) = (number, why, subst (λ f. IsCheckFault kind no_base records f) is illegal, refl) in
    let named : AppendsPrefix old new (illegal_line number w) = subst (λ q. AppendsPrefix old new (illegal_line q w)) place prefix in
    inr (false, illegal_line number why, text, subst (λ q. AppendsPrefix old new (illegal_line number q)) reason named)

-- its fault is behind its first line
pub behind_head : (old mid : Option (List ℕ)) (kind : Kind) (P : Option ℕ → Type 0) → Both old mid (λ xs ys. (line : List ℕ) × (lines_of xs ≡ line ∷ lines_of ys) × (head_of line ≡ Some kind)) → IfSome mid (λ rest. P (records_behind (lines_of rest)).fault) → IfSome old (λ input. P (erase_fault_in (lines_of input)))
unfolding erase_fault_in
behind_head None mid kind P first rest = tt
behind_head (Some xs) None kind P first rest = absurd first
behind_head (Some xs) (Some ys) kind P first rest =
    subst (λ ls. P (erase_fault_in ls)) (sym first.1) (rw first.2 rest)

-- its first line is at fault, or isn't there
pub bad_head : (old : Option (List ℕ)) → IfSome old (λ xs. (line : List ℕ) × (lines : List (List ℕ)) × (lines_of xs ≡ line ∷ lines) × (head_of line ≡ None)) → IfSome old (λ input. erase_fault_in (lines_of input) ≡ Some 1)
unfolding erase_fault_in
bad_head None faulty = tt
bad_head (Some xs) faulty = ap (λ (ls : List (List ℕ)). erase_fault_in ls) faulty.2 ∙ (rw faulty.3 refl)

pub no_head : (old : Option (List ℕ)) → IfSome old (λ xs. lines_of xs ≡ []) → IfSome old (λ input. erase_fault_in (lines_of input) ≡ Some 1)
unfolding erase_fault_in
no_head None none = tt
no_head (Some xs) none = ap (λ (ls : List (List ℕ)). erase_fault_in ls) none

-- ---- what is written of the whole

-- a trace that wasn't read to its end: nothing is written
pub erase_unread : (old writer : Option (List ℕ)) (f : RunFault) → IsUnreadTrace f → IfSome old (λ input. NamesLine f (erase_fault_in (lines_of input))) → IfSome old (λ input. EraseBreaks (lines_of input) f.why f.line writer writer)
erase_unread None writer f unread names = tt
erase_unread (Some xs) writer f (inl bad) names =
    let at : erase_fault_in (lines_of xs) ≡ Some bad.0 = sym (names (ap (λ x. x.why) bad.1)) ∙ ap (λ x. x.line) bad.1 in
    subst (λ (x : RunFault). EraseBreaks (lines_of xs) x.why x.line writer writer) (sym bad.1) (at, appends-nothing writer)
erase_unread (Some xs) writer f (inr (inl memory)) names =
    subst (λ (x : RunFault). EraseBreaks (lines_of xs) x.why x.line writer writer) (sym memory) (inl (appends-nothing writer))
erase_unread (Some xs) writer f (inr (inr read)) names =
    subst (λ (x : RunFault). EraseBreaks (lines_of xs) x.why x.line writer writer) (sym read) (appends-nothing writer)

-- a trace that was read, of which all is written that is to be
pub erase_done : (old before after : Option (List ℕ)) (kind : Kind) (records : List (Record Deed)) (legal : Bool) → IfSome old (λ input. IsTrace (lines_of input) kind records) → WritesErased kind records legal before after → IfSome old (λ input. EraseEnds (lines_of input) (Ok legal) before after)
erase_done None before after kind records legal trace wrote = tt
erase_done (Some xs) before after kind records legal trace wrote = (kind, records, trace, wrote)

-- or but for a part
pub erase_broken : (old before after : Option (List ℕ)) (kind : Kind) (records : List (Record Deed)) (why : Refusal) (f : RunFault) → f ≡ record { why = why; line = None } → IsCutShort why → IfSome old (λ input. IsTrace (lines_of input) kind records) → BeginsErased kind records before after → IfSome old (λ input. EraseBreaks (lines_of input) f.why f.line before after)
erase_broken None before after kind records why f is cut trace begun = tt
erase_broken (Some xs) before after kind records why f is (inl memory) trace begun =
    subst (λ (x : RunFault). EraseBreaks (lines_of xs) x.why x.line before after) (sym (is ∙ ap (λ w. let x : RunFault = record { why = w; line = None } in x) memory)) (inr (kind, records, trace, begun))
erase_broken (Some xs) before after kind records why f is (inr write) trace begun =
    subst (λ (x : RunFault). EraseBreaks (lines_of xs) x.why x.line before after) (sym (is ∙ ap (λ w. let x : RunFault = record { why = w; line = None } in x) write)) (inr (kind, records, trace, begun))
