-- A pool's trace that is read whole, and what is found of it.
use Rattle.std.proofs.Common.{◌≡◌, inl, inr, ℕ, ◌+◌, ◌-◌, List, [], ◌∷◌, length, Option, Some, None, Ok, Err, Bool, true, false, refl, sym, ap, ◌∙◌, subst, arith}
use Rattle.std.specs.Prelude.{IfSome}
use Rattle.std.specs.Option.{option_map_or}
use Rattle.std.specs.Io.KnownBytes.{Appends}
use Rattle.meet_tickets.specs.declared.records.Record.{Record}
use Rattle.meet_tickets.specs.declared.refusals.Refusal.TheVariants.{BadTrace, WriteFault}
use Rattle.meet_run.specs.declared.text.faults.RunFault.{RunFault}
use Rattle.meet_run.specs.Texts.Reading.{lines_of, Both}
use Rattle.meet_run.specs.Tracing.Traces.{IsUnreadTrace}
use Rattle.meet_run.specs.Texts.Writing.{AppendsPrefix}
use Rattle.meet_run.proofs.Scripts.Ran.{appends-nothing}
use Rattle.pool_core.specs.declared.deeds.PoolDeed.{PoolDeed}
use Rattle.pool_core.specs.declared.settings.Settings.{Settings}
use Rattle.pool_core.specs.declared.answers.Counters.{Counters}
use Rattle.pool_core.specs.Histories.{no_base}
use Rattle.pool_history.specs.declared.checker.PoolWhy.{PoolWhy}
use Rattle.pool_history.specs.declared.checker.PoolFault.TheVariants.{Illegal}
use Rattle.pool_history.specs.Pushing.{Progress, SeenWith, HasSeen, AreCountersOf}
use Rattle.pool_history.proofs.Pushed.{taken-all}
use Rattle.pool_run.specs.FirstLines.{pool_head_of}
use Rattle.pool_run.specs.Records.{pool_record_at}
use Rattle.pool_run.specs.Wording.{pool_last_line}
use Rattle.pool_run.specs.Checks.{pool_illegal_line, pool_records_behind, pool_fault_in, IsPoolVerdict, IsFoundOfPool, IsFoundBehind, IsVerdictOf, ArePushed, NamesLine, PoolCheckBreaks, PoolCheckEnds}
use Rattle.pool_run.proofs.Came.{HasCome, at-end, at-fault}

-- all records were pushed
pub pushed-all : (records : List (Record (PoolDeed ℕ))) (read : ℕ) (old now : Option (List ℕ)) (checker : Progress) → HasCome pool_record_at records read old now → read ≡ length records + 1 → HasSeen no_base checker records → IfSome now (λ xs. lines_of xs ≡ []) → IfSome old (λ xs. ArePushed checker (read - 1) (pool_records_behind (lines_of xs)))
pushed-all records read old now checker came counted seen none = at-end pool_record_at (λ lines. ArePushed checker (read - 1) (pool_records_behind lines)) records read old now came none
    (λ lines these. record {
      whole = these.fault_is;
      counted = (let count : read - 1 ≡ length records = omega (arith, counted) in count ∙ ap length (sym these.items_are));
      seen = subst (HasSeen no_base checker) (sym these.items_are) seen;
    })

-- the next line is no record
pub pushed-some : (records : List (Record (PoolDeed ℕ))) (read : ℕ) (old now : Option (List ℕ)) (f : RunFault) → HasCome pool_record_at records read old now → IfSome now (λ xs. (line : List ℕ) × (lines : List (List ℕ)) × (lines_of xs ≡ line ∷ lines) × (pool_record_at (read + 1) line ≡ None)) → f ≡ record { why = BadTrace; line = Some (read + 1) } → IfSome old (λ xs. NamesLine f (pool_records_behind (lines_of xs)).fault)
pushed-some records read old now f came faulty is = at-fault pool_record_at (λ lines. NamesLine f (pool_records_behind lines).fault) records read old now came faulty
    (λ lines these bad. ap (λ (x : RunFault). x.line) is ∙ sym these.fault_is)

-- what the checker found is what the records are
pub verdict-legal : (checker : Progress) (count : ℕ) (counters : Counters) → checker.fault ≡ None → AreCountersOf checker counters → IsVerdictOf checker count true (pool_last_line count counters)
verdict-legal checker count counters sound of records seen counted =
    (taken-all no_base checker checker.pool.settings records refl sound seen, ap (λ n. pool_last_line n counters) counted ∙ ap (λ k. pool_last_line (length records) k) (of no_base records seen))

pub verdict-illegal : (checker : Progress) (count number : ℕ) (why : PoolWhy) → checker.fault ≡ Some (Illegal number why) → IsVerdictOf checker count false (pool_illegal_line number why)
verdict-illegal checker count number why found records seen counted = (number, why, subst (λ f. SeenWith no_base f checker records) found seen.1, refl)

-- of the lines behind a first one this is found
pub found-behind : (old : Option (List ℕ)) (checker : Progress) (s : Settings) (count : ℕ) (legal : Bool) (text : List ℕ) → IfSome old (λ rest. ArePushed checker count (pool_records_behind (lines_of rest))) → checker.pool.settings ≡ s → IsVerdictOf checker count legal text → IfSome old (λ rest. IsFoundBehind s (lines_of rest) legal text)
found-behind None checker s count legal text pushed own verdict = tt
found-behind (Some rest) checker s count legal text pushed own verdict =
    (pushed.whole, subst (λ o. IsPoolVerdict o (pool_records_behind (lines_of rest)).items legal text) own (verdict (pool_records_behind (lines_of rest)).items pushed.seen pushed.counted))

-- and so of the whole text
pub found-all : (old mid : Option (List ℕ)) (s : Settings) (legal : Bool) (text : List ℕ) → Both old mid (λ xs ys. (line : List ℕ) × (lines_of xs ≡ line ∷ lines_of ys) × (pool_head_of line ≡ Some s)) → IfSome mid (λ rest. IsFoundBehind s (lines_of rest) legal text) → IfSome old (λ input. IsFoundOfPool (lines_of input) legal text)
found-all None mid s legal text head found = tt
found-all (Some xs) None s legal text head found = absurd head
found-all (Some xs) (Some ys) s legal text head found = record {
  settings = s;
  records = (pool_records_behind (lines_of ys)).items;
  trace = record {
    first = head.0;
    rest = lines_of ys;
    parts = head.1;
    head = head.2;
    behind = ap (λ f. record { items = (pool_records_behind (lines_of ys)).items; fault = f }) found.0;
  };
  verdict = found.1;
}

-- the first faulty line behind a first one is that of the whole
pub fault-behind : (old mid : Option (List ℕ)) (s : Settings) (f : RunFault) → Both old mid (λ xs ys. (line : List ℕ) × (lines_of xs ≡ line ∷ lines_of ys) × (pool_head_of line ≡ Some s)) → IfSome mid (λ rest. NamesLine f (pool_records_behind (lines_of rest)).fault) → IfSome old (λ input. NamesLine f (pool_fault_in (lines_of input)))
unfolding pool_fault_in
fault-behind None mid s f head named = tt
fault-behind (Some xs) None s f head named = absurd head
fault-behind (Some xs) (Some ys) s f head named = λ bad. named bad ∙ sym (ap pool_fault_in head.1 ∙ at-head head.0 (lines_of ys) s head.2)
  where
    at-head : (line : List ℕ) (lines : List (List ℕ)) (s : Settings) → pool_head_of line ≡ Some s → pool_fault_in (line ∷ lines) ≡ (pool_records_behind lines).fault
    at-head line lines s is = ap (λ o. option_map_or (λ z. (pool_records_behind lines).fault) o (Some 1)) is

-- a text without lines, or whose first line says nothing, has its fault there
pub fault-lineless : (old : Option (List ℕ)) (f : RunFault) → f ≡ record { why = BadTrace; line = Some 1 } → IfSome old (λ xs. lines_of xs ≡ []) → IfSome old (λ input. NamesLine f (pool_fault_in (lines_of input)))
unfolding pool_fault_in
fault-lineless None f is none = tt
fault-lineless (Some xs) f is none = λ bad. ap (λ (x : RunFault). x.line) is ∙ sym (ap pool_fault_in none ∙ at-none)
  where
    at-none : pool_fault_in [] ≡ Some 1
    at-none = refl

pub fault-headless : (old : Option (List ℕ)) (f : RunFault) → f ≡ record { why = BadTrace; line = Some 1 } → IfSome old (λ xs. (line : List ℕ) × (lines : List (List ℕ)) × (lines_of xs ≡ line ∷ lines) × (pool_head_of line ≡ None)) → IfSome old (λ input. NamesLine f (pool_fault_in (lines_of input)))
unfolding pool_fault_in
fault-headless None f is bad = tt
fault-headless (Some xs) f is bad = λ named. ap (λ (x : RunFault). x.line) is ∙ sym (ap pool_fault_in bad.2 ∙ at-bad bad.0 bad.1 bad.3)
  where
    at-bad : (line : List ℕ) (lines : List (List ℕ)) → pool_head_of line ≡ None → pool_fault_in (line ∷ lines) ≡ Some 1
    at-bad line lines none = ap (λ o. option_map_or (λ z. (pool_records_behind lines).fault) o (Some 1)) none

-- a trace that wasn't read to its end: nothing was written
pub check-unread : (old writer : Option (List ℕ)) (f : RunFault) → IsUnreadTrace f → IfSome old (λ input. NamesLine f (pool_fault_in (lines_of input))) → IfSome old (λ input. PoolCheckEnds (lines_of input) (Err f) writer writer)
check-unread None writer f unread named = tt
check-unread (Some xs) writer f (inl (n, is)) named =
    subst (λ (x : RunFault). PoolCheckBreaks (lines_of xs) x.why x.line writer writer) (sym is) (sym (named (ap (λ (x : RunFault). x.why) is)) ∙ ap (λ (x : RunFault). x.line) is, appends-nothing writer)
check-unread (Some xs) writer f (inr (inl is)) named = subst (λ (x : RunFault). PoolCheckBreaks (lines_of xs) x.why x.line writer writer) (sym is) (appends-nothing writer)
check-unread (Some xs) writer f (inr (inr is)) named = subst (λ (x : RunFault). PoolCheckBreaks (lines_of xs) x.why x.line writer writer) (sym is) (appends-nothing writer)

-- and one whose line wasn't written whole
pub check-broken : (old before after : Option (List ℕ)) (f : RunFault) (legal : Bool) (text : List ℕ) → f ≡ record { why = WriteFault; line = None } → IfSome old (λ input. IsFoundOfPool (lines_of input) legal text) → AppendsPrefix before after text → IfSome old (λ input. PoolCheckEnds (lines_of input) (Err f) before after)
check-broken None before after f legal text is found wrote = tt
check-broken (Some xs) before after f legal text is found wrote = subst (λ (x : RunFault). PoolCheckBreaks (lines_of xs) x.why x.line before after) (sym is) (legal, text, found, wrote)

pub check-done : (old before after : Option (List ℕ)) (legal : Bool) (text : List ℕ) → IfSome old (λ input. IsFoundOfPool (lines_of input) legal text) → Appends before after text → IfSome old (λ input. PoolCheckEnds (lines_of input) (Ok legal) before after)
check-done None before after legal text found wrote = tt
check-done (Some xs) before after legal text found wrote = (text, found, wrote)
