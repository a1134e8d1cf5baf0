-- How far the records of a script's calls have come.
use Rattle.std.proofs.Common.{◌≡◌, ℕ, ◌+◌, length, arith, List, [], ◌∷◌, ◌++◌, Option, Some, None, Bool, refl, sym, ap, ◌∙◌, subst, append_assoc, append-nil}
use Rattle.std.specs.Prelude.{IfSome, Result, Ok, Err, true, ◌⊎◌}
use Rattle.std.specs.Io.KnownBytes.{Appends}
use Rattle.meet_tickets.specs.declared.places.Kind.{Kind}
use Rattle.meet_tickets.specs.declared.records.Deed.{Deed}
use Rattle.meet_tickets.specs.Bases.{Based, no_base, moment_of_base}
use Rattle.meet_tickets.specs.BySeat.{moment_of}
use Rattle.meet_tickets.proofs.OnBases.Unique.{one_base}
use Rattle.meet_tickets.specs.declared.records.Record.{Record}
use Rattle.meet_history.specs.declared.one_thread.verbs.Call.{Call}
use Rattle.meet_history.specs.declared.one_thread.setup.Setup.{Setup}
use Rattle.meet_history.specs.OneThread.{Place, start, turn, turns, records}
use Rattle.meet_history.specs.Standings.{IsFolded}
use Rattle.meet_history.specs.Stepping.{Stepping, place_of, HasWritten}
use Rattle.meet_run.specs.declared.text.faults.RunFault.{RunFault}
use Rattle.meet_run.specs.Scripts.Grammar.{call_of, setup_of}
use Rattle.meet_run.specs.Texts.Reading.{lines_of, Listed, Both, no_more, faulty_at, with_item}
use Rattle.meet_run.specs.Scripts.Script.{calls_from, calls_behind, fault_in, fault_of}
use Rattle.meet_run.specs.Tracing.Traces.{LeavesRun, TracesOn, TracesAll, HasTrace, IsTraceIn, IsTraceBehind}
use Rattle.meet_run.specs.Tracing.BaseWording.{run_text}
use Rattle.meet_run.specs.Scripts.Running.{RunEnds}
use Rattle.meet_tickets.specs.declared.refusals.Refusal.{Refusal}
use Rattle.meet_tickets.specs.declared.refusals.Refusal.TheVariants.{Memory, BadLine, WriteFault}
use Rattle.meet_run.specs.Texts.Writing.{AppendsPrefix}
use Rattle.meet_run.proofs.Scripts.Ran.{appends-nothing, follows, bad_line-ends, cut-ends}
use Rattle.meet_run.proofs.Scripts.ScriptLemmas.{reads, listed-end, listed-more, listed-fault}

-- of these lines so many were read, and the rest is left; the place is here, and this was recorded
pub record Records (setup : Setup) (first rest : List ℕ) (read : ℕ) (place : Place) (past : List (Record Deed)) : Type 0 where
  pub fault : (calls_behind setup (lines_of first)).fault ≡ (calls_from setup.kind.order (read + 1) (lines_of rest)).fault
  pub records : records setup (calls_behind setup (lines_of first)).items ≡ past ++ (turns setup place (calls_from setup.kind.order (read + 1) (lines_of rest)).items).records
  pub ends : (turns setup (start setup) (calls_behind setup (lines_of first)).items).place ≡ (turns setup place (calls_from setup.kind.order (read + 1) (lines_of rest)).items).place

-- the same of the known bytes
abbrev pub Recorded : Setup → (old now : Option (List ℕ)) → (read : ℕ) → Place → (past : List (Record Deed)) → Type 0
Recorded setup old now read place past = Both old now (λ first rest. Records setup first rest read place past)

-- nothing was recorded so far
pub recorded-none : (setup : Setup) (reader : Option (List ℕ)) (place : Place) → place ≡ start setup → Recorded setup reader reader 1 place []
recorded-none setup None place here = tt
recorded-none setup (Some xs) place here =
    subst (λ p. Records setup xs xs 1 p []) (sym here) (record { fault = refl; records = refl; ends = refl })

module _ (setup : Setup) (place : Place) (past : List (Record Deed)) (read : ℕ) where
  -- a call was read, and its turn was made
  pub recorded-more : (old mid new : Option (List ℕ)) (call : Call) (later : Place) → Recorded setup old mid read place past → Both mid new (λ xs ys. (line : List ℕ) × (lines_of xs ≡ line ∷ lines_of ys) × (call_of setup.kind.order line ≡ Some call)) → later ≡ (turn setup place call).place → Recorded setup old new (read + 1) later (past ++ (turn setup place call).records)
  recorded-more None mid new call later came next is = tt
  recorded-more (Some xs) None new call later came next is = absurd came
  recorded-more (Some xs) (Some ys) None call later came next is = absurd next
  recorded-more (Some xs) (Some ys) (Some zs) call later came next is =
      let order = setup.kind.order in
      let left : Listed Call = calls_from order (read + 1 + 1) (lines_of zs) in
      let calls : calls_from order (read + 1) (lines_of ys) ≡ with_item call left = ap (λ (ls : List (List ℕ)). calls_from order (read + 1) ls) next.1 ∙ listed-more (reads order) (read + 1) next.0 (lines_of zs) call next.2 in
      let step : Records setup xs zs (read + 1) (turn setup place call).place (past ++ (turn setup place call).records) = record {
        fault = came.fault ∙ ap (λ (c : Listed Call). c.fault) calls;
        records = came.records ∙ (ap (λ (c : Listed Call). past ++ (turns setup place c.items).records) calls ∙ sym (append_assoc past (turn setup place call).records (turns setup (turn setup place call).place left.items).records));
        ends = came.ends ∙ ap (λ (c : Listed Call). (turns setup place c.items).place) calls;
      } in
      subst (λ p. Records setup xs zs (read + 1) p (past ++ (turn setup place call).records)) (sym is) step

  -- these lines leave what the stepper shows, where no call is left
  leaves-rest : (first : List ℕ) (s : Stepping) (bad : Option ℕ) (rest : Listed Call) (lines : List ℕ) → s.setup ≡ setup → place_of s ≡ place → HasWritten s past → Records setup first lines read place past → calls_from setup.kind.order (read + 1) (lines_of lines) ≡ rest → rest.items ≡ [] → rest.fault ≡ bad → LeavesRun setup (lines_of first) s.cut s.base s.records bad
  leaves-rest first s bad rest lines same here written came calls none faulty =
      let items : (calls_from setup.kind.order (read + 1) (lines_of lines)).items ≡ [] = ap (λ (c : Listed Call). c.items) calls ∙ none in
      let all : records setup (calls_behind setup (lines_of first)).items ≡ past = came.records ∙ (ap (λ (cs : List Call). past ++ (turns setup place cs).records) items ∙ append-nil past) in
      let end : (turns setup (start setup) (calls_behind setup (lines_of first)).items).place ≡ place_of s = came.ends ∙ ap (λ (cs : List Call). (turns setup place cs).place) items ∙ sym here in
      record {
        folded = subst (λ xs. IsFolded setup.kind xs s.base s.records) (sym all) (subst (λ (t : Setup). IsFolded t.kind past s.base s.records) same written);
        gone = ap (λ (p : Place). p.gone) (sym end);
        was_cut = ap (λ (p : Place). p.cut) (sym end);
        fault = came.fault ∙ ap (λ (c : Listed Call). c.fault) calls ∙ faulty;
      }

  -- no line is left
  pub recorded-end : (old mid : Option (List ℕ)) (s : Stepping) → s.setup ≡ setup → place_of s ≡ place → HasWritten s past → Recorded setup old mid read place past → IfSome mid (λ xs. lines_of xs ≡ []) → IfSome old (λ first. LeavesRun setup (lines_of first) s.cut s.base s.records None)
  recorded-end None mid s same here written came none = tt
  recorded-end (Some xs) None s same here written came none = absurd came
  recorded-end (Some xs) (Some ys) s same here written came none =
      leaves-rest xs s None no_more ys same here written came (ap (λ (ls : List (List ℕ)). calls_from setup.kind.order (read + 1) ls) none ∙ listed-end (reads setup.kind.order) (read + 1)) refl refl

  -- the next line is no call
  pub recorded-fault : (old mid : Option (List ℕ)) (s : Stepping) → s.setup ≡ setup → place_of s ≡ place → HasWritten s past → Recorded setup old mid read place past → IfSome mid (λ xs. (line : List ℕ) × (lines : List (List ℕ)) × (lines_of xs ≡ line ∷ lines) × (call_of setup.kind.order line ≡ None)) → IfSome old (λ first. LeavesRun setup (lines_of first) s.cut s.base s.records (Some (read + 1)))
  recorded-fault None mid s same here written came next = tt
  recorded-fault (Some xs) None s same here written came next = absurd came
  recorded-fault (Some xs) (Some ys) s same here written came next =
      leaves-rest xs s (Some (read + 1)) (faulty_at (read + 1)) ys same here written came (ap (λ (ls : List (List ℕ)). calls_from setup.kind.order (read + 1) ls) next.2 ∙ listed-fault (reads setup.kind.order) (read + 1) next.0 next.1 next.3) refl refl

-- two ways to part a list after as many elements are one
same-parts : {X : Type 0} (xs ys zs ws : List X) → length xs ≡ length zs → xs ++ ys ≡ zs ++ ws → (xs ≡ zs) × (ys ≡ ws)
same-parts [] ys [] ws long is = (refl, is)
same-parts [] ys (z ∷ zs) ws long is = absurd (omega arith)
same-parts (x ∷ xs) ys [] ws long is = absurd (omega arith)
same-parts (x ∷ xs) ys (z ∷ zs) ws long is =
    let head : x ≡ z = cc in
    let tail : xs ++ ys ≡ zs ++ ws = cc in
    let rest = same-parts xs ys zs ws (omega arith) tail in
    ((λ i. head i ∷ rest.0 i), rest.1)

-- what is left of all records is left once: the base and the records since are known by how many were folded away
same-folded : (k : Kind) (all : List (Record Deed)) (base other : Based) (since those : List (Record Deed)) → base.gone ≡ other.gone → IsFolded k all base since → IsFolded k all other those → (base ≡ other) × (since ≡ those)
same-folded k all base other since those gone one two =
    let parts : (one.past ≡ two.past) × (since ≡ those) = same-parts one.past since two.past those (sym one.gone ∙ gone ∙ two.gone) (sym one.parts ∙ two.parts) in
    let stands : moment_of_base base ≡ moment_of_base other = one.folds.stands ∙ ap (moment_of k (moment_of_base no_base)) parts.0 ∙ sym two.folds.stands in
    (one_base k base other one.folds.well_formed two.folds.well_formed gone stands, parts.1)

-- so there is one trace of what calls leave
pub one-trace : (setup : Setup) (lines : List (List ℕ)) (cut : Bool) (base : Based) (since : List (Record Deed)) (bad : Option ℕ) (text : List ℕ) → LeavesRun setup lines cut base since bad → IsTraceBehind setup lines text → text ≡ run_text setup.kind cut base since
one-trace setup lines cut base since bad text leaves trace =
    let same = same-folded setup.kind _ trace.base base trace.since since (trace.leaves.gone ∙ sym leaves.gone) trace.leaves.folded leaves.folded in
    trace.spelled ∙ (λ i. run_text setup.kind ((trace.leaves.was_cut ∙ sym leaves.was_cut) i) (same.0 i) (same.1 i))

-- and there is one
pub has-trace : (setup : Setup) (old : Option (List ℕ)) (cut : Bool) (base : Based) (since : List (Record Deed)) (bad : Option ℕ) → IfSome old (λ rest. LeavesRun setup (lines_of rest) cut base since bad) → IfSome old (λ rest. (text : List ℕ) × IsTraceBehind setup (lines_of rest) text)
has-trace setup old cut base since bad left = follows old (λ rest leaves. (
  run_text setup.kind cut base since,
  record {
    cut = cut;
    base = base;
    since = since;
    leaves = record { folded = leaves.folded; gone = leaves.gone; was_cut = leaves.was_cut; fault = refl };
    spelled = refl;
  },
)) left

-- ---- the trace of what was left behind the first line

module _ (setup : Setup) (old : Option (List ℕ)) (cut : Bool) (base : Based) (since : List (Record Deed)) (bad : Option ℕ) (before after : Option (List ℕ)) where
  -- how the text ends that they have is how it ends
  traces-left : (result : Result Bool RunFault) → IfSome old (λ rest. LeavesRun setup (lines_of rest) cut base since bad) → RunEnds bad (run_text setup.kind cut base since) (run_text setup.kind cut base since) result before after → IfSome old (λ rest. TracesOn setup (lines_of rest) result before after)
  traces-left result left ends = follows old (λ rest leaves text trace.
      subst (λ (b : Option ℕ). RunEnds b text text result before after) (sym leaves.fault)
      (subst (λ (t : List ℕ). RunEnds bad t t result before after) (sym (one-trace setup (lines_of rest) cut base since bad text leaves trace)) ends)) left

  -- the script ended
  pub traces-ended : IfSome old (λ rest. LeavesRun setup (lines_of rest) cut base since bad) → bad ≡ None → Appends before after (run_text setup.kind cut base since) → IfSome old (λ rest. TracesOn setup (lines_of rest) (Ok true) before after)
  traces-ended left none wrote = traces-left (Ok true) left (refl, none, wrote)

  -- a line was faulty
  pub traces-bad : (f : RunFault) (n : ℕ) → f ≡ record { why = BadLine; line = Some n } → IfSome old (λ rest. LeavesRun setup (lines_of rest) cut base since bad) → bad ≡ Some n → Appends before after (run_text setup.kind cut base since) → IfSome old (λ rest. TracesOn setup (lines_of rest) (Err f) before after)
  traces-bad f n is left faulty wrote = traces-left (Err f) left (bad_line-ends f n bad (run_text setup.kind cut base since) (run_text setup.kind cut base since) before after is (faulty, wrote))

  -- the trace was cut short
  pub traces-cut : (f : RunFault) (why : Refusal) → f ≡ record { why = why; line = None } → (why ≡ Memory) ⊎ (why ≡ WriteFault) → IfSome old (λ rest. LeavesRun setup (lines_of rest) cut base since bad) → AppendsPrefix before after (run_text setup.kind cut base since) → IfSome old (λ rest. TracesOn setup (lines_of rest) (Err f) before after)
  traces-cut f why is short left wrote = traces-left (Err f) left (cut-ends f why bad (run_text setup.kind cut base since) (run_text setup.kind cut base since) before after is short (wrote, wrote))

-- ---- the whole of a script

-- behind its first line
pub traces-behind : (setup : Setup) (old mid : Option (List ℕ)) (result : Result Bool RunFault) (before after : Option (List ℕ)) → Both old mid (λ xs ys. (line : List ℕ) × (lines_of xs ≡ line ∷ lines_of ys) × (setup_of line ≡ Some setup)) → IfSome mid (λ rest. TracesOn setup (lines_of rest) result before after) → IfSome old (λ input. TracesAll input result before after)
unfolding fault_in IsTraceIn
traces-behind setup None mid result before after first runs = tt
traces-behind setup (Some xs) None result before after first runs = absurd first
traces-behind setup (Some xs) (Some ys) result before after first runs =
    subst (λ ls. (text : List ℕ) → IsTraceIn ls text → RunEnds (fault_in ls) text text result before after) (sym first.1) (rw first.2 runs)

-- its first line is at fault, or isn't there
pub traces-faulty : (old writer : Option (List ℕ)) → IfSome old (λ xs. (line : List ℕ) × (lines : List (List ℕ)) × (lines_of xs ≡ line ∷ lines) × (setup_of line ≡ None)) → IfSome old (λ input. (fault_of input ≡ Some 1) × ((text : List ℕ) → IsTraceIn (lines_of input) text → Appends writer writer text))
unfolding fault_in IsTraceIn
traces-faulty None writer faulty = tt
traces-faulty (Some xs) writer faulty =
    subst (λ ls. (fault_in ls ≡ Some 1) × ((text : List ℕ) → IsTraceIn ls text → Appends writer writer text)) (sym faulty.2) (rw faulty.3 (refl, λ text none. subst (Appends writer writer) (sym none) (appends-nothing writer)))

pub traces-lineless : (old writer : Option (List ℕ)) → IfSome old (λ xs. lines_of xs ≡ []) → IfSome old (λ input. (fault_of input ≡ Some 1) × ((text : List ℕ) → IsTraceIn (lines_of input) text → Appends writer writer text))
unfolding fault_in IsTraceIn
traces-lineless None writer none = tt
traces-lineless (Some xs) writer none =
    subst (λ ls. (fault_in ls ≡ Some 1) × ((text : List ℕ) → IsTraceIn ls text → Appends writer writer text)) (sym none) (refl, λ text is. subst (Appends writer writer) (sym is) (appends-nothing writer))

-- ---- there is a trace of a whole script

pub made-behind : (setup : Setup) (old mid : Option (List ℕ)) → Both old mid (λ xs ys. (line : List ℕ) × (lines_of xs ≡ line ∷ lines_of ys) × (setup_of line ≡ Some setup)) → IfSome mid (λ rest. (text : List ℕ) × IsTraceBehind setup (lines_of rest) text) → IfSome old (λ input. HasTrace (lines_of input))
unfolding IsTraceIn
made-behind setup None mid first made = tt
made-behind setup (Some xs) None first made = absurd first
made-behind setup (Some xs) (Some ys) first made = subst HasTrace (sym first.1) (made.0, rw first.2 made.1)

pub made-faulty : (old : Option (List ℕ)) → IfSome old (λ xs. (line : List ℕ) × (lines : List (List ℕ)) × (lines_of xs ≡ line ∷ lines) × (setup_of line ≡ None)) → IfSome old (λ input. HasTrace (lines_of input))
unfolding IsTraceIn
made-faulty None faulty = tt
made-faulty (Some xs) faulty = subst HasTrace (sym faulty.2) ([], rw faulty.3 refl)

pub made-lineless : (old : Option (List ℕ)) → IfSome old (λ xs. lines_of xs ≡ []) → IfSome old (λ input. HasTrace (lines_of input))
unfolding IsTraceIn
made-lineless None none = tt
made-lineless (Some xs) none = subst HasTrace (sym none) ([], refl)
