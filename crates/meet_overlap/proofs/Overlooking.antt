-- If a call found nothing although an item was kept in the queue all the time, no history explains the calls.
use Rattle.std.proofs.Common.{◌≡◌, ◌≢◌, ℕ, Some, None, List, [], ◌∷◌, refl, sym, ap, ◌∙◌, subst, ⊎_elim, arith}
use Rattle.std.specs.Prelude.{slice_get, IfSome}
use Rattle.std.proofs.lemmas.Bool.{cases_lt}
use Rattle.std.proofs.lemmas.Bool.Decides.{eqb_tells}
use Rattle.meet_tickets.specs.declared.lines.Entry.{Entry}
use Rattle.meet_tickets.specs.declared.places.Kind.{Kind}
use Rattle.meet_tickets.specs.declared.places.Side.TheVariants.{Taker}
use Rattle.meet_tickets.specs.declared.records.Record.{Record}
use Rattle.meet_tickets.specs.declared.records.Deed.{Deed}
use Rattle.meet_tickets.specs.declared.records.Deed.TheVariants.{GiveKept, TakeWaits, TakeMeets, TakeFails, EntryInterrupted}
use Rattle.meet_tickets.specs.Meeting.{end_of, partner}
use Rattle.meet_tickets.specs.ByLists.{State, empty, IsStep, after}
use Rattle.meet_overlap.specs.declared.calls.Answer.{Answer}
use Rattle.meet_overlap.specs.declared.calls.Answer.TheVariants.{Nothing, Expired as TimeRanOut}
use Rattle.meet_overlap.specs.declared.calls.Patience.TheVariants.{Now, Timed}
use Rattle.meet_overlap.specs.declared.calls.Call.{Call}
use Rattle.meet_overlap.specs.declared.calls.Stage.{Stage}
use Rattle.meet_overlap.specs.declared.calls.Stage.TheVariants.{Ahead, Over}
use Rattle.meet_overlap.specs.declared.calls.Verb.{Verb}
use Rattle.meet_overlap.specs.declared.calls.Verb.TheVariants.{Keep, Give, Take, Interrupt as InterruptSeat}
use Rattle.meet_overlap.specs.Calls.{Begins, Moves, told_by}
use Rattle.meet_overlap.specs.Explaining.{Event, Explains}
use Rattle.meet_overlap.specs.Marks.{IsKeeping}
use Rattle.meet_overlap.specs.Reasons.{FindsNothing, IsOverlooked}
use Rattle.meet_overlap.proofs.Courses.{Happens, IsCourse, later, after_event, happens, goes_on, whole_course, never_left, own_call, still, too_late, answers}
use Rattle.meet_overlap.proofs.Effects.{IsWell, well_stays, well_empty}
use Rattle.meet_overlap.proofs.InLine.{IsOrdered, ordered_stays, ordered_empty, IsKept, finds_one, kept_stays, own_entry, now_kept}
use Rattle.meet_overlap.proofs.Keeping.{is_kept, stays_kept}
use Rattle.meet_overlap.proofs.Untouched.{IsUntouched, untouched_stays, untouched_empty}

-- a call that finds nothing makes its request where nobody is there
alone : (k : Kind) (s : State) (i t : ℕ) (verb : Verb) (answer : Answer) (d : Deed) → FindsNothing verb answer → Begins verb d → IfSome (told_by d) (λ a. a ≡ answer) → IsStep k s i t d →
    partner (end_of k.order) s.line Taker ≡ None
alone k s i t (Take Now) Nothing (TakeMeets m v) finds b told step = absurd (cc)
alone k s i t (Take Now) Nothing TakeFails finds b told step = step.1
alone k s i t (Take Now) Nothing d finds b told step = absurd b
alone k s i t (Take Timed) TimeRanOut (TakeMeets m v) finds b told step = absurd (cc)
alone k s i t (Take Timed) TimeRanOut TakeWaits finds b told step = step.1
alone k s i t (Take Timed) TimeRanOut (EntryInterrupted Taker) finds b told step = absurd (cc)
alone k s i t (Take Timed) TimeRanOut d finds b told step = absurd b
alone k s i t verb answer d finds b told step = absurd finds

module _ (k : Kind) (calls : List Call) (u : IsOverlooked k calls) where
  -- the call's own event, while it is ahead: it finds nobody
  finds_nobody : (e : Event) (s : State) (time : ℕ) (stages : ℕ → Stage) → Happens k calls s time stages e → e.call ≡ u.looked.number → stages u.looked.number ≡ Ahead → partner (end_of k.order) s.line Taker ≡ None
  finds_nobody e s time stages h at ahead =
      let stage : stages e.call ≡ Ahead = ap stages at ∙ ahead in
      let moves : Moves u.looked.call Ahead e.entry = subst (λ y. Moves u.looked.call y e.entry) stage (subst (λ y. Moves y (stages e.call) e.entry) (own_call k calls u.looked e at h.of) h.moves) in
      alone k s e.entry.seat e.entry.ticket u.looked.call.verb u.looked.returned.answer e.entry.deed u.finds moves.0 (answers k calls u.looked u.looked.returned.answer refl e.entry.deed moves.1) h.step

  never_over : (stages : ℕ → Stage) → stages u.looked.number ≡ Ahead → stages u.looked.number ≡ Over → ⊥
  never_over stages ahead over = let q = sym ahead ∙ over in absurd (cc)

  -- the item is kept, and the call is ahead
  pub record IsThere (s : State) (time : ℕ) (stages : ℕ → Stage) : Type 0 where
    pub entry : Entry ℕ
    pub untouched : IsUntouched k calls u.mark u.looked.returned.at u.none_got s time stages
    pub kept : IsKept k u.order u.mark s entry
    pub ahead : stages u.looked.number ≡ Ahead

  there_it_is : (events : List Event) (s : State) (time : ℕ) (stages : ℕ → Stage) → IsThere s time stages → IsCourse k calls s time stages events → ⊥
  there_it_is [] s time stages b c = never_left k calls u.looked (stages u.looked.number) (never_over stages b.ahead) (c.formed u.looked.number u.looked.call u.looked.known)
  there_it_is (e ∷ events) s time stages b c =
      let h = happens k calls s time stages e events c in
      ⊎_elim
      (λ q. finds_one k u.order u.mark s b.entry b.kept (finds_nobody e s time stages h q.1 b.ahead))
      (λ q.
      let ahead : later stages e u.looked.number ≡ Ahead = still k calls u.looked stages e q.1 ∙ b.ahead in
      ⊎_elim
      (λ late. too_late k calls u.looked events (after_event s e) e.time (later stages e) (never_over (later stages e) ahead) late (goes_on k calls s time stages e events c))
      (λ le.
      let stays = stays_kept k calls u.put u.mark u.looked.returned.at u.keeps u.went u.none_got u.later u.order e events s time stages b.entry b.kept b.untouched c le in
      there_it_is events (after_event s e) e.time (later stages e)
      (record {
        entry = b.entry;
        untouched = untouched_stays k calls u.mark u.looked.returned.at u.none_got e s time stages b.kept.well h b.untouched;
        kept = kept_stays k u.order u.mark s b.entry b.kept e.entry.seat e.entry.ticket e.entry.deed h.step stays;
        ahead = ahead;
      })
      (goes_on k calls s time stages e events c))
      (cases_lt u.looked.returned.at e.time))
      (eqb_tells e.call u.looked.number)

  -- the item isn't put yet, and the call is ahead
  pub record IsBefore (s : State) (time : ℕ) (stages : ℕ → Stage) : Type 0 where
    pub well : IsWell s
    pub ordered : IsOrdered s
    pub untouched : IsUntouched k calls u.mark u.looked.returned.at u.none_got s time stages
    pub going : stages u.put.number ≡ Over → ⊥
    pub ahead : stages u.looked.number ≡ Ahead

  module _ (e : Event) (events : List Event) (s : State) (time : ℕ) (stages : ℕ → Stage) (b : IsBefore s time stages) (c : IsCourse k calls s time stages (e ∷ events)) where
    h : Happens k calls s time stages e
    h = happens k calls s time stages e events c

    -- an event of the call comes after the end of the other one
    looks_late : e.call ≢ u.put.number → e.call ≡ u.looked.number → ⊥
    looks_late other at =
        let begun = h.of.within.begun in
        let before = u.before in
        let mine : h.of.call.begin ≡ u.looked.call.begin = ap (λ (y : Call). y.begin) (own_call k calls u.looked e at h.of) in
        too_late k calls u.put events (after_event s e) e.time (later stages e) (λ over. b.going (sym (still k calls u.put stages e other) ∙ over)) (omega arith) (goes_on k calls s time stages e events c)

    -- the item is put
    puts : e.call ≢ u.looked.number → e.entry.deed ≡ GiveKept u.mark → ⊥
    puts other is =
        let step : IsStep k s e.entry.seat e.entry.ticket (GiveKept u.mark) = subst (IsStep k s e.entry.seat e.entry.ticket) is h.step in
        there_it_is events (after s e.entry.seat e.entry.ticket (GiveKept u.mark)) e.time (later stages e)
        (record {
          entry = own_entry k u.order u.mark e.entry.seat e.entry.ticket;
          untouched = subst (λ y. IsUntouched k calls u.mark u.looked.returned.at u.none_got (after s e.entry.seat e.entry.ticket y) e.time (later stages e)) is (untouched_stays k calls u.mark u.looked.returned.at u.none_got e s time stages b.well h b.untouched);
          kept = now_kept k u.order u.mark s e.entry.seat e.entry.ticket b.well b.ordered step;
          ahead = still k calls u.looked stages e other ∙ b.ahead;
        })
        (subst (λ y. IsCourse k calls (after s e.entry.seat e.entry.ticket y) e.time (later stages e) events) is (goes_on k calls s time stages e events c))

  before_it : (events : List Event) (s : State) (time : ℕ) (stages : ℕ → Stage) → IsBefore s time stages → IsCourse k calls s time stages events → ⊥
  before_it [] s time stages b c = never_left k calls u.looked (stages u.looked.number) (never_over stages b.ahead) (c.formed u.looked.number u.looked.call u.looked.known)
  before_it (e ∷ events) s time stages b c = ⊎_elim
      (λ q. puts e events s time stages b c (not_both e q.1) (is_kept k calls u.put u.mark u.looked.returned.at u.keeps u.went u.none_got u.later e events s time stages b.well b.untouched c q.1))
      (λ q. ⊎_elim
      (λ at. looks_late e events s time stages b c q.1 at.1)
      (λ other.
      let hap = happens k calls s time stages e events c in
      before_it events (after_event s e) e.time (later stages e) (record {
        well = well_stays k s e.entry.seat e.entry.ticket e.entry.deed b.well hap.step;
        ordered = ordered_stays k s e.entry.seat e.entry.ticket e.entry.deed b.well b.ordered hap.step;
        untouched = untouched_stays k calls u.mark u.looked.returned.at u.none_got e s time stages b.well hap b.untouched;
        going = λ over. b.going (sym (still k calls u.put stages e q.1) ∙ over);
        ahead = still k calls u.looked stages e other.1 ∙ b.ahead;
      }) (goes_on k calls s time stages e events c))
      (eqb_tells e.call u.looked.number))
      (eqb_tells e.call u.put.number)
    where
      -- a call that keeps an item takes none
      not_both : (e : Event) → e.call ≡ u.put.number → e.call ≢ u.looked.number
      not_both e at same =
          let mine : slice_get calls u.looked.number ≡ Some u.put.call = subst (λ n. slice_get calls n ≡ Some u.put.call) (sym at ∙ same) u.put.known in
          let theirs = u.looked.known in
          let is : u.looked.call ≡ u.put.call = cc in
          both u.put.call.verb u.keeps (subst (λ (y : Call). FindsNothing y.verb u.looked.returned.answer) is u.finds)
        where
          both : (verb : Verb) → IsKeeping verb u.mark → FindsNothing verb u.looked.returned.answer → ⊥
          both (Keep m) keeps finds = finds
          both (Give p m) keeps finds = keeps
          both (Take p) keeps finds = keeps
          both (InterruptSeat j) keeps finds = keeps

-- so nothing explains the calls
pub overlooked_explains : (k : Kind) (calls : List Call) → IsOverlooked k calls → (history : List (Record Deed)) → Explains k calls history → ⊥
overlooked_explains k calls u history explains =
    before_it k calls u explains.events empty 0 (λ n. Ahead)
    (record {
      well = well_empty;
      ordered = ordered_empty;
      untouched = untouched_empty k calls u.mark u.looked.returned.at u.none_got;
      going = λ over. absurd (cc);
      ahead = refl;
    })
    (whole_course k calls history explains)
