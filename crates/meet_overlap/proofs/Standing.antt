-- A call that was seen to wait, and was met: none can have met it by a time. Until then it stands in the wait queue.
use Rattle.std.proofs.Common.{◌≡◌, ℕ, suc, zero, ◌<◌, ◌≤◌, ◌⊎◌, inl, inr, true, Option, Some, None, List, [], ◌∷◌, Contains, refl, sym, ap, ◌∙◌, subst, ⊎_elim, arith}
use Rattle.std.specs.Prelude.{IfSome}
use Rattle.std.proofs.lemmas.Bool.Decides.{eqb_tells}
use Rattle.std.proofs.lemmas.List.Elements.{Contains-push}
use Rattle.meet_tickets.specs.declared.lines.Entry.{Entry}
use Rattle.meet_tickets.specs.declared.places.Kind.{Kind}
use Rattle.meet_tickets.specs.declared.places.Side.TheVariants.{Giver, Taker}
use Rattle.meet_tickets.specs.declared.records.Cause.TheVariants.{Cancelled, Expired, Interrupted}
use Rattle.meet_tickets.specs.declared.records.Record.{Record}
use Rattle.meet_tickets.specs.declared.records.Deed.{Deed}
use Rattle.meet_tickets.specs.declared.records.Deed.TheVariants.{GiveWaits, GiveMeets, GiveFails, GiveKept, TakeWaits, TakeMeets, TakeFails, EntryInterrupted, Done, Got, Withdrawn, Interrupt}
use Rattle.meet_tickets.specs.BySeat.{is_request}
use Rattle.meet_tickets.specs.Meeting.{end_of}
use Rattle.meet_tickets.specs.ByLists.{State, Pair, empty, IsStep, after}
use Rattle.meet_tickets.proofs.Lists.Members.{Contains-partner}
use Rattle.meet_overlap.specs.declared.calls.Answer.{Answer}
use Rattle.meet_overlap.specs.declared.calls.Answer.TheVariants.{Went, Got as GotItem}
use Rattle.meet_overlap.specs.declared.calls.Patience.TheVariants.{Now, Forever, Timed}
use Rattle.meet_overlap.specs.declared.calls.Call.{Call}
use Rattle.meet_overlap.specs.declared.calls.Stage.{Stage}
use Rattle.meet_overlap.specs.declared.calls.Stage.TheVariants.{Ahead, Open, Over}
use Rattle.meet_overlap.specs.declared.calls.Verb.{Verb}
use Rattle.meet_overlap.specs.declared.calls.Verb.TheVariants.{Give, Take}
use Rattle.meet_overlap.specs.Calls.{Begins, Ends, Moves, Tells, told_by, stage_told, stage_after}
use Rattle.meet_overlap.specs.Explaining.{Event}
use Rattle.meet_overlap.specs.Marks.{IsEnded, MayGive}
use Rattle.meet_overlap.specs.Reasons.{IsUnmet, item_of}
use Rattle.meet_overlap.proofs.Courses.{Happens, IsCourse, later, after_event, happens, goes_on, never_left, own_call, still, answers}
use Rattle.meet_overlap.proofs.Effects.{NewItem, NewPair, Leaves, Effect, effect, IsWell, well_stays}
use Rattle.meet_overlap.proofs.Giving.{GivesOne, gives_by}
use Rattle.meet_overlap.proofs.InLine.{IsOrdered, ordered_stays, stays_in}
use Rattle.meet_overlap.proofs.Tables.{got_below}
use Rattle.meet_overlap.proofs.Untouched.{IsUntouched, untouched_stays, untouched_empty, none_takes}
use Rattle.meet_overlap.proofs.Ways.{put_same}

-- the pair lets a call that waits by this ticket end with this answer
abbrev pub LetsEnd : Verb → Answer → (ticket : ℕ) → Pair → Type 0
LetsEnd (Give p m) Went t pair = pair.giver ≡ t
LetsEnd (Take p) (GotItem m) t pair = (pair.taker ≡ t) × (pair.mark ≡ m)
LetsEnd verb answer t pair = ⊥

-- the request of a call that waits with this item, or for one
abbrev pub request_with : Option ℕ → Deed
request_with (Some m) = GiveWaits m
request_with None = TakeWaits

-- its entry
abbrev pub entry_with : (seat ticket : ℕ) → Option ℕ → Entry ℕ
entry_with i t item = record { ticket = t; seat = i; item = item; waits = true }

either : (n m : ℕ) → (n ≡ m) ⊎ (n ≡ m → ⊥)
either n m = ⊎_elim (λ q. inl q.1) (λ q. inr q.1) (eqb_tells n m)

-- a deed takes a ticket out of the line, or leaves it there
pub leaves_or_stays : (d : Deed) (t x : ℕ) → Leaves d t x ⊎ (Leaves d t x → ⊥)
leaves_or_stays (GiveWaits m) t x = inr (λ q. q)
leaves_or_stays (GiveMeets m v) t x = either x v
leaves_or_stays (GiveFails m) t x = inr (λ q. q)
leaves_or_stays (GiveKept m) t x = inr (λ q. q)
leaves_or_stays TakeWaits t x = inr (λ q. q)
leaves_or_stays (TakeMeets m v) t x = either x v
leaves_or_stays TakeFails t x = inr (λ q. q)
leaves_or_stays (EntryInterrupted side) t x = inr (λ q. q)
leaves_or_stays Done t x = inr (λ q. q)
leaves_or_stays (Got m v) t x = inr (λ q. q)
leaves_or_stays (Withdrawn Cancelled) t x = either x t
leaves_or_stays (Withdrawn Expired) t x = either x t
leaves_or_stays (Withdrawn Interrupted) t x = inr (λ q. q)
leaves_or_stays (Interrupt j) zero x = inr (λ q. q)
leaves_or_stays (Interrupt j) (suc t) x = either x (suc t)

-- a call that gives to one that it meets says that its item went
gives_met : (c : Call) (stage : Stage) (r : Record Deed) (m v : ℕ) → Moves c stage r → r.deed ≡ GiveMeets m v → MayGive c
gives_met c Ahead r m v moves is = subst (Tells c) is moves.1
gives_met c (Open t) r m v moves is = subst (Tells c) is moves.2
gives_met c Over r m v moves is = absurd moves

-- the answer is that the call was met
abbrev pub WasMet : Verb → Answer → Type 0
WasMet (Give p m) Went = Unit {0}
WasMet (Take p) (GotItem m) = Unit {0}
WasMet verb answer = ⊥

pub was_met : (calls : List Call) (by : ℕ) (verb : Verb) (answer : Answer) → IsUnmet calls verb answer by → WasMet verb answer
was_met calls by (Give p m) Went unmet = tt
was_met calls by (Take p) (GotItem m) unmet = tt
was_met calls by verb answer unmet = absurd unmet

-- what is known of a moment where none can have met a call by a time
module _ (k : Kind) (calls : List Call) (by : ℕ) where
  abbrev pub IsUnmetYet : (verb : Verb) (answer : Answer) → IsUnmet calls verb answer by → State → (time : ℕ) → (ℕ → Stage) → Type 0
  IsUnmetYet (Give p m) Went none s time stages = IsUntouched k calls m by none s time stages
  IsUnmetYet verb answer none s time stages = Unit {0}

  pub unmet_stays : (verb : Verb) (answer : Answer) (none : IsUnmet calls verb answer by) (e : Event) (s : State) (time : ℕ) (stages : ℕ → Stage) → IsWell s → Happens k calls s time stages e → IsUnmetYet verb answer none s time stages →
      IsUnmetYet verb answer none (after_event s e) e.time (later stages e)
  unmet_stays (Give p m) Went none e s time stages well h known = untouched_stays k calls m by none e s time stages well h known
  unmet_stays (Take p) (GotItem m) none e s time stages well h known = tt
  unmet_stays verb answer none e s time stages well h known = absurd none

  pub unmet_empty : (verb : Verb) (answer : Answer) (none : IsUnmet calls verb answer by) → IsUnmetYet verb answer none empty 0 (λ n. Ahead)
  unmet_empty (Give p m) Went none = untouched_empty k calls m by none
  unmet_empty (Take p) (GotItem m) none = tt
  unmet_empty verb answer none = absurd none

-- a call whose request waits
own_request : (verb : Verb) (answer : Answer) (d : Deed) → WasMet verb answer → Begins verb d → (is_request d ≡ true) × (told_by d ≡ None → d ≡ request_with (item_of verb))
own_request (Give p m) Went (GiveMeets n v) was b = (refl, λ told. absurd (cc))
own_request (Give Now m) Went (GiveFails n) was b = (refl, λ told. absurd (cc))
own_request (Give Forever m) Went (GiveWaits n) was b = (refl, λ told. ap GiveWaits b)
own_request (Give Timed m) Went (GiveWaits n) was b = (refl, λ told. ap GiveWaits b)
own_request (Give Forever m) Went (EntryInterrupted Giver) was b = (refl, λ told. absurd (cc))
own_request (Give Timed m) Went (EntryInterrupted Giver) was b = (refl, λ told. absurd (cc))
own_request (Give p m) Went d was b = absurd b
own_request (Take p) (GotItem m) (TakeMeets n v) was b = (refl, λ told. absurd (cc))
own_request (Take Now) (GotItem m) TakeFails was b = (refl, λ told. absurd (cc))
own_request (Take Forever) (GotItem m) TakeWaits was b = (refl, λ told. refl)
own_request (Take Timed) (GotItem m) TakeWaits was b = (refl, λ told. refl)
own_request (Take Forever) (GotItem m) (EntryInterrupted Taker) was b = (refl, λ told. absurd (cc))
own_request (Take Timed) (GotItem m) (EntryInterrupted Taker) was b = (refl, λ told. absurd (cc))
own_request (Take p) (GotItem m) d was b = absurd b
own_request verb answer d was b = absurd was

-- what a request that waits leaves
told_waits : (o : Option ℕ) → told_by (request_with o) ≡ None
told_waits None = refl
told_waits (Some m) = refl

line_waits : (s : State) (i t : ℕ) (o : Option ℕ) → Contains (after s i t (request_with o)).line (entry_with i t o)
line_waits s i t None = Contains-push s.line (entry_with i t None)
line_waits s i t (Some m) = Contains-push s.line (entry_with i t (Some m))

last_waits : (s : State) (i t : ℕ) (o : Option ℕ) → t ≤ (after s i t (request_with o)).last
last_waits s i t None = omega arith
last_waits s i t (Some m) = omega arith

pairs_waits : (s : State) (i t : ℕ) (o : Option ℕ) (p : Pair) → Contains (after s i t (request_with o)).pairs p → Contains s.pairs p
pairs_waits s i t None p there = there
pairs_waits s i t (Some m) p there = there

pub above_waits : (k : Kind) (s : State) (i t : ℕ) (o : Option ℕ) → IsStep k s i t (request_with o) → s.last < t
above_waits k s i t None step = step.0.above
above_waits k s i t (Some m) step = step.0.above

item_waits : (d : Deed) (o : Option ℕ) (item : Option ℕ) → d ≡ request_with o → (NewItem d item) → item ≡ o
item_waits d None item is new = let q = subst (λ y. NewItem y item) is new in q
item_waits d (Some m) item is new = let q = subst (λ y. NewItem y item) is new in q

-- no pair lets a ticket end that is above all
none_above : (s : State) (t : ℕ) (well : IsWell s) (verb : Verb) (answer : Answer) (p : Pair) → s.last < t → Contains s.pairs p → LetsEnd verb answer t p → ⊥
none_above s t well (Give q m) Went p above there lets = let low = well.givers p there in absurd (omega arith)
none_above s t well (Take q) (GotItem m) p above there lets = let low = well.takers p there in let at = lets.0 in absurd (omega arith)
none_above s t well verb answer p above there lets = lets

-- a call that was seen to wait, and whose first deed is a request
module _ (k : Kind) (calls : List Call) (x : IsEnded calls) (seen : ℕ) (waits : x.call.waits ≡ Some seen) (asks : (d : Deed) → Begins x.call.verb d → is_request d ≡ true) where
  -- its own event, while it is ahead: its request waits, and is made by the time at which it was seen
  pub waits_by : (e : Event) (s : State) (time : ℕ) (stages : ℕ → Stage) → stages x.number ≡ Ahead → Happens k calls s time stages e → e.call ≡ x.number → (told_by e.entry.deed ≡ None) × (e.time ≤ seen)
  waits_by e s time stages ahead h at =
      let stage : stages e.call ≡ Ahead = ap stages at ∙ ahead in
      let own : h.of.call ≡ x.call = own_call k calls x e at h.of in
      let moves : Moves x.call Ahead e.entry = subst (λ y. Moves x.call y e.entry) stage (subst (λ y. Moves y (stages e.call) e.entry) own h.moves) in
      by_seen h.of.call.waits (ap (λ (y : Call). y.waits) own ∙ waits) (h.of.within.seen (asks e.entry.deed moves.0))
    where
      by_seen : (o : Option ℕ) → o ≡ Some seen → IfSome o (λ v. (told_by e.entry.deed ≡ None) × (e.time ≤ v)) → (told_by e.entry.deed ≡ None) × (e.time ≤ seen)
      by_seen None is q = absurd (cc)
      by_seen (Some v) is q = let same : v ≡ seen = cc in subst (λ y. (told_by e.entry.deed ≡ None) × (e.time ≤ y)) same q

  -- it isn't ahead after that time
  pub seen_by : (events : List Event) (s : State) (time : ℕ) (stages : ℕ → Stage) → stages x.number ≡ Ahead → seen < time → IsCourse k calls s time stages events → ⊥
  seen_by [] s time stages ahead late c = never_left k calls x (stages x.number) (λ over. let q = sym ahead ∙ over in absurd (cc)) (c.formed x.number x.call x.known)
  seen_by (e ∷ events) s time stages ahead late c =
      let h = happens k calls s time stages e events c in
      let risen = h.risen in
      ⊎_elim
      (λ q. let r = waits_by e s time stages ahead h q.1 in let le = r.1 in absurd (omega arith))
      (λ q. seen_by events (after_event s e) e.time (later stages e) (still k calls x stages e q.1 ∙ ahead) (omega arith) (goes_on k calls s time stages e events c))
      (eqb_tells e.call x.number)

module _ (k : Kind) (calls : List Call) (w : IsEnded calls) (was : WasMet w.call.verb w.returned.answer) where
  -- it waits by this ticket, and no pair lets it end as it did
  pub record IsOpen (s : State) (stages : ℕ → Stage) (x : ℕ) : Type 0 where
    pub stage : stages w.number ≡ Open x
    pub low : x ≤ s.last
    pub pairs : (p : Pair) → Contains s.pairs p → LetsEnd w.call.verb w.returned.answer x p → ⊥

  own_ends : (s : State) (i t : ℕ) (verb : Verb) (answer : Answer) (d : Deed) → WasMet verb answer → Ends verb d → IfSome (told_by d) (λ a. a ≡ answer) → IsStep k s i t d → ((p : Pair) → Contains s.pairs p → LetsEnd verb answer t p → ⊥) → ⊥
  own_ends s i t (Give q m) Went Done none ends told step pairs = pairs step.1.0 step.1.1 step.1.2
  own_ends s i t (Give q m) Went (Withdrawn Interrupted) none ends told step pairs = absurd (cc)
  own_ends s i t (Give Timed m) Went (Withdrawn Expired) none ends told step pairs = absurd (cc)
  own_ends s i t (Give q m) Went d none ends told step pairs = ends
  own_ends s i t (Take q) (GotItem m) (Got n v) none ends told step pairs = pairs (record { giver = v; taker = t; mark = n }) step.1 (refl, cc)
  own_ends s i t (Take q) (GotItem m) (Withdrawn Interrupted) none ends told step pairs = absurd (cc)
  own_ends s i t (Take Timed) (GotItem m) (Withdrawn Expired) none ends told step pairs = absurd (cc)
  own_ends s i t (Take q) (GotItem m) d none ends told step pairs = ends
  own_ends s i t verb answer d none ends told step pairs = none

  -- so the next event isn't its own
  never_own : (e : Event) (s : State) (time : ℕ) (stages : ℕ → Stage) (x : ℕ) → IsOpen s stages x → Happens k calls s time stages e → e.call ≡ w.number → ⊥
  never_own e s time stages x b h at =
      let stage : stages e.call ≡ Open x = ap stages at ∙ b.stage in
      let moves : Moves w.call (Open x) e.entry = subst (λ y. Moves w.call y e.entry) stage (subst (λ y. Moves y (stages e.call) e.entry) (own_call k calls w e at h.of) h.moves) in
      own_ends s e.entry.seat e.entry.ticket w.call.verb w.returned.answer e.entry.deed was moves.1 (answers k calls w w.returned.answer refl e.entry.deed moves.2) h.step
      (λ p there lets. b.pairs p there (subst (λ y. LetsEnd w.call.verb w.returned.answer y p) moves.0 lets))

  -- a ticket that left the line without a pair is met by nobody
  left_alone : (s : State) (i t x : ℕ) (verb : Verb) (answer : Answer) (d : Deed) (p : Pair) → IsStep k s i t d → x ≤ s.last → ((f : Entry ℕ) → Contains s.line f → f.ticket ≡ x → ⊥) → NewPair d t p → LetsEnd verb answer x p → ⊥
  left_alone s i t x (Give q n) Went (GiveMeets m v) p step low gone new lets = let giver : p.giver ≡ t = ap (λ (y : Pair). y.giver) new in let above = step.0.above in absurd (omega arith)
  left_alone s i t x (Give q n) Went (TakeMeets m v) p step low gone new lets =
      gone step.1.0 (Contains-partner (end_of k.order) s.line Taker step.1.0 step.1.1) (step.1.2 ∙ sym (ap (λ (y : Pair). y.giver) new) ∙ lets)
  left_alone s i t x (Take q) (GotItem n) (GiveMeets m v) p step low gone new lets =
      gone step.1.0 (Contains-partner (end_of k.order) s.line Giver step.1.0 step.1.1) (step.1.2 ∙ sym (ap (λ (y : Pair). y.taker) new) ∙ lets.0)
  left_alone s i t x (Take q) (GotItem n) (TakeMeets m v) p step low gone new lets = let taker : p.taker ≡ t = ap (λ (y : Pair). y.taker) new in let at = lets.0 in let above = step.0.above in absurd (omega arith)
  left_alone s i t x verb answer (GiveMeets m v) p step low gone new lets = lets
  left_alone s i t x verb answer (TakeMeets m v) p step low gone new lets = lets
  left_alone s i t x verb answer d p step low gone new lets = new

  -- it waits on behind the event of another call that makes no pair for it
  open_stays : (e : Event) (s : State) (time : ℕ) (stages : ℕ → Stage) (x : ℕ) → IsOpen s stages x → Happens k calls s time stages e → ((p : Pair) → NewPair e.entry.deed e.entry.ticket p → LetsEnd w.call.verb w.returned.answer x p → ⊥) → IsOpen (after_event s e) (later stages e) x
  open_stays e s time stages x b h none =
      let f : Effect s (after_event s e) e.entry.ticket e.entry.deed = effect k s e.entry.seat e.entry.ticket e.entry.deed h.step in
      record {
        stage = still k calls w stages e (never_own e s time stages x b h) ∙ b.stage;
        low = let low = b.low in let last = f.last in omega arith;
        pairs = λ p there lets. ⊎_elim (λ q. b.pairs p q lets) (λ q. none p q lets) (f.pairs p there);
      }

  -- once it left the line so, it never ends
  never_ends : (events : List Event) (s : State) (time : ℕ) (stages : ℕ → Stage) (x : ℕ) → IsOpen s stages x → ((f : Entry ℕ) → Contains s.line f → f.ticket ≡ x → ⊥) → IsCourse k calls s time stages events → ⊥
  never_ends [] s time stages x b gone c = never_left k calls w (stages w.number) (λ over. let q = sym b.stage ∙ over in absurd (cc)) (c.formed w.number w.call w.known)
  never_ends (e ∷ events) s time stages x b gone c =
      let h = happens k calls s time stages e events c in
      let f : Effect s (after_event s e) e.entry.ticket e.entry.deed = effect k s e.entry.seat e.entry.ticket e.entry.deed h.step in
      let low = b.low in
      never_ends events (after_event s e) e.time (later stages e) x
      (open_stays e s time stages x b h (λ p new lets. left_alone s e.entry.seat e.entry.ticket x w.call.verb w.returned.answer e.entry.deed p h.step b.low gone new lets))
      (λ g there same. ⊎_elim (λ q. gone g q.0 same) (λ q. let above = q.above in let at = q.ticket in absurd (omega arith)) (f.line g there))
      (goes_on k calls s time stages e events c)

  -- it stands in the line
  pub record IsStanding (s : State) (stages : ℕ → Stage) (entry : Entry ℕ) : Type 0 where
    pub well : IsWell s
    pub ordered : IsOrdered s
    pub there : Contains s.line entry
    pub waits : IsOpen s stages entry.ticket
    pub items : (f : Entry ℕ) → Contains s.line f → f.ticket ≡ entry.ticket → f.item ≡ item_of w.call.verb

  -- an event that makes no pair for it leaves it there
  pub stands_on : (e : Event) (events : List Event) (s : State) (time : ℕ) (stages : ℕ → Stage) (entry : Entry ℕ) → IsStanding s stages entry → IsCourse k calls s time stages (e ∷ events) →
      ((p : Pair) → NewPair e.entry.deed e.entry.ticket p → LetsEnd w.call.verb w.returned.answer entry.ticket p → ⊥) → IsStanding (after_event s e) (later stages e) entry
  stands_on e events s time stages entry b c none = ⊎_elim
      (λ out. absurd (never_ends events (after_event s e) e.time (later stages e) entry.ticket next (λ g there same. ⊎_elim (λ q. q.1 (subst (Leaves e.entry.deed e.entry.ticket) (sym same) out)) (λ q. let above = q.above in let at = q.ticket in absurd (omega arith)) (f.line g there)) (goes_on k calls s time stages e events c)))
      (λ stays. record {
        well = well_stays k s e.entry.seat e.entry.ticket e.entry.deed b.well h.step;
        ordered = ordered_stays k s e.entry.seat e.entry.ticket e.entry.deed b.well b.ordered h.step;
        there = stays_in s e.entry.seat e.entry.ticket e.entry.deed entry b.there stays;
        waits = next;
        items = λ g there same. ⊎_elim (λ q. b.items g q.0 same) (λ q. let above = q.above in let at = q.ticket in absurd (omega arith)) (f.line g there);
      })
      (leaves_or_stays e.entry.deed e.entry.ticket entry.ticket)
    where
      h : Happens k calls s time stages e
      h = happens k calls s time stages e events c

      f : Effect s (after_event s e) e.entry.ticket e.entry.deed
      f = effect k s e.entry.seat e.entry.ticket e.entry.deed h.step

      low : entry.ticket ≤ s.last
      low = b.waits.low

      next : IsOpen (after_event s e) (later stages e) entry.ticket
      next = open_stays e s time stages entry.ticket b.waits h none

  -- none can have met it by this time
  module _ (by : ℕ) (unmet : IsUnmet calls w.call.verb w.returned.answer by) where
    -- an event by then makes no pair for a ticket that stands in the line with its item
    none_meets : (e : Event) (events : List Event) (s : State) (time : ℕ) (stages : ℕ → Stage) (x : ℕ) → IsCourse k calls s time stages (e ∷ events) → IsWell s → IsUnmetYet k calls by w.call.verb w.returned.answer unmet s time stages → e.time ≤ by → x ≤ s.last → ((f : Entry ℕ) → Contains s.line f → f.ticket ≡ x → f.item ≡ item_of w.call.verb) →
        (p : Pair) → NewPair e.entry.deed e.entry.ticket p → LetsEnd w.call.verb w.returned.answer x p → ⊥
    none_meets e events s time stages x c well known le low items p new lets = by_deed w.call.verb w.returned.answer e.entry.deed refl unmet known items h.step new lets
      where
        h : Happens k calls s time stages e
        h = happens k calls s time stages e events c

        begun : h.of.call.begin ≤ by
        begun = let early = h.of.within.begun in omega arith

        by_deed : (verb : Verb) (answer : Answer) (d : Deed) → e.entry.deed ≡ d → (none : IsUnmet calls verb answer by) → IsUnmetYet k calls by verb answer none s time stages → ((f : Entry ℕ) → Contains s.line f → f.ticket ≡ x → f.item ≡ item_of verb) → IsStep k s e.entry.seat e.entry.ticket d → NewPair d e.entry.ticket p →
            LetsEnd verb answer x p → ⊥
        by_deed (Give q n) Went (GiveMeets m v) is none known items step new lets = let giver : p.giver ≡ e.entry.ticket = ap (λ (y : Pair). y.giver) new in let above = step.0.above in absurd (omega arith)
        by_deed (Give q n) Went (TakeMeets m v) is none known items step new lets =
            let there = Contains-partner (end_of k.order) s.line Taker step.1.0 step.1.1 in
            let item = items step.1.0 there (step.1.2 ∙ sym (ap (λ (y : Pair). y.giver) new) ∙ lets) in
            let same : m ≡ n = let q = sym step.1.3 ∙ item in cc in
            none_takes k calls n by e events s time stages c le none well known v (is ∙ ap (λ y. TakeMeets y v) same)
        by_deed (Take q) (GotItem n) (GiveMeets m v) is none known items step new lets =
            let same : m ≡ n = sym (ap (λ (y : Pair). y.mark) new) ∙ lets.1 in
            let deed : e.entry.deed ≡ GiveMeets n v = is ∙ ap (λ y. GiveMeets y v) same in
            none e.call h.of.call (got_below calls e.call h.of.call h.of.known) h.of.known
            (gives_by n h.of.call (stages e.call) e.entry h.moves (subst (GivesOne n) (sym deed) refl))
            (gives_met h.of.call (stages e.call) e.entry n v h.moves deed) begun
        by_deed (Take q) (GotItem n) (TakeMeets m v) is none known items step new lets = let taker : p.taker ≡ e.entry.ticket = ap (λ (y : Pair). y.taker) new in let at = lets.0 in let above = step.0.above in absurd (omega arith)
        by_deed verb answer (GiveMeets m v) is none known items step new lets = lets
        by_deed verb answer (TakeMeets m v) is none known items step new lets = lets
        by_deed verb answer d is none known items step new lets = new

    -- an event by then leaves it there
    pub stands : (e : Event) (events : List Event) (s : State) (time : ℕ) (stages : ℕ → Stage) (entry : Entry ℕ) → IsStanding s stages entry → IsUnmetYet k calls by w.call.verb w.returned.answer unmet s time stages → IsCourse k calls s time stages (e ∷ events) → e.time ≤ by → IsStanding (after_event s e) (later stages e) entry
    stands e events s time stages entry b known c le = stands_on e events s time stages entry b c (none_meets e events s time stages entry.ticket c b.well known le b.waits.low b.items)

  -- by a request that waits it stands in the line
  pub now_waiting : (e : Event) (s : State) (time : ℕ) (stages : ℕ → Stage) → IsWell s → IsOrdered s → stages w.number ≡ Ahead → Happens k calls s time stages e → e.call ≡ w.number → e.entry.deed ≡ request_with (item_of w.call.verb) → IsStanding (after_event s e) (later stages e) (entry_with e.entry.seat e.entry.ticket (item_of w.call.verb))
  now_waiting e s time stages well ordered ahead h at deed = record {
    well = well_stays k s i t e.entry.deed well h.step;
    ordered = ordered_stays k s i t e.entry.deed well ordered h.step;
    there = subst (λ d. Contains (after s i t d).line (entry_with i t item)) (sym deed) (line_waits s i t item);
    waits = record {
      stage = at_it;
      low = subst (λ d. t ≤ (after s i t d).last) (sym deed) (last_waits s i t item);
      pairs = λ p there lets. none_above s t well w.call.verb w.returned.answer p above (pairs_waits s i t item p (subst (λ d. Contains (after s i t d).pairs p) deed there)) lets;
    };
    items = λ g there same. ⊎_elim (λ q. let low = well.line g q.0 in let own : g.ticket ≡ t = same in let over = above in absurd (omega arith)) (λ q. item_waits e.entry.deed item g.item deed q.item) (f.line g there);
  }
    where
      i : ℕ
      i = e.entry.seat

      t : ℕ
      t = e.entry.ticket

      item : Option ℕ
      item = item_of w.call.verb

      above : s.last < t
      above = above_waits k s i t item (subst (IsStep k s i t) deed h.step)

      f : Effect s (after s i t e.entry.deed) t e.entry.deed
      f = effect k s i t e.entry.deed h.step

      at_it : later stages e w.number ≡ Open t
      at_it =
          let stage : stages e.call ≡ Ahead = ap stages at ∙ ahead in
          let next : stage_after (stages e.call) e.entry ≡ Open t = ap (λ y. stage_after y e.entry) stage ∙ ap (stage_told t) (ap told_by deed ∙ told_waits item) in
          ap (later stages e) (sym at) ∙ put_same stages e.call (stage_after (stages e.call) e.entry) ∙ next

  module _ (seen : ℕ) (waits : w.call.waits ≡ Some seen) where
    asks : (d : Deed) → Begins w.call.verb d → is_request d ≡ true
    asks d begins = (own_request w.call.verb w.returned.answer d was begins).0

    -- its own event, while it is ahead: its request, which waits, by the time at which it was seen
    pub own_seen : (e : Event) (s : State) (time : ℕ) (stages : ℕ → Stage) → stages w.number ≡ Ahead → Happens k calls s time stages e → e.call ≡ w.number → (e.entry.deed ≡ request_with (item_of w.call.verb)) × (e.time ≤ seen)
    own_seen e s time stages ahead h at =
        let stage : stages e.call ≡ Ahead = ap stages at ∙ ahead in
        let moves : Moves w.call Ahead e.entry = subst (λ y. Moves w.call y e.entry) stage (subst (λ y. Moves y (stages e.call) e.entry) (own_call k calls w e at h.of) h.moves) in
        let r = waits_by k calls w seen waits asks e s time stages ahead h at in
        ((own_request w.call.verb w.returned.answer e.entry.deed was moves.0).1 r.0, r.1)

    -- it isn't ahead after that time
    pub unseen : (events : List Event) (s : State) (time : ℕ) (stages : ℕ → Stage) → stages w.number ≡ Ahead → seen < time → IsCourse k calls s time stages events → ⊥
    unseen events s time stages ahead late c = seen_by k calls w seen waits asks events s time stages ahead late c

    -- by its request it stands in the line
    pub now_standing : (e : Event) (s : State) (time : ℕ) (stages : ℕ → Stage) → IsWell s → IsOrdered s → stages w.number ≡ Ahead → Happens k calls s time stages e → e.call ≡ w.number → IsStanding (after_event s e) (later stages e) (entry_with e.entry.seat e.entry.ticket (item_of w.call.verb))
    now_standing e s time stages well ordered ahead h at = now_waiting e s time stages well ordered ahead h at (own_seen e s time stages ahead h at).0
