-- An explanation told step by step: each event may come next, and at the end each call may be left.
use Rattle.std.proofs.Common.{◌≡◌, ◌≢◌, ℕ, ◌<◌, ◌≤◌, ◌==◌, ◌⊎◌, inl, inr, Bool, true, false, cond, Option, Some, None, List, [], ◌∷◌, map, filter, refl, sym, ap, ◌∙◌, subst, ⊎_elim, arith}
use Rattle.std.specs.Prelude.{slice_get}
use Rattle.std.proofs.lemmas.Bool.{eq-eqb, ne_eqb, cases_lt}
use Rattle.std.proofs.lemmas.Bool.Decides.{eqb_tells}
use Rattle.meet_tickets.specs.declared.places.Kind.{Kind}
use Rattle.meet_tickets.specs.declared.records.Record.{Record}
use Rattle.meet_tickets.specs.declared.records.Deed.{Deed}
use Rattle.meet_tickets.specs.declared.records.Deed.TheVariants.{Done, Got, Withdrawn, Interrupt}
use Rattle.meet_tickets.specs.BySeat.{Moment, Allows, Fits, put_at, is_request, cut_ticket, IsLegalBySeatFrom}
use Rattle.meet_overlap.specs.declared.calls.Verb.{Verb}
use Rattle.meet_overlap.specs.declared.calls.Verb.TheVariants.{Keep, Give, Take, Interrupt as InterruptSeat}
use Rattle.meet_overlap.specs.declared.calls.Call.{Call}
use Rattle.meet_overlap.specs.Explaining.{Event}
use Rattle.meet_overlap.specs.declared.calls.Stage.{Stage}
use Rattle.meet_overlap.specs.declared.calls.Stage.TheVariants.{Ahead, Open, Over}
use Rattle.meet_overlap.specs.declared.calls.Answer.{Answer}
use Rattle.meet_overlap.specs.Calls.{Begins, Ends, Tells, Moves, Remains, IsInTurn, IsWithin, told_by, stage_told, stage_after}
use Rattle.meet_overlap.specs.Explaining.{records_of, dealt, AreOf, IsRising, NoneBefore, AreInTurn, FailsFull, AreFull}
use Rattle.meet_overlap.specs.Search.{World, world_after, deed_of, ticket_of, request_ticket, is_held, ending_of, Steps, IsRun, MayAllStop}
use Rattle.meet_overlap.proofs.Sound.{request_allowed, ending_allowed, fails_full}

-- the event may come next
pub record Comes (k : Kind) (calls : List Call) (w : World) (e : Event) : Type 0 where
  pub call : Call
  pub known : slice_get calls e.call ≡ Some call
  pub seat : e.entry.seat ≡ call.seat
  pub within : IsWithin call e.time e.entry.deed
  pub risen : w.time ≤ e.time
  pub moves : Moves call (w.stages e.call) e.entry
  pub fits : Fits k w.moment e.entry
  pub turn : IsInTurn calls w.stages e.call
  pub full : FailsFull k w.moment.seats.line call.verb e.entry.deed

-- these events lead from here to where each call may be left
abbrev pub IsWay : Kind → List Call → World → List Event → Type 0
IsWay k calls w [] = MayAllStop calls w.stages
IsWay k calls w (e ∷ events) = Comes k calls w e × IsWay k calls (world_after k w e) events

-- an ending is no request
pub ending_no_request : (verb : Verb) (d : Deed) → Ends verb d → is_request d ≡ true → ⊥
ending_no_request (Give p m) Done b r = absurd (cc)
ending_no_request (Give p m) (Withdrawn cause) b r = absurd (cc)
ending_no_request (Take p) (Got n u) b r = absurd (cc)
ending_no_request (Take p) (Withdrawn cause) b r = absurd (cc)
ending_no_request verb d b r = b

-- an interrupt is no request
pub interrupt_no_request : (j : ℕ) (d : Deed) → Begins (InterruptSeat j) d → is_request d ≡ true → ⊥
interrupt_no_request j (Interrupt i) b r = absurd (cc)
interrupt_no_request j d b r = b

-- a request's ticket is above all earlier ones
above_of : (m : Moment) (verb : Verb) (d : Deed) (t : ℕ) → Begins verb d → t ≡ request_ticket m verb → is_request d ≡ true → m.last < t
above_of m (Keep x) d t b e r = omega arith
above_of m (Give p x) d t b e r = omega arith
above_of m (Take p) d t b e r = omega arith
above_of m (InterruptSeat j) d t b e r = absurd (interrupt_no_request j d b r)

-- the ticket of an interrupt's record is the one that is cut
cut_of : (m : Moment) (verb : Verb) (t : ℕ) → t ≡ request_ticket m verb → (j : ℕ) → verb ≡ InterruptSeat j → t ≡ cut_ticket m.seats j
cut_of m (Keep x) t e j is = absurd (cc)
cut_of m (Give p x) t e j is = absurd (cc)
cut_of m (Take p) t e j is = absurd (cc)
cut_of m (InterruptSeat i) t e j is = e ∙ ap (cut_ticket m.seats) (cc)

-- what a test lets through
test_passes : {A : Type 0} (b : Bool) (o : Option A) (x : A) → cond b o None ≡ Some x → (b ≡ true) × (o ≡ Some x)
test_passes true o x e = (refl, e)
test_passes false o x e = absurd (cc)

-- a step of the search is in the call's form, and fits
pub step_right : (k : Kind) (m : Moment) (call : Call) (stage : Stage) (r : Record Deed) → r.seat ≡ call.seat → r.ticket ≡ ticket_of m call.verb stage →
    deed_of k m.seats call stage ≡ Some r.deed → Tells call r.deed → Moves call stage r × Fits k m r
step_right k m call Ahead r seat ticket deed tells =
    let right = request_allowed k m.seats call.seat r.ticket call.verb r.deed (cut_of m call.verb r.ticket ticket) deed in (
      (right.0, tells),
      record {
        above = above_of m call.verb r.deed r.ticket right.0 ticket;
        allowed = subst (λ i. Allows k m.seats i r.ticket r.deed) (sym seat) right.1;
      },
    )
step_right k m call (Open t) r seat ticket deed tells =
    let passed = test_passes (is_held t (m.seats.holds call.seat)) (ending_of m.seats.line call.verb (m.seats.holds call.seat)) r.deed deed in
    let right = ending_allowed k m.seats call.seat t call.verb r.deed passed.0 passed.1 in (
      (ticket, right.0, tells),
      record {
        above = λ z. absurd (ending_no_request call.verb r.deed right.0 z);
        allowed =
            let there : Allows k m.seats r.seat t r.deed = subst (λ i. Allows k m.seats i t r.deed) (sym seat) right.1 in
            subst (λ u. Allows k m.seats r.seat u r.deed) (sym ticket) there;
      },
    )
step_right k m call Over r seat ticket deed tells = absurd (cc)

-- a step of the search may come next
pub step_comes : (k : Kind) (calls : List Call) (w : World) (e : Event) → Steps k calls w e → Comes k calls w e
step_comes k calls w e s =
    let right = step_right k w.moment s.call (w.stages e.call) e.entry s.seat s.ticket s.deed s.tells in
    record {
      call = s.call;
      known = s.known;
      seat = s.seat;
      within = s.within;
      risen = let time = s.time in omega arith;
      moves = right.0;
      fits = right.1;
      turn = s.turn;
      full = fails_full k w.moment.seats s.call (w.stages e.call) e.entry.deed s.deed;
    }

-- a run of the search is a way
pub run_way : (k : Kind) (calls : List Call) (w : World) (events : List Event) → IsRun k calls w events → IsWay k calls w events
run_way k calls w [] run = run
run_way k calls w (e ∷ events) run = (step_comes k calls w e run.0, run_way k calls (world_after k w e) events run.1)

pub put_same : {A : Type 0} (f : ℕ → A) (key : ℕ) (v : A) → put_at f key v key ≡ v
put_same f key v = ap (λ b. cond b v (f key)) (eq-eqb key key refl)

pub put_other : {A : Type 0} (f : ℕ → A) (key : ℕ) (v : A) (n : ℕ) → n ≢ key → put_at f key v n ≡ f n
put_other f key v n ne = ap (λ b. cond b v (f n)) (ne_eqb n key ne)

dealt_here : (e : Event) (events : List Event) → dealt e.call (e ∷ events) ≡ e.entry ∷ dealt e.call events
dealt_here e events = ap (λ b. map (λ x. x.entry) (cond b (e ∷ filter (λ x. x.call == e.call) events) (filter (λ x. x.call == e.call) events))) (eq-eqb e.call e.call refl)

dealt_other : (e : Event) (events : List Event) (n : ℕ) → n ≢ e.call → dealt n (e ∷ events) ≡ dealt n events
dealt_other e events n ne = ap (λ b. map (λ x. x.entry) (cond b (e ∷ filter (λ x. x.call == n) events) (filter (λ x. x.call == n) events))) (ne_eqb e.call n (λ q. ne (sym q)))

-- each call's records are all that it has still to make
abbrev pub AreFormed : List Call → (ℕ → Stage) → List Event → Type 0
AreFormed calls stages events = (n : ℕ) (call : Call) → slice_get calls n ≡ Some call → Remains call (stages n) (dealt n events)

one_call : (calls : List Call) (n : ℕ) (a b : Call) → slice_get calls n ≡ Some a → slice_get calls n ≡ Some b → a ≡ b
one_call calls n a b p q = cc

module _ (calls : List Call) (stages : ℕ → Stage) (e : Event) (events : List Event) where
  abbrev later : ℕ → Stage
  later = put_at stages e.call (stage_after (stages e.call) e.entry)

  pub formed_before : (call : Call) → slice_get calls e.call ≡ Some call → Moves call (stages e.call) e.entry → AreFormed calls later events → AreFormed calls stages (e ∷ events)
  formed_before mine known moves formed n call is = ⊎_elim (λ q. here n q.1 call is) (λ q. other q.1) (eqb_tells n e.call)
    where
      at_it : (call : Call) → slice_get calls e.call ≡ Some call → Remains call (stages e.call) (dealt e.call (e ∷ events))
      at_it c q =
          subst (Remains c (stages e.call)) (sym (dealt_here e events)) (
            subst (λ x. Moves x (stages e.call) e.entry) (one_call calls e.call mine c known q) moves,
            subst (λ s. Remains c s (dealt e.call events)) (put_same stages e.call (stage_after (stages e.call) e.entry)) (formed e.call c q),
          )

      here : (n : ℕ) → n ≡ e.call → (call : Call) → slice_get calls n ≡ Some call → Remains call (stages n) (dealt n (e ∷ events))
      here n same = subst (λ x. (c : Call) → slice_get calls x ≡ Some c → Remains c (stages x) (dealt x (e ∷ events))) (sym same) at_it

      other : n ≢ e.call → Remains call (stages n) (dealt n (e ∷ events))
      other ne =
          subst (Remains call (stages n)) (sym (dealt_other e events n ne))
          (subst (λ s. Remains call s (dealt n events)) (put_other stages e.call (stage_after (stages e.call) e.entry) n ne) (formed n call is))

  -- the event is in the form of its call
  pub formed_now : (call : Call) → slice_get calls e.call ≡ Some call → AreFormed calls stages (e ∷ events) → Moves call (stages e.call) e.entry × Remains call (stage_after (stages e.call) e.entry) (dealt e.call events)
  formed_now call known formed = subst (Remains call (stages e.call)) (dealt_here e events) (formed e.call call known)

  pub formed_later : AreFormed calls stages (e ∷ events) → AreFormed calls later events
  formed_later formed n call is = ⊎_elim (λ q. here n q.1 call is) (λ q. other q.1) (eqb_tells n e.call)
    where
      at_it : (call : Call) → slice_get calls e.call ≡ Some call → Remains call (later e.call) (dealt e.call events)
      at_it c q = subst (λ s. Remains c s (dealt e.call events)) (sym (put_same stages e.call (stage_after (stages e.call) e.entry))) (formed_now c q formed).1

      here : (n : ℕ) → n ≡ e.call → (call : Call) → slice_get calls n ≡ Some call → Remains call (later n) (dealt n events)
      here n same = subst (λ x. (c : Call) → slice_get calls x ≡ Some c → Remains c (later x) (dealt x events)) (sym same) at_it

      other : n ≢ e.call → Remains call (later n) (dealt n events)
      other ne =
          subst (λ s. Remains call s (dealt n events)) (sym (put_other stages e.call (stage_after (stages e.call) e.entry) n ne))
          (subst (Remains call (stages n)) (dealt_other e events n ne) (formed n call is))

-- no stage comes back to its beginning
pub never_back : (s : Stage) (r : Record Deed) → stage_after s r ≡ Ahead → ⊥
never_back Ahead r e = by_told (told_by r.deed) e
  where
    by_told : (o : Option Answer) → stage_told r.ticket o ≡ Ahead → ⊥
    by_told None e = absurd (cc)
    by_told (Some a) e = absurd (cc)
never_back (Open t) r e = absurd (cc)
never_back Over r e = absurd (cc)

-- a call that has begun has begun behind an event too
begun_stays : (stages : ℕ → Stage) (key n : ℕ) (r : Record Deed) → (stages n ≡ Ahead → ⊥) → put_at stages key (stage_after (stages key) r) n ≡ Ahead → ⊥
begun_stays stages key n r begun e = ⊎_elim
    (λ q.
    let same : put_at stages key (stage_after (stages key) r) n ≡ stage_after (stages key) r = ap (put_at stages key (stage_after (stages key) r)) q.1 ∙ put_same stages key (stage_after (stages key) r) in
    never_back (stages key) r (sym same ∙ e))
    (λ q. begun (sym (put_other stages key (stage_after (stages key) r) n q.1) ∙ e))
    (eqb_tells n key)

-- behind the begin of a call no earlier one of its seat makes a record
none_before : (k : Kind) (calls : List Call) (w : World) (events : List Event) → IsWay k calls w events → (n : ℕ) (call : Call) → slice_get calls n ≡ Some call → (w.stages n ≡ Ahead → ⊥) → NoneBefore n call.seat events
none_before k calls w [] way n call known begun = tt
none_before k calls w (e ∷ events) way n call known begun = (
  λ seat. ⊎_elim
      (λ lt. absurd (begun (way.0.turn n way.0.call call lt way.0.known known (sym seat ∙ way.0.seat))))
      (λ le. le)
      (cases_lt e.call n),
  none_before k calls (world_after k w e) events way.1 n call known (begun_stays w.stages e.call n e.entry begun),
)

-- each call that has begun has no earlier one of its seat behind it
abbrev pub AreBegun : List Call → (ℕ → Stage) → List Event → Type 0
AreBegun calls stages events = (n : ℕ) (call : Call) → slice_get calls n ≡ Some call → (stages n ≡ Ahead) ⊎ NoneBefore n call.seat events

-- what a way says of its events as a whole
pub record IsWhole (k : Kind) (calls : List Call) (w : World) (events : List Event) : Type 0 where
  pub legal : IsLegalBySeatFrom k w.moment (records_of events)
  pub owned : AreOf calls events
  pub rising : IsRising w.time events
  pub formed : AreFormed calls w.stages events
  pub turns : AreInTurn events
  pub full : AreFull k calls w.moment events

pub way_whole : (k : Kind) (calls : List Call) (w : World) (events : List Event) → IsWay k calls w events → IsWhole k calls w events
way_whole k calls w [] way = record { legal = tt; owned = tt; rising = tt; formed = way; turns = tt; full = tt }
way_whole k calls w (e ∷ events) way =
    let comes = way.0 in
    let rest = way_whole k calls (world_after k w e) events way.1 in
    record {
      legal = (comes.fits, rest.legal);
      owned = (record { call = comes.call; known = comes.known; seat = comes.seat; within = comes.within }, rest.owned);
      rising = (comes.risen, rest.rising);
      formed = formed_before calls w.stages e events comes.call comes.known comes.moves rest.formed;
      turns = (
        subst (λ i. NoneBefore e.call i events) (sym comes.seat)
            (none_before k calls (world_after k w e) events way.1 e.call comes.call comes.known (λ q. never_back (w.stages e.call) e.entry (sym (put_same w.stages e.call (stage_after (w.stages e.call) e.entry)) ∙ q))),
        rest.turns,
      );
      full = (
        λ call is. subst (λ (c : Call). FailsFull k w.moment.seats.line c.verb e.entry.deed) (one_call calls e.call comes.call call comes.known is) comes.full,
        rest.full,
      );
    }

-- an event comes in its seat's turn
in_turn : (calls : List Call) (stages : ℕ → Stage) (e : Event) (events : List Event) (call : Call) → slice_get calls e.call ≡ Some call → e.entry.seat ≡ call.seat → AreBegun calls stages (e ∷ events) → IsInTurn calls stages e.call
in_turn calls stages e events call known seat begun m mine later lt own there same = ⊎_elim
    (λ ahead. ahead)
    (λ none.
    let is : mine ≡ call = one_call calls e.call mine call own known in
    let le : m ≤ e.call = none.0 (seat ∙ sym (ap (λ (c : Call). c.seat) is) ∙ sym same) in
    absurd (omega arith))
    (begun m later there)

-- and behind it those have begun that had, and its own
begun_later : (calls : List Call) (stages : ℕ → Stage) (e : Event) (events : List Event) (call : Call) → slice_get calls e.call ≡ Some call → e.entry.seat ≡ call.seat → AreBegun calls stages (e ∷ events) → NoneBefore e.call e.entry.seat events →
    AreBegun calls (put_at stages e.call (stage_after (stages e.call) e.entry)) events
begun_later calls stages e events call known seat begun none n other there = ⊎_elim
    (λ q.
    let at : slice_get calls e.call ≡ Some other = subst (λ x. slice_get calls x ≡ Some other) q.1 there in
    let is : call ≡ other = one_call calls e.call call other known at in
    inr (subst (λ x. NoneBefore x other.seat events) (sym q.1) (subst (λ i. NoneBefore e.call i events) (seat ∙ ap (λ (c : Call). c.seat) is) none)))
    (λ q. ⊎_elim
    (λ ahead. inl (put_other stages e.call (stage_after (stages e.call) e.entry) n q.1 ∙ ahead))
    (λ before. inr before.1)
    (begun n other there))
    (eqb_tells n e.call)

pub whole_way : (k : Kind) (calls : List Call) (w : World) (events : List Event) → IsWhole k calls w events → AreBegun calls w.stages events → IsWay k calls w events
whole_way k calls w [] whole begun = whole.formed
whole_way k calls w (e ∷ events) whole begun =
    let of = whole.owned.0 in (
      record {
        call = of.call;
        known = of.known;
        seat = of.seat;
        within = of.within;
        risen = whole.rising.0;
        moves = (formed_now calls w.stages e events of.call of.known whole.formed).0;
        fits = whole.legal.0;
        turn = in_turn calls w.stages e events of.call of.known of.seat begun;
        full = whole.full.0 of.call of.known;
      },
      whole_way k calls (world_after k w e) events (record {
        legal = whole.legal.1;
        owned = whole.owned.1;
        rising = whole.rising.1;
        formed = formed_later calls w.stages e events whole.formed;
        turns = whole.turns.1;
        full = whole.full.1;
      })
          (begun_later calls w.stages e events of.call of.known of.seat begun whole.turns.0),
    )
