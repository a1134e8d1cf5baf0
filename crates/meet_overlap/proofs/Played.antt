-- A run is a play: its tickets are told by the calls that asked for them.
use Rattle.std.proofs.Common.{◌≡◌, ◌≢◌, ◌⊎◌, ℕ, suc, zero, ◌+◌, ◌<◌, ◌≤◌, Bool, true, false, cond, Option, Some, None, List, [], ◌∷◌, length, map, refl, sym, ap, ◌∙◌, subst, inl, inr, ⊎_elim, arith}
use Rattle.std.specs.Option.{option_map_or}
use Rattle.std.specs.Prelude.{option_map, slice_get, IfSome}
use Rattle.std.proofs.lemmas.Bool.Decides.{eqb_tells}
use Rattle.std.proofs.lemmas.List.{length-map}
use Rattle.meet_tickets.specs.declared.places.Kind.{Kind}
use Rattle.meet_tickets.specs.declared.records.Record.{Record}
use Rattle.meet_tickets.specs.declared.records.Deed.{Deed}
use Rattle.meet_tickets.specs.declared.records.Deed.TheVariants.{GiveWaits, GiveMeets, GiveFails, GiveKept, TakeWaits, TakeMeets, TakeFails, EntryInterrupted}
use Rattle.meet_tickets.specs.BySeat.{Moment, put_at, is_request}
use Rattle.meet_overlap.specs.declared.calls.Answer.{Answer}
use Rattle.meet_overlap.specs.declared.calls.Call.{Call}
use Rattle.meet_overlap.specs.declared.calls.Stage.{Stage}
use Rattle.meet_overlap.specs.declared.calls.Stage.TheVariants.{Ahead, Open, Over}
use Rattle.meet_overlap.specs.declared.calls.Verb.{Verb}
use Rattle.meet_overlap.specs.declared.calls.Verb.TheVariants.{Keep, Give, Take, Interrupt as InterruptSeat}
use Rattle.meet_overlap.specs.Calls.{Begins, Moves, MayStop, told_by, stage_after}
use Rattle.meet_overlap.specs.Explaining.{Event}
use Rattle.meet_overlap.specs.Plays.{own_ticket, play_ticket, Plays, IsPlay}
use Rattle.meet_overlap.specs.Search.{World, start, world_after, ticket_of, request_ticket, Steps, IsRun}
use Rattle.meet_overlap.proofs.Tables.{got_below}
use Rattle.meet_overlap.proofs.Complete.{rename_world}
use Rattle.meet_overlap.proofs.Renamed.{IsNaming, rename_deed, rename_record, rename_stage, rename_seats, told_alike, requests_alike, stage_alike, put_alike, deed_alike, cut_alike, moment_alike}
use Rattle.meet_overlap.proofs.Ways.{step_right, put_same, put_other, never_back, ending_no_request, interrupt_no_request}

-- an event under other names
abbrev pub rename_event : (ℕ → ℕ) → Event → Event
rename_event h e = record { call = e.call; time = e.time; entry = rename_record h e.entry }

-- a first deed is a request's, or an interrupt's
asks : (verb : Verb) (d : Deed) → Begins verb d → (is_request d ≡ true) ⊎ ((j : ℕ) × (verb ≡ InterruptSeat j))
asks (Keep x) (GiveMeets n u) b = inl refl
asks (Keep x) (GiveKept n) b = inl refl
asks (Keep x) (GiveFails n) b = inl refl
asks (Give p x) (GiveMeets n u) b = inl refl
asks (Give p x) (GiveFails n) b = inl refl
asks (Give p x) (GiveWaits n) b = inl refl
asks (Give p x) (EntryInterrupted side) b = inl refl
asks (Take p) (TakeMeets n u) b = inl refl
asks (Take p) TakeFails b = inl refl
asks (Take p) TakeWaits b = inl refl
asks (Take p) (EntryInterrupted side) b = inl refl
asks (InterruptSeat j) d b = inr (j, refl)
asks verb d b = absurd b

-- a step is in its call's form
moves_of : (k : Kind) (calls : List Call) (w : World) (e : Event) (s : Steps k calls w e) → Moves s.call (w.stages e.call) e.entry
moves_of k calls w e s = (step_right k w.moment s.call (w.stages e.call) e.entry s.seat s.ticket s.deed s.tells).0

-- a request is a first deed, with the next ticket
request_first : (call : Call) (stage : Stage) (r : Record Deed) (m : Moment) → Moves call stage r → r.ticket ≡ ticket_of m call.verb stage → is_request r.deed ≡ true →
    (stage ≡ Ahead) × (r.ticket ≡ m.last + 1)
request_first call Ahead r m moves ticket q = (refl, by_verb call.verb moves.0 ticket)
  where
    by_verb : (verb : Verb) → Begins verb r.deed → r.ticket ≡ request_ticket m verb → r.ticket ≡ m.last + 1
    by_verb (Keep x) b t = t
    by_verb (Give p x) b t = t
    by_verb (Take p) b t = t
    by_verb (InterruptSeat j) b t = absurd (interrupt_no_request j r.deed b q)
request_first call (Open t) r m moves ticket q = absurd (ending_no_request call.verb r.deed moves.1 q)
request_first call Over r m moves ticket q = absurd moves

-- its ticket under other names
own_named : (h : ℕ → ℕ) → IsNaming h → (m : Moment) (n t : ℕ) (verb : Verb) (d : Deed) → Begins verb d → t ≡ request_ticket m verb → (is_request d ≡ true → h t ≡ n + 1) → h t ≡ own_ticket (rename_seats h m.seats) n verb
own_named h naming m n t (InterruptSeat j) d b ticket named = ap h ticket ∙ sym (cut_alike h naming m.seats j)
own_named h naming m n t (Keep x) d b ticket named = ⊎_elim (λ q. named q) (λ i. let no = i.1 in absurd (cc)) (asks (Keep x) d b)
own_named h naming m n t (Give p x) d b ticket named = ⊎_elim (λ q. named q) (λ i. let no = i.1 in absurd (cc)) (asks (Give p x) d b)
own_named h naming m n t (Take p) d b ticket named = ⊎_elim (λ q. named q) (λ i. let no = i.1 in absurd (cc)) (asks (Take p) d b)

play_named : (h : ℕ → ℕ) → IsNaming h → (m : Moment) (n : ℕ) (call : Call) (stage : Stage) (r : Record Deed) → Moves call stage r → r.ticket ≡ ticket_of m call.verb stage →
    (is_request r.deed ≡ true → h r.ticket ≡ n + 1) → h r.ticket ≡ play_ticket (rename_seats h m.seats) n call.verb (rename_stage h stage)
play_named h naming m n call Ahead r moves ticket named = own_named h naming m n r.ticket call.verb r.deed moves.0 ticket named
play_named h naming m n call (Open t) r moves ticket named = ap h ticket
play_named h naming m n call Over r moves ticket named = absurd moves

seen_alike : (o : Option ℕ) (t : ℕ) (a b : Option Answer) → a ≡ b → IfSome o (λ w. (a ≡ None) × (t ≤ w)) → IfSome o (λ w. (b ≡ None) × (t ≤ w))
seen_alike None t a b e h = tt
seen_alike (Some w) t a b e h = (sym e ∙ h.0, h.1)

-- a step is one of a play under other names
step_plays : (h : ℕ → ℕ) → IsNaming h → (k : Kind) (calls : List Call) (w : World) (e : Event) → Steps k calls w e → (is_request e.entry.deed ≡ true → h e.entry.ticket ≡ e.call + 1) →
    Plays k calls (rename_world h w.time w) (rename_event h e)
step_plays h naming k calls w e s named = record {
  call = s.call;
  known = s.known;
  seat = s.seat;
  ticket = play_named h naming w.moment e.call s.call (w.stages e.call) e.entry (moves_of k calls w e s) s.ticket named;
  deed = deed_alike h naming k w.moment.seats s.call (w.stages e.call) ∙ ap (option_map (rename_deed h)) s.deed;
  time = s.time;
  tells = subst (λ o. IfSome o (λ a. IfSome s.call.returned (λ r. r.answer ≡ a))) (sym (told_alike h e.entry.deed)) s.tells;
  within = record {
    begun = s.within.begun;
    ended = s.within.ended;
    seen = λ q. seen_alike s.call.waits e.time (told_by e.entry.deed) (told_by (rename_deed h e.entry.deed)) (sym (told_alike h e.entry.deed)) (s.within.seen (sym (requests_alike h e.entry.deed) ∙ q));
  };
  turn = λ m mine later lt own there same. ap (rename_stage h) (s.turn m mine later lt own there same);
}

-- and leaves the same under the other names
step_leaves : (h : ℕ → ℕ) → IsNaming h → (k : Kind) (w : World) (e : Event) → world_after k (rename_world h w.time w) (rename_event h e) ≡ rename_world h e.time (world_after k w e)
step_leaves h naming k w e =
    parts
    (moment_alike h naming k w.moment e.entry)
    (ap (put_at (λ n. rename_stage h (w.stages n)) e.call) (stage_alike h (w.stages e.call) e.entry)
    ∙ put_alike h (rename_stage h) w.stages e.call (stage_after (w.stages e.call) e.entry))
  where
    parts : {a b : Moment} {f g : ℕ → Stage} → a ≡ b → f ≡ g → Path World (record { moment = a; stages = f; time = e.time }) (record { moment = b; stages = g; time = e.time })
    parts {a} {b} {f} {g} p q =
        let one : Path World (record { moment = a; stages = f; time = e.time }) (record { moment = b; stages = f; time = e.time }) = ap (λ x. record { moment = x; stages = f; time = e.time }) p in
        let two : Path World (record { moment = b; stages = f; time = e.time }) (record { moment = b; stages = g; time = e.time }) = ap (λ x. record { moment = b; stages = x; time = e.time }) q in
        one ∙ two

stops_renamed : (h : ℕ → ℕ) (call : Call) (s : Stage) → MayStop call s → MayStop call (rename_stage h s)
stops_renamed h call Ahead m = m
stops_renamed h call (Open t) m = m
stops_renamed h call Over m = tt

-- the calls that make requests, in their order
abbrev pub callers : List Event → List ℕ
callers [] = []
callers (e ∷ events) = cond (is_request e.entry.deed) (e.call ∷ callers events) (callers events)

-- the names of the numbers above this one are one more than these calls
abbrev AreCalled : (ℕ → ℕ) → ℕ → List ℕ → Type 0
AreCalled h n [] = Unit {0}
AreCalled h n (c ∷ cs) = (h (n + 1) ≡ c + 1) × AreCalled h (n + 1) cs

called_later : (h : ℕ → ℕ) (last : ℕ) (b : Bool) (c u : ℕ) (cs : List ℕ) → (b ≡ true → u ≡ last + 1) → AreCalled h last (cond b (c ∷ cs) cs) → AreCalled h (cond b u last) cs
called_later h last true c u cs next called = subst (λ n. AreCalled h n cs) (sym (next refl)) called.1
called_later h last false c u cs next called = called

called_now : (h : ℕ → ℕ) (last : ℕ) (b : Bool) (c : ℕ) (cs : List ℕ) → AreCalled h last (cond b (c ∷ cs) cs) → b ≡ true → h (last + 1) ≡ c + 1
called_now h last true c cs called q = called.0
called_now h last false c cs called q = absurd (cc)

run_played : (h : ℕ → ℕ) → IsNaming h → (k : Kind) (calls : List Call) (w : World) (run : List Event) → IsRun k calls w run → AreCalled h w.moment.last (callers run) →
    IsPlay k calls (rename_world h w.time w) (map (rename_event h) run)
run_played h naming k calls w [] is called = λ n call known. stops_renamed h call (w.stages n) (is n call known)
run_played h naming k calls w (e ∷ run) is called =
    let s = is.0 in
    let first : is_request e.entry.deed ≡ true → (w.stages e.call ≡ Ahead) × (e.entry.ticket ≡ w.moment.last + 1) =
    request_first s.call (w.stages e.call) e.entry w.moment (moves_of k calls w e s) s.ticket in
    let rest = run_played h naming k calls (world_after k w e) run is.1 (called_later h w.moment.last (is_request e.entry.deed) e.call e.entry.ticket (callers run) (λ q. (first q).1) called) in (
      step_plays h naming k calls w e s (λ q. ap h (first q).1 ∙ called_now h w.moment.last (is_request e.entry.deed) e.call (callers run) called q),
      subst (λ x. IsPlay k calls x (map (rename_event h) run)) (sym (step_leaves h naming k w e)) rest,
    )

later_ahead : (stages : ℕ → Stage) (key : ℕ) (r : Record Deed) (c : ℕ) → put_at stages key (stage_after (stages key) r) c ≡ Ahead → (c ≢ key) × (stages c ≡ Ahead)
later_ahead stages key r c e = ⊎_elim
    (λ q.
    let same : put_at stages key (stage_after (stages key) r) c ≡ stage_after (stages key) r = ap (put_at stages key (stage_after (stages key) r)) q.1 ∙ put_same stages key (stage_after (stages key) r) in
    absurd (never_back (stages key) r (sym same ∙ e)))
    (λ q. (q.1, sym (put_other stages key (stage_after (stages key) r) c q.1) ∙ e))
    (eqb_tells c key)

-- what a call that makes a request has made before: nothing
record IsFresh (calls : List Call) (stages : ℕ → Stage) (c : ℕ) : Type 0 where
  below : c < length calls
  ahead : stages c ≡ Ahead

fresh_callers : (k : Kind) (calls : List Call) (w : World) (run : List Event) → IsRun k calls w run → (i c : ℕ) → slice_get (callers run) i ≡ Some c → IsFresh calls w.stages c
fresh_callers k calls w [] is i c at = absurd (cc)
fresh_callers k calls w (e ∷ run) is i c at =
    by_request
    (λ i at.
    let later = fresh_callers k calls (world_after k w e) run is.1 i c at in
    record { below = later.below; ahead = (later_ahead w.stages e.call e.entry c later.ahead).1 })
    (is_request e.entry.deed) refl i at
  where
    by_request : ((i : ℕ) → slice_get (callers run) i ≡ Some c → IsFresh calls w.stages c) → (b : Bool) → is_request e.entry.deed ≡ b → (i : ℕ) →
        slice_get (cond b (e.call ∷ callers run) (callers run)) i ≡ Some c → IsFresh calls w.stages c
    by_request rest true q zero at =
        let same : e.call ≡ c = cc in
        let first = request_first is.0.call (w.stages e.call) e.entry w.moment (moves_of k calls w e is.0) is.0.ticket q in
        record { below = subst (λ x. x < length calls) same (got_below calls e.call is.0.call is.0.known); ahead = subst (λ x. w.stages x ≡ Ahead) same first.0 }
    by_request rest true q (suc i) at = rest i at
    by_request rest false q i at = rest i at

-- each call makes one request
one_request : (k : Kind) (calls : List Call) (w : World) (run : List Event) → IsRun k calls w run → (i j c : ℕ) → slice_get (callers run) i ≡ Some c → slice_get (callers run) j ≡ Some c → i ≡ j
one_request k calls w [] is i j c at there = absurd (cc)
one_request k calls w (e ∷ run) is i j c at there = by_request (λ i j at there. one_request k calls (world_after k w e) run is.1 i j c at there) (is_request e.entry.deed) i j at there
  where
    not_again : (i : ℕ) → e.call ≡ c → slice_get (callers run) i ≡ Some c → ⊥
    not_again i same at =
        let later = fresh_callers k calls (world_after k w e) run is.1 i c at in
        (later_ahead w.stages e.call e.entry c later.ahead).0 (sym same)

    by_request : ((i j : ℕ) → slice_get (callers run) i ≡ Some c → slice_get (callers run) j ≡ Some c → i ≡ j) → (b : Bool) (i j : ℕ) →
        slice_get (cond b (e.call ∷ callers run) (callers run)) i ≡ Some c → slice_get (cond b (e.call ∷ callers run) (callers run)) j ≡ Some c → i ≡ j
    by_request rest true zero zero at there = refl
    by_request rest true zero (suc j) at there = absurd (not_again j (cc) there)
    by_request rest true (suc i) zero at there = absurd (not_again i (cc) at)
    by_request rest true (suc i) (suc j) at there = ap suc (rest i j at there)
    by_request rest false i j at there = rest i j at there

-- the name of each number: one more than the call that asked for it, and past the last of them one that no call has
caller_name : ℕ → List ℕ → ℕ → ℕ
caller_name count cs zero = 0
caller_name count cs (suc i) = option_map_or (λ c. c + 1) (slice_get cs i) (count + suc i)

-- calls below a count, of which none is twice
record AreDistinct (count : ℕ) (cs : List ℕ) : Type 0 where
  below : (i c : ℕ) → slice_get cs i ≡ Some c → c < count
  once : (i j c : ℕ) → slice_get cs i ≡ Some c → slice_get cs j ≡ Some c → i ≡ j

callers_own : (count : ℕ) (cs : List ℕ) → AreDistinct count cs → IsNaming (caller_name count cs)
unfolding caller_name
callers_own count cs distinct = record { zero_names_none = refl; own = own }
  where
    above : (i : ℕ) (o : Option ℕ) → 0 ≡ option_map_or (λ c. c + 1) o (count + suc i) → ⊥
    above i None e = omega arith
    above i (Some c) e = omega arith

    apart : (i j : ℕ) (o p : Option ℕ) → slice_get cs i ≡ o → slice_get cs j ≡ p → option_map_or (λ c. c + 1) o (count + suc i) ≡ option_map_or (λ c. c + 1) p (count + suc j) → i ≡ j
    apart i j None None a b e = omega arith
    apart i j None (Some d) a b e = let less = distinct.below j d b in absurd (omega arith)
    apart i j (Some c) None a b e = let less = distinct.below i c a in absurd (omega arith)
    apart i j (Some c) (Some d) a b e = let same : c ≡ d = omega arith in distinct.once i j c a (b ∙ ap Some (sym same))

    own : (a b : ℕ) → caller_name count cs a ≡ caller_name count cs b → a ≡ b
    own zero zero e = refl
    own zero (suc j) e = absurd (above j (slice_get cs j) e)
    own (suc i) zero e = absurd (above i (slice_get cs i) (sym e))
    own (suc i) (suc j) e = ap suc (apart i j (slice_get cs i) (slice_get cs j) refl refl e)

called_from : (h : ℕ → ℕ) (n : ℕ) (cs : List ℕ) → ((i c : ℕ) → slice_get cs i ≡ Some c → h (n + suc i) ≡ c + 1) → AreCalled h n cs
called_from h n [] f = tt
called_from h n (c ∷ cs) f = (
  f 0 c refl,
  called_from h (n + 1) cs (λ i d at. let e : (n + 1) + suc i ≡ n + suc (suc i) = omega arith in ap h e ∙ f (suc i) d at),
)

-- where there is a run from the start there is a play
pub run_play : (k : Kind) (calls : List Call) (run : List Event) → IsRun k calls start run → (play : List Event) × IsPlay k calls start play × (length play ≡ length run)
unfolding caller_name
run_play k calls run is =
    let cs = callers run in
    let count = length calls in
    let distinct : AreDistinct count cs = record {
      below = λ i c at. (fresh_callers k calls start run is i c at).below;
      once = one_request k calls start run is;
    } in
    let h = caller_name count cs in
    let named : (i c : ℕ) → slice_get cs i ≡ Some c → h (0 + suc i) ≡ c + 1 =
    λ i c at. let e : 0 + suc i ≡ suc i = omega arith in ap (caller_name count cs) e ∙ ap (λ o. option_map_or (λ x. x + 1) o (count + suc i)) at in
    (map (rename_event h) run, run_played h (callers_own count cs distinct) k calls start run is (called_from h 0 cs named), length-map run (rename_event h))
