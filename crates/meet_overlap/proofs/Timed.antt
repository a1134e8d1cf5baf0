-- The order of events gives them times, and their times the order.
use Rattle.std.proofs.Common.{◌≡◌, ℕ, ◌≤◌, ◌==◌, true, Bool, false, cond, Option, Some, None, List, [], ◌∷◌, map, filter, refl, sym, ap, subst, ⊎_elim, arith}
use Rattle.std.specs.Prelude.{max, IfSome}
use Rattle.std.proofs.lemmas.Bool.{cases_lt}
use Rattle.meet_tickets.specs.declared.places.Kind.{Kind}
use Rattle.meet_tickets.specs.BySeat.{Moment, beginning, moment_after}
use Rattle.meet_tickets.specs.ByLists.{IsLegal}
use Rattle.meet_overlap.specs.declared.calls.Call.{Call}
use Rattle.meet_overlap.specs.declared.calls.Returned.{Returned}
use Rattle.meet_overlap.specs.declared.calls.Answer.{Answer}
use Rattle.meet_overlap.specs.declared.calls.Stage.TheVariants.{Ahead}
use Rattle.meet_overlap.specs.Calls.{Remains, told_by}
use Rattle.meet_overlap.specs.Explaining.{Event, records_of, dealt, AreOf, IsRising, NoneBefore, AreInTurn, AreFull, IsExplained}
use Rattle.meet_overlap.specs.Ordered.{IsInTime, AreBy, AreInTime, AreOrdered, IsOrderlyExplained}

-- the events at the least times that their order allows
abbrev pub timed : (calls : List Call) → (time : ℕ) → (events : List Event) → AreBy calls events → List Event
timed calls time [] by = []
timed calls time (e ∷ events) by =
    record { call = e.call; time = max time by.0.call.begin; entry = e.entry } ∷ timed calls (max time by.0.call.begin) events by.1

timed_records : (calls : List Call) (time : ℕ) (events : List Event) (by : AreBy calls events) → records_of (timed calls time events by) ≡ records_of events
timed_records calls time [] by = refl
timed_records calls time (e ∷ events) by = ap (λ l. e.entry ∷ l) (timed_records calls (max time by.0.call.begin) events by.1)

timed_dealt : (n : ℕ) (calls : List Call) (time : ℕ) (events : List Event) (by : AreBy calls events) → dealt n (timed calls time events by) ≡ dealt n events
timed_dealt n calls time [] by = refl
timed_dealt n calls time (e ∷ events) by = by_test (e.call == n) (timed_dealt n calls (max time by.0.call.begin) events by.1)
  where
    later : List Event
    later = timed calls (max time by.0.call.begin) events by.1

    now : Event
    now = record { call = e.call; time = max time by.0.call.begin; entry = e.entry }

    by_test : (b : Bool) → dealt n (timed calls (max time by.0.call.begin) events by.1) ≡ dealt n events →
        map (λ (x : Event). x.entry) (cond b (record { call = e.call; time = max time by.0.call.begin; entry = e.entry } ∷ filter (λ x. x.call == n) (timed calls (max time by.0.call.begin) events by.1)) (filter (λ x. x.call == n) (timed calls (max time by.0.call.begin) events by.1)))
        ≡ map (λ (x : Event). x.entry) (cond b (e ∷ filter (λ x. x.call == n) events) (filter (λ x. x.call == n) events))
    by_test true rest = ap (λ l. e.entry ∷ l) rest
    by_test false rest = rest

-- of two times the greater is one of them
greater : (P : ℕ → Type 0) (a b : ℕ) → P a → P b → P (max a b)
greater P a b p q = ⊎_elim
    (λ lt. let e : b ≡ max a b = omega arith in subst P e q)
    (λ le. let e : a ≡ max a b = omega arith in subst P e p)
    (cases_lt a b)

timed_owned : (calls : List Call) (time : ℕ) (events : List Event) (by : AreBy calls events) → AreInTime calls time events by → AreOrdered calls events by → AreOf calls (timed calls time events by)
timed_owned calls time [] by in_time ordered = tt
timed_owned calls time (e ∷ events) by in_time ordered =
    let now = greater (λ t. IsInTime by.0.call t e.entry.deed) time by.0.call.begin in_time.0 ordered.0.0 in (
      record {
        call = by.0.call;
        known = by.0.known;
        seat = by.0.seat;
        within = record { begun = omega arith; ended = now.ended; seen = now.seen };
      },
      timed_owned calls (max time by.0.call.begin) events by.1 (greater (λ t. AreInTime calls t events by.1) time by.0.call.begin in_time.1 ordered.0.1) ordered.1,
    )

timed_rising : (calls : List Call) (time : ℕ) (events : List Event) (by : AreBy calls events) → IsRising time (timed calls time events by)
timed_rising calls time [] by = tt
timed_rising calls time (e ∷ events) by = (omega arith, timed_rising calls (max time by.0.call.begin) events by.1)

timed_before : (calls : List Call) (time n i : ℕ) (events : List Event) (by : AreBy calls events) → NoneBefore n i events → NoneBefore n i (timed calls time events by)
timed_before calls time n i [] by none = tt
timed_before calls time n i (e ∷ events) by none = (none.0, timed_before calls (max time by.0.call.begin) n i events by.1 none.1)

timed_turns : (calls : List Call) (time : ℕ) (events : List Event) (by : AreBy calls events) → AreInTurn events → AreInTurn (timed calls time events by)
timed_turns calls time [] by turns = tt
timed_turns calls time (e ∷ events) by turns =
    (timed_before calls (max time by.0.call.begin) e.call e.entry.seat events by.1 turns.0, timed_turns calls (max time by.0.call.begin) events by.1 turns.1)

timed_full : (k : Kind) (calls : List Call) (time : ℕ) (m : Moment) (events : List Event) (by : AreBy calls events) → AreFull k calls m events → AreFull k calls m (timed calls time events by)
timed_full k calls time m [] by full = tt
timed_full k calls time m (e ∷ events) by full = (full.0, timed_full k calls (max time by.0.call.begin) (moment_after k m e.entry) events by.1 full.1)

ended_at_zero : (o : Option Returned) → IfSome o (λ r. 0 ≤ r.at)
ended_at_zero None = tt
ended_at_zero (Some r) = omega arith

seen_at_zero : (o : Option ℕ) (a : Option Answer) (t : ℕ) → IfSome o (λ w. (a ≡ None) × (t ≤ w)) → IfSome o (λ w. (a ≡ None) × (0 ≤ w))
seen_at_zero None a t h = tt
seen_at_zero (Some w) a t h = (h.0, omega arith)

at_zero : (calls : List Call) (events : List Event) (by : AreBy calls events) (t : ℕ) → AreInTime calls t events by → AreInTime calls 0 events by
at_zero calls [] by t h = tt
at_zero calls (e ∷ events) by t h = (
  record { ended = ended_at_zero by.0.call.returned; seen = λ q. seen_at_zero by.0.call.waits (told_by e.entry.deed) t (h.0.seen q) },
  at_zero calls events by.1 t h.1,
)

first_in_time : (calls : List Call) (events : List Event) (by : AreBy calls events) → AreOrdered calls events by → AreInTime calls 0 events by
first_in_time calls [] by ordered = tt
first_in_time calls (e ∷ events) by ordered = at_zero calls (e ∷ events) by by.0.call.begin ordered.0

-- events in order explain the calls at these times
pub timed_explains : (k : Kind) (calls : List Call) (events : List Event) (o : IsOrderlyExplained k calls events) → IsExplained k calls (timed calls 0 events o.by)
timed_explains k calls events o = record {
  legal = subst (IsLegal k) (sym (timed_records calls 0 events o.by)) o.legal;
  owned = timed_owned calls 0 events o.by (first_in_time calls events o.by o.ordered) o.ordered;
  rising = timed_rising calls 0 events o.by;
  turns = timed_turns calls 0 events o.by o.turns;
  formed = λ n call known. subst (Remains call Ahead) (sym (timed_dealt n calls 0 events o.by)) (o.formed n call known);
  full = timed_full k calls 0 beginning events o.by o.full;
}

abbrev by_of : (calls : List Call) (events : List Event) → AreOf calls events → AreBy calls events
by_of calls [] of = tt
by_of calls (e ∷ events) of = (record { call = of.0.call; known = of.0.known; seat = of.0.seat }, by_of calls events of.1)

earlier_ended : (o : Option Returned) (t u : ℕ) → t ≤ u → IfSome o (λ r. u ≤ r.at) → IfSome o (λ r. t ≤ r.at)
earlier_ended None t u le h = tt
earlier_ended (Some r) t u le h = omega arith

earlier_seen : (o : Option ℕ) (t u : ℕ) (a : Option Answer) → t ≤ u → IfSome o (λ w. (a ≡ None) × (u ≤ w)) → IfSome o (λ w. (a ≡ None) × (t ≤ w))
earlier_seen None t u a le h = tt
earlier_seen (Some w) t u a le h = (h.0, omega (arith, h.1))

in_time_of : (calls : List Call) (events : List Event) (of : AreOf calls events) (t now : ℕ) → t ≤ now → IsRising now events → AreInTime calls t events (by_of calls events of)
in_time_of calls [] of t now le rising = tt
in_time_of calls (e ∷ events) of t now le rising =
    let first = rising.0 in
    let before : t ≤ e.time = omega arith in (
      record {
        ended = earlier_ended of.0.call.returned t e.time before of.0.within.ended;
        seen = λ q. earlier_seen of.0.call.waits t e.time (told_by e.entry.deed) before (of.0.within.seen q);
      },
      in_time_of calls events of.1 t e.time before rising.1,
    )

ordered_of : (calls : List Call) (events : List Event) (of : AreOf calls events) (now : ℕ) → IsRising now events → AreOrdered calls events (by_of calls events of)
ordered_of calls [] of now rising = tt
ordered_of calls (e ∷ events) of now rising =
    let begun = of.0.within.begun in
    (in_time_of calls (e ∷ events) of of.0.call.begin e.time begun (omega arith, rising.1), ordered_of calls events of.1 e.time rising.1)

-- and events that explain the calls at their times are in order
pub explained_orderly : (k : Kind) (calls : List Call) (events : List Event) → IsExplained k calls events → IsOrderlyExplained k calls events
explained_orderly k calls events e = record { legal = e.legal; by = by_of calls events e.owned; ordered = ordered_of calls events e.owned 0 e.rising; turns = e.turns; formed = e.formed; full = e.full }

-- events in order have times at which their records explain the calls
pub orderly_explained : (k : Kind) (calls : List Call) (events : List Event) → IsOrderlyExplained k calls events → (at_times : List Event) × IsExplained k calls at_times × (records_of at_times ≡ records_of events)
orderly_explained k calls events o = (timed calls 0 events o.by, timed_explains k calls events o, timed_records calls 0 events o.by)
