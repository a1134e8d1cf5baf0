-- Worlds from which nothing leads on.
use Rattle.std.proofs.Common.{◌≡◌, ◌≢◌, ℕ, ◌+◌, ◌<◌, ◌≤◌, Some, List, [], ◌∷◌, ◌++◌, length, refl, sym, ap, ◌∙◌, subst, ⊎_elim, inl, inr, Bool, true, false, cond, arith}
use Rattle.std.specs.Prelude.{max, slice_get, slice_index_or, option_map, Option, None, IfSome, IsSomeAnd}
use Rattle.std.specs.Option.{option_map_or}
use Rattle.std.proofs.lemmas.Bool.{cases_lt}
use Rattle.std.proofs.lemmas.List.{get_or_default}
use Rattle.std.proofs.lemmas.List.Elements.{All-push}
use Rattle.std.proofs.lemmas.Bool.Decides.{eqb_tells}
use Rattle.meet_tickets.specs.declared.places.Kind.{Kind}
use Rattle.meet_tickets.specs.declared.records.Record.{Record}
use Rattle.meet_tickets.specs.declared.records.Deed.{Deed}
use Rattle.meet_tickets.specs.declared.lines.Entry.{Entry}
use Rattle.meet_tickets.specs.declared.lines.Hold.{Hold}
use Rattle.meet_tickets.specs.declared.lines.Hold.TheVariants.{Free, Waiting, Handed, Served, Cut}
use Rattle.meet_tickets.specs.declared.places.Side.TheVariants.{Giver, Taker}
use Rattle.meet_tickets.specs.declared.records.Deed.TheVariants.{GiveWaits, GiveMeets, GiveFails, GiveKept, TakeWaits, TakeMeets, TakeFails, EntryInterrupted}
use Rattle.meet_tickets.specs.Meeting.{end_of, partner}
use Rattle.meet_tickets.specs.BySeat.{Seats, put_at, seats_after, is_request}
use Rattle.meet_overlap.specs.declared.calls.Answer.{Answer}
use Rattle.meet_overlap.specs.declared.calls.Patience.{Patience}
use Rattle.meet_overlap.specs.declared.calls.Patience.TheVariants.{Now, Forever, Timed}
use Rattle.meet_overlap.specs.declared.calls.Returned.{Returned}
use Rattle.meet_overlap.specs.declared.calls.Verb.{Verb}
use Rattle.meet_overlap.specs.declared.calls.Verb.TheVariants.{Keep, Give, Take, Interrupt as InterruptSeat}
use Rattle.meet_overlap.specs.declared.calls.Call.{Call}
use Rattle.meet_overlap.specs.declared.calls.Stage.{Stage}
use Rattle.meet_overlap.specs.declared.calls.Stage.TheVariants.{Ahead, Open, Over}
use Rattle.meet_overlap.specs.Calls.{Tells, IsInTurn, IsWithin, MayStop, told_by, stage_after}
use Rattle.meet_overlap.specs.Explaining.{Event, Explains, records_of}
use Rattle.meet_overlap.specs.Known.{LeadsOn, IsBarren, AreBarren, HasAlike, HasNoPlay, HasNonePlayed, IsAlike, IsOverdue, IsRunTo, IsRunThere, IsNoted, IsBound, IsDue, IsPatient, AreLeast}
use Rattle.meet_overlap.specs.declared.due.Due.{Due}
use Rattle.meet_overlap.specs.declared.world.Reached.{Reached}
use Rattle.meet_overlap.specs.Places.{hold_at, flag_at, stage_in, world_of}
use Rattle.meet_overlap.proofs.Renamed.{same_seats}
use Rattle.meet_overlap.specs.Plays.{Plays, IsPlay}
use Rattle.meet_overlap.specs.Search.{World, start, world_after, may_keep, giving, taking, giving_alone, taking_alone, unless_open, request_of, deed_of, ticket_of, Steps, IsRun, MayAllStop}
use Rattle.meet_overlap.proofs.Tables.{got_below}
use Rattle.meet_overlap.proofs.Complete.{none_explains, run_explains}
use Rattle.meet_overlap.proofs.Played.{run_play}
use Rattle.meet_overlap.proofs.Ways.{put_other}

-- a play from one world is one from another that is the same but for the last ticket
play_alike : (k : Kind) (calls : List Call) (run : List Event) (w v : World) → IsAlike w v → IsPlay k calls v run → IsPlay k calls w run
play_alike k calls [] w v alike is = subst (MayAllStop calls) (sym alike.stages) is
play_alike k calls (e ∷ run) w v alike is =
    let p = is.0 in
    let seats : Plays k calls (record { moment = record { last = w.moment.last; seats = v.moment.seats }; stages = v.stages; time = v.time }) e = record {
      call = p.call;
      known = p.known;
      seat = p.seat;
      ticket = p.ticket;
      deed = p.deed;
      time = p.time;
      tells = p.tells;
      within = p.within;
      turn = p.turn;
    } in (
      subst (λ x. Plays k calls x e) (same w v alike) seats,
      play_alike k calls run (world_after k w e) (world_after k v e) (record {
        seats = ap (λ s. seats_after k s e.entry.seat e.entry.ticket e.entry.deed) alike.seats;
        stages = ap (λ f. put_at f e.call (stage_after (f e.call) e.entry)) alike.stages;
        time = refl;
      }) is.1,
    )
  where
    same : (w v : World) → IsAlike w v → Path World (record { moment = record { last = w.moment.last; seats = v.moment.seats }; stages = v.stages; time = v.time }) w
    same w v alike =
        let one : Path World (record { moment = record { last = w.moment.last; seats = v.moment.seats }; stages = v.stages; time = v.time }) (record { moment = w.moment; stages = v.stages; time = v.time }) =
        ap (λ s. record { moment = record { last = w.moment.last; seats = s }; stages = v.stages; time = v.time }) (sym alike.seats) in
        let two : Path World (record { moment = w.moment; stages = v.stages; time = v.time }) (record { moment = w.moment; stages = w.stages; time = v.time }) =
        ap (λ f. record { moment = w.moment; stages = f; time = v.time }) (sym alike.stages) in
        let three : Path World (record { moment = w.moment; stages = w.stages; time = v.time }) w =
        ap (λ t. record { moment = w.moment; stages = w.stages; time = t }) (sym alike.time) in
        one ∙ two ∙ three

-- what was seen to be barren is so again
pub barren_alike : (k : Kind) (calls : List Call) (w v : World) → IsAlike w v → IsBarren k calls w → IsBarren k calls v
barren_alike k calls w v alike none run is = none run (play_alike k calls run w v alike is)

never_ended : (o : Option Returned) (at : ℕ) → o ≡ None → IsSomeAnd o (λ r. r.at ≡ at) → ⊥
never_ended None at none ended = ended
never_ended (Some r) at none ended = absurd (cc)

before_end : (o : Option Returned) (at time : ℕ) → IsSomeAnd o (λ r. r.at ≡ at) → IfSome o (λ r. time ≤ r.at) → time ≤ at
before_end None at time ended within = absurd ended
before_end (Some r) at time ended within = omega arith

before_seen : (o : Option ℕ) (at time : ℕ) (told : Option Answer) → o ≡ Some at → IfSome o (λ w. (told ≡ None) × (time ≤ w)) → time ≤ at
before_seen None at time told is within = absurd (cc)
before_seen (Some w) at time told is within = let same : w ≡ at = cc in let le = within.1 in omega arith

-- what a call that is no interrupt begins with is a request
requested : (k : Kind) (s : Seats ℕ) (c : Call) (d : Deed) → IsPatient c.verb → deed_of k s c Ahead ≡ Some d → is_request d ≡ true
requested k s c d patient made = by_verb c.verb patient made
  where
    free : (h : Hold ℕ) (o : Option Deed) → unless_open h o ≡ Some d → o ≡ Some d
    free Free o is = is
    free (Waiting t) o is = absurd (cc)
    free (Handed t u m) o is = absurd (cc)
    free (Served t u m) o is = absurd (cc)
    free (Cut t m) o is = absurd (cc)

    same : (e : Deed) → is_request e ≡ true → Some e ≡ Some d → is_request d ≡ true
    same e request is = let q : e ≡ d = cc in subst (λ x. is_request x ≡ true) q request

    gives : (m : ℕ) (item : Option ℕ) (t : ℕ) → option_map_or (λ _. None) item (Some (GiveMeets m t)) ≡ Some d → is_request d ≡ true
    gives m None t is = same (GiveMeets m t) refl is
    gives m (Some i) t is = absurd (cc)

    takes : (item : Option ℕ) (t : ℕ) → option_map (λ m. TakeMeets m t) item ≡ Some d → is_request d ≡ true
    takes None t is = absurd (cc)
    takes (Some i) t is = same (TakeMeets i t) refl is

    keeps_alone : (m : ℕ) (b : Bool) → cond b (Some (GiveKept m)) (Some (GiveFails m)) ≡ Some d → is_request d ≡ true
    keeps_alone m true is = same (GiveKept m) refl is
    keeps_alone m false is = same (GiveFails m) refl is

    flagged : (b : Bool) (one other : Deed) → is_request one ≡ true → is_request other ≡ true → Some (cond b one other) ≡ Some d → is_request d ≡ true
    flagged true one other p q is = same one p is
    flagged false one other p q is = same other q is

    gives_alone : (v : Verb) → giving_alone k s.line (s.flags c.seat) v ≡ Some d → is_request d ≡ true
    gives_alone (Keep m) is = keeps_alone m (may_keep k s.line) is
    gives_alone (Give Now m) is = same (GiveFails m) refl is
    gives_alone (Give Forever m) is = flagged (s.flags c.seat) (EntryInterrupted Giver) (GiveWaits m) refl refl is
    gives_alone (Give Timed m) is = flagged (s.flags c.seat) (EntryInterrupted Giver) (GiveWaits m) refl refl is
    gives_alone (Take p) is = absurd (cc)
    gives_alone (InterruptSeat j) is = absurd (cc)

    takes_alone : (p : Patience) → taking_alone (s.flags c.seat) p ≡ Some d → is_request d ≡ true
    takes_alone Now is = same TakeFails refl is
    takes_alone Forever is = flagged (s.flags c.seat) (EntryInterrupted Taker) TakeWaits refl refl is
    takes_alone Timed is = flagged (s.flags c.seat) (EntryInterrupted Taker) TakeWaits refl refl is

    giver : (m : ℕ) (v : Verb) (found : Option (Entry ℕ)) → option_map_or (giving m) found (giving_alone k s.line (s.flags c.seat) v) ≡ Some d → is_request d ≡ true
    giver m v None is = gives_alone v is
    giver m v (Some e) is = gives m e.item e.ticket is

    taker : (p : Patience) (found : Option (Entry ℕ)) → option_map_or taking found (taking_alone (s.flags c.seat) p) ≡ Some d → is_request d ≡ true
    taker p None is = takes_alone p is
    taker p (Some e) is = takes e.item e.ticket is

    by_verb : (v : Verb) → IsPatient v → request_of k s c.seat v ≡ Some d → is_request d ≡ true
    by_verb (Keep m) patient is = giver m (Keep m) (partner (end_of k.order) s.line Giver) (free (s.holds c.seat) _ is)
    by_verb (Give p m) patient is = giver m (Give p m) (partner (end_of k.order) s.line Giver) (free (s.holds c.seat) _ is)
    by_verb (Take p) patient is = taker p (partner (end_of k.order) s.line Taker) (free (s.holds c.seat) _ is)
    by_verb (InterruptSeat j) patient is = absurd patient

-- a call that has to move by a time, and doesn't move, has to do so still
due_stays : (k : Kind) (calls : List Call) (w : World) (e : Event) (number at : ℕ) → IsDue calls w number at → number ≢ e.call → IsDue calls (world_after k w e) number at
due_stays k calls w e number at due other = record {
  call = due.call;
  known = due.known;
  bound = subst (λ s. IsBound due.call s at) (sym (put_other w.stages e.call (stage_after (w.stages e.call) e.entry) number other)) due.bound;
}

-- a call that should have moved before now doesn't end as it did
overdue_stays : (k : Kind) (calls : List Call) (run : List Event) (w : World) → IsOverdue calls w → IsPlay k calls w run → ⊥
overdue_stays k calls [] w late is = by_stage (w.stages late.number) late.due.bound (is late.number late.due.call late.due.known)
  where
    by_stage : (s : Stage) → IsBound late.due.call s late.at → MayStop late.due.call s → ⊥
    by_stage Ahead (inl ended) stop = never_ended late.due.call.returned late.at stop.0 ended
    by_stage Ahead (inr seen) stop = let never = stop.1 in let waits = seen.1 in absurd (cc)
    by_stage (Open t) ended stop = never_ended late.due.call.returned late.at stop ended
    by_stage Over bound stop = bound
overdue_stays k calls (e ∷ run) w late is = ⊎_elim
    (λ q. absurd (here q.1))
    (λ q. overdue_stays k calls run (world_after k w e) (record {
      number = late.number;
      at = late.at;
      due = due_stays k calls w e late.number late.at late.due q.1;
      passed = let time = is.0.time in let passed = late.passed in omega arith;
    }) is.1)
    (eqb_tells late.number e.call)
  where
    p : Plays k calls w e
    p = is.0

    in_time : e.time ≤ late.at → ⊥
    in_time le = let time = p.time in let passed = late.passed in omega arith

    by_stage : (s : Stage) → IsBound p.call s late.at → deed_of k w.moment.seats p.call s ≡ Some e.entry.deed → ⊥
    by_stage Ahead (inl ended) made = in_time (before_end p.call.returned late.at e.time ended p.within.ended)
    by_stage Ahead (inr seen) made = in_time (before_seen p.call.waits late.at e.time (told_by e.entry.deed) seen.1 (p.within.seen (requested k w.moment.seats p.call e.entry.deed seen.0 made)))
    by_stage (Open t) ended made = in_time (before_end p.call.returned late.at e.time ended p.within.ended)
    by_stage Over bound made = bound

    here : late.number ≡ e.call → ⊥
    here same =
        let known : slice_get calls e.call ≡ Some late.due.call = subst (λ n. slice_get calls n ≡ Some late.due.call) same late.due.known in
        let mine : p.call ≡ late.due.call = let theirs = p.known in cc in
        let bound : IsBound p.call (w.stages e.call) late.at = subst (λ c. IsBound c (w.stages e.call) late.at) (sym mine) (subst (λ n. IsBound late.due.call (w.stages n) late.at) same late.due.bound) in
        by_stage (w.stages e.call) bound p.deed

pub overdue_barren : (k : Kind) (calls : List Call) (w : World) → IsOverdue calls w → IsBarren k calls w
overdue_barren k calls w late run is = overdue_stays k calls run w late is

-- where the calls may not be left and none begins a play, nothing leads on
pub none_played : (k : Kind) (calls : List Call) (w : World) → (MayAllStop calls w.stages → ⊥) → HasNonePlayed k calls w (length calls) → IsBarren k calls w
none_played k calls w stays none [] is = stays is
none_played k calls w stays none (e ∷ run) is = none e run (got_below calls e.call is.0.call is.0.known) is

-- one call more begins none: it makes no event
pub none_plays : (k : Kind) (calls : List Call) (w : World) (n : ℕ) → HasNonePlayed k calls w n → HasNoPlay k calls w n → HasNonePlayed k calls w (n + 1)
none_plays k calls w n before here e run below is = ⊎_elim
    (λ lt. before e run lt is)
    (λ le. let at : e.call ≡ n = omega arith in here e at is.0)
    (cases_lt e.call n)

-- or what it leaves is barren
pub none_beyond : (k : Kind) (calls : List Call) (w then : World) (n : ℕ) → HasNonePlayed k calls w n → LeadsOn k calls w n then → IsBarren k calls then → HasNonePlayed k calls w (n + 1)
none_beyond k calls w then n before leads none e run below is = ⊎_elim
    (λ lt. before e run lt is)
    (λ le.
    let at : e.call ≡ n = omega arith in
    let same = leads.only.only e at is.0 in
    let there : IsPlay k calls (world_after k w leads.event) run = subst (λ x. IsPlay k calls (world_after k w x) run) same is.1 in
    none run (subst (λ x. IsPlay k calls x run) (sym leads.leaves) there))
    (cases_lt e.call n)

-- where nothing leads on from the start nothing explains
pub barren_explains : (k : Kind) (calls : List Call) → IsBarren k calls start → (history : List (Record Deed)) → Explains k calls history → ⊥
barren_explains k calls none = none_explains k calls (λ run is. let play = run_play k calls run is in none play.0 play.1)

-- one step more
run_to_more : (k : Kind) (calls : List Call) (run : List Event) (w v : World) (e : Event) → IsRunTo k calls w run v → Steps k calls v e → IsRunTo k calls w (run ++ e ∷ []) (world_after k v e)
run_to_more k calls [] w v e is s = (subst (λ x. Steps k calls x e) (sym is) s, ap (λ x. world_after k x e) is)
run_to_more k calls (f ∷ run) w v e is s = (is.0, run_to_more k calls run (world_after k w f) v e is.1 s)

records_more : (run : List Event) (e : Event) → records_of (run ++ e ∷ []) ≡ records_of run ++ e.entry ∷ []
records_more [] e = refl
records_more (f ∷ run) e = ap (λ l. f.entry ∷ l) (records_more run e)

run_to_end : (k : Kind) (calls : List Call) (run : List Event) (w v : World) → IsRunTo k calls w run v → MayAllStop calls v.stages → IsRun k calls w run
run_to_end k calls [] w v is stops = subst (λ (x : World). MayAllStop calls x.stages) (sym is) stops
run_to_end k calls (e ∷ run) w v is stops = (is.0, run_to_end k calls run (world_after k w e) v is.1 stops)

-- a run that may end explains
pub there_explains : (k : Kind) (calls : List Call) (history : List (Record Deed)) (v : World) → IsRunThere k calls start history v → MayAllStop calls v.stages → Explains k calls history
there_explains k calls history v there stops = record { events = there.run; records = there.records; explained = run_explains k calls there.run (run_to_end k calls there.run start v there.is stops) }

-- one event more is noted
pub there_more : (k : Kind) (calls : List Call) (w v x : World) (old new : List (Record Deed)) → IsRunThere k calls w old v → IsNoted k calls v x old new → IsRunThere k calls w new x
there_more k calls w v x old new there n = record {
  run = there.run ++ n.event ∷ [];
  is = subst (IsRunTo k calls w (there.run ++ n.event ∷ [])) (sym n.leaves) (run_to_more k calls there.run w v n.event there.is n.steps);
  records = records_more there.run n.event ∙ ap (λ l. l ++ n.event.entry ∷ []) there.records ∙ sym n.noted;
}

-- a step of the search is noted
pub step_noted : (k : Kind) (calls : List Call) (w : World) (n : ℕ) (call : Call) → slice_get calls n ≡ Some call → (d : Deed) (t time : ℕ) (then : World) (old new : List (Record Deed)) →
    deed_of k w.moment.seats call (w.stages n) ≡ Some d → t ≡ ticket_of w.moment call.verb (w.stages n) → time ≡ max w.time call.begin → Tells call d → IsWithin call time d → IsInTurn calls w.stages n →
    then ≡ world_after k w (record { call = n; time = time; entry = record { seat = call.seat; ticket = t; deed = d } }) →
    new ≡ old ++ record { seat = call.seat; ticket = t; deed = d } ∷ [] → IsNoted k calls w then old new
step_noted k calls w n call known d t time then old new is ticket at tells within turn leaves noted = record {
  event = record { call = n; time = time; entry = record { seat = call.seat; ticket = t; deed = d } };
  steps = record { call = call; known = known; seat = refl; ticket = ticket; deed = is; time = at; tells = tells; within = within; turn = turn };
  leaves = leaves;
  noted = noted;
}

-- what is seen again leads nowhere
pub known_barren : (k : Kind) (calls : List Call) (seen : List Reached) (r : Reached) → AreBarren k calls seen → HasAlike seen (world_of r) → IsBarren k calls (world_of r)
known_barren k calls seen r all known = barren_alike k calls (world_of (slice_index_or seen known.0 r)) (world_of r) (known.2 r) (all known.0 r known.1)

-- worlds of the same parts are alike
pub alike_parts : (a b : Reached) → a.time ≡ b.time → a.window.first ≡ b.window.first → a.window.stages.items ≡ b.window.stages.items →
    a.place.line ≡ b.place.line → a.place.holds.items ≡ b.place.holds.items → a.place.flags.items ≡ b.place.flags.items → IsAlike (world_of a) (world_of b)
alike_parts a b time first stages line holds flags = record {
  seats =
      same_seats a.place.line b.place.line (hold_at a.place.holds.items) (hold_at b.place.holds.items) (flag_at a.place.flags.items) line (ap hold_at holds)
      ∙ ap (λ f. record { line = b.place.line; holds = hold_at b.place.holds.items; flags = f }) (ap flag_at flags);
  stages = ap (λ n. stage_in n a.window.stages.items) first ∙ ap (stage_in b.window.first) stages;
  time = time;
}

-- one more that leads nowhere
pub barren_push : (k : Kind) (calls : List Call) (seen more : List Reached) (r : Reached) → more ≡ seen ++ r ∷ [] → AreBarren k calls seen → IsBarren k calls (world_of r) → AreBarren k calls more
barren_push k calls seen more r is all none = subst (AreBarren k calls) (sym is) (All-push (λ x. IsBarren k calls (world_of x)) seen r all none)

-- where a call has to move before now, it is overdue
pub due_overdue : (calls : List Call) (w : World) (number at : ℕ) → IsDue calls w number at → at < w.time → IsOverdue calls w
due_overdue calls w number at due late = record { number = number; at = at; due = due; passed = late }

-- where all calls from a number on begin only after a call before them has to move, none of them begins a play
pub none_late : (k : Kind) (calls : List Call) (begins : List ℕ) (w : World) (n number at : ℕ) → AreLeast calls begins → IsDue calls w number at → number < n → at < slice_index_or begins n 0 →
    HasNonePlayed k calls w n → HasNonePlayed k calls w (length calls)
none_late k calls begins w n number at least due below late none e run under is = ⊎_elim
    (λ lt. none e run lt is)
    (λ le.
    let p = is.0 in
    let begin = least n e.call p.call le p.known in
    let time = p.time in
    let other : number ≢ e.call = omega arith in
    let overdue : IsOverdue calls (world_after k w e) = record {
      number = number;
      at = at;
      due = due_stays k calls w e number at due other;
      passed = omega arith;
    } in
    overdue_stays k calls run (world_after k w e) overdue is.1)
    (cases_lt e.call n)

-- the same, of what was found to be due
pub none_too_late : (k : Kind) (calls : List Call) (begins : List ℕ) (w : World) (n : ℕ) (found : Option Due) → AreLeast calls begins → IfSome found (λ d. IsDue calls w d.number d.at) →
    IsSomeAnd found (λ d. (d.number < n) × (d.at < slice_index_or begins n 0)) → HasNonePlayed k calls w n → HasNonePlayed k calls w (length calls)
none_too_late k calls begins w n None least due late none = absurd late
none_too_late k calls begins w n (Some d) least due late none = none_late k calls begins w n d.number d.at least due late.0 late.1 none

-- one that stands there is alike
pub alike_at : (xs : List Reached) (i : ℕ) (r : Reached) (w : World) → i < length xs → r ≡ slice_index_or xs i r → IsAlike (world_of r) w → HasAlike xs w
alike_at xs i r w there is alike = (i, there, λ d. subst (λ x. IsAlike (world_of x) w) (is ∙ get_or_default xs i r d there) alike)

-- none of fewer calls begins a play
pub none_fewer : (k : Kind) (calls : List Call) (w : World) (n m : ℕ) → n ≤ m → HasNonePlayed k calls w m → HasNonePlayed k calls w n
none_fewer k calls w n m le none e run below is = none e run (omega arith) is
