-- Where there is a way there is a run: the search numbers the tickets as they come, and takes each event as early as it
-- can be.
use Rattle.std.proofs.Common.{◌≡◌, ℕ, suc, zero, ◌+◌, ◌<◌, ◌≤◌, Bool, true, false, cond, Option, Some, None, List, [], ◌∷◌, refl, sym, ap, ◌∙◌, subst, ⊎_elim, inl, arith}
use Rattle.std.specs.Prelude.{option_map, max, IfSome}
use Rattle.std.proofs.lemmas.Bool.{cases_lt}
use Rattle.meet_tickets.proofs.Tellings.Histories.{tellings_are_one}
use Rattle.meet_tickets.specs.declared.places.Kind.{Kind}
use Rattle.meet_tickets.specs.declared.records.Record.{Record}
use Rattle.meet_tickets.specs.declared.records.Deed.{Deed}
use Rattle.meet_tickets.specs.declared.records.Deed.TheVariants.{GiveWaits, GiveMeets, GiveFails, GiveKept, TakeWaits, TakeMeets, TakeFails, EntryInterrupted, Interrupt}
use Rattle.meet_tickets.specs.BySeat.{Seats, Moment, Allows, put_at, is_request, cut_ticket, moment_after}
use Rattle.meet_overlap.specs.declared.calls.Answer.{Answer}
use Rattle.meet_overlap.specs.declared.calls.Verb.{Verb}
use Rattle.meet_overlap.specs.declared.calls.Verb.TheVariants.{Keep, Give, Take, Interrupt as InterruptSeat}
use Rattle.meet_overlap.specs.declared.calls.Call.{Call}
use Rattle.meet_overlap.specs.Explaining.{Event}
use Rattle.meet_overlap.specs.declared.calls.Returned.{Returned}
use Rattle.meet_overlap.specs.declared.calls.Stage.{Stage}
use Rattle.meet_overlap.specs.declared.calls.Stage.TheVariants.{Ahead, Open, Over}
use Rattle.meet_overlap.specs.Calls.{Begins, Tells, Moves, told_by, stage_after}
use Rattle.meet_overlap.specs.Search.{World, start, world_after, deed_of, ticket_of, request_ticket, ending_of, Steps, IsRun}
use Rattle.meet_overlap.proofs.Deeds.{request_made, ending_made, ending_held}
use Rattle.meet_overlap.specs.Explaining.{IsExplained, Explains, records_of, FailsFull}
use Rattle.meet_overlap.proofs.Ways.{Comes, IsWay, ending_no_request, interrupt_no_request, run_way, way_whole, whole_way}
use Rattle.meet_overlap.proofs.Renamed.{IsNaming, rename_deed, rename_record, rename_stage, rename_seats, rename_moment, told_alike, requests_alike, stops_alike, stage_alike, put_alike, deed_alike, cut_alike, moment_alike}

-- the deed that may come next is the one that the search makes
pub deed_made : (k : Kind) (s : Seats ℕ) (call : Call) (stage : Stage) (r : Record Deed) → r.seat ≡ call.seat → Moves call stage r → Allows k s r.seat r.ticket r.deed → FailsFull k s.line call.verb r.deed →
    deed_of k s call stage ≡ Some r.deed
deed_made k s call Ahead r seat moves allowed full = request_made k s call.seat r.ticket call.verb r.deed moves.0 (subst (λ i. Allows k s i r.ticket r.deed) seat allowed) full
deed_made k s call (Open t) r seat moves allowed full =
    let there : Allows k s call.seat r.ticket r.deed = subst (λ i. Allows k s i r.ticket r.deed) seat allowed in
    let mine : Allows k s call.seat t r.deed = subst (λ u. Allows k s call.seat u r.deed) moves.0 there in
    ap (λ b. cond b (ending_of s.line call.verb (s.holds call.seat)) None) (ending_held k s call.seat t call.verb r.deed moves.1 mine)
    ∙ ending_made k s call.seat t call.verb r.deed moves.1 mine
deed_made k s call Over r seat moves allowed full = absurd moves

-- an earlier time lies before what a later one lies before
IfSome-earlier : (o : Option Returned) (t u : ℕ) → t ≤ u → IfSome o (λ r. u ≤ r.at) → IfSome o (λ r. t ≤ r.at)
IfSome-earlier None t u le h = tt
IfSome-earlier (Some r) t u le h = omega arith

seen-earlier : (o : Option ℕ) (t u : ℕ) (a b : Option Answer) → t ≤ u → a ≡ b → IfSome o (λ w. (a ≡ None) × (u ≤ w)) → IfSome o (λ w. (b ≡ None) × (t ≤ w))
seen-earlier None t u a b le e h = tt
seen-earlier (Some w) t u a b le e h = (sym e ∙ h.0, omega (arith, h.1))

-- what a deed under other names comes from
unmapped : (g : ℕ → ℕ) (o : Option Deed) (d : Deed) → option_map (rename_deed g) o ≡ Some d → (x : Deed) × (o ≡ Some x) × (rename_deed g x ≡ d)
unmapped g None d e = absurd (cc)
unmapped g (Some x) d e = (x, refl, cc)

-- a world under other names, at a later time
abbrev pub rename_world : (ℕ → ℕ) → (time : ℕ) → World → World
rename_world g time w = record { moment = rename_moment g w.moment; stages = λ n. rename_stage g (w.stages n); time = time }

-- an event that may come next, under other names: what the search makes of it
pub record Made (g : ℕ → ℕ) (k : Kind) (calls : List Call) (w : World) (e : Event) : Type 0 where
  pub event : Event
  pub call : event.call ≡ e.call
  pub record_is : rename_record g event.entry ≡ e.entry
  pub earlier : event.time ≤ e.time
  pub request : is_request event.entry.deed ≡ is_request e.entry.deed
  pub next : is_request event.entry.deed ≡ true → event.entry.ticket ≡ w.moment.last + 1
  pub steps : Steps k calls w event

-- the ticket that a request takes is the next, under the other names
abbrev pub IsNamed : (ℕ → ℕ) → World → Event → Type 0
IsNamed g w e = is_request e.entry.deed ≡ true → e.entry.ticket ≡ g (w.moment.last + 1)

-- the ticket of a request, or of an interrupt
first_ticket : (g : ℕ → ℕ) → IsNaming g → (k : Kind) (m : Moment) (verb : Verb) (i t : ℕ) (d : Deed) → Begins verb d → Allows k (rename_seats g m.seats) i t d →
    (is_request d ≡ true → t ≡ g (m.last + 1)) → t ≡ g (request_ticket m verb)
first_ticket g naming k m (Keep x) i t d b a named = named (keeps_request d b)
  where
    keeps_request : (d : Deed) → Begins (Keep x) d → is_request d ≡ true
    keeps_request (GiveMeets n u) b = refl
    keeps_request (GiveKept n) b = refl
    keeps_request (GiveFails n) b = refl
    keeps_request d b = absurd b
first_ticket g naming k m (Give p x) i t d b a named = named (gives_request d b)
  where
    gives_request : (d : Deed) → Begins (Give p x) d → is_request d ≡ true
    gives_request (GiveMeets n u) b = refl
    gives_request (GiveFails n) b = refl
    gives_request (GiveWaits n) b = refl
    gives_request (EntryInterrupted side) b = refl
    gives_request d b = absurd b
first_ticket g naming k m (Take p) i t d b a named = named (takes_request d b)
  where
    takes_request : (d : Deed) → Begins (Take p) d → is_request d ≡ true
    takes_request (TakeMeets n u) b = refl
    takes_request TakeFails b = refl
    takes_request TakeWaits b = refl
    takes_request (EntryInterrupted side) b = refl
    takes_request d b = absurd b
first_ticket g naming k m (InterruptSeat j) i t (Interrupt h) b a named = a ∙ ap (cut_ticket (rename_seats g m.seats)) b ∙ cut_alike g naming m.seats j
first_ticket g naming k m (InterruptSeat j) i t d b a named = absurd b

-- the ticket of a record
ticket_named : (g : ℕ → ℕ) → IsNaming g → (k : Kind) (m : Moment) (call : Call) (stage : Stage) (r : Record Deed) → Moves call (rename_stage g stage) r →
    Allows k (rename_seats g m.seats) r.seat r.ticket r.deed → (is_request r.deed ≡ true → r.ticket ≡ g (m.last + 1)) → r.ticket ≡ g (ticket_of m call.verb stage)
ticket_named g naming k m call Ahead r moves allowed named = first_ticket g naming k m call.verb r.seat r.ticket r.deed moves.0 allowed named
ticket_named g naming k m call (Open t) r moves allowed named = moves.0
ticket_named g naming k m call Over r moves allowed named = absurd moves

-- a request's ticket is the next
request_next : (g : ℕ → ℕ) (m : Moment) (call : Call) (stage : Stage) (r : Record Deed) → Moves call (rename_stage g stage) r → is_request r.deed ≡ true → ticket_of m call.verb stage ≡ m.last + 1
request_next g m call Ahead r moves q = by_verb call.verb moves.0
  where
    by_verb : (verb : Verb) → Begins verb r.deed → request_ticket m verb ≡ m.last + 1
    by_verb (Keep x) b = refl
    by_verb (Give p x) b = refl
    by_verb (Take p) b = refl
    by_verb (InterruptSeat j) b = absurd (interrupt_no_request j r.deed b q)
request_next g m call (Open t) r moves q = absurd (ending_no_request call.verb r.deed moves.1 q)
request_next g m call Over r moves q = absurd moves

-- a call that is ahead under other names is ahead
ahead_named : (g : ℕ → ℕ) (s : Stage) → rename_stage g s ≡ Ahead → s ≡ Ahead
ahead_named g Ahead e = refl
ahead_named g (Open t) e = absurd (cc)
ahead_named g Over e = absurd (cc)

-- the search makes it
pub made : (g : ℕ → ℕ) → IsNaming g → (k : Kind) (calls : List Call) (w : World) (time : ℕ) (e : Event) → w.time ≤ time →
    Comes k calls (rename_world g time w) e → IsNamed g w e → Made g k calls w e
made g naming k calls w time e le comes named =
    let call = comes.call in
    let stage = w.stages e.call in
    let found = deed_made k (rename_seats g w.moment.seats) call (rename_stage g stage) e.entry comes.seat comes.moves comes.fits.allowed comes.full in
    let same = unmapped g (deed_of k w.moment.seats call stage) e.entry.deed (sym (deed_alike g naming k w.moment.seats call stage) ∙ found) in
    let d = same.0 in
    let told : told_by d ≡ told_by e.entry.deed = sym (told_alike g d) ∙ ap told_by same.2 in
    let request : is_request d ≡ is_request e.entry.deed = sym (requests_alike g d) ∙ ap is_request same.2 in
    let ticket = ticket_named g naming k w.moment call stage e.entry comes.moves comes.fits.allowed named in
    let begun = comes.within.begun in
    let risen = comes.risen in
    let early : max w.time call.begin ≤ e.time = omega arith in
    record {
      event = record { call = e.call; time = max w.time call.begin; entry = record { seat = e.entry.seat; ticket = ticket_of w.moment call.verb stage; deed = d } };
      call = refl;
      record_is = renamed e.entry (ticket_of w.moment call.verb stage) d (sym ticket) same.2;
      earlier = early;
      request = request;
      next = λ q. request_next g w.moment call stage e.entry comes.moves (sym request ∙ q);
      steps = record {
        call = call;
        known = comes.known;
        seat = comes.seat;
        ticket = refl;
        deed = same.1;
        time = refl;
        tells = subst (λ o. IfSome o (λ a. IfSome call.returned (λ r. r.answer ≡ a))) (sym told) (tells_of call (rename_stage g stage) e.entry comes.moves);
        within = record {
          begun = omega arith;
          ended = IfSome-earlier call.returned (max w.time call.begin) e.time early comes.within.ended;
          seen = λ q. seen-earlier call.waits (max w.time call.begin) e.time (told_by e.entry.deed) (told_by d) early (sym told) (comes.within.seen (sym request ∙ q));
        };
        turn = λ m mine later lt own there same. ahead_named g (w.stages m) (comes.turn m mine later lt own there same);
      };
    }
  where
    renamed : (r : Record Deed) (t : ℕ) (d : Deed) → g t ≡ r.ticket → rename_deed g d ≡ r.deed → Path (Record Deed) (record { seat = r.seat; ticket = g t; deed = rename_deed g d }) r
    renamed r t d p q =
        let one : Path (Record Deed) (record { seat = r.seat; ticket = g t; deed = rename_deed g d }) (record { seat = r.seat; ticket = r.ticket; deed = rename_deed g d }) =
        ap (λ x. record { seat = r.seat; ticket = x; deed = rename_deed g d }) p in
        let two : Path (Record Deed) (record { seat = r.seat; ticket = r.ticket; deed = rename_deed g d }) r = ap (λ x. record { seat = r.seat; ticket = r.ticket; deed = x }) q in
        one ∙ two

    tells_of : (call : Call) (stage : Stage) (r : Record Deed) → Moves call stage r → Tells call r.deed
    tells_of call Ahead r m = m.1
    tells_of call (Open t) r m = m.2
    tells_of call Over r m = absurd m

-- what it leaves is the same under the other names
pub leaves_alike : (g : ℕ → ℕ) → IsNaming g → (k : Kind) (calls : List Call) (w : World) (time : ℕ) (e : Event) (m : Made g k calls w e) →
    world_after k (rename_world g time w) e ≡ rename_world g e.time (world_after k w m.event)
leaves_alike g naming k calls w time e m =
    parts
    (ap (moment_after k (rename_moment g w.moment)) (sym m.record_is) ∙ moment_alike g naming k w.moment m.event.entry)
    (ap (λ r. put_at (λ n. rename_stage g (w.stages n)) e.call (stage_after (rename_stage g (w.stages e.call)) r)) (sym m.record_is)
    ∙ ap (put_at (λ n. rename_stage g (w.stages n)) e.call) (stage_alike g (w.stages e.call) m.event.entry)
    ∙ put_alike g (rename_stage g) w.stages e.call (stage_after (w.stages e.call) m.event.entry)
    ∙ ap (λ c. λ n. rename_stage g (put_at w.stages c (stage_after (w.stages c) m.event.entry) n)) (sym m.call))
  where
    parts : {a b : Moment} {f h : ℕ → Stage} → a ≡ b → f ≡ h → Path World (record { moment = a; stages = f; time = e.time }) (record { moment = b; stages = h; time = e.time })
    parts {a} {b} {f} {h} p q =
        let one : Path World (record { moment = a; stages = f; time = e.time }) (record { moment = b; stages = f; time = e.time }) = ap (λ x. record { moment = x; stages = f; time = e.time }) p in
        let two : Path World (record { moment = b; stages = f; time = e.time }) (record { moment = b; stages = h; time = e.time }) = ap (λ x. record { moment = b; stages = x; time = e.time }) q in
        one ∙ two

-- the tickets of the requests
abbrev pub tickets_of : List Event → List ℕ
tickets_of [] = []
tickets_of (e ∷ events) = cond (is_request e.entry.deed) (e.entry.ticket ∷ tickets_of events) (tickets_of events)

-- they are the names of the numbers above this one
abbrev pub AreNamed : (ℕ → ℕ) → ℕ → List ℕ → Type 0
AreNamed g n [] = Unit {0}
AreNamed g n (t ∷ tickets) = (t ≡ g (n + 1)) × AreNamed g (n + 1) tickets

-- behind a request the next names are due, and else the same
named_later : (g : ℕ → ℕ) (last : ℕ) (b c : Bool) (t u : ℕ) (tickets : List ℕ) → c ≡ b → (c ≡ true → u ≡ last + 1) → AreNamed g last (cond b (t ∷ tickets) tickets) → AreNamed g (cond c u last) tickets
named_later g last true true t u tickets e next named = subst (λ n. AreNamed g n tickets) (sym (next refl)) named.1
named_later g last false false t u tickets e next named = named
named_later g last true false t u tickets e next named = absurd (cc)
named_later g last false true t u tickets e next named = absurd (cc)

-- where there is a way under other names, there is a run
pub run_of : (g : ℕ → ℕ) → IsNaming g → (k : Kind) (calls : List Call) (events : List Event) (w : World) (time : ℕ) → w.time ≤ time →
    IsWay k calls (rename_world g time w) events → AreNamed g w.moment.last (tickets_of events) → (run : List Event) × IsRun k calls w run
run_of g naming k calls [] w time le way named = ([], λ n call is. stops_alike g call (w.stages n) (way n call is))
run_of g naming k calls (e ∷ events) w time le way named =
    let it = made g naming k calls w time e le way.0 (λ q. (subst (λ b. AreNamed g w.moment.last (cond b (e.entry.ticket ∷ tickets_of events) (tickets_of events))) q named).0) in
    let rest = run_of g naming k calls events (world_after k w it.event) e.time it.earlier
    (subst (λ x. IsWay k calls x events) (leaves_alike g naming k calls w time e it) way.1)
    (named_later g w.moment.last (is_request e.entry.deed) (is_request it.event.entry.deed) e.entry.ticket it.event.entry.ticket (tickets_of events) it.request it.next named) in
    (it.event ∷ rest.0, (it.steps, rest.1))

-- each ticket is above the one before it
abbrev AreRising : ℕ → List ℕ → Type 0
AreRising last [] = Unit {0}
AreRising last (t ∷ tickets) = (last < t) × AreRising t tickets

rises : (b : Bool) (last t : ℕ) (tickets : List ℕ) → (b ≡ true → last < t) → AreRising (cond b t last) tickets → AreRising last (cond b (t ∷ tickets) tickets)
rises true last t tickets above rising = (above refl, rising)
rises false last t tickets above rising = rising

way_rises : (k : Kind) (calls : List Call) (w : World) (events : List Event) → IsWay k calls w events → AreRising w.moment.last (tickets_of events)
way_rises k calls w [] way = tt
way_rises k calls w (e ∷ events) way =
    rises (is_request e.entry.deed) w.moment.last e.entry.ticket (tickets_of events) way.0.fits.above (way_rises k calls (world_after k w e) events way.1)

-- the ticket of each number: these, and behind the last of them those that follow it
names_from : ℕ → List ℕ → ℕ → ℕ
names_from last tickets zero = last
names_from last [] (suc n) = last + suc n
names_from last (t ∷ tickets) (suc n) = names_from t tickets n

names_above : (last : ℕ) (tickets : List ℕ) (n : ℕ) → AreRising last tickets → last ≤ names_from last tickets n
unfolding names_from
names_above last tickets zero rising = omega arith
names_above last [] (suc n) rising = omega arith
names_above last (t ∷ tickets) (suc n) rising = let above = names_above t tickets n rising.1 in let first = rising.0 in omega arith

names_grow : (last : ℕ) (tickets : List ℕ) (a b : ℕ) → AreRising last tickets → a < b → names_from last tickets a < names_from last tickets b
unfolding names_from
names_grow last tickets a zero rising lt = absurd (omega arith)
names_grow last [] zero (suc b) rising lt = omega arith
names_grow last (t ∷ tickets) zero (suc b) rising lt = let above = names_above t tickets b rising.1 in let first = rising.0 in omega arith
names_grow last [] (suc a) (suc b) rising lt = omega arith
names_grow last (t ∷ tickets) (suc a) (suc b) rising lt = names_grow t tickets a b rising.1 (omega arith)

names_own : (tickets : List ℕ) → AreRising 0 tickets → IsNaming (names_from 0 tickets)
unfolding names_from
names_own tickets rising = record {
  zero_names_none = refl;
  own = λ a b e. ⊎_elim
      (λ lt. let less = names_grow 0 tickets a b rising lt in absurd (omega arith))
      (λ le. ⊎_elim (λ gt. let less = names_grow 0 tickets b a rising gt in absurd (omega arith)) (λ ge. omega arith) (cases_lt b a))
      (cases_lt a b);
}

named_from : (f : ℕ → ℕ) (n last : ℕ) (tickets : List ℕ) → ((x : ℕ) → f (n + x) ≡ names_from last tickets x) → AreNamed f n tickets
unfolding names_from
named_from f n last [] h = tt
named_from f n last (t ∷ tickets) h = (
  sym (h 1),
  named_from f (n + 1) t tickets (λ x. let e : (n + 1) + x ≡ n + suc x = omega arith in ap f e ∙ h (suc x)),
)

-- where there is a way there is a run
pub way_run : (k : Kind) (calls : List Call) (events : List Event) → IsWay k calls start events → (run : List Event) × IsRun k calls start run
unfolding names_from
way_run k calls events way =
    let tickets = tickets_of events in
    let rising = way_rises k calls start events way in
    run_of (names_from 0 tickets) (names_own tickets rising) k calls events start 0 (omega arith) way
    (named_from (names_from 0 tickets) 0 0 tickets (λ x. let e : 0 + x ≡ x = omega arith in ap (names_from 0 tickets) e))

-- an explanation has a run
pub explained_run : (k : Kind) (calls : List Call) (events : List Event) → IsExplained k calls events → (run : List Event) × IsRun k calls start run
explained_run k calls events explained =
    way_run k calls events (whole_way k calls start events (record {
      legal = (tellings_are_one k (records_of events)).legal.0 explained.legal;
      owned = explained.owned;
      rising = explained.rising;
      formed = explained.formed;
      turns = explained.turns;
      full = explained.full;
    })
    (λ n call known. inl refl))

-- a run explains
pub run_explains : (k : Kind) (calls : List Call) (events : List Event) → IsRun k calls start events → IsExplained k calls events
run_explains k calls events run =
    let whole = way_whole k calls start events (run_way k calls start events run) in
    record {
      legal = (tellings_are_one k (records_of events)).legal.1 whole.legal;
      owned = whole.owned;
      rising = whole.rising;
      formed = whole.formed;
      turns = whole.turns;
      full = whole.full;
    }

-- where there is no run nothing explains
pub none_explains : (k : Kind) (calls : List Call) → ((run : List Event) → IsRun k calls start run → ⊥) → (history : List (Record Deed)) → Explains k calls history → ⊥
none_explains k calls none history e = let run = explained_run k calls e.events e.explained in none run.0 run.1
