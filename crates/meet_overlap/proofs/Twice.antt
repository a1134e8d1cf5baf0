-- If two calls got an item that one call alone gives, no history explains the calls: that call makes one request, so its
-- item is in one pair at most, and that pair has one taker.
use Rattle.std.proofs.Common.{◌≡◌, ◌≢◌, ℕ, ◌<◌, ◌≤◌, ◌⊎◌, inl, inr, Option, Some, None, List, [], ◌∷◌, Contains, refl, sym, ap, ◌∙◌, subst, ⊎_elim, arith}
use Rattle.std.specs.Prelude.{slice_get, IfSome}
use Rattle.std.proofs.lemmas.Bool.Decides.{eqb_tells}
use Rattle.std.proofs.lemmas.List.Elements.{Contains-push}
use Rattle.meet_tickets.specs.declared.lines.Entry.{Entry}
use Rattle.meet_tickets.specs.declared.places.Kind.{Kind}
use Rattle.meet_tickets.specs.declared.places.Side.TheVariants.{Taker}
use Rattle.meet_tickets.specs.declared.records.Cause.TheVariants.{Expired, Interrupted}
use Rattle.meet_tickets.specs.declared.records.Record.{Record}
use Rattle.meet_tickets.specs.declared.records.Deed.{Deed}
use Rattle.meet_tickets.specs.declared.records.Deed.TheVariants.{GiveMeets, TakeWaits, TakeMeets, TakeFails, EntryInterrupted, Done, Got, Withdrawn}
use Rattle.meet_tickets.specs.Meeting.{end_of}
use Rattle.meet_tickets.specs.ByLists.{State, Pair, empty, IsStep, after}
use Rattle.meet_tickets.proofs.Lists.Members.{Contains-partner, Contains-nil}
use Rattle.meet_overlap.specs.declared.calls.Answer.{Answer}
use Rattle.meet_overlap.specs.declared.calls.Answer.TheVariants.{Got as GotItem}
use Rattle.meet_overlap.specs.declared.calls.Patience.TheVariants.{Now, Forever, Timed}
use Rattle.meet_overlap.specs.declared.calls.Call.{Call}
use Rattle.meet_overlap.specs.declared.calls.Stage.{Stage}
use Rattle.meet_overlap.specs.declared.calls.Stage.TheVariants.{Ahead, Open, Over}
use Rattle.meet_overlap.specs.declared.calls.Verb.{Verb}
use Rattle.meet_overlap.specs.declared.calls.Verb.TheVariants.{Keep, Give, Take, Interrupt as InterruptSeat}
use Rattle.meet_overlap.specs.Calls.{Begins, Ends, Moves, told_by, stage_told, stage_after}
use Rattle.meet_overlap.specs.Explaining.{Event, Explains}
use Rattle.meet_overlap.specs.Marks.{Gives, IsEnded, IsTaking}
use Rattle.meet_overlap.specs.Reasons.{IsDoubled}
use Rattle.meet_overlap.proofs.Courses.{Happens, IsCourse, later, after_event, happens, goes_on, whole_course, never_left, own_call, still, answers}
use Rattle.meet_overlap.proofs.Effects.{NewPair, Leaves, Effect, effect, IsWell, well_stays, well_empty, no_pair, pairs_stay, one_taker}
use Rattle.meet_overlap.proofs.Giving.{GivesOne, GivesNone, gives_or_not, gives_by, open_goes_on, new_item, new_pair}
use Rattle.meet_overlap.proofs.Tables.{got_below}
use Rattle.meet_overlap.proofs.Ways.{put_same, put_other}

-- a call that gives by a deed was ahead, and isn't any more
pub gives_from : (m : ℕ) (c : Call) (stage : Stage) (r : Record Deed) → Moves c stage r → GivesOne m r.deed → stage ≡ Ahead
gives_from m c Ahead r moves one = refl
gives_from m c (Open t) r moves one = absurd (ends c.verb r.deed moves.1 one)
  where
    ends : (verb : Verb) (d : Deed) → Ends verb d → GivesOne m d → ⊥
    ends (Give p x) Done b g = g
    ends (Give p x) (Withdrawn cause) b g = g
    ends (Take p) (Got n u) b g = g
    ends (Take p) (Withdrawn cause) b g = g
    ends verb d b g = b
gives_from m c Over r moves one = absurd moves

pub not_ahead : (stage : Stage) (r : Record Deed) → stage_after stage r ≡ Ahead → ⊥
not_ahead Ahead r is = told (told_by r.deed) is
  where
    told : (o : Option Answer) → stage_told r.ticket o ≡ Ahead → ⊥
    told None is = absurd (cc)
    told (Some a) is = absurd (cc)
not_ahead (Open t) r is = absurd (cc)
not_ahead Over r is = absurd (cc)

pub is_over : (stage : Stage) → (stage ≡ Over) ⊎ (stage ≡ Over → ⊥)
is_over Ahead = inr (λ is. absurd (cc))
is_over (Open t) = inr (λ is. absurd (cc))
is_over Over = inl refl

told_open : (t u : ℕ) (o : Option Answer) → stage_told t o ≡ Open u → t ≡ u
told_open t u None is = cc
told_open t u (Some a) is = absurd (cc)

-- by which event a call gets an item of this mark: it meets it, or was met by it
abbrev pub GetsBy : ℕ → State → Stage → Deed → Type 0
GetsBy m s Ahead d = (v : ℕ) × (d ≡ TakeMeets m v)
GetsBy m s (Open t) d = (v : ℕ) × Contains s.pairs (record { giver = v; taker = t; mark = m })
GetsBy m s Over d = ⊥

module _ (k : Kind) (calls : List Call) (x : IsEnded calls) (taking : IsTaking x.call.verb) (m : ℕ) (got : x.returned.answer ≡ GotItem m) where
  abbrev IsTold : Deed → Type 0
  IsTold d = IfSome (told_by d) (λ a. a ≡ GotItem m)

  begins : (verb : Verb) (d : Deed) → IsTaking verb → Begins verb d → IsTold d → (told_by d ≡ None) ⊎ ((v : ℕ) × (d ≡ TakeMeets m v))
  begins (Keep n) d taking b told = absurd taking
  begins (Give p n) d taking b told = absurd taking
  begins (InterruptSeat j) d taking b told = absurd taking
  begins (Take p) (TakeMeets n v) taking b told = let same : n ≡ m = cc in inr (v, ap (λ y. TakeMeets y v) same)
  begins (Take Now) TakeFails taking b told = absurd (cc)
  begins (Take Forever) TakeWaits taking b told = inl refl
  begins (Take Timed) TakeWaits taking b told = inl refl
  begins (Take Forever) (EntryInterrupted Taker) taking b told = absurd (cc)
  begins (Take Timed) (EntryInterrupted Taker) taking b told = absurd (cc)
  begins (Take p) d taking b told = absurd b

  ends : (s : State) (i t u : ℕ) (verb : Verb) (d : Deed) → IsTaking verb → Ends verb d → IsStep k s i t d → t ≡ u → IsTold d → (v : ℕ) × Contains s.pairs (record { giver = v; taker = u; mark = m })
  ends s i t u (Keep n) d taking b step at told = absurd taking
  ends s i t u (Give p n) d taking b step at told = absurd taking
  ends s i t u (InterruptSeat j) d taking b step at told = absurd taking
  ends s i t u (Take p) (Got n v) taking b step at told =
      let same : n ≡ m = cc in
      (v, subst (λ y. Contains s.pairs (record { giver = v; taker = u; mark = y })) same (subst (λ y. Contains s.pairs (record { giver = v; taker = y; mark = n })) at step.1))
  ends s i t u (Take Timed) (Withdrawn Expired) taking b step at told = absurd (cc)
  ends s i t u (Take p) (Withdrawn Interrupted) taking b step at told = absurd (cc)
  ends s i t u (Take p) d taking b step at told = absurd b

  pub gets : (s : State) (stage : Stage) (r : Record Deed) → Moves x.call stage r → IsStep k s r.seat r.ticket r.deed → stage_after stage r ≡ Over → GetsBy m s stage r.deed
  gets s Ahead r moves step over = ⊎_elim
      (λ none. absurd (open_goes_on r.ticket (told_by r.deed) none over))
      (λ q. q)
      (begins x.call.verb r.deed taking moves.0 (answers k calls x (GotItem m) got r.deed moves.1))
  gets s (Open t) r moves step over = ends s r.seat r.ticket t x.call.verb r.deed taking moves.1 step moves.0 (answers k calls x (GotItem m) got r.deed moves.2)
  gets s Over r moves step over = moves

  -- where its request waits, its ticket is new
  waits_anew : (s : State) (i t : ℕ) (verb : Verb) (d : Deed) → IsTaking verb → Begins verb d → IsTold d → IsStep k s i t d → told_by d ≡ None → s.last < t
  waits_anew s i t (Keep n) d taking b told step none = absurd taking
  waits_anew s i t (Give p n) d taking b told step none = absurd taking
  waits_anew s i t (InterruptSeat j) d taking b told step none = absurd taking
  waits_anew s i t (Take p) (TakeMeets n v) taking b told step none = absurd (cc)
  waits_anew s i t (Take Now) TakeFails taking b told step none = absurd (cc)
  waits_anew s i t (Take Forever) TakeWaits taking b told step none = step.0.above
  waits_anew s i t (Take Timed) TakeWaits taking b told step none = step.0.above
  waits_anew s i t (Take Forever) (EntryInterrupted Taker) taking b told step none = absurd (cc)
  waits_anew s i t (Take Timed) (EntryInterrupted Taker) taking b told step none = absurd (cc)
  waits_anew s i t (Take p) d taking b told step none = absurd b

  pub opens : (s : State) (stage : Stage) (r : Record Deed) (u : ℕ) → Moves x.call stage r → IsStep k s r.seat r.ticket r.deed → stage_after stage r ≡ Open u → (r.ticket ≡ u) × (s.last < u)
  opens s Ahead r u moves step is = (at, subst (λ y. s.last < y) at (by_told (told_by r.deed) refl is))
    where
      at : r.ticket ≡ u
      at = told_open r.ticket u (told_by r.deed) is

      by_told : (o : Option Answer) → told_by r.deed ≡ o → stage_told r.ticket o ≡ Open u → s.last < r.ticket
      by_told None none q = waits_anew s r.seat r.ticket x.call.verb r.deed taking moves.0 (answers k calls x (GotItem m) got r.deed moves.1) step none
      by_told (Some a) some q = absurd (cc)
  opens s (Open t) r u moves step is = absurd (cc)
  opens s Over r u moves step is = absurd moves

module _ (k : Kind) (calls : List Call) (m giver : ℕ) (only : (n : ℕ) (c : Call) → slice_get calls n ≡ Some c → Gives c.verb m → n ≡ giver) where
  -- the giver is ahead, and nobody has its item
  pub record IsFresh (s : State) (stages : ℕ → Stage) : Type 0 where
    pub ahead : stages giver ≡ Ahead
    pub line : (e : Entry ℕ) → Contains s.line e → e.item ≡ Some m → ⊥
    pub pairs : (p : Pair) → Contains s.pairs p → p.mark ≡ m → ⊥

  -- the giver's request was made: its item is in the line, or in one pair, or nowhere
  pub record IsUsed (s : State) (stages : ℕ → Stage) : Type 0 where
    pub begun : stages giver ≡ Ahead → ⊥
    pub ticket : ℕ
    pub line : (e : Entry ℕ) → Contains s.line e → e.item ≡ Some m → e.ticket ≡ ticket
    pub one : (p q : Pair) → Contains s.pairs p → Contains s.pairs q → p.mark ≡ m → q.mark ≡ m → p.taker ≡ q.taker
    pub apart : (e : Entry ℕ) (p : Pair) → Contains s.line e → e.item ≡ Some m → Contains s.pairs p → p.mark ≡ m → ⊥

  abbrev pub IsGiven : State → (ℕ → Stage) → Type 0
  IsGiven s stages = IsFresh s stages ⊎ IsUsed s stages

  pub met_entry : (s : State) (i t v : ℕ) → IsStep k s i t (TakeMeets m v) → (e : Entry ℕ) × Contains s.line e × (e.item ≡ Some m) × (e.ticket ≡ v)
  met_entry s i t v step = (step.1.0, Contains-partner (end_of k.order) s.line Taker step.1.0 step.1.1, step.1.3, step.1.2)

  module _ (e : Event) (s : State) (time : ℕ) (stages : ℕ → Stage) (h : Happens k calls s time stages e) where
    f : Effect s (after_event s e) e.entry.ticket e.entry.deed
    f = effect k s e.entry.seat e.entry.ticket e.entry.deed h.step

    takes_one : (p : Pair) → GivesNone m e.entry.deed → NewPair e.entry.deed e.entry.ticket p → p.mark ≡ m → (v : ℕ) × IsStep k s e.entry.seat e.entry.ticket (TakeMeets m v) × (e.entry.deed ≡ TakeMeets m v)
    takes_one p none new is = let q = new_pair m e.entry.deed e.entry.ticket p none new is in (q.0, subst (IsStep k s e.entry.seat e.entry.ticket) q.1 h.step, q.1)

    begun_after : e.call ≡ giver → later stages e giver ≡ Ahead → ⊥
    begun_after at is = not_ahead (stages e.call) e.entry (sym (put_same stages e.call (stage_after (stages e.call) e.entry)) ∙ ap (later stages e) at ∙ is)

    pub still_giver : e.call ≢ giver → later stages e giver ≡ stages giver
    still_giver other = put_other stages e.call (stage_after (stages e.call) e.entry) giver (λ q. other (sym q))

    -- the giver's request
    pub fresh_gives : IsFresh s stages → GivesOne m e.entry.deed → IsUsed (after_event s e) (later stages e)
    fresh_gives b one_ =
        let at = only e.call h.of.call h.of.known (gives_by m h.of.call (stages e.call) e.entry h.moves one_) in
        record {
          begun = begun_after at;
          ticket = e.entry.ticket;
          line = λ g there item. ⊎_elim (λ q. absurd (b.line g q.0 item)) (λ q. q.ticket) (f.line g there);
          one = λ p q p_there q_there p_is q_is. ⊎_elim
              (λ old. absurd (b.pairs p old p_is))
              (λ new. ⊎_elim (λ old. absurd (b.pairs q old q_is)) (λ also. one_taker e.entry.deed e.entry.ticket p q new also) (f.pairs q q_there))
              (f.pairs p p_there);
          apart = λ g p there item p_there p_is. ⊎_elim
              (λ old. b.line g old.0 item)
              (λ new. ⊎_elim (λ old. b.pairs p old p_is) (λ also. no_pair e.entry.deed e.entry.ticket g.item p new.item also) (f.pairs p p_there))
              (f.line g there);
        }

    used_gives : IsUsed s stages → GivesOne m e.entry.deed → ⊥
    used_gives b one_ =
        let at = only e.call h.of.call h.of.known (gives_by m h.of.call (stages e.call) e.entry h.moves one_) in
        b.begun (ap stages (sym at) ∙ gives_from m h.of.call (stages e.call) e.entry h.moves one_)

    pub fresh_line : IsFresh s stages → GivesNone m e.entry.deed → (g : Entry ℕ) → Contains (after_event s e).line g → g.item ≡ Some m → ⊥
    fresh_line b none g there item = ⊎_elim (λ q. b.line g q.0 item) (λ q. new_item m e.entry.deed g.item q.item none item) (f.line g there)

    pub fresh_pairs : IsFresh s stages → GivesNone m e.entry.deed → (p : Pair) → Contains (after_event s e).pairs p → p.mark ≡ m → ⊥
    fresh_pairs b none p there is = ⊎_elim
        (λ q. b.pairs p q is)
        (λ q. let t = takes_one p none q is in let e0 = met_entry s e.entry.seat e.entry.ticket t.0 t.1 in b.line e0.0 e0.1 e0.2)
        (f.pairs p there)

    fresh_stays : IsFresh s stages → GivesNone m e.entry.deed → IsGiven (after_event s e) (later stages e)
    fresh_stays b none = ⊎_elim
        (λ at. inr (record {
          begun = begun_after at.1;
          ticket = 0;
          line = λ g there item. absurd (fresh_line b none g there item);
          one = λ p q p_there q_there p_is q_is. absurd (fresh_pairs b none p p_there p_is);
          apart = λ g p there item p_there p_is. fresh_line b none g there item;
        }))
        (λ other. inl (record { ahead = still_giver other.1 ∙ b.ahead; line = fresh_line b none; pairs = fresh_pairs b none }))
        (eqb_tells e.call giver)

    used_stays : IsUsed s stages → GivesNone m e.entry.deed → IsUsed (after_event s e) (later stages e)
    used_stays b none = record {
      begun = λ is. ⊎_elim (λ at. begun_after at.1 is) (λ other. b.begun (sym (still_giver other.1) ∙ is)) (eqb_tells e.call giver);
      ticket = b.ticket;
      line = λ g there item. ⊎_elim (λ q. b.line g q.0 item) (λ q. absurd (new_item m e.entry.deed g.item q.item none item)) (f.line g there);
      one = λ p q p_there q_there p_is q_is. ⊎_elim
          (λ old. ⊎_elim (λ also. b.one p q old also p_is q_is) (λ new. absurd (both p q old p_is new q_is)) (f.pairs q q_there))
          (λ new. ⊎_elim (λ old. absurd (both q p old q_is new p_is)) (λ also. one_taker e.entry.deed e.entry.ticket p q new also) (f.pairs q q_there))
          (f.pairs p p_there);
      apart = λ g p there item p_there p_is. ⊎_elim
          (λ q. ⊎_elim
          (λ old. b.apart g p q.0 item old p_is)
          (λ new.
          let t = takes_one p none new p_is in
          let e0 = met_entry s e.entry.seat e.entry.ticket t.0 t.1 in
          let same : g.ticket ≡ t.0 = b.line g q.0 item ∙ sym (b.line e0.0 e0.1 e0.2) ∙ e0.3 in
          q.1 (subst (λ d. Leaves d e.entry.ticket g.ticket) (sym t.2) same))
          (f.pairs p p_there))
          (λ q. new_item m e.entry.deed g.item q.item none item)
          (f.line g there);
    }
      where
        both : (p q : Pair) → Contains s.pairs p → p.mark ≡ m → NewPair e.entry.deed e.entry.ticket q → q.mark ≡ m → ⊥
        both p q old p_is new q_is =
            let t = takes_one q none new q_is in
            let e0 = met_entry s e.entry.seat e.entry.ticket t.0 t.1 in
            b.apart e0.0 p e0.1 e0.2 old p_is

    pub given_stays : IsGiven s stages → IsGiven (after_event s e) (later stages e)
    given_stays given = ⊎_elim
        (λ one_. ⊎_elim (λ b. inr (fresh_gives b one_)) (λ b. absurd (used_gives b one_)) given)
        (λ none. ⊎_elim (λ b. fresh_stays b none) (λ b. inr (used_stays b none)) given)
        (gives_or_not m e.entry.deed)

  -- a call got the item, and another can't get it any more
  pub record IsWon (y : IsEnded calls) (s : State) (stages : ℕ → Stage) : Type 0 where
    pub well : IsWell s
    pub given : IsGiven s stages
    pub pair : Pair
    pub there : Contains s.pairs pair
    pub is : pair.mark ≡ m
    pub going : stages y.number ≡ Over → ⊥
    pub other : (t : ℕ) → stages y.number ≡ Open t → pair.taker ≡ t → ⊥

  module _ (y : IsEnded calls) (taking : IsTaking y.call.verb) (got : y.returned.answer ≡ GotItem m) where
    cannot_get : (s : State) (stages : ℕ → Stage) (b : IsWon y s stages) (i t : ℕ) (stage : Stage) (d : Deed) → stages y.number ≡ stage → GetsBy m s stage d → IsStep k s i t d → ⊥
    cannot_get s stages b i t Ahead d at gets step =
        let e0 = met_entry s i t gets.0 (subst (IsStep k s i t) gets.1 step) in
        ⊎_elim (λ fresh. fresh.pairs b.pair b.there b.is) (λ used. used.apart e0.0 b.pair e0.1 e0.2 b.there b.is) b.given
    cannot_get s stages b i t (Open v) d at gets step = ⊎_elim
        (λ fresh. fresh.pairs b.pair b.there b.is)
        (λ used. b.other v at (used.one b.pair (record { giver = gets.0; taker = v; mark = m }) b.there gets.1 b.is refl))
        b.given
    cannot_get s stages b i t Over d at gets step = gets

    pub won : (events : List Event) (s : State) (time : ℕ) (stages : ℕ → Stage) → IsWon y s stages → IsCourse k calls s time stages events → ⊥
    won [] s time stages b c = never_left k calls y (stages y.number) b.going (c.formed y.number y.call y.known)
    won (e ∷ events) s time stages b c = won events (after_event s e) e.time (later stages e) (record {
      well = well_stays k s e.entry.seat e.entry.ticket e.entry.deed b.well h.step;
      given = given_stays e s time stages h b.given;
      pair = b.pair;
      there = pairs_stay s e.entry.seat e.entry.ticket e.entry.deed b.pair b.there;
      is = b.is;
      going = λ over. ⊎_elim
          (λ at. cannot_get s stages b e.entry.seat e.entry.ticket (stages e.call) e.entry.deed (ap stages (sym at.1)) (gets k calls y taking m got s (stages e.call) e.entry (mine at.1) h.step (after_mine at.1 Over over)) h.step)
          (λ apart. b.going (sym (still k calls y stages e apart.1) ∙ over))
          (eqb_tells e.call y.number);
      other = λ t is same. ⊎_elim
          (λ at. let new = (opens k calls y taking m got s (stages e.call) e.entry t (mine at.1) h.step (after_mine at.1 (Open t) is)).1 in let low = b.well.takers b.pair b.there in absurd (omega arith))
          (λ apart. b.other t (sym (still k calls y stages e apart.1) ∙ is) same)
          (eqb_tells e.call y.number);
    }) (goes_on k calls s time stages e events c)
      where
        h : Happens k calls s time stages e
        h = happens k calls s time stages e events c

        mine : e.call ≡ y.number → Moves y.call (stages e.call) e.entry
        mine at = subst (λ z. Moves z (stages e.call) e.entry) (own_call k calls y e at h.of) h.moves

        after_mine : e.call ≡ y.number → (stage : Stage) → later stages e y.number ≡ stage → stage_after (stages e.call) e.entry ≡ stage
        after_mine at stage is = sym (put_same stages e.call (stage_after (stages e.call) e.entry)) ∙ ap (later stages e) at ∙ is

    module _ (e : Event) (events : List Event) (s : State) (time : ℕ) (stages : ℕ → Stage) (c : IsCourse k calls s time stages (e ∷ events)) (well : IsWell s) (given : IsGiven s stages) (early : stages y.number ≡ Ahead) (other : e.call ≢ y.number) where
      -- a pair with the item is made while the call is ahead: it can't get it any more
      wins_early : (p : Pair) → Contains (after_event s e).pairs p → p.mark ≡ m → ⊥
      wins_early p there is =
          let on : later stages e y.number ≡ Ahead = still k calls y stages e other ∙ early in
          let h : Happens k calls s time stages e = happens k calls s time stages e events c in
          won events (after_event s e) e.time (later stages e) (record {
            well = well_stays k s e.entry.seat e.entry.ticket e.entry.deed well h.step;
            given = given_stays e s time stages h given;
            pair = p;
            there = there;
            is = is;
            going = λ over. let q = sym on ∙ over in absurd (cc);
            other = λ t at same. let q = sym on ∙ at in absurd (cc);
          }) (goes_on k calls s time stages e events c)

      -- so it is where the giver meets a taker, and where a taker meets the item
      pub gives_other : (v : ℕ) → e.entry.deed ≡ GiveMeets m v → ⊥
      gives_other v is =
          let own : Pair = record { giver = e.entry.ticket; taker = v; mark = m } in
          wins_early own (subst (λ d. Contains (after s e.entry.seat e.entry.ticket d).pairs own) (sym is) (Contains-push s.pairs own)) refl

      pub takes_other : (v : ℕ) → e.entry.deed ≡ TakeMeets m v → ⊥
      takes_other v is =
          let own : Pair = record { giver = v; taker = e.entry.ticket; mark = m } in
          wins_early own (subst (λ d. Contains (after s e.entry.seat e.entry.ticket d).pairs own) (sym is) (Contains-push s.pairs own)) refl

  -- neither of two calls has got the item
  pub record IsRace (x y : IsEnded calls) (s : State) (stages : ℕ → Stage) : Type 0 where
    pub well : IsWell s
    pub given : IsGiven s stages
    pub going_x : stages x.number ≡ Over → ⊥
    pub going_y : stages y.number ≡ Over → ⊥
    pub low_x : (t : ℕ) → stages x.number ≡ Open t → t ≤ s.last
    pub low_y : (t : ℕ) → stages y.number ≡ Open t → t ≤ s.last
    pub apart : (t : ℕ) → stages x.number ≡ Open t → stages y.number ≡ Open t → ⊥

  flipped : (x y : IsEnded calls) (s : State) (stages : ℕ → Stage) → IsRace x y s stages → IsRace y x s stages
  flipped x y s stages b = record { well = b.well; given = b.given; going_x = b.going_y; going_y = b.going_x; low_x = b.low_y; low_y = b.low_x; apart = λ t is also. b.apart t also is }

  module _ (x y : IsEnded calls) (tx : IsTaking x.call.verb) (ty : IsTaking y.call.verb) (gx : x.returned.answer ≡ GotItem m) (gy : y.returned.answer ≡ GotItem m) (differ : x.number ≡ y.number → ⊥) where
    module _ (e : Event) (events : List Event) (s : State) (time : ℕ) (stages : ℕ → Stage) (b : IsRace x y s stages) (c : IsCourse k calls s time stages (e ∷ events)) (at : e.call ≡ x.number) where
      h : Happens k calls s time stages e
      h = happens k calls s time stages e events c

      not_y : e.call ≢ y.number
      not_y is = differ (sym at ∙ is)

      moves : Moves x.call (stages e.call) e.entry
      moves = subst (λ z. Moves z (stages e.call) e.entry) (own_call k calls x e at h.of) h.moves

      after_x : (stage : Stage) → later stages e x.number ≡ stage → stage_after (stages e.call) e.entry ≡ stage
      after_x stage is = sym (put_same stages e.call (stage_after (stages e.call) e.entry)) ∙ ap (later stages e) at ∙ is

      wins : (stage : Stage) → stages e.call ≡ stage → GetsBy m s stage e.entry.deed → ⊥
      wins Ahead was gets =
          let step : IsStep k s e.entry.seat e.entry.ticket (TakeMeets m gets.0) = subst (IsStep k s e.entry.seat e.entry.ticket) gets.1 h.step in
          let above = step.0.above in
          let own : Pair = record { giver = gets.0; taker = e.entry.ticket; mark = m } in
          won y ty gy events (after_event s e) e.time (later stages e) (record {
            well = well_stays k s e.entry.seat e.entry.ticket e.entry.deed b.well h.step;
            given = given_stays e s time stages h b.given;
            pair = own;
            there = subst (λ d. Contains (after s e.entry.seat e.entry.ticket d).pairs own) (sym gets.1) (Contains-push s.pairs own);
            is = refl;
            going = λ over. b.going_y (sym (still k calls y stages e not_y) ∙ over);
            other = λ t is same. let low = b.low_y t (sym (still k calls y stages e not_y) ∙ is) in absurd (omega arith);
          }) (goes_on k calls s time stages e events c)
      wins (Open t) was gets = won y ty gy events (after_event s e) e.time (later stages e) (record {
        well = well_stays k s e.entry.seat e.entry.ticket e.entry.deed b.well h.step;
        given = given_stays e s time stages h b.given;
        pair = record { giver = gets.0; taker = t; mark = m };
        there = pairs_stay s e.entry.seat e.entry.ticket e.entry.deed (record { giver = gets.0; taker = t; mark = m }) gets.1;
        is = refl;
        going = λ over. b.going_y (sym (still k calls y stages e not_y) ∙ over);
        other = λ v is same. b.apart t (ap stages (sym at) ∙ was) (sym (still k calls y stages e not_y) ∙ is ∙ ap Open (sym same));
      }) (goes_on k calls s time stages e events c)
      wins Over was gets = gets

      pub x_moves : (IsRace x y (after_event s e) (later stages e) → ⊥) → ⊥
      x_moves go = ⊎_elim
          (λ over. wins (stages e.call) refl (gets k calls x tx m gx s (stages e.call) e.entry moves h.step over))
          (λ going.
          let f = effect k s e.entry.seat e.entry.ticket e.entry.deed h.step in
          let last = f.last in
          let last_is = last_opens in
          go (record {
            well = well_stays k s e.entry.seat e.entry.ticket e.entry.deed b.well h.step;
            given = given_stays e s time stages h b.given;
            going_x = λ over. going (after_x Over over);
            going_y = λ over. b.going_y (sym (still k calls y stages e not_y) ∙ over);
            low_x = λ t is. last_is t (after_x (Open t) is);
            low_y = λ t is. let low = b.low_y t (sym (still k calls y stages e not_y) ∙ is) in omega arith;
            apart = λ t is also.
                let new = (opens k calls x tx m gx s (stages e.call) e.entry t moves h.step (after_x (Open t) is)).1 in
                let low = b.low_y t (sym (still k calls y stages e not_y) ∙ also) in absurd (omega arith);
          }))
          (is_over (stage_after (stages e.call) e.entry))
        where
          -- the ticket of a request is the last one after it
          last_opens : (t : ℕ) → stage_after (stages e.call) e.entry ≡ Open t → t ≤ (after_event s e).last
          last_opens t is = by_stage (stages e.call) moves is
            where
              top : (verb : Verb) (d : Deed) → IsTaking verb → Begins verb d → told_by d ≡ None → (after s e.entry.seat e.entry.ticket d).last ≡ e.entry.ticket
              top (Keep n) d taking q none = absurd taking
              top (Give p n) d taking q none = absurd taking
              top (InterruptSeat j) d taking q none = absurd taking
              top (Take Forever) TakeWaits taking q none = refl
              top (Take Timed) TakeWaits taking q none = refl
              top (Take p) (TakeMeets n v) taking q none = absurd (cc)
              top (Take Now) TakeFails taking q none = absurd (cc)
              top (Take Forever) (EntryInterrupted Taker) taking q none = absurd (cc)
              top (Take Timed) (EntryInterrupted Taker) taking q none = absurd (cc)
              top (Take p) d taking q none = absurd q

              by_told : (o : Option Answer) → told_by e.entry.deed ≡ o → stage_told e.entry.ticket o ≡ Open t → Begins x.call.verb e.entry.deed → t ≤ (after_event s e).last
              by_told None none q starts = let same = top x.call.verb e.entry.deed tx starts none in let at : e.entry.ticket ≡ t = told_open e.entry.ticket t None q in omega arith
              by_told (Some a) some q starts = absurd (cc)

              by_stage : (stage : Stage) → Moves x.call stage e.entry → stage_after stage e.entry ≡ Open t → t ≤ (after_event s e).last
              by_stage Ahead moves q = by_told (told_by e.entry.deed) refl q moves.0
              by_stage (Open v) moves q = absurd (cc)
              by_stage Over moves q = absurd moves

module _ (k : Kind) (calls : List Call) (u : IsDoubled calls) where
  only : (n : ℕ) (c : Call) → slice_get calls n ≡ Some c → Gives c.verb u.mark → n ≡ u.giver
  only n c known gives = u.only n c (got_below calls n c known) known gives

  race : (events : List Event) (s : State) (time : ℕ) (stages : ℕ → Stage) → IsRace k calls u.mark u.giver only u.one u.other s stages → IsCourse k calls s time stages events → ⊥
  race [] s time stages b c = never_left k calls u.one (stages u.one.number) b.going_x (c.formed u.one.number u.one.call u.one.known)
  race (e ∷ events) s time stages b c = ⊎_elim
      (λ at. x_moves k calls u.mark u.giver only u.one u.other u.takes_one u.takes_other u.got_one u.got_other u.apart e events s time stages b c at.1
      (λ then. race events (after_event s e) e.time (later stages e) then (goes_on k calls s time stages e events c)))
      (λ not_one. ⊎_elim
      (λ at. x_moves k calls u.mark u.giver only u.other u.one u.takes_other u.takes_one u.got_other u.got_one (λ q. u.apart (sym q)) e events s time stages
      (flipped k calls u.mark u.giver only u.one u.other s stages b) c at.1
      (λ then. race events (after_event s e) e.time (later stages e) (flipped k calls u.mark u.giver only u.other u.one (after_event s e) (later stages e) then) (goes_on k calls s time stages e events c)))
      (λ not_other.
      let h = happens k calls s time stages e events c in
      let f = effect k s e.entry.seat e.entry.ticket e.entry.deed h.step in
      let last = f.last in
      let one_is : later stages e u.one.number ≡ stages u.one.number = still k calls u.one stages e not_one.1 in
      let other_is : later stages e u.other.number ≡ stages u.other.number = still k calls u.other stages e not_other.1 in
      race events (after_event s e) e.time (later stages e) (record {
        well = well_stays k s e.entry.seat e.entry.ticket e.entry.deed b.well h.step;
        given = given_stays k calls u.mark u.giver only e s time stages h b.given;
        going_x = λ over. b.going_x (sym one_is ∙ over);
        going_y = λ over. b.going_y (sym other_is ∙ over);
        low_x = λ t is. let low = b.low_x t (sym one_is ∙ is) in omega arith;
        low_y = λ t is. let low = b.low_y t (sym other_is ∙ is) in omega arith;
        apart = λ t is also. b.apart t (sym one_is ∙ is) (sym other_is ∙ also);
      }) (goes_on k calls s time stages e events c))
      (eqb_tells e.call u.other.number))
      (eqb_tells e.call u.one.number)

-- so nothing explains the calls
pub doubled_explains : (k : Kind) (calls : List Call) → IsDoubled calls → (history : List (Record Deed)) → Explains k calls history → ⊥
doubled_explains k calls u history explains =
    race k calls u explains.events empty 0 (λ n. Ahead)
    (record {
      well = well_empty;
      given = inl (record { ahead = refl; line = λ e there item. Contains-nil e there; pairs = λ p there is. Contains-nil p there });
      going_x = λ over. absurd (cc);
      going_y = λ over. absurd (cc);
      low_x = λ t is. absurd (cc);
      low_y = λ t is. absurd (cc);
      apart = λ t is also. absurd (cc);
    })
    (whole_course k calls history explains)
