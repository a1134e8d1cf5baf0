-- If a call handed an item over that nobody may have got in time, no history explains the calls: a pair stays in the list
-- of pairs, so a call that was met can only end with the item of its pair.
use Rattle.std.proofs.Common.{◌≡◌, ◌≢◌, ℕ, ◌≤◌, Some, List, [], ◌∷◌, Contains, refl, sym, ap, ◌∙◌, subst, ⊎_elim, arith}
use Rattle.std.specs.Prelude.{IfSome}
use Rattle.std.proofs.lemmas.Bool.{cases_lt}
use Rattle.std.proofs.lemmas.Bool.Decides.{eqb_tells}
use Rattle.meet_tickets.specs.declared.lines.Entry.{Entry}
use Rattle.meet_tickets.specs.declared.places.Kind.{Kind}
use Rattle.meet_tickets.specs.declared.places.Side.TheVariants.{Giver, Taker}
use Rattle.meet_tickets.specs.declared.records.Cause.TheVariants.{Expired, Interrupted}
use Rattle.meet_tickets.specs.declared.records.Record.{Record}
use Rattle.meet_tickets.specs.declared.records.Deed.{Deed}
use Rattle.meet_tickets.specs.declared.records.Deed.TheVariants.{GiveWaits, GiveMeets, GiveFails, TakeMeets, EntryInterrupted, Done, Withdrawn}
use Rattle.meet_tickets.specs.Meeting.{end_of}
use Rattle.meet_tickets.specs.ByLists.{State, Pair, empty, IsStep, after}
use Rattle.meet_tickets.proofs.Lists.Members.{Contains-partner, Contains-nil}
use Rattle.meet_overlap.specs.declared.calls.Answer.TheVariants.{Went, Got as GotItem}
use Rattle.meet_overlap.specs.declared.calls.Patience.TheVariants.{Now, Forever, Timed}
use Rattle.meet_overlap.specs.declared.calls.Call.{Call}
use Rattle.meet_overlap.specs.declared.calls.Stage.{Stage}
use Rattle.meet_overlap.specs.declared.calls.Stage.TheVariants.{Ahead, Open, Over}
use Rattle.meet_overlap.specs.declared.calls.Verb.{Verb}
use Rattle.meet_overlap.specs.declared.calls.Verb.TheVariants.{Keep, Give, Take, Interrupt as InterruptSeat}
use Rattle.meet_overlap.specs.Calls.{Begins, Ends, Tells, Moves, told_by, stage_told, stage_after}
use Rattle.meet_overlap.specs.Explaining.{Event, Explains}
use Rattle.meet_overlap.specs.Marks.{HandsOver, IsTaking}
use Rattle.meet_overlap.specs.Reasons.{IsUntaken}
use Rattle.meet_overlap.proofs.Courses.{Happens, IsCourse, later, after_event, happens, goes_on, whole_course, never_left, own_call, own_time, still, too_late, answers}
use Rattle.meet_overlap.proofs.Effects.{NewPair, Effect, effect, IsWell, well_stays, well_empty}
use Rattle.meet_overlap.proofs.Promised.{AreOpenTakers, takers_stay, takes_it, gives_promised}
use Rattle.meet_overlap.proofs.Ways.{put_same}

module _ (k : Kind) (calls : List Call) (u : IsUntaken calls) where
  pub record IsUnmet (s : State) (stages : ℕ → Stage) : Type 0 where
    pub going : stages u.given.number ≡ Over → ⊥
    pub low : (t : ℕ) → stages u.given.number ≡ Open t → t ≤ s.last
    pub line : (t : ℕ) → stages u.given.number ≡ Open t → (e : Entry ℕ) → Contains s.line e → e.ticket ≡ t → e.item ≡ Some u.mark
    pub pairs : (t : ℕ) → stages u.given.number ≡ Open t → (p : Pair) → Contains s.pairs p → p.giver ≡ t → ⊥

  abbrev IsTold : Deed → Type 0
  IsTold d = IfSome (told_by d) (λ a. a ≡ Went)

  is_told : (d : Deed) → Tells u.given.call d → IsTold d
  is_told d tells = answers k calls u.given Went u.went d tells

  -- how its request goes: it waits, or meets a taker
  abbrev Requests : Deed → Type 0
  Requests (GiveWaits m) = m ≡ u.mark
  Requests (GiveMeets m v) = m ≡ u.mark
  Requests d = ⊥

  own_begins : (verb : Verb) (d : Deed) → HandsOver verb u.mark → Begins verb d → IsTold d → Requests d
  own_begins (Keep m) d hands b told = absurd hands
  own_begins (Take p) d hands b told = absurd hands
  own_begins (InterruptSeat j) d hands b told = absurd hands
  own_begins (Give p m) (GiveMeets n v) hands b told = b ∙ hands
  own_begins (Give Now m) (GiveFails n) hands b told = absurd (cc)
  own_begins (Give Forever m) (GiveWaits n) hands b told = b ∙ hands
  own_begins (Give Timed m) (GiveWaits n) hands b told = b ∙ hands
  own_begins (Give Forever m) (EntryInterrupted Giver) hands b told = absurd (cc)
  own_begins (Give Timed m) (EntryInterrupted Giver) hands b told = absurd (cc)
  own_begins (Give p m) d hands b told = absurd b

  own_ends : (s : State) (i t : ℕ) (verb : Verb) (d : Deed) → ((p : Pair) → Contains s.pairs p → p.giver ≡ t → ⊥) → HandsOver verb u.mark → Ends verb d → IsStep k s i t d → IsTold d → ⊥
  own_ends s i t (Keep m) d none hands b step told = hands
  own_ends s i t (Take p) d none hands b step told = hands
  own_ends s i t (InterruptSeat j) d none hands b step told = hands
  own_ends s i t (Give p m) Done none hands b step told = none step.1.0 step.1.1 step.1.2
  own_ends s i t (Give Timed m) (Withdrawn Expired) none hands b step told = absurd (cc)
  own_ends s i t (Give p m) (Withdrawn Interrupted) none hands b step told = absurd (cc)
  own_ends s i t (Give p m) d none hands b step told = b

  untaken : (events : List Event) (s : State) (time : ℕ) (stages : ℕ → Stage) → IsWell s → AreOpenTakers calls stages time s → IsUnmet s stages → IsCourse k calls s time stages events → ⊥
  untaken [] s time stages well takers n c = never_left k calls u.given (stages u.given.number) n.going (c.formed u.given.number u.given.call u.given.known)
  untaken (e ∷ events) s time stages well takers n c =
      let h = happens k calls s time stages e events c in
      let go : IsUnmet (after_event s e) (later stages e) → ⊥ = λ unmet. untaken events (after_event s e) e.time (later stages e)
      (well_stays k s e.entry.seat e.entry.ticket e.entry.deed well h.step) (takers_stay k calls s time stages e well takers h) unmet (goes_on k calls s time stages e events c) in
      ⊎_elim (λ q. mine go q.1) (λ q. theirs go q.1) (eqb_tells e.call u.given.number)
    where
      h : Happens k calls s time stages e
      h = happens k calls s time stages e events c

      f : Effect s (after_event s e) e.entry.ticket e.entry.deed
      f = effect k s e.entry.seat e.entry.ticket e.entry.deed h.step

      -- it meets a taker, which is promised its item
      meets_one : e.call ≡ u.given.number → (m v : ℕ) → e.entry.deed ≡ GiveMeets m v → m ≡ u.mark → ⊥
      meets_one at m v is mark =
          gives_promised k calls u.mark u.given.returned.at u.none e events s time stages well takers c v (is ∙ ap (λ y. GiveMeets y v) mark) (own_time k calls u.given e at h.of)

      -- it goes to wait
      waits : (IsUnmet (after_event s e) (later stages e) → ⊥) → e.call ≡ u.given.number → (m : ℕ) → e.entry.deed ≡ GiveWaits m → m ≡ u.mark → stages e.call ≡ Ahead → ⊥
      waits go at m is mark ahead =
          let step : IsStep k s e.entry.seat e.entry.ticket (GiveWaits m) = subst (IsStep k s e.entry.seat e.entry.ticket) is h.step in
          let above = step.0.above in
          let eff : Effect s (after s e.entry.seat e.entry.ticket (GiveWaits m)) e.entry.ticket (GiveWaits m) = effect k s e.entry.seat e.entry.ticket (GiveWaits m) step in
          let now : later stages e u.given.number ≡ Open e.entry.ticket =
          ap (later stages e) (sym at) ∙ put_same stages e.call (stage_after (stages e.call) e.entry) ∙ ap (λ x. stage_after x e.entry) ahead ∙ ap (λ x. stage_told e.entry.ticket (told_by x)) is in
          go (subst (λ x. IsUnmet (after s e.entry.seat e.entry.ticket x) (later stages e)) (sym is) (record {
            going = λ over. let q = sym now ∙ over in absurd (cc);
            low = λ x stage. let same : e.entry.ticket ≡ x = let q = sym now ∙ stage in cc in omega arith;
            line = λ x stage g there at. let same : e.entry.ticket ≡ x = let q = sym now ∙ stage in cc in
                ⊎_elim (λ q. let low = well.line g q.0 in absurd (omega arith)) (λ q. q.item ∙ ap Some mark) (eff.line g there);
            pairs = λ x stage p there at. let same : e.entry.ticket ≡ x = let q = sym now ∙ stage in cc in
                ⊎_elim (λ q. let low = well.givers p q in absurd (omega arith)) (λ q. absurd q) (eff.pairs p there);
          }))

      requests : (IsUnmet (after_event s e) (later stages e) → ⊥) → e.call ≡ u.given.number → stages e.call ≡ Ahead → (x : Deed) → e.entry.deed ≡ x → Requests x → ⊥
      requests go at ahead (GiveWaits m) is mark = waits go at m is mark ahead
      requests go at ahead (GiveMeets m v) is mark = meets_one at m v is mark
      requests go at ahead x is none = none

      mine : (IsUnmet (after_event s e) (later stages e) → ⊥) → e.call ≡ u.given.number → ⊥
      mine go at = by_stage (stages e.call) refl (subst (λ c. Moves c (stages e.call) e.entry) (own_call k calls u.given e at h.of) h.moves)
        where
          by_stage : (stage : Stage) → stages e.call ≡ stage → Moves u.given.call stage e.entry → ⊥
          by_stage Ahead is moves = requests go at is e.entry.deed refl (own_begins u.given.call.verb e.entry.deed u.hands moves.0 (is_told e.entry.deed moves.1))
          by_stage (Open x) is moves = own_ends s e.entry.seat e.entry.ticket u.given.call.verb e.entry.deed
              (λ p there same. n.pairs x (ap stages (sym at) ∙ is) p there (same ∙ moves.0)) u.hands moves.1 h.step (is_told e.entry.deed moves.2)
          by_stage Over is moves = moves

      -- another call meets it: then that got the item, if it isn't too late
      taken : e.call ≢ u.given.number → (x : ℕ) → stages u.given.number ≡ Open x → (y : Deed) → e.entry.deed ≡ y → (p : Pair) → NewPair y e.entry.ticket p → p.giver ≡ x → ⊥
      taken other x stage (GiveMeets m v) is p new same =
          let step : IsStep k s e.entry.seat e.entry.ticket (GiveMeets m v) = subst (IsStep k s e.entry.seat e.entry.ticket) is h.step in
          let giver : p.giver ≡ e.entry.ticket = ap (λ (x : Pair). x.giver) new in
          let above = step.0.above in let low = n.low x stage in absurd (omega arith)
      taken other x stage (TakeMeets m v) is p new same =
          let step : IsStep k s e.entry.seat e.entry.ticket (TakeMeets m v) = subst (IsStep k s e.entry.seat e.entry.ticket) is h.step in
          let g = step.1.0 in
          let there = Contains-partner (end_of k.order) s.line Taker g step.1.1 in
          let giver : p.giver ≡ v = ap (λ (x : Pair). x.giver) new in
          let item = n.line x stage g there (step.1.2 ∙ sym giver ∙ same) in
          let mark : m ≡ u.mark = let q = sym step.1.3 ∙ item in cc in
          let begun = h.of.within.begun in
          ⊎_elim
          (λ late. too_late k calls u.given events (after_event s e) e.time (later stages e) (λ over. n.going (sym (still k calls u.given stages e other) ∙ over)) late (goes_on k calls s time stages e events c))
          (λ le. by_stage (stages e.call) h.moves m v is mark (omega arith))
          (cases_lt u.given.returned.at e.time)
        where
          takes : (verb : Verb) (m v : ℕ) → Begins verb (TakeMeets m v) → IsTaking verb
          takes (Take p) m v b = tt
          takes (Keep x) m v b = absurd b
          takes (Give p x) m v b = absurd b
          takes (InterruptSeat j) m v b = absurd b

          never : (verb : Verb) (m v : ℕ) → Ends verb (TakeMeets m v) → ⊥
          never (Keep x) m v b = b
          never (Give p x) m v b = b
          never (Take p) m v b = b
          never (InterruptSeat j) m v b = b

          by_stage : (stage : Stage) → Moves h.of.call stage e.entry → (m v : ℕ) → e.entry.deed ≡ TakeMeets m v → m ≡ u.mark → h.of.call.begin ≤ u.given.returned.at → ⊥
          by_stage Ahead moves m v is mark begun =
              takes_it k calls u.mark u.given.returned.at u.none e.call h.of.call h.of.known (takes h.of.call.verb m v (subst (Begins h.of.call.verb) is moves.0)) begun
              (subst (λ x. IfSome h.of.call.returned (λ r. r.answer ≡ GotItem x)) mark (subst (Tells h.of.call) is moves.1))
          by_stage (Open y) moves m v is mark begun = never h.of.call.verb m v (subst (Ends h.of.call.verb) is moves.1)
          by_stage Over moves m v is mark begun = moves
      taken other x stage y is p new same = new

      theirs : (IsUnmet (after_event s e) (later stages e) → ⊥) → e.call ≢ u.given.number → ⊥
      theirs go other = go (record {
        going = λ over. n.going (sym (still k calls u.given stages e other) ∙ over);
        low = λ x stage. let low = n.low x (sym (still k calls u.given stages e other) ∙ stage) in let last = f.last in omega arith;
        line = λ x stage g there at. ⊎_elim
            (λ q. n.line x (sym (still k calls u.given stages e other) ∙ stage) g q.0 at)
            (λ q. let low = n.low x (sym (still k calls u.given stages e other) ∙ stage) in let above = q.above in let ticket = q.ticket in absurd (omega arith))
            (f.line g there);
        pairs = λ x stage p there at. ⊎_elim
            (λ q. n.pairs x (sym (still k calls u.given stages e other) ∙ stage) p q at)
            (λ q. taken other x (sym (still k calls u.given stages e other) ∙ stage) e.entry.deed refl p q at)
            (f.pairs p there);
      })

-- so nothing explains the calls
pub untaken_explains : (k : Kind) (calls : List Call) → IsUntaken calls → (history : List (Record Deed)) → Explains k calls history → ⊥
untaken_explains k calls u history explains =
    untaken k calls u explains.events empty 0 (λ n. Ahead) well_empty
    (λ e there none. absurd (Contains-nil e there))
    (record {
      going = λ over. absurd (cc);
      low = λ t stage. absurd (cc);
      line = λ t stage e there at. absurd (Contains-nil e there);
      pairs = λ t stage p there at. Contains-nil p there;
    })
    (whole_course k calls history explains)
