-- Where a call was met or cut, what leads nowhere behind its ending leads nowhere before it.
use Rattle.std.proofs.Common.{◌≡◌, ◌≢◌, ℕ, ◌+◌, ◌≤◌, false, cond, Some, None, List, [], ◌∷◌, refl, sym, ap, ◌∙◌, subst, ⊎_elim, arith}
use Rattle.std.specs.Prelude.{slice_get, max}
use Rattle.std.specs.Option.{option_map_or}
use Rattle.std.proofs.lemmas.Bool.Decides.{eqb_tells}
use Rattle.meet_tickets.specs.declared.lines.Entry.{Entry}
use Rattle.meet_tickets.specs.declared.lines.Hold.{Hold}
use Rattle.meet_tickets.specs.declared.lines.Hold.TheVariants.{Free, Waiting, Handed, Served, Cut}
use Rattle.meet_tickets.specs.declared.places.Kind.{Kind}
use Rattle.meet_tickets.specs.declared.records.Cause.TheVariants.{Interrupted}
use Rattle.meet_tickets.specs.declared.records.Deed.{Deed}
use Rattle.meet_tickets.specs.declared.records.Deed.TheVariants.{Done, Got, Withdrawn}
use Rattle.meet_tickets.specs.declared.places.Side.TheVariants.{Giver, Taker}
use Rattle.meet_tickets.specs.Meeting.{end_of, partner}
use Rattle.meet_tickets.specs.BySeat.{Seats, put_at, released, seats_after, is_request}
use Rattle.meet_overlap.specs.declared.calls.Call.{Call}
use Rattle.meet_overlap.specs.declared.calls.Stage.{Stage}
use Rattle.meet_overlap.specs.declared.calls.Stage.TheVariants.{Ahead, Open, Over}
use Rattle.meet_overlap.specs.declared.calls.Verb.{Verb}
use Rattle.meet_overlap.specs.declared.calls.Verb.TheVariants.{Keep, Give, Take, Interrupt as InterruptSeat}
use Rattle.meet_overlap.specs.Calls.{MayStop, stage_after}
use Rattle.meet_overlap.specs.Explaining.{Event}
use Rattle.meet_overlap.specs.Known.{IsBarren, IsSettled, IsSettledBy, LeadsOn}
use Rattle.meet_overlap.specs.Plays.{Plays, IsPlay, play_ticket}
use Rattle.meet_overlap.specs.Search.{World, world_after, giving, taking, giving_alone, taking_alone, unless_open, request_of, is_held, ending_of, deed_of}
use Rattle.meet_overlap.proofs.Answering.{held_by, if_some, none_requested, other_seat, opened}
use Rattle.meet_overlap.proofs.Reduced.{put_swap, entry_swap, seats_swap}
use Rattle.meet_overlap.proofs.Settled.{IsInterrupt, settled_kept}
use Rattle.meet_overlap.proofs.Ways.{put_same, put_other}

-- how a settled ticket ends releases its seat, and is no request
released_by : (k : Kind) (s : Seats ℕ) (i t u : ℕ) (line : List (Entry ℕ)) (v : Verb) (h : Hold ℕ) (d : Deed) → IsSettledBy u h → ending_of line v h ≡ Some d → (seats_after k s i t d ≡ released s i) × (is_request d ≡ false)
released_by k s i t u line v Free d settled is = absurd settled
released_by k s i t u line v (Waiting w) d settled is = absurd settled
released_by k s i t u line (Keep m) (Handed w x y) d settled is = absurd (cc)
released_by k s i t u line (Give p m) (Handed w x y) d settled is = let q : Done ≡ d = cc in subst (λ e. (seats_after k s i t e ≡ released s i) × (is_request e ≡ false)) q (refl, refl)
released_by k s i t u line (Take p) (Handed w x y) d settled is = absurd (cc)
released_by k s i t u line (InterruptSeat j) (Handed w x y) d settled is = absurd (cc)
released_by k s i t u line (Keep m) (Served w x y) d settled is = absurd (cc)
released_by k s i t u line (Give p m) (Served w x y) d settled is = absurd (cc)
released_by k s i t u line (Take p) (Served w x y) d settled is = let q : Got y x ≡ d = cc in subst (λ e. (seats_after k s i t e ≡ released s i) × (is_request e ≡ false)) q (refl, refl)
released_by k s i t u line (InterruptSeat j) (Served w x y) d settled is = absurd (cc)
released_by k s i t u line (Keep m) (Cut w y) d settled is = absurd (cc)
released_by k s i t u line (Give p m) (Cut w y) d settled is = let q : Withdrawn Interrupted ≡ d = cc in subst (λ e. (seats_after k s i t e ≡ released s i) × (is_request e ≡ false)) q (refl, refl)
released_by k s i t u line (Take p) (Cut w y) d settled is = let q : Withdrawn Interrupted ≡ d = cc in subst (λ e. (seats_after k s i t e ≡ released s i) × (is_request e ≡ false)) q (refl, refl)
released_by k s i t u line (InterruptSeat j) (Cut w y) d settled is = absurd (cc)

-- the world behind the ending of the call of this number
abbrev pub behind : World → (number seat : ℕ) → World
behind w n i = record { moment = record { last = w.moment.last; seats = released w.moment.seats i }; stages = put_at w.stages n Over; time = w.time }

-- worlds of the same parts
world_same : (l m : ℕ) (s r : Seats ℕ) (f g : ℕ → Stage) (t u : ℕ) → l ≡ m → s ≡ r → f ≡ g → t ≡ u →
    Path World (record { moment = record { last = l; seats = s }; stages = f; time = t }) (record { moment = record { last = m; seats = r }; stages = g; time = u })
world_same l m s r f g t u p q o z =
    let one : Path World (record { moment = record { last = l; seats = s }; stages = f; time = t }) (record { moment = record { last = m; seats = s }; stages = f; time = t }) = ap (λ x. record { moment = record { last = x; seats = s }; stages = f; time = t }) p in
    let two : Path World (record { moment = record { last = m; seats = s }; stages = f; time = t }) (record { moment = record { last = m; seats = r }; stages = f; time = t }) = ap (λ x. record { moment = record { last = m; seats = x }; stages = f; time = t }) q in
    let three : Path World (record { moment = record { last = m; seats = r }; stages = f; time = t }) (record { moment = record { last = m; seats = r }; stages = g; time = t }) = ap (λ x. record { moment = record { last = m; seats = r }; stages = x; time = t }) o in
    let four : Path World (record { moment = record { last = m; seats = r }; stages = g; time = t }) (record { moment = record { last = m; seats = r }; stages = g; time = u }) = ap (λ x. record { moment = record { last = m; seats = r }; stages = g; time = x }) z in
    one ∙ two ∙ three ∙ four

module _ (k : Kind) (calls : List Call) where
  -- the ending itself leads behind it
  pub ends_there : (w : World) (m : IsSettled calls w) (e : Event) → e.call ≡ m.number → Plays k calls w e → world_after k w e ≡ behind w m.number m.call.seat
  ends_there w m e at p =
      let known : slice_get calls e.call ≡ Some m.call = subst (λ n. slice_get calls n ≡ Some m.call) (sym at) m.known in
      let mine : p.call ≡ m.call = let theirs = p.known in cc in
      let stage : w.stages e.call ≡ Open (m.number + 1) = ap w.stages at ∙ m.stage in
      let made : deed_of k w.moment.seats m.call (Open (m.number + 1)) ≡ Some e.entry.deed =
      ap (λ c. deed_of k w.moment.seats c (Open (m.number + 1))) (sym mine) ∙ ap (deed_of k w.moment.seats p.call) (sym stage) ∙ p.deed in
      let ends = if_some (is_held (m.number + 1) (w.moment.seats.holds m.call.seat)) (ending_of w.moment.seats.line m.call.verb (w.moment.seats.holds m.call.seat)) e.entry.deed made in
      let seat : e.entry.seat ≡ m.call.seat = p.seat ∙ ap (λ c. c.seat) mine in
      let gone = released_by k w.moment.seats e.entry.seat e.entry.ticket (m.number + 1) w.moment.seats.line m.call.verb (w.moment.seats.holds m.call.seat) e.entry.deed m.settled ends.1 in
      let time : e.time ≡ w.time = p.time ∙ ap (λ c. max w.time c.begin) mine ∙ no_later w.time m.call.begin m.begun in
      world_same _ w.moment.last _ (released w.moment.seats m.call.seat) _ (put_at w.stages m.number Over) e.time w.time
      (ap (λ b. cond b e.entry.ticket w.moment.last) gone.1)
      (gone.0 ∙ ap (released w.moment.seats) seat)
      (ap (λ n. put_at w.stages n (stage_after (w.stages e.call) e.entry)) at ∙ ap (λ s. put_at w.stages m.number (stage_after s e.entry)) stage)
      time
    where
      no_later : (t b : ℕ) → b ≤ t → max t b ≡ t
      no_later t b le = omega arith

  -- who else moves is of another seat, or an interrupt
  others : (w : World) (m : IsSettled calls w) (e : Event) → e.call ≢ m.number → Plays k calls w e → m.call.seat ≡ e.entry.seat → IsInterrupt e.entry.deed
  others w m e other p q =
      other_seat k w.moment.seats p.call (w.stages e.call) e.entry.deed (m.number + 1)
      (subst (λ i. IsSettledBy (m.number + 1) (w.moment.seats.holds i)) (q ∙ p.seat) m.settled) (λ opens. other (m.alone e.call opens)) p.deed

  -- it stays so, as long as another moves
  pub settled_stays : (w : World) (m : IsSettled calls w) (e : Event) → e.call ≢ m.number → Plays k calls w e → IsSettled calls (world_after k w e)
  settled_stays w m e other p =
      let told = stage_after (w.stages e.call) e.entry in
      let kept = settled_kept k w.moment.seats m.call.seat e.entry.seat e.entry.ticket (m.number + 1) e.entry.deed m.settled m.gone (others w m e other p) in
      record {
        number = m.number;
        call = m.call;
        known = m.known;
        begun = let time = p.time in let begun = m.begun in omega arith;
        stage = put_other w.stages e.call told m.number (λ q. other (sym q)) ∙ m.stage;
        alone = λ n opens. ⊎_elim
            (λ q.
            let mine : told ≡ Open (m.number + 1) = sym (put_same w.stages e.call told) ∙ ap (put_at w.stages e.call told) (sym q.1) ∙ opens in
            let at = opened k calls w e (m.number + 1) p mine in
            absurd (other (omega arith)))
            (λ q. m.alone n (sym (put_other w.stages e.call told n q.1) ∙ opens))
            (eqb_tells n e.call);
        settled = subst (IsSettledBy (m.number + 1)) (sym kept.hold) m.settled;
        gone = kept.gone;
      }

  -- another's next deed is the same behind the ending
  deed_there : (w : World) (m : IsSettled calls w) (e : Event) → e.call ≢ m.number → (p : Plays k calls w e) (stage : Stage) → w.stages e.call ≡ stage →
      deed_of k w.moment.seats p.call stage ≡ Some e.entry.deed → deed_of k (released w.moment.seats m.call.seat) p.call stage ≡ Some e.entry.deed
  deed_there w m e other p stage at made = ⊎_elim
      (λ q. mine q.1 stage at made)
      (λ q. theirs q.1 stage made)
      (eqb_tells p.call.seat m.call.seat)
    where
      theirs : p.call.seat ≢ m.call.seat → (stage : Stage) → deed_of k w.moment.seats p.call stage ≡ Some e.entry.deed → deed_of k (released w.moment.seats m.call.seat) p.call stage ≡ Some e.entry.deed
      theirs ne Ahead made = by_verb p.call.verb made
        where
          by_verb : (v : Verb) → request_of k w.moment.seats p.call.seat v ≡ Some e.entry.deed → request_of k (released w.moment.seats m.call.seat) p.call.seat v ≡ Some e.entry.deed
          by_verb (Keep x) made = ap (λ h. unless_open h (option_map_or (giving x) (partner (end_of k.order) w.moment.seats.line Giver) (giving_alone k w.moment.seats.line (w.moment.seats.flags p.call.seat) (Keep x)))) (put_other w.moment.seats.holds m.call.seat Free p.call.seat ne) ∙ made
          by_verb (Give y x) made = ap (λ h. unless_open h (option_map_or (giving x) (partner (end_of k.order) w.moment.seats.line Giver) (giving_alone k w.moment.seats.line (w.moment.seats.flags p.call.seat) (Give y x)))) (put_other w.moment.seats.holds m.call.seat Free p.call.seat ne) ∙ made
          by_verb (Take y) made = ap (λ h. unless_open h (option_map_or taking (partner (end_of k.order) w.moment.seats.line Taker) (taking_alone (w.moment.seats.flags p.call.seat) y))) (put_other w.moment.seats.holds m.call.seat Free p.call.seat ne) ∙ made
          by_verb (InterruptSeat j) made = made
      theirs ne (Open t) made = ap (λ h. cond (is_held t h) (ending_of w.moment.seats.line p.call.verb h) None) (put_other w.moment.seats.holds m.call.seat Free p.call.seat ne) ∙ made
      theirs ne Over made = absurd (cc)

      mine : p.call.seat ≡ m.call.seat → (stage : Stage) → w.stages e.call ≡ stage → deed_of k w.moment.seats p.call stage ≡ Some e.entry.deed → deed_of k (released w.moment.seats m.call.seat) p.call stage ≡ Some e.entry.deed
      mine seat Ahead at made = by_verb p.call.verb made
        where
          settled : IsSettledBy (m.number + 1) (w.moment.seats.holds p.call.seat)
          settled = subst (λ n. IsSettledBy (m.number + 1) (w.moment.seats.holds n)) (sym seat) m.settled

          by_verb : (v : Verb) → request_of k w.moment.seats p.call.seat v ≡ Some e.entry.deed → request_of k (released w.moment.seats m.call.seat) p.call.seat v ≡ Some e.entry.deed
          by_verb (Keep x) made = absurd (none_requested (m.number + 1) (w.moment.seats.holds p.call.seat) (option_map_or (giving x) (partner (end_of k.order) w.moment.seats.line Giver) (giving_alone k w.moment.seats.line (w.moment.seats.flags p.call.seat) (Keep x))) e.entry.deed settled made)
          by_verb (Give y x) made = absurd (none_requested (m.number + 1) (w.moment.seats.holds p.call.seat) (option_map_or (giving x) (partner (end_of k.order) w.moment.seats.line Giver) (giving_alone k w.moment.seats.line (w.moment.seats.flags p.call.seat) (Give y x))) e.entry.deed settled made)
          by_verb (Take y) made = absurd (none_requested (m.number + 1) (w.moment.seats.holds p.call.seat) (option_map_or taking (partner (end_of k.order) w.moment.seats.line Taker) (taking_alone (w.moment.seats.flags p.call.seat) y)) e.entry.deed settled made)
          by_verb (InterruptSeat j) made = made
      mine seat (Open t) at made =
          let settled : IsSettledBy (m.number + 1) (w.moment.seats.holds p.call.seat) = subst (λ n. IsSettledBy (m.number + 1) (w.moment.seats.holds n)) (sym seat) m.settled in
          let q = if_some (is_held t (w.moment.seats.holds p.call.seat)) (ending_of w.moment.seats.line p.call.verb (w.moment.seats.holds p.call.seat)) e.entry.deed made in
          let same = held_by (m.number + 1) t (w.moment.seats.holds p.call.seat) settled q.0 in
          absurd (other (m.alone e.call (at ∙ ap Open same)))
      mine seat Over at made = absurd (cc)

  -- and so is its ticket
  ticket_there : (w : World) (m : IsSettled calls w) (n : ℕ) (v : Verb) (stage : Stage) → play_ticket (released w.moment.seats m.call.seat) n v stage ≡ play_ticket w.moment.seats n v stage
  ticket_there w m n (Keep x) Ahead = refl
  ticket_there w m n (Give y x) Ahead = refl
  ticket_there w m n (Take y) Ahead = refl
  ticket_there w m n (InterruptSeat j) Ahead = ap (λ found. option_map_or (λ f. f.ticket) found 0) (entry_swap m.call.seat w.moment.seats m.gone (m.number + 1) j m.settled)
  ticket_there w m n v (Open t) = refl
  ticket_there w m n v Over = refl

  -- so another plays behind the ending what it plays before it
  plays_there : (w : World) (m : IsSettled calls w) (e : Event) → e.call ≢ m.number → Plays k calls w e → Plays k calls (behind w m.number m.call.seat) e
  plays_there w m e other p =
      let stage : put_at w.stages m.number Over e.call ≡ w.stages e.call = put_other w.stages m.number Over e.call other in
      record {
        call = p.call;
        known = p.known;
        seat = p.seat;
        ticket = p.ticket ∙ sym (ticket_there w m e.call p.call.verb (w.stages e.call)) ∙ ap (play_ticket (released w.moment.seats m.call.seat) e.call p.call.verb) (sym stage);
        deed = ap (deed_of k (released w.moment.seats m.call.seat) p.call) stage ∙ deed_there w m e other p (w.stages e.call) refl p.deed;
        time = p.time;
        tells = p.tells;
        within = p.within;
        turn = λ n mine later lt own there same. ⊎_elim
            (λ q.
            let ahead : w.stages m.number ≡ Ahead = sym (ap w.stages q.1) ∙ p.turn n mine later lt own there same in
            let waits = m.stage in
            absurd (cc))
            (λ q. put_other w.stages m.number Over n q.1 ∙ p.turn n mine later lt own there same)
            (eqb_tells n m.number);
      }

  -- and leaves what the ending leaves behind it
  leaves_there : (w : World) (m : IsSettled calls w) (e : Event) (other : e.call ≢ m.number) → Plays k calls w e → world_after k (behind w m.number m.call.seat) e ≡ behind (world_after k w e) m.number m.call.seat
  leaves_there w m e other p =
      let stage : put_at w.stages m.number Over e.call ≡ w.stages e.call = put_other w.stages m.number Over e.call other in
      world_same _ _ _ _ _ _ e.time e.time refl
      (seats_swap k w.moment.seats m.call.seat e.entry.seat e.entry.ticket (m.number + 1) e.entry.deed m.settled m.gone (others w m e other p))
      (ap (λ s. put_at (put_at w.stages m.number Over) e.call (stage_after s e.entry)) stage ∙ put_swap w.stages m.number e.call Over (stage_after (w.stages e.call) e.entry) (λ q. other (sym q)))
      refl

  -- a play before the ending is one behind it, without it
  play_there : (run : List Event) (w : World) (m : IsSettled calls w) → IsPlay k calls w run → (there : List Event) × IsPlay k calls (behind w m.number m.call.seat) there
  unfolding settled_stays
  play_there [] w m is = (
    [],
    λ n call known. ⊎_elim
        (λ q. subst (MayStop call) (sym (ap (put_at w.stages m.number Over) q.1 ∙ put_same w.stages m.number Over)) tt)
        (λ q. subst (MayStop call) (sym (put_other w.stages m.number Over n q.1)) (is n call known))
        (eqb_tells n m.number),
  )
  play_there (e ∷ run) w m is = ⊎_elim
      (λ q. (run, subst (λ x. IsPlay k calls x run) (ends_there w m e q.1 is.0) is.1))
      (λ q.
      let rest = play_there run (world_after k w e) (settled_stays w m e q.1 is.0) is.1 in
      (e ∷ rest.0, (plays_there w m e q.1 is.0, subst (λ x. IsPlay k calls x rest.0) (sym (leaves_there w m e q.1 is.0)) rest.1)))
      (eqb_tells e.call m.number)

  -- where the ending of a settled call leads to what is barren, so is what was before it
  pub settled_barren : (w told : World) (m : IsSettled calls w) → LeadsOn k calls w m.number told → IsBarren k calls told → IsBarren k calls w
  settled_barren w told m leads none run is =
      let there = play_there run w m is in
      let same : told ≡ behind w m.number m.call.seat = leads.leaves ∙ ends_there w m leads.event leads.only.call leads.only.plays in
      none there.0 (subst (λ x. IsPlay k calls x there.0) (sym same) there.1)
