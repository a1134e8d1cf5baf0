-- The one next event of a call in a play.
use Rattle.std.proofs.Common.{◌≡◌, ℕ, Some, None, List, refl, sym, ap, ◌∙◌, subst}
use Rattle.std.specs.Prelude.{slice_get, max}
use Rattle.meet_tickets.specs.declared.places.Kind.{Kind}
use Rattle.meet_tickets.specs.declared.records.Record.{Record}
use Rattle.meet_tickets.specs.declared.records.Deed.{Deed}
use Rattle.meet_overlap.specs.declared.calls.Call.{Call}
use Rattle.meet_overlap.specs.Explaining.{Event}
use Rattle.meet_overlap.specs.Calls.{Tells, IsInTurn, IsWithin}
use Rattle.meet_overlap.specs.Known.{IsOnlyPlay, LeadsOn}
use Rattle.meet_overlap.specs.Plays.{play_ticket, Plays}
use Rattle.meet_overlap.specs.Search.{World, world_after, deed_of}

module _ (k : Kind) (calls : List Call) (w : World) (n : ℕ) (call : Call) (known : slice_get calls n ≡ Some call) where
  abbrev mine : (e : Event) → e.call ≡ n → Plays k calls w e → Type 0
  mine e at s = s.call ≡ call

  is_mine : (e : Event) → e.call ≡ n → (s : Plays k calls w e) → s.call ≡ call
  is_mine e at s = let there : slice_get calls n ≡ Some s.call = subst (λ x. slice_get calls x ≡ Some s.call) at s.known in cc

  -- its deed is the one that this call makes next
  deed_mine : (e : Event) → e.call ≡ n → Plays k calls w e → deed_of k w.moment.seats call (w.stages n) ≡ Some e.entry.deed
  deed_mine e at s =
      ap (λ c. deed_of k w.moment.seats c (w.stages n)) (sym (is_mine e at s))
      ∙ ap (λ x. deed_of k w.moment.seats s.call (w.stages x)) (sym at)
      ∙ s.deed

  -- where the call has no next deed it has no next event
  pub none_makes : deed_of k w.moment.seats call (w.stages n) ≡ None → (e : Event) → e.call ≡ n → Plays k calls w e → ⊥
  none_makes none e at s = let one = deed_mine e at s in absurd (cc)

  same_deed : (d : Deed) → deed_of k w.moment.seats call (w.stages n) ≡ Some d → (e : Event) → e.call ≡ n → Plays k calls w e → e.entry.deed ≡ d
  same_deed d is e at s = let one = deed_mine e at s in cc

  -- where it tells another answer it has none either
  pub none_tells : (d : Deed) → deed_of k w.moment.seats call (w.stages n) ≡ Some d → (Tells call d → ⊥) → (e : Event) → e.call ≡ n → Plays k calls w e → ⊥
  none_tells d is not_told e at s =
      not_told (subst (Tells call) (same_deed d is e at s) (subst (λ c. Tells c e.entry.deed) (is_mine e at s) s.tells))

  same_time : (e : Event) → e.call ≡ n → Plays k calls w e → e.time ≡ max w.time call.begin
  same_time e at s = s.time ∙ ap (λ c. max w.time c.begin) (is_mine e at s)

  -- nor where its time is not in the call
  pub none_within : (d : Deed) → deed_of k w.moment.seats call (w.stages n) ≡ Some d → (IsWithin call (max w.time call.begin) d → ⊥) → (e : Event) → e.call ≡ n → Plays k calls w e → ⊥
  none_within d is not_within e at s =
      let one : IsWithin call e.time e.entry.deed = subst (λ c. IsWithin c e.time e.entry.deed) (is_mine e at s) s.within in
      let two : IsWithin call (max w.time call.begin) e.entry.deed = subst (λ t. IsWithin call t e.entry.deed) (same_time e at s) one in
      not_within (subst (IsWithin call (max w.time call.begin)) (same_deed d is e at s) two)

  -- nor where a later call of its seat has begun
  pub none_turns : (IsInTurn calls w.stages n → ⊥) → (e : Event) → e.call ≡ n → Plays k calls w e → ⊥
  none_turns not_turn e at s = not_turn (subst (IsInTurn calls w.stages) at s.turn)

  -- else this is the only one
  pub only_next : (d : Deed) (t : ℕ) → deed_of k w.moment.seats call (w.stages n) ≡ Some d → t ≡ play_ticket w.moment.seats n call.verb (w.stages n) → Tells call d → IsWithin call (max w.time call.begin) d → IsInTurn calls w.stages n →
      IsOnlyPlay k calls w n (record { call = n; time = max w.time call.begin; entry = record { seat = call.seat; ticket = t; deed = d } })
  only_next d t is ticket tells within turn = record {
    call = refl;
    plays = record { call = call; known = known; seat = refl; ticket = ticket; deed = is; time = refl; tells = tells; within = within; turn = turn };
    only = λ f at s. same f at s;
  }
    where
      same_ticket : (f : Event) → f.call ≡ n → Plays k calls w f → f.entry.ticket ≡ t
      same_ticket f at s =
          s.ticket
          ∙ ap (λ c. play_ticket w.moment.seats f.call c.verb (w.stages f.call)) (is_mine f at s)
          ∙ ap (λ x. play_ticket w.moment.seats x call.verb (w.stages x)) at
          ∙ sym ticket

      same_seat : (f : Event) → f.call ≡ n → Plays k calls w f → f.entry.seat ≡ call.seat
      same_seat f at s = s.seat ∙ ap (λ c. c.seat) (is_mine f at s)

      joined : (f : Event) (m u : ℕ) (r : Record Deed) → f.call ≡ m → f.time ≡ u → f.entry ≡ r → Path Event f (record { call = m; time = u; entry = r })
      joined f m u r p q o =
          let one : Path Event f (record { call = m; time = f.time; entry = f.entry }) = ap (λ x. record { call = x; time = f.time; entry = f.entry }) p in
          let two : Path Event (record { call = m; time = f.time; entry = f.entry }) (record { call = m; time = u; entry = f.entry }) = ap (λ x. record { call = m; time = x; entry = f.entry }) q in
          let three : Path Event (record { call = m; time = u; entry = f.entry }) (record { call = m; time = u; entry = r }) = ap (λ x. record { call = m; time = u; entry = x }) o in
          one ∙ two ∙ three

      joined_entry : (r : Record Deed) (i u : ℕ) (x : Deed) → r.seat ≡ i → r.ticket ≡ u → r.deed ≡ x → Path (Record Deed) r (record { seat = i; ticket = u; deed = x })
      joined_entry r i u x p q o =
          let one : Path (Record Deed) r (record { seat = i; ticket = r.ticket; deed = r.deed }) = ap (λ y. record { seat = y; ticket = r.ticket; deed = r.deed }) p in
          let two : Path (Record Deed) (record { seat = i; ticket = r.ticket; deed = r.deed }) (record { seat = i; ticket = u; deed = r.deed }) = ap (λ y. record { seat = i; ticket = y; deed = r.deed }) q in
          let three : Path (Record Deed) (record { seat = i; ticket = u; deed = r.deed }) (record { seat = i; ticket = u; deed = x }) = ap (λ y. record { seat = i; ticket = u; deed = y }) o in
          one ∙ two ∙ three

      same : (f : Event) → f.call ≡ n → Plays k calls w f → f ≡ record { call = n; time = max w.time call.begin; entry = record { seat = call.seat; ticket = t; deed = d } }
      same f at s =
          joined f n (max w.time call.begin) (record { seat = call.seat; ticket = t; deed = d }) at (same_time f at s)
          (joined_entry f.entry call.seat t d (same_seat f at s) (same_ticket f at s) (same_deed d is f at s))

-- a step of a play leads on
pub play_leads : (k : Kind) (calls : List Call) (w : World) (n : ℕ) (call : Call) → slice_get calls n ≡ Some call → (d : Deed) (t time : ℕ) (then : World) →
    deed_of k w.moment.seats call (w.stages n) ≡ Some d → t ≡ play_ticket w.moment.seats n call.verb (w.stages n) → time ≡ max w.time call.begin → Tells call d → IsWithin call time d → IsInTurn calls w.stages n →
    then ≡ world_after k w (record { call = n; time = time; entry = record { seat = call.seat; ticket = t; deed = d } }) → LeadsOn k calls w n then
play_leads k calls w n call known d t time then is ticket at tells within turn leaves =
    let early : IsWithin call (max w.time call.begin) d = subst (λ x. IsWithin call x d) at within in
    record {
      event = record { call = n; time = max w.time call.begin; entry = record { seat = call.seat; ticket = t; deed = d } };
      only = only_next k calls w n call known d t is ticket tells early turn;
      leaves = leaves ∙ ap (λ x. world_after k w (record { call = n; time = x; entry = record { seat = call.seat; ticket = t; deed = d } })) at;
    }
