-- What the search makes is allowed by the rules and by the call's form.
use Rattle.std.proofs.Common.{◌≡◌, ◌⊎◌, ℕ, ◌<◌, ◌==◌, Bool, true, false, IsSome, is_some, Option, Some, None, find, List, refl, sym, ap, ◌∙◌, subst, inl, inr, ⊎_elim}
use Rattle.std.specs.Option.{option_map_or}
use Rattle.std.specs.Prelude.{option_map, nat_lt, if◌then◌else◌, MatchOption, ⊤}
use Rattle.std.proofs.lemmas.Bool.{eqb-true, ltb-true, lt-ltb}
use Rattle.meet_tickets.specs.declared.lines.Entry.{Entry}
use Rattle.meet_tickets.specs.declared.lines.Hold.{Hold}
use Rattle.meet_tickets.specs.declared.lines.Hold.TheVariants.{Free, Waiting, Handed, Served, Cut}
use Rattle.meet_tickets.specs.declared.places.Side.TheVariants.{Giver, Taker}
use Rattle.meet_tickets.specs.declared.places.Kind.{Kind}
use Rattle.meet_tickets.specs.declared.records.Cause.TheVariants.{Expired, Interrupted}
use Rattle.meet_tickets.specs.declared.records.Deed.{Deed}
use Rattle.meet_tickets.specs.declared.records.Deed.TheVariants.{GiveWaits, GiveMeets, GiveFails, GiveKept, TakeWaits, TakeMeets, TakeFails, EntryInterrupted, Done, Got, Withdrawn, Interrupt}
use Rattle.meet_tickets.specs.Meeting.{end_of, partner, keeps, kept_count, Alone, MayKeep}
use Rattle.meet_tickets.specs.BySeat.{Seats, Allows, open_ticket, entry_of, cut_ticket}
use Rattle.meet_overlap.specs.declared.calls.Patience.{Patience}
use Rattle.meet_overlap.specs.declared.calls.Patience.TheVariants.{Now, Forever, Timed}
use Rattle.meet_overlap.specs.declared.calls.Verb.{Verb}
use Rattle.meet_overlap.specs.declared.calls.Verb.TheVariants.{Keep, Give, Take, Interrupt as InterruptSeat}
use Rattle.meet_overlap.specs.declared.calls.Call.{Call}
use Rattle.meet_overlap.specs.declared.calls.Stage.{Stage}
use Rattle.meet_overlap.specs.declared.calls.Stage.TheVariants.{Ahead, Open, Over}
use Rattle.meet_overlap.specs.Calls.{Begins, Ends}
use Rattle.meet_overlap.specs.Explaining.{FailsFull}
use Rattle.meet_overlap.specs.Search.{may_keep, giving, taking, giving_alone, taking_alone, unless_open, request_of, giver_ending, taker_ending, ending_of, is_held, deed_of}

-- a request is of a free seat
opened : (h : Hold ℕ) (o : Option Deed) (d : Deed) → unless_open h o ≡ Some d → (h ≡ Free) × (o ≡ Some d)
opened Free o d e = (refl, e)
opened (Waiting t) o d e = absurd (cc)
opened (Handed t u mark) o d e = absurd (cc)
opened (Served t u item) o d e = absurd (cc)
opened (Cut t item) o d e = absurd (cc)

-- whom a giver meets
pub record Meets (m : ℕ) (o : Option (Entry ℕ)) (d : Deed) : Type 0 where
  pub entry : Entry ℕ
  pub found : o ≡ Some entry
  pub item : entry.item ≡ None
  pub deed : GiveMeets m entry.ticket ≡ d

-- whom a taker meets
pub record Takes (o : Option (Entry ℕ)) (d : Deed) : Type 0 where
  pub entry : Entry ℕ
  pub mark : ℕ
  pub found : o ≡ Some entry
  pub item : entry.item ≡ Some mark
  pub deed : TakeMeets mark entry.ticket ≡ d

-- a giver finds nobody, or a taker
giver_finds : (m : ℕ) (o : Option (Entry ℕ)) (alone : Option Deed) (d : Deed) → option_map_or (giving m) o alone ≡ Some d →
    ((o ≡ None) × (alone ≡ Some d)) ⊎ Meets m o d
giver_finds m None alone d e = inl (refl, e)
giver_finds m (Some entry) alone d e = inr (by_item entry.item refl e)
  where
    by_item : (item : Option ℕ) → entry.item ≡ item → option_map_or (λ _. None) item (Some (GiveMeets m entry.ticket)) ≡ Some d → Meets m (Some entry) d
    by_item None is e = record { entry = entry; found = refl; item = is; deed = cc }
    by_item (Some x) is e = absurd (cc)

-- a taker finds nobody, or a giver
taker_finds : (o : Option (Entry ℕ)) (alone : Option Deed) (d : Deed) → option_map_or taking o alone ≡ Some d →
    ((o ≡ None) × (alone ≡ Some d)) ⊎ Takes o d
taker_finds None alone d e = inl (refl, e)
taker_finds (Some entry) alone d e = inr (by_item entry.item refl e)
  where
    by_item : (item : Option ℕ) → entry.item ≡ item → option_map (λ m. TakeMeets m entry.ticket) item ≡ Some d → Takes (Some entry) d
    by_item None is e = absurd (cc)
    by_item (Some x) is e = record { entry = entry; mark = x; found = refl; item = is; deed = cc }

-- whether as many items as a line keeps are fewer than a bound
abbrev within_bound : List (Entry ℕ) → Option ℕ → Bool
within_bound line bound = option_map_or (λ most. nat_lt (kept_count line) most) bound true

-- an item that may be kept is kept, and any other fails
kept_may : (k : Kind) (line : List (Entry ℕ)) (m : ℕ) (d : Deed) → (if may_keep k line then Some (GiveKept m) else Some (GiveFails m)) ≡ Some d →
    (MayKeep k line × (GiveKept m ≡ d)) ⊎ ((MayKeep k line → ⊥) × (GiveFails m ≡ d))
kept_may k line m d e = by_order (keeps k.order) refl e
  where
    by_test : (b : Bool) → within_bound line k.bound ≡ b → keeps k.order ≡ true → (if b then Some (GiveKept m) else Some (GiveFails m)) ≡ Some d
        → (MayKeep k line × (GiveKept m ≡ d)) ⊎ ((MayKeep k line → ⊥) × (GiveFails m ≡ d))
    by_test true is order e = inl ((order, within k.bound is), (cc))
      where
        within : (bound : Option ℕ) → within_bound line bound ≡ true → MatchOption bound ⊤ (λ most. kept_count line < most)
        within None is = tt
        within (Some most) is = ltb-true (kept_count line) most is
    by_test false is order e = inr (λ may. beyond k.bound is may.1, (cc))
      where
        beyond : (bound : Option ℕ) → within_bound line bound ≡ false → MatchOption bound ⊤ (λ most. kept_count line < most) → ⊥
        beyond None is may = absurd (cc)
        beyond (Some most) is may = let there = lt-ltb (kept_count line) most may in absurd (cc)

    by_order : (b : Bool) → keeps k.order ≡ b → (if (if b then within_bound line k.bound else false) then Some (GiveKept m) else Some (GiveFails m)) ≡ Some d
        → (MayKeep k line × (GiveKept m ≡ d)) ⊎ ((MayKeep k line → ⊥) × (GiveFails m ≡ d))
    by_order true is e = by_test (within_bound line k.bound) refl is e
    by_order false is e = inr (λ may. let order = may.0 in absurd (cc), (cc))

-- what a request that waits where it may makes: the first where its seat is flagged, else the second
flag_tells : (flag : Bool) (x y d : Deed) → Some (if flag then x else y) ≡ Some d → ((flag ≡ true) × (x ≡ d)) ⊎ ((flag ≡ false) × (y ≡ d))
flag_tells true x y d e = inl (refl, cc)
flag_tells false x y d e = inr (refl, cc)

module _ (k : Kind) (s : Seats ℕ) (i t : ℕ) where
  abbrev Right : Verb → Deed → Type 0
  Right verb d = Begins verb d × Allows k s i t d

  giver_alone : (m : ℕ) (p : Patience) (d : Deed) → s.holds i ≡ Free → Alone k s.line Giver → giving_alone k s.line (s.flags i) (Give p m) ≡ Some d → Right (Give p m) d
  giver_alone m Now d free alone e = let is : GiveFails m ≡ d = cc in subst (Right (Give Now m)) is (refl, (free, alone))
  giver_alone m Forever d free alone e =
      ⊎_elim
      (λ q. subst (Right (Give Forever m)) q.1 (tt, (free, alone, q.0)))
      (λ q. subst (Right (Give Forever m)) q.1 (refl, (free, alone, q.0)))
      (flag_tells (s.flags i) (EntryInterrupted Giver) (GiveWaits m) d e)
  giver_alone m Timed d free alone e =
      ⊎_elim
      (λ q. subst (Right (Give Timed m)) q.1 (tt, (free, alone, q.0)))
      (λ q. subst (Right (Give Timed m)) q.1 (refl, (free, alone, q.0)))
      (flag_tells (s.flags i) (EntryInterrupted Giver) (GiveWaits m) d e)

  taker_alone : (p : Patience) (d : Deed) → s.holds i ≡ Free → Alone k s.line Taker → taking_alone (s.flags i) p ≡ Some d → Right (Take p) d
  taker_alone Now d free alone e = let is : TakeFails ≡ d = cc in subst (Right (Take Now)) is (tt, (free, alone))
  taker_alone Forever d free alone e =
      ⊎_elim
      (λ q. subst (Right (Take Forever)) q.1 (tt, (free, alone, q.0)))
      (λ q. subst (Right (Take Forever)) q.1 (tt, (free, alone, q.0)))
      (flag_tells (s.flags i) (EntryInterrupted Taker) TakeWaits d e)
  taker_alone Timed d free alone e =
      ⊎_elim
      (λ q. subst (Right (Take Timed)) q.1 (tt, (free, alone, q.0)))
      (λ q. subst (Right (Take Timed)) q.1 (tt, (free, alone, q.0)))
      (flag_tells (s.flags i) (EntryInterrupted Taker) TakeWaits d e)

  -- the request that the search makes is allowed; an interrupt's ticket is the one that is cut
  pub request_allowed : (verb : Verb) (d : Deed) → ((j : ℕ) → verb ≡ InterruptSeat j → t ≡ cut_ticket s j) → request_of k s i verb ≡ Some d → Right verb d
  request_allowed (Keep m) d cut e =
      let o = opened (s.holds i) (option_map_or (giving m) (partner (end_of k.order) s.line Giver) (giving_alone k s.line (s.flags i) (Keep m))) d e in
      ⊎_elim
      (λ n. ⊎_elim
      (λ r. subst (Right (Keep m)) r.1 (refl, (o.0, n.0, r.0)))
      (λ r. subst (Right (Keep m)) r.1 (refl, (o.0, n.0)))
      (kept_may k s.line m d n.1))
      (λ g. subst (Right (Keep m)) g.deed (refl, (o.0, (g.entry, g.found, refl, g.item))))
      (giver_finds m (partner (end_of k.order) s.line Giver) (giving_alone k s.line (s.flags i) (Keep m)) d o.1)
  request_allowed (Give p m) d cut e =
      let o = opened (s.holds i) (option_map_or (giving m) (partner (end_of k.order) s.line Giver) (giving_alone k s.line (s.flags i) (Give p m))) d e in
      ⊎_elim
      (λ n. giver_alone m p d o.0 n.0 n.1)
      (λ g. subst (Right (Give p m)) g.deed (refl, (o.0, (g.entry, g.found, refl, g.item))))
      (giver_finds m (partner (end_of k.order) s.line Giver) (giving_alone k s.line (s.flags i) (Give p m)) d o.1)
  request_allowed (Take p) d cut e =
      let o = opened (s.holds i) (option_map_or taking (partner (end_of k.order) s.line Taker) (taking_alone (s.flags i) p)) d e in
      ⊎_elim
      (λ n. taker_alone p d o.0 n.0 n.1)
      (λ g. subst (Right (Take p)) g.deed (tt, (o.0, (g.entry, g.found, refl, g.item))))
      (taker_finds (partner (end_of k.order) s.line Taker) (taking_alone (s.flags i) p) d o.1)
  request_allowed (InterruptSeat j) d cut e =
      let is : Interrupt j ≡ d = cc in subst (Right (InterruptSeat j)) is (refl, cut j refl)

  abbrev RightEnd : Verb → Deed → Type 0
  RightEnd verb d = Ends verb d × Allows k s i t d

  -- what a test says of an expiry
  test_tells : (b : Bool) (d : Deed) → (if b then Some (Withdrawn Expired) else None) ≡ Some d → (b ≡ true) × (Withdrawn Expired ≡ d)
  test_tells true d e = (refl, cc)
  test_tells false d e = absurd (cc)

  -- the ticket that is held is this one
  held_is : (h : Hold ℕ) (u : ℕ) → open_ticket h ≡ Some u → is_held t h ≡ true → u ≡ t
  held_is h u o b = eqb-true u t (sym (ap (λ x. option_map_or (λ v. v == t) x false) o) ∙ b)

  giver_ends : (m : ℕ) (p : Patience) (h : Hold ℕ) (d : Deed) → s.holds i ≡ h → is_held t h ≡ true → giver_ending s.line p h ≡ Some d → RightEnd (Give p m) d
  giver_ends m p Free d is b e = absurd (cc)
  giver_ends m Now (Waiting u) d is b e = absurd (cc)
  giver_ends m Forever (Waiting u) d is b e = absurd (cc)
  giver_ends m Timed (Waiting u) d is b e =
      let r = test_tells (is_some (find (λ x. x.ticket == u) s.line)) d e in
      let same : u ≡ t = eqb-true u t b in
      let some : IsSome (entry_of s.line (s.holds i)) = subst (λ x. IsSome (entry_of s.line x)) (sym is) r.0 in
      subst (RightEnd (Give Timed m)) r.1 (tt, (is ∙ ap Waiting same, some))
  giver_ends m p (Handed u v mark) d is b e =
      let done : Done ≡ d = cc in
      let same : u ≡ t = eqb-true u t b in
      subst (RightEnd (Give p m)) done (tt, (v, mark, is ∙ ap (λ x. Handed x v mark) same))
  giver_ends m p (Served u v item) d is b e = absurd (cc)
  giver_ends m p (Cut u item) d is b e =
      let done : Withdrawn Interrupted ≡ d = cc in
      let same : u ≡ t = eqb-true u t b in
      subst (RightEnd (Give p m)) done (tt, (item, is ∙ ap (λ x. Cut x item) same))

  taker_ends : (p : Patience) (h : Hold ℕ) (d : Deed) → s.holds i ≡ h → is_held t h ≡ true → taker_ending s.line p h ≡ Some d → RightEnd (Take p) d
  taker_ends p Free d is b e = absurd (cc)
  taker_ends Now (Waiting u) d is b e = absurd (cc)
  taker_ends Forever (Waiting u) d is b e = absurd (cc)
  taker_ends Timed (Waiting u) d is b e =
      let r = test_tells (is_some (find (λ x. x.ticket == u) s.line)) d e in
      let same : u ≡ t = eqb-true u t b in
      let some : IsSome (entry_of s.line (s.holds i)) = subst (λ x. IsSome (entry_of s.line x)) (sym is) r.0 in
      subst (RightEnd (Take Timed)) r.1 (tt, (is ∙ ap Waiting same, some))
  taker_ends p (Handed u v mark) d is b e = absurd (cc)
  taker_ends p (Served u v item) d is b e =
      let done : Got item v ≡ d = cc in
      let same : u ≡ t = eqb-true u t b in
      subst (RightEnd (Take p)) done (tt, is ∙ ap (λ x. Served x v item) same)
  taker_ends p (Cut u item) d is b e =
      let done : Withdrawn Interrupted ≡ d = cc in
      let same : u ≡ t = eqb-true u t b in
      subst (RightEnd (Take p)) done (tt, (item, is ∙ ap (λ x. Cut x item) same))

  -- the ending that the search makes is allowed
  pub ending_allowed : (verb : Verb) (d : Deed) → is_held t (s.holds i) ≡ true → ending_of s.line verb (s.holds i) ≡ Some d → RightEnd verb d
  ending_allowed (Keep m) d b e = absurd (cc)
  ending_allowed (Give p m) d b e = giver_ends m p (s.holds i) d refl b e
  ending_allowed (Take p) d b e = taker_ends p (s.holds i) d refl b e
  ending_allowed (InterruptSeat j) d b e = absurd (cc)

-- where the search has a put fail, the queue is full
pub fails_full : (k : Kind) (s : Seats ℕ) (call : Call) (stage : Stage) (d : Deed) → deed_of k s call stage ≡ Some d → FailsFull k s.line call.verb d
fails_full k s call stage d e = by_verb call.verb d (made stage e)
  where
    -- of a put: no ending has a deed
    made : (stage : Stage) → deed_of k s call stage ≡ Some d → (m : ℕ) → call.verb ≡ Keep m → request_of k s call.seat (Keep m) ≡ Some d
    made Ahead e m is = subst (λ v. request_of k s call.seat v ≡ Some d) is e
    made (Open t) e m is =
        let none : (if is_held t (s.holds call.seat) then ending_of s.line (Keep m) (s.holds call.seat) else None) ≡ Some d =
        subst (λ v. (if is_held t (s.holds call.seat) then ending_of s.line v (s.holds call.seat) else None) ≡ Some d) is e in
        absurd (never (is_held t (s.holds call.seat)) none)
      where
        never : (b : Bool) → (if b then None else None) ≡ Some d → ⊥
        never true e = absurd (cc)
        never false e = absurd (cc)
    made Over e m is = absurd (cc)

    alone_fails : (m n : ℕ) → request_of k s call.seat (Keep m) ≡ Some (GiveFails n) → MayKeep k s.line → ⊥
    alone_fails m n e =
        let o = opened (s.holds call.seat) (option_map_or (giving m) (partner (end_of k.order) s.line Giver) (giving_alone k s.line (s.flags call.seat) (Keep m))) (GiveFails n) e in
        ⊎_elim
        (λ f. ⊎_elim (λ r. let no = r.1 in absurd (cc)) (λ r. r.0) (kept_may k s.line m (GiveFails n) f.1))
        (λ g. let no = g.deed in absurd (cc))
        (giver_finds m (partner (end_of k.order) s.line Giver) (giving_alone k s.line (s.flags call.seat) (Keep m)) (GiveFails n) o.1)

    by_verb : (verb : Verb) (d : Deed) → ((m : ℕ) → verb ≡ Keep m → request_of k s call.seat (Keep m) ≡ Some d) → FailsFull k s.line verb d
    by_verb (Keep m) (GiveFails n) made = alone_fails m n (made m refl)
    by_verb verb d made = tt
