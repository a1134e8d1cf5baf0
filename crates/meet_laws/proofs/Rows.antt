-- Each ticket has one fate: the rows of the table exclude each other in a legal history, and one of them holds.
use Rattle.std.proofs.Common.{◌≡◌, ◌⊎◌, ◌↔◌, ℕ, ◌<◌, ◌==◌, refl, sym, ap, ◌∙◌, subst, inl, inr, ⊎_elim, Bool, true, false, ◌&&◌, ◌||◌, if◌then◌else◌, Option, Some, None, is_some, List, [], ◌∷◌, ◌++◌, find, Contains}
use Rattle.std.specs.Prelude.{nat_lt, option_and_then}
use Rattle.std.specs.List.{list_any}
use Rattle.std.specs.Option.{option_or, option_map_or}
use Rattle.std.proofs.lemmas.Bool.{true≢false, false≢true, eqb-true, eq-eqb, ltb-true, lt-ltb}
use Rattle.meet_tickets.specs.declared.fates.Fate.{Fate}
use Rattle.meet_tickets.specs.declared.fates.Fate.TheVariants.{Never, Failed, EntryRefused, Paired, Collected}
use Rattle.meet_tickets.specs.declared.fates.Fate.TheVariants.{Withdrawn as WasWithdrawn, Cut, Kept, Waiting, Past}
use Rattle.meet_tickets.specs.declared.places.Kind.{Kind}
use Rattle.meet_tickets.specs.declared.records.Record.{Record}
use Rattle.meet_tickets.specs.declared.records.Cause.{Cause}
use Rattle.meet_tickets.specs.declared.records.Cause.TheVariants.{Interrupted}
use Rattle.meet_tickets.specs.declared.records.Deed.{Deed}
use Rattle.meet_tickets.specs.declared.records.Deed.TheVariants.{GiveWaits, GiveMeets, GiveFails, GiveKept, TakeWaits, TakeMeets, TakeFails, EntryInterrupted, Done, Got, Withdrawn, Interrupt}
use Rattle.meet_tickets.specs.Bases.{Based, IsWellFormed, IsLegalOn}
use Rattle.meet_tickets.specs.BySeat.{is_request}
use Rattle.meet_tickets.specs.Fates.{opening, fate, is_past, named_by, tells_of_meeting, withdrawn_by, interrupts, waits_first}
use Rattle.meet_tickets.proofs.Told.Fated.{Joining, Gives, Keeps, Takes, deed_of, waits_of, blank, only_asked, only_met, only_cut}
use Rattle.meet_tickets.proofs.Lists.Members.{Contains-first, Contains-rest}
use Rattle.meet_tickets.proofs.Told.Said.{Said, said, said_after, fate_of, fate_asked_of, fate_is}
use Rattle.meet_laws.specs.Rows.{fails, is_refused, is_kept_deed, Has, HasMet, HasWithdrawn, IsUntouched, IsFate, HasOneFate}
use Rattle.meet_laws.proofs.Speaking.{Meets, given, taken, fetched, GoesOn, asks, meets, learns, leaves, returns, cuts, flags, Turned, stays, asked, met, learned, left, cut, returned, Speaks}
use Rattle.meet_laws.proofs.Told.{Course, unasked, has_asked, has_met, has_learned, has_left, was_cut, has_returned, course_of, carry, parted, IsMetBy, met_met}
use Rattle.meet_laws.proofs.Couples.{find_is, and_both, request_found, meeting_found, request_said, couple}
use Rattle.meet_laws.proofs.Begun.{legal_speaks}

-- one of the list passes
any_is : {X : Type 0} (p : X → Bool) (xs : List X) → list_any p xs ≡ true → (x : X) × Contains xs x × (p x ≡ true)
any_is p [] e = absurd (false≢true e)
any_is {X} p (y ∷ xs) e = by_test (p y) refl (any_is p xs) e
  where
    by_test : (b : Bool) → p y ≡ b → (list_any p xs ≡ true → (x : X) × Contains xs x × (p x ≡ true)) → (b || list_any p xs) ≡ true → (x : X) × Contains (y ∷ xs) x × (p x ≡ true)
    by_test true q later f = (y, Contains-first y xs, q)
    by_test false q later f = let rest = later f in (rest.0, Contains-rest y xs rest.0 rest.1, rest.2)

-- what is said that a ticket learned, why it was taken back, and that it was cut, are records
pub learned_found : (history : List (Record Deed)) (t : ℕ) → (said history t).learned ≡ true → Has tells_of_meeting history t
learned_found history t e =
    let is = any_is (λ (r : Record Deed). tells_of_meeting r.deed && (r.ticket == t)) history e in
    let both = and_both (tells_of_meeting is.0.deed) (is.0.ticket == t) is.2 in
    (is.0, is.1, eqb-true is.0.ticket t both.1, both.0)

pub cut_found : (history : List (Record Deed)) (t : ℕ) → (said history t).cut ≡ true → (0 < t) × Has interrupts history t
cut_found history t e =
    let is = any_is (λ (r : Record Deed). interrupts r.deed && nat_lt 0 t && (r.ticket == t)) history e in
    let both = and_both (interrupts is.0.deed && nat_lt 0 t) (is.0.ticket == t) is.2 in
    let first = and_both (interrupts is.0.deed) (nat_lt 0 t) both.0 in
    (ltb-true 0 t first.1, (is.0, is.1, eqb-true is.0.ticket t both.1, first.0))

takes_back : (d : Deed) (c : Cause) → withdrawn_by d ≡ Some c → d ≡ Withdrawn c
takes_back (GiveWaits m) c e = absurd (cc)
takes_back (GiveMeets m u) c e = absurd (cc)
takes_back (GiveFails m) c e = absurd (cc)
takes_back (GiveKept m) c e = absurd (cc)
takes_back TakeWaits c e = absurd (cc)
takes_back (TakeMeets m u) c e = absurd (cc)
takes_back TakeFails c e = absurd (cc)
takes_back (EntryInterrupted side) c e = absurd (cc)
takes_back Done c e = absurd (cc)
takes_back (Got m u) c e = absurd (cc)
takes_back (Withdrawn cause) c e = cc
takes_back (Interrupt i) c e = absurd (cc)

pub back_found : (history : List (Record Deed)) (t : ℕ) (c : Cause) → (said history t).back ≡ Some c → HasWithdrawn history t c
back_found history t c e = by_found (find (λ r. is_some (withdrawn_by r.deed) && (r.ticket == t)) history) refl e
  where
    by_found : (o : Option (Record Deed)) → find (λ r. is_some (withdrawn_by r.deed) && (r.ticket == t)) history ≡ o → option_and_then (λ (r : Record Deed). withdrawn_by r.deed) o ≡ Some c → HasWithdrawn history t c
    by_found None found f = absurd (cc)
    by_found (Some r) found f =
        let is = find_is (λ (x : Record Deed). is_some (withdrawn_by x.deed) && (x.ticket == t)) history r found in
        let both = and_both (is_some (withdrawn_by r.deed)) (r.ticket == t) is.1 in
        (r, is.0, eqb-true r.ticket t both.1, takes_back r.deed c f)

-- what no turn undoes
learned_turns : (x y : Said) → Turned x y → x.learned ≡ true → y.learned ≡ true
learned_turns x y (stays e) is = ap (λ (z : Said). z.learned) e ∙ is
learned_turns x y (asked d request e f) is = absurd (true≢false (sym is ∙ ap (λ (z : Said). z.learned) e))
learned_turns x y (met j u e f) is = absurd (true≢false (sym is ∙ ap (λ (z : Said). z.learned) e))
learned_turns x y (learned j u waits e f) is = ap (λ (z : Said). z.learned) f
learned_turns x y (left j cause l waits e f) is = absurd (true≢false (sym is ∙ ap (λ (z : Said). z.learned) e))
learned_turns x y (cut j waits e f) is = absurd (true≢false (sym is ∙ ap (λ (z : Said). z.learned) e))
learned_turns x y (returned j waits e f) is = absurd (true≢false (sym is ∙ ap (λ (z : Said). z.learned) e))

cut_turns : (x y : Said) → Turned x y → x.cut ≡ true → y.cut ≡ true
cut_turns x y (stays e) is = ap (λ (z : Said). z.cut) e ∙ is
cut_turns x y (asked d request e f) is = absurd (true≢false (sym is ∙ ap (λ (z : Said). z.cut) e))
cut_turns x y (met j u e f) is = absurd (true≢false (sym is ∙ ap (λ (z : Said). z.cut) e))
cut_turns x y (learned j u waits e f) is = absurd (true≢false (sym is ∙ ap (λ (z : Said). z.cut) e))
cut_turns x y (left j cause l waits e f) is = absurd (true≢false (sym is ∙ ap (λ (z : Said). z.cut) e))
cut_turns x y (cut j waits e f) is = ap (λ (z : Said). z.cut) f
cut_turns x y (returned j waits e f) is = ap (λ (z : Said). z.cut) f

none_back : (c : Cause) (x y : Said) → x.back ≡ Some c → x ≡ y → y.back ≡ None → ⊥
none_back c x y is e none = let f : Some c ≡ None = sym is ∙ ap (λ (z : Said). z.back) e ∙ none in cc

back_turns : (c : Cause) (x y : Said) → Turned x y → x.back ≡ Some c → y.back ≡ Some c
back_turns c x y (stays e) is = ap (λ (z : Said). z.back) e ∙ is
back_turns c x y (asked d request e f) is = absurd (none_back c x blank is e refl)
back_turns c x y (met j u e f) is = absurd (none_back c x (only_asked (deed_of j)) is e refl)
back_turns c x y (learned j u waits e f) is = absurd (none_back c x (only_met j u) is e refl)
back_turns c x y (left j cause l waits e f) is = absurd (none_back c x (only_asked (deed_of j)) is e refl)
back_turns c x y (cut j waits e f) is = absurd (none_back c x (only_asked (deed_of j)) is e refl)
back_turns c x y (returned j waits e f) is = absurd (none_back c x (only_cut j) is e refl)

-- what a record that takes its ticket back had before it
unreturned : (f : ℕ → Said) (t : ℕ) (d : Deed) (c : Cause) → GoesOn f t d → d ≡ Withdrawn c → (f t).back ≡ None
unreturned f t d c (asks request none new) e = ap (λ (z : Said). z.back) new
unreturned f t d c (meets u j m new there) e = ap (λ (z : Said). z.back) new
unreturned f t d c (learns u j l was) e = ap (λ (z : Said). z.back) was
unreturned f t d c (leaves j cause w l waits was) e = ap (λ (z : Said). z.back) was
unreturned f t d c (returns j w waits was) e = ap (λ (z : Said). z.back) was
unreturned f t d c (cuts j i w above waits was) e = ap (λ (z : Said). z.back) was
unreturned f t d c (flags i w none) e = absurd (let x : Withdrawn c ≡ Interrupt i = sym e ∙ w in cc)

or_true : (b : Bool) → (b || true) ≡ true
or_true true = refl
or_true false = refl

module _ (history : List (Record Deed)) (on : Speaks history) where
  -- what a record says of its ticket stays said
  pub learned_said : (r : Record Deed) → Contains history r → tells_of_meeting r.deed ≡ true → (said history r.ticket).learned ≡ true
  learned_said r m tells =
      let p = parted history r on m in
      let now : (said (p.before ++ r ∷ []) r.ticket).learned ≡ true =
      ap (λ (x : Said). x.learned) (said_after p.before r r.ticket)
      ∙ ap (λ b. (said p.before r.ticket).learned || (b && (r.ticket == r.ticket))) tells
      ∙ ap (λ b. (said p.before r.ticket).learned || b) (eq-eqb r.ticket r.ticket refl)
      ∙ or_true (said p.before r.ticket).learned in
      subst (λ h. (said h r.ticket).learned ≡ true) p.is (carry (λ x. x.learned ≡ true) learned_turns p.after (p.before ++ r ∷ []) p.on r.ticket now)

  pub cut_said : (r : Record Deed) → Contains history r → interrupts r.deed ≡ true → 0 < r.ticket → (said history r.ticket).cut ≡ true
  cut_said r m tells above =
      let p = parted history r on m in
      let now : (said (p.before ++ r ∷ []) r.ticket).cut ≡ true =
      ap (λ (x : Said). x.cut) (said_after p.before r r.ticket)
      ∙ ap (λ b. (said p.before r.ticket).cut || (b && nat_lt 0 r.ticket && (r.ticket == r.ticket))) tells
      ∙ ap (λ b. (said p.before r.ticket).cut || (b && (r.ticket == r.ticket))) (lt-ltb 0 r.ticket above)
      ∙ ap (λ b. (said p.before r.ticket).cut || b) (eq-eqb r.ticket r.ticket refl)
      ∙ or_true (said p.before r.ticket).cut in
      subst (λ h. (said h r.ticket).cut ≡ true) p.is (carry (λ x. x.cut ≡ true) cut_turns p.after (p.before ++ r ∷ []) p.on r.ticket now)

  pub back_said : (r : Record Deed) → Contains history r → (c : Cause) → r.deed ≡ Withdrawn c → (said history r.ticket).back ≡ Some c
  back_said r m c e =
      let p = parted history r on m in
      let now : (said (p.before ++ r ∷ []) r.ticket).back ≡ Some c =
      ap (λ (x : Said). x.back) (said_after p.before r r.ticket)
      ∙ ap (λ o. option_or o (if is_some (withdrawn_by r.deed) && (r.ticket == r.ticket) then withdrawn_by r.deed else None)) (unreturned (said p.before) r.ticket r.deed c p.goes e)
      ∙ ap (λ d. if is_some (withdrawn_by d) && (r.ticket == r.ticket) then withdrawn_by d else None) e
      ∙ ap (λ b. if b then Some c else None) (eq-eqb r.ticket r.ticket refl) in
      subst (λ h. (said h r.ticket).back ≡ Some c) p.is (carry (λ x. x.back ≡ Some c) (back_turns c) p.after (p.before ++ r ∷ []) p.on r.ticket now)

-- a request of such a deed
pub request_has : (such : Deed → Bool) (history : List (Record Deed)) (t : ℕ) (d : Deed) → (said history t).asked ≡ Some d → such d ≡ true → Has such history t
request_has such history t d e is = let r = request_found history t d e in (r.0, r.1, r.3, ap such r.4 ∙ is)

fails_asks : (d : Deed) → fails d ≡ true → is_request d ≡ true
fails_asks (GiveWaits m) e = refl
fails_asks (GiveMeets m u) e = refl
fails_asks (GiveFails m) e = refl
fails_asks (GiveKept m) e = refl
fails_asks TakeWaits e = refl
fails_asks (TakeMeets m u) e = refl
fails_asks TakeFails e = refl
fails_asks (EntryInterrupted side) e = refl
fails_asks Done e = e
fails_asks (Got m u) e = e
fails_asks (Withdrawn cause) e = e
fails_asks (Interrupt i) e = e

pub refused_asks : (d : Deed) → is_refused d ≡ true → is_request d ≡ true
refused_asks (GiveWaits m) e = refl
refused_asks (GiveMeets m u) e = refl
refused_asks (GiveFails m) e = refl
refused_asks (GiveKept m) e = refl
refused_asks TakeWaits e = refl
refused_asks (TakeMeets m u) e = refl
refused_asks TakeFails e = refl
refused_asks (EntryInterrupted side) e = refl
refused_asks Done e = e
refused_asks (Got m u) e = e
refused_asks (Withdrawn cause) e = e
refused_asks (Interrupt i) e = e

kept_asks : (d : Deed) → is_kept_deed d ≡ true → is_request d ≡ true
kept_asks (GiveWaits m) e = refl
kept_asks (GiveMeets m u) e = refl
kept_asks (GiveFails m) e = refl
kept_asks (GiveKept m) e = refl
kept_asks TakeWaits e = refl
kept_asks (TakeMeets m u) e = refl
kept_asks TakeFails e = refl
kept_asks (EntryInterrupted side) e = refl
kept_asks Done e = e
kept_asks (Got m u) e = e
kept_asks (Withdrawn cause) e = e
kept_asks (Interrupt i) e = e

waits_asks : (d : Deed) → waits_first d ≡ true → is_request d ≡ true
waits_asks (GiveWaits m) e = refl
waits_asks (GiveMeets m u) e = refl
waits_asks (GiveFails m) e = refl
waits_asks (GiveKept m) e = refl
waits_asks TakeWaits e = refl
waits_asks (TakeMeets m u) e = refl
waits_asks TakeFails e = refl
waits_asks (EntryInterrupted side) e = refl
waits_asks Done e = e
waits_asks (Got m u) e = e
waits_asks (Withdrawn cause) e = e
waits_asks (Interrupt i) e = e

-- the fate of a request that failed, or was refused at its entry
fails_fate : (x : Said) (d : Deed) → x.asked ≡ Some d → fails d ≡ true → fate_of x ≡ Failed
fails_fate x (GiveWaits m) e is = absurd (false≢true is)
fails_fate x (GiveMeets m u) e is = absurd (false≢true is)
fails_fate x (GiveFails m) e is = rw e refl
fails_fate x (GiveKept m) e is = absurd (false≢true is)
fails_fate x TakeWaits e is = absurd (false≢true is)
fails_fate x (TakeMeets m u) e is = absurd (false≢true is)
fails_fate x TakeFails e is = rw e refl
fails_fate x (EntryInterrupted side) e is = absurd (false≢true is)
fails_fate x Done e is = absurd (false≢true is)
fails_fate x (Got m u) e is = absurd (false≢true is)
fails_fate x (Withdrawn cause) e is = absurd (false≢true is)
fails_fate x (Interrupt i) e is = absurd (false≢true is)

pub refused_fate : (x : Said) (d : Deed) → x.asked ≡ Some d → is_refused d ≡ true → fate_of x ≡ EntryRefused
refused_fate x (GiveWaits m) e is = absurd (false≢true is)
refused_fate x (GiveMeets m u) e is = absurd (false≢true is)
refused_fate x (GiveFails m) e is = absurd (false≢true is)
refused_fate x (GiveKept m) e is = absurd (false≢true is)
refused_fate x TakeWaits e is = absurd (false≢true is)
refused_fate x (TakeMeets m u) e is = absurd (false≢true is)
refused_fate x TakeFails e is = absurd (false≢true is)
refused_fate x (EntryInterrupted side) e is = rw e refl
refused_fate x Done e is = absurd (false≢true is)
refused_fate x (Got m u) e is = absurd (false≢true is)
refused_fate x (Withdrawn cause) e is = absurd (false≢true is)
refused_fate x (Interrupt i) e is = absurd (false≢true is)

-- a request that joins the line: it waits there, or its item is kept
joins : (j : Joining) → (waits_first (deed_of j) ≡ waits_of j) × (is_request (deed_of j) ≡ true)
joins (Gives m) = (refl, refl)
joins (Keeps m) = (refl, refl)
joins Takes = (refl, refl)

-- the fate of what is said
kept_fate : (d : Deed) → is_kept_deed d ≡ true → fate_of (only_asked d) ≡ Kept
kept_fate (GiveWaits m) e = absurd (false≢true e)
kept_fate (GiveMeets m u) e = absurd (false≢true e)
kept_fate (GiveFails m) e = absurd (false≢true e)
kept_fate (GiveKept m) e = refl
kept_fate TakeWaits e = absurd (false≢true e)
kept_fate (TakeMeets m u) e = absurd (false≢true e)
kept_fate TakeFails e = absurd (false≢true e)
kept_fate (EntryInterrupted side) e = absurd (false≢true e)
kept_fate Done e = absurd (false≢true e)
kept_fate (Got m u) e = absurd (false≢true e)
kept_fate (Withdrawn cause) e = absurd (false≢true e)
kept_fate (Interrupt i) e = absurd (false≢true e)

waits_fate : (d : Deed) → waits_first d ≡ true → fate_of (only_asked d) ≡ Waiting
waits_fate (GiveWaits m) e = refl
waits_fate (GiveMeets m u) e = absurd (false≢true e)
waits_fate (GiveFails m) e = absurd (false≢true e)
waits_fate (GiveKept m) e = absurd (false≢true e)
waits_fate TakeWaits e = refl
waits_fate (TakeMeets m u) e = absurd (false≢true e)
waits_fate TakeFails e = absurd (false≢true e)
waits_fate (EntryInterrupted side) e = absurd (false≢true e)
waits_fate Done e = absurd (false≢true e)
waits_fate (Got m u) e = absurd (false≢true e)
waits_fate (Withdrawn cause) e = absurd (false≢true e)
waits_fate (Interrupt i) e = absurd (false≢true e)

names_fate : (d : Deed) (u : ℕ) (j : Joining) → Meets d u j → fate_of (only_asked d) ≡ Paired u
names_fate d u j given = refl
names_fate d u j taken = refl
names_fate d u j fetched = refl

met_fate : (j : Joining) (u : ℕ) → fate_of (only_met j u) ≡ Paired u
met_fate (Gives m) u = refl
met_fate (Keeps m) u = refl
met_fate Takes u = refl

learned_fate : (j : Joining) (u : ℕ) → fate_of (record (only_met j u) { learned = true }) ≡ Collected u
learned_fate (Gives m) u = refl
learned_fate (Keeps m) u = refl
learned_fate Takes u = refl

left_fate : (j : Joining) (c : Cause) → fate_of (record (only_asked (deed_of j)) { back = Some c }) ≡ WasWithdrawn c
left_fate (Gives m) c = refl
left_fate (Keeps m) c = refl
left_fate Takes c = refl

cut_fate : (j : Joining) → fate_of (only_cut j) ≡ Cut
cut_fate (Gives m) = refl
cut_fate (Keeps m) = refl
cut_fate Takes = refl

returned_fate : (j : Joining) (c : Cause) → fate_of (record (only_cut j) { back = Some c }) ≡ WasWithdrawn c
returned_fate (Gives m) c = refl
returned_fate (Keeps m) c = refl
returned_fate Takes c = refl

module _ (history : List (Record Deed)) (on : Speaks history) (t : ℕ) where
  -- what is said of the ticket
  abbrev here : Said
  here = said history t

  -- what its records say
  withdrawn_here : (c : Cause) → HasWithdrawn history t c → here.back ≡ Some c
  withdrawn_here c w = subst (λ u. (said history u).back ≡ Some c) w.2 (back_said history on w.0 w.1 c w.3)

  cut_here : Has interrupts history t → 0 < t → here.cut ≡ true
  cut_here h above = subst (λ u. (said history u).cut ≡ true) h.2 (cut_said history on h.0 h.1 h.3 (subst (λ u. 0 < u) (sym h.2) above))

  learned_here : Has tells_of_meeting history t → here.learned ≡ true
  learned_here h = subst (λ u. (said history u).learned ≡ true) h.2 (learned_said history on h.0 h.1 h.3)

  asked_here : (such : Deed → Bool) → ((d : Deed) → such d ≡ true → is_request d ≡ true) → Has such history t → (d : Deed) × (here.asked ≡ Some d) × (such d ≡ true)
  asked_here such requests h = (h.0.deed, subst (λ u. (said history u).asked ≡ Some h.0.deed) h.2 (request_said history on h.0 h.1 (requests h.0.deed h.3)), h.3)

  -- it met this ticket: its own request did, or the other's
  abbrev Met : ℕ → Type 0
  Met u = ((d : Deed) × (j : Joining) × Meets d u j × (here ≡ only_asked d)) ⊎ ((j : Joining) × IsMetBy j u here)

  met_here : (u : ℕ) → HasMet history t u → Met u
  met_here u h = ⊎_elim
      (λ (own : (h.0.ticket ≡ t) × (named_by h.0.deed ≡ Some u)). (let c = couple history on h.0 h.1 u own.1 in inl (h.0.deed, c.joined, c.how, subst (λ v. said history v ≡ only_asked h.0.deed) own.0 c.own)))
      (λ (other : (h.0.ticket ≡ u) × (named_by h.0.deed ≡ Some t)). (let c = couple history on h.0 h.1 t other.1 in inr (c.joined, subst (λ v. IsMetBy c.joined v here) other.0 c.other)))
      h.2

  -- whose request names nobody, and whom nobody's does, met nobody
  unmet : (d : Deed) → here.asked ≡ Some d → named_by d ≡ None → here.met ≡ None → (u : ℕ) → HasMet history t u → ⊥
  unmet d e none alone u h = ⊎_elim
      (λ (own : (d : Deed) × (j : Joining) × Meets d u j × (here ≡ only_asked d)). (let s : Some own.0 ≡ Some d = sym (ap (λ (x : Said). x.asked) own.3) ∙ e in let same : own.0 ≡ d = cc in let n : Some u ≡ None = sym (names own.0 u own.1 own.2) ∙ ap named_by same ∙ none in cc))
      (λ (other : (j : Joining) × IsMetBy j u here). (let s : Some u ≡ None = sym (met_met other.0 u here other.1) ∙ alone in cc))
      (met_here u h)
    where
      names : (d : Deed) (u : ℕ) (j : Joining) → Meets d u j → named_by d ≡ Some u
      names d u j given = refl
      names d u j taken = refl
      names d u j fetched = refl

  untouched : (d : Deed) → here ≡ only_asked d → named_by d ≡ None → IsUntouched history t
  untouched d e none = record {
    unmet = unmet d (ap (λ (x : Said). x.asked) e) none (ap (λ (x : Said). x.met) e);
    stays = λ c w. (let s : Some c ≡ None = sym (withdrawn_here c w) ∙ ap (λ (x : Said). x.back) e in cc);
    uncut = λ above h. true≢false (sym (cut_here h above) ∙ ap (λ (x : Said). x.cut) e);
  }

  unlearned : here.learned ≡ false → Has tells_of_meeting history t → ⊥
  unlearned e h = true≢false (sym (learned_here h) ∙ e)

  -- the row of a ticket that only asked
  asked_row : (d : Deed) → is_request d ≡ true → here ≡ only_asked d → IsFate history t (fate_of (only_asked d))
  asked_row (GiveWaits m) request e = (request_has waits_first history t (GiveWaits m) (ap (λ (x : Said). x.asked) e) refl, untouched (GiveWaits m) e refl)
  asked_row (GiveMeets m u) request e = (own_met (GiveMeets m u) u e refl, unlearned (ap (λ (x : Said). x.learned) e))
    where
      own_met : (d : Deed) (u : ℕ) → here ≡ only_asked d → named_by d ≡ Some u → HasMet history t u
      own_met d u e n = let r = request_found history t d (ap (λ (x : Said). x.asked) e) in (r.0, r.1, inl (r.3, ap named_by r.4 ∙ n))
  asked_row (GiveFails m) request e = request_has fails history t (GiveFails m) (ap (λ (x : Said). x.asked) e) refl
  asked_row (GiveKept m) request e = (request_has is_kept_deed history t (GiveKept m) (ap (λ (x : Said). x.asked) e) refl, untouched (GiveKept m) e refl)
  asked_row TakeWaits request e = (request_has waits_first history t TakeWaits (ap (λ (x : Said). x.asked) e) refl, untouched TakeWaits e refl)
  asked_row (TakeMeets m u) request e = (own_met (TakeMeets m u) u e refl, unlearned (ap (λ (x : Said). x.learned) e))
    where
      own_met : (d : Deed) (u : ℕ) → here ≡ only_asked d → named_by d ≡ Some u → HasMet history t u
      own_met d u e n = let r = request_found history t d (ap (λ (x : Said). x.asked) e) in (r.0, r.1, inl (r.3, ap named_by r.4 ∙ n))
  asked_row TakeFails request e = request_has fails history t TakeFails (ap (λ (x : Said). x.asked) e) refl
  asked_row (EntryInterrupted side) request e = request_has is_refused history t (EntryInterrupted side) (ap (λ (x : Said). x.asked) e) refl
  asked_row Done request e = absurd (false≢true request)
  asked_row (Got m u) request e = absurd (false≢true request)
  asked_row (Withdrawn cause) request e = absurd (false≢true request)
  asked_row (Interrupt i) request e = absurd (false≢true request)

  was_met : (u : ℕ) → here.met ≡ Some u → HasMet history t u
  was_met u e = let r = meeting_found history t u e in (r.0, r.1, inr (r.3, r.2))

  abbrev Row : Said → Type 0
  Row x = IsFate history t (fate_of x)

  met_row : (j : Joining) (u : ℕ) → here ≡ only_met j u → Row (only_met j u)
  met_row (Gives m) u e = (was_met u (ap (λ (x : Said). x.met) e), unlearned (ap (λ (x : Said). x.learned) e))
  met_row (Keeps m) u e = (was_met u (ap (λ (x : Said). x.met) e), unlearned (ap (λ (x : Said). x.learned) e))
  met_row Takes u e = (was_met u (ap (λ (x : Said). x.met) e), unlearned (ap (λ (x : Said). x.learned) e))

  learned_row : (j : Joining) (u : ℕ) → here ≡ record (only_met j u) { learned = true } → Row (record (only_met j u) { learned = true })
  learned_row (Gives m) u e = (was_met u (ap (λ (x : Said). x.met) e), learned_found history t (ap (λ (x : Said). x.learned) e))
  learned_row (Keeps m) u e = (was_met u (ap (λ (x : Said). x.met) e), learned_found history t (ap (λ (x : Said). x.learned) e))
  learned_row Takes u e = (was_met u (ap (λ (x : Said). x.met) e), learned_found history t (ap (λ (x : Said). x.learned) e))

  left_row : (j : Joining) (c : Cause) → here ≡ record (only_asked (deed_of j)) { back = Some c } → Row (record (only_asked (deed_of j)) { back = Some c })
  left_row (Gives m) c e = back_found history t c (ap (λ (x : Said). x.back) e)
  left_row (Keeps m) c e = back_found history t c (ap (λ (x : Said). x.back) e)
  left_row Takes c e = back_found history t c (ap (λ (x : Said). x.back) e)

  returned_row : (j : Joining) (c : Cause) → here ≡ record (only_cut j) { back = Some c } → Row (record (only_cut j) { back = Some c })
  returned_row (Gives m) c e = back_found history t c (ap (λ (x : Said). x.back) e)
  returned_row (Keeps m) c e = back_found history t c (ap (λ (x : Said). x.back) e)
  returned_row Takes c e = back_found history t c (ap (λ (x : Said). x.back) e)

  uncollected : here.back ≡ None → (c : Cause) → HasWithdrawn history t c → ⊥
  uncollected none c w = let s : Some c ≡ None = sym (withdrawn_here c w) ∙ none in cc

  cut_row : (j : Joining) → here ≡ only_cut j → Row (only_cut j)
  cut_row (Gives m) e = let c = cut_found history t (ap (λ (x : Said). x.cut) e) in (c.0, c.1, uncollected (ap (λ (x : Said). x.back) e))
  cut_row (Keeps m) e = let c = cut_found history t (ap (λ (x : Said). x.cut) e) in (c.0, c.1, uncollected (ap (λ (x : Said). x.back) e))
  cut_row Takes e = let c = cut_found history t (ap (λ (x : Said). x.cut) e) in (c.0, c.1, uncollected (ap (λ (x : Said). x.back) e))

  -- a row holds of what is said
  row_said : Course here → Row here
  row_said (unasked e) = subst Row (sym e) (λ h. (let a = asked_here is_request (λ d is. is) h in let s : Some a.0 ≡ None = sym a.1 ∙ ap (λ (x : Said). x.asked) e in cc))
  row_said (has_asked d request e) = subst Row (sym e) (asked_row d request e)
  row_said (has_met j u e) = subst Row (sym e) (met_row j u e)
  row_said (has_learned j u waits e) = subst Row (sym e) (learned_row j u e)
  row_said (has_left j c l waits e) = subst Row (sym e) (left_row j c e)
  row_said (was_cut j waits e) = subst Row (sym e) (cut_row j e)
  row_said (has_returned j waits e) = subst Row (sym e) (returned_row j Interrupted e)

  -- and it alone does
  never_fate : (Has is_request history t → ⊥) → fate_of here ≡ Never
  never_fate none = by_asked here.asked refl
    where
      by_asked : (o : Option Deed) → here.asked ≡ o → option_map_or (fate_asked_of here) here.asked Never ≡ Never
      by_asked None e = ap (λ o. option_map_or (fate_asked_of here) o Never) e
      by_asked (Some d) e = let r = request_found history t d e in absurd (none (r.0, r.1, r.3, r.2))

  paired_fate : (u : ℕ) → Met u → (Has tells_of_meeting history t → ⊥) → fate_of here ≡ Paired u
  paired_fate u m absent = ⊎_elim
      (λ (own : (d : Deed) × (j : Joining) × Meets d u j × (here ≡ only_asked d)). ap fate_of own.3 ∙ names_fate own.0 u own.1 own.2)
      (λ (other : (j : Joining) × IsMetBy j u here). ⊎_elim (λ e. ap fate_of e ∙ met_fate other.0 u) (λ e. absurd (absent (learned_found history t (ap (λ (x : Said). x.learned) e)))) other.1)
      m

  collected_fate : (u : ℕ) → Met u → Has tells_of_meeting history t → fate_of here ≡ Collected u
  collected_fate u m tells = ⊎_elim
      (λ (own : (d : Deed) × (j : Joining) × Meets d u j × (here ≡ only_asked d)). absurd (true≢false (sym (learned_here tells) ∙ ap (λ (x : Said). x.learned) own.3)))
      (λ (other : (j : Joining) × IsMetBy j u here). ⊎_elim (λ e. absurd (true≢false (sym (learned_here tells) ∙ ap (λ (x : Said). x.learned) e))) (λ e. ap fate_of e ∙ learned_fate other.0 u) other.1)
      m

  same_cause : (c d : Cause) → Some c ≡ Some d → c ≡ d
  same_cause c d e = cc

  back_fate : (c : Cause) → here.back ≡ Some c → Course here → fate_of here ≡ WasWithdrawn c
  back_fate c is (unasked e) = absurd (none_back c here blank is e refl)
  back_fate c is (has_asked d request e) = absurd (none_back c here (only_asked d) is e refl)
  back_fate c is (has_met j u e) = absurd (none_back c here (only_met j u) is e refl)
  back_fate c is (has_learned j u waits e) = absurd (none_back c here (record (only_met j u) { learned = true }) is e refl)
  back_fate c is (has_left j d l waits e) = ap fate_of e ∙ left_fate j d ∙ ap WasWithdrawn (same_cause d c (sym (ap (λ (x : Said). x.back) e) ∙ is))
  back_fate c is (was_cut j waits e) = absurd (none_back c here (only_cut j) is e refl)
  back_fate c is (has_returned j waits e) = ap fate_of e ∙ returned_fate j Interrupted ∙ ap WasWithdrawn (same_cause Interrupted c (sym (ap (λ (x : Said). x.back) e) ∙ is))

  still_cut_fate : here.cut ≡ true → ((c : Cause) → HasWithdrawn history t c → ⊥) → Course here → fate_of here ≡ Cut
  still_cut_fate is absent (unasked e) = absurd (true≢false (sym is ∙ ap (λ (x : Said). x.cut) e))
  still_cut_fate is absent (has_asked d request e) = absurd (true≢false (sym is ∙ ap (λ (x : Said). x.cut) e))
  still_cut_fate is absent (has_met j u e) = absurd (true≢false (sym is ∙ ap (λ (x : Said). x.cut) e))
  still_cut_fate is absent (has_learned j u waits e) = absurd (true≢false (sym is ∙ ap (λ (x : Said). x.cut) e))
  still_cut_fate is absent (has_left j d l waits e) = absurd (true≢false (sym is ∙ ap (λ (x : Said). x.cut) e))
  still_cut_fate is absent (was_cut j waits e) = ap fate_of e ∙ cut_fate j
  still_cut_fate is absent (has_returned j waits e) = absurd (absent Interrupted (back_found history t Interrupted (ap (λ (x : Said). x.back) e)))

  same_deed : (d e : Deed) → Some d ≡ Some e → d ≡ e
  same_deed d e s = cc

  -- a ticket that nothing touched only asked
  untouched_fate : (d : Deed) → here.asked ≡ Some d → IsUntouched history t → Course here → fate_of here ≡ fate_of (only_asked d)
  untouched_fate d is un (unasked e) = absurd (let s : Some d ≡ None = sym is ∙ ap (λ (x : Said). x.asked) e in cc)
  untouched_fate d is un (has_asked f request e) = ap fate_of e ∙ ap (λ x. fate_of (only_asked x)) (same_deed f d (sym (ap (λ (x : Said). x.asked) e) ∙ is))
  untouched_fate d is un (has_met j u e) = absurd (un.unmet u (was_met u (ap (λ (x : Said). x.met) e)))
  untouched_fate d is un (has_learned j u waits e) = absurd (un.unmet u (was_met u (ap (λ (x : Said). x.met) e)))
  untouched_fate d is un (has_left j c l waits e) = absurd (un.stays c (back_found history t c (ap (λ (x : Said). x.back) e)))
  untouched_fate d is un (was_cut j waits e) = absurd (let c = cut_found history t (ap (λ (x : Said). x.cut) e) in un.uncut c.0 c.1)
  untouched_fate d is un (has_returned j waits e) = absurd (un.stays Interrupted (back_found history t Interrupted (ap (λ (x : Said). x.back) e)))

  row_fate : (x : Fate) → IsFate history t x → fate_of here ≡ x
  row_fate Never none = never_fate none
  row_fate Failed h = let a = asked_here fails fails_asks h in fails_fate here a.0 a.1 a.2
  row_fate EntryRefused h = let a = asked_here is_refused refused_asks h in refused_fate here a.0 a.1 a.2
  row_fate (Paired u) h = paired_fate u (met_here u h.0) h.1
  row_fate (Collected u) h = collected_fate u (met_here u h.0) h.1
  row_fate (WasWithdrawn c) w = back_fate c (withdrawn_here c w) (course_of history on t)
  row_fate Cut h = still_cut_fate (cut_here h.1 h.0) h.2 (course_of history on t)
  row_fate Kept h = let a = asked_here is_kept_deed kept_asks h.0 in untouched_fate a.0 a.1 h.1 (course_of history on t) ∙ kept_fate a.0 a.2
  row_fate Waiting h = let a = asked_here waits_first waits_asks h.0 in untouched_fate a.0 a.1 h.1 (course_of history on t) ∙ waits_fate a.0 a.2
  row_fate Past h = absurd h

  -- one row and one fate
  one_row : (x : Fate) → IsFate history t x ↔ (fate history t ≡ x)
  one_row x = (λ row. fate_is history t ∙ row_fate x row, λ e. subst (IsFate history t) (sym (fate_is history t) ∙ e) (row_said (course_of history on t)))

no_past : (history : List (Record Deed)) (t : ℕ) (x : Fate) → IsFate history t x → x ≡ Past → ⊥
no_past history t x row e = subst (IsFate history t) e row

-- after a well-formed base and legal records
pub one_fate : (k : Kind) (b : Based) (records : List (Record Deed)) → IsWellFormed k b → IsLegalOn k b records → HasOneFate b records
one_fate k b records w legal t x = by_past (is_past b t) refl
  where
    history : List (Record Deed)
    history = opening b ++ records

    rows : IsFate (opening b ++ records) t x ↔ (fate (opening b ++ records) t ≡ x)
    rows = one_row (opening b ++ records) (legal_speaks k b w records legal) t x

    by_past : (p : Bool) → is_past b t ≡ p → (((p ≡ true) × (x ≡ Past)) ⊎ ((p ≡ false) × IsFate (opening b ++ records) t x)) ↔ ((if p then Past else fate (opening b ++ records) t) ≡ x)
    by_past true e = (λ two. ⊎_elim (λ y. sym y.1) (λ n. absurd (true≢false n.0)) two, λ is. inl (refl, sym is))
    by_past false e = (λ two. ⊎_elim (λ y. absurd (false≢true y.0)) (λ n. rows.0 n.1) two, λ is. inr (refl, rows.1 is))
