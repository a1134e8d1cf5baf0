-- What is left in a queue is what the records tell.
use Rattle.std.proofs.Common.{◌≡◌, ◌≢◌, ◌⊎◌, ℕ, ◌==◌, ◌&&◌, ◌||◌, refl, sym, ap, ◌∙◌, subst, inl, inr, ⊎_elim, Bool, true, false, cond, Option, Some, None, option_map, List, Contains}
use Rattle.std.specs.Prelude.{option_and_then, if◌then◌else◌}
use Rattle.std.specs.Option.{option_map_or}
use Rattle.std.proofs.lemmas.Bool.{eq-eqb, eqb-true, false≢true}
use Rattle.meet_tickets.specs.declared.lines.Entry.{Entry}
use Rattle.meet_tickets.specs.declared.lines.Hold.{Hold}
use Rattle.meet_tickets.specs.declared.lines.Hold.TheVariants.{Free, Waiting as WaitingAt, Handed, Served, Cut as CutAt}
use Rattle.meet_tickets.specs.declared.fates.Fate.{Fate}
use Rattle.meet_tickets.specs.declared.fates.Fate.TheVariants.{Never, Failed, EntryRefused, Paired, Collected, Withdrawn, Cut, Kept as KeptFate, Waiting, Past}
use Rattle.meet_tickets.specs.declared.records.Record.{Record}
use Rattle.meet_tickets.specs.declared.records.Deed.{Deed}
use Rattle.meet_tickets.specs.declared.records.Deed.TheVariants.{GiveWaits, GiveMeets, GiveFails, GiveKept, TakeWaits, TakeMeets, TakeFails, EntryInterrupted, Done, Got, Withdrawn as TakenBack, Interrupt}
use Rattle.meet_tickets.specs.BySeat.{Seats, open_ticket, is_settled}
use Rattle.meet_tickets.specs.Fates.{fate, request_of, has_waited, asked_for, waits_first, is_waiting, is_kept, is_unlearned}
use Rattle.meet_tickets.specs.Placed.{has_place, TellsPlace}
use Rattle.meet_tickets.specs.Asked.{Remembers}
use Rattle.meet_core.specs.declared.left.LeftStanding.TheVariants.{Offered, Kept, Ready}
use Rattle.meet_core.specs.LeftTold.{Leaving, standing_waited, standing_kept, standing_met, left_asked, left_told}

-- what an entry leaves, and what a seat does, items by their marks
abbrev pub told_entry : Entry ℕ → Option Leaving
told_entry e = option_map (λ m. record { ticket = e.ticket; mark = m; standing = if e.waits then Offered else Kept }) e.item

abbrev pub told_hold : Hold ℕ → Option Leaving
told_hold Free = None
told_hold (WaitingAt t) = None
told_hold (Handed t u m) = None
told_hold (Served t u m) = Some (record { ticket = u; mark = m; standing = Ready })
told_hold (CutAt t item) = option_map (λ m. record { ticket = t; mark = m; standing = Ready }) item

-- what is told of a request, by its deed
told_asked : (history : List (Record Deed)) (t : ℕ) (d : Deed) → request_of history t ≡ Some d → left_told history t ≡ left_asked history t d
told_asked history t d is = ap (option_and_then (left_asked history t)) is

some_is : {A : Type 0} {x y : A} → Some x ≡ Some y → x ≡ y
some_is e = cc

module _ (history : List (Record Deed)) (s : Seats ℕ) (tells : TellsPlace history s) (asked : Remembers (request_of history) s) where
  -- what an entry leaves is told
  pub entry_told : (e : Entry ℕ) → Contains s.line e → (a : Leaving) → told_entry e ≡ Some a → left_told history a.ticket ≡ Some a
  entry_told e there a is = by_item e.item e.waits refl refl (asked.line e there) (tells.line e there) is
    where
      by_item : (item : Option ℕ) (waits : Bool) → e.item ≡ item → e.waits ≡ waits → request_of history e.ticket ≡ Some (asked_for item waits) → fate history e.ticket ≡ (if waits then Waiting else KeptFate) →
          option_map (λ m. record { ticket = e.ticket; mark = m; standing = if waits then Offered else Kept }) item ≡ Some a → left_told history a.ticket ≡ Some a
      by_item None waits p q request was told = absurd (cc)
      by_item (Some m) true p q request was told =
          let same : record { ticket = e.ticket; mark = m; standing = Offered } ≡ a = cc in
          subst (λ x. left_told history x.ticket ≡ Some x) same
          (told_asked history e.ticket (GiveWaits m) request ∙ ap (λ x. option_map (λ st. record { ticket = e.ticket; mark = m; standing = st }) (standing_waited x)) was)
      by_item (Some m) false p q request was told =
          let same : record { ticket = e.ticket; mark = m; standing = Kept } ≡ a = cc in
          subst (λ x. left_told history x.ticket ≡ Some x) same
          (told_asked history e.ticket (GiveKept m) request ∙ ap (λ x. option_map (λ st. record { ticket = e.ticket; mark = m; standing = st }) (standing_kept x)) was)

  -- and what a seat leaves
  pub hold_told : (i : ℕ) (x : Hold ℕ) → s.holds i ≡ x → (a : Leaving) → told_hold x ≡ Some a → left_told history a.ticket ≡ Some a
  hold_told i Free is a told = absurd (cc)
  hold_told i (WaitingAt t) is a told = absurd (cc)
  hold_told i (Handed t u m) is a told = absurd (cc)
  hold_told i (Served t u m) is a told =
      let same : record { ticket = u; mark = m; standing = Ready } ≡ a = cc in
      let waited : has_waited history t ≡ true = ap (λ o. option_map_or waits_first o false) (asked.served_to i t u m is) in
      subst (λ x. left_told history x.ticket ≡ Some x) same
      (told_asked history u (GiveMeets m t) (asked.served i t u m is)
      ∙ ap (λ b. if b then option_map (λ st. record { ticket = u; mark = m; standing = st }) (standing_met u (fate history t)) else None) waited
      ∙ ap (λ x. option_map (λ st. record { ticket = u; mark = m; standing = st }) (standing_met u x)) (tells.served i t u m is)
      ∙ ap (λ b. option_map (λ st. record { ticket = u; mark = m; standing = st }) (cond b (Some Ready) None)) (eq-eqb u u refl))
  hold_told i (CutAt t None) is a told = absurd (cc)
  hold_told i (CutAt t (Some m)) is a told =
      let same : record { ticket = t; mark = m; standing = Ready } ≡ a = cc in
      subst (λ x. left_told history x.ticket ≡ Some x) same
      (told_asked history t (GiveWaits m) (asked.cut i t (Some m) is) ∙ ap (λ x. option_map (λ st. record { ticket = t; mark = m; standing = st }) (standing_waited x)) (tells.cut i t (Some m) is))

  -- something stands there that leaves this
  abbrev Leaves : Leaving → Type 0
  Leaves a = ((e : Entry ℕ) × Contains s.line e × (told_entry e ≡ Some a)) ⊎ ((i : ℕ) × (told_hold (s.holds i) ≡ Some a))

  -- what is told of one ticket twice is one
  once : (t : ℕ) (a b : Leaving) → left_told history t ≡ Some a → left_told history t ≡ Some b → b ≡ a
  once t a b p q = cc

  -- a giver's entry leaves what is told of it
  of_entry : (t : ℕ) (d : Deed) (a : Leaving) → request_of history t ≡ Some d → d ≢ TakeWaits → left_told history t ≡ Some a → (e : Entry ℕ) → Contains s.line e → e.ticket ≡ t → Leaves a
  of_entry t d a request giver told e there same = by_item e.item refl
    where
      by_item : (item : Option ℕ) → e.item ≡ item → Leaves a
      by_item None is =
          let asks : Some TakeWaits ≡ Some d = sym (ap (λ item. Some (asked_for item e.waits)) is) ∙ sym (asked.line e there) ∙ ap (request_of history) same ∙ request in
          absurd (giver cc)
      by_item (Some m) is =
          let x : Leaving = record { ticket = e.ticket; mark = m; standing = if e.waits then Offered else Kept } in
          let leaves : told_entry e ≡ Some x = ap (option_map (λ n. record { ticket = e.ticket; mark = n; standing = if e.waits then Offered else Kept })) is in
          let one : x ≡ a = once t a x told (ap (left_told history) (sym same) ∙ entry_told e there x leaves) in
          inl (e, there, leaves ∙ ap (λ y. Some y) one)

  -- and so does the seat of one that was cut
  of_seat : (t : ℕ) (d : Deed) (a : Leaving) → request_of history t ≡ Some d → d ≢ TakeWaits → ((v : ℕ) → fate history t ≢ Paired v) → left_told history t ≡ Some a →
      (i : ℕ) (x : Hold ℕ) → s.holds i ≡ x → open_ticket x ≡ Some t → is_settled x ≡ true → Leaves a
  of_seat t d a request giver unpaired told i Free is opened settled = absurd (false≢true settled)
  of_seat t d a request giver unpaired told i (WaitingAt u) is opened settled = absurd (false≢true settled)
  of_seat t d a request giver unpaired told i (Handed u v m) is opened settled =
      let same : u ≡ t = cc in
      absurd (unpaired v (ap (fate history) (sym same) ∙ tells.handed i u v m is))
  of_seat t d a request giver unpaired told i (Served u v m) is opened settled =
      let same : u ≡ t = cc in
      let asks : Some TakeWaits ≡ Some d = sym (asked.served_to i u v m is) ∙ ap (request_of history) same ∙ request in
      absurd (giver cc)
  of_seat t d a request giver unpaired told i (CutAt u None) is opened settled =
      let same : u ≡ t = cc in
      let asks : Some TakeWaits ≡ Some d = sym (asked.cut i u None is) ∙ ap (request_of history) same ∙ request in
      absurd (giver cc)
  of_seat t d a request giver unpaired told i (CutAt u (Some m)) is opened settled =
      let same : u ≡ t = cc in
      let x : Leaving = record { ticket = u; mark = m; standing = Ready } in
      let one : x ≡ a = once t a x told (ap (left_told history) (sym same) ∙ hold_told i (CutAt u (Some m)) is x refl) in
      inr (i, ap told_hold is ∙ ap (λ y. Some y) one)

  -- a giver that has a place of its own
  of_own : (t : ℕ) (d : Deed) (a : Leaving) → request_of history t ≡ Some d → d ≢ TakeWaits → has_place history t ≡ true → ((v : ℕ) → fate history t ≢ Paired v) → left_told history t ≡ Some a → Leaves a
  of_own t d a request giver placed unpaired told =
      ⊎_elim (λ e. of_entry t d a request giver told e.0 e.1 e.2)
      (λ p. of_seat t d a request giver unpaired told p.0 (s.holds p.0) refl p.1 p.2)
      (tells.found t placed)

  -- the ticket has a place by its fate
  placed_by : (t : ℕ) (x : Fate) → fate history t ≡ x → (is_waiting x || is_kept x || (has_waited history t && is_unlearned x)) ≡ true → has_place history t ≡ true
  placed_by t x is passes = ap (λ y. is_waiting y || is_kept y || (has_waited history t && is_unlearned y)) is ∙ passes

  -- a giver whose taker waited
  of_taker : (t u m : ℕ) (a : Leaving) → request_of history t ≡ Some (GiveMeets m u) → fate history u ≡ Paired t → left_told history t ≡ Some a →
      (i : ℕ) (x : Hold ℕ) → s.holds i ≡ x → open_ticket x ≡ Some u → is_settled x ≡ true → Leaves a
  of_taker t u m a request paired told i Free is opened settled = absurd (false≢true settled)
  of_taker t u m a request paired told i (WaitingAt v) is opened settled = absurd (false≢true settled)
  of_taker t u m a request paired told i (Handed v w n) is opened settled =
      let same : v ≡ u = cc in
      let fates : Paired w ≡ Paired t = sym (tells.handed i v w n is) ∙ ap (fate history) same ∙ paired in
      let partner : w ≡ t = cc in
      let asks : Some (TakeMeets n v) ≡ Some (GiveMeets m u) = sym (asked.handed_to i v w n is) ∙ ap (request_of history) partner ∙ request in
      absurd (cc)
  of_taker t u m a request paired told i (Served v w n) is opened settled =
      let same : v ≡ u = cc in
      let fates : Paired w ≡ Paired t = sym (tells.served i v w n is) ∙ ap (fate history) same ∙ paired in
      let partner : w ≡ t = cc in
      let x : Leaving = record { ticket = w; mark = n; standing = Ready } in
      let one : x ≡ a = once t a x told (ap (left_told history) (sym partner) ∙ hold_told i (Served v w n) is x refl) in
      inr (i, ap told_hold is ∙ ap (λ y. Some y) one)
  of_taker t u m a request paired told i (CutAt v item) is opened settled =
      let same : v ≡ u = cc in
      let fates : Cut ≡ Paired t = sym (tells.cut i v item is) ∙ ap (fate history) same ∙ paired in
      absurd (cc)

  -- what is told is left
  pub told_there : (t : ℕ) (a : Leaving) → left_told history t ≡ Some a → Leaves a
  told_there t a told = by_request (request_of history t) refl
    where
      waited : (m : ℕ) (x : Fate) → request_of history t ≡ Some (GiveWaits m) → fate history t ≡ x → option_map (λ st. record { ticket = t; mark = m; standing = st }) (standing_waited x) ≡ Some a → Leaves a
      waited m Waiting r f h = of_own t (GiveWaits m) a r (λ e. cc) (placed_by t Waiting f refl) (λ v e. (let no : Waiting ≡ Paired v = sym f ∙ e in cc)) told
      waited m Cut r f h =
          of_own t (GiveWaits m) a r (λ e. cc) (placed_by t Cut f (ap (λ o. option_map_or waits_first o false && true) r)) (λ v e. (let no : Cut ≡ Paired v = sym f ∙ e in cc)) told
      waited m Never r f h = absurd (cc)
      waited m Failed r f h = absurd (cc)
      waited m EntryRefused r f h = absurd (cc)
      waited m (Paired v) r f h = absurd (cc)
      waited m (Collected v) r f h = absurd (cc)
      waited m (Withdrawn cause) r f h = absurd (cc)
      waited m KeptFate r f h = absurd (cc)
      waited m Past r f h = absurd (cc)

      kept : (m : ℕ) (x : Fate) → request_of history t ≡ Some (GiveKept m) → fate history t ≡ x → option_map (λ st. record { ticket = t; mark = m; standing = st }) (standing_kept x) ≡ Some a → Leaves a
      kept m KeptFate r f h = of_own t (GiveKept m) a r (λ e. cc) (placed_by t KeptFate f refl) (λ v e. (let no : KeptFate ≡ Paired v = sym f ∙ e in cc)) told
      kept m Waiting r f h = absurd (cc)
      kept m Cut r f h = absurd (cc)
      kept m Never r f h = absurd (cc)
      kept m Failed r f h = absurd (cc)
      kept m EntryRefused r f h = absurd (cc)
      kept m (Paired v) r f h = absurd (cc)
      kept m (Collected v) r f h = absurd (cc)
      kept m (Withdrawn cause) r f h = absurd (cc)
      kept m Past r f h = absurd (cc)

      met : (m u : ℕ) (x : Fate) → request_of history t ≡ Some (GiveMeets m u) → has_waited history u ≡ true → fate history u ≡ x → option_map (λ st. record { ticket = t; mark = m; standing = st }) (standing_met t x) ≡ Some a → Leaves a
      met m u (Paired v) r w f h = by_test (v == t) refl h
        where
          by_test : (b : Bool) → (v == t) ≡ b → option_map (λ st. record { ticket = t; mark = m; standing = st }) (cond b (Some Ready) None) ≡ Some a → Leaves a
          by_test false e h = absurd (cc)
          by_test true e h =
              let paired : fate history u ≡ Paired t = f ∙ ap (λ y. Paired y) (eqb-true v t e) in
              ⊎_elim (λ here. absurd (lined here.0.waits (sym (tells.line here.0 here.1) ∙ ap (fate history) here.2 ∙ paired)))
              (λ p. of_taker t u m a r paired told p.0 (s.holds p.0) refl p.1 p.2)
              (tells.found u (placed_by u (Paired t) paired (ap (λ b. b && true) w)))
            where
              lined : (b : Bool) → (if b then Waiting else KeptFate) ≡ Paired t → ⊥
              lined true both = cc
              lined false both = cc
      met m u Waiting r w f h = absurd (cc)
      met m u Cut r w f h = absurd (cc)
      met m u Never r w f h = absurd (cc)
      met m u Failed r w f h = absurd (cc)
      met m u EntryRefused r w f h = absurd (cc)
      met m u (Collected v) r w f h = absurd (cc)
      met m u (Withdrawn cause) r w f h = absurd (cc)
      met m u KeptFate r w f h = absurd (cc)
      met m u Past r w f h = absurd (cc)

      took : (m u : ℕ) (b : Bool) → request_of history t ≡ Some (GiveMeets m u) → has_waited history u ≡ b →
          (if b then option_map (λ st. record { ticket = t; mark = m; standing = st }) (standing_met t (fate history u)) else None) ≡ Some a → Leaves a
      took m u true r w h = met m u (fate history u) r w refl h
      took m u false r w h = absurd (cc)

      by_deed : (d : Deed) → request_of history t ≡ Some d → left_asked history t d ≡ Some a → Leaves a
      by_deed (GiveWaits m) r h = waited m (fate history t) r refl h
      by_deed (GiveKept m) r h = kept m (fate history t) r refl h
      by_deed (GiveMeets m u) r h = took m u (has_waited history u) r refl h
      by_deed (GiveFails m) r h = absurd (cc)
      by_deed TakeWaits r h = absurd (cc)
      by_deed (TakeMeets m u) r h = absurd (cc)
      by_deed TakeFails r h = absurd (cc)
      by_deed (EntryInterrupted side) r h = absurd (cc)
      by_deed Done r h = absurd (cc)
      by_deed (Got m u) r h = absurd (cc)
      by_deed (TakenBack cause) r h = absurd (cc)
      by_deed (Interrupt j) r h = absurd (cc)

      by_request : (o : Option Deed) → request_of history t ≡ o → Leaves a
      by_request None r = absurd (let no : None ≡ Some a = sym (ap (option_and_then (left_asked history t)) r) ∙ told in cc)
      by_request (Some d) r = by_deed d r (sym (told_asked history t d r) ∙ told)

  -- no two seats leave items of one giver
  pub seats_leave_apart : (i j : ℕ) (x y : Hold ℕ) → s.holds i ≡ x → s.holds j ≡ y → (a b : Leaving) → told_hold x ≡ Some a → told_hold y ≡ Some b → a.ticket ≡ b.ticket → i ≡ j
  seats_leave_apart i j Free y p q a b l r same = absurd (cc)
  seats_leave_apart i j (WaitingAt t) y p q a b l r same = absurd (cc)
  seats_leave_apart i j (Handed t u m) y p q a b l r same = absurd (cc)
  seats_leave_apart i j x Free p q a b l r same = absurd (cc)
  seats_leave_apart i j x (WaitingAt t) p q a b l r same = absurd (cc)
  seats_leave_apart i j x (Handed t u m) p q a b l r same = absurd (cc)
  seats_leave_apart i j (CutAt t None) y p q a b l r same = absurd (cc)
  seats_leave_apart i j x (CutAt t None) p q a b l r same = absurd (cc)
  seats_leave_apart i j (Served t u m) (Served v w n) p q a b l r same =
      let giver : u ≡ w = ap (λ (z : Leaving). z.ticket) (some_is l) ∙ same ∙ sym (ap (λ (z : Leaving). z.ticket) (some_is r)) in
      let asks : Some (GiveMeets m t) ≡ Some (GiveMeets n v) = sym (asked.served i t u m p) ∙ ap (request_of history) giver ∙ asked.served j v w n q in
      let taker : t ≡ v = cc in
      tells.seats_apart i j t (ap open_ticket p) (ap open_ticket q ∙ ap (λ z. Some z) (sym taker))
  seats_leave_apart i j (Served t u m) (CutAt v (Some n)) p q a b l r same =
      let giver : u ≡ v = ap (λ (z : Leaving). z.ticket) (some_is l) ∙ same ∙ sym (ap (λ (z : Leaving). z.ticket) (some_is r)) in
      let asks : Some (GiveMeets m t) ≡ Some (GiveWaits n) = sym (asked.served i t u m p) ∙ ap (request_of history) giver ∙ asked.cut j v (Some n) q in
      absurd (cc)
  seats_leave_apart i j (CutAt v (Some n)) (Served t u m) p q a b l r same =
      let giver : v ≡ u = ap (λ (z : Leaving). z.ticket) (some_is l) ∙ same ∙ sym (ap (λ (z : Leaving). z.ticket) (some_is r)) in
      let asks : Some (GiveWaits n) ≡ Some (GiveMeets m t) = sym (asked.cut i v (Some n) p) ∙ ap (request_of history) giver ∙ asked.served j t u m q in
      absurd (cc)
  seats_leave_apart i j (CutAt t (Some m)) (CutAt v (Some n)) p q a b l r same =
      let giver : t ≡ v = ap (λ (z : Leaving). z.ticket) (some_is l) ∙ same ∙ sym (ap (λ (z : Leaving). z.ticket) (some_is r)) in
      tells.seats_apart i j t (ap open_ticket p) (ap open_ticket q ∙ ap (λ z. Some z) (sym giver))

  -- nor does a seat leave one of a giver whose entry does
  pub line_leaves_apart : (e : Entry ℕ) → Contains s.line e → (i : ℕ) (x : Hold ℕ) → s.holds i ≡ x → (b : Leaving) → told_hold x ≡ Some b → b.ticket ≢ e.ticket
  line_leaves_apart e there i Free p b r same = absurd (cc)
  line_leaves_apart e there i (WaitingAt t) p b r same = absurd (cc)
  line_leaves_apart e there i (Handed t u m) p b r same = absurd (cc)
  line_leaves_apart e there i (CutAt t None) p b r same = absurd (cc)
  line_leaves_apart e there i (Served t u m) p b r same =
      let giver : u ≡ e.ticket = ap (λ (z : Leaving). z.ticket) (some_is r) ∙ same in
      asks_to_wait m t e.item e.waits (sym (asked.served i t u m p) ∙ ap (request_of history) giver ∙ asked.line e there)
    where
      asks_to_wait : (m t : ℕ) (item : Option ℕ) (waits : Bool) → Some (GiveMeets m t) ≡ Some (asked_for item waits) → ⊥
      asks_to_wait m t None waits is = absurd (cc)
      asks_to_wait m t (Some n) true is = absurd (cc)
      asks_to_wait m t (Some n) false is = absurd (cc)
  line_leaves_apart e there i (CutAt t (Some m)) p b r same =
      let giver : t ≡ e.ticket = ap (λ (z : Leaving). z.ticket) (some_is r) ∙ same in
      stands e.waits (sym (tells.cut i t (Some m) p) ∙ ap (fate history) giver ∙ tells.line e there)
    where
      stands : (waits : Bool) → Cut ≡ (if waits then Waiting else KeptFate) → ⊥
      stands true is = absurd (cc)
      stands false is = absurd (cc)
