-- How a count of tickets changes with a record.
use Rattle.std.proofs.Common.{◌≡◌, ◌≢◌, ℕ, ◌+◌, ◌==◌, refl, sym, ap, ◌∙◌, subst, ⊎_elim, Bool, true, false, ◌&&◌, if◌then◌else◌, Option, Some, None, is_some, List, [], ◌∷◌, ◌++◌, arith}
use Rattle.std.specs.Prelude.{count_by, nat_lt}
use Rattle.std.specs.Option.{option_or}
use Rattle.std.proofs.lemmas.Bool.{cases_eq, eq-eqb, ne_eqb, lt-ltb}
use Rattle.std.proofs.lemmas.List.{append-nil, append_assoc}
use Rattle.meet_tickets.specs.declared.records.Record.{Record}
use Rattle.meet_tickets.specs.declared.records.Cause.{Cause}
use Rattle.meet_tickets.specs.declared.records.Cause.TheVariants.{Interrupted}
use Rattle.meet_tickets.specs.declared.records.Deed.{Deed}
use Rattle.meet_tickets.specs.declared.records.Deed.TheVariants.{Withdrawn, Interrupt}
use Rattle.meet_tickets.specs.BySeat.{is_request, put_at}
use Rattle.meet_tickets.specs.Fates.{tickets_of, named_by}
use Rattle.meet_tickets.proofs.Lists.Changed.{one, times, count-push, count-same, count_apart, count_once}
use Rattle.meet_tickets.proofs.Told.Fated.{Joining, deed_of, waits_of, blank, only_asked, only_met, only_cut}
use Rattle.meet_tickets.proofs.Told.Recorded.{tickets_more, tickets_same}
use Rattle.meet_tickets.proofs.Told.Said.{Said, said, said_after, heard}
use Rattle.meet_tickets.proofs.Tellings.Whereabouts.{put_at_here, put_at_there}
use Rattle.meet_laws.proofs.Speaking.{Meets, Learns, ends, gets, GoesOn, asks, meets, learns, leaves, returns, cuts, flags, AllGoOn, Speaks, flag_says, meets_asks, meets_own, meets_other, meets_others, own_adds, others_stay, learns_unnamed, learns_adds, asks_adds}

-- what a record adds where it goes on so
abbrev pub gains : {f : ℕ → Said} {t : ℕ} {d : Deed} → GoesOn f t d → (Said → Bool) → ℕ
gains {f} {t} {d} (asks request none new) w = one (w (only_asked d))
gains {f} {t} {d} (meets u j m new there) w = one (w (only_asked d)) + one (w (only_met j t))
gains (learns u j l was) w = one (w (record (only_met j u) { learned = true }))
gains (leaves j cause e l waits was) w = one (w (record (only_asked (deed_of j)) { back = Some cause }))
gains (returns j e waits was) w = one (w (record (only_cut j) { back = Some Interrupted }))
gains (cuts j i e above waits was) w = one (w (only_cut j))
gains (flags i e none) w = 0

-- and what it takes away
abbrev pub losses : {f : ℕ → Said} {t : ℕ} {d : Deed} → GoesOn f t d → (Said → Bool) → ℕ
losses (asks request none new) w = 0
losses (meets u j m new there) w = one (w (only_asked (deed_of j)))
losses (learns u j l was) w = one (w (only_met j u))
losses (leaves j cause e l waits was) w = one (w (only_asked (deed_of j)))
losses (returns j e waits was) w = one (w (only_cut j))
losses (cuts j i e above waits was) w = one (w (only_asked (deed_of j)))
losses (flags i e none) w = 0

-- how many tickets of a history pass
abbrev pub weigh : (Said → Bool) → List (Record Deed) → ℕ
weigh w history = count_by (λ t. w (said history t)) (tickets_of history)

-- each ticket that was asked for stands once among the tickets, and no other does
abbrev pub Once : List (Record Deed) → Type 0
Once history = (t : ℕ) → times t (tickets_of history) ≡ one (is_some (said history t).asked)

module _ (history : List (Record Deed)) (r : Record Deed) where
  asked_after : (x : ℕ) → (said (history ++ r ∷ []) x).asked ≡ option_or (said history x).asked (if is_request r.deed && (r.ticket == x) then Some r.deed else None)
  asked_after x = ap (λ (y : Said). y.asked) (said_after history r x)

  asked_elsewhere : (x : ℕ) → (is_request r.deed && (r.ticket == x)) ≡ false → is_some (said (history ++ r ∷ []) x).asked ≡ is_some (said history x).asked
  asked_elsewhere x e = ap is_some (asked_after x) ∙ ap (λ b. is_some (option_or (said history x).asked (if b then Some r.deed else None))) e ∙ or_none (said history x).asked
    where
      or_none : (o : Option Deed) → is_some (option_or o None) ≡ is_some o
      or_none None = refl
      or_none (Some d) = refl

  and_false : (b : Bool) → (b && false) ≡ false
  and_false true = refl
  and_false false = refl

  -- a new request stands once more
  once_asked : Once history → is_request r.deed ≡ true → said history r.ticket ≡ blank → Once (history ++ r ∷ [])
  once_asked once request new x = ⊎_elim at away (cases_eq x r.ticket)
    where
      push : times x (tickets_of (history ++ r ∷ [])) ≡ times x (tickets_of history) + one (r.ticket == x)
      push = ap (times x) (tickets_more history r request) ∙ count-push (λ y. y == x) (tickets_of history) r.ticket

      at : x ≡ r.ticket → times x (tickets_of (history ++ r ∷ [])) ≡ one (is_some (said (history ++ r ∷ []) x).asked)
      at e =
          let here : ◌≡◌ {A = ℕ} (one (r.ticket == x)) 1 = ap one (eq-eqb r.ticket x (sym e)) in
          let before : times x (tickets_of history) ≡ 0 = once x ∙ ap (λ (y : Said). one (is_some y.asked)) (ap (said history) e ∙ new) in
          let after : ◌≡◌ {A = ℕ} (one (is_some (said (history ++ r ∷ []) x).asked)) 1 =
          ap (λ o. one (is_some o)) (asked_after x ∙ ap (λ (y : Said). option_or y.asked (if is_request r.deed && (r.ticket == x) then Some r.deed else None)) (ap (said history) e ∙ new)
          ∙ ap (λ b. if b && (r.ticket == x) then Some r.deed else None) request ∙ ap (λ b. if b then Some r.deed else None) (eq-eqb r.ticket x (sym e))) in
          omega (arith, push, here, before, after)

      away : x ≢ r.ticket → times x (tickets_of (history ++ r ∷ [])) ≡ one (is_some (said (history ++ r ∷ []) x).asked)
      away n =
          let apart = ne_eqb r.ticket x (λ e. n (sym e)) in
          let here : ◌≡◌ {A = ℕ} (one (r.ticket == x)) 0 = ap one apart in
          let before = once x in
          let after : ◌≡◌ {A = ℕ} (one (is_some (said (history ++ r ∷ []) x).asked)) (one (is_some (said history x).asked)) = ap one (asked_elsewhere x (ap (λ b. is_request r.deed && b) apart ∙ and_false (is_request r.deed))) in
          omega (arith, push, here, before, after)

  once_other : Once history → is_request r.deed ≡ false → Once (history ++ r ∷ [])
  once_other once other x =
      ap (times x) (tickets_same history r other) ∙ once x ∙ sym (ap one (asked_elsewhere x (ap (λ b. b && (r.ticket == x)) other)))

  -- of a ticket that was asked for more is said
  turned_weighs : (w : Said → Bool) → Once history → is_request r.deed ≡ false → named_by r.deed ≡ None → (x y : Said) → said history r.ticket ≡ x → is_some x.asked ≡ true → said (history ++ r ∷ []) r.ticket ≡ y →
      weigh w (history ++ r ∷ []) + one (w x) ≡ weigh w history + one (w y)
  turned_weighs w once other none x y was asked now =
      let same : weigh w (history ++ r ∷ []) ≡ count_by (λ t. w (said (history ++ r ∷ []) t)) (tickets_of history) = ap (count_by (λ t. w (said (history ++ r ∷ []) t))) (tickets_same history r other) in
      let turned = count_once (λ t. w (said (history ++ r ∷ []) t)) (λ t. w (said history t)) r.ticket (λ t n. ap w (others_stay history r none t n)) (tickets_of history) (once r.ticket ∙ ap (λ (z : Said). one (is_some z.asked)) was ∙ ap one asked) in
      let before : ◌≡◌ {A = ℕ} (one (w (said history r.ticket))) (one (w x)) = ap (λ z. one (w z)) was in
      let after : ◌≡◌ {A = ℕ} (one (w (said (history ++ r ∷ []) r.ticket))) (one (w y)) = ap (λ z. one (w z)) now in
      omega (arith, same, turned, before, after)

  -- a request is new
  asked_weighs : (w : Said → Bool) → Once history → is_request r.deed ≡ true → said history r.ticket ≡ blank → (f : ℕ → Said) → ((t : ℕ) → t ≢ r.ticket → said (history ++ r ∷ []) t ≡ f t) → (y : Said) → said (history ++ r ∷ []) r.ticket ≡ y →
      weigh w (history ++ r ∷ []) ≡ count_by (λ t. w (f t)) (tickets_of history) + one (w y)
  asked_weighs w once request new f others y now =
      let push : weigh w (history ++ r ∷ []) ≡ count_by (λ t. w (said (history ++ r ∷ []) t)) (tickets_of history) + one (w (said (history ++ r ∷ []) r.ticket)) =
      ap (count_by (λ t. w (said (history ++ r ∷ []) t))) (tickets_more history r request) ∙ count-push (λ t. w (said (history ++ r ∷ []) t)) (tickets_of history) r.ticket in
      let same = count_apart (λ t. w (said (history ++ r ∷ []) t)) (λ t. w (f t)) r.ticket (λ t n. ap w (others t n)) (tickets_of history) (once r.ticket ∙ ap (λ (z : Said). one (is_some z.asked)) new) in
      let here : ◌≡◌ {A = ℕ} (one (w (said (history ++ r ∷ []) r.ticket))) (one (w y)) = ap (λ z. one (w z)) now in
      omega (arith, push, same, here)

  learns_ends : (t : ℕ) (d : Deed) (u : ℕ) (j : Joining) (o : Option Deed) → Learns t d u j o → is_request d ≡ false
  learns_ends t d u j o ends = refl
  learns_ends t d u j o gets = refl

  -- a request meets a ticket of the line
  met_weighs : (w : Said → Bool) → Once history → (u : ℕ) (j : Joining) → Meets r.deed u j → said history r.ticket ≡ blank → said history u ≡ only_asked (deed_of j) →
      weigh w (history ++ r ∷ []) + one (w (only_asked (deed_of j))) ≡ weigh w history + (one (w (only_asked r.deed)) + one (w (only_met j r.ticket)))
  met_weighs w once u j m new there =
      let f : ℕ → Said = put_at (said history) u (only_met j r.ticket) in
      let new_one = asked_weighs w once (meets_asks r.deed u j m) new (put_at (said history) u (only_met j r.ticket)) others (only_asked r.deed) (meets_own history r u j m new there) in
      let met_one = count_once (λ t. w (put_at (said history) u (only_met j r.ticket) t)) (λ t. w (said history t)) u (λ t n. ap w (put_at_there (said history) u (only_met j r.ticket) t n)) (tickets_of history) (once u ∙ ap (λ (z : Said). one (is_some z.asked)) there) in
      let before : ◌≡◌ {A = ℕ} (one (w (said history u))) (one (w (only_asked (deed_of j)))) = ap (λ z. one (w z)) there in
      let after : ◌≡◌ {A = ℕ} (one (w (put_at (said history) u (only_met j r.ticket) u))) (one (w (only_met j r.ticket))) = ap (λ z. one (w z)) (put_at_here (said history) u (only_met j r.ticket)) in
      omega (arith, new_one, met_one, before, after)
    where
      others : (t : ℕ) → t ≢ r.ticket → said (history ++ r ∷ []) t ≡ put_at (said history) u (only_met j r.ticket) t
      others t n = ⊎_elim
          (λ e. ap (said (history ++ r ∷ [])) e ∙ meets_other history r u j m new there ∙ sym (put_at_here (said history) u (only_met j r.ticket)) ∙ ap (put_at (said history) u (only_met j r.ticket)) (sym e))
          (λ n'. meets_others history r u j m new there t n n' ∙ sym (put_at_there (said history) u (only_met j r.ticket) t n')) (cases_eq t u)

  -- a record weighs what it adds and takes away
  pub weighed : (w : Said → Bool) → Once history → (g : GoesOn (said history) r.ticket r.deed) → weigh w (history ++ r ∷ []) + losses g w ≡ weigh w history + gains g w
  weighed w once (asks request none new) =
      let more = asked_weighs w once request new (said history) (λ t n. others_stay history r none t n) (only_asked r.deed) (own_adds history r none blank new ∙ asks_adds r.deed r.ticket (nat_lt 0 r.ticket) request) in
      omega (arith, more)
  weighed w once (meets u j m new there) = met_weighs w once u j m new there
  weighed w once (learns u j l was) =
      let none = learns_unnamed r.ticket r.deed u j (said history u).asked l in
      turned_weighs w once (learns_ends r.ticket r.deed u j (said history u).asked l) none (only_met j u) (record (only_met j u) { learned = true }) was refl
      (own_adds history r none (only_met j u) was ∙ learns_adds r.ticket r.deed u j (said history u).asked (nat_lt 0 r.ticket) l)
  weighed w once (leaves j cause e l waits was) =
      turned_weighs w once (ap is_request e) (ap named_by e) (only_asked (deed_of j)) (record (only_asked (deed_of j)) { back = Some cause }) was refl
      (own_adds history r (ap named_by e) (only_asked (deed_of j)) was ∙ ap (λ d. heard d r.ticket true false (nat_lt 0 r.ticket) (only_asked (deed_of j))) e)
  weighed w once (returns j e waits was) =
      turned_weighs w once (ap is_request e) (ap named_by e) (only_cut j) (record (only_cut j) { back = Some Interrupted }) was refl
      (own_adds history r (ap named_by e) (only_cut j) was ∙ ap (λ d. heard d r.ticket true false (nat_lt 0 r.ticket) (only_cut j)) e)
  weighed w once (cuts j i e above waits was) =
      turned_weighs w once (ap is_request e) (ap named_by e) (only_asked (deed_of j)) (only_cut j) was refl
      (own_adds history r (ap named_by e) (only_asked (deed_of j)) was ∙ ap (λ d. heard d r.ticket true false (nat_lt 0 r.ticket) (only_asked (deed_of j))) e
      ∙ ap (λ b. heard (Interrupt i) r.ticket true false b (only_asked (deed_of j))) (lt-ltb 0 r.ticket above))
  weighed w once (flags i e none) =
      let same : weigh w (history ++ r ∷ []) ≡ weigh w history =
      ap (count_by (λ t. w (said (history ++ r ∷ []) t))) (tickets_same history r (ap is_request e))
      ∙ count-same (λ t. w (said (history ++ r ∷ []) t)) (λ t. w (said history t)) (λ t. ap w (flag_says history r i e none t)) (tickets_of history) in
      omega (arith, same)

  once_goes : Once history → GoesOn (said history) r.ticket r.deed → Once (history ++ r ∷ [])
  once_goes once (asks request none new) = once_asked once request new
  once_goes once (meets u j m new there) = once_asked once (meets_asks r.deed u j m) new
  once_goes once (learns u j l was) = once_other once (learns_ends r.ticket r.deed u j (said history u).asked l)
  once_goes once (leaves j cause e l waits was) = once_other once (ap is_request e)
  once_goes once (returns j e waits was) = once_other once (ap is_request e)
  once_goes once (cuts j i e above waits was) = once_other once (ap is_request e)
  once_goes once (flags i e none) = once_other once (ap is_request e)

-- where each record adds to the weight and to the count of some records as much as it takes away and adds to the count of
-- others, these differ by nothing in the end
module _ (w : Said → Bool) (p q : Deed → Bool) (each : (f : ℕ → Said) (t : ℕ) (d : Deed) (g : GoesOn f t d) → gains g w + one (p d) ≡ losses g w + one (q d)) where
  counted_from : (rest history : List (Record Deed)) → AllGoOn history rest → Once history → weigh w history + count_by (λ r. p r.deed) history ≡ count_by (λ r. q r.deed) history →
      weigh w (history ++ rest) + count_by (λ r. p r.deed) (history ++ rest) ≡ count_by (λ r. q r.deed) (history ++ rest)
  counted_from [] history on once same = subst (λ h. weigh w h + count_by (λ r. p r.deed) h ≡ count_by (λ r. q r.deed) h) (sym (append-nil history)) same
  counted_from (r ∷ rest) history on once same =
      subst (λ h. weigh w h + count_by (λ r. p r.deed) h ≡ count_by (λ r. q r.deed) h) (append_assoc history (r ∷ []) rest)
      (counted_from rest (history ++ r ∷ []) on.1 (once_goes history r once on.0)
      (let step = weighed history r w once on.0 in
      let balance = each (said history) r.ticket r.deed on.0 in
      let ps = count-push (λ (x : Record Deed). p x.deed) history r in
      let qs = count-push (λ (x : Record Deed). q x.deed) history r in
      omega (arith, step, balance, ps, qs, same)))

  pub counted : (history : List (Record Deed)) → Speaks history → weigh w history + count_by (λ r. p r.deed) history ≡ count_by (λ r. q r.deed) history
  counted history on = counted_from history [] on (λ t. refl) refl

-- each ticket of a request stands once
once_from : (rest history : List (Record Deed)) → AllGoOn history rest → Once history → Once (history ++ rest)
once_from [] history on once = subst Once (sym (append-nil history)) once
once_from (r ∷ rest) history on once = subst Once (append_assoc history (r ∷ []) rest) (once_from rest (history ++ r ∷ []) on.1 (once_goes history r once on.0))

pub once_all : (history : List (Record Deed)) → Speaks history → Once history
once_all history on = once_from history [] on (λ t. refl)

-- these are as many, deed by deed
pub record Balances (w : Said → Bool) (p q : Deed → Bool) : Type 0 where
  pub asking : (d : Deed) → is_request d ≡ true → named_by d ≡ None → one (w (only_asked d)) + one (p d) ≡ 0 + one (q d)
  pub meeting : (t : ℕ) (d : Deed) (u : ℕ) (j : Joining) → Meets d u j → (one (w (only_asked d)) + one (w (only_met j t))) + one (p d) ≡ one (w (only_asked (deed_of j))) + one (q d)
  pub learning : (t : ℕ) (d : Deed) (u : ℕ) (j : Joining) (o : Option Deed) → Learns t d u j o → one (w (record (only_met j u) { learned = true })) + one (p d) ≡ one (w (only_met j u)) + one (q d)
  pub leaving : (j : Joining) (c : Cause) → waits_of j ≡ true → one (w (record (only_asked (deed_of j)) { back = Some c })) + one (p (Withdrawn c)) ≡ one (w (only_asked (deed_of j))) + one (q (Withdrawn c))
  pub returning : (j : Joining) → waits_of j ≡ true → one (w (record (only_cut j) { back = Some Interrupted })) + one (p (Withdrawn Interrupted)) ≡ one (w (only_cut j)) + one (q (Withdrawn Interrupted))
  pub cutting : (j : Joining) (i : ℕ) → waits_of j ≡ true → one (w (only_cut j)) + one (p (Interrupt i)) ≡ one (w (only_asked (deed_of j))) + one (q (Interrupt i))
  pub flagging : (i : ℕ) → 0 + one (p (Interrupt i)) ≡ 0 + one (q (Interrupt i))

balanced : (w : Said → Bool) (p q : Deed → Bool) → Balances w p q → (f : ℕ → Said) (t : ℕ) (d : Deed) (g : GoesOn f t d) → gains g w + one (p d) ≡ losses g w + one (q d)
balanced w p q b f t d (asks request none new) = b.asking d request none
balanced w p q b f t d (meets u j m new there) = b.meeting t d u j m
balanced w p q b f t d (learns u j l was) = b.learning t d u j (f u).asked l
balanced w p q b f t d (leaves j cause e l waits was) = subst (λ x. one (w (record (only_asked (deed_of j)) { back = Some cause })) + one (p x) ≡ one (w (only_asked (deed_of j))) + one (q x)) (sym e) (b.leaving j cause waits)
balanced w p q b f t d (returns j e waits was) = subst (λ x. one (w (record (only_cut j) { back = Some Interrupted })) + one (p x) ≡ one (w (only_cut j)) + one (q x)) (sym e) (b.returning j waits)
balanced w p q b f t d (cuts j i e above waits was) = subst (λ x. one (w (only_cut j)) + one (p x) ≡ one (w (only_asked (deed_of j))) + one (q x)) (sym e) (b.cutting j i waits)
balanced w p q b f t d (flags i e none) = subst (λ x. 0 + one (p x) ≡ 0 + one (q x)) (sym e) (b.flagging i)

-- so they are in the end
pub counted_as : (w : Said → Bool) (p q : Deed → Bool) → Balances w p q → (history : List (Record Deed)) → Speaks history → weigh w history + count_by (λ r. p r.deed) history ≡ count_by (λ r. q r.deed) history
counted_as w p q b history on = counted w p q (balanced w p q b) history on
