-- What is left of a legal history is legal: none of the tickets that are gone was ever a partner, the line is what is left
-- of the line, and no flag is set.
use Rattle.std.proofs.Common.{◌≡◌, ◌≢◌, ◌⊎◌, ℕ, zero, suc, ◌<◌, ◌≤◌, ◌==◌, refl, sym, ap, ◌∙◌, subst, inl, inr, ⊎_elim, Bool, true, false, not, ◌&&◌, ◌||◌, cond, Option, Some, None, is_some, List, [], ◌∷◌, ◌++◌, filter, Contains, arith}
use Rattle.std.specs.Prelude.{⊤, MatchOption, nat_lt}
use Rattle.std.specs.Option.{option_map_or}
use Rattle.std.proofs.lemmas.List.{append-nil, append_assoc}
use Rattle.std.proofs.lemmas.Bool.{true≢false, false≢true, cases_lt, ne_eqb}
use Rattle.meet_tickets.specs.declared.lines.Entry.{Entry}
use Rattle.meet_tickets.specs.declared.places.Kind.{Kind}
use Rattle.meet_tickets.specs.declared.places.Side.{Side}
use Rattle.meet_tickets.specs.declared.places.Side.TheVariants.{Giver, Taker}
use Rattle.meet_tickets.specs.declared.records.Record.{Record}
use Rattle.meet_tickets.specs.declared.records.Cause.{Cause}
use Rattle.meet_tickets.specs.declared.records.Cause.TheVariants.{Cancelled, Expired, Interrupted}
use Rattle.meet_tickets.specs.declared.records.Deed.{Deed}
use Rattle.meet_tickets.specs.declared.records.Deed.TheVariants.{GiveWaits, GiveMeets, GiveFails, GiveKept, TakeWaits, TakeMeets, TakeFails, EntryInterrupted, Done, Got, Withdrawn, Interrupt}
use Rattle.meet_tickets.specs.Bases.{no_base}
use Rattle.meet_tickets.specs.ByLists.{State, Pair, Open, IsNew, IsOpen, IsStep, IsLegal, IsLegalFrom, empty, after, wait, without, closed}
use Rattle.meet_tickets.specs.BySeat.{Moment, beginning, moment_after, is_request}
use Rattle.meet_tickets.specs.Fates.{fate, named_by, meets_it, interrupts}
use Rattle.meet_tickets.specs.Meeting.{end_of, Alone, Finds, MayKeep, kept_count}
use Rattle.meet_tickets.proofs.OnBases.Based.{no_base_well_formed, orderly_base}
use Rattle.meet_tickets.proofs.Told.Fated.{Joining, Gives, Keeps, Takes, deed_of, only_met}
use Rattle.meet_tickets.proofs.Tellings.Histories.{Alike, alike_after, starts_alike}
use Rattle.meet_tickets.proofs.Lists.Members.{Contains-first, Contains-rest, Contains-nil, Contains-filter, Contains-unfiltered, filtered_passes}
use Rattle.meet_tickets.proofs.Tellings.Orderly.{Orderly, orderly_after}
use Rattle.meet_tickets.proofs.Told.Said.{Said, said, said_after, said_of_others, heard, fate_of, fate_is}
use Rattle.meet_tickets.proofs.Line.Sides.{HasOneSide}
use Rattle.meet_laws.specs.Erasing.{is_gone, is_left, erase, IsErased}
use Rattle.meet_laws.specs.Rows.{is_refused}
use Rattle.meet_laws.proofs.Begun.{legal_speaks}
use Rattle.meet_laws.proofs.Couples.{couple, and_both, request_said}
use Rattle.meet_laws.proofs.Filters.{filter_comm, filter_drop, push_left, push_erased, kept_fewer, alone_filter, partner_filter}
use Rattle.meet_laws.proofs.Rows.{back_said, cut_said, refused_asks, refused_fate}
use Rattle.meet_laws.proofs.Speaking.{GoesOn, asks, meets, learns, leaves, returns, cuts, flags, Speaks, turns, flag_says, meets_asks}
use Rattle.meet_laws.proofs.Told.{Parted, parted, carry, HasAsked, asked_turns}

-- the state of what is left
record IsShadow (gone : ℕ → Bool) (s s' : State) : Type 0 where
  last : s'.last ≤ s.last
  line : s'.line ≡ filter (λ e. not (gone e.ticket)) s.line
  pairs : s'.pairs ≡ s.pairs
  unended : s'.unended ≡ filter (λ o. not (gone o.ticket)) s.unended
  flags : s'.flags ≡ []

-- what a record tells of the tickets that are gone: none that met is, and each that it takes back or cuts is
record Foresees (gone : ℕ → Bool) (t : ℕ) (d : Deed) : Type 0 where
  met : (u : ℕ) → named_by d ≡ Some u → (gone t ≡ false) × (gone u ≡ false)
  back : (c : Cause) → d ≡ Withdrawn c → gone t ≡ true
  cut : (j : ℕ) → d ≡ Interrupt j → 0 < t → gone t ≡ true

or_true : (b : Bool) → (b || true) ≡ true
or_true true = refl
or_true false = refl

-- each record of a history does
foresees : (history : List (Record Deed)) → Speaks history → (r : Record Deed) → Contains history r → Foresees (is_gone history) r.ticket r.deed
foresees history on r there = record {
  met = λ u n. (let c = couple history on r there u n in (ap (λ (x : Said). x.cut || is_some x.back) c.own, ⊎_elim (λ e. ap (λ (x : Said). x.cut || is_some x.back) e) (λ e. ap (λ (x : Said). x.cut || is_some x.back) e) c.other));
  back = λ c e. ap (λ o. (said history r.ticket).cut || is_some o) (back_said history on r there c e) ∙ or_true (said history r.ticket).cut;
  cut = λ j e above. ap (λ b. b || is_some (said history r.ticket).back) (cut_said history on r there (ap interrupts e) above);
}

not_false : (b : Bool) → b ≡ false → not b ≡ true
not_false b e = ap not e

not_true : (b : Bool) → not b ≡ true → b ≡ false
not_true true e = absurd (false≢true e)
not_true false e = refl

-- a record that could be left isn't, where its ticket is gone
erased_gone : (g : Bool) → (not g && (true && true)) ≡ false → g ≡ true
erased_gone true e = refl
erased_gone false e = absurd (true≢false e)

both_ways : (b : Bool) → b ≡ true → b ≡ false → ⊥
both_ways b e f = true≢false (sym e ∙ f)

-- a ticket that isn't gone is another than one that is
apart : (gone : ℕ → Bool) (t x : ℕ) → gone t ≡ true → not (gone x) ≡ true → not (x == t) ≡ true
apart gone t x e n = ap not (ne_eqb x t (λ same. both_ways (gone t) e (ap gone (sym same) ∙ not_true (gone x) n)))

-- a request waits
abbrev after_wait : State → (seat ticket : ℕ) → Option ℕ → State
after_wait s i t item = wait s (record { ticket = t; seat = i; item = item; waits = true })

module _ (gone : ℕ → Bool) (k : Kind) (s s' : State) (sh : IsShadow gone s s') (one : HasOneSide s.line) where
  abbrev stays_in : Entry ℕ → Bool
  stays_in e = not (gone e.ticket)

  abbrev stays_open : Open → Bool
  stays_open o = not (gone o.ticket)

  new_left : (i t : ℕ) → IsNew s i t → IsNew s' i t
  new_left i t n =
      let below = sh.last in
      let above = n.above in
      record { above = omega (arith, below, above); free = λ x m. n.free x (Contains-unfiltered (λ (o : Open). not (gone o.ticket)) s.unended (record { ticket = x; seat = i }) (subst (λ l. Contains l (record { ticket = x; seat = i })) sh.unended m)) }

  alone_left : (side : Side) → Alone k s.line side → Alone k s'.line side
  alone_left side alone = subst (λ l. Alone k l side) (sym sh.line) (alone_filter (end_of k.order) (λ e. not (gone e.ticket)) s.line side one alone)

  finds_left : (side : Side) (u : ℕ) (item : Option ℕ) → gone u ≡ false → Finds k s.line side u item → Finds k s'.line side u item
  finds_left side u item stays found =
      let e = found.0 in
      let passes : not (gone e.ticket) ≡ true = ap (λ x. not (gone x)) found.2 ∙ ap not stays in
      subst (λ l. Finds k l side u item) (sym sh.line) (e, partner_filter (end_of k.order) (λ x. not (gone x.ticket)) s.line side e one found.1 passes, found.2, found.3)

  unflagged : (i : ℕ) → Contains s'.flags i → ⊥
  unflagged i m = Contains-nil i (subst (λ l. Contains l i) sh.flags m)

  may_left : MayKeep k s.line → MayKeep k s'.line
  may_left may = (may.0, few k.bound may.1)
    where
      fewer : kept_count s'.line ≤ kept_count s.line
      fewer = subst (λ l. kept_count l ≤ kept_count s.line) (sym sh.line) (kept_fewer (λ e. not (gone e.ticket)) s.line)

      few : (o : Option ℕ) → MatchOption o ⊤ (λ most. kept_count s.line < most) → MatchOption o ⊤ (λ most. kept_count s'.line < most)
      few None below = below
      few (Some most) below = omega (arith, fewer, below)

  open_left : (i t : ℕ) → gone t ≡ false → IsOpen s i t → IsOpen s' i t
  open_left i t stays m = subst (λ l. Contains l (record { ticket = t; seat = i })) (sym sh.unended) (Contains-filter (λ (o : Open). not (gone o.ticket)) s.unended (record { ticket = t; seat = i }) m (ap not stays))

  -- the moves of the lists, left or erased
  line_joins : (e : Entry ℕ) → gone e.ticket ≡ false → s'.line ++ e ∷ [] ≡ filter (λ x. not (gone x.ticket)) (s.line ++ e ∷ [])
  line_joins e stays = ap (λ l. l ++ e ∷ []) sh.line ∙ sym (push_left (λ x. not (gone x.ticket)) s.line e (ap not stays))

  line_erased : (e : Entry ℕ) → gone e.ticket ≡ true → s'.line ≡ filter (λ x. not (gone x.ticket)) (s.line ++ e ∷ [])
  line_erased e is = sh.line ∙ sym (push_erased (λ x. not (gone x.ticket)) s.line e (ap not is))

  opens_joins : (o : Open) → gone o.ticket ≡ false → s'.unended ++ o ∷ [] ≡ filter (λ x. not (gone x.ticket)) (s.unended ++ o ∷ [])
  opens_joins o stays = ap (λ l. l ++ o ∷ []) sh.unended ∙ sym (push_left (λ x. not (gone x.ticket)) s.unended o (ap not stays))

  opens_erased : (o : Open) → gone o.ticket ≡ true → s'.unended ≡ filter (λ x. not (gone x.ticket)) (s.unended ++ o ∷ [])
  opens_erased o is = sh.unended ∙ sym (push_erased (λ x. not (gone x.ticket)) s.unended o (ap not is))

  line_leaves : (u : ℕ) → without u s'.line ≡ filter (λ x. not (gone x.ticket)) (without u s.line)
  line_leaves u = ap (without u) sh.line ∙ filter_comm (λ x. not (x.ticket == u)) (λ x. not (gone x.ticket)) s.line

  line_dropped : (t : ℕ) → gone t ≡ true → s'.line ≡ filter (λ x. not (gone x.ticket)) (without t s.line)
  line_dropped t is = sh.line ∙ sym (filter_drop (λ x. not (x.ticket == t)) (λ x. not (gone x.ticket)) (λ x stays. apart gone t x.ticket is stays) s.line)

  opens_close : (t : ℕ) → filter (λ o. not (o.ticket == t)) s'.unended ≡ filter (λ x. not (gone x.ticket)) (filter (λ o. not (o.ticket == t)) s.unended)
  opens_close t = ap (filter (λ o. not (o.ticket == t))) sh.unended ∙ filter_comm (λ o. not (o.ticket == t)) (λ x. not (gone x.ticket)) s.unended

  opens_dropped : (t : ℕ) → gone t ≡ true → s'.unended ≡ filter (λ x. not (gone x.ticket)) (filter (λ o. not (o.ticket == t)) s.unended)
  opens_dropped t is = sh.unended ∙ sym (filter_drop (λ o. not (o.ticket == t)) (λ x. not (gone x.ticket)) (λ x stays. apart gone t x.ticket is stays) s.unended)

  -- a record that is left may come next there, and leaves what is left
  abbrev Left : (i t : ℕ) → Deed → Type 0
  Left i t d = IsStep k s' i t d × IsShadow gone (after s i t d) (after s' i t d)

  meets_left : (i t u : ℕ) (pair : Pair) → IsShadow gone (record s { last = t; line = without u s.line; pairs = s.pairs ++ pair ∷ [] }) (record s' { last = t; line = without u s'.line; pairs = s'.pairs ++ pair ∷ [] })
  meets_left i t u pair = record { last = omega arith; line = line_leaves u; pairs = ap (λ l. l ++ pair ∷ []) sh.pairs; unended = sh.unended; flags = sh.flags }

  waits_left : (i t : ℕ) (item : Option ℕ) → gone t ≡ false → IsShadow gone (after_wait s i t item) (after_wait s' i t item)
  waits_left i t item stays =
      let e : Entry ℕ = record { ticket = t; seat = i; item = item; waits = true } in
      record { last = omega arith; line = line_joins e stays; pairs = sh.pairs; unended = opens_joins (record { ticket = t; seat = i }) stays; flags = sh.flags }

  ended_left : (t : ℕ) → IsShadow gone (closed s t) (closed s' t)
  ended_left t = record { last = sh.last; line = sh.line; pairs = sh.pairs; unended = opens_close t; flags = sh.flags }

  kept_left : (i t m : ℕ) → gone t ≡ false → IsShadow gone (after s i t (GiveKept m)) (after s' i t (GiveKept m))
  kept_left i t m stays =
      let e : Entry ℕ = record { ticket = t; seat = i; item = Some m; waits = false } in
      record { last = omega arith; line = line_joins e stays; pairs = sh.pairs; unended = sh.unended; flags = sh.flags }

  passes_left : (t : ℕ) → IsShadow gone (record s { last = t }) (record s' { last = t })
  passes_left t = record { last = omega arith; line = sh.line; pairs = sh.pairs; unended = sh.unended; flags = sh.flags }

  step_left : (i t : ℕ) (d : Deed) → IsStep k s i t d → Foresees gone t d → gone t ≡ false → (not (interrupts d) && not (is_refused d)) ≡ true → Left i t d
  step_left i t (GiveWaits m) z fore g l = ((new_left i t z.0, alone_left Giver z.1, unflagged i), waits_left i t (Some m) g)
  step_left i t (GiveMeets m u) z fore g l = ((new_left i t z.0, finds_left Giver u None (fore.met u refl).1 z.1), meets_left i t u (record { giver = t; taker = u; mark = m }))
  step_left i t (GiveFails m) z fore g l = ((new_left i t z.0, alone_left Giver z.1), passes_left t)
  step_left i t (GiveKept m) z fore g l = ((new_left i t z.0, alone_left Giver z.1, may_left z.2), kept_left i t m g)
  step_left i t TakeWaits z fore g l = ((new_left i t z.0, alone_left Taker z.1, unflagged i), waits_left i t None g)
  step_left i t (TakeMeets m u) z fore g l = ((new_left i t z.0, finds_left Taker u (Some m) (fore.met u refl).1 z.1), meets_left i t u (record { giver = u; taker = t; mark = m }))
  step_left i t TakeFails z fore g l = ((new_left i t z.0, alone_left Taker z.1), passes_left t)
  step_left i t (EntryInterrupted side) z fore g l = absurd (false≢true l)
  step_left i t Done z fore g l = ((open_left i t g z.0, (z.1.0, subst (λ ps. Contains ps z.1.0) (sym sh.pairs) z.1.1, z.1.2)), ended_left t)
  step_left i t (Got m u) z fore g l = ((open_left i t g z.0, subst (λ ps. Contains ps (record { giver = u; taker = t; mark = m })) (sym sh.pairs) z.1), ended_left t)
  step_left i t (Withdrawn cause) z fore g l = absurd (both_ways (gone t) (fore.back cause refl) g)
  step_left i t (Interrupt j) z fore g l = absurd (false≢true l)

  -- one that is erased leaves it as it was
  waits_erased : (i t : ℕ) (item : Option ℕ) → s.last < t → gone t ≡ true → IsShadow gone (after_wait s i t item) s'
  waits_erased i t item above is =
      let below = sh.last in
      let e : Entry ℕ = record { ticket = t; seat = i; item = item; waits = true } in
      record { last = omega (arith, below, above); line = line_erased e is; pairs = sh.pairs; unended = opens_erased (record { ticket = t; seat = i }) is; flags = sh.flags }

  later : (t : ℕ) (raised : List ℕ) → s.last < t → IsShadow gone (record s { last = t; flags = raised }) s'
  later t raised above = let below = sh.last in record { last = omega (arith, below, above); line = sh.line; pairs = sh.pairs; unended = sh.unended; flags = sh.flags }

  ended_erased : (t : ℕ) (line : List (Entry ℕ)) (cut : List ℕ) → s'.line ≡ filter (λ x. not (gone x.ticket)) line → gone t ≡ true → IsShadow gone (record (closed s t) { line = line; cut = cut }) s'
  ended_erased t line cut lines is = record { last = sh.last; line = lines; pairs = sh.pairs; unended = opens_dropped t is; flags = sh.flags }

  step_erased : (i t : ℕ) (d : Deed) → IsStep k s i t d → Foresees gone t d → (not (gone t) && (not (interrupts d) && not (is_refused d))) ≡ false → IsShadow gone (after s i t d) s'
  step_erased i t (GiveWaits m) z fore l = waits_erased i t (Some m) z.0.above (erased_gone (gone t) l)
  step_erased i t (GiveMeets m u) z fore l = absurd (both_ways (gone t) (erased_gone (gone t) l) (fore.met u refl).0)
  step_erased i t (GiveFails m) z fore l = later t s.flags z.0.above
  step_erased i t (GiveKept m) z fore l =
      let below = sh.last in
      let above = z.0.above in
      let e : Entry ℕ = record { ticket = t; seat = i; item = Some m; waits = false } in
      record { last = omega (arith, below, above); line = line_erased e (erased_gone (gone t) l); pairs = sh.pairs; unended = sh.unended; flags = sh.flags }
  step_erased i t TakeWaits z fore l = waits_erased i t None z.0.above (erased_gone (gone t) l)
  step_erased i t (TakeMeets m u) z fore l = absurd (both_ways (gone t) (erased_gone (gone t) l) (fore.met u refl).0)
  step_erased i t TakeFails z fore l = later t s.flags z.0.above
  step_erased i t (EntryInterrupted side) z fore l = later t (after s i t (EntryInterrupted side)).flags z.0.above
  step_erased i t Done z fore l = ended_erased t s.line s.cut sh.line (erased_gone (gone t) l)
  step_erased i t (Got m u) z fore l = ended_erased t s.line s.cut sh.line (erased_gone (gone t) l)
  step_erased i t (Withdrawn Cancelled) z fore l = ended_erased t (without t s.line) s.cut (line_dropped t (fore.back Cancelled refl)) (fore.back Cancelled refl)
  step_erased i t (Withdrawn Expired) z fore l = ended_erased t (without t s.line) s.cut (line_dropped t (fore.back Expired refl)) (fore.back Expired refl)
  step_erased i t (Withdrawn Interrupted) z fore l = ended_erased t s.line (after s i t (Withdrawn Interrupted)).cut sh.line (fore.back Interrupted refl)
  step_erased i zero (Interrupt j) z fore l = record { last = sh.last; line = sh.line; pairs = sh.pairs; unended = sh.unended; flags = sh.flags }
  step_erased i (suc t) (Interrupt j) z fore l = record { last = sh.last; line = line_dropped (suc t) (fore.cut j refl (omega arith)); pairs = sh.pairs; unended = sh.unended; flags = sh.flags }

-- every run of the history, over every run of what is left
legal_left : (history : List (Record Deed)) → Speaks history → (k : Kind) (rest : List (Record Deed)) (s s' : State) (m : Moment) → ((r : Record Deed) → Contains rest r → Contains history r) →
    Alike s m → Orderly k s → IsShadow (is_gone history) s s' → IsLegalFrom k s rest → IsLegalFrom k s' (filter (is_left (is_gone history)) rest)
legal_left history on k [] s s' m among alike orderly sh legal = tt
legal_left history on k (r ∷ rest) s s' m among alike orderly sh legal = by_left (is_left (is_gone history) r) refl
    (λ z shadow. legal_left history on k rest (after s r.seat r.ticket r.deed) z (moment_after k m r) (λ x n. among x (Contains-rest r rest x n)) (alike_after k s m alike r legal.0) (orderly_after k s alike.reached orderly r.seat r.ticket r.deed legal.0) shadow legal.1)
  where
    fore : Foresees (is_gone history) r.ticket r.deed
    fore = foresees history on r (among r (Contains-first r rest))

    by_left : (b : Bool) → is_left (is_gone history) r ≡ b → ((z : State) → IsShadow (is_gone history) (after s r.seat r.ticket r.deed) z → IsLegalFrom k z (filter (is_left (is_gone history)) rest)) →
        IsLegalFrom k s' (cond b (r ∷ filter (is_left (is_gone history)) rest) (filter (is_left (is_gone history)) rest))
    by_left true e later =
        let both = and_both (not (is_gone history r.ticket)) (not (interrupts r.deed) && not (is_refused r.deed)) e in
        let step = step_left (is_gone history) k s s' sh orderly.line.one_side r.seat r.ticket r.deed legal.0 fore (not_true (is_gone history r.ticket) both.0) both.1 in
        (step.0, later (after s' r.seat r.ticket r.deed) step.1)
    by_left false e later = later s' (step_erased (is_gone history) k s s' sh orderly.line.one_side r.seat r.ticket r.deed legal.0 fore e)

-- what is left of a legal history is legal
pub erase_legal : (k : Kind) (history : List (Record Deed)) → IsLegal k history → IsLegal k (erase history)
erase_legal k history legal = legal_left history (legal_speaks k no_base (no_base_well_formed k) history legal) k history empty empty beginning (λ r m. m) starts_alike (orderly_base k no_base (no_base_well_formed k))
    (record { last = omega arith; line = refl; pairs = refl; unended = refl; flags = refl }) legal

-- why a record isn't left
unleft : (g i f : Bool) → (not g && (not i && not f)) ≡ false → (g ≡ true) ⊎ ((g ≡ false) × ((i ≡ true) ⊎ (f ≡ true)))
unleft true i f e = inl refl
unleft false true f e = inr (refl, inl refl)
unleft false false true e = inr (refl, inr refl)
unleft false false false e = absurd (true≢false e)

is_interrupt : (d : Deed) → interrupts d ≡ true → (j : ℕ) × (d ≡ Interrupt j)
is_interrupt (GiveWaits m) e = absurd (false≢true e)
is_interrupt (GiveMeets m u) e = absurd (false≢true e)
is_interrupt (GiveFails m) e = absurd (false≢true e)
is_interrupt (GiveKept m) e = absurd (false≢true e)
is_interrupt TakeWaits e = absurd (false≢true e)
is_interrupt (TakeMeets m u) e = absurd (false≢true e)
is_interrupt TakeFails e = absurd (false≢true e)
is_interrupt (EntryInterrupted side) e = absurd (false≢true e)
is_interrupt Done e = absurd (false≢true e)
is_interrupt (Got m u) e = absurd (false≢true e)
is_interrupt (Withdrawn cause) e = absurd (false≢true e)
is_interrupt (Interrupt j) e = (j, refl)

refused_names : (d : Deed) → is_refused d ≡ true → named_by d ≡ None
refused_names (GiveWaits m) e = refl
refused_names (GiveMeets m u) e = absurd (false≢true e)
refused_names (GiveFails m) e = refl
refused_names (GiveKept m) e = refl
refused_names TakeWaits e = refl
refused_names (TakeMeets m u) e = absurd (false≢true e)
refused_names TakeFails e = refl
refused_names (EntryInterrupted side) e = refl
refused_names Done e = refl
refused_names (Got m u) e = refl
refused_names (Withdrawn cause) e = refl
refused_names (Interrupt j) e = refl

joins_unrefused : (j : Joining) → is_refused (deed_of j) ≡ true → ⊥
joins_unrefused (Gives m) e = false≢true e
joins_unrefused (Keeps m) e = false≢true e
joins_unrefused Takes e = false≢true e

module _ (history : List (Record Deed)) (on : Speaks history) where
  -- what is left says of a ticket that is left what all records say
  module _ (x : ℕ) (stays_x : is_gone history x ≡ false) (unrefused : (r : Record Deed) → Contains history r → is_refused r.deed ≡ true → r.ticket ≢ x) where
    -- a record that isn't left says nothing of it
    erased_says : (before : List (Record Deed)) (r : Record Deed) → Contains history r → is_left (is_gone history) r ≡ false → said (before ++ r ∷ []) x ≡ said before x
    erased_says before r there l = ⊎_elim of_gone (λ n. ⊎_elim (of_interrupt n.0) of_refused n.1) (unleft (is_gone history r.ticket) (interrupts r.deed) (is_refused r.deed) l)
      where
        fore : Foresees (is_gone history) r.ticket r.deed
        fore = foresees history on r there

        unnamed : (o : Option ℕ) → named_by r.deed ≡ o → is_gone history r.ticket ≡ true → option_map_or (λ u. u == x) (named_by r.deed) false ≡ false
        unnamed None e g = ap (λ o. option_map_or (λ u. u == x) o false) e
        unnamed (Some u) e g = absurd (both_ways (is_gone history r.ticket) g (fore.met u e).0)

        of_gone : is_gone history r.ticket ≡ true → said (before ++ r ∷ []) x ≡ said before x
        of_gone g = said_of_others before r x (λ e. both_ways (is_gone history r.ticket) g (ap (is_gone history) e ∙ stays_x)) (unnamed (named_by r.deed) refl g)

        of_interrupt : is_gone history r.ticket ≡ false → interrupts r.deed ≡ true → said (before ++ r ∷ []) x ≡ said before x
        of_interrupt g i =
            let d = is_interrupt r.deed i in
            ⊎_elim (λ above. absurd (both_ways (is_gone history r.ticket) (fore.cut d.0 d.1 above) g))
            (λ below. flag_says before r d.0 d.1 (omega (arith, below)) x) (cases_lt 0 r.ticket)

        of_refused : is_refused r.deed ≡ true → said (before ++ r ∷ []) x ≡ said before x
        of_refused f = said_of_others before r x (unrefused r there f) (ap (λ o. option_map_or (λ u. u == x) o false) (refused_names r.deed f))

    same_said : (rest before before' : List (Record Deed)) → ((r : Record Deed) → Contains rest r → Contains history r) → said before' x ≡ said before x → said (before' ++ filter (is_left (is_gone history)) rest) x ≡ said (before ++ rest) x
    same_said [] before before' among same = ap (λ h. said h x) (append-nil before') ∙ same ∙ sym (ap (λ h. said h x) (append-nil before))
    same_said (r ∷ rest) before before' among same = by_left (is_left (is_gone history) r) refl
        (λ b' e. same_said rest (before ++ r ∷ []) b' (λ q n. among q (Contains-rest r rest q n)) e ∙ ap (λ h. said h x) (append_assoc before (r ∷ []) rest))
      where
        by_left : (b : Bool) → is_left (is_gone history) r ≡ b →
            ((b' : List (Record Deed)) → said b' x ≡ said (before ++ r ∷ []) x → said (b' ++ filter (is_left (is_gone history)) rest) x ≡ said (before ++ r ∷ rest) x) →
            said (before' ++ cond b (r ∷ filter (is_left (is_gone history)) rest) (filter (is_left (is_gone history)) rest)) x ≡ said (before ++ r ∷ rest) x
        by_left true l later =
            ap (λ h. said h x) (sym (append_assoc before' (r ∷ []) (filter (is_left (is_gone history)) rest)))
            ∙ later (before' ++ r ∷ []) (said_after before' r x ∙ ap (heard r.deed r.ticket (r.ticket == x) (meets_it x r) (nat_lt 0 x)) same ∙ sym (said_after before r x))
        by_left false l later = later before' (same ∙ sym (erased_says before r (among r (Contains-first r rest)) l))

    pub same_fate : fate (erase history) x ≡ fate history x
    same_fate = fate_is (erase history) x ∙ ap fate_of (same_said history [] [] (λ r m. m) refl) ∙ sym (fate_is history x)

  -- a ticket of a record that is left wasn't refused at its entry
  left_unrefused : (r : Record Deed) (p : Parted history r) → Contains history r → is_left (is_gone history) r ≡ true → GoesOn (said p.before) r.ticket r.deed → (q : Record Deed) → Contains history q → is_refused q.deed ≡ true → q.ticket ≢ r.ticket
  left_unrefused r p there l goes q m f same = by_goes goes
    where
      asked_q : (said history r.ticket).asked ≡ Some q.deed
      asked_q = subst (λ t. (said history t).asked ≡ Some q.deed) same (request_said history on q m (refused_asks q.deed f))

      parts : (not (is_gone history r.ticket) ≡ true) × ((not (interrupts r.deed) && not (is_refused r.deed)) ≡ true)
      parts = and_both (not (is_gone history r.ticket)) (not (interrupts r.deed) && not (is_refused r.deed)) l

      deeds : (not (interrupts r.deed) ≡ true) × (not (is_refused r.deed) ≡ true)
      deeds = and_both (not (interrupts r.deed)) (not (is_refused r.deed)) parts.1

      fore : Foresees (is_gone history) r.ticket r.deed
      fore = foresees history on r there

      of_request : is_request r.deed ≡ true → ⊥
      of_request e =
          let both : Some r.deed ≡ Some q.deed = sym (request_said history on r there e) ∙ asked_q in
          let one : r.deed ≡ q.deed = cc in
          both_ways (is_refused r.deed) (ap is_refused one ∙ f) (not_true (is_refused r.deed) deeds.1)

      of_cause : (c : Cause) → r.deed ≡ Withdrawn c → ⊥
      of_cause c e = both_ways (is_gone history r.ticket) (fore.back c e) (not_true (is_gone history r.ticket) parts.0)

      of_interrupt : (j : ℕ) → r.deed ≡ Interrupt j → ⊥
      of_interrupt j e = both_ways (interrupts r.deed) (ap interrupts e) (not_true (interrupts r.deed) deeds.0)

      of_joined : (j : Joining) (u : ℕ) → said p.before r.ticket ≡ only_met j u → ⊥
      of_joined j u was =
          let after = p.before ++ r ∷ [] in
          let stays_asked : (said history r.ticket).asked ≡ Some (deed_of j) =
          subst (λ h. (said h r.ticket).asked ≡ Some (deed_of j)) p.is (carry (HasAsked (deed_of j)) (asked_turns (deed_of j)) p.after after p.on r.ticket
          (asked_turns (deed_of j) (said p.before r.ticket) (said after r.ticket) (turns p.before r p.goes r.ticket) (ap (λ (x : Said). x.asked) was))) in
          let both : Some (deed_of j) ≡ Some q.deed = sym stays_asked ∙ asked_q in
          let one : deed_of j ≡ q.deed = cc in
          joins_unrefused j (ap is_refused one ∙ f)

      by_goes : GoesOn (said p.before) r.ticket r.deed → ⊥
      by_goes (asks request none new) = of_request request
      by_goes (meets u j how new was) = of_request (meets_asks r.deed u j how)
      by_goes (learns u j l was) = of_joined j u was
      by_goes (leaves j c e l waits was) = of_cause c e
      by_goes (returns j e waits was) = of_cause Interrupted e
      by_goes (cuts j i e above waits was) = of_interrupt i e
      by_goes (flags i e none) = of_interrupt i e

-- what is left of a legal history
pub is_erased : (k : Kind) (history : List (Record Deed)) → IsLegal k history → IsErased k history
is_erased k history legal = record {
  legal = erase_legal k history legal;
  fates = λ t stays_t un. same_fate history on t stays_t (λ r m f same. un (fate_is history t ∙ refused_fate (said history t) r.deed (subst (λ x. (said history x).asked ≡ Some r.deed) same (request_said history on r m (refused_asks r.deed f))) f));
  kept = λ r m. (
      let there = Contains-unfiltered (is_left (is_gone history)) history r m in
      let passes = filtered_passes (is_left (is_gone history)) history r m in
      let both = and_both (not (is_gone history r.ticket)) (not (interrupts r.deed) && not (is_refused r.deed)) passes in
      let p = parted history r on there in
      same_fate history on r.ticket (not_true (is_gone history r.ticket) both.0) (left_unrefused history on r p there passes p.goes)
      );
}
  where
    on : Speaks history
    on = legal_speaks k no_base (no_base_well_formed k) history legal
