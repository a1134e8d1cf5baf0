-- What else holds of each state that records have reached: the line is in order, no flagged seat waits, and of a pair one
-- ticket at most is open.
use Rattle.std.proofs.Common.{◌≡◌, ◌⊎◌, ℕ, zero, suc, ◌+◌, ◌<◌, ◌≤◌, ◌==◌, refl, sym, ap, ◌∙◌, subst, inl, inr, ⊎_elim, Bool, true, false, not, Option, Some, None, is_some, List, [], ◌∷◌, ◌++◌, filter, Contains, All, AllPairs, arith}
use Rattle.std.specs.Prelude.{⊤, MatchOption}
use Rattle.std.proofs.lemmas.Bool.{cond_both, true≢false}
use Rattle.std.proofs.lemmas.List.Kept.{AllPairs-filter}
use Rattle.std.proofs.lemmas.List.Quantifiers.{all_pairs_push}
use Rattle.std.proofs.lemmas.List.Elements.{All-filter, All-push, All-weaker, All-contains_itself, Contains-push_cases}
use Rattle.meet_tickets.specs.declared.lines.Entry.{Entry}
use Rattle.meet_tickets.specs.declared.places.Side.{Side}
use Rattle.meet_tickets.specs.declared.places.Side.TheVariants.{Giver, Taker}
use Rattle.meet_tickets.specs.declared.places.Kind.{Kind}
use Rattle.meet_tickets.specs.declared.records.Cause.TheVariants.{Cancelled, Expired, Interrupted}
use Rattle.meet_tickets.specs.declared.records.Deed.{Deed}
use Rattle.meet_tickets.specs.declared.records.Deed.TheVariants.{GiveWaits, GiveMeets, GiveFails, GiveKept, TakeWaits, TakeMeets, TakeFails, EntryInterrupted, Done, Got, Withdrawn, Interrupt}
use Rattle.meet_tickets.specs.Meeting.{end_of, is_on, Alone, MayKeep, kept_count}
use Rattle.meet_tickets.specs.ByLists.{State, Pair, Open, IsOpen, IsStep, without, after}
use Rattle.meet_tickets.specs.Bases.{MayStand}
use Rattle.meet_tickets.proofs.Lists.Members.{Contains-cases, Contains-unfiltered}
use Rattle.meet_tickets.proofs.Line.Sides.{HasOneSide-added}
use Rattle.meet_tickets.proofs.Line.Keeping.{kept-cons, kept-queued, kept-kept}
use Rattle.meet_tickets.proofs.Tellings.Whereabouts.{Never, Gave, Took, Reached, Has, lined_below, Contains-opened}

-- a line is in order
pub record IsLine (k : Kind) (line : List (Entry ℕ)) : Type 0 where
  pub one_side : AllPairs (λ e f. is_some e.item ≡ is_some f.item) line
  pub rises : AllPairs (λ e f. e.ticket < f.ticket) line
  pub kept : All (MayStand k) line
  pub few : MatchOption k.bound ⊤ (λ most. kept_count line ≤ most)

-- what else holds of each state that records have reached
pub record Orderly (k : Kind) (s : State) : Type 0 where
  pub line : IsLine k s.line
  pub unflagged : (e : Entry ℕ) → Contains s.line e → e.waits ≡ true → Contains s.flags e.seat → ⊥
  pub lone : (p : Pair) → Contains s.pairs p → (i j : ℕ) → IsOpen s i p.giver → IsOpen s j p.taker → ⊥

-- a bound holds of less
bound_less : (o : Option ℕ) (m n : ℕ) → m ≤ n → MatchOption o ⊤ (λ most. n ≤ most) → MatchOption o ⊤ (λ most. m ≤ most)
bound_less None m n less below = below
bound_less (Some most) m n less below = omega arith

-- of less no more is kept
kept-filter : (p : Entry ℕ → Bool) (line : List (Entry ℕ)) → kept_count (filter p line) ≤ kept_count line
kept-filter p [] = omega arith
kept-filter p (e ∷ line) =
    let rest = kept-filter p line in
    let cons = kept-cons e line in
    cond_both (p e) (e ∷ filter p line) (filter p line) (λ l. kept_count l ≤ kept_count (e ∷ line))
    (λ y. (let more = kept-cons e (filter p line) in omega (arith, rest, cons, more))) (λ n. omega (arith, rest, cons))

-- less of a line in order is in order
line-filter : (k : Kind) (p : Entry ℕ → Bool) (line : List (Entry ℕ)) → IsLine k line → IsLine k (filter p line)
line-filter k p line l = record {
  one_side = AllPairs-filter (λ e f. is_some e.item ≡ is_some f.item) p line l.one_side;
  rises = AllPairs-filter (λ e f. e.ticket < f.ticket) p line l.rises;
  kept = All-filter p (MayStand k) line l.kept;
  few = bound_less k.bound (kept_count (filter p line)) (kept_count line) (kept-filter p line) l.few;
}

-- an entry comes to the end of a line in order
line-push : (k : Kind) (side : Side) (line : List (Entry ℕ)) (e : Entry ℕ) → IsLine k line → Alone k line side → is_on side e ≡ true →
    ((f : Entry ℕ) → Contains line f → f.ticket < e.ticket) → MayStand k e → MatchOption k.bound ⊤ (λ most. kept_count (line ++ e ∷ []) ≤ most) → IsLine k (line ++ e ∷ [])
line-push k side line e l alone on above may few = record {
  one_side = HasOneSide-added (end_of k.order) line side e l.one_side alone on;
  rises = all_pairs_push (λ f g. f.ticket < g.ticket) line e l.rises (All-weaker (Contains line) (λ f. f.ticket < e.ticket) above line (All-contains_itself line));
  kept = All-push (MayStand k) line e l.kept may;
  few = few;
}

-- one more may be kept
bound_more : (o : Option ℕ) (m n : ℕ) → n ≡ m + 1 → MatchOption o ⊤ (λ most. m < most) → MatchOption o ⊤ (λ most. n ≤ most)
bound_more None m n e below = below
bound_more (Some most) m n e below = omega arith

module _ (k : Kind) (s : State) (r : Reached s) (o : Orderly k s) where
  -- a new ticket is above those in the line
  lined_under : (t : ℕ) → s.last < t → (e : Entry ℕ) → Contains s.line e → e.ticket < t
  lined_under t above e m = let below = lined_below r.placed e.ticket (r.placed.lined e m) in omega arith

  -- the tickets of a pair aren't new
  giver_old : (p : Pair) → Contains s.pairs p → s.last < p.giver → ⊥
  giver_old p m above = let never = r.placed.fresh p.giver above in let gave = r.placed.gave p m in let e : Never ≡ Gave p.taker p.mark = sym never ∙ gave in cc

  taker_old : (p : Pair) → Contains s.pairs p → s.last < p.taker → ⊥
  taker_old p m above = let never = r.placed.fresh p.taker above in let took = r.placed.took p m in let e : Never ≡ Took p.giver p.mark = sym never ∙ took in cc

  -- a new ticket isn't open
  new_closed : (i t : ℕ) → s.last < t → IsOpen s i t → ⊥
  new_closed i t above m = let below = r.opened.named i t m in omega arith

  -- later, and with less in the line, fewer open tickets and fewer flags
  orderly_less : (s' : State) → IsLine k s'.line → ((e : Entry ℕ) → Contains s'.line e → Contains s.line e) → ((i : ℕ) → Contains s'.flags i → Contains s.flags i) →
      ((p : Pair) → Contains s'.pairs p → Contains s.pairs p) → ((i t : ℕ) → IsOpen s' i t → IsOpen s i t) → Orderly k s'
  orderly_less s' line lines flags pairs opens = record {
    line = line;
    unflagged = λ e m w f. o.unflagged e (lines e m) w (flags e.seat f);
    lone = λ p m i j g t. o.lone p (pairs p m) i j (opens i p.giver g) (opens j p.taker t);
  }

  -- a request waits
  orderly_wait : (side : Side) (i t : ℕ) (item : Option ℕ) → s.last < t → Alone k s.line side → (Contains s.flags i → ⊥) → is_on side (record { ticket = t; seat = i; item = item; waits = true }) ≡ true →
      Orderly k (record s { last = t; line = s.line ++ record { ticket = t; seat = i; item = item; waits = true } ∷ []; unended = s.unended ++ record { ticket = t; seat = i } ∷ [] })
  orderly_wait side i t item above alone unflagged on = record {
    line = line-push k side s.line e o.line alone on (lined_under t above) (λ still. absurd (true≢false still))
        (bound_less k.bound (kept_count (s.line ++ e ∷ [])) (kept_count s.line) (let same = kept-queued s.line e refl in omega (arith, same)) o.line.few);
    unflagged = λ f m w. ⊎_elim (λ n. o.unflagged f n w) (λ same flag. unflagged (subst (λ g. Contains s.flags g.seat) (sym same) flag)) (Contains-push_cases s.line e f m);
    lone = λ p m a b g h.
        ⊎_elim (λ g'. ⊎_elim (λ h'. o.lone p m a b g' h') (λ h'. taker_old p m (subst (λ x. s.last < x) h'.0 above)) (Contains-opened s.unended t i b p.taker h))
        (λ g'. giver_old p m (subst (λ x. s.last < x) g'.0 above)) (Contains-opened s.unended t i a p.giver g);
  }
    where
      e : Entry ℕ
      e = record { ticket = t; seat = i; item = item; waits = true }

  -- an item is kept
  orderly_kept : (i t m : ℕ) → s.last < t → Alone k s.line Giver → MayKeep k s.line →
      Orderly k (record s { last = t; line = s.line ++ record { ticket = t; seat = i; item = Some m; waits = false } ∷ [] })
  orderly_kept i t m above alone may = record {
    line = line-push k Giver s.line e o.line alone refl (lined_under t above) (λ still. (refl, may.0))
        (bound_more k.bound (kept_count s.line) (kept_count (s.line ++ e ∷ [])) (kept-kept s.line e refl) may.1);
    unflagged = λ f n w. ⊎_elim (λ l. o.unflagged f l w) (λ same. absurd (true≢false (sym w ∙ ap (λ g. g.waits) (sym same)))) (Contains-push_cases s.line e f n);
    lone = o.lone;
  }
    where
      e : Entry ℕ
      e = record { ticket = t; seat = i; item = Some m; waits = false }

  -- a request meets
  orderly_meet : (t u : ℕ) (pair : Pair) → s.last < t → (pair.giver ≡ t) ⊎ (pair.taker ≡ t) →
      Orderly k (record s { last = t; line = without u s.line; pairs = s.pairs ++ pair ∷ [] })
  orderly_meet t u pair above new = record {
    line = line-filter k (λ e. not (e.ticket == u)) s.line o.line;
    unflagged = λ e m w f. o.unflagged e (Contains-unfiltered (λ x. not (x.ticket == u)) s.line e m) w f;
    lone = λ p m i j g h. ⊎_elim (λ n. o.lone p n i j g h) (λ same. fresh p same i j g h) (Contains-push_cases s.pairs pair p m);
  }
    where
      fresh : (p : Pair) → pair ≡ p → (i j : ℕ) → IsOpen s i p.giver → IsOpen s j p.taker → ⊥
      fresh p same i j g h = ⊎_elim (λ e. new_closed i p.giver (subst (λ x. s.last < x) (sym e ∙ ap (λ q. q.giver) same) above) g)
          (λ e. new_closed j p.taker (subst (λ x. s.last < x) (sym e ∙ ap (λ q. q.taker) same) above) h) new

  -- less is open
  ended : (t i x : ℕ) → Has (filter (λ (y : Open). not (y.ticket == t)) s.unended) i x → IsOpen s i x
  ended t i x m = Contains-unfiltered (λ (y : Open). not (y.ticket == t)) s.unended (record { ticket = x; seat = i }) m

  unlined : (t : ℕ) (e : Entry ℕ) → Contains (without t s.line) e → Contains s.line e
  unlined t e m = Contains-unfiltered (λ x. not (x.ticket == t)) s.line e m

  line_less : (t : ℕ) → IsLine k (without t s.line)
  line_less t = line-filter k (λ e. not (e.ticket == t)) s.line o.line

  -- so it is after each step
  pub orderly_after : (i t : ℕ) (d : Deed) → IsStep k s i t d → Orderly k (after s i t d)
  orderly_after i t (GiveWaits m) z = orderly_wait Giver i t (Some m) z.0.above z.1 z.2 refl
  orderly_after i t (GiveMeets m u) z = orderly_meet t u (record { giver = t; taker = u; mark = m }) z.0.above (inl refl)
  orderly_after i t (GiveFails m) z = orderly_less (after s i t (GiveFails m)) o.line (λ e n. n) (λ j n. n) (λ p n. n) (λ j x n. n)
  orderly_after i t (GiveKept m) z = orderly_kept i t m z.0.above z.1 z.2
  orderly_after i t TakeWaits z = orderly_wait Taker i t None z.0.above z.1 z.2 refl
  orderly_after i t (TakeMeets m u) z = orderly_meet t u (record { giver = u; taker = t; mark = m }) z.0.above (inr refl)
  orderly_after i t TakeFails z = orderly_less (after s i t TakeFails) o.line (λ e n. n) (λ j n. n) (λ p n. n) (λ j x n. n)
  orderly_after i t (EntryInterrupted side) z = orderly_less (after s i t (EntryInterrupted side)) o.line (λ e n. n) (λ j n. Contains-unfiltered (λ x. not (x == i)) s.flags j n) (λ p n. n) (λ j x n. n)
  orderly_after i t Done z = orderly_less (after s i t Done) o.line (λ e n. n) (λ j n. n) (λ p n. n) (ended t)
  orderly_after i t (Got m u) z = orderly_less (after s i t (Got m u)) o.line (λ e n. n) (λ j n. n) (λ p n. n) (ended t)
  orderly_after i t (Withdrawn Cancelled) z = orderly_less (after s i t (Withdrawn Cancelled)) (line_less t) (unlined t) (λ j n. n) (λ p n. n) (ended t)
  orderly_after i t (Withdrawn Expired) z = orderly_less (after s i t (Withdrawn Expired)) (line_less t) (unlined t) (λ j n. n) (λ p n. n) (ended t)
  orderly_after i t (Withdrawn Interrupted) z = orderly_less (after s i t (Withdrawn Interrupted)) o.line (λ e n. n) (λ j n. n) (λ p n. n) (ended t)
  orderly_after i zero (Interrupt j) z = record {
    line = o.line;
    unflagged = λ e m w f. ⊎_elim (λ same. z e.ticket (subst (λ x. IsOpen s x e.ticket) (sym same) (r.opened.waits e m w)) (e, m, refl)) (λ n. o.unflagged e m w n) (Contains-cases j s.flags e.seat f);
    lone = o.lone;
  }
  orderly_after i (suc t) (Interrupt j) z = orderly_less (after s i (suc t) (Interrupt j)) (line_less (suc t)) (unlined (suc t)) (λ x n. n) (λ p n. n) (λ x y n. n)
