-- What a deed does to the lists by which histories are specified: what it puts there, and what it takes out.
use Rattle.std.proofs.Common.{◌≡◌, ℕ, suc, zero, ◌<◌, ◌≤◌, ◌⊎◌, inl, inr, not, true, Option, Some, None, List, filter, Contains, refl, sym, ap, ◌∙◌, ⊎_elim, arith}
use Rattle.std.specs.Prelude.{◌==◌}
use Rattle.std.proofs.lemmas.Bool.{eq-eqb}
use Rattle.std.proofs.lemmas.List.Elements.{Contains-push_cases, Contains-append_left}
use Rattle.meet_tickets.specs.declared.lines.Entry.{Entry}
use Rattle.meet_tickets.specs.declared.places.Kind.{Kind}
use Rattle.meet_tickets.specs.declared.places.Side.TheVariants.{Giver, Taker}
use Rattle.meet_tickets.specs.declared.records.Cause.TheVariants.{Cancelled, Expired, Interrupted}
use Rattle.meet_tickets.specs.declared.records.Deed.{Deed}
use Rattle.meet_tickets.specs.declared.records.Deed.TheVariants.{GiveWaits, GiveMeets, GiveFails, GiveKept, TakeWaits, TakeMeets, TakeFails, EntryInterrupted, Done, Got, Withdrawn, Interrupt}
use Rattle.meet_tickets.specs.Meeting.{end_of}
use Rattle.meet_tickets.specs.ByLists.{State, Pair, empty, IsStep, after}
use Rattle.meet_tickets.proofs.Lists.Members.{Contains-partner, Contains-unfiltered, filtered_passes, Contains-nil}

-- the item of an entry that a deed puts into the line
abbrev pub NewItem : Deed → Option ℕ → Type 0
NewItem (GiveWaits m) item = item ≡ Some m
NewItem (GiveKept m) item = item ≡ Some m
NewItem TakeWaits item = item ≡ None
NewItem d item = ⊥

pub record IsNewEntry (s : State) (t : ℕ) (d : Deed) (e : Entry ℕ) : Type 0 where
  pub ticket : e.ticket ≡ t
  pub above : s.last < t
  pub item : NewItem d e.item

-- the pair that a deed makes
abbrev pub NewPair : Deed → ℕ → Pair → Type 0
NewPair (GiveMeets m v) t p = p ≡ record { giver = t; taker = v; mark = m }
NewPair (TakeMeets m v) t p = p ≡ record { giver = v; taker = t; mark = m }
NewPair d t p = ⊥

-- the ticket that it cuts
abbrev pub NewCut : Deed → ℕ → ℕ → Type 0
NewCut (Interrupt j) (suc t) x = x ≡ suc t
NewCut d t x = ⊥

-- the ticket that it takes out of the line
abbrev pub Leaves : Deed → ℕ → ℕ → Type 0
Leaves (GiveMeets m v) t x = x ≡ v
Leaves (TakeMeets m v) t x = x ≡ v
Leaves (Withdrawn Cancelled) t x = x ≡ t
Leaves (Withdrawn Expired) t x = x ≡ t
Leaves (Interrupt j) (suc t) x = x ≡ suc t
Leaves d t x = ⊥

-- what stands in the lists behind a deed stood there before it, or is new
pub record Effect (s r : State) (t : ℕ) (d : Deed) : Type 0 where
  pub last : s.last ≤ r.last
  pub line : (e : Entry ℕ) → Contains r.line e → (Contains s.line e × (Leaves d t e.ticket → ⊥)) ⊎ IsNewEntry s t d e
  pub pairs : (p : Pair) → Contains r.pairs p → Contains s.pairs p ⊎ NewPair d t p
  pub cut : (x : ℕ) → Contains r.cut x → Contains s.cut x ⊎ NewCut d t x

other_ticket : (x t : ℕ) → not (x == t) ≡ true → x ≡ t → ⊥
other_ticket x t passes same = let is : (x == t) ≡ true = eq-eqb x t same in absurd (cc)

-- an entry of a line without a ticket
pub left_over : (line : List (Entry ℕ)) (v : ℕ) (e : Entry ℕ) → Contains (filter (λ f. not (f.ticket == v)) line) e → Contains line e × (e.ticket ≡ v → ⊥)
left_over line v e there = (
  Contains-unfiltered (λ f. not (f.ticket == v)) line e there,
  other_ticket e.ticket v (filtered_passes (λ f. not (f.ticket == v)) line e there),
)

pub effect : (k : Kind) (s : State) (i t : ℕ) (d : Deed) → IsStep k s i t d → Effect s (after s i t d) t d
effect k s i t (GiveWaits m) step = record {
  last = let above = step.0.above in omega arith;
  line = λ e there. ⊎_elim (λ c. inl (c, λ q. q)) (λ q. inr (record { ticket = ap (λ f. f.ticket) (sym q); above = step.0.above; item = ap (λ f. f.item) (sym q) })) (Contains-push_cases s.line _ e there);
  pairs = λ p there. inl there;
  cut = λ x there. inl there;
}
effect k s i t (GiveMeets m v) step = record {
  last = let above = step.0.above in omega arith;
  line = λ e there. inl (left_over s.line v e there);
  pairs = λ p there. ⊎_elim (λ c. inl c) (λ q. inr (sym q)) (Contains-push_cases s.pairs _ p there);
  cut = λ x there. inl there;
}
effect k s i t (GiveFails m) step = record { last = let above = step.0.above in omega arith; line = λ e there. inl (there, λ q. q); pairs = λ p there. inl there; cut = λ x there. inl there }
effect k s i t (GiveKept m) step = record {
  last = let above = step.0.above in omega arith;
  line = λ e there. ⊎_elim (λ c. inl (c, λ q. q)) (λ q. inr (record { ticket = ap (λ f. f.ticket) (sym q); above = step.0.above; item = ap (λ f. f.item) (sym q) })) (Contains-push_cases s.line _ e there);
  pairs = λ p there. inl there;
  cut = λ x there. inl there;
}
effect k s i t TakeWaits step = record {
  last = let above = step.0.above in omega arith;
  line = λ e there. ⊎_elim (λ c. inl (c, λ q. q)) (λ q. inr (record { ticket = ap (λ f. f.ticket) (sym q); above = step.0.above; item = ap (λ f. f.item) (sym q) })) (Contains-push_cases s.line _ e there);
  pairs = λ p there. inl there;
  cut = λ x there. inl there;
}
effect k s i t (TakeMeets m v) step = record {
  last = let above = step.0.above in omega arith;
  line = λ e there. inl (left_over s.line v e there);
  pairs = λ p there. ⊎_elim (λ c. inl c) (λ q. inr (sym q)) (Contains-push_cases s.pairs _ p there);
  cut = λ x there. inl there;
}
effect k s i t TakeFails step = record { last = let above = step.0.above in omega arith; line = λ e there. inl (there, λ q. q); pairs = λ p there. inl there; cut = λ x there. inl there }
effect k s i t (EntryInterrupted side) step = record { last = let above = step.0.above in omega arith; line = λ e there. inl (there, λ q. q); pairs = λ p there. inl there; cut = λ x there. inl there }
effect k s i t Done step = record { last = omega arith; line = λ e there. inl (there, λ q. q); pairs = λ p there. inl there; cut = λ x there. inl there }
effect k s i t (Got m v) step = record { last = omega arith; line = λ e there. inl (there, λ q. q); pairs = λ p there. inl there; cut = λ x there. inl there }
effect k s i t (Withdrawn Cancelled) step = record { last = omega arith; line = λ e there. inl (left_over s.line t e there); pairs = λ p there. inl there; cut = λ x there. inl there }
effect k s i t (Withdrawn Expired) step = record { last = omega arith; line = λ e there. inl (left_over s.line t e there); pairs = λ p there. inl there; cut = λ x there. inl there }
effect k s i t (Withdrawn Interrupted) step = record { last = omega arith; line = λ e there. inl (there, λ q. q); pairs = λ p there. inl there; cut = λ x there. inl (Contains-unfiltered (λ n. not (n == t)) s.cut x there) }
effect k s i zero (Interrupt j) step = record { last = omega arith; line = λ e there. inl (there, λ q. q); pairs = λ p there. inl there; cut = λ x there. inl there }
effect k s i (suc t) (Interrupt j) step = record {
  last = omega arith;
  line = λ e there. inl (left_over s.line (suc t) e there);
  pairs = λ p there. inl there;
  cut = λ x there. ⊎_elim (λ c. inl c) (λ q. inr (sym q)) (Contains-push_cases s.cut (suc t) x there);
}

-- tickets of the lists are below the last; who stands in the line was neither met nor cut
pub record IsWell (s : State) : Type 0 where
  pub line : (e : Entry ℕ) → Contains s.line e → e.ticket ≤ s.last
  pub takers : (p : Pair) → Contains s.pairs p → p.taker ≤ s.last
  pub givers : (p : Pair) → Contains s.pairs p → p.giver ≤ s.last
  pub cut : (x : ℕ) → Contains s.cut x → x ≤ s.last
  pub unmet : (e : Entry ℕ) (p : Pair) → Contains s.line e → Contains s.pairs p → p.taker ≡ e.ticket → ⊥
  pub uncut : (e : Entry ℕ) (x : ℕ) → Contains s.line e → Contains s.cut x → x ≡ e.ticket → ⊥

-- the ticket of what a deed puts there is at most the last behind it
top_entry : (s : State) (i t : ℕ) (d : Deed) (item : Option ℕ) → NewItem d item → (after s i t d).last ≡ t
top_entry s i t (GiveWaits m) item new = refl
top_entry s i t (GiveKept m) item new = refl
top_entry s i t TakeWaits item new = refl
top_entry s i t d item new = absurd new

-- a new pair: its tickets, and that who stood in the line and stands there still isn't its taker
pub record IsFine (s r : State) (t : ℕ) (d : Deed) (p : Pair) : Type 0 where
  pub taker : p.taker ≤ r.last
  pub giver : p.giver ≤ r.last
  pub unmet : (e : Entry ℕ) → Contains s.line e → (Leaves d t e.ticket → ⊥) → p.taker ≡ e.ticket → ⊥

pub fine_pair : (k : Kind) (s : State) (i t : ℕ) (d : Deed) (p : Pair) → IsWell s → IsStep k s i t d → NewPair d t p → IsFine s (after s i t d) t d p
fine_pair k s i t (GiveMeets m v) p well step new =
    let e = step.1.0 in
    let there = Contains-partner (end_of k.order) s.line Giver e step.1.1 in
    let low = well.line e there in
    let at = step.1.2 in
    let above = step.0.above in
    let taker : p.taker ≡ v = ap (λ (q : Pair). q.taker) new in
    let giver : p.giver ≡ t = ap (λ (q : Pair). q.giver) new in
    record {
      taker = omega arith;
      giver = omega arith;
      unmet = λ f in_line stays same. stays (sym same ∙ taker);
    }
fine_pair k s i t (TakeMeets m v) p well step new =
    let e = step.1.0 in
    let there = Contains-partner (end_of k.order) s.line Taker e step.1.1 in
    let low = well.line e there in
    let at = step.1.2 in
    let above = step.0.above in
    let taker : p.taker ≡ t = ap (λ (q : Pair). q.taker) new in
    let giver : p.giver ≡ v = ap (λ (q : Pair). q.giver) new in
    record {
      taker = omega arith;
      giver = omega arith;
      unmet = λ f in_line stays same. let below = well.line f in_line in absurd (omega arith);
    }
fine_pair k s i t d p well step new = absurd new

-- a new cut
fine_cut : (k : Kind) (s : State) (i t : ℕ) (d : Deed) (x : ℕ) → IsWell s → IsStep k s i t d → NewCut d t x → (x ≤ s.last) × ((e : Entry ℕ) → (Leaves d t e.ticket → ⊥) → x ≡ e.ticket → ⊥)
fine_cut k s i (suc t) (Interrupt j) x well step new =
    let e = step.1.0 in
    let low = well.line e step.1.1 in
    let at = step.1.2 in
    (omega arith, λ f stays same. stays (sym same ∙ new))
fine_cut k s i zero (Interrupt j) x well step new = absurd new
fine_cut k s i t d x well step new = absurd new

-- an entry is new only where neither a pair nor a cut is
pub no_pair : (d : Deed) (t : ℕ) (item : Option ℕ) (p : Pair) → NewItem d item → NewPair d t p → ⊥
no_pair (GiveWaits m) t item p new pair = pair
no_pair (GiveKept m) t item p new pair = pair
no_pair TakeWaits t item p new pair = pair
no_pair d t item p new pair = new

no_cut : (d : Deed) (t : ℕ) (item : Option ℕ) (x : ℕ) → NewItem d item → NewCut d t x → ⊥
no_cut (GiveWaits m) t item x new cut = cut
no_cut (GiveKept m) t item x new cut = cut
no_cut TakeWaits t item x new cut = cut
no_cut d t item x new cut = new

pub well_stays : (k : Kind) (s : State) (i t : ℕ) (d : Deed) → IsWell s → IsStep k s i t d → IsWell (after s i t d)
well_stays k s i t d well step = record {
  line = λ e there. ⊎_elim
      (λ q. let low = well.line e q.0 in let last = f.last in omega arith)
      (λ q. let top = top_entry s i t d e.item q.item in let at = q.ticket in omega arith)
      (f.line e there);
  takers = λ p there. ⊎_elim (λ q. let low = well.takers p q in let last = f.last in omega arith) (λ q. (fine_pair k s i t d p well step q).taker) (f.pairs p there);
  givers = λ p there. ⊎_elim (λ q. let low = well.givers p q in let last = f.last in omega arith) (λ q. (fine_pair k s i t d p well step q).giver) (f.pairs p there);
  cut = λ x there. ⊎_elim (λ q. let low = well.cut x q in let last = f.last in omega arith) (λ q. let low = (fine_cut k s i t d x well step q).0 in let last = f.last in omega arith) (f.cut x there);
  unmet = λ e p in_line in_pairs same. ⊎_elim
      (λ q. ⊎_elim (λ o. well.unmet e p q.0 o same) (λ n. (fine_pair k s i t d p well step n).unmet e q.0 q.1 same) (f.pairs p in_pairs))
      (λ q. ⊎_elim (λ o. let low = well.takers p o in let above = q.above in let at = q.ticket in absurd (omega arith)) (λ n. no_pair d t e.item p q.item n) (f.pairs p in_pairs))
      (f.line e in_line);
  uncut = λ e x in_line in_cut same. ⊎_elim
      (λ q. ⊎_elim (λ o. well.uncut e x q.0 o same) (λ n. (fine_cut k s i t d x well step n).1 e q.1 same) (f.cut x in_cut))
      (λ q. ⊎_elim (λ o. let low = well.cut x o in let above = q.above in let at = q.ticket in absurd (omega arith)) (λ n. no_cut d t e.item x q.item n) (f.cut x in_cut))
      (f.line e in_line);
}
  where
    f : Effect s (after s i t d) t d
    f = effect k s i t d step

-- before the first record
pub well_empty : IsWell empty
well_empty = record {
  line = λ e there. absurd (Contains-nil e there);
  takers = λ p there. absurd (Contains-nil p there);
  givers = λ p there. absurd (Contains-nil p there);
  cut = λ x there. absurd (Contains-nil x there);
  unmet = λ e p there in_pairs same. Contains-nil e there;
  uncut = λ e x there in_cut same. Contains-nil e there;
}

-- a pair stays
pub pairs_stay : (s : State) (i t : ℕ) (d : Deed) (p : Pair) → Contains s.pairs p → Contains (after s i t d).pairs p
pairs_stay s i t (GiveMeets m v) p there = Contains-append_left s.pairs _ p there
pairs_stay s i t (TakeMeets m v) p there = Contains-append_left s.pairs _ p there
pairs_stay s i t (GiveWaits m) p there = there
pairs_stay s i t (GiveFails m) p there = there
pairs_stay s i t (GiveKept m) p there = there
pairs_stay s i t TakeWaits p there = there
pairs_stay s i t TakeFails p there = there
pairs_stay s i t (EntryInterrupted side) p there = there
pairs_stay s i t Done p there = there
pairs_stay s i t (Got m v) p there = there
pairs_stay s i t (Withdrawn Cancelled) p there = there
pairs_stay s i t (Withdrawn Expired) p there = there
pairs_stay s i t (Withdrawn Interrupted) p there = there
pairs_stay s i zero (Interrupt j) p there = there
pairs_stay s i (suc t) (Interrupt j) p there = there

-- a deed makes one pair at most
pub one_taker : (d : Deed) (t : ℕ) (p q : Pair) → NewPair d t p → NewPair d t q → p.taker ≡ q.taker
one_taker (GiveMeets m v) t p q new also = ap (λ (y : Pair). y.taker) (new ∙ sym also)
one_taker (TakeMeets m v) t p q new also = ap (λ (y : Pair). y.taker) (new ∙ sym also)
one_taker d t p q new also = absurd new
