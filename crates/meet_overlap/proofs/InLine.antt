-- The wait queue of a place that is met at its front: its tickets rise, nobody of the other side stands in it, and an item
-- that is kept stays until a call takes it.
use Rattle.std.proofs.Common.{◌≡◌, ℕ, suc, zero, ◌<◌, ◌≤◌, Bool, true, false, not, Option, Some, None, List, [], ◌∷◌, ◌++◌, filter, length, Contains, sym, ap, ◌∙◌, subst, ⊎_elim, arith, refl}
use Rattle.std.specs.Prelude.{◌==◌, ◌-◌, slice_get, is_some, is_none, if◌then◌else◌}
use Rattle.std.proofs.lemmas.Bool.{ne_eqb}
use Rattle.std.proofs.lemmas.List.Elements.{Contains-push, Contains-push_cases, Contains-append_left}
use Rattle.meet_tickets.specs.declared.lines.Entry.{Entry}
use Rattle.meet_tickets.specs.declared.places.Kind.{Kind}
use Rattle.meet_tickets.specs.declared.places.Side.{Side}
use Rattle.meet_tickets.specs.declared.places.Side.TheVariants.{Giver, Taker}
use Rattle.meet_tickets.specs.declared.places.End.{End}
use Rattle.meet_tickets.specs.declared.places.End.TheVariants.{Front, Back}
use Rattle.meet_tickets.specs.declared.records.Cause.TheVariants.{Cancelled, Expired, Interrupted}
use Rattle.meet_tickets.specs.declared.records.Deed.{Deed}
use Rattle.meet_tickets.specs.declared.records.Deed.TheVariants.{GiveWaits, GiveMeets, GiveFails, GiveKept, TakeWaits, TakeMeets, TakeFails, EntryInterrupted, Done, Got, Withdrawn, Interrupt}
use Rattle.meet_tickets.specs.Meeting.{end_of, is_on, met, partner}
use Rattle.meet_tickets.specs.ByLists.{State, Open as Ticket, empty, IsStep, after}
use Rattle.meet_tickets.proofs.Lists.Members.{Contains-partner, Contains-unfiltered, Contains-filter, Contains-cases, Contains-nil}
use Rattle.meet_overlap.proofs.Effects.{Leaves, Effect, effect, IsWell, well_stays}

-- what a list begins with, and what stands behind that
first : {X : Type 0} (x : X) (xs : List X) → Contains (x ∷ xs) x
first x xs = (0, omega arith, refl)

rest : {X : Type 0} (x : X) (xs : List X) (y : X) → Contains xs y → Contains (x ∷ xs) y
rest x xs y there = let low = there.1 in (suc there.0, omega arith, there.2)

-- a line's tickets rise
abbrev pub IsSorted : List (Entry ℕ) → Type 0
IsSorted [] = Unit {0}
IsSorted (e ∷ line) = ((f : Entry ℕ) → Contains line f → e.ticket < f.ticket) × IsSorted line

sorted_push : (line : List (Entry ℕ)) (x : Entry ℕ) → ((e : Entry ℕ) → Contains line e → e.ticket < x.ticket) → IsSorted line → IsSorted (line ++ x ∷ [])
sorted_push [] x below sorted = ((λ f there. absurd (Contains-nil f there)), tt)
sorted_push (e ∷ line) x below sorted = (
  (λ f there. ⊎_elim (λ q. sorted.0 f q) (λ q. subst (λ (g : Entry ℕ). e.ticket < g.ticket) q (below e (first e line))) (Contains-push_cases line x f there)),
  sorted_push line x (λ f there. below f (rest e line f there)) sorted.1,
)

sorted_filter : (p : Entry ℕ → Bool) (line : List (Entry ℕ)) → IsSorted line → IsSorted (filter p line)
sorted_filter p [] sorted = tt
sorted_filter p (e ∷ line) sorted = here (p e) (sorted_filter p line sorted.1)
  where
    here : (b : Bool) → IsSorted (filter p line) → IsSorted (if b then e ∷ filter p line else filter p line)
    here true left = ((λ f there. sorted.0 f (Contains-unfiltered p line f there)), left)
    here false left = left

-- nobody of the other side stands in a line
abbrev pub IsUnmixed : List (Entry ℕ) → Type 0
IsUnmixed line = (e f : Entry ℕ) (m : ℕ) → Contains line e → Contains line f → e.item ≡ None → f.item ≡ Some m → ⊥

-- where a giver finds nobody no taker stands in the line, and where a taker finds nobody no giver
pub alone_giver : (line : List (Entry ℕ)) → partner Front line Giver ≡ None → IsUnmixed line → (e : Entry ℕ) → Contains line e → e.item ≡ None → ⊥
alone_giver [] alone unmixed e there none = Contains-nil e there
alone_giver (h ∷ line) alone unmixed e there none = here h.item refl
  where
    here : (o : Option ℕ) → h.item ≡ o → ⊥
    here None is =
        let q : partner Front (h ∷ line) Giver ≡ Some h = ap (λ o. if is_some o then None else Some h) is in
        let never = sym q ∙ alone in absurd (cc)
    here (Some m) is = unmixed e h m there (first h line) none is

pub alone_taker : (line : List (Entry ℕ)) → partner Front line Taker ≡ None → IsUnmixed line → (e : Entry ℕ) (m : ℕ) → Contains line e → e.item ≡ Some m → ⊥
alone_taker [] alone unmixed e m there some = Contains-nil e there
alone_taker (h ∷ line) alone unmixed e m there some = here h.item refl
  where
    here : (o : Option ℕ) → h.item ≡ o → ⊥
    here None is = unmixed h e m (first h line) there is some
    here (Some n) is =
        let q : partner Front (h ∷ line) Taker ≡ Some h = ap (λ o. if is_none o then None else Some h) is in
        let never = sym q ∙ alone in absurd (cc)

-- who is met at the front has the least ticket
pub front_least : (line : List (Entry ℕ)) (side : Side) (h : Entry ℕ) → partner Front line side ≡ Some h → IsSorted line → (e : Entry ℕ) → Contains line e → h.ticket ≤ e.ticket
front_least [] side h is sorted e there = absurd (Contains-nil e there)
front_least (x ∷ line) side h is sorted e there = here (is_on side x) is
  where
    here : (b : Bool) → (if b then None else met Front (x ∷ line)) ≡ Some h → h.ticket ≤ e.ticket
    here true q = absurd (cc)
    here false q =
        let same : x ≡ h = cc in
        ⊎_elim
        (λ at. let t : h.ticket ≡ e.ticket = ap (λ (g : Entry ℕ). g.ticket) (sym same ∙ at) in omega arith)
        (λ behind. let lt = sorted.0 e behind in let t : x.ticket ≡ h.ticket = ap (λ (g : Entry ℕ). g.ticket) same in omega arith)
        (Contains-cases x line e there)

-- the last of a rising line has the greatest ticket
last_most : (x : Entry ℕ) (line : List (Entry ℕ)) (h : Entry ℕ) → slice_get (x ∷ line) (length line) ≡ Some h → IsSorted (x ∷ line) → (e : Entry ℕ) → Contains (x ∷ line) e → e.ticket ≤ h.ticket
last_most x [] h is sorted e there = ⊎_elim
    (λ at. let same : x ≡ h = cc in let t : e.ticket ≡ h.ticket = ap (λ (g : Entry ℕ). g.ticket) (sym at ∙ same) in omega arith)
    (λ behind. absurd (Contains-nil e behind))
    (Contains-cases x [] e there)
last_most x (y ∷ line) h is sorted e there = ⊎_elim
    (λ at.
    let low = last_most y line h is sorted.1 y (first y line) in
    let lt = sorted.0 y (first y line) in
    let t : x.ticket ≡ e.ticket = ap (λ (g : Entry ℕ). g.ticket) at in omega arith)
    (λ behind. last_most y line h is sorted.1 e behind)
    (Contains-cases x (y ∷ line) e there)

-- the first ticket's turn isn't after the other's, where the line is met at this end
abbrev pub ComesFirst : End → (one other : ℕ) → Type 0
ComesFirst Front one other = one ≤ other
ComesFirst Back one other = other ≤ one

-- who is met comes first
pub met_first : (end : End) (line : List (Entry ℕ)) (side : Side) (h : Entry ℕ) → partner end line side ≡ Some h → IsSorted line → (e : Entry ℕ) → Contains line e → ComesFirst end h.ticket e.ticket
met_first Front line side h is sorted e there = front_least line side h is sorted e there
met_first Back [] side h is sorted e there = absurd (Contains-nil e there)
met_first Back (x ∷ line) side h is sorted e there = here (is_on side x) is
  where
    here : (b : Bool) → (if b then None else met Back (x ∷ line)) ≡ Some h → e.ticket ≤ h.ticket
    here true q = absurd (cc)
    here false q = last_most x line h (let at : length line ≡ length (x ∷ line) - 1 = omega arith in ap (slice_get (x ∷ line)) at ∙ q) sorted e there

-- a line in order: of one side, by rising tickets; and open tickets are below the last
pub record IsOrdered (s : State) : Type 0 where
  pub sorted : IsSorted s.line
  pub unmixed : IsUnmixed s.line
  pub open_low : (o : Ticket) → Contains s.unended o → o.ticket ≤ s.last

-- one more of a side joins a line in which nobody of the other stands
unmixed_giver : (line : List (Entry ℕ)) (x : Entry ℕ) (m : ℕ) → x.item ≡ Some m → ((e : Entry ℕ) → Contains line e → e.item ≡ None → ⊥) → IsUnmixed (line ++ x ∷ [])
unmixed_giver line x m item none e f n e_there f_there e_none f_some = ⊎_elim
    (λ q. none e q e_none)
    (λ q. let is = ap (λ (g : Entry ℕ). g.item) q in let never = sym e_none ∙ sym is ∙ item in absurd (cc))
    (Contains-push_cases line x e e_there)

unmixed_taker : (line : List (Entry ℕ)) (x : Entry ℕ) → x.item ≡ None → ((e : Entry ℕ) (m : ℕ) → Contains line e → e.item ≡ Some m → ⊥) → IsUnmixed (line ++ x ∷ [])
unmixed_taker line x item none e f n e_there f_there e_none f_some = ⊎_elim
    (λ q. none f n q f_some)
    (λ q. let is = ap (λ (g : Entry ℕ). g.item) q in let never = sym f_some ∙ sym is ∙ item in absurd (cc))
    (Contains-push_cases line x f f_there)

unmixed_filter : (p : Entry ℕ → Bool) (line : List (Entry ℕ)) → IsUnmixed line → IsUnmixed (filter p line)
unmixed_filter p line unmixed e f n e_there f_there e_none f_some = unmixed e f n (Contains-unfiltered p line e e_there) (Contains-unfiltered p line f f_there) e_none f_some

-- a line that begins has a last entry
last_some : (x : Entry ℕ) (line : List (Entry ℕ)) → slice_get (x ∷ line) (length line) ≡ None → ⊥
last_some x [] none = absurd (cc)
last_some x (y ∷ line) none = last_some y line none

-- where nobody is met at one end, nobody is met at the other
pub none_front : (end : End) (line : List (Entry ℕ)) (side : Side) → partner end line side ≡ None → partner Front line side ≡ None
none_front end [] side is = refl
none_front Front (e ∷ line) side is = is
none_front Back (e ∷ line) side is = here (is_on side e) is
  where
    here : (b : Bool) → (if b then None else met Back (e ∷ line)) ≡ None → (if b then None else met Front (e ∷ line)) ≡ None
    here true q = refl
    here false q = absurd (last_some e line (let at : length line ≡ length (e ∷ line) - 1 = omega arith in ap (slice_get (e ∷ line)) at ∙ q))

module _ (k : Kind) (front : end_of k.order ≡ Front) where
  pub find_some : (line : List (Entry ℕ)) (side : Side) (e : Entry ℕ) → partner (end_of k.order) line side ≡ Some e → partner Front line side ≡ Some e
  find_some line side e is = ap (λ x. partner x line side) (sym front) ∙ is

-- it stays so, at whichever end it is met
pub ordered_stays : (k : Kind) (s : State) (i t : ℕ) (d : Deed) → IsWell s → IsOrdered s → IsStep k s i t d → IsOrdered (after s i t d)
ordered_stays k s i t (GiveWaits m) well o step =
    let above = step.0.above in
    record {
      sorted = sorted_push s.line _ (λ e there. let low = well.line e there in omega arith) o.sorted;
      unmixed = unmixed_giver s.line _ m refl (alone_giver s.line (none_front (end_of k.order) s.line Giver step.1) o.unmixed);
      open_low = λ x there. ⊎_elim (λ q. let low = o.open_low x q in omega arith) (λ q. let is = ap (λ (y : Ticket). y.ticket) q in omega arith) (Contains-push_cases s.unended _ x there);
    }
ordered_stays k s i t (GiveMeets m v) well o step =
    let above = step.0.above in
    record { sorted = sorted_filter _ s.line o.sorted; unmixed = unmixed_filter _ s.line o.unmixed; open_low = λ x there. let low = o.open_low x there in omega arith }
ordered_stays k s i t (GiveFails m) well o step =
    let above = step.0.above in
    record { sorted = o.sorted; unmixed = o.unmixed; open_low = λ x there. let low = o.open_low x there in omega arith }
ordered_stays k s i t (GiveKept m) well o step =
    let above = step.0.above in
    record {
      sorted = sorted_push s.line _ (λ e there. let low = well.line e there in omega arith) o.sorted;
      unmixed = unmixed_giver s.line _ m refl (alone_giver s.line (none_front (end_of k.order) s.line Giver step.1) o.unmixed);
      open_low = λ x there. let low = o.open_low x there in omega arith;
    }
ordered_stays k s i t TakeWaits well o step =
    let above = step.0.above in
    record {
      sorted = sorted_push s.line _ (λ e there. let low = well.line e there in omega arith) o.sorted;
      unmixed = unmixed_taker s.line _ refl (alone_taker s.line (none_front (end_of k.order) s.line Taker step.1) o.unmixed);
      open_low = λ x there. ⊎_elim (λ q. let low = o.open_low x q in omega arith) (λ q. let is = ap (λ (y : Ticket). y.ticket) q in omega arith) (Contains-push_cases s.unended _ x there);
    }
ordered_stays k s i t (TakeMeets m v) well o step =
    let above = step.0.above in
    record { sorted = sorted_filter _ s.line o.sorted; unmixed = unmixed_filter _ s.line o.unmixed; open_low = λ x there. let low = o.open_low x there in omega arith }
ordered_stays k s i t TakeFails well o step =
    let above = step.0.above in
    record { sorted = o.sorted; unmixed = o.unmixed; open_low = λ x there. let low = o.open_low x there in omega arith }
ordered_stays k s i t (EntryInterrupted side) well o step =
    let above = step.0.above in
    record { sorted = o.sorted; unmixed = o.unmixed; open_low = λ x there. let low = o.open_low x there in omega arith }
ordered_stays k s i t Done well o step = record { sorted = o.sorted; unmixed = o.unmixed; open_low = λ x there. o.open_low x (Contains-unfiltered _ s.unended x there) }
ordered_stays k s i t (Got m v) well o step = record { sorted = o.sorted; unmixed = o.unmixed; open_low = λ x there. o.open_low x (Contains-unfiltered _ s.unended x there) }
ordered_stays k s i t (Withdrawn Cancelled) well o step = record { sorted = sorted_filter _ s.line o.sorted; unmixed = unmixed_filter _ s.line o.unmixed; open_low = λ x there. o.open_low x (Contains-unfiltered _ s.unended x there) }
ordered_stays k s i t (Withdrawn Expired) well o step = record { sorted = sorted_filter _ s.line o.sorted; unmixed = unmixed_filter _ s.line o.unmixed; open_low = λ x there. o.open_low x (Contains-unfiltered _ s.unended x there) }
ordered_stays k s i t (Withdrawn Interrupted) well o step = record { sorted = o.sorted; unmixed = o.unmixed; open_low = λ x there. o.open_low x (Contains-unfiltered _ s.unended x there) }
ordered_stays k s i zero (Interrupt j) well o step = record { sorted = o.sorted; unmixed = o.unmixed; open_low = o.open_low }
ordered_stays k s i (suc t) (Interrupt j) well o step = record { sorted = sorted_filter _ s.line o.sorted; unmixed = unmixed_filter _ s.line o.unmixed; open_low = o.open_low }

-- an entry that isn't taken out stays
kept_passes : (line : List (Entry ℕ)) (v : ℕ) (e : Entry ℕ) → Contains line e → (e.ticket ≡ v → ⊥) → Contains (filter (λ f. not (f.ticket == v)) line) e
kept_passes line v e there other = Contains-filter (λ f. not (f.ticket == v)) line e there (ap not (ne_eqb e.ticket v other))

pub stays_in : (s : State) (i t : ℕ) (d : Deed) (e : Entry ℕ) → Contains s.line e → (Leaves d t e.ticket → ⊥) → Contains (after s i t d).line e
stays_in s i t (GiveWaits m) e there stays = Contains-append_left s.line _ e there
stays_in s i t (GiveMeets m v) e there stays = kept_passes s.line v e there stays
stays_in s i t (GiveFails m) e there stays = there
stays_in s i t (GiveKept m) e there stays = Contains-append_left s.line _ e there
stays_in s i t TakeWaits e there stays = Contains-append_left s.line _ e there
stays_in s i t (TakeMeets m v) e there stays = kept_passes s.line v e there stays
stays_in s i t TakeFails e there stays = there
stays_in s i t (EntryInterrupted side) e there stays = there
stays_in s i t Done e there stays = there
stays_in s i t (Got m v) e there stays = there
stays_in s i t (Withdrawn Cancelled) e there stays = kept_passes s.line t e there stays
stays_in s i t (Withdrawn Expired) e there stays = kept_passes s.line t e there stays
stays_in s i t (Withdrawn Interrupted) e there stays = there
stays_in s i zero (Interrupt j) e there stays = there
stays_in s i (suc t) (Interrupt j) e there stays = kept_passes s.line (suc t) e there stays

-- a ticket that isn't open isn't opened again
pub closed_stays : (k : Kind) (s : State) (i t x : ℕ) (d : Deed) → IsStep k s i t d → x ≤ s.last → ((o : Ticket) → Contains s.unended o → o.ticket ≡ x → ⊥) → (o : Ticket) → Contains (after s i t d).unended o → o.ticket ≡ x → ⊥
closed_stays k s i t x (GiveWaits m) step low closed o there is = ⊎_elim (λ q. closed o q is) (λ q. let at = ap (λ (y : Ticket). y.ticket) q in let above = step.0.above in absurd (omega arith)) (Contains-push_cases s.unended _ o there)
closed_stays k s i t x (GiveMeets m v) step low closed o there is = closed o there is
closed_stays k s i t x (GiveFails m) step low closed o there is = closed o there is
closed_stays k s i t x (GiveKept m) step low closed o there is = closed o there is
closed_stays k s i t x TakeWaits step low closed o there is = ⊎_elim (λ q. closed o q is) (λ q. let at = ap (λ (y : Ticket). y.ticket) q in let above = step.0.above in absurd (omega arith)) (Contains-push_cases s.unended _ o there)
closed_stays k s i t x (TakeMeets m v) step low closed o there is = closed o there is
closed_stays k s i t x TakeFails step low closed o there is = closed o there is
closed_stays k s i t x (EntryInterrupted side) step low closed o there is = closed o there is
closed_stays k s i t x Done step low closed o there is = closed o (Contains-unfiltered _ s.unended o there) is
closed_stays k s i t x (Got m v) step low closed o there is = closed o (Contains-unfiltered _ s.unended o there) is
closed_stays k s i t x (Withdrawn Cancelled) step low closed o there is = closed o (Contains-unfiltered _ s.unended o there) is
closed_stays k s i t x (Withdrawn Expired) step low closed o there is = closed o (Contains-unfiltered _ s.unended o there) is
closed_stays k s i t x (Withdrawn Interrupted) step low closed o there is = closed o (Contains-unfiltered _ s.unended o there) is
closed_stays k s i zero x (Interrupt j) step low closed o there is = closed o there is
closed_stays k s i (suc t) x (Interrupt j) step low closed o there is = closed o there is

-- before the first record
pub ordered_empty : IsOrdered empty
ordered_empty = record {
  sorted = tt;
  unmixed = λ e f m there also none some. Contains-nil e there;
  open_low = λ o there. absurd (Contains-nil o there);
}

module _ (k : Kind) (front : end_of k.order ≡ Front) (mark : ℕ) where
  -- an item of this mark is kept in the line
  pub record IsKept (s : State) (entry : Entry ℕ) : Type 0 where
    pub well : IsWell s
    pub ordered : IsOrdered s
    pub there : Contains s.line entry
    pub items : (e : Entry ℕ) → Contains s.line e → e.ticket ≡ entry.ticket → e.item ≡ Some mark
    pub closed : (o : Ticket) → Contains s.unended o → o.ticket ≡ entry.ticket → ⊥

  -- then no giver meets anybody
  pub gives_none : (s : State) (entry : Entry ℕ) (b : IsKept s entry) (i t m v : ℕ) → IsStep k s i t (GiveMeets m v) → ⊥
  gives_none s entry b i t m v step =
      let there = Contains-partner (end_of k.order) s.line Giver step.1.0 step.1.1 in
      b.ordered.unmixed step.1.0 entry mark there b.there step.1.3 (b.items entry b.there refl)

  -- and no taker finds nobody
  pub finds_one : (s : State) (entry : Entry ℕ) (b : IsKept s entry) → partner (end_of k.order) s.line Taker ≡ None → ⊥
  finds_one s entry b none = alone_taker s.line (none_front (end_of k.order) s.line Taker none) b.ordered.unmixed entry mark b.there (b.items entry b.there refl)

  -- only a call that gets it takes it out of the line
  pub leaves_by : (s : State) (entry : Entry ℕ) (b : IsKept s entry) (i t : ℕ) (d : Deed) → IsStep k s i t d → Leaves d t entry.ticket → (v : ℕ) × (d ≡ TakeMeets mark v)
  leaves_by s entry b i t (GiveMeets m v) step leaves = absurd (gives_none s entry b i t m v step)
  leaves_by s entry b i t (TakeMeets m v) step leaves =
      let there = Contains-partner (end_of k.order) s.line Taker step.1.0 step.1.1 in
      let item = b.items step.1.0 there (step.1.2 ∙ sym leaves) in
      let same : m ≡ mark = let q = sym step.1.3 ∙ item in cc in
      (v, ap (λ y. TakeMeets y v) same)
  leaves_by s entry b i t (Withdrawn Cancelled) step leaves = absurd (b.closed (record { ticket = t; seat = i }) step.0 (sym leaves))
  leaves_by s entry b i t (Withdrawn Expired) step leaves = absurd (b.closed (record { ticket = t; seat = i }) step.0 (sym leaves))
  leaves_by s entry b i (suc t) (Interrupt j) step leaves = absurd (b.closed (record { ticket = suc t; seat = j }) step.0 (sym leaves))
  leaves_by s entry b i zero (Interrupt j) step leaves = absurd leaves
  leaves_by s entry b i t d step leaves = absurd leaves

  -- where no call takes it out, it stays
  pub kept_stays : (s : State) (entry : Entry ℕ) (b : IsKept s entry) (i t : ℕ) (d : Deed) → IsStep k s i t d → (Leaves d t entry.ticket → ⊥) → IsKept (after s i t d) entry
  kept_stays s entry b i t d step stays =
      let f : Effect s (after s i t d) t d = effect k s i t d step in
      let low = b.well.line entry b.there in
      record {
        well = well_stays k s i t d b.well step;
        ordered = ordered_stays k s i t d b.well b.ordered step;
        there = stays_in s i t d entry b.there stays;
        items = λ g there same. ⊎_elim (λ q. b.items g q.0 same) (λ q. let above = q.above in let at = q.ticket in absurd (omega arith)) (f.line g there);
        closed = closed_stays k s i t entry.ticket d step low b.closed;
      }

  -- a new one is kept
  abbrev pub own_entry : (i t : ℕ) → Entry ℕ
  own_entry i t = record { ticket = t; seat = i; item = Some mark; waits = false }

  pub now_kept : (s : State) (i t : ℕ) → IsWell s → IsOrdered s → IsStep k s i t (GiveKept mark) → IsKept (after s i t (GiveKept mark)) (own_entry i t)
  now_kept s i t well ordered step =
      let f : Effect s (after s i t (GiveKept mark)) t (GiveKept mark) = effect k s i t (GiveKept mark) step in
      let above = step.0.above in
      record {
        well = well_stays k s i t (GiveKept mark) well step;
        ordered = ordered_stays k s i t (GiveKept mark) well ordered step;
        there = Contains-push s.line (own_entry i t);
        items = λ g there same. ⊎_elim (λ q. let low = well.line g q.0 in absurd (omega arith)) (λ q. q.item) (f.line g there);
        closed = λ o there is. let low = ordered.open_low o there in absurd (omega arith);
      }
