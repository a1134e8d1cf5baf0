-- What the records say of the tickets that a place holds, and how much the tickets and the place weigh.
use Rattle.std.proofs.Common.{◌≡◌, ◌≢◌, ℕ, ◌+◌, ◌<◌, ◌≤◌, refl, sym, ap, ◌∙◌, subst, ⊎_elim, Bool, true, false, cond, ◌&&◌, if◌then◌else◌, Some, None, is_some, List, Contains, arith}
use Rattle.std.specs.Prelude.{count_by}
use Rattle.std.specs.List.{range_with_len}
use Rattle.std.proofs.lemmas.Bool.{cases_eq, true≢false}
use Rattle.meet_tickets.specs.declared.lines.Entry.{Entry}
use Rattle.meet_tickets.specs.declared.lines.Hold.{Hold}
use Rattle.meet_tickets.specs.declared.lines.Hold.TheVariants.{Free, Waiting, Handed, Served, Cut}
use Rattle.meet_tickets.specs.declared.fates.Fate.{Fate}
use Rattle.meet_tickets.specs.declared.fates.Fate.TheVariants.{Paired, Kept, Cut as CutOff, Waiting as StillWaiting}
use Rattle.meet_tickets.specs.declared.records.Cause.{Cause}
use Rattle.meet_tickets.specs.declared.records.Deed.{Deed}
use Rattle.meet_tickets.specs.declared.records.Deed.TheVariants.{GiveWaits, GiveKept, TakeWaits}
use Rattle.meet_tickets.specs.BySeat.{put_at, open_ticket}
use Rattle.meet_tickets.proofs.Tellings.Whereabouts.{put_at_here, put_at_there}
use Rattle.meet_tickets.proofs.Told.Said.{Said, fate_of, waited_of}
use Rattle.meet_tickets.proofs.Lists.Changed.{one, times, count_once, times_range}

-- the requests that join the line
pub data Joining : Type 0 where
  Gives Keeps : (mark : ℕ) → Joining
  Takes : Joining

-- their deeds
abbrev pub deed_of : Joining → Deed
deed_of (Gives mark) = GiveWaits mark
deed_of (Keeps mark) = GiveKept mark
deed_of Takes = TakeWaits

-- whether they wait there
abbrev pub waits_of : Joining → Bool
waits_of (Gives mark) = true
waits_of (Keeps mark) = false
waits_of Takes = true

-- nothing is said of a ticket
abbrev pub blank : Said
blank = record { asked = None; met = None; learned = false; back = None; cut = false }

-- only its request is said
abbrev pub only_asked : Deed → Said
only_asked d = record blank { asked = Some d }

-- its request, and that it was met
abbrev pub only_met : Joining → ℕ → Said
only_met j u = record blank { asked = Some (deed_of j); met = Some u }

-- its request, and that it was cut
abbrev pub only_cut : Joining → Said
only_cut j = record blank { asked = Some (deed_of j); cut = true }

-- what a fate weighs: `w` where the ticket waits, `k` where its item is kept, `s` where it is met or cut and not told so
abbrev pub weight_of : (w k s : Bool) → Fate → Bool
weight_of w k s StillWaiting = w
weight_of w k s Kept = k
weight_of w k s (Paired u) = s
weight_of w k s CutOff = s
weight_of w k s fate = false

-- what a ticket weighs of which this is said; only one that waited awaits its ending
abbrev pub weight : (w k s : Bool) → Said → Bool
weight w k s x = weight_of w k (waited_of x && s) (fate_of x)

-- what an entry weighs
abbrev pub entry_weight : (w k : Bool) → Entry ℕ → Bool
entry_weight w k e = if e.waits then w else k

-- what a seat weighs that holds this
abbrev pub hold_weight : (s : Bool) → Hold ℕ → Bool
hold_weight s Free = false
hold_weight s (Waiting t) = false
hold_weight s (Handed t u mark) = s
hold_weight s (Served t u mark) = s
hold_weight s (Cut t item) = s

-- what is said of a ticket that stands in the line
abbrev pub IsLined : Bool → Said → Type 0
IsLined waits x = (j : Joining) × (waits_of j ≡ waits) × (x ≡ only_asked (deed_of j))

-- what is said of one that waited and was met, by this ticket
abbrev pub IsMet : ℕ → Said → Type 0
IsMet u x = (j : Joining) × (waits_of j ≡ true) × (x ≡ only_met j u)

-- what is said of one that waited and was cut
abbrev pub IsCut : Said → Type 0
IsCut x = (j : Joining) × (waits_of j ≡ true) × (x ≡ only_cut j)

-- what is said of the ticket that a seat holds; of one in the line its entry tells
abbrev pub IsHeld : (ℕ → Said) → Hold ℕ → Type 0
IsHeld f Free = Unit {0}
IsHeld f (Waiting t) = Unit {0}
IsHeld f (Handed t u mark) = IsMet u (f t)
IsHeld f (Served t u mark) = IsMet u (f t)
IsHeld f (Cut t item) = IsCut (f t)

-- how much the tickets weigh
abbrev pub tickets_weigh : (w k s : Bool) → (ℕ → Said) → List ℕ → ℕ
tickets_weigh w k s f tickets = count_by (λ t. weight w k s (f t)) tickets

-- how much the line weighs
abbrev pub line_weighs : (w k : Bool) → List (Entry ℕ) → ℕ
line_weighs w k line = count_by (entry_weight w k) line

-- how much the first seats weigh
abbrev pub seats_weigh : (s : Bool) → (ℕ → Hold ℕ) → ℕ → ℕ
seats_weigh s holds bound = count_by (λ i. hold_weight s (holds i)) (range_with_len 0 bound)

-- what is said of the tickets fits the place
pub record Fated (f : ℕ → Said) (tickets : List ℕ) (last : ℕ) (line : List (Entry ℕ)) (holds : ℕ → Hold ℕ) (bound : ℕ) : Type 0 where
  pub low : (t : ℕ) → last < t → f t ≡ blank
  pub once : (t : ℕ) → times t tickets ≡ one (is_some (f t).asked)
  pub lined : (e : Entry ℕ) → Contains line e → IsLined e.waits (f e.ticket)
  pub held : (i : ℕ) → IsHeld f (holds i)
  pub free : (i : ℕ) → bound ≤ i → holds i ≡ Free
  pub weighs : (w k s : Bool) → tickets_weigh w k s f tickets ≡ line_weighs w k line + seats_weigh s holds bound

-- a ticket in the line weighs what its entry does
pub weight_lined : (w k s : Bool) (j : Joining) → weight w k s (only_asked (deed_of j)) ≡ cond (waits_of j) w k
weight_lined w k s (Gives mark) = refl
weight_lined w k s (Keeps mark) = refl
weight_lined w k s Takes = refl

-- one that was met awaits its ending where it waited
pub weight_met : (w k s : Bool) (j : Joining) (u : ℕ) → weight w k s (only_met j u) ≡ (waits_of j && s)
weight_met w k s (Gives mark) u = refl
weight_met w k s (Keeps mark) u = refl
weight_met w k s Takes u = refl

-- and so does one that was cut
pub weight_cut : (w k s : Bool) (j : Joining) → weight w k s (only_cut j) ≡ (waits_of j && s)
weight_cut w k s (Gives mark) = refl
weight_cut w k s (Keeps mark) = refl
weight_cut w k s Takes = refl

-- one that was met and learned so weighs nothing
pub weight_learned : (w k s : Bool) (j : Joining) (u : ℕ) → weight w k s (record (only_met j u) { learned = true }) ≡ false
weight_learned w k s (Gives mark) u = refl
weight_learned w k s (Keeps mark) u = refl
weight_learned w k s Takes u = refl

-- nor does one that was taken back from the line
pub weight_back : (w k s : Bool) (j : Joining) (cause : Cause) → weight w k s (record (only_asked (deed_of j)) { back = Some cause }) ≡ false
weight_back w k s (Gives mark) cause = refl
weight_back w k s (Keeps mark) cause = refl
weight_back w k s Takes cause = refl

-- nor one that was cut and taken back
pub weight_cut_back : (w k s : Bool) (j : Joining) (cause : Cause) → weight w k s (record (only_cut j) { back = Some cause }) ≡ false
weight_cut_back w k s (Gives mark) cause = refl
weight_cut_back w k s (Keeps mark) cause = refl
weight_cut_back w k s Takes cause = refl

-- a ticket of which nothing is said isn't in the line
pub blank_unlined : (b : Bool) (x : Said) → x ≡ blank → IsLined b x → ⊥
blank_unlined b x is l = let apart : None ≡ Some (deed_of l.0) = sym (ap (λ y. y.asked) is) ∙ ap (λ y. y.asked) l.2 in cc

-- nor was it met
pub blank_unmet : (x : Said) → x ≡ blank → (u : ℕ) → IsMet u x → ⊥
blank_unmet x is u m = let apart : None ≡ Some (deed_of m.0) = sym (ap (λ y. y.asked) is) ∙ ap (λ y. y.asked) m.2 in cc

-- nor cut
pub blank_uncut : (x : Said) → x ≡ blank → IsCut x → ⊥
blank_uncut x is c = let apart : None ≡ Some (deed_of c.0) = sym (ap (λ y. y.asked) is) ∙ ap (λ y. y.asked) c.2 in cc

-- a ticket in the line wasn't met
pub lined_unmet : (b : Bool) (x : Said) → IsLined b x → (u : ℕ) → IsMet u x → ⊥
lined_unmet b x l u m = let apart : None ≡ Some u = sym (ap (λ y. y.met) l.2) ∙ ap (λ y. y.met) m.2 in cc

-- nor cut
pub lined_uncut : (b : Bool) (x : Said) → IsLined b x → IsCut x → ⊥
lined_uncut b x l c = true≢false (sym (ap (λ y. y.cut) c.2) ∙ ap (λ y. y.cut) l.2)

module _ (f f' : ℕ → Said) (x : ℕ) (same : (t : ℕ) → t ≢ x → f' t ≡ f t) where
  -- a seat that holds no ticket of which more is said
  pub held_apart : (hold : Hold ℕ) → ((u : ℕ) → IsMet u (f x) → ⊥) → (IsCut (f x) → ⊥) → IsHeld f hold → IsHeld f' hold
  held_apart Free unmet uncut h = tt
  held_apart (Waiting t) unmet uncut h = tt
  held_apart (Handed t u mark) unmet uncut h = subst (IsMet u) (sym (same t (λ e. unmet u (subst (λ y. IsMet u (f y)) e h)))) h
  held_apart (Served t u mark) unmet uncut h = subst (IsMet u) (sym (same t (λ e. unmet u (subst (λ y. IsMet u (f y)) e h)))) h
  held_apart (Cut t item) unmet uncut h = subst IsCut (sym (same t (λ e. uncut (subst (λ y. IsCut (f y)) e h)))) h

  -- a seat whose open ticket is another
  pub held_other : (hold : Hold ℕ) → (open_ticket hold ≡ Some x → ⊥) → IsHeld f hold → IsHeld f' hold
  held_other Free other h = tt
  held_other (Waiting t) other h = tt
  held_other (Handed t u mark) other h = subst (IsMet u) (sym (same t (λ e. other (ap (λ y. Some y) e)))) h
  held_other (Served t u mark) other h = subst (IsMet u) (sym (same t (λ e. other (ap (λ y. Some y) e)))) h
  held_other (Cut t item) other h = subst IsCut (sym (same t (λ e. other (ap (λ y. Some y) e)))) h

-- what is said fits what was put at one seat
pub held_put : (f : ℕ → Said) (holds : ℕ → Hold ℕ) (i : ℕ) (x : Hold ℕ) → IsHeld f x → ((j : ℕ) → j ≢ i → IsHeld f (holds j)) → (j : ℕ) → IsHeld f (put_at holds i x j)
held_put f holds i x here others j =
    ⊎_elim (λ e. subst (IsHeld f) (sym (ap (put_at holds i x) e ∙ put_at_here holds i x)) here) (λ n. subst (IsHeld f) (sym (put_at_there holds i x j n)) (others j n))
    (cases_eq j i)

-- how the weight of the seats changes with what one holds
pub seats_put : (s : Bool) (holds : ℕ → Hold ℕ) (bound i : ℕ) (x : Hold ℕ) → i < bound →
    seats_weigh s (put_at holds i x) bound + one (hold_weight s (holds i)) ≡ seats_weigh s holds bound + one (hold_weight s x)
seats_put s holds bound i x below =
    let changed = count_once (λ j. hold_weight s (put_at holds i x j)) (λ j. hold_weight s (holds j)) i
    (λ j apart. ap (hold_weight s) (put_at_there holds i x j apart)) (range_with_len 0 bound) (times_range i 0 bound (omega arith) (omega arith)) in
    let here : ◌≡◌ {A = ℕ} (one (hold_weight s (put_at holds i x i))) (one (hold_weight s x)) = ap (λ y. one (hold_weight s y)) (put_at_here holds i x) in
    omega (arith, changed, here)
