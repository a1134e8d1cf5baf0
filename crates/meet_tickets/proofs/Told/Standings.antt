-- How many tickets stand where is read from the records alone.
use Rattle.std.proofs.Common.{◌≡◌, ℕ, suc, ◌+◌, ◌<◌, ◌≤◌, refl, sym, ap, ◌∙◌, subst, Bool, true, false, cond, ◌&&◌, not, List, [], ◌∷◌, ◌++◌, arith}
use Rattle.std.specs.List.{range_with_len}
use Rattle.std.proofs.lemmas.List.{append-nil, append_assoc}
use Rattle.meet_tickets.specs.declared.lines.Entry.{Entry}
use Rattle.meet_tickets.specs.declared.lines.Hold.{Hold}
use Rattle.meet_tickets.specs.declared.lines.Hold.TheVariants.{Free, Waiting, Handed, Served, Cut}
use Rattle.meet_tickets.specs.declared.places.Kind.{Kind}
use Rattle.meet_tickets.specs.declared.records.Record.{Record}
use Rattle.meet_tickets.specs.declared.records.Deed.{Deed}
use Rattle.meet_tickets.specs.declared.fates.Fate.{Fate}
use Rattle.meet_tickets.specs.declared.fates.Fate.TheVariants.{Never, Failed, EntryRefused, Paired, Collected, Withdrawn, Kept, Cut as CutOff, Waiting as StillWaiting, Past}
use Rattle.meet_tickets.specs.Meeting.{waiting_count, kept_count}
use Rattle.meet_tickets.specs.ByLists.{State, empty, IsLegal, IsLegalFrom, IsStep, after, run}
use Rattle.meet_tickets.specs.BySeat.{Moment, beginning, is_settled, settled_of, moment_after, moment_of}
use Rattle.meet_tickets.specs.Fates.{fate, tickets_of, has_waited, is_waiting, is_kept, is_unlearned, waiting_in, uncollected_in, kept_in}
use Rattle.meet_tickets.proofs.Lists.Members.{Contains-nil}
use Rattle.meet_tickets.proofs.Tellings.Histories.{Alike, told_by, seen_is, alike_after, alike_at_end, starts_alike}
use Rattle.meet_tickets.proofs.Told.Said.{said, fate_is, fate_of, waited_of}
use Rattle.meet_tickets.proofs.Lists.Changed.{count-none, count-same, count_longer}
use Rattle.meet_tickets.proofs.Told.Fated.{Fated, weight, weight_of, entry_weight, hold_weight, tickets_weigh, line_weighs, seats_weigh}
use Rattle.meet_tickets.proofs.Told.Recorded.{goes}

-- the seats of these records are below a bound
abbrev pub AreBelow : ℕ → List (Record Deed) → Type 0
AreBelow bound [] = Unit {0}
AreBelow bound (r ∷ history) = (r.seat < bound) × AreBelow bound history

-- such a bound
abbrev pub bound_of : List (Record Deed) → ℕ
bound_of [] = 0
bound_of (r ∷ history) = suc r.seat + bound_of history

-- a greater bound is one too
pub below_more : (bound more : ℕ) (history : List (Record Deed)) → bound ≤ more → AreBelow bound history → AreBelow more history
below_more bound more [] less below = tt
below_more bound more (r ∷ history) less below = (let here = below.0 in omega arith, below_more bound more history less below.1)

-- it is one
pub bound_is : (history : List (Record Deed)) → AreBelow (bound_of history) history
bound_is [] = tt
bound_is (r ∷ history) = (omega arith, below_more (bound_of history) (suc r.seat + bound_of history) history (omega arith) (bound_is history))

-- what the records say fits a state and a moment
abbrev pub AreTold : List (Record Deed) → State → Moment → ℕ → Type 0
AreTold history s m bound = Fated (said history) (tickets_of history) s.last s.line m.seats.holds bound

-- so it does after one record more
fits_after : (k : Kind) (history : List (Record Deed)) (s : State) (m : Moment) (bound : ℕ) → Alike s m → (r : Record Deed) → r.seat < bound → IsStep k s r.seat r.ticket r.deed → AreTold history s m bound →
    AreTold (history ++ r ∷ []) (after s r.seat r.ticket r.deed) (moment_after k m r) bound
fits_after k history s m bound a r below z fits =
    subst (λ n. AreTold (history ++ r ∷ []) (after s r.seat r.ticket r.deed) (moment_after k n r) bound) (seen_is s m a)
    (goes (told_by s m a) k history bound fits r.seat r.ticket r.deed below z)

-- and after all that follow
pub fits_all : (k : Kind) (rest history : List (Record Deed)) (s : State) (m : Moment) (bound : ℕ) → Alike s m → AreBelow bound rest → IsLegalFrom k s rest → AreTold history s m bound →
    AreTold (history ++ rest) (run s rest) (moment_of k m rest) bound
fits_all k [] history s m bound a below z fits = subst (λ h. AreTold h s m bound) (sym (append-nil history)) fits
fits_all k (r ∷ rest) history s m bound a below z fits =
    subst (λ h. AreTold h (run s (r ∷ rest)) (moment_of k m (r ∷ rest)) bound) (append_assoc history (r ∷ []) rest)
    (fits_all k rest (history ++ r ∷ []) (after s r.seat r.ticket r.deed) (moment_after k m r) bound (alike_after k s m a r z.0) below.1 z.1
    (fits_after k history s m bound a r below.0 z.0 fits))

-- at the beginning nothing weighs anything
pub none_weighs : (w k s : Bool) (bound : ℕ) → tickets_weigh w k s (said []) [] ≡ line_weighs w k [] + seats_weigh s (λ i. Free) bound
none_weighs w k s bound = let none = count-none (range_with_len 0 bound) in omega (arith, none)

-- so it does at the beginning
fits_none : (bound : ℕ) → AreTold [] empty beginning bound
fits_none bound = record {
  low = λ t over. refl;
  once = λ t. refl;
  lined = λ e m. absurd (Contains-nil e m);
  held = λ i. tt;
  free = λ i over. refl;
  weighs = λ w k s. none_weighs w k s bound;
}

-- what the records of a legal history say fits what it leaves
fits_at_end : (k : Kind) (history : List (Record Deed)) (bound : ℕ) → AreBelow bound history → IsLegal k history → AreTold history (run empty history) (moment_of k beginning history) bound
fits_at_end k history bound below legal = fits_all k history [] empty beginning bound starts_alike below legal (fits_none bound)

-- where only waiting tickets weigh
waits_alone : (b : Bool) (x : Fate) → is_waiting x ≡ weight_of true false (b && false) x
waits_alone true (Paired u) = refl
waits_alone false (Paired u) = refl
waits_alone true CutOff = refl
waits_alone false CutOff = refl
waits_alone b Never = refl
waits_alone b Failed = refl
waits_alone b EntryRefused = refl
waits_alone b (Collected u) = refl
waits_alone b (Withdrawn cause) = refl
waits_alone b Kept = refl
waits_alone b StillWaiting = refl
waits_alone b Past = refl

-- where only kept items do
kept_alone : (b : Bool) (x : Fate) → is_kept x ≡ weight_of false true (b && false) x
kept_alone true (Paired u) = refl
kept_alone false (Paired u) = refl
kept_alone true CutOff = refl
kept_alone false CutOff = refl
kept_alone b Never = refl
kept_alone b Failed = refl
kept_alone b EntryRefused = refl
kept_alone b (Collected u) = refl
kept_alone b (Withdrawn cause) = refl
kept_alone b Kept = refl
kept_alone b StillWaiting = refl
kept_alone b Past = refl

-- where only what isn't learned does
unlearned_alone : (b : Bool) (x : Fate) → (b && is_unlearned x) ≡ weight_of false false (b && true) x
unlearned_alone true Never = refl
unlearned_alone true Failed = refl
unlearned_alone true EntryRefused = refl
unlearned_alone true (Paired u) = refl
unlearned_alone true (Collected u) = refl
unlearned_alone true (Withdrawn cause) = refl
unlearned_alone true CutOff = refl
unlearned_alone true Kept = refl
unlearned_alone true StillWaiting = refl
unlearned_alone true Past = refl
unlearned_alone false Never = refl
unlearned_alone false Failed = refl
unlearned_alone false EntryRefused = refl
unlearned_alone false (Paired u) = refl
unlearned_alone false (Collected u) = refl
unlearned_alone false (Withdrawn cause) = refl
unlearned_alone false CutOff = refl
unlearned_alone false Kept = refl
unlearned_alone false StillWaiting = refl
unlearned_alone false Past = refl

-- an entry weighs where it waits
entry_waits : (b : Bool) → cond b true false ≡ b
entry_waits true = refl
entry_waits false = refl

-- or where it is kept
entry_kept : (b : Bool) → cond b false true ≡ not b
entry_kept true = refl
entry_kept false = refl

-- or nowhere
entry_none : (b : Bool) → cond b false false ≡ false
entry_none true = refl
entry_none false = refl

-- what a seat holds weighs nothing
hold_none : (x : Hold ℕ) → hold_weight false x ≡ false
hold_none Free = refl
hold_none (Waiting t) = refl
hold_none (Handed t u mark) = refl
hold_none (Served t u mark) = refl
hold_none (Cut t item) = refl

-- or it weighs where it is settled
hold_settled : (x : Hold ℕ) → hold_weight true x ≡ is_settled x
hold_settled Free = refl
hold_settled (Waiting t) = refl
hold_settled (Handed t u mark) = refl
hold_settled (Served t u mark) = refl
hold_settled (Cut t item) = refl

-- the numbers that the records tell are those of the place
pub record StandsAs (k : Kind) (history : List (Record Deed)) (seats : ℕ) : Type 0 where
  pub waiting : waiting_in history ≡ waiting_count (moment_of k beginning history).seats.line
  pub uncollected : uncollected_in history ≡ settled_of seats (moment_of k beginning history).seats.holds
  pub kept : kept_in history ≡ kept_count (moment_of k beginning history).seats.line

module _ (history : List (Record Deed)) where
  -- the tickets that wait
  pub waiting_weighs : waiting_in history ≡ tickets_weigh true false false (said history) (tickets_of history)
  waiting_weighs = count-same (λ t. is_waiting (fate history t)) (λ t. weight true false false (said history t))
      (λ t. ap is_waiting (fate_is history t) ∙ waits_alone (waited_of (said history t)) (fate_of (said history t))) (tickets_of history)

  -- those whose items are kept
  pub kept_weighs : kept_in history ≡ tickets_weigh false true false (said history) (tickets_of history)
  kept_weighs = count-same (λ t. is_kept (fate history t)) (λ t. weight false true false (said history t))
      (λ t. ap is_kept (fate_is history t) ∙ kept_alone (waited_of (said history t)) (fate_of (said history t))) (tickets_of history)

  -- those that aren't collected
  pub uncollected_weighs : uncollected_in history ≡ tickets_weigh false false true (said history) (tickets_of history)
  uncollected_weighs = count-same (λ t. has_waited history t && is_unlearned (fate history t)) (λ t. weight false false true (said history t))
      (λ t. ap (λ x. has_waited history t && is_unlearned x) (fate_is history t) ∙ unlearned_alone (waited_of (said history t)) (fate_of (said history t))) (tickets_of history)

module _ (line : List (Entry ℕ)) where
  -- the entries that wait
  pub line_waiting : line_weighs true false line ≡ waiting_count line
  line_waiting = count-same (entry_weight true false) (λ e. e.waits) (λ e. entry_waits e.waits) line

  -- the items that are kept
  pub line_kept : line_weighs false true line ≡ kept_count line
  line_kept = count-same (entry_weight false true) (λ e. not e.waits) (λ e. entry_kept e.waits) line

  -- entries that weigh nothing
  pub line_none : line_weighs false false line ≡ 0
  line_none = count-same (entry_weight false false) (λ e. false) (λ e. entry_none e.waits) line ∙ count-none line

module _ (holds : ℕ → Hold ℕ) (bound : ℕ) where
  -- seats that weigh nothing
  pub seats_none : seats_weigh false holds bound ≡ 0
  seats_none = count-same (λ i. hold_weight false (holds i)) (λ i. false) (λ i. hold_none (holds i)) (range_with_len 0 bound) ∙ count-none (range_with_len 0 bound)

  -- the seats whose tickets are settled
  pub seats_settled : seats_weigh true holds bound ≡ settled_of bound holds
  seats_settled = count-same (λ i. hold_weight true (holds i)) (λ i. is_settled (holds i)) (λ i. hold_settled (holds i)) (range_with_len 0 bound)

  -- seats that are free add nothing
  pub settled_first : (seats : ℕ) → seats ≤ bound → ((i : ℕ) → seats ≤ i → holds i ≡ Free) → settled_of bound holds ≡ settled_of seats holds
  settled_first seats less free = count_longer (λ i. is_settled (holds i)) 0 seats bound less (λ i over. ap is_settled (free i (omega arith)))

-- the numbers of waiting, uncollected and kept tickets are read from the records alone
pub stands_as : (k : Kind) (history : List (Record Deed)) (seats : ℕ) → IsLegal k history → ((i : ℕ) → seats ≤ i → (moment_of k beginning history).seats.holds i ≡ Free) → StandsAs k history seats
stands_as k history seats legal free = record {
  waiting = waiting_weighs history ∙ fits.weighs true false false ∙ total (line_waiting line ∙ same_waiting) (seats_none holds bound) ∙ omega arith;
  uncollected = uncollected_weighs history ∙ fits.weighs false false true ∙ total (line_none line) (seats_settled holds bound ∙ settled_first holds bound seats (omega arith) free) ∙ omega arith;
  kept = kept_weighs history ∙ fits.weighs false true false ∙ total (line_kept line ∙ same_kept) (seats_none holds bound) ∙ omega arith;
}
  where
    bound : ℕ
    bound = seats + bound_of history

    fits : AreTold history (run empty history) (moment_of k beginning history) bound
    fits = fits_at_end k history bound (below_more (bound_of history) bound history (omega arith) (bound_is history)) legal

    line : List (Entry ℕ)
    line = (run empty history).line

    holds : ℕ → Hold ℕ
    holds = (moment_of k beginning history).seats.holds

    agrees : line ≡ (moment_of k beginning history).seats.line
    agrees = (alike_at_end k history empty beginning starts_alike legal).agrees.line

    same_waiting : waiting_count line ≡ waiting_count (moment_of k beginning history).seats.line
    same_waiting = ap waiting_count agrees

    same_kept : kept_count line ≡ kept_count (moment_of k beginning history).seats.line
    same_kept = ap kept_count agrees

    total : {a b c d : ℕ} → a ≡ b → c ≡ d → a + c ≡ b + d
    total {a} {b} {c} {d} left right = omega (arith, left, right)
