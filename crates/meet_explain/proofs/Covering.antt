-- What a seat may answer is among a few deeds, once it is known whom it meets or met.
use Rattle.std.proofs.Common.{◌≡◌, ℕ, refl, sym, subst, Option, Some, None, List, [], ◌∷◌, Contains, arith}
use Rattle.std.specs.Prelude.{IfSome}
use Rattle.std.specs.List.{AllByRecursion}
use Rattle.std.proofs.lemmas.List.Elements.{All-weaker, All-contains, All-from_recursion}
use Rattle.meet_tickets.specs.declared.lines.Hold.TheVariants.{Served}
use Rattle.meet_tickets.specs.declared.places.Kind.{Kind}
use Rattle.meet_tickets.specs.declared.places.Side.TheVariants.{Giver, Taker}
use Rattle.meet_tickets.specs.declared.records.Cause.TheVariants.{Cancelled, Expired, Interrupted}
use Rattle.meet_tickets.specs.declared.records.Deed.{Deed}
use Rattle.meet_tickets.specs.declared.records.Deed.TheVariants.{GiveWaits, GiveMeets, GiveFails, GiveKept, TakeWaits}
use Rattle.meet_tickets.specs.declared.records.Deed.TheVariants.{TakeMeets, TakeFails, EntryInterrupted, Done, Got}
use Rattle.meet_tickets.specs.declared.records.Deed.TheVariants.{Withdrawn, Interrupt}
use Rattle.meet_tickets.specs.Bases.{Based, moment_of_base}
use Rattle.meet_tickets.specs.BySeat.{Allows}
use Rattle.meet_tickets.specs.Meeting.{Finds}
use Rattle.meet_explain.specs.Answers.{Answers, AreAll, AreChosen}
use Rattle.meet_explain.specs.declared.coming.attempts.Attempt.{Attempt}
use Rattle.meet_explain.specs.declared.coming.attempts.Attempt.TheVariants.{Give, Take, End, Interrupt as ToInterrupt}

-- of all that may come those that do
pub chosen_all : (P : Deed → Type 0) (attempt : Attempt) (deeds list : List Deed) → AllByRecursion (Answers attempt) deeds →
    ((deed : Deed) → Answers attempt deed → P deed → Contains deeds deed) → AreChosen P deeds list → AreAll P attempt list
chosen_all P attempt deeds list own all are = record {
  sound = All-weaker (λ d. Contains deeds d × P d) (λ d. Answers attempt d × P d) (λ d both. (All-contains (Answers attempt) deeds d (All-from_recursion (Answers attempt) deeds own) both.0, both.1)) list are.sound;
  whole = λ d is true. are.whole d (all d is true) true;
}

-- of a giver that would meet this taker, if any
abbrev pub of_giver : (mark taker : ℕ) → List Deed
of_giver m u = GiveWaits m ∷ GiveFails m ∷ GiveKept m ∷ EntryInterrupted Giver ∷ GiveMeets m u ∷ []

pub giver_own : (m u : ℕ) → AllByRecursion (Answers (Give m)) (of_giver m u)
giver_own m u = (refl, (refl, (refl, (refl, (refl, tt)))))

pub giver_all : (k : Kind) (b : Based) (i t m u : ℕ) → ((ticket : ℕ) (item : Option ℕ) → Finds k b.line Giver ticket item → u ≡ ticket) →
    (deed : Deed) → Answers (Give m) deed → Allows k (moment_of_base b).seats i t deed → Contains (of_giver m u) deed
giver_all k b i t m u met (GiveWaits n) is may = subst (λ x. Contains (of_giver m u) (GiveWaits x)) (sym is) (0, omega arith, refl)
giver_all k b i t m u met (GiveFails n) is may = subst (λ x. Contains (of_giver m u) (GiveFails x)) (sym is) (1, omega arith, refl)
giver_all k b i t m u met (GiveKept n) is may = subst (λ x. Contains (of_giver m u) (GiveKept x)) (sym is) (2, omega arith, refl)
giver_all k b i t m u met (EntryInterrupted side) is may = subst (λ x. Contains (of_giver m u) (EntryInterrupted x)) (sym is) (3, omega arith, refl)
giver_all k b i t m u met (GiveMeets n v) is may =
    subst (λ x. Contains (of_giver m u) (GiveMeets x v)) (sym is) (subst (λ x. Contains (of_giver m u) (GiveMeets m x)) (met v None may.1) (4, omega arith, refl))
giver_all k b i t m u met TakeWaits is may = absurd is
giver_all k b i t m u met (TakeMeets n v) is may = absurd is
giver_all k b i t m u met TakeFails is may = absurd is
giver_all k b i t m u met Done is may = absurd is
giver_all k b i t m u met (Got n v) is may = absurd is
giver_all k b i t m u met (Withdrawn cause) is may = absurd is
giver_all k b i t m u met (Interrupt j) is may = absurd is

-- of a taker that would meet this giver, if any, whose item has this mark
abbrev pub of_taker : (giver mark : ℕ) → List Deed
of_taker u m = TakeWaits ∷ TakeFails ∷ EntryInterrupted Taker ∷ TakeMeets m u ∷ []

pub taker_own : (u m : ℕ) → AllByRecursion (Answers Take) (of_taker u m)
taker_own u m = (tt, (tt, (refl, (tt, tt))))

pub taker_all : (k : Kind) (b : Based) (i t u m : ℕ) → ((ticket : ℕ) (item : Option ℕ) → Finds k b.line Taker ticket item → (u ≡ ticket) × IfSome item (λ mark. m ≡ mark)) →
    (deed : Deed) → Answers Take deed → Allows k (moment_of_base b).seats i t deed → Contains (of_taker u m) deed
taker_all k b i t u m met TakeWaits is may = (0, omega arith, refl)
taker_all k b i t u m met TakeFails is may = (1, omega arith, refl)
taker_all k b i t u m met (EntryInterrupted side) is may = subst (λ x. Contains (of_taker u m) (EntryInterrupted x)) (sym is) (2, omega arith, refl)
taker_all k b i t u m met (TakeMeets n v) is may =
    let found = met v (Some n) may.1 in subst (λ x. Contains (of_taker u m) (TakeMeets n x)) found.0 (subst (λ x. Contains (of_taker u m) (TakeMeets x u)) found.1 (3, omega arith, refl))
taker_all k b i t u m met (GiveWaits n) is may = absurd is
taker_all k b i t u m met (GiveMeets n v) is may = absurd is
taker_all k b i t u m met (GiveFails n) is may = absurd is
taker_all k b i t u m met (GiveKept n) is may = absurd is
taker_all k b i t u m met Done is may = absurd is
taker_all k b i t u m met (Got n v) is may = absurd is
taker_all k b i t u m met (Withdrawn cause) is may = absurd is
taker_all k b i t u m met (Interrupt j) is may = absurd is

-- of a seat that ends its ticket, which met this giver, if any, whose item has this mark
abbrev pub of_ending : (giver mark : ℕ) → List Deed
of_ending u m = Done ∷ Withdrawn Cancelled ∷ Withdrawn Expired ∷ Withdrawn Interrupted ∷ Got m u ∷ []

pub ending_own : (u m : ℕ) → AllByRecursion (Answers End) (of_ending u m)
ending_own u m = (tt, (tt, (tt, (tt, (tt, tt)))))

pub ending_all : (k : Kind) (b : Based) (i t u m : ℕ) → ((ticket giver mark : ℕ) → (moment_of_base b).seats.holds i ≡ Served ticket giver mark → (u ≡ giver) × (m ≡ mark)) →
    (deed : Deed) → Answers End deed → Allows k (moment_of_base b).seats i t deed → Contains (of_ending u m) deed
ending_all k b i t u m met Done is may = (0, omega arith, refl)
ending_all k b i t u m met (Withdrawn Cancelled) is may = (1, omega arith, refl)
ending_all k b i t u m met (Withdrawn Expired) is may = (2, omega arith, refl)
ending_all k b i t u m met (Withdrawn Interrupted) is may = (3, omega arith, refl)
ending_all k b i t u m met (Got n v) is may =
    let found = met t v n may in subst (λ x. Contains (of_ending u m) (Got n x)) found.0 (subst (λ x. Contains (of_ending u m) (Got x u)) found.1 (4, omega arith, refl))
ending_all k b i t u m met (GiveWaits n) is may = absurd is
ending_all k b i t u m met (GiveMeets n v) is may = absurd is
ending_all k b i t u m met (GiveFails n) is may = absurd is
ending_all k b i t u m met (GiveKept n) is may = absurd is
ending_all k b i t u m met TakeWaits is may = absurd is
ending_all k b i t u m met (TakeMeets n v) is may = absurd is
ending_all k b i t u m met TakeFails is may = absurd is
ending_all k b i t u m met (EntryInterrupted side) is may = absurd is
ending_all k b i t u m met (Interrupt j) is may = absurd is

-- of an interrupt
pub interrupt_own : (j : ℕ) → AllByRecursion (Answers (ToInterrupt j)) (Interrupt j ∷ [])
interrupt_own j = (refl, tt)

pub interrupt_all : (j : ℕ) (deed : Deed) → Answers (ToInterrupt j) deed → Contains (Interrupt j ∷ []) deed
interrupt_all j (Interrupt i) is = subst (λ x. Contains (Interrupt j ∷ []) (Interrupt x)) (sym is) (0, omega arith, refl)
interrupt_all j (GiveWaits n) is = absurd is
interrupt_all j (GiveMeets n v) is = absurd is
interrupt_all j (GiveFails n) is = absurd is
interrupt_all j (GiveKept n) is = absurd is
interrupt_all j TakeWaits is = absurd is
interrupt_all j (TakeMeets n v) is = absurd is
interrupt_all j TakeFails is = absurd is
interrupt_all j (EntryInterrupted side) is = absurd is
interrupt_all j Done is = absurd is
interrupt_all j (Got n v) is = absurd is
interrupt_all j (Withdrawn cause) is = absurd is
