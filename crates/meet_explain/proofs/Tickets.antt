-- With which ticket an answer may come.
use Rattle.std.proofs.Common.{◌≡◌, ℕ, ◌<◌, ◌≤◌, refl, sym, ap, ◌∙◌, subst, true, Some}
use Rattle.std.specs.Prelude.{IfSome}
use Rattle.meet_tickets.specs.declared.places.Kind.{Kind}
use Rattle.meet_tickets.specs.declared.lines.Hold.{Hold}
use Rattle.meet_tickets.specs.declared.lines.Hold.TheVariants.{Free, Waiting, Handed, Served, Cut}
use Rattle.meet_tickets.specs.declared.records.Cause.TheVariants.{Cancelled, Expired, Interrupted}
use Rattle.meet_tickets.specs.declared.records.Deed.{Deed}
use Rattle.meet_tickets.specs.declared.records.Deed.TheVariants.{GiveWaits, GiveMeets, GiveFails, GiveKept, TakeWaits}
use Rattle.meet_tickets.specs.declared.records.Deed.TheVariants.{TakeMeets, TakeFails, EntryInterrupted, Done, Got}
use Rattle.meet_tickets.specs.declared.records.Deed.TheVariants.{Withdrawn, Interrupt}
use Rattle.meet_tickets.specs.Bases.{Based, moment_of_base}
use Rattle.meet_tickets.specs.BySeat.{Seats, Allows, cut_ticket, is_request, open_ticket}
use Rattle.meet_tickets.specs.Limits.{last_ticket}
use Rattle.meet_explain.specs.Answers.{Answers, MayCome, IsBest}
use Rattle.meet_explain.specs.declared.coming.attempts.Attempt.TheVariants.{Give, Take, End, Interrupt as ToInterrupt}

-- a request is allowed with whatever ticket
request_allowed : (k : Kind) (s : Seats ℕ) (i t u : ℕ) (deed : Deed) → is_request deed ≡ true → Allows k s i t deed → Allows k s i u deed
request_allowed k s i t u (GiveWaits m) is may = may
request_allowed k s i t u (GiveMeets m v) is may = may
request_allowed k s i t u (GiveFails m) is may = may
request_allowed k s i t u (GiveKept m) is may = may
request_allowed k s i t u TakeWaits is may = may
request_allowed k s i t u (TakeMeets m v) is may = may
request_allowed k s i t u TakeFails is may = may
request_allowed k s i t u (EntryInterrupted side) is may = may
request_allowed k s i t u Done is may = absurd (cc)
request_allowed k s i t u (Got m v) is may = absurd (cc)
request_allowed k s i t u (Withdrawn cause) is may = absurd (cc)
request_allowed k s i t u (Interrupt j) is may = absurd (cc)

-- so it may come with a new one
request_best : (k : Kind) (b : Based) (i t u : ℕ) (deed : Deed) → is_request deed ≡ true → (b.last < t → b.last < u) → MayCome k b i t deed → MayCome k b i u deed
request_best k b i t u deed is new may = record {
  above = λ asks. new (may.above asks);
  allowed = request_allowed k (moment_of_base b).seats i t u deed is may.allowed;
}

giver_asks : (m : ℕ) (deed : Deed) → Answers (Give m) deed → is_request deed ≡ true
giver_asks m (GiveWaits n) is = refl
giver_asks m (GiveMeets n v) is = refl
giver_asks m (GiveFails n) is = refl
giver_asks m (GiveKept n) is = refl
giver_asks m (EntryInterrupted side) is = refl
giver_asks m TakeWaits is = absurd is
giver_asks m (TakeMeets n v) is = absurd is
giver_asks m TakeFails is = absurd is
giver_asks m Done is = absurd is
giver_asks m (Got n v) is = absurd is
giver_asks m (Withdrawn cause) is = absurd is
giver_asks m (Interrupt j) is = absurd is

taker_asks : (deed : Deed) → Answers Take deed → is_request deed ≡ true
taker_asks (GiveWaits n) is = absurd is
taker_asks (GiveMeets n v) is = absurd is
taker_asks (GiveFails n) is = absurd is
taker_asks (GiveKept n) is = absurd is
taker_asks (EntryInterrupted side) is = refl
taker_asks TakeWaits is = refl
taker_asks (TakeMeets n v) is = refl
taker_asks TakeFails is = refl
taker_asks Done is = absurd is
taker_asks (Got n v) is = absurd is
taker_asks (Withdrawn cause) is = absurd is
taker_asks (Interrupt j) is = absurd is

pub giver_best : (k : Kind) (b : Based) (i m u : ℕ) → ((t : ℕ) → t ≤ last_ticket → b.last < t → b.last < u) → IsBest k b i (Give m) u
giver_best k b i m u new t deed small is may = request_best k b i t u deed (giver_asks m deed is) (new t small) may

pub taker_best : (k : Kind) (b : Based) (i u : ℕ) → ((t : ℕ) → t ≤ last_ticket → b.last < t → b.last < u) → IsBest k b i Take u
taker_best k b i u new t deed small is may = request_best k b i t u deed (taker_asks deed is) (new t small) may

-- an ending is of the open ticket
opened : (h : Hold ℕ) (t : ℕ) (u : ℕ) → IfSome (open_ticket h) (λ own. u ≡ own) → open_ticket h ≡ Some t → t ≡ u
opened Free t u is opens = absurd (cc)
opened (Waiting x) t u is opens = let same : x ≡ t = cc in sym (is ∙ same)
opened (Handed x v mark) t u is opens = let same : x ≡ t = cc in sym (is ∙ same)
opened (Served x v mark) t u is opens = let same : x ≡ t = cc in sym (is ∙ same)
opened (Cut x item) t u is opens = let same : x ≡ t = cc in sym (is ∙ same)

pub ending_best : (k : Kind) (b : Based) (i u : ℕ) → IfSome (open_ticket ((moment_of_base b).seats.holds i)) (λ own. u ≡ own) → IsBest k b i End u
ending_best k b i u is t Done small ends may = subst (λ x. MayCome k b i x Done) (opened ((moment_of_base b).seats.holds i) t u is (ap open_ticket may.allowed.2)) may
ending_best k b i u is t (Got n v) small ends may = subst (λ x. MayCome k b i x (Got n v)) (opened ((moment_of_base b).seats.holds i) t u is (ap open_ticket may.allowed)) may
ending_best k b i u is t (Withdrawn Cancelled) small ends may = subst (λ x. MayCome k b i x (Withdrawn Cancelled)) (opened ((moment_of_base b).seats.holds i) t u is (ap open_ticket may.allowed.0)) may
ending_best k b i u is t (Withdrawn Expired) small ends may = subst (λ x. MayCome k b i x (Withdrawn Expired)) (opened ((moment_of_base b).seats.holds i) t u is (ap open_ticket may.allowed.0)) may
ending_best k b i u is t (Withdrawn Interrupted) small ends may = subst (λ x. MayCome k b i x (Withdrawn Interrupted)) (opened ((moment_of_base b).seats.holds i) t u is (ap open_ticket may.allowed.1)) may
ending_best k b i u is t (GiveWaits n) small ends may = absurd ends
ending_best k b i u is t (GiveMeets n v) small ends may = absurd ends
ending_best k b i u is t (GiveFails n) small ends may = absurd ends
ending_best k b i u is t (GiveKept n) small ends may = absurd ends
ending_best k b i u is t TakeWaits small ends may = absurd ends
ending_best k b i u is t (TakeMeets n v) small ends may = absurd ends
ending_best k b i u is t TakeFails small ends may = absurd ends
ending_best k b i u is t (EntryInterrupted side) small ends may = absurd ends
ending_best k b i u is t (Interrupt j) small ends may = absurd ends

-- an interrupt names the ticket that it cuts
pub interrupt_best : (k : Kind) (b : Based) (i j u : ℕ) → (cut_ticket (moment_of_base b).seats j ≤ last_ticket → u ≡ cut_ticket (moment_of_base b).seats j) → IsBest k b i (ToInterrupt j) u
interrupt_best k b i j u is t (Interrupt x) small interrupts may =
    let here : t ≡ cut_ticket (moment_of_base b).seats j = may.allowed ∙ ap (cut_ticket (moment_of_base b).seats) interrupts in
    subst (λ y. MayCome k b i y (Interrupt x)) (here ∙ sym (is (subst (λ y. y ≤ last_ticket) here small))) may
interrupt_best k b i j u is t (GiveWaits n) small interrupts may = absurd interrupts
interrupt_best k b i j u is t (GiveMeets n v) small interrupts may = absurd interrupts
interrupt_best k b i j u is t (GiveFails n) small interrupts may = absurd interrupts
interrupt_best k b i j u is t (GiveKept n) small interrupts may = absurd interrupts
interrupt_best k b i j u is t TakeWaits small interrupts may = absurd interrupts
interrupt_best k b i j u is t (TakeMeets n v) small interrupts may = absurd interrupts
interrupt_best k b i j u is t TakeFails small interrupts may = absurd interrupts
interrupt_best k b i j u is t (EntryInterrupted side) small interrupts may = absurd interrupts
interrupt_best k b i j u is t Done small interrupts may = absurd interrupts
interrupt_best k b i j u is t (Got n v) small interrupts may = absurd interrupts
interrupt_best k b i j u is t (Withdrawn cause) small interrupts may = absurd interrupts
