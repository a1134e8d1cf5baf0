-- Proof of `whole`, src/checkpoints.rt. Where no seat makes a checkpoint, nothing is folded away.
use Rattle.std.proofs.Common.{◌≡◌, ℕ, List, [], ◌∷◌, ◌++◌, length, Some, Ok, Err, refl, ap, ◌∙◌, arith}
use Rattle.std.specs.Prelude.{slice_get, Result, IfOk}
use Rattle.meet_tickets.specs.declared.places.End.TheVariants.{Front}
use Rattle.meet_tickets.specs.declared.places.Kind.{Kind}
use Rattle.meet_tickets.specs.declared.records.Deed.{Deed}
use Rattle.meet_core.specs.QueueSteps.{kind_of}
use Rattle.meet_place.specs.Seats.{SeatView, PendingView, AreFresh}
use Rattle.meet_place.specs.Backs.{folded_in}
use Rattle.meet_place.specs.declared.seats.Back.{Back}
use Rattle.meet_place.specs.declared.seats.Back.TheVariants.{Held}
use Rattle.meet_sync.specs.Asking.{AskedAs}
use Rattle.meet_sync.specs.declared.asked.Request.{Request}
use Rattle.meet_sync.specs.declared.asked.Request.TheVariants.{Give}
use Rattle.meet_sync.specs.declared.asked.Asked.{Asked}
use Rattle.meet_sync.specs.declared.asked.Asked.TheVariants.{Settled, Parked}
use Rattle.meet_sync_tests.proofs.checkpoints.whole.Goals as goal

last_of : {A : Type 0} (xs : List A) (x : A) → slice_get (xs ++ x ∷ []) (length xs) ≡ Some x
last_of [] x = refl
last_of (y ∷ xs) x = last_of xs x

-- a new seat has folded nothing away
none_folded : {D : Type 0} (all xs : List (SeatView D)) (s : SeatView D) → AreFresh all → all ≡ xs ++ s ∷ []
    → s.past.folded ≡ 0
none_folded all xs s fresh e = (fresh (length xs) s (ap (λ l. slice_get l (length xs)) e ∙ last_of xs s)).3

same_parked : (T N E : Type 0) (q p : PendingView Deed) (a b : Asked T N) (r s : Result (Asked T N) E) → a ≡ Parked q
    → b ≡ Parked p → r ≡ Ok a → s ≡ Ok b → r ≡ s → p ≡ q
same_parked T N E q p a b r s is-a is-b is-r is-s e = cc

-- a request that waits leaves its seat what it has behind it
parked_past : {T N E : Type 0} (k : Kind) (mark : T → ℕ) (seat : SeatView Deed) (request : Request T) (r : Result (Asked T N) E)
    (p : PendingView Deed) → r ≡ Ok (Parked p) → IfOk r (λ asked. AskedAs k mark seat request asked) → p.past ≡ seat.past
parked_past k mark seat request (Ok (Parked q)) p is asked = ap (λ s. s.past) (same_parked _ _ _ q p (Parked q) (Parked p) (Ok (Parked q)) (Ok (Parked p)) refl refl refl refl is) ∙ asked.0.1
parked_past k mark seat request (Ok (Settled after answer)) p is asked = absurd (cc)
parked_past k mark seat request (Err why) p is asked = absurd (cc)

one_held : (D N : Type 0) (seats : List (Back D N)) (p : PendingView D) → seats ≡ Held p ∷ []
    → folded_in seats ≡ p.past.folded
one_held D N seats p e = let h = ap (folded_in {D = D} {N = N}) e in omega (arith, h)

pub returns-in-Ok-close : goal.returns-in-Ok-close
returns-in-Ok-close g c =
    let new : c.in-Some.seat.past.folded ≡ 0 =
    none_folded _ c.pop.new.self.items c.in-Some.seat c.in-Ok.ensures.numbers c.in-Some.ensures.items in
    let parked : c.in-Ok-Parked.seat.past ≡ c.in-Some.seat.past =
    let one = c.in-Ok-Parked.is in
    let two = c.in-Ok-Parked.field-0-is in
    let is : c.request.result ≡ Ok (Parked c.in-Ok-Parked.seat) = cc in
    parked_past (kind_of Front) (λ (n : ℕ). n) c.in-Some.seat (Give 1) c.request.result c.in-Ok-Parked.seat is c.request.ensures.asked in
    let same : c.in-Ok-Parked.seat.past.folded ≡ c.in-Some.seat.past.folded = ap (λ p. p.folded) parked in
    let all = one_held _ _ c.push_reserved.new.self.items c.in-Ok-Parked.seat
    (c.push_reserved.ensures.items ∙ ap (λ l. l ++ Held c.in-Ok-Parked.seat ∷ []) c.in-Ok-with_capacity.ensures.items) in
    let gone = c.in-Ok-close.ensures.folded in
    c.in-Ok-close.ensures.history.chapter.first (omega (arith, all, gone, same, new))
