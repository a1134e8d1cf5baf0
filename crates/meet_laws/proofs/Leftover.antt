-- The items that are left, counted: those that are kept, and the others, which are offered or await a taker.
use Rattle.std.proofs.Common.{◌≡◌, ◌≢◌, ◌⊎◌, ℕ, ◌+◌, ◌==◌, refl, sym, ap, ◌∙◌, subst, inl, inr, ⊎_elim, Bool, true, false, not, ◌&&◌, ◌||◌, if◌then◌else◌, Option, Some, None, is_some, option_map, List, [], ◌∷◌, map, filter, length, Contains, arith}
use Rattle.std.specs.Prelude.{count_by, option_and_then}
use Rattle.std.specs.Option.{option_map_or}
use Rattle.std.proofs.lemmas.Bool.{eq-eqb, ne_eqb, eqb-true, true≢false, false≢true, false_from_ne_true}
use Rattle.std.proofs.lemmas.List.{length-map}
use Rattle.std.proofs.lemmas.List.Sums.{length-filter}
use Rattle.meet_tickets.specs.declared.fates.Fate.{Fate}
use Rattle.meet_tickets.specs.declared.fates.Fate.TheVariants.{Never, Failed, EntryRefused, Paired, Collected}
use Rattle.meet_tickets.specs.declared.fates.Fate.TheVariants.{Withdrawn as WasWithdrawn, Cut, Kept as KeptFate, Waiting, Past}
use Rattle.meet_tickets.specs.declared.records.Record.{Record}
use Rattle.meet_tickets.specs.declared.records.Cause.TheVariants.{Interrupted}
use Rattle.meet_tickets.specs.declared.places.Side.TheVariants.{Giver, Taker}
use Rattle.meet_tickets.specs.declared.records.Deed.{Deed}
use Rattle.meet_tickets.specs.declared.records.Deed.TheVariants.{GiveWaits, GiveMeets, GiveFails, GiveKept, TakeWaits, TakeMeets, TakeFails, EntryInterrupted, Done, Got, Withdrawn, Interrupt}
use Rattle.meet_tickets.specs.Fates.{fate, request_of, has_waited, waits_first, tickets_of, named_by, is_kept}
use Rattle.meet_tickets.proofs.Lists.Changed.{one, times, count-cons, count-none, count-same, count_once}
use Rattle.meet_tickets.proofs.Told.Fated.{Joining, Gives, Keeps, Takes, deed_of, waits_of, only_asked, only_met, only_cut}
use Rattle.meet_tickets.proofs.Lists.Lookups.{AreKeyed, keyed_from, map_keyed, keyed_filter, Contains-mapped, Contains-map}
use Rattle.meet_tickets.proofs.Lists.Members.{Contains-first, Contains-rest, Contains-cases, Contains-nil, Contains-filter, Contains-unfiltered, filtered_passes}
use Rattle.meet_tickets.proofs.Told.Said.{Said, said, fate_of, fate_is}
use Rattle.meet_core.specs.declared.left.LeftStanding.{LeftStanding}
use Rattle.meet_core.specs.declared.left.LeftStanding.TheVariants.{Offered, Kept, Ready}
use Rattle.meet_core.specs.LeftTold.{Leaving, standing_waited, standing_kept, standing_met, left_asked, left_told, AreLeft}
use Rattle.meet_laws.specs.Tally.{gives, is_offered, stands_kept}
use Rattle.meet_laws.proofs.Speaking.{Meets, given, taken, fetched, Speaks}
use Rattle.meet_laws.proofs.Told.{Course, unasked, has_asked, has_met, has_learned, has_left, was_cut, has_returned, course_of, IsMetBy, met_asked}
use Rattle.meet_laws.proofs.Couples.{request_found, meeting_found, couple}
use Rattle.meet_laws.proofs.Weighing.{weigh, Once, once_all}
use Rattle.meet_laws.proofs.Tallied.{gave_so, awaits, is_take_waits}

-- the test without this number
abbrev but : (ℕ → Bool) → ℕ → ℕ → Bool
but p k x = p x && not (x == k)

and_true : (b : Bool) → (b && true) ≡ b
and_true true = refl
and_true false = refl

and_false : (b : Bool) → (b && false) ≡ false
and_false true = refl
and_false false = refl

but_other : (p : ℕ → Bool) (k x : ℕ) → x ≢ k → but p k x ≡ p x
but_other p k x other = ap (λ b. p x && not b) (ne_eqb x k other) ∙ and_true (p x)

but_own : (p : ℕ → Bool) (k : ℕ) → but p k k ≡ false
but_own p k = ap (λ b. p k && not b) (eq-eqb k k refl) ∙ and_false (p k)

and_first : (a b : Bool) → (a && b) ≡ true → a ≡ true
and_first true b both = refl
and_first false b both = both

counted_but : (p : ℕ → Bool) (k : ℕ) (xs : List ℕ) → times k xs ≡ 1 → p k ≡ true → count_by (but p k) xs + 1 ≡ count_by p xs
counted_but p k xs once is =
    let changed = count_once (but p k) p k (λ x other. but_other p k x other) xs once in
    let here : ◌≡◌ {A = ℕ} (one (p k)) 1 = ap one is in
    let none : ◌≡◌ {A = ℕ} (one (but p k k)) 0 = ap one (but_own p k) in
    omega (arith, changed, here, none)

-- numbers that pass a test, each once, are as many as a list without repeats of just these
count_listed : (p : ℕ → Bool) (numbers these : List ℕ) → ((x : ℕ) → p x ≡ true → times x numbers ≡ 1) → AreKeyed (λ x. x) these → ((x : ℕ) → Contains these x → p x ≡ true) → ((x : ℕ) → p x ≡ true → Contains these x) → count_by p numbers ≡ length these
count_listed p numbers [] once keyed pass listed = count-same p (λ x. false) (λ x. false_from_ne_true (p x) (λ is. Contains-nil x (listed x is))) numbers ∙ count-none numbers
count_listed p numbers (y ∷ these) once keyed pass listed =
    let first = pass y (Contains-first y these) in
    let less = counted_but p y numbers (once y first) first in
    let rest = count_listed (but p y) numbers these (λ x is. once x (and_first (p x) (not (x == y)) is)) keyed.1
    (λ x there. but_other p y x (keyed.0 x there) ∙ pass x (Contains-rest y these x there))
    (λ x is. ⊎_elim (λ same. absurd (true≢false (sym is ∙ ap (but p y) (sym same) ∙ but_own p y))) (λ there. there) (Contains-cases y these x (listed x (and_first (p x) (not (x == y)) is)))) in
    omega (arith, less, rest)

-- numbers told apart by one key are so by another that is the same for none of them
keyed_by : {X : Type 0} (key other : X → ℕ) (xs : List X) → AreKeyed key xs → ((x y : X) → Contains xs x → Contains xs y → other x ≡ other y → key x ≡ key y) → AreKeyed other xs
keyed_by key other [] keyed same = tt
keyed_by key other (x ∷ xs) keyed same = (
  λ y m e. keyed.0 y m (same y x (Contains-rest x xs y m) (Contains-first x xs) e),
  keyed_by key other xs keyed.1 (λ y z m n e. same y z (Contains-rest x xs y m) (Contains-rest x xs z n) e),
)

-- how an item that is left stands, by the records
pub data Row (history : List (Record Deed)) (a : Leaving) : Type 0 where
  offered : (m : ℕ) → request_of history a.ticket ≡ Some (GiveWaits m) → fate history a.ticket ≡ Waiting → stands_kept a.standing ≡ false → Row history a
  cut_off : (m : ℕ) → request_of history a.ticket ≡ Some (GiveWaits m) → fate history a.ticket ≡ Cut → stands_kept a.standing ≡ false → Row history a
  kept : (m : ℕ) → request_of history a.ticket ≡ Some (GiveKept m) → fate history a.ticket ≡ KeptFate → stands_kept a.standing ≡ true → Row history a
  ready : (m u : ℕ) → request_of history a.ticket ≡ Some (GiveMeets m u) → fate history u ≡ Paired a.ticket → stands_kept a.standing ≡ false → Row history a

-- what stands so
mapped_standing : (t m : ℕ) (o : Option LeftStanding) (a : Leaving) → option_map (λ s. record { ticket = t; mark = m; standing = s }) o ≡ Some a → o ≡ Some a.standing
mapped_standing t m None a e = absurd (cc)
mapped_standing t m (Some s) a e = let same : record { ticket = t; mark = m; standing = s } ≡ a = cc in ap (λ (x : Leaving). Some x.standing) same

waited_standing : (x : Fate) (s : LeftStanding) → standing_waited x ≡ Some s → ((x ≡ Waiting) × (stands_kept s ≡ false)) ⊎ ((x ≡ Cut) × (stands_kept s ≡ false))
waited_standing Never s e = absurd (cc)
waited_standing Failed s e = absurd (cc)
waited_standing EntryRefused s e = absurd (cc)
waited_standing (Paired u) s e = absurd (cc)
waited_standing (Collected u) s e = absurd (cc)
waited_standing (WasWithdrawn c) s e = absurd (cc)
waited_standing Cut s e = let same : Ready ≡ s = cc in inr (refl, ap stands_kept (sym same))
waited_standing KeptFate s e = absurd (cc)
waited_standing Waiting s e = let same : Offered ≡ s = cc in inl (refl, ap stands_kept (sym same))
waited_standing Past s e = absurd (cc)

kept_standing : (x : Fate) (s : LeftStanding) → standing_kept x ≡ Some s → (x ≡ KeptFate) × (stands_kept s ≡ true)
kept_standing Never s e = absurd (cc)
kept_standing Failed s e = absurd (cc)
kept_standing EntryRefused s e = absurd (cc)
kept_standing (Paired u) s e = absurd (cc)
kept_standing (Collected u) s e = absurd (cc)
kept_standing (WasWithdrawn c) s e = absurd (cc)
kept_standing Cut s e = absurd (cc)
kept_standing KeptFate s e = let same : Kept ≡ s = cc in (refl, ap stands_kept (sym same))
kept_standing Waiting s e = absurd (cc)
kept_standing Past s e = absurd (cc)

met_standing : (t : ℕ) (x : Fate) (s : LeftStanding) → standing_met t x ≡ Some s → (x ≡ Paired t) × (stands_kept s ≡ false)
met_standing t Never s e = absurd (cc)
met_standing t Failed s e = absurd (cc)
met_standing t EntryRefused s e = absurd (cc)
met_standing t (Paired u) s e = by_test (u == t) refl e
  where
    by_test : (b : Bool) → (u == t) ≡ b → (if b then Some Ready else None) ≡ Some s → (Paired u ≡ Paired t) × (stands_kept s ≡ false)
    by_test true is f = let same : Ready ≡ s = cc in (ap Paired (eqb-true u t is), ap stands_kept (sym same))
    by_test false is f = absurd (cc)
met_standing t (Collected u) s e = absurd (cc)
met_standing t (WasWithdrawn c) s e = absurd (cc)
met_standing t Cut s e = absurd (cc)
met_standing t KeptFate s e = absurd (cc)
met_standing t Waiting s e = absurd (cc)
met_standing t Past s e = absurd (cc)

pub row_of : (history : List (Record Deed)) (a : Leaving) → left_told history a.ticket ≡ Some a → Row history a
row_of history a e = by_request (request_of history a.ticket) refl e
  where
    by_deed : (d : Deed) → request_of history a.ticket ≡ Some d → left_asked history a.ticket d ≡ Some a → Row history a
    by_deed (GiveWaits m) is f =
        ⊎_elim (λ x. offered m is x.0 x.1) (λ x. cut_off m is x.0 x.1) (waited_standing (fate history a.ticket) a.standing (mapped_standing a.ticket m (standing_waited (fate history a.ticket)) a f))
    by_deed (GiveMeets m u) is f = by_wait (has_waited history u) f
      where
        by_wait : (b : Bool) → (if b then option_map (λ s. record { ticket = a.ticket; mark = m; standing = s }) (standing_met a.ticket (fate history u)) else None) ≡ Some a → Row history a
        by_wait true g = let x = met_standing a.ticket (fate history u) a.standing (mapped_standing a.ticket m (standing_met a.ticket (fate history u)) a g) in ready m u is x.0 x.1
        by_wait false g = absurd (cc)
    by_deed (GiveFails m) is f = absurd (cc)
    by_deed (GiveKept m) is f = let x = kept_standing (fate history a.ticket) a.standing (mapped_standing a.ticket m (standing_kept (fate history a.ticket)) a f) in kept m is x.0 x.1
    by_deed TakeWaits is f = absurd (cc)
    by_deed (TakeMeets m u) is f = absurd (cc)
    by_deed TakeFails is f = absurd (cc)
    by_deed (EntryInterrupted side) is f = absurd (cc)
    by_deed Done is f = absurd (cc)
    by_deed (Got m u) is f = absurd (cc)
    by_deed (Withdrawn c) is f = absurd (cc)
    by_deed (Interrupt i) is f = absurd (cc)

    by_request : (o : Option Deed) → request_of history a.ticket ≡ o → option_and_then (left_asked history a.ticket) o ≡ Some a → Row history a
    by_request None is f = absurd (cc)
    by_request (Some d) is f = by_deed d is f

-- the ticket that an item waits on: its giver's, or that of the taker that met it
abbrev counterpart_of : (ticket : ℕ) → Deed → ℕ
counterpart_of t (GiveMeets m u) = u
counterpart_of t deed = t

abbrev counterpart : List (Record Deed) → Leaving → ℕ
counterpart history a = option_map_or (counterpart_of a.ticket) (request_of history a.ticket) a.ticket

-- a ticket whose item is kept, or is offered; deed by deed
kept_request : (d : Deed) → gave_so is_kept (only_asked d) ≡ true → (m : ℕ) × (d ≡ GiveKept m)
kept_request (GiveWaits m) e = absurd (false≢true e)
kept_request (GiveMeets m u) e = absurd (false≢true e)
kept_request (GiveFails m) e = absurd (false≢true e)
kept_request (GiveKept m) e = (m, refl)
kept_request TakeWaits e = absurd (false≢true e)
kept_request (TakeMeets m u) e = absurd (false≢true e)
kept_request TakeFails e = absurd (false≢true e)
kept_request (EntryInterrupted Giver) e = absurd (false≢true e)
kept_request (EntryInterrupted Taker) e = absurd (false≢true e)
kept_request Done e = absurd (false≢true e)
kept_request (Got m u) e = absurd (false≢true e)
kept_request (Withdrawn c) e = absurd (false≢true e)
kept_request (Interrupt i) e = absurd (false≢true e)

offered_request : (d : Deed) → gave_so is_offered (only_asked d) ≡ true → (m : ℕ) × (d ≡ GiveWaits m)
offered_request (GiveWaits m) e = (m, refl)
offered_request (GiveMeets m u) e = absurd (false≢true e)
offered_request (GiveFails m) e = absurd (false≢true e)
offered_request (GiveKept m) e = absurd (false≢true e)
offered_request TakeWaits e = absurd (false≢true e)
offered_request (TakeMeets m u) e = absurd (false≢true e)
offered_request TakeFails e = absurd (false≢true e)
offered_request (EntryInterrupted Giver) e = absurd (false≢true e)
offered_request (EntryInterrupted Taker) e = absurd (false≢true e)
offered_request Done e = absurd (false≢true e)
offered_request (Got m u) e = absurd (false≢true e)
offered_request (Withdrawn c) e = absurd (false≢true e)
offered_request (Interrupt i) e = absurd (false≢true e)

-- which tickets are kept by what is said of them
kept_said : (x : Said) → Course x → gave_so is_kept x ≡ true → (m : ℕ) × (x ≡ only_asked (GiveKept m))
kept_said x (unasked e) is = absurd (false≢true (subst (λ y. gave_so is_kept y ≡ true) e is))
kept_said x (has_asked d request e) is = let k = kept_request d (subst (λ y. gave_so is_kept y ≡ true) e is) in (k.0, e ∙ ap only_asked k.1)
kept_said x (has_met j u e) is = absurd (by_join j (subst (λ y. gave_so is_kept y ≡ true) e is))
  where
    by_join : (j : Joining) → gave_so is_kept (only_met j u) ≡ true → ⊥
    by_join (Gives m) f = false≢true f
    by_join (Keeps m) f = false≢true f
    by_join Takes f = false≢true f
kept_said x (has_learned j u waits e) is = absurd (by_join j (subst (λ y. gave_so is_kept y ≡ true) e is))
  where
    by_join : (j : Joining) → gave_so is_kept (record (only_met j u) { learned = true }) ≡ true → ⊥
    by_join (Gives m) f = false≢true f
    by_join (Keeps m) f = false≢true f
    by_join Takes f = false≢true f
kept_said x (has_left j c l waits e) is = absurd (by_join j (subst (λ y. gave_so is_kept y ≡ true) e is))
  where
    by_join : (j : Joining) → gave_so is_kept (record (only_asked (deed_of j)) { back = Some c }) ≡ true → ⊥
    by_join (Gives m) f = false≢true f
    by_join (Keeps m) f = false≢true f
    by_join Takes f = false≢true f
kept_said x (was_cut j waits e) is = absurd (by_join j (subst (λ y. gave_so is_kept y ≡ true) e is))
  where
    by_join : (j : Joining) → gave_so is_kept (only_cut j) ≡ true → ⊥
    by_join (Gives m) f = false≢true f
    by_join (Keeps m) f = false≢true f
    by_join Takes f = false≢true f
kept_said x (has_returned j waits e) is = absurd (by_join j (subst (λ y. gave_so is_kept y ≡ true) e is))
  where
    by_join : (j : Joining) → gave_so is_kept (record (only_cut j) { back = Some Interrupted }) ≡ true → ⊥
    by_join (Gives m) f = false≢true f
    by_join (Keeps m) f = false≢true f
    by_join Takes f = false≢true f

-- which are offered: the giver waits, or was cut
abbrev IsOffer : Said → Type 0
IsOffer x = (m : ℕ) × ((x ≡ only_asked (GiveWaits m)) ⊎ (x ≡ only_cut (Gives m)))

offered_said : (x : Said) → Course x → gave_so is_offered x ≡ true → IsOffer x
offered_said x (unasked e) is = absurd (false≢true (subst (λ y. gave_so is_offered y ≡ true) e is))
offered_said x (has_asked d request e) is = let k = offered_request d (subst (λ y. gave_so is_offered y ≡ true) e is) in (k.0, inl (e ∙ ap only_asked k.1))
offered_said x (has_met j u e) is = absurd (by_join j (subst (λ y. gave_so is_offered y ≡ true) e is))
  where
    by_join : (j : Joining) → gave_so is_offered (only_met j u) ≡ true → ⊥
    by_join (Gives m) f = false≢true f
    by_join (Keeps m) f = false≢true f
    by_join Takes f = false≢true f
offered_said x (has_learned j u waits e) is = absurd (by_join j (subst (λ y. gave_so is_offered y ≡ true) e is))
  where
    by_join : (j : Joining) → gave_so is_offered (record (only_met j u) { learned = true }) ≡ true → ⊥
    by_join (Gives m) f = false≢true f
    by_join (Keeps m) f = false≢true f
    by_join Takes f = false≢true f
offered_said x (has_left j c l waits e) is = absurd (by_join j (subst (λ y. gave_so is_offered y ≡ true) e is))
  where
    by_join : (j : Joining) → gave_so is_offered (record (only_asked (deed_of j)) { back = Some c }) ≡ true → ⊥
    by_join (Gives m) f = false≢true f
    by_join (Keeps m) f = false≢true f
    by_join Takes f = false≢true f
offered_said x (was_cut j waits e) is = by_join j e waits (subst (λ y. gave_so is_offered y ≡ true) e is)
  where
    by_join : (j : Joining) → x ≡ only_cut j → waits_of j ≡ true → gave_so is_offered (only_cut j) ≡ true → IsOffer x
    by_join (Gives m) e w f = (m, inr e)
    by_join (Keeps m) e w f = absurd (false≢true w)
    by_join Takes e w f = absurd (false≢true f)
offered_said x (has_returned j waits e) is = absurd (by_join j (subst (λ y. gave_so is_offered y ≡ true) e is))
  where
    by_join : (j : Joining) → gave_so is_offered (record (only_cut j) { back = Some Interrupted }) ≡ true → ⊥
    by_join (Gives m) f = false≢true f
    by_join (Keeps m) f = false≢true f
    by_join Takes f = false≢true f

-- which takers were met and haven't learned so
awaits_request : (d : Deed) → awaits (only_asked d) ≡ true → ⊥
awaits_request (GiveWaits m) e = false≢true e
awaits_request (GiveMeets m u) e = false≢true e
awaits_request (GiveFails m) e = false≢true e
awaits_request (GiveKept m) e = false≢true e
awaits_request TakeWaits e = false≢true e
awaits_request (TakeMeets m u) e = false≢true e
awaits_request TakeFails e = false≢true e
awaits_request (EntryInterrupted side) e = false≢true e
awaits_request Done e = false≢true e
awaits_request (Got m u) e = false≢true e
awaits_request (Withdrawn c) e = false≢true e
awaits_request (Interrupt i) e = false≢true e

awaits_said : (x : Said) → Course x → awaits x ≡ true → (u : ℕ) × (x ≡ only_met Takes u)
awaits_said x (unasked e) is = absurd (false≢true (subst (λ y. awaits y ≡ true) e is))
awaits_said x (has_asked d request e) is = absurd (awaits_request d (subst (λ y. awaits y ≡ true) e is))
awaits_said x (has_met j u e) is = by_join j e (subst (λ y. awaits y ≡ true) e is)
  where
    by_join : (j : Joining) → x ≡ only_met j u → awaits (only_met j u) ≡ true → (v : ℕ) × (x ≡ only_met Takes v)
    by_join (Gives m) e f = absurd (false≢true f)
    by_join (Keeps m) e f = absurd (false≢true f)
    by_join Takes e f = (u, e)
awaits_said x (has_learned j u waits e) is = absurd (by_join j (subst (λ y. awaits y ≡ true) e is))
  where
    by_join : (j : Joining) → awaits (record (only_met j u) { learned = true }) ≡ true → ⊥
    by_join (Gives m) f = false≢true f
    by_join (Keeps m) f = false≢true f
    by_join Takes f = false≢true f
awaits_said x (has_left j c l waits e) is = absurd (by_join j (subst (λ y. awaits y ≡ true) e is))
  where
    by_join : (j : Joining) → awaits (record (only_asked (deed_of j)) { back = Some c }) ≡ true → ⊥
    by_join (Gives m) f = false≢true f
    by_join (Keeps m) f = false≢true f
    by_join Takes f = false≢true f
awaits_said x (was_cut j waits e) is = absurd (by_join j (subst (λ y. awaits y ≡ true) e is))
  where
    by_join : (j : Joining) → awaits (only_cut j) ≡ true → ⊥
    by_join (Gives m) f = false≢true f
    by_join (Keeps m) f = false≢true f
    by_join Takes f = false≢true f
awaits_said x (has_returned j waits e) is = absurd (by_join j (subst (λ y. awaits y ≡ true) e is))
  where
    by_join : (j : Joining) → awaits (record (only_cut j) { back = Some Interrupted }) ≡ true → ⊥
    by_join (Gives m) f = false≢true f
    by_join (Keeps m) f = false≢true f
    by_join Takes f = false≢true f

-- a request that meets a taker that waited gives
meets_taker : (d : Deed) (u : ℕ) (j : Joining) → Meets d u j → deed_of j ≡ TakeWaits → (m : ℕ) × (d ≡ GiveMeets m u)
meets_taker d u j (given {m = m}) e = (m, refl)
meets_taker d u j taken e = absurd (cc)
meets_taker d u j fetched e = absurd (cc)

given_joined : (d : Deed) (u : ℕ) (j : Joining) (m : ℕ) → Meets d u j → d ≡ GiveMeets m u → j ≡ Takes
given_joined d u j m given e = refl
given_joined d u j m taken e = absurd (cc)
given_joined d u j m fetched e = absurd (cc)

-- a ticket that passes was asked for
passes_asked : (x : Said) → (gave_so is_offered x || awaits x) ≡ true → is_some x.asked ≡ true
passes_asked x e = by_asked x.asked refl
  where
    by_asked : (o : Option Deed) → x.asked ≡ o → is_some x.asked ≡ true
    by_asked (Some d) is = ap is_some is
    by_asked None is = absurd (false≢true (sym (ap (λ o. (option_map_or gives o false && is_offered (fate_of x)) || (option_map_or is_take_waits o false && (is_some x.met && not x.learned))) is) ∙ e))

gave_asked : (such : Fate → Bool) (x : Said) → gave_so such x ≡ true → is_some x.asked ≡ true
gave_asked such x e = by_asked x.asked refl
  where
    by_asked : (o : Option Deed) → x.asked ≡ o → is_some x.asked ≡ true
    by_asked (Some d) is = ap is_some is
    by_asked None is = absurd (false≢true (sym (ap (λ o. option_map_or gives o false && such (fate_of x)) is) ∙ e))

-- no ticket is both
apart_one : (x : Said) → one (gave_so is_offered x || awaits x) ≡ one (gave_so is_offered x) + one (awaits x)
apart_one x = by_asked x.asked refl
  where
    by_deed : (d : Deed) (a b : Bool) → one ((gives d && a) || (is_take_waits d && b)) ≡ one (gives d && a) + one (is_take_waits d && b)
    by_deed (GiveWaits m) true b = refl
    by_deed (GiveWaits m) false b = refl
    by_deed (GiveMeets m u) true b = refl
    by_deed (GiveMeets m u) false b = refl
    by_deed (GiveFails m) true b = refl
    by_deed (GiveFails m) false b = refl
    by_deed (GiveKept m) true b = refl
    by_deed (GiveKept m) false b = refl
    by_deed TakeWaits a true = refl
    by_deed TakeWaits a false = refl
    by_deed (TakeMeets m u) a b = refl
    by_deed TakeFails a b = refl
    by_deed (EntryInterrupted Giver) true b = refl
    by_deed (EntryInterrupted Giver) false b = refl
    by_deed (EntryInterrupted Taker) a b = refl
    by_deed Done a b = refl
    by_deed (Got m u) a b = refl
    by_deed (Withdrawn c) a b = refl
    by_deed (Interrupt i) a b = refl

    by_asked : (o : Option Deed) → x.asked ≡ o → one (gave_so is_offered x || awaits x) ≡ one (gave_so is_offered x) + one (awaits x)
    by_asked o is = subst (λ y. one ((option_map_or gives y false && is_offered (fate_of x)) || (option_map_or is_take_waits y false && (is_some x.met && not x.learned))) ≡ one (option_map_or gives y false && is_offered (fate_of x)) + one (option_map_or is_take_waits y false && (is_some x.met && not x.learned))) (sym is) (by_option o)
      where
        by_option : (y : Option Deed) → one ((option_map_or gives y false && is_offered (fate_of x)) || (option_map_or is_take_waits y false && (is_some x.met && not x.learned))) ≡ one (option_map_or gives y false && is_offered (fate_of x)) + one (option_map_or is_take_waits y false && (is_some x.met && not x.learned))
        by_option None = refl
        by_option (Some d) = by_deed d (is_offered (fate_of x)) (is_some x.met && not x.learned)

-- tests that exclude each other count together
count_apart_tests : (a b : ℕ → Bool) → ((t : ℕ) → one (a t || b t) ≡ one (a t) + one (b t)) → (ts : List ℕ) → count_by (λ t. a t || b t) ts ≡ count_by a ts + count_by b ts
count_apart_tests a b each [] = refl
count_apart_tests a b each (t ∷ ts) =
    let rest = count_apart_tests a b each ts in
    let here = each t in
    let both = count-cons (λ x. a x || b x) t ts in
    let first = count-cons a t ts in
    let second = count-cons b t ts in
    omega (arith, rest, here, both, first, second)

or_cases : (a b : Bool) → (a || b) ≡ true → (a ≡ true) ⊎ (b ≡ true)
or_cases true b e = inl refl
or_cases false b e = inr e

or_first : (a b : Bool) → a ≡ true → (a || b) ≡ true
or_first true b e = refl
or_first false b e = absurd (false≢true e)

or_second : (a b : Bool) → b ≡ true → (a || b) ≡ true
or_second true b e = refl
or_second false b e = e

module _ (history : List (Record Deed)) (on : Speaks history) (left : List Leaving) (are : AreLeft history left) where
  tickets_keyed : AreKeyed (λ (a : Leaving). a.ticket) left
  tickets_keyed = keyed_from (λ (a : Leaving). a.ticket) left (λ i j d less below e. (let rises = are.rising i j d less below in omega (arith, rises, e)))

  row : (a : Leaving) → Contains left a → Row history a
  row a m = row_of history a ((are.all a).0 m)

  listed : (a : Leaving) → left_told history a.ticket ≡ Some a → Contains left a
  listed a e = (are.all a).1 e

  once : Once history
  once = once_all history on

  -- kept items
  kept_ones : List Leaving
  kept_ones = filter (λ a. stands_kept a.standing) left

  kept_passes : (a : Leaving) → Contains (filter (λ a. stands_kept a.standing) left) a → gave_so is_kept (said history a.ticket) ≡ true
  kept_passes a m = by_row (row a (Contains-unfiltered (λ x. stands_kept x.standing) left a m)) (filtered_passes (λ x. stands_kept x.standing) left a m)
    where
      by_row : Row history a → stands_kept a.standing ≡ true → gave_so is_kept (said history a.ticket) ≡ true
      by_row (offered n request fated stands) e = absurd (true≢false (sym e ∙ stands))
      by_row (cut_off n request fated stands) e = absurd (true≢false (sym e ∙ stands))
      by_row (kept n request fated stands) e =
          ap (λ o. option_map_or gives o false && is_kept (fate_of (said history a.ticket))) request ∙ ap is_kept (sym (fate_is history a.ticket) ∙ fated)
      by_row (ready n u request fated stands) e = absurd (true≢false (sym e ∙ stands))

  kept_listed : (t : ℕ) → gave_so is_kept (said history t) ≡ true → Contains (map (λ (a : Leaving). a.ticket) (filter (λ a. stands_kept a.standing) left)) t
  kept_listed t is =
      let k = kept_said (said history t) (course_of history on t) is in
      let request : request_of history t ≡ Some (GiveKept k.0) = ap (λ (x : Said). x.asked) k.1 in
      let fated : fate history t ≡ KeptFate = fate_is history t ∙ ap fate_of k.1 in
      let a : Leaving = record { ticket = t; mark = k.0; standing = Kept } in
      let told : left_told history t ≡ Some (record { ticket = t; mark = k.0; standing = Kept }) =
      ap (option_and_then (left_asked history t)) request ∙ ap (λ x. option_map (λ s. record { ticket = t; mark = k.0; standing = s }) (standing_kept x)) fated in
      Contains-map (λ (x : Leaving). x.ticket) (filter (λ x. stands_kept x.standing) left) (record { ticket = t; mark = k.0; standing = Kept })
      (Contains-filter (λ x. stands_kept x.standing) left (record { ticket = t; mark = k.0; standing = Kept }) (listed (record { ticket = t; mark = k.0; standing = Kept }) told) refl)

  -- as many as the gives whose items are kept
  pub kept_are : weigh (gave_so is_kept) history ≡ count_by (λ a. stands_kept a.standing) left
  kept_are =
      count_listed (λ t. gave_so is_kept (said history t)) (tickets_of history) (map (λ (a : Leaving). a.ticket) (filter (λ a. stands_kept a.standing) left))
      (λ t is. once t ∙ ap one (gave_asked is_kept (said history t) is))
      (map_keyed (λ t. t) (λ (a : Leaving). a.ticket) (filter (λ a. stands_kept a.standing) left) (keyed_filter (λ (a : Leaving). a.ticket) (λ a. stands_kept a.standing) left tickets_keyed))
      (λ t m. (let a = Contains-mapped (λ (x : Leaving). x.ticket) (filter (λ x. stands_kept x.standing) left) t m in subst (λ u. gave_so is_kept (said history u) ≡ true) a.2 (kept_passes a.0 a.1)))
      kept_listed
      ∙ length-map (filter (λ a. stands_kept a.standing) left) (λ (a : Leaving). a.ticket)
      ∙ length-filter (λ a. stands_kept a.standing) left

  -- the others
  abbrev others : List Leaving
  others = filter (λ a. not (stands_kept a.standing)) left

  -- whose giver waits or was cut, or whose taker hasn't learned that it was met
  abbrev Part : Leaving → Type 0
  Part a = ((m : ℕ) × (counterpart history a ≡ a.ticket) × ((said history (counterpart history a)).asked ≡ Some (GiveWaits m)) × (gave_so is_offered (said history (counterpart history a)) ≡ true))
      ⊎ (said history (counterpart history a) ≡ only_met Takes a.ticket)

  part_of : (a : Leaving) → Contains (filter (λ a. not (stands_kept a.standing)) left) a → Part a
  part_of a m = by_row (row a (Contains-unfiltered (λ x. not (stands_kept x.standing)) left a m)) (filtered_passes (λ x. not (stands_kept x.standing)) left a m)
    where
      waits_part : (n : ℕ) → request_of history a.ticket ≡ Some (GiveWaits n) → is_offered (fate history a.ticket) ≡ true → Part a
      waits_part n request is =
          let same : counterpart history a ≡ a.ticket = ap (λ o. option_map_or (counterpart_of a.ticket) o a.ticket) request in
          inl (
            n,
            same,
            ap (λ t. (said history t).asked) same ∙ request,
            ap (λ t. gave_so is_offered (said history t)) same ∙ ap (λ o. option_map_or gives o false && is_offered (fate_of (said history a.ticket))) request ∙ ap is_offered (sym (fate_is history a.ticket)) ∙ is,
          )

      by_row : Row history a → not (stands_kept a.standing) ≡ true → Part a
      by_row (offered n request fated stands) e = waits_part n request (ap is_offered fated)
      by_row (cut_off n request fated stands) e = waits_part n request (ap is_offered fated)
      by_row (kept n request fated stands) e = absurd (false≢true (sym (ap not stands) ∙ e))
      by_row (ready n u request fated stands) e =
          let r = request_found history a.ticket (GiveMeets n u) request in
          let c = couple history on r.0 r.1 u (ap named_by r.4) in
          let joined = given_joined r.0.deed u c.joined n c.how r.4 in
          let met : IsMetBy Takes a.ticket (said history u) = subst (λ t. IsMetBy Takes t (said history u)) r.3 (subst (λ j. IsMetBy j r.0.ticket (said history u)) joined c.other) in
          let same : counterpart history a ≡ u = ap (λ o. option_map_or (counterpart_of a.ticket) o a.ticket) request in
          ⊎_elim (λ x. inr (ap (said history) same ∙ x))
          (λ x. absurd (let two : Paired a.ticket ≡ Collected a.ticket = sym fated ∙ fate_is history u ∙ ap fate_of x in cc)) met

  abbrev stand_ins : List ℕ
  stand_ins = map (counterpart history) (filter (λ a. not (stands_kept a.standing)) left)

  passes_part : (a : Leaving) → Part a → (gave_so is_offered (said history (counterpart history a)) || awaits (said history (counterpart history a))) ≡ true
  passes_part a p = ⊎_elim
      (λ (x : (m : ℕ) × (counterpart history a ≡ a.ticket) × ((said history (counterpart history a)).asked ≡ Some (GiveWaits m)) × (gave_so is_offered (said history (counterpart history a)) ≡ true)). or_first (gave_so is_offered (said history (counterpart history a))) (awaits (said history (counterpart history a))) x.3)
      (λ (x : said history (counterpart history a) ≡ only_met Takes a.ticket). or_second (gave_so is_offered (said history (counterpart history a))) (awaits (said history (counterpart history a))) (ap awaits x))
      p

  -- no two stand for one ticket
  parts_apart : (a b : Leaving) → Part a → Part b → counterpart history a ≡ counterpart history b → a.ticket ≡ b.ticket
  parts_apart a b (inl x) (inl y) e = sym x.1 ∙ e ∙ y.1
  parts_apart a b (inl x) (inr y) e = absurd (let two : Some (GiveWaits x.0) ≡ Some TakeWaits = sym x.2 ∙ ap (λ t. (said history t).asked) e ∙ ap (λ (z : Said). z.asked) y in cc)
  parts_apart a b (inr x) (inl y) e = absurd (let two : Some TakeWaits ≡ Some (GiveWaits y.0) = sym (ap (λ (z : Said). z.asked) x) ∙ ap (λ t. (said history t).asked) e ∙ y.2 in cc)
  parts_apart a b (inr x) (inr y) e = let two : Some a.ticket ≡ Some b.ticket = sym (ap (λ (z : Said). z.met) x) ∙ ap (λ t. (said history t).met) e ∙ ap (λ (z : Said). z.met) y in cc

  -- an item of this giver, which isn't kept, is among the others
  other_listed : (a : Leaving) → left_told history a.ticket ≡ Some a → stands_kept a.standing ≡ false → (t : ℕ) → counterpart history a ≡ t → Contains (map (counterpart history) (filter (λ a. not (stands_kept a.standing)) left)) t
  other_listed a told stands t same =
      subst (Contains (map (counterpart history) (filter (λ a. not (stands_kept a.standing)) left))) same
      (Contains-map (counterpart history) (filter (λ a. not (stands_kept a.standing)) left) a (Contains-filter (λ x. not (stands_kept x.standing)) left a (listed a told) (ap not stands)))

  offered_listed : (t : ℕ) → gave_so is_offered (said history t) ≡ true → Contains (map (counterpart history) (filter (λ a. not (stands_kept a.standing)) left)) t
  offered_listed t is = by_offer (offered_said (said history t) (course_of history on t) is)
    where
      by_offer : IsOffer (said history t) → Contains (map (counterpart history) (filter (λ a. not (stands_kept a.standing)) left)) t
      by_offer (m, inl e) =
          let request : request_of history t ≡ Some (GiveWaits m) = ap (λ (x : Said). x.asked) e in
          let fated : fate history t ≡ Waiting = fate_is history t ∙ ap fate_of e in
          let told : left_told history t ≡ Some (record { ticket = t; mark = m; standing = Offered }) =
          ap (option_and_then (left_asked history t)) request ∙ ap (λ x. option_map (λ s. record { ticket = t; mark = m; standing = s }) (standing_waited x)) fated in
          other_listed (record { ticket = t; mark = m; standing = Offered }) told refl t (ap (λ o. option_map_or (counterpart_of t) o t) request)
      by_offer (m, inr e) =
          let request : request_of history t ≡ Some (GiveWaits m) = ap (λ (x : Said). x.asked) e in
          let fated : fate history t ≡ Cut = fate_is history t ∙ ap fate_of e in
          let told : left_told history t ≡ Some (record { ticket = t; mark = m; standing = Ready }) =
          ap (option_and_then (left_asked history t)) request ∙ ap (λ x. option_map (λ s. record { ticket = t; mark = m; standing = s }) (standing_waited x)) fated in
          other_listed (record { ticket = t; mark = m; standing = Ready }) told refl t (ap (λ o. option_map_or (counterpart_of t) o t) request)

  awaiting_listed : (t : ℕ) → awaits (said history t) ≡ true → Contains (map (counterpart history) (filter (λ a. not (stands_kept a.standing)) left)) t
  awaiting_listed t is =
      let k = awaits_said (said history t) (course_of history on t) is in
      let u = k.0 in
      let r = meeting_found history t u (ap (λ (x : Said). x.met) k.1) in
      let c = couple history on r.0 r.1 t r.2 in
      let joined : deed_of c.joined ≡ TakeWaits = (let both : Some (deed_of c.joined) ≡ Some TakeWaits = sym (met_asked c.joined r.0.ticket (said history t) c.other) ∙ ap (λ (x : Said). x.asked) k.1 in cc) in
      let gave = meets_taker r.0.deed t c.joined c.how joined in
      let m = gave.0 in
      let request : request_of history u ≡ Some (GiveMeets m t) = subst (λ x. request_of history x ≡ Some (GiveMeets m t)) r.3 (ap (λ (x : Said). x.asked) c.own ∙ ap (λ d. Some d) gave.1) in
      let fated : fate history t ≡ Paired u = fate_is history t ∙ ap fate_of k.1 in
      let waited : has_waited history t ≡ true = ap (λ o. option_map_or waits_first o false) (ap (λ (x : Said). x.asked) k.1) in
      let stands : standing_met u (fate history t) ≡ Some Ready = ap (standing_met u) fated ∙ ap (λ b. if b then Some Ready else None) (eq-eqb u u refl) in
      let told : left_told history u ≡ Some (record { ticket = u; mark = m; standing = Ready }) =
      ap (option_and_then (left_asked history u)) request
      ∙ ap (λ b. if b then option_map (λ s. record { ticket = u; mark = m; standing = s }) (standing_met u (fate history t)) else None) waited
      ∙ ap (option_map (λ s. record { ticket = u; mark = m; standing = s })) stands in
      other_listed (record { ticket = u; mark = m; standing = Ready }) told refl t (ap (λ o. option_map_or (counterpart_of u) o u) request)

  -- as many as the gives whose items are offered, and the takers that haven't learned that they were met
  pub others_are : weigh (gave_so is_offered) history + weigh awaits history ≡ count_by (λ a. not (stands_kept a.standing)) left
  others_are =
      sym (count_apart_tests (λ t. gave_so is_offered (said history t)) (λ t. awaits (said history t)) (λ t. apart_one (said history t)) (tickets_of history))
      ∙ count_listed (λ t. gave_so is_offered (said history t) || awaits (said history t)) (tickets_of history) (map (counterpart history) (filter (λ a. not (stands_kept a.standing)) left))
      (λ t is. once t ∙ ap one (passes_asked (said history t) is))
      (map_keyed (λ t. t) (counterpart history) (filter (λ a. not (stands_kept a.standing)) left)
      (keyed_by (λ (a : Leaving). a.ticket) (counterpart history) (filter (λ a. not (stands_kept a.standing)) left) (keyed_filter (λ (a : Leaving). a.ticket) (λ a. not (stands_kept a.standing)) left tickets_keyed)
      (λ a b m n e. parts_apart a b (part_of a m) (part_of b n) e)))
      (λ t m. (let a = Contains-mapped (counterpart history) (filter (λ x. not (stands_kept x.standing)) left) t m in subst (λ u. (gave_so is_offered (said history u) || awaits (said history u)) ≡ true) a.2 (passes_part a.0 (part_of a.0 a.1))))
      (λ t is. ⊎_elim (offered_listed t) (awaiting_listed t) (or_cases (gave_so is_offered (said history t)) (awaits (said history t)) is))
      ∙ length-map (filter (λ a. not (stands_kept a.standing)) left) (counterpart history)
      ∙ length-filter (λ a. not (stands_kept a.standing)) left
