-- How the records of a history go on, each from what those before it say, and what it adds of each ticket.
use Rattle.std.proofs.Common.{◌≡◌, ◌≢◌, ℕ, zero, suc, ◌<◌, ◌==◌, refl, sym, ap, ◌∙◌, subst, ⊎_elim, Bool, true, false, Option, Some, None, List, [], ◌∷◌, ◌++◌, arith}
use Rattle.std.specs.Prelude.{nat_lt}
use Rattle.std.specs.Option.{option_map_or}
use Rattle.std.proofs.lemmas.List.{append-nil, append_assoc}
use Rattle.std.proofs.lemmas.Bool.{cases_eq, ne_eqb, lt-ltb}
use Rattle.meet_tickets.specs.declared.records.Record.{Record}
use Rattle.meet_tickets.specs.declared.records.Cause.{Cause}
use Rattle.meet_tickets.specs.declared.records.Cause.TheVariants.{Cancelled, Expired, Interrupted}
use Rattle.meet_tickets.specs.declared.records.Deed.{Deed}
use Rattle.meet_tickets.specs.declared.records.Deed.TheVariants.{GiveWaits, GiveMeets, GiveFails, GiveKept, TakeWaits, TakeMeets, TakeFails, EntryInterrupted, Done, Got, Withdrawn, Interrupt}
use Rattle.meet_tickets.specs.BySeat.{is_request}
use Rattle.meet_tickets.specs.Fates.{named_by, meets_it}
use Rattle.meet_tickets.proofs.Told.Said.{Said, said, heard, said_after, heard_nothing, said_of_others, said_of_own, said_of_named}
use Rattle.meet_tickets.proofs.Told.Fated.{Joining, Gives, Keeps, Takes, deed_of, waits_of, blank, only_asked, only_met, only_cut}

-- a request meets a ticket in the line, which had joined it so
pub data Meets : Deed → ℕ → Joining → Type 0 where
  given : {m u : ℕ} → Meets (GiveMeets m u) u Takes
  taken : {m u : ℕ} → Meets (TakeMeets m u) u (Gives m)
  fetched : {m u : ℕ} → Meets (TakeMeets m u) u (Keeps m)

-- a ticket that waited learns that it was met, with its partner's request
pub data Learns : (ticket : ℕ) → Deed → ℕ → Joining → Option Deed → Type 0 where
  ends : {t u m : ℕ} {asked : Option Deed} → Learns t Done u (Gives m) asked
  gets : {t u m : ℕ} → Learns t (Got m u) u Takes (Some (GiveMeets m t))

-- a cause that takes a ticket out of the line
abbrev pub IsLeaving : Cause → Type 0
IsLeaving Cancelled = Unit {0}
IsLeaving Expired = Unit {0}
IsLeaving Interrupted = ⊥

-- a deed of a ticket goes on from what was said
pub data GoesOn (f : ℕ → Said) (t : ℕ) (d : Deed) : Type 0 where
  asks : is_request d ≡ true → named_by d ≡ None → f t ≡ blank → GoesOn f t d
  meets : (u : ℕ) (j : Joining) → Meets d u j → f t ≡ blank → f u ≡ only_asked (deed_of j) → GoesOn f t d
  learns : (u : ℕ) (j : Joining) → Learns t d u j (f u).asked → f t ≡ only_met j u → GoesOn f t d
  leaves : (j : Joining) (cause : Cause) → d ≡ Withdrawn cause → IsLeaving cause → waits_of j ≡ true → f t ≡ only_asked (deed_of j) → GoesOn f t d
  returns : (j : Joining) → d ≡ Withdrawn Interrupted → waits_of j ≡ true → f t ≡ only_cut j → GoesOn f t d
  cuts : (j : Joining) (i : ℕ) → d ≡ Interrupt i → 0 < t → waits_of j ≡ true → f t ≡ only_asked (deed_of j) → GoesOn f t d
  flags : (i : ℕ) → d ≡ Interrupt i → t ≡ 0 → GoesOn f t d

-- what is said of one ticket before a record and after it
pub data Turned (x y : Said) : Type 0 where
  stays : y ≡ x → Turned x y
  asked : (d : Deed) → is_request d ≡ true → x ≡ blank → y ≡ only_asked d → Turned x y
  met : (j : Joining) (u : ℕ) → x ≡ only_asked (deed_of j) → y ≡ only_met j u → Turned x y
  learned : (j : Joining) (u : ℕ) → waits_of j ≡ true → x ≡ only_met j u → y ≡ record (only_met j u) { learned = true } → Turned x y
  left : (j : Joining) (cause : Cause) → IsLeaving cause → waits_of j ≡ true → x ≡ only_asked (deed_of j) → y ≡ record (only_asked (deed_of j)) { back = Some cause } → Turned x y
  cut : (j : Joining) → waits_of j ≡ true → x ≡ only_asked (deed_of j) → y ≡ only_cut j → Turned x y
  returned : (j : Joining) → waits_of j ≡ true → x ≡ only_cut j → y ≡ record (only_cut j) { back = Some Interrupted } → Turned x y

-- a request that names nobody adds itself
pub asks_adds : (d : Deed) (t : ℕ) (numbered : Bool) → is_request d ≡ true → heard d t true false numbered blank ≡ only_asked d
asks_adds (GiveWaits m) t numbered e = refl
asks_adds (GiveMeets m u) t numbered e = refl
asks_adds (GiveFails m) t numbered e = refl
asks_adds (GiveKept m) t numbered e = refl
asks_adds TakeWaits t numbered e = refl
asks_adds (TakeMeets m u) t numbered e = refl
asks_adds TakeFails t numbered e = refl
asks_adds (EntryInterrupted side) t numbered e = refl
asks_adds Done t numbered e = absurd (cc)
asks_adds (Got m u) t numbered e = absurd (cc)
asks_adds (Withdrawn cause) t numbered e = absurd (cc)
asks_adds (Interrupt i) t numbered e = absurd (cc)

-- one that meets is a request, names its partner, and tells it so
pub meets_asks : (d : Deed) (u : ℕ) (j : Joining) → Meets d u j → is_request d ≡ true
meets_asks d u j given = refl
meets_asks d u j taken = refl
meets_asks d u j fetched = refl

pub meets_names : (d : Deed) (u : ℕ) (j : Joining) → Meets d u j → named_by d ≡ Some u
meets_names d u j given = refl
meets_names d u j taken = refl
meets_names d u j fetched = refl

meets_tells : (d : Deed) (u : ℕ) (j : Joining) (t : ℕ) (numbered : Bool) → Meets d u j → heard d t false true numbered (only_asked (deed_of j)) ≡ only_met j t
meets_tells d u j t numbered given = refl
meets_tells d u j t numbered taken = refl
meets_tells d u j t numbered fetched = refl

pub learns_waited : (t : ℕ) (d : Deed) (u : ℕ) (j : Joining) (o : Option Deed) → Learns t d u j o → waits_of j ≡ true
learns_waited t d u j o ends = refl
learns_waited t d u j o gets = refl

pub learns_unnamed : (t : ℕ) (d : Deed) (u : ℕ) (j : Joining) (o : Option Deed) → Learns t d u j o → named_by d ≡ None
learns_unnamed t d u j o ends = refl
learns_unnamed t d u j o gets = refl

pub learns_adds : (t : ℕ) (d : Deed) (u : ℕ) (j : Joining) (o : Option Deed) (numbered : Bool) → Learns t d u j o → heard d t true false numbered (only_met j u) ≡ record (only_met j u) { learned = true }
learns_adds t d u j o numbered ends = refl
learns_adds t d u j o numbered gets = refl

-- an interrupt that names no ticket says nothing
pub flag_says : (history : List (Record Deed)) (r : Record Deed) (i : ℕ) → r.deed ≡ Interrupt i → r.ticket ≡ 0 → (x : ℕ) → said (history ++ r ∷ []) x ≡ said history x
flag_says history r i e z zero =
    said_after history r 0
    ∙ ap (λ d. heard d r.ticket (r.ticket == 0) (option_map_or (λ u. u == 0) (named_by d) false) false (said history 0)) e
    ∙ heard_flag (r.ticket == 0) (said history 0)
  where
    heard_flag : (own : Bool) (s : Said) → heard (Interrupt i) r.ticket own false false s ≡ s
    heard_flag true s = heard_nothing (Interrupt i) r.ticket false s
    heard_flag false s = heard_nothing (Interrupt i) r.ticket false s
flag_says history r i e z (suc x) = said_of_others history r (suc x) (λ same. (let none : suc x ≡ 0 = sym same ∙ z in omega arith)) (ap (λ d. option_map_or (λ u. u == suc x) (named_by d) false) e)

-- what nothing is said of isn't what was asked
pub blank_unasked : (x : Said) (d : Deed) → x ≡ blank → x ≡ only_asked d → ⊥
blank_unasked x d is other = let apart : None ≡ Some d = sym (ap (λ y. y.asked) is) ∙ ap (λ y. y.asked) other in cc

module _ (history : List (Record Deed)) (r : Record Deed) where
  abbrev then : ℕ → Said
  then = said (history ++ r ∷ [])

  -- of others than its ticket a deed that names nobody says nothing
  pub others_stay : named_by r.deed ≡ None → (x : ℕ) → x ≢ r.ticket → then x ≡ said history x
  others_stay none x n = said_of_others history r x (λ e. n (sym e)) (ap (λ o. option_map_or (λ u. u == x) o false) none)

  pub own_adds : named_by r.deed ≡ None → (x : Said) → said history r.ticket ≡ x → then r.ticket ≡ heard r.deed r.ticket true false (nat_lt 0 r.ticket) x
  own_adds none x was = said_of_own history r x was (ap (λ o. option_map_or (λ u. u == r.ticket) o false) none)

  -- so it turns its own ticket alone
  own_turned : named_by r.deed ≡ None → ((x : Said) → said history r.ticket ≡ x → Turned x (heard r.deed r.ticket true false (nat_lt 0 r.ticket) x)) → (t : ℕ) → Turned (said history t) (then t)
  own_turned none turns t = ⊎_elim at (λ n. stays (others_stay none t n)) (cases_eq t r.ticket)
    where
      at : t ≡ r.ticket → Turned (said history t) (then t)
      at e = subst (λ x. Turned (said history x) (then x)) (sym e)
          (subst (Turned (said history r.ticket)) (sym (own_adds none (said history r.ticket) refl)) (turns (said history r.ticket) refl))

  module _ (u : ℕ) (j : Joining) (m : Meets r.deed u j) (new : said history r.ticket ≡ blank) (there : said history u ≡ only_asked (deed_of j)) where
    pub meets_apart : r.ticket ≢ u
    meets_apart e = blank_unasked (said history u) (deed_of j) (ap (said history) (sym e) ∙ new) there

    meets_unnamed : (y : ℕ) → y ≢ u → meets_it y r ≡ false
    meets_unnamed y n = ap (λ o. option_map_or (λ v. v == y) o false) (meets_names r.deed u j m) ∙ ne_eqb u y (λ same. n (sym same))

    -- what a request says of its own ticket, and of the one that it meets
    pub meets_own : said (history ++ r ∷ []) r.ticket ≡ only_asked r.deed
    meets_own = said_of_own history r blank new (meets_unnamed r.ticket meets_apart) ∙ asks_adds r.deed r.ticket (nat_lt 0 r.ticket) (meets_asks r.deed u j m)

    pub meets_other : said (history ++ r ∷ []) u ≡ only_met j r.ticket
    meets_other = said_of_named history r u (only_asked (deed_of j)) there meets_apart (meets_names r.deed u j m) ∙ meets_tells r.deed u j r.ticket (nat_lt 0 u) m

    pub meets_others : (t : ℕ) → t ≢ r.ticket → t ≢ u → said (history ++ r ∷ []) t ≡ said history t
    meets_others t n n' = said_of_others history r t (λ e. n (sym e)) (meets_unnamed t n')

  -- a request turns its own ticket, and the one that it meets
  meets_turned : (u : ℕ) (j : Joining) → Meets r.deed u j → said history r.ticket ≡ blank → said history u ≡ only_asked (deed_of j) → (t : ℕ) → Turned (said history t) (then t)
  meets_turned u j m new there t = ⊎_elim at_own (λ n. ⊎_elim at_other (λ n'. stays (meets_others u j m new there t n n')) (cases_eq t u)) (cases_eq t r.ticket)
    where
      at_own : t ≡ r.ticket → Turned (said history t) (then t)
      at_own e = asked r.deed (meets_asks r.deed u j m) (ap (said history) e ∙ new) (ap then e ∙ meets_own u j m new there)

      at_other : t ≡ u → Turned (said history t) (then t)
      at_other e = met j r.ticket (ap (said history) e ∙ there) (ap then e ∙ meets_other u j m new there)

  -- a record that goes on turns what is said of each ticket
  pub turns : GoesOn (said history) r.ticket r.deed → (t : ℕ) → Turned (said history t) (then t)
  turns (asks request none new) =
      own_turned none (λ x was. asked r.deed request (sym was ∙ new) (ap (heard r.deed r.ticket true false (nat_lt 0 r.ticket)) (sym was ∙ new) ∙ asks_adds r.deed r.ticket (nat_lt 0 r.ticket) request))
  turns (meets u j m new there) = meets_turned u j m new there
  turns (learns u j l was) =
      own_turned (learns_unnamed r.ticket r.deed u j (said history u).asked l) (λ x is. learned j u (learns_waited r.ticket r.deed u j (said history u).asked l) (sym is ∙ was)
      (ap (heard r.deed r.ticket true false (nat_lt 0 r.ticket)) (sym is ∙ was) ∙ learns_adds r.ticket r.deed u j (said history u).asked (nat_lt 0 r.ticket) l))
  turns (leaves j cause e leaving waits was) =
      own_turned (ap named_by e) (λ x is. left j cause leaving waits (sym is ∙ was)
      (ap (heard r.deed r.ticket true false (nat_lt 0 r.ticket)) (sym is ∙ was) ∙ ap (λ d. heard d r.ticket true false (nat_lt 0 r.ticket) (only_asked (deed_of j))) e))
  turns (returns j e waits was) =
      own_turned (ap named_by e) (λ x is. returned j waits (sym is ∙ was)
      (ap (heard r.deed r.ticket true false (nat_lt 0 r.ticket)) (sym is ∙ was) ∙ ap (λ d. heard d r.ticket true false (nat_lt 0 r.ticket) (only_cut j)) e))
  turns (cuts j i e above waits was) =
      own_turned (ap named_by e) (λ x is. cut j waits (sym is ∙ was)
      (ap (heard r.deed r.ticket true false (nat_lt 0 r.ticket)) (sym is ∙ was)
      ∙ ap (λ d. heard d r.ticket true false (nat_lt 0 r.ticket) (only_asked (deed_of j))) e
      ∙ ap (λ b. heard (Interrupt i) r.ticket true false b (only_asked (deed_of j))) (lt-ltb 0 r.ticket above)))
  turns (flags i e none) = λ t. stays (flag_says history r i e none t)

-- the records that follow these go on, one by one
abbrev pub AllGoOn : List (Record Deed) → List (Record Deed) → Type 0
AllGoOn history [] = Unit {0}
AllGoOn history (r ∷ rest) = GoesOn (said history) r.ticket r.deed × AllGoOn (history ++ r ∷ []) rest

-- all records of a history do
abbrev pub Speaks : List (Record Deed) → Type 0
Speaks history = AllGoOn [] history

-- records that go on after records that do
pub go_on-append : (xs ys history : List (Record Deed)) → AllGoOn history xs → AllGoOn (history ++ xs) ys → AllGoOn history (xs ++ ys)
go_on-append [] ys history first second = subst (λ h. AllGoOn h ys) (append-nil history) second
go_on-append (r ∷ xs) ys history first second =
    (first.0, go_on-append xs ys (history ++ r ∷ []) first.1 (subst (λ h. AllGoOn h ys) (sym (append_assoc history (r ∷ []) xs)) second))
