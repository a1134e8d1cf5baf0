-- What the records say of one ticket, and what one more record adds.
use Rattle.std.proofs.Common.{◌≡◌, ◌≢◌, ℕ, ◌==◌, refl, ap, ◌∙◌, Bool, true, false, cond, if◌then◌else◌, ◌&&◌, ◌||◌, Option, Some, None, is_some, option_map, List, [], ◌∷◌, ◌++◌, find}
use Rattle.std.specs.Prelude.{nat_lt, option_and_then}
use Rattle.std.specs.List.{list_any}
use Rattle.std.specs.Option.{option_or, option_map_or}
use Rattle.std.specs.Bool.{then_some}
use Rattle.std.proofs.Math.Path.{fun_ext}
use Rattle.std.proofs.lemmas.Bool.{eq-eqb, ne_eqb, false≢true}
use Rattle.std.proofs.lemmas.List.Folds.{find-append, list_any-append}
use Rattle.meet_tickets.specs.declared.records.Record.{Record}
use Rattle.meet_tickets.specs.declared.records.Cause.{Cause}
use Rattle.meet_tickets.specs.declared.records.Deed.{Deed}
use Rattle.meet_tickets.specs.declared.records.Deed.TheVariants.{GiveFails, TakeFails, EntryInterrupted}
use Rattle.meet_tickets.specs.declared.fates.Fate.{Fate}
use Rattle.meet_tickets.specs.declared.fates.Fate.TheVariants.{Never, Failed, EntryRefused, Paired, Collected, Withdrawn as WasWithdrawn, Cut, Kept, Waiting}
use Rattle.meet_tickets.specs.BySeat.{is_request}
use Rattle.meet_tickets.specs.Fates.{request_of, named_by, meets_it, tells_of_meeting, has_learned, withdrawn_by, withdrawal_of, interrupts, was_cut, waits_first, fate_asked, fate}

-- what passes a test
pub passing : {X : Type 0} (b : Bool) (x : X) → then_some b x ≡ (if b then Some x else None)
passing true x = refl
passing false x = refl

-- what the records say of a ticket
pub record Said : Type 0 where
  pub asked : Option Deed  -- its request
  pub met : Option ℕ  -- the ticket whose request names it
  pub learned : Bool  -- whether it learned that it was met
  pub back : Option Cause  -- why it was taken back
  pub cut : Bool  -- whether it was cut

-- read from a history
abbrev pub said : List (Record Deed) → ℕ → Said
said history t = record {
  asked = request_of history t;
  met = option_map (λ r. r.ticket) (find (meets_it t) history);
  learned = has_learned history t;
  back = withdrawal_of history t;
  cut = was_cut history t;
}

-- the fate of a ticket of which this is said, and whose request has this deed
abbrev pub fate_asked_of : Said → Deed → Fate
fate_asked_of s (GiveFails m) = Failed
fate_asked_of s TakeFails = Failed
fate_asked_of s (EntryInterrupted side) = EntryRefused
fate_asked_of s deed =
    option_map_or (λ u. if s.learned then Collected u else Paired u) (option_or (option_and_then named_by s.asked) s.met)
    (option_map_or (λ cause. WasWithdrawn cause) s.back (if s.cut then Cut else (if waits_first deed then Waiting else Kept)))

-- the fate of a ticket of which this is said
abbrev pub fate_of : Said → Fate
fate_of s = option_map_or (fate_asked_of s) s.asked Never

-- whether a ticket of which this is said waited, at first
abbrev pub waited_of : Said → Bool
waited_of s = option_map_or waits_first s.asked false

-- deed by deed the fate is what is said tells
asked_is : (history : List (Record Deed)) (t : ℕ) (d : Deed) → fate_asked history t d ≡ fate_asked_of (said history t) d
asked_is history t (GiveFails m) = refl
asked_is history t deed = refl

-- the fate of a ticket is a function of what is said of it
pub fate_is : (history : List (Record Deed)) (t : ℕ) → fate history t ≡ fate_of (said history t)
fate_is history t = ap (λ f. option_map_or f (request_of history t) Never) (fun_ext (asked_is history t))

-- what a record adds: `own` where it is of the ticket, `named` where its request names the ticket
abbrev pub heard : Deed → (ticket : ℕ) → (own named numbered : Bool) → Said → Said
heard d t own named numbered s = record {
  asked = option_or s.asked (if is_request d && own then Some d else None);
  met = option_or s.met (if named then Some t else None);
  learned = s.learned || (tells_of_meeting d && own);
  back = option_or s.back (if is_some (withdrawn_by d) && own then withdrawn_by d else None);
  cut = s.cut || (interrupts d && numbered && own);
}

-- a part of what is found first, in front or at the end
map_found : {A B : Type 0} (part : A → B) (o : Option A) (b : Bool) (x : A) → option_map part (option_or o (cond b (Some x) None)) ≡ option_or (option_map part o) (cond b (Some (part x)) None)
map_found part (Some y) b x = refl
map_found part None true x = refl
map_found part None false x = refl

-- a test that isn't passed changes nothing
or-false : (b : Bool) → (b || false) ≡ b
or-false true = refl
or-false false = refl

-- whether one passes, in front or at the end
any_added : {A : Type 0} (p : A → Bool) (xs : List A) (x : A) → list_any p (xs ++ x ∷ []) ≡ (list_any p xs || p x)
any_added p xs x = list_any-append p xs (x ∷ []) ∙ ap (λ b. list_any p xs || b) (or-false (p x))

-- what is read stays where more is read at the end
or_some : {A : Type 0} (o rest : Option A) → is_some o ≡ true → o ≡ option_or o rest
or_some (Some x) rest some = refl
or_some None rest some = absurd (false≢true some)

-- a test of two parts passes in its first
and_first : (a b : Bool) → (a && b) ≡ true → a ≡ true
and_first true b both = refl
and_first false b both = both

-- what is read from a lone element that passes
read_lone : {A B : Type 0} (read : A → Option B) (x : A) (b : Bool) → option_and_then read (cond b (Some x) None) ≡ cond b (read x) None
read_lone read x true = refl
read_lone read x false = refl

-- what is read from the first that passes, with one element more in front
read_first : {A B : Type 0} (read : A → Option B) (x : A) (b : Bool) (more now : Option A) (rest : Option B) → (b ≡ true → is_some (read x) ≡ true) →
    option_and_then read more ≡ option_or (option_and_then read now) rest →
    option_and_then read (cond b (Some x) more) ≡ option_or (option_and_then read (cond b (Some x) now)) rest
read_first read x true more now rest some same = or_some (read x) rest (some refl)
read_first read x false more now rest some same = same

-- the reason of the first record that has one, in front or at the end
reason_added : (t : ℕ) (history : List (Record Deed)) (r : Record Deed) → withdrawal_of (history ++ r ∷ []) t ≡ option_or (withdrawal_of history t) (if is_some (withdrawn_by r.deed) && (r.ticket == t) then withdrawn_by r.deed else None)
reason_added t [] r = read_lone (λ q. withdrawn_by q.deed) r (is_some (withdrawn_by r.deed) && (r.ticket == t))
reason_added t (x ∷ history) r =
    let test = λ (q : Record Deed). is_some (withdrawn_by q.deed) && (q.ticket == t) in
    read_first (λ q. withdrawn_by q.deed) x (test x) (find test (history ++ r ∷ [])) (find test history)
    (if test r then withdrawn_by r.deed else None) (and_first (is_some (withdrawn_by x.deed)) (x.ticket == t)) (reason_added t history r)

-- what is said after one more record
pub said_after : (history : List (Record Deed)) (r : Record Deed) (x : ℕ) → said (history ++ r ∷ []) x ≡ heard r.deed r.ticket (r.ticket == x) (meets_it x r) (nat_lt 0 x) (said history x)
said_after history r x = λ i. record {
  asked = asked i;
  met = met i;
  learned = any_added (λ q. tells_of_meeting q.deed && (q.ticket == x)) history r i;
  back = reason_added x history r i;
  cut = any_added (λ q. interrupts q.deed && nat_lt 0 x && (q.ticket == x)) history r i;
}
  where
    asked : request_of (history ++ r ∷ []) x ≡ option_or (request_of history x) (if is_request r.deed && (r.ticket == x) then Some r.deed else None)
    asked =
        ap (λ o. option_map (λ q. q.deed) o) (find-append (λ q. is_request q.deed && (q.ticket == x)) history (r ∷ []))
        ∙ map_found (λ q. q.deed) (find (λ q. is_request q.deed && (q.ticket == x)) history) (is_request r.deed && (r.ticket == x)) r

    met : option_map (λ q. q.ticket) (find (meets_it x) (history ++ r ∷ [])) ≡ option_or (option_map (λ q. q.ticket) (find (meets_it x) history)) (if meets_it x r then Some r.ticket else None)
    met =
        ap (λ o. option_map (λ q. q.ticket) o) (find-append (meets_it x) history (r ∷ []))
        ∙ map_found (λ q. q.ticket) (find (meets_it x) history) (meets_it x r) r

-- no test of two parts passes whose second fails
and-false : (b : Bool) → (b && false) ≡ false
and-false true = refl
and-false false = refl

-- nothing more is read
or-none : {A : Type 0} (o : Option A) → option_or o None ≡ o
or-none None = refl
or-none (Some x) = refl

-- a record that is of others and names others adds nothing
pub heard_nothing : (d : Deed) (t : ℕ) (numbered : Bool) (s : Said) → heard d t false false numbered s ≡ s
heard_nothing d t numbered s = λ i. record {
  asked = (ap (λ b. option_or s.asked (cond b (Some d) None)) (and-false (is_request d)) ∙ or-none s.asked) i;
  met = or-none s.met i;
  learned = (ap (λ b. s.learned || b) (and-false (tells_of_meeting d)) ∙ or-false s.learned) i;
  back = (ap (λ b. option_or s.back (cond b (withdrawn_by d) None)) (and-false (is_some (withdrawn_by d))) ∙ or-none s.back) i;
  cut = (ap (λ b. s.cut || b) (and-false (interrupts d && numbered)) ∙ or-false s.cut) i;
}

module _ (history : List (Record Deed)) (r : Record Deed) where
  -- of a ticket that a record neither is of nor names the same is said
  pub said_of_others : (x : ℕ) → r.ticket ≢ x → meets_it x r ≡ false → said (history ++ r ∷ []) x ≡ said history x
  said_of_others x other unnamed =
      said_after history r x
      ∙ ap (λ own. heard r.deed r.ticket own (meets_it x r) (nat_lt 0 x) (said history x)) (ne_eqb r.ticket x other)
      ∙ ap (λ named. heard r.deed r.ticket false named (nat_lt 0 x) (said history x)) unnamed
      ∙ heard_nothing r.deed r.ticket (nat_lt 0 x) (said history x)

  -- what a record says of its own ticket
  pub said_of_own : (s : Said) → said history r.ticket ≡ s → meets_it r.ticket r ≡ false → said (history ++ r ∷ []) r.ticket ≡ heard r.deed r.ticket true false (nat_lt 0 r.ticket) s
  said_of_own s was unnamed =
      said_after history r r.ticket
      ∙ ap (λ own. heard r.deed r.ticket own (meets_it r.ticket r) (nat_lt 0 r.ticket) (said history r.ticket)) (eq-eqb r.ticket r.ticket refl)
      ∙ ap (λ named. heard r.deed r.ticket true named (nat_lt 0 r.ticket) (said history r.ticket)) unnamed
      ∙ ap (heard r.deed r.ticket true false (nat_lt 0 r.ticket)) was

  -- what a request says of the ticket that it names
  pub said_of_named : (u : ℕ) (s : Said) → said history u ≡ s → r.ticket ≢ u → named_by r.deed ≡ Some u → said (history ++ r ∷ []) u ≡ heard r.deed r.ticket false true (nat_lt 0 u) s
  said_of_named u s was other named =
      said_after history r u
      ∙ ap (λ own. heard r.deed r.ticket own (meets_it u r) (nat_lt 0 u) (said history u)) (ne_eqb r.ticket u other)
      ∙ ap (λ is. heard r.deed r.ticket false is (nat_lt 0 u) (said history u)) (ap (λ o. option_map_or (λ v. v == u) o false) named ∙ eq-eqb u u refl)
      ∙ ap (heard r.deed r.ticket false true (nat_lt 0 u)) was
