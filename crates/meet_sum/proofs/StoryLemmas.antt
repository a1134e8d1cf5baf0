-- What is told of a ticket, one record more.
use Rattle.std.proofs.Common.{◌≡◌, ◌≢◌, ℕ, ◌+◌, ◌==◌, refl, sym, ap, ◌∙◌, Bool, true, false, cond, ◌&&◌, ◌||◌, if◌then◌else◌, arith, Option, Some, None, is_some, option_map, find, List, [], ◌∷◌, ◌++◌, length, map, add-zero}
use Rattle.std.specs.Prelude.{nat_lt, option_and_then}
use Rattle.std.specs.List.{position_from}
use Rattle.std.specs.Option.{option_or, option_map_or}
use Rattle.std.proofs.lemmas.List.Folds.{find-append}
use Rattle.std.proofs.lemmas.Bool.{ne_eqb}
use Rattle.meet_tickets.specs.declared.records.Record.{Record}
use Rattle.meet_tickets.specs.declared.records.Cause.{Cause}
use Rattle.meet_tickets.specs.declared.records.Deed.{Deed}
use Rattle.meet_tickets.specs.BySeat.{is_request}
use Rattle.meet_tickets.specs.Fates.{request_of, meets_it, named_by, tells_of_meeting, has_learned, withdrawn_by, withdrawal_of, interrupts, was_cut, waits_first, fate}
use Rattle.meet_tickets.specs.declared.fates.Fate.{Fate}
use Rattle.meet_tickets.specs.declared.fates.Fate.TheVariants.{Never, Paired, Collected, Withdrawn as WasWithdrawn, Cut, Kept, Waiting}
use Rattle.meet_tickets.specs.declared.records.Deed.TheVariants.{GiveWaits, GiveMeets, GiveFails, GiveKept, TakeWaits, TakeMeets, TakeFails, EntryInterrupted, Done, Got, Withdrawn, Interrupt}
use Rattle.meet_tickets.proofs.Told.Said.{Said, said, said_after, said_of_others, fate_is, fate_asked_of}
use Rattle.meet_sum.specs.FatesCounted.{with_fate, numbers_of}
use Rattle.meet_sum.specs.Stories.{asks_for, takes_out, at_once, asked_by, story_in, fate_met, fate_asked, fate_told}
use Rattle.meet_sum.specs.declared.fates.FateCounts.{FateCounts}
use Rattle.meet_sum.specs.declared.stories.Asked.{Asked}
use Rattle.meet_sum.specs.declared.stories.Story.{Story}
use Rattle.meet_sum.proofs.FateLemmas.{numbers-front}

-- the first that passes, one more at the end
pub position-push : {X : Type 0} (p : X → Bool) (n : ℕ) (xs : List X) (x : X) → position_from p n (xs ++ x ∷ []) ≡ option_or (position_from p n xs) (if p x then Some (n + length xs) else None)
position-push p n [] x = ap (λ k. cond (p x) (Some k) None) (sym (add-zero n))
position-push {X} p n (y ∷ xs) x = by (p y) (position-push p (n + 1) xs x)
  where
    by : (b : Bool) → position_from p (n + 1) (xs ++ x ∷ []) ≡ option_or (position_from p (n + 1) xs) (cond (p x) (Some (n + 1 + length xs)) None) → cond b (Some n) (position_from p (n + 1) (xs ++ x ∷ [])) ≡ option_or (cond b (Some n) (position_from p (n + 1) xs)) (cond (p x) (Some (n + length (y ∷ xs))) None)
    by true rest = refl
    by false rest = let at : n + 1 + length xs ≡ n + length (y ∷ xs) = omega arith in rest ∙ ap (λ k. option_or (position_from p (n + 1) xs) (cond (p x) (Some k) None)) at

-- a part of what is found first, one more at the end
map-found : {A B : Type 0} (part : A → B) (o : Option A) (b : Bool) (x : A) → option_map part (option_or o (cond b (Some x) None)) ≡ option_or (option_map part o) (cond b (Some (part x)) None)
map-found part (Some y) b x = refl
map-found part None true x = refl
map-found part None false x = refl

asked-push : (history : List (Record Deed)) (r : Record Deed) (t : ℕ) → option_map asked_by (find (asks_for t) (history ++ r ∷ [])) ≡ option_or (option_map asked_by (find (asks_for t) history)) (if asks_for t r then Some (asked_by r) else None)
asked-push history r t = ap (option_map asked_by) (find-append (asks_for t) history (r ∷ [])) ∙ map-found asked_by (find (asks_for t) history) (asks_for t r) r

-- whether one is found, one more at the end
found-more : {A : Type 0} (o : Option A) (b : Bool) (x : A) → is_some (option_or o (cond b (Some x) None)) ≡ (is_some o || b)
found-more (Some y) b x = refl
found-more None true x = refl
found-more None false x = refl

met-push : (history : List (Record Deed)) (r : Record Deed) (t : ℕ) → is_some (find (meets_it t) (history ++ r ∷ [])) ≡ (is_some (find (meets_it t) history) || meets_it t r)
met-push history r t = ap is_some (find-append (meets_it t) history (r ∷ [])) ∙ found-more (find (meets_it t) history) (meets_it t r) r

-- what is told once a record is heard too
pub story_more : (history : List (Record Deed)) (r : Record Deed) (t : ℕ) (x : Story) → x ≡ story_in history t → (a : Option Asked) (n : Option ℕ) (m : Bool) (l : Bool) (b : Option Cause) (k : Bool) (o : Option ℕ) →
    a ≡ option_or x.asked (if asks_for t r then Some (asked_by r) else None) →
    n ≡ option_or x.came (if asks_for t r then Some (1 + length history) else None) →
    m ≡ (x.met || meets_it t r) →
    l ≡ (x.learned || (tells_of_meeting r.deed && (r.ticket == t))) →
    b ≡ option_or x.back (if is_some (withdrawn_by r.deed) && (r.ticket == t) then withdrawn_by r.deed else None) →
    k ≡ (x.cut || (interrupts r.deed && nat_lt 0 t && (r.ticket == t))) →
    o ≡ option_or x.went (if takes_out t r then Some (1 + length history) else None) →
    ◌≡◌ {A = Story} (record { asked = a; came = n; met = m; learned = l; back = b; cut = k; went = o }) (story_in (history ++ r ∷ []) t)
story_more history r t x e a n m l b k o ea en em el eb ek eo = λ i. record {
  asked = (ea ∙ ap (λ (y : Story). option_or y.asked (if asks_for t r then Some (asked_by r) else None)) e ∙ sym (asked-push history r t)) i;
  came = (en ∙ ap (λ (y : Story). option_or y.came (if asks_for t r then Some (1 + length history) else None)) e ∙ sym (position-push (asks_for t) 1 history r)) i;
  met = (em ∙ ap (λ (y : Story). y.met || meets_it t r) e ∙ sym (met-push history r t)) i;
  learned = (el ∙ ap (λ (y : Story). y.learned || (tells_of_meeting r.deed && (r.ticket == t))) e ∙ sym (ap (λ (y : Said). y.learned) (said_after history r t))) i;
  back = (eb ∙ ap (λ (y : Story). option_or y.back (if is_some (withdrawn_by r.deed) && (r.ticket == t) then withdrawn_by r.deed else None)) e ∙ sym (ap (λ (y : Said). y.back) (said_after history r t))) i;
  cut = (ek ∙ ap (λ (y : Story). y.cut || (interrupts r.deed && nat_lt 0 t && (r.ticket == t))) e ∙ sym (ap (λ (y : Said). y.cut) (said_after history r t))) i;
  went = (eo ∙ ap (λ (y : Story). option_or y.went (if takes_out t r then Some (1 + length history) else None)) e ∙ sym (position-push (takes_out t) 1 history r)) i;
}

or-none : {A : Type 0} (o : Option A) → option_or o None ≡ o
or-none None = refl
or-none (Some x) = refl

or-false : (b : Bool) → (b || false) ≡ b
or-false true = refl
or-false false = refl

and-false : (b : Bool) → (b && false) ≡ false
and-false true = refl
and-false false = refl

-- of a ticket that it neither is of nor names a record tells nothing
pub story_of_others : (history : List (Record Deed)) (r : Record Deed) (t : ℕ) → r.ticket ≢ t → meets_it t r ≡ false → story_in (history ++ r ∷ []) t ≡ story_in history t
story_of_others history r t n unnamed = λ i. record {
  asked = (asked-push history r t ∙ ap (λ b. option_or (option_map asked_by (find (asks_for t) history)) (cond b (Some (asked_by r)) None)) asks ∙ or-none (option_map asked_by (find (asks_for t) history))) i;
  came = (position-push (asks_for t) 1 history r ∙ ap (λ b. option_or (position_from (asks_for t) 1 history) (cond b (Some (1 + length history)) None)) asks ∙ or-none (position_from (asks_for t) 1 history)) i;
  met = (met-push history r t ∙ ap (λ b. is_some (find (meets_it t) history) || b) unnamed ∙ or-false (is_some (find (meets_it t) history))) i;
  learned = ap (λ (y : Said). y.learned) same i;
  back = ap (λ (y : Said). y.back) same i;
  cut = ap (λ (y : Said). y.cut) same i;
  went = (position-push (takes_out t) 1 history r ∙ ap (λ b. option_or (position_from (takes_out t) 1 history) (cond b (Some (1 + length history)) None)) takes ∙ or-none (position_from (takes_out t) 1 history)) i;
}
  where
    same : said (history ++ r ∷ []) t ≡ said history t
    same = said_of_others history r t n unnamed

    other : (r.ticket == t) ≡ false
    other = ne_eqb r.ticket t n

    asks : asks_for t r ≡ false
    asks = ap (λ b. is_request r.deed && b) other ∙ and-false (is_request r.deed)

    takes : takes_out t r ≡ false
    takes = ap (λ b. meets_it t r || (is_some (withdrawn_by r.deed) && b) || (interrupts r.deed && nat_lt 0 t && b)) other
        ∙ ap (λ b. meets_it t r || b || (interrupts r.deed && nat_lt 0 t && false)) (and-false (is_some (withdrawn_by r.deed)))
        ∙ ap (λ b. meets_it t r || false || b) (and-false (interrupts r.deed && nat_lt 0 t))
        ∙ ap (λ b. b || false || false) unnamed

-- what is found passes
found-passes : {X : Type 0} (p : X → Bool) (xs : List X) (x : X) → find p xs ≡ Some x → p x ≡ true
found-passes p [] x is = absurd (cc)
found-passes {X} p (y ∷ xs) x is = by (p y) refl is (found-passes p xs x)
  where
    by : (b : Bool) → p y ≡ b → cond b (Some y) (find p xs) ≡ Some x → (find p xs ≡ Some x → p x ≡ true) → p x ≡ true
    by true own found rest = let same : y ≡ x = cc in sym (ap p same) ∙ own
    by false own found rest = rest found

and-first : (a b : Bool) → (a && b) ≡ true → a ≡ true
and-first true b both = refl
and-first false b both = both

-- whoever a ticket met, it counts alike
module _ (c : FateCounts) (learned : Bool) where
  met-alike : (u : ℕ) → with_fate c (fate_met learned) ≡ with_fate c (if learned then Collected u else Paired u)
  met-alike u = by learned
    where
      by : (b : Bool) → with_fate c (fate_met b) ≡ with_fate c (if b then Collected u else Paired u)
      by true = refl
      by false = refl

  stood-alike : (o : Option (Record Deed)) (rest : Fate) → with_fate c (if is_some o then fate_met learned else rest) ≡ with_fate c (option_map_or (λ u. if learned then Collected u else Paired u) (option_map (λ (r : Record Deed). r.ticket) o) rest)
  stood-alike None rest = refl
  stood-alike (Some r) rest = met-alike r.ticket

-- the fate of a ticket counts as that of its story
pub fate-told : (c : FateCounts) (history : List (Record Deed)) (t : ℕ) → with_fate c (fate_told (story_in history t)) ≡ with_fate c (fate history t)
fate-told c history t = by (find (asks_for t) history) refl ∙ ap (with_fate c) (sym (fate_is history t))
  where
    unmet : Fate → Fate
    unmet last = option_map_or (λ cause. WasWithdrawn cause) (withdrawal_of history t) (if was_cut history t then Cut else last)

    -- whom its request names, or who named it
    whole : Option ℕ → Deed → Fate
    whole named d = option_map_or (λ u. if has_learned history t then Collected u else Paired u) (option_or named (option_map (λ (r : Record Deed). r.ticket) (find (meets_it t) history)))
        (option_map_or (λ cause. WasWithdrawn cause) (withdrawal_of history t) (if was_cut history t then Cut else (if waits_first d then Waiting else Kept)))

    named : (d : Deed) → request_of history t ≡ Some d → whole (named_by d) d ≡ whole (option_and_then named_by (request_of history t)) d
    named d is = ap (λ o. whole o d) (sym (ap (option_and_then named_by) is))

    asked : (d : Deed) → is_request d ≡ true → request_of history t ≡ Some d → with_fate c (fate_asked (story_in history t) (at_once d)) ≡ with_fate c (fate_asked_of (said history t) d)
    asked (GiveWaits m) own is = stood-alike c (has_learned history t) (find (meets_it t) history) (unmet Waiting) ∙ ap (with_fate c) (named (GiveWaits m) is)
    asked (GiveMeets m u) own is = met-alike c (has_learned history t) u ∙ ap (with_fate c) (named (GiveMeets m u) is)
    asked (GiveFails m) own is = refl
    asked (GiveKept m) own is = stood-alike c (has_learned history t) (find (meets_it t) history) (unmet Kept) ∙ ap (with_fate c) (named (GiveKept m) is)
    asked TakeWaits own is = stood-alike c (has_learned history t) (find (meets_it t) history) (unmet Waiting) ∙ ap (with_fate c) (named TakeWaits is)
    asked (TakeMeets m u) own is = met-alike c (has_learned history t) u ∙ ap (with_fate c) (named (TakeMeets m u) is)
    asked TakeFails own is = refl
    asked (EntryInterrupted side) own is = refl
    asked Done own is = absurd (cc)
    asked (Got m u) own is = absurd (cc)
    asked (Withdrawn cause) own is = absurd (cc)
    asked (Interrupt j) own is = absurd (cc)

    by : (o : Option (Record Deed)) → find (asks_for t) history ≡ o → with_fate c (option_map_or (λ (a : Asked). fate_asked (story_in history t) a.how) (option_map asked_by o) Never) ≡ with_fate c (option_map_or (fate_asked_of (said history t)) (option_map (λ r. r.deed) o) Never)
    by None is = refl
    by (Some r) is = asked r.deed (and-first (is_request r.deed) (r.ticket == t) (found-passes (asks_for t) history r is)) (ap (option_map (λ q. q.deed)) is)

-- and so it is of many
pub fates-told : (history : List (Record Deed)) (tickets : List ℕ) → numbers_of (map fate_told (map (story_in history) tickets)) ≡ numbers_of (map (fate history) tickets)
fates-told history [] = refl
fates-told history (t ∷ tickets) =
    numbers-front (fate_told (story_in history t)) (map fate_told (map (story_in history) tickets))
    ∙ ap (λ c. with_fate c (fate_told (story_in history t))) (fates-told history tickets)
    ∙ fate-told (numbers_of (map (fate history) tickets)) history t
    ∙ sym (numbers-front (fate history t) (map (fate history) tickets))
