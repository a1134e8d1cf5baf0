-- What is told of a ticket, one record more.
use Rattle.std.proofs.Common.{◌≡◌, ℕ, ◌==◌, refl, sym, ap, ◌∙◌, Bool, true, false, cond, not, ◌&&◌, ◌||◌, if◌then◌else◌, Option, Some, None, is_some, is_none, option_map, find, List, [], ◌∷◌, ◌++◌}
use Rattle.std.specs.Prelude.{nat_lt, option_and_then}
use Rattle.std.specs.List.{list_any}
use Rattle.std.specs.Option.{option_or, option_map_or}
use Rattle.meet_tickets.specs.declared.records.Record.{Record}
use Rattle.meet_tickets.specs.declared.records.Cause.{Cause}
use Rattle.meet_tickets.specs.declared.records.Deed.{Deed}
use Rattle.meet_tickets.specs.declared.fates.Fate.TheVariants.{Never, Paired, Collected, Withdrawn as WasWithdrawn, Cut, Kept, Waiting}
use Rattle.meet_tickets.specs.declared.records.Deed.TheVariants.{GiveWaits, GiveMeets, GiveFails, GiveKept, TakeWaits, TakeMeets, TakeFails, EntryInterrupted, Done, Got, Withdrawn, Interrupt}
use Rattle.meet_tickets.specs.BySeat.{is_request}
use Rattle.meet_tickets.specs.Fates.{request_of, partner_in, has_learned, withdrawal_of, was_cut, waits_first, fate_asked, fate, named_by, meets_it, tells_of_meeting, withdrawn_by, interrupts}
use Rattle.meet_tickets.proofs.Told.Said.{Said, said_after}
use Rattle.meet_laws.specs.Hearing.{told_in, fate_told, fate_told_asked, fate_settled}
use Rattle.meet_laws.specs.declared.fates.Told.{Told}

pub told_more : (history : List (Record Deed)) (r : Record Deed) (t : ℕ) (x : Told) → x ≡ told_in history t → (a : Option Deed) (m : Option ℕ) (l : Bool) (b : Option Cause) (k : Bool) →
    a ≡ option_or x.asked (if is_request r.deed && (r.ticket == t) then Some r.deed else None) →
    m ≡ option_or x.met (if meets_it t r then Some r.ticket else None) →
    l ≡ (x.learned || (tells_of_meeting r.deed && (r.ticket == t))) →
    b ≡ option_or x.back (if is_some (withdrawn_by r.deed) && (r.ticket == t) then withdrawn_by r.deed else None) →
    k ≡ (x.cut || (interrupts r.deed && nat_lt 0 t && (r.ticket == t))) →
    ◌≡◌ {A = Told} (record { asked = a; met = m; learned = l; back = b; cut = k }) (told_in (history ++ r ∷ []) t)
told_more history r t x e a m l b k ea em el eb ek = λ i. record {
  asked = (ea ∙ ap (λ (y : Told). option_or y.asked (if is_request r.deed && (r.ticket == t) then Some r.deed else None)) e ∙ sym (ap (λ (y : Said). y.asked) (said_after history r t))) i;
  met = (em ∙ ap (λ (y : Told). option_or y.met (if meets_it t r then Some r.ticket else None)) e ∙ sym (ap (λ (y : Said). y.met) (said_after history r t))) i;
  learned = (el ∙ ap (λ (y : Told). y.learned || (tells_of_meeting r.deed && (r.ticket == t))) e ∙ sym (ap (λ (y : Said). y.learned) (said_after history r t))) i;
  back = (eb ∙ ap (λ (y : Told). option_or y.back (if is_some (withdrawn_by r.deed) && (r.ticket == t) then withdrawn_by r.deed else None)) e ∙ sym (ap (λ (y : Said). y.back) (said_after history r t))) i;
  cut = (ek ∙ ap (λ (y : Told). y.cut || (interrupts r.deed && nat_lt 0 t && (r.ticket == t))) e ∙ sym (ap (λ (y : Said). y.cut) (said_after history r t))) i;
}

-- none is found where none passes
pub none_found : {X : Type 0} (p : X → Bool) (xs : List X) → is_none (find p xs) ≡ not (list_any p xs)
none_found p [] = refl
none_found {X} p (x ∷ xs) = by_test (p x) (none_found p xs)
  where
    by_test : (b : Bool) → is_none (find p xs) ≡ not (list_any p xs) → is_none (cond b (Some x) (find p xs)) ≡ not (b || list_any p xs)
    by_test true rest = refl
    by_test false rest = rest

-- whose request neither failed nor was refused
settled_heard : (history : List (Record Deed)) (t : ℕ) (d : Deed) → request_of history t ≡ Some d →
    fate_settled (told_in history t) d ≡ option_map_or (λ u. if has_learned history t then Collected u else Paired u) (partner_in history t)
    (option_map_or (λ cause. WasWithdrawn cause) (withdrawal_of history t)
    (if was_cut history t then Cut else (if waits_first d then Waiting else Kept)))
settled_heard history t d e =
    ap (λ o. option_map_or (λ u. if has_learned history t then Collected u else Paired u) (option_or o (option_map (λ (r : Record Deed). r.ticket) (find (meets_it t) history)))
    (option_map_or (λ cause. WasWithdrawn cause) (withdrawal_of history t)
    (if was_cut history t then Cut else (if waits_first d then Waiting else Kept)))) (sym (ap (option_and_then named_by) e))

asked_heard : (history : List (Record Deed)) (t : ℕ) (d : Deed) → request_of history t ≡ Some d → fate_told_asked (told_in history t) d ≡ fate_asked history t d
asked_heard history t (GiveWaits m) e = settled_heard history t (GiveWaits m) e
asked_heard history t (GiveMeets m u) e = settled_heard history t (GiveMeets m u) e
asked_heard history t (GiveFails m) e = refl
asked_heard history t (GiveKept m) e = settled_heard history t (GiveKept m) e
asked_heard history t TakeWaits e = settled_heard history t TakeWaits e
asked_heard history t (TakeMeets m u) e = settled_heard history t (TakeMeets m u) e
asked_heard history t TakeFails e = refl
asked_heard history t (EntryInterrupted side) e = refl
asked_heard history t Done e = settled_heard history t Done e
asked_heard history t (Got m u) e = settled_heard history t (Got m u) e
asked_heard history t (Withdrawn cause) e = settled_heard history t (Withdrawn cause) e
asked_heard history t (Interrupt i) e = settled_heard history t (Interrupt i) e

-- the fate of a ticket is what is told of it
pub fate_heard : (history : List (Record Deed)) (t : ℕ) (x : Told) → x ≡ told_in history t → fate_told x ≡ fate history t
fate_heard history t x e = ap fate_told e ∙ by_asked (request_of history t) refl
  where
    by_asked : (o : Option Deed) → request_of history t ≡ o → option_map_or (fate_told_asked (told_in history t)) o Never ≡ option_map_or (fate_asked history t) o Never
    by_asked None is = refl
    by_asked (Some d) is = asked_heard history t d is
