-- The tally of a history by counts of its records.
use Rattle.std.proofs.Common.{◌≡◌, ℕ, ◌+◌, refl, sym, ap, ◌∙◌, subst, Bool, true, false, not, ◌&&◌, Option, Some, None, is_some, List, [], ◌∷◌, ◌++◌, arith}
use Rattle.std.specs.Prelude.{count_by}
use Rattle.std.specs.Option.{option_map_or}
use Rattle.std.proofs.lemmas.Bool.{false≢true}
use Rattle.meet_tickets.specs.declared.fates.Fate.{Fate}
use Rattle.meet_tickets.specs.declared.places.Kind.{Kind}
use Rattle.meet_tickets.specs.declared.places.Side.TheVariants.{Giver, Taker}
use Rattle.meet_tickets.specs.declared.records.Record.{Record}
use Rattle.meet_tickets.specs.declared.records.Cause.{Cause}
use Rattle.meet_tickets.specs.declared.records.Cause.TheVariants.{Interrupted}
use Rattle.meet_tickets.specs.declared.records.Deed.{Deed}
use Rattle.meet_tickets.specs.declared.records.Deed.TheVariants.{GiveWaits, GiveMeets, GiveFails, GiveKept, TakeWaits, TakeMeets, TakeFails, EntryInterrupted, Done, Got, Withdrawn, Interrupt}
use Rattle.meet_tickets.specs.Bases.{Based, IsWellFormed, IsLegalOn}
use Rattle.meet_tickets.specs.BySeat.{is_request}
use Rattle.meet_tickets.specs.Fates.{opening, fate, tickets_of, named_by, is_kept}
use Rattle.meet_tickets.proofs.Lists.Changed.{one, count-cons, count-none, count-same}
use Rattle.meet_tickets.proofs.Told.Fated.{Joining, Gives, Keeps, Takes, deed_of, waits_of, only_asked, only_met, only_cut}
use Rattle.meet_tickets.proofs.Told.Said.{Said, said, fate_of, fate_is}
use Rattle.meet_laws.specs.Tally.{meets as meets_somebody, is_give_meets, is_got, gives, has_given, is_delivered, is_returned, is_offered, given_in, gives_in, CountsOnce}
use Rattle.meet_laws.proofs.Speaking.{Meets, given, taken, fetched, Learns, ends, gets, Speaks}
use Rattle.meet_laws.proofs.Told.{Course, unasked, has_asked, has_met, has_learned, has_left, was_cut, has_returned, course_of}
use Rattle.meet_laws.proofs.Weighing.{weigh, Balances, counted_as}
use Rattle.meet_laws.proofs.Begun.{legal_speaks}

-- a give request of such a fate, by what is said of its ticket
abbrev pub gave : Said → Bool
gave x = option_map_or gives x.asked false

abbrev pub gave_so : (Fate → Bool) → Said → Bool
gave_so such x = gave x && such (fate_of x)

pub given_weighs : (such : Fate → Bool) (history : List (Record Deed)) → given_in such history ≡ weigh (gave_so such) history
given_weighs such history = count-same (λ t. has_given history t && such (fate history t)) (λ t. gave_so such (said history t)) (λ t. ap (λ x. has_given history t && such x) (fate_is history t)) (tickets_of history)

-- no record
abbrev none_of : Deed → Bool
none_of d = false

-- as many items were delivered as requests met somebody
delivered_asking : (d : Deed) → is_request d ≡ true → named_by d ≡ None → one (gave_so is_delivered (only_asked d)) + one (none_of d) ≡ 0 + one (meets_somebody d)
delivered_asking (GiveWaits m) request none = refl
delivered_asking (GiveMeets m u) request none = absurd (cc)
delivered_asking (GiveFails m) request none = refl
delivered_asking (GiveKept m) request none = refl
delivered_asking TakeWaits request none = refl
delivered_asking (TakeMeets m u) request none = absurd (cc)
delivered_asking TakeFails request none = refl
delivered_asking (EntryInterrupted Giver) request none = refl
delivered_asking (EntryInterrupted Taker) request none = refl
delivered_asking Done request none = absurd (false≢true request)
delivered_asking (Got m u) request none = absurd (false≢true request)
delivered_asking (Withdrawn cause) request none = absurd (false≢true request)
delivered_asking (Interrupt i) request none = absurd (false≢true request)

delivered_meeting : (t : ℕ) (d : Deed) (u : ℕ) (j : Joining) → Meets d u j → (one (gave_so is_delivered (only_asked d)) + one (gave_so is_delivered (only_met j t))) + one (none_of d) ≡ one (gave_so is_delivered (only_asked (deed_of j))) + one (meets_somebody d)
delivered_meeting t d u j given = refl
delivered_meeting t d u j taken = refl
delivered_meeting t d u j fetched = refl

delivered_learning : (t : ℕ) (d : Deed) (u : ℕ) (j : Joining) (o : Option Deed) → Learns t d u j o → one (gave_so is_delivered (record (only_met j u) { learned = true })) + one (none_of d) ≡ one (gave_so is_delivered (only_met j u)) + one (meets_somebody d)
delivered_learning t d u j o ends = refl
delivered_learning t d u j o gets = refl

delivered_leaving : (j : Joining) (c : Cause) → waits_of j ≡ true → one (gave_so is_delivered (record (only_asked (deed_of j)) { back = Some c })) + one (none_of (Withdrawn c)) ≡ one (gave_so is_delivered (only_asked (deed_of j))) + one (meets_somebody (Withdrawn c))
delivered_leaving (Gives m) c waits = refl
delivered_leaving (Keeps m) c waits = absurd (false≢true waits)
delivered_leaving Takes c waits = refl

delivered_returning : (j : Joining) → waits_of j ≡ true → one (gave_so is_delivered (record (only_cut j) { back = Some Interrupted })) + one (none_of (Withdrawn Interrupted)) ≡ one (gave_so is_delivered (only_cut j)) + one (meets_somebody (Withdrawn Interrupted))
delivered_returning (Gives m) waits = refl
delivered_returning (Keeps m) waits = absurd (false≢true waits)
delivered_returning Takes waits = refl

delivered_cutting : (j : Joining) (i : ℕ) → waits_of j ≡ true → one (gave_so is_delivered (only_cut j)) + one (none_of (Interrupt i)) ≡ one (gave_so is_delivered (only_asked (deed_of j))) + one (meets_somebody (Interrupt i))
delivered_cutting (Gives m) i waits = refl
delivered_cutting (Keeps m) i waits = absurd (false≢true waits)
delivered_cutting Takes i waits = refl

delivered_balances : Balances (gave_so is_delivered) (none_of) (meets_somebody)
delivered_balances = record {
  asking = delivered_asking;
  meeting = delivered_meeting;
  learning = delivered_learning;
  leaving = delivered_leaving;
  returning = delivered_returning;
  cutting = delivered_cutting;
  flagging = λ i. refl;
}

-- give requests
gave_asking : (d : Deed) → is_request d ≡ true → named_by d ≡ None → one (gave (only_asked d)) + one (none_of d) ≡ 0 + one (gives d)
gave_asking (GiveWaits m) request none = refl
gave_asking (GiveMeets m u) request none = absurd (cc)
gave_asking (GiveFails m) request none = refl
gave_asking (GiveKept m) request none = refl
gave_asking TakeWaits request none = refl
gave_asking (TakeMeets m u) request none = absurd (cc)
gave_asking TakeFails request none = refl
gave_asking (EntryInterrupted Giver) request none = refl
gave_asking (EntryInterrupted Taker) request none = refl
gave_asking Done request none = absurd (false≢true request)
gave_asking (Got m u) request none = absurd (false≢true request)
gave_asking (Withdrawn cause) request none = absurd (false≢true request)
gave_asking (Interrupt i) request none = absurd (false≢true request)

gave_meeting : (t : ℕ) (d : Deed) (u : ℕ) (j : Joining) → Meets d u j → (one (gave (only_asked d)) + one (gave (only_met j t))) + one (none_of d) ≡ one (gave (only_asked (deed_of j))) + one (gives d)
gave_meeting t d u j given = refl
gave_meeting t d u j taken = refl
gave_meeting t d u j fetched = refl

gave_learning : (t : ℕ) (d : Deed) (u : ℕ) (j : Joining) (o : Option Deed) → Learns t d u j o → one (gave (record (only_met j u) { learned = true })) + one (none_of d) ≡ one (gave (only_met j u)) + one (gives d)
gave_learning t d u j o ends = refl
gave_learning t d u j o gets = refl

gave_leaving : (j : Joining) (c : Cause) → waits_of j ≡ true → one (gave (record (only_asked (deed_of j)) { back = Some c })) + one (none_of (Withdrawn c)) ≡ one (gave (only_asked (deed_of j))) + one (gives (Withdrawn c))
gave_leaving (Gives m) c waits = refl
gave_leaving (Keeps m) c waits = absurd (false≢true waits)
gave_leaving Takes c waits = refl

gave_returning : (j : Joining) → waits_of j ≡ true → one (gave (record (only_cut j) { back = Some Interrupted })) + one (none_of (Withdrawn Interrupted)) ≡ one (gave (only_cut j)) + one (gives (Withdrawn Interrupted))
gave_returning (Gives m) waits = refl
gave_returning (Keeps m) waits = absurd (false≢true waits)
gave_returning Takes waits = refl

gave_cutting : (j : Joining) (i : ℕ) → waits_of j ≡ true → one (gave (only_cut j)) + one (none_of (Interrupt i)) ≡ one (gave (only_asked (deed_of j))) + one (gives (Interrupt i))
gave_cutting (Gives m) i waits = refl
gave_cutting (Keeps m) i waits = absurd (false≢true waits)
gave_cutting Takes i waits = refl

gave_balances : Balances (gave) (none_of) (gives)
gave_balances = record {
  asking = gave_asking;
  meeting = gave_meeting;
  learning = gave_learning;
  leaving = gave_leaving;
  returning = gave_returning;
  cutting = gave_cutting;
  flagging = λ i. refl;
}

-- a taker that waited and was met, and hasn't learned so
abbrev pub is_take_waits : Deed → Bool
is_take_waits TakeWaits = true
is_take_waits deed = false

abbrev pub awaits : Said → Bool
awaits x = option_map_or is_take_waits x.asked false && (is_some x.met && not x.learned)

-- they are the givers that met a taker without those who learned so
awaiting_asking : (d : Deed) → is_request d ≡ true → named_by d ≡ None → one (awaits (only_asked d)) + one (is_got d) ≡ 0 + one (is_give_meets d)
awaiting_asking (GiveWaits m) request none = refl
awaiting_asking (GiveMeets m u) request none = absurd (cc)
awaiting_asking (GiveFails m) request none = refl
awaiting_asking (GiveKept m) request none = refl
awaiting_asking TakeWaits request none = refl
awaiting_asking (TakeMeets m u) request none = absurd (cc)
awaiting_asking TakeFails request none = refl
awaiting_asking (EntryInterrupted Giver) request none = refl
awaiting_asking (EntryInterrupted Taker) request none = refl
awaiting_asking Done request none = absurd (false≢true request)
awaiting_asking (Got m u) request none = absurd (false≢true request)
awaiting_asking (Withdrawn cause) request none = absurd (false≢true request)
awaiting_asking (Interrupt i) request none = absurd (false≢true request)

awaiting_meeting : (t : ℕ) (d : Deed) (u : ℕ) (j : Joining) → Meets d u j → (one (awaits (only_asked d)) + one (awaits (only_met j t))) + one (is_got d) ≡ one (awaits (only_asked (deed_of j))) + one (is_give_meets d)
awaiting_meeting t d u j given = refl
awaiting_meeting t d u j taken = refl
awaiting_meeting t d u j fetched = refl

awaiting_learning : (t : ℕ) (d : Deed) (u : ℕ) (j : Joining) (o : Option Deed) → Learns t d u j o → one (awaits (record (only_met j u) { learned = true })) + one (is_got d) ≡ one (awaits (only_met j u)) + one (is_give_meets d)
awaiting_learning t d u j o ends = refl
awaiting_learning t d u j o gets = refl

awaiting_leaving : (j : Joining) (c : Cause) → waits_of j ≡ true → one (awaits (record (only_asked (deed_of j)) { back = Some c })) + one (is_got (Withdrawn c)) ≡ one (awaits (only_asked (deed_of j))) + one (is_give_meets (Withdrawn c))
awaiting_leaving (Gives m) c waits = refl
awaiting_leaving (Keeps m) c waits = absurd (false≢true waits)
awaiting_leaving Takes c waits = refl

awaiting_returning : (j : Joining) → waits_of j ≡ true → one (awaits (record (only_cut j) { back = Some Interrupted })) + one (is_got (Withdrawn Interrupted)) ≡ one (awaits (only_cut j)) + one (is_give_meets (Withdrawn Interrupted))
awaiting_returning (Gives m) waits = refl
awaiting_returning (Keeps m) waits = absurd (false≢true waits)
awaiting_returning Takes waits = refl

awaiting_cutting : (j : Joining) (i : ℕ) → waits_of j ≡ true → one (awaits (only_cut j)) + one (is_got (Interrupt i)) ≡ one (awaits (only_asked (deed_of j))) + one (is_give_meets (Interrupt i))
awaiting_cutting (Gives m) i waits = refl
awaiting_cutting (Keeps m) i waits = absurd (false≢true waits)
awaiting_cutting Takes i waits = refl

awaiting_balances : Balances (awaits) (is_got) (is_give_meets)
awaiting_balances = record {
  asking = awaiting_asking;
  meeting = awaiting_meeting;
  learning = awaiting_learning;
  leaving = awaiting_leaving;
  returning = awaiting_returning;
  cutting = awaiting_cutting;
  flagging = λ i. refl;
}

plain_zero : (n : ℕ) (history : List (Record Deed)) → n + count_by (λ (r : Record Deed). none_of r.deed) history ≡ n
plain_zero n history = let none = count-none history in omega (arith, none)

module _ (history : List (Record Deed)) (on : Speaks history) where
  pub delivered_are : given_in is_delivered history ≡ count_by (λ r. meets_somebody r.deed) history
  delivered_are = given_weighs is_delivered history ∙ sym (plain_zero (weigh (gave_so is_delivered) history) history) ∙ counted_as (gave_so is_delivered) none_of meets_somebody delivered_balances history on

  pub gave_are : weigh gave history ≡ gives_in history
  gave_are = sym (plain_zero (weigh gave history) history) ∙ counted_as gave none_of gives gave_balances history on

  pub awaiting_are : weigh awaits history + count_by (λ r. is_got r.deed) history ≡ count_by (λ r. is_give_meets r.deed) history
  awaiting_are = counted_as awaits is_got is_give_meets awaiting_balances history on

-- each give request is of one class
abbrev Classed : Said → Type 0
Classed x = one (gave_so is_delivered x) + one (gave_so is_returned x) + one (gave_so is_kept x) + one (gave_so is_offered x) ≡ one (gave x)

asked_classed : (d : Deed) → is_request d ≡ true → Classed (only_asked d)
asked_classed (GiveWaits m) request = refl
asked_classed (GiveMeets m u) request = refl
asked_classed (GiveFails m) request = refl
asked_classed (GiveKept m) request = refl
asked_classed TakeWaits request = refl
asked_classed (TakeMeets m u) request = refl
asked_classed TakeFails request = refl
asked_classed (EntryInterrupted Giver) request = refl
asked_classed (EntryInterrupted Taker) request = refl
asked_classed Done request = absurd (false≢true request)
asked_classed (Got m u) request = absurd (false≢true request)
asked_classed (Withdrawn cause) request = absurd (false≢true request)
asked_classed (Interrupt i) request = absurd (false≢true request)

met_classed : (j : Joining) (u : ℕ) → Classed (only_met j u)
met_classed (Gives m) u = refl
met_classed (Keeps m) u = refl
met_classed Takes u = refl

learned_classed : (j : Joining) (u : ℕ) → Classed (record (only_met j u) { learned = true })
learned_classed (Gives m) u = refl
learned_classed (Keeps m) u = refl
learned_classed Takes u = refl

left_classed : (j : Joining) (c : Cause) → Classed (record (only_asked (deed_of j)) { back = Some c })
left_classed (Gives m) c = refl
left_classed (Keeps m) c = refl
left_classed Takes c = refl

returned_classed : (j : Joining) (c : Cause) → Classed (record (only_cut j) { back = Some c })
returned_classed (Gives m) c = refl
returned_classed (Keeps m) c = refl
returned_classed Takes c = refl

cut_classed : (j : Joining) → Classed (only_cut j)
cut_classed (Gives m) = refl
cut_classed (Keeps m) = refl
cut_classed Takes = refl

classed : (x : Said) → Course x → Classed x
classed x (unasked e) = subst Classed (sym e) refl
classed x (has_asked d request e) = subst Classed (sym e) (asked_classed d request)
classed x (has_met j u e) = subst Classed (sym e) (met_classed j u)
classed x (has_learned j u waits e) = subst Classed (sym e) (learned_classed j u)
classed x (has_left j c l waits e) = subst Classed (sym e) (left_classed j c)
classed x (was_cut j waits e) = subst Classed (sym e) (cut_classed j)
classed x (has_returned j waits e) = subst Classed (sym e) (returned_classed j Interrupted)

module _ (history : List (Record Deed)) (on : Speaks history) where
  abbrev many : (Said → Bool) → List ℕ → ℕ
  many w ts = count_by (λ t. w (said history t)) ts

  all_classed : (ts : List ℕ) → many (gave_so is_delivered) ts + many (gave_so is_returned) ts + many (gave_so is_kept) ts + many (gave_so is_offered) ts ≡ many gave ts
  all_classed [] = refl
  all_classed (t ∷ ts) =
      let rest = all_classed ts in
      let here = classed (said history t) (course_of history on t) in
      let d = count-cons (λ x. gave_so is_delivered (said history x)) t ts in
      let r = count-cons (λ x. gave_so is_returned (said history x)) t ts in
      let k = count-cons (λ x. gave_so is_kept (said history x)) t ts in
      let o = count-cons (λ x. gave_so is_offered (said history x)) t ts in
      let g = count-cons (λ x. gave (said history x)) t ts in
      omega (arith, rest, here, d, r, k, o, g)

  pub counts_once : given_in is_delivered history + given_in is_returned history + given_in is_kept history + given_in is_offered history ≡ gives_in history
  counts_once =
      let d = given_weighs is_delivered history in
      let r = given_weighs is_returned history in
      let k = given_weighs is_kept history in
      let o = given_weighs is_offered history in
      let all = all_classed (tickets_of history) in
      let g = gave_are history on in
      omega (arith, d, r, k, o, all, g)

-- after a well-formed base and legal records
pub counted_once : (k : Kind) (b : Based) (records : List (Record Deed)) → IsWellFormed k b → IsLegalOn k b records → CountsOnce b records
counted_once k b records w legal = counts_once (opening b ++ records) (legal_speaks k b w records legal)
