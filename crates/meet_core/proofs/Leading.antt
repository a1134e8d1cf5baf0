-- A step leads on from the records so far.
use Rattle.std.proofs.Common.{◌≡◌, ℕ, ◌+◌, ◌<◌, refl, sym, ap, ◌∙◌, subst, Bool, true, false, cond, Option, Some, None, List, [], ◌∷◌, ◌++◌, append-nil, arith}
use Rattle.std.specs.Prelude.{option_to_list}
use Rattle.meet_tickets.specs.declared.places.Kind.{Kind}
use Rattle.meet_tickets.specs.declared.records.Record.{Record}
use Rattle.meet_tickets.specs.declared.records.Deed.{Deed}
use Rattle.meet_tickets.specs.BySeat.{nobody, Moment, moment_of, moment_after, Fits, IsLegalBySeatFrom, is_request, Allows, seats_after}
use Rattle.meet_tickets.proofs.Tellings.Continued.{legal-append, moment_of-append}
use Rattle.meet_tickets.specs.Bases.{Based, no_base, moment_of_base, IsBaseOf}
use Rattle.meet_tickets.proofs.OnBases.Folded.{folds}
use Rattle.meet_tickets.proofs.OnBases.Based.{tellings_agree_on, no_base_well_formed}
use Rattle.meet_core.specs.Queue.{Queue, seats_of}
use Rattle.meet_core.specs.Seen.{marked, moment_of_queue}
use Rattle.meet_core.specs.QueueSteps.{LeadsTo}
use Rattle.meet_core.proofs.Effects.{Writes, HasEffect}

-- a new queue has no history behind it
pub fresh-leads : {T : Type 0} (mark : T → ℕ) (k : Kind) (q : Queue T) → seats_of q ≡ nobody → q.last ≡ 0 → 0 < q.next → LeadsTo mark k no_base [] q
fresh-leads mark k q fresh unused first = record { well_formed = no_base_well_formed k; legal = tt; last = sym unused; next = omega (arith, unused, first); leaves = sym (ap (marked mark) fresh) }

module _ {T : Type 0} (mark : T → ℕ) (k : Kind) (old new : Queue T) (b : Based) (records : List (Record Deed)) (before : LeadsTo mark k b records old) where
  abbrev m : Moment
  m = moment_of k (moment_of_base b) records

  -- the record fits
  fits : (r : Record Deed) → Writes mark k old new r → Fits k m r
  fits r w = record {
    above = λ asks. (let at : r.ticket ≡ old.next = w.used asks in omega (arith, at, before.last, before.next));
    allowed = subst (λ s. Allows k s r.seat r.ticket r.deed) (sym before.leaves) w.allowed;
  }

  after : (r : Record Deed) → moment_of k (moment_of_base b) (records ++ r ∷ []) ≡ moment_after k m r
  after r = moment_of-append k (moment_of_base b) records (r ∷ [])

  last-is : (r : Record Deed) → Writes mark k old new r → (moment_after k m r).last ≡ new.last
  last-is r w = ap (λ n. cond (is_request r.deed) r.ticket n) before.last ∙ sym w.last

  below-next : (r : Record Deed) → Writes mark k old new r → new.last < new.next
  below-next r w = by_test (is_request r.deed) w.used w.last w.next
    where
      by_test : (b : Bool) → (b ≡ true → r.ticket ≡ old.next) → new.last ≡ cond b r.ticket old.last → new.next ≡ cond b (old.next + 1) old.next → new.last < new.next
      by_test true used last next = let at : r.ticket ≡ old.next = used refl in omega (arith, at, last, next)
      by_test false used last next = omega (arith, before.next, last, next)

  leads-record : (r : Record Deed) → Writes mark k old new r → LeadsTo mark k b (records ++ r ∷ []) new
  leads-record r w =
      let legal : IsLegalBySeatFrom k (moment_of_base b) records = (tellings_agree_on k b records before.well_formed).legal.0 before.legal in
      record {
        well_formed = before.well_formed;
        legal = (tellings_agree_on k b (records ++ r ∷ []) before.well_formed).legal.1 (legal-append k (moment_of_base b) records (r ∷ []) legal (fits r w, tt));
        last = ap (λ n. n.last) (after r) ∙ last-is r w;
        next = below-next r w;
        leaves = ap (λ n. n.seats) (after r) ∙ ap (λ s. seats_after k s r.seat r.ticket r.deed) before.leaves ∙ sym w.after;
      }

  pub leads-on : (need room : ℕ) (r : Option (Record Deed)) → HasEffect mark k old new need room r → LeadsTo mark k b (records ++ option_to_list r) new
  leads-on need room (Some r) effect = leads-record r effect.0
  leads-on need room None same = subst (λ rs. LeadsTo mark k b rs new) (sym (append-nil records)) (subst (λ q. LeadsTo mark k b records q) (sym same) before)

-- the base of a queue leads to it, whatever base and records led there
pub base-leads : {T : Type 0} (mark : T → ℕ) (k : Kind) (q : Queue T) (gone : ℕ) (new : Based) → IsBaseOf (moment_of_queue mark q) gone new → (b : Based) (records : List (Record Deed)) → LeadsTo mark k b records q → LeadsTo mark k new [] q
base-leads mark k q gone new is b records leads =
    let at : moment_of k (moment_of_base b) records ≡ moment_of_queue mark q = λ i. record { last = leads.last i; seats = leads.leaves i } in
    let folded = folds k b records gone new leads.well_formed leads.legal (subst (λ m. IsBaseOf m gone new) (sym at) is) in
    let stands : moment_of_base new ≡ moment_of_queue mark q = folded.stands ∙ at in
    record { well_formed = folded.well_formed; legal = tt; last = ap (λ m. m.last) stands; next = leads.next; leaves = ap (λ m. m.seats) stands }

-- a bound that stays is the same kind
pub bounded-on : {T : Type 0} {mark : T → ℕ} {base : Based} {records : List (Record Deed)} {q : Queue T} {old new : Option ℕ} (kind : Option ℕ → Kind) → new ≡ old → LeadsTo mark (kind old) base records q → LeadsTo mark (kind new) base records q
bounded-on {T} {mark} {base} {records} {q} kind same leads = subst (λ b. LeadsTo mark (kind b) base records q) (sym same) leads
