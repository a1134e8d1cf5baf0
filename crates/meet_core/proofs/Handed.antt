-- An item that is handed out has the mark that its giver's request brought.
use Rattle.std.proofs.Common.{◌≡◌, ℕ, refl, sym, ap, ◌∙◌, subst, Bool, true, false, Some, None, List, Contains}
use Rattle.std.specs.Prelude.{option_map, option_and_then, IfSome}
use Rattle.std.proofs.lemmas.List.Elements.{All-contains_itself}
use Rattle.meet_tickets.specs.declared.lines.Entry.{Entry}
use Rattle.meet_tickets.specs.declared.lines.Hold.TheVariants.{Waiting, Served, Cut}
use Rattle.meet_tickets.specs.declared.places.Side.TheVariants.{Taker}
use Rattle.meet_tickets.specs.declared.places.End.{End}
use Rattle.meet_tickets.specs.declared.places.Kind.{Kind}
use Rattle.meet_tickets.specs.declared.records.Record.{Record}
use Rattle.meet_tickets.specs.declared.records.Deed.{Deed}
use Rattle.meet_tickets.specs.Asked.{request_on, brought_by, brought_on, Remembers}
use Rattle.meet_tickets.specs.Bases.{Based}
use Rattle.meet_tickets.specs.BySeat.{entry_of}
use Rattle.meet_tickets.specs.Fates.{asked_for}
use Rattle.meet_tickets.specs.Meeting.{partner}
use Rattle.meet_tickets.proofs.Lists.Lookups.{Contains-map}
use Rattle.meet_tickets.proofs.Told.Remembered.{remembered}
use Rattle.meet_tickets.proofs.Line.Sides.{partner-there, found-there, found-ticket}
use Rattle.meet_core.specs.Queue.{Queue, seats_of}
use Rattle.meet_line.specs.Seen.{marked_entry}
use Rattle.meet_core.specs.Seen.{marked_hold, marked}
use Rattle.meet_core.specs.declared.answers.Took.TheVariants.{Waits as TakerWaits, Meets as TakerMeets, EntryInterrupted as TakerInterrupted}
use Rattle.meet_core.specs.declared.answers.Polled.TheVariants.{Meets as PollMeets, Fails as PollFails}
use Rattle.meet_core.specs.declared.answers.Followed.TheVariants.{Done, Got, Interrupted, NotYet}
use Rattle.meet_core.specs.declared.answers.TakenBack.TheVariants.{Back, Late}
use Rattle.meet_core.specs.declared.calls.queue_calls.QueueCall.{QueueCall}
use Rattle.meet_core.specs.declared.calls.queue_calls.QueueCall.TheVariants.{Put, Give, Offer, Take, Poll, FollowUp, Cancel, Expire, Interrupt}
use Rattle.meet_core.specs.declared.calls.queue_calls.QueueAnswer.{QueueAnswer}
use Rattle.meet_core.specs.declared.calls.queue_calls.QueueAnswer.TheVariants.{Took as ToTake, Polled as ToPoll, Followed as ToFollowUp, TakenBack as ToWithdrawal}
use Rattle.meet_core.specs.QueueSteps.{DualStep, LeadsTo}
use Rattle.meet_core.specs.Handed.{handed, HandsOutWhatWasBrought}

-- the request of an item in the line brought it
brought-asked : (m : ℕ) (waits : Bool) → brought_by (asked_for (Some m) waits) ≡ Some m
brought-asked m true = refl
brought-asked m false = refl

module _ {T : Type 0} (mark : T → ℕ) (k : Kind) (b : Based) (records : List (Record Deed)) (old : Queue T) (leads : LeadsTo mark k b records old) where
  -- the queue remembers what was asked
  remembers : Remembers (request_on b records) (marked mark (seats_of old))
  remembers = subst (Remembers (request_on b records)) leads.leaves (remembered k b records leads.well_formed leads.legal)

  -- the item of an entry in the line
  entry-brought : (e : Entry T) (item : T) → Contains old.line e → e.item ≡ Some item → brought_on b records e.ticket ≡ Some (mark item)
  entry-brought e item there own =
      ap (option_and_then brought_by) (remembers.line (marked_entry mark e) (Contains-map (marked_entry mark) old.line e there))
      ∙ ap (λ o. brought_by (asked_for (option_map mark o) e.waits)) own
      ∙ brought-asked (mark item) e.waits

  -- the item that is fetched
  partner-brought : (end : End) (e : Entry T) (u : ℕ) (item : T) → partner end old.line Taker ≡ Some e → u ≡ e.ticket → e.item ≡ Some item → brought_on b records u ≡ Some (mark item)
  partner-brought end e u item found ticket own =
      ap (brought_on b records) ticket
      ∙ entry-brought e item (partner-there (Contains old.line) end old.line Taker e (All-contains_itself old.line) found) own

  -- the item that is taken back
  waiting-brought : (t : ℕ) (e : Entry T) (item : T) → entry_of old.line (Waiting t) ≡ Some e → Some item ≡ e.item → brought_on b records t ≡ Some (mark item)
  waiting-brought t e item found is =
      ap (brought_on b records) (sym (found-ticket t old.line e found))
      ∙ entry-brought e item (found-there (Contains old.line) t old.line e (All-contains_itself old.line) found) (sym is)

  -- the item that was served, and the one that was cut
  served-brought : (i t u : ℕ) (item : T) → (seats_of old).holds i ≡ Served t u item → brought_on b records u ≡ Some (mark item)
  served-brought i t u item held = ap (option_and_then brought_by) (remembers.served i t u (mark item) (ap (marked_hold mark) held))

  cut-brought : (i t : ℕ) (item : T) → (seats_of old).holds i ≡ Cut t (Some item) → brought_on b records t ≡ Some (mark item)
  cut-brought i t item held = ap (option_and_then brought_by) (remembers.cut i t (Some (mark item)) (ap (marked_hold mark) held))

  -- by the answer
  handed-brought : (end : End) (new : Queue T) (seat : ℕ) (call : QueueCall T) (answer : QueueAnswer T) → DualStep mark end old seat call answer new → IfSome (handed call answer) (λ given. brought_on b records given.ticket ≡ Some (mark given.item))
  handed-brought end new seat (Put item) answer step = tt
  handed-brought end new seat (Give item) answer step = tt
  handed-brought end new seat (Offer item) answer step = tt
  handed-brought end new seat (Interrupt j) answer step = tt
  handed-brought end new seat Take (ToTake (TakerWaits t)) step = tt
  handed-brought end new seat Take (ToTake (TakerMeets t u item)) (e, found, ticket, own, uses) = partner-brought end e u item found ticket own
  handed-brought end new seat Take (ToTake (TakerInterrupted t)) step = tt
  handed-brought end new seat Take answer step = absurd step
  handed-brought end new seat Poll (ToPoll (PollMeets t u item)) (e, found, ticket, own, uses) = partner-brought end e u item found ticket own
  handed-brought end new seat Poll (ToPoll (PollFails t)) step = tt
  handed-brought end new seat Poll answer step = absurd step
  handed-brought end new seat (FollowUp t) (ToFollowUp Done) step = tt
  handed-brought end new seat (FollowUp t) (ToFollowUp (Got u item)) (held, leaves) = served-brought seat t u item held
  handed-brought end new seat (FollowUp t) (ToFollowUp (Interrupted None)) step = tt
  handed-brought end new seat (FollowUp t) (ToFollowUp (Interrupted (Some item))) (held, leaves) = cut-brought seat t item held
  handed-brought end new seat (FollowUp t) (ToFollowUp NotYet) step = tt
  handed-brought end new seat (FollowUp t) answer step = absurd step
  handed-brought end new seat (Cancel t) (ToWithdrawal (Back None)) step = tt
  handed-brought end new seat (Cancel t) (ToWithdrawal (Back (Some item))) (e, held, found, is, leaves) = waiting-brought t e item found is
  handed-brought end new seat (Cancel t) (ToWithdrawal Late) step = tt
  handed-brought end new seat (Cancel t) answer step = absurd step
  handed-brought end new seat (Expire t) (ToWithdrawal (Back None)) step = tt
  handed-brought end new seat (Expire t) (ToWithdrawal (Back (Some item))) (e, held, found, is, leaves) = waiting-brought t e item found is
  handed-brought end new seat (Expire t) (ToWithdrawal Late) step = tt
  handed-brought end new seat (Expire t) answer step = absurd step

pub hands_out_what_was_brought : {T : Type 0} (mark : T → ℕ) → HandsOutWhatWasBrought mark
hands_out_what_was_brought mark k b records end old new seat call answer leads step = handed-brought mark k b records old leads end new seat call answer step
