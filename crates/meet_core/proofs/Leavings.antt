-- What a queue leaves is what the records that lead to it tell.
use Rattle.std.proofs.Common.{ℕ, ◌++◌, subst, List, IsPermutation}
use Rattle.std.specs.List.Sorted.{IsNonDecreasingBy}
use Rattle.meet_tickets.specs.declared.places.End.{End}
use Rattle.meet_tickets.specs.declared.places.Kind.{Kind}
use Rattle.meet_tickets.specs.declared.records.Record.{Record}
use Rattle.meet_tickets.specs.declared.records.Deed.{Deed}
use Rattle.meet_tickets.specs.Asked.{request_on, Remembers}
use Rattle.meet_tickets.specs.Bases.{Based}
use Rattle.meet_tickets.specs.Fates.{opening}
use Rattle.meet_tickets.specs.Placed.{TellsPlace}
use Rattle.meet_tickets.proofs.Told.Placed.{tells_place}
use Rattle.meet_tickets.proofs.Told.Remembered.{remembered}
use Rattle.meet_core.specs.declared.left.Left.{Left}
use Rattle.meet_core.specs.Left.{left_in}
use Rattle.meet_core.specs.LeftTold.{AreLeftOn}
use Rattle.meet_core.specs.Queue.{Queue}
use Rattle.meet_core.proofs.LeftThere.{are_left}
use Rattle.meet_core.specs.QueueSteps.{LeadsTo}

pub left_on : {T : Type 0} (mark : T → ℕ) (k : Kind) (end : End) (b : Based) (records : List (Record Deed)) (q : Queue T) (items : List (Left T)) → LeadsTo mark k b records q → IsPermutation (left_in end q) items → IsNonDecreasingBy (λ (x : Left T). x.ticket) items → AreLeftOn mark b records items
left_on mark k end b records q items leads moved rises =
    are_left mark (opening b ++ records) q
    (subst (TellsPlace (opening b ++ records)) leads.leaves (tells_place k b records leads.well_formed leads.legal))
    (subst (Remembers (request_on b records)) leads.leaves (remembered k b records leads.well_formed leads.legal))
    end items moved rises
