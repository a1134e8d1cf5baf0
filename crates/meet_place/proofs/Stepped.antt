-- What a step that writes no record leaves in its seat's list.
use Rattle.std.proofs.Common.{◌≡◌, Option, None, List, [], sym, ap, ◌∙◌}
use Rattle.std.specs.Prelude.{option_to_list}
use Rattle.std.proofs.lemmas.List.{append-nil}
use Rattle.meet_tickets.specs.declared.records.Record.{Record}
use Rattle.meet_book.specs.Received.{Received}
use Rattle.meet_place.specs.Seats.{Adds}

pub adds_none : {D : Type 0} (old new : List (Received D)) (none : Option (Record D)) → new ≡ old → None ≡ none
    → Adds old new (option_to_list none)
adds_none old new none is same = ([], is ∙ sym (append-nil old), ap option_to_list same)
