-- Proof of `next_since`, src/comparing.rt. The next receipt, from this index, for a record that wasn't folded away.
use Rattle.std.proofs.Common.{◌≡◌, ◌+◌, ◌<◌, ◌∷◌, ◌∙◌, drop, arith, subst}
use Rattle.std.proofs.lemmas.Option.{get_or_from_slice_get}
use Rattle.meet_book.specs.Listed.{is_since, since}
use Rattle.meet_book.proofs.Listing.{of_first, is_later}
use Rattle.meet_book.proofs.comparing.next_since.Goals as goal

pub returns-then-gone-place-clause-some : goal.returns-then-gone-place-clause-some
returns-then-gone-place-clause-some g c = λ receipt e.
    let list = c.args.list.now in
    let at = c.loop-at.at in
    let one = c.index-list-at.result in
    let is : one ≡ receipt = c.index-list-at.is ∙ get_or_from_slice_get list at receipt one e in
    let later : c.args.gone < one.place = omega (arith, c.place.ensures, c.if-gone-place.true) in
    let there : c.args.gone < receipt.place = subst (λ one. c.args.gone < one.place) is later in (
      there,
      c.loop-at.invariant.same ∙ of_first (is_since c.args.gone) list at one (omega arith) c.index-list-at.is (is_later c.args.gone one later)
          ∙ (λ j. is j ∷ since c.args.gone (drop (at + 1) list)),
    )
