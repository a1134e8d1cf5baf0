-- Proof of `compare`, src/comparing.rt.
use Rattle.std.proofs.Common.{◌≡◌, [], ◌∙◌, length, map, arith, ap, sym, refl, ⊎_elim}
use Rattle.std.specs.Prelude.{slice_get}
use Rattle.std.proofs.lemmas.Bool.{cases_lt}
use Rattle.std.proofs.lemmas.List.{length-map}
use Rattle.std.proofs.Math.ListN.{get_or-eq_default}
use Rattle.meet_book.specs.Listed.{own_of, since}
use Rattle.meet_book.proofs.Listing.{listed_past, first_there, own_entries}
use Rattle.meet_book.proofs.comparing.compare.Goals as goal

pub returns-in-Some-least_from-clause-some : goal.returns-in-Some-least_from-clause-some
returns-in-Some-least_from-clause-some g c =
    let records = c.args.records.now in
    let lists = map g.H.Holds.held c.args.seats.now in
    let as_many : length lists ≡ length c.args.seats.now = length-map c.args.seats.now g.H.Holds.held in
    let least = c.in-Some-least_from.ensures in
    record {
      least = λ other less.
          ⊎_elim (λ before. c.loop-number.invariant other before) (λ behind.
          listed_past c.args.gone records lists other (omega (arith, as_many, behind)) (least.least other (omega (arith, behind)) less)) (cases_lt other c.loop-number.number);
      differ = (
        refl,
        λ e.
            first_there (own_of c.args.gone records c.in-Some-least_from.seat)
            (λ none. least.some.1 (sym (own_entries c.args.gone records c.in-Some-least_from.seat) ∙ ap (map (λ receipt. receipt.entry)) none))
            (e ∙ ap (λ list. slice_get (since c.args.gone list) 0) (get_or-eq_default lists [] (omega (arith, as_many, least.some.0)))),
      );
    }

pub returns-in-None-clause-none : goal.returns-in-None-clause-none
returns-in-None-clause-none g c = λ seat.
    let records = c.args.records.now in
    let lists = map g.H.Holds.held c.args.seats.now in
    let as_many : length lists ≡ length c.args.seats.now = length-map c.args.seats.now g.H.Holds.held in
    ⊎_elim (λ before. c.loop-number.invariant seat before) (λ behind.
    listed_past c.args.gone records lists seat (omega (arith, as_many, behind)) (c.in-None.ensures.none seat (omega (arith, behind)))) (cases_lt seat c.loop-number.number)
