-- Proof of `is_whole`, src/comparing.rt. Whether the lists are the records by the receipts' own numbers: each list is
-- in order, and all the lists together are as long as the records.
use Rattle.std.proofs.Common.{◌≡◌, ◌+◌, ◌<◌, ◌≤◌, [], ◌∙◌, length, map, get_or, arith, sym, ap, subst, rules, ⊎_elim}
use Rattle.std.proofs.lemmas.Grind.{common_steps}
use Rattle.std.proofs.lemmas.Bool.{cases_lt}
use Rattle.std.proofs.lemmas.List.{get_or-map, length-map, nil_from_length}
use Rattle.meet_book.specs.Listed.{of_seat, own_of, since, IsListed, FewerOrThese}
use Rattle.meet_book.proofs.Listing.{below, below_more, below_and, listed_past, own_many}
use Rattle.meet_book.proofs.comparing.is_whole.Goals as goal

pub loop-number-preserved : goal.loop-number-preserved
loop-number-preserved g c =
    let gone = c.args.gone in
    let records = c.args.records.now in
    let seats = c.args.seats.now in
    let lists = map g.H.Holds.held seats in
    let number = c.loop-number.number in
    let held = c.receipts.result.now in
    let so_far = c.loop-number.invariant in
    let more = below_more number records in
    let counted = c.in-Some.ensures.count in
    let seat : c.unwrap-seat.result ≡ number = grind (arith, common_steps) in
    let few = subst (λ s. FewerOrThese (since gone held) (own_of gone records s)) seat c.in-Some.ensures.fewer in
    let list : get_or lists number [] ≡ held = get_or-map g.H.Holds.held seats number c.index-seats-number.result [] (omega arith) ∙ ap g.H.Holds.held (sym c.index-seats-number.is) ∙ sym c.receipts.ensures in
    let at_number : since gone held ≡ own_of gone records number → IsListed gone records lists number = λ these. sym these ∙ ap (since gone) (sym list) in
    let many = own_many gone records number in
    record {
      fewer = omega (arith, so_far.fewer, more, many, counted, few.0);
      these = λ same other lt.
          let before : length records ≡ c.loop-number.unseen + length (below number records) = omega (arith, same, so_far.fewer, more, many, counted, few.0) in
          let all : length (since gone held) ≡ length (own_of gone records number) = omega (arith, same, so_far.fewer, more, many, counted, few.0) in
          ⊎_elim (λ (less : other < number). so_far.these before other less) (λ (at_least : number ≤ other).
          let this : number ≡ other = omega (arith, lt, at_least) in
          subst (IsListed gone records lists) this (at_number (few.1 all))) (cases_lt other number);
    }

pub returns : goal.returns
returns g c = λ nothing seat.
    let records = c.args.records.now in
    let lists = map g.H.Holds.held c.args.seats.now in
    let number = c.loop-number.number in
    let so_far = c.loop-number.invariant in
    let none : c.loop-number.unseen ≡ 0 = grind (arith, rules) in
    let last : number ≡ length c.args.seats.now = omega arith in
    let as_many : length lists ≡ number = length-map c.args.seats.now g.H.Holds.held ∙ sym last in
    let all = below_and number number records (omega arith) in
    ⊎_elim (λ less. so_far.these (omega (arith, so_far.fewer, none, all)) seat less) (λ at_least.
    let apart = below_and number seat records at_least in
    listed_past c.args.gone records lists seat (omega (arith, as_many, at_least)) (nil_from_length (of_seat seat records) (omega (arith, apart, so_far.fewer, none)))) (cases_lt seat number)
