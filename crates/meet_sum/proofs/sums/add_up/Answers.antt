-- Proof of `add_up`, src/sums.rt. Notes how long the tickets of these stories stood in the line, each at its seat.
use Rattle.std.proofs.Common.{◌≡◌, ◌+◌, ◌∙◌, sym, ap, subst, arith, map, take, None, ◌∷◌, ◌++◌, []}
use Rattle.std.proofs.lemmas.List.{take_more, take_all}
use Rattle.std.proofs.lemmas.List.Elements.{All-nil}
use Rattle.meet_sum.specs.FatesCounted.{numbers_of}
use Rattle.meet_sum.specs.Seats.{seat_sum, HasSeats}
use Rattle.meet_sum.specs.Stories.{fate_told}
use Rattle.meet_sum.specs.Waits.{IsLongest, stay_told}
use Rattle.meet_sum.proofs.FatesCounting.{counted-more, counted-fits}
use Rattle.meet_sum.proofs.WaitLemmas.{one-more}
use Rattle.meet_sum.proofs.sums.add_up.Goals as goal

pub loop-story-init : goal.loop-story-init
loop-story-init c = record {
  every = c.requires;
  counted = c.no_fates-fates.ensures;
  longest = All-nil (λ x. stay_told c.args.opened c.args.all x ≡ None);
  noted = λ before records has. has;
}

pub add-requires : goal.add-requires
add-requires c =
    counted-fits c.args.stories.now c.loop-story.story-index c.story-item.result c.loop-story.fates c.loop-story.invariant.counted c.loop-story-test.true (omega arith)

pub loop-story-preserved : goal.loop-story-preserved
loop-story-preserved c =
    let o = c.args.opened in
    let a = c.args.all in
    let i = c.loop-story.story-index in
    let xs = c.args.stories.now in
    let s = c.story-item.result in
    let before = c.loop-story.invariant in
    let more : take i xs ++ s ∷ [] ≡ take (i + 1) xs = ap (λ x. take i xs ++ x ∷ []) c.story-item.is ∙ sym (take_more xs i s c.loop-story-test.true) in
    record {
      every = c.note.ensures.every;
      counted = counted-more xs i s c.loop-story.fates before.counted c.loop-story-test.true c.story-item.is c.add.new.counts c.add.ensures;
      longest = one-more o a xs i s c.longest_with-wait.result c.loop-story-test.true c.story-item.is (c.longest_with-wait.ensures (take i xs) before.longest);
      noted = λ first since has. subst (λ ys. HasSeats (seat_sum first since o a ys) c.note.new.sums.items) more
          (c.note.ensures.told first since (take i xs) (before.noted first since has));
    }

pub returns-clause-fates : goal.returns-clause-fates
returns-clause-fates c = c.loop-story.invariant.counted ∙ ap (λ xs. numbers_of (map fate_told xs)) (take_all c.loop-story.story-index c.args.stories.now c.loop-story-test.false)

pub returns-clause-wait : goal.returns-clause-wait
returns-clause-wait c = subst (λ xs. IsLongest c.args.opened c.args.all xs c.loop-story.wait) (take_all c.loop-story.story-index c.args.stories.now c.loop-story-test.false) c.loop-story.invariant.longest

pub returns-clause-seats : goal.returns-clause-seats
returns-clause-seats c = λ before records has.
    subst (λ ys. HasSeats (seat_sum before records c.args.opened c.args.all ys) c.loop-story.seats.items) (take_all c.loop-story.story-index c.args.stories.now c.loop-story-test.false) (c.loop-story.invariant.noted before records has)
