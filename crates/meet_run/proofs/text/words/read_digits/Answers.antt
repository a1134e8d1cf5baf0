-- Proof of `read_digits`, src/text/words.rt. The number that digits write, where each byte is one and the number is
-- below 2^64.
use Rattle.std.proofs.Common.{arith}
use Rattle.meet_run.proofs.Texts.WordLemmas.{too-great}
use Rattle.meet_run.proofs.text.words.read_digits.Goals as goal

pub returns-in-None-checked_add-clause-none : goal.returns-in-None-checked_add-clause-none
returns-in-None-checked_add-clause-none c = λ digits.
    too-great c.args.word.now c.loop-byte.byte-index c.loop-byte.number c.loop-byte-test.true c.loop-byte.invariant.value (c.loop-byte.invariant.left digits)
    (λ small. c.in-None-checked_add.ensures (omega (arith, small, c.in-Some.ensures.1, c.from-digit.ensures)))

pub returns-in-None-clause-none : goal.returns-in-None-clause-none
returns-in-None-clause-none c = λ digits.
    too-great c.args.word.now c.loop-byte.byte-index c.loop-byte.number c.loop-byte-test.true c.loop-byte.invariant.value (c.loop-byte.invariant.left digits)
    (λ small. c.in-None.ensures (omega (arith, small)))
