-- Proof of `read_number`, src/text/words.rt. The number below 2^64 of which this word is the one spelling, if there is
-- one.
use Rattle.meet_run.specs.Texts.Words.{BeginsAsNumber}
use Rattle.meet_run.proofs.Texts.WordLemmas.{read-number}
use Rattle.meet_run.proofs.text.words.read_number.Goals as goal

pub returns : goal.returns
returns c =
    let begins : BeginsAsNumber c.args.word.now = c.is_misspelled.ensures.right cc in
    read-number c.args.word.now c.read_digits.result begins c.read_digits.ensures.read c.read_digits.ensures.none c.read_digits.ensures.small
