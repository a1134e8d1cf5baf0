-- Proof of `is_misspelled`, src/text/words.rt. Whether a word can't be a number's one spelling by how it begins: it is
-- empty, or has a sign, or a 0 in front.
use Rattle.std.proofs.Common.{◌≡◌, ◌∙◌, [], get_or, length, ap}
use Rattle.std.proofs.lemmas.Bool.{ltb-true, eqb-true}
use Rattle.meet_run.specs.Texts.Words.{number_spelled}
use Rattle.meet_run.proofs.Texts.WordLemmas.{empty-word, signed-word, long-zero, no-first, first-is}
use Rattle.meet_run.proofs.text.words.is_misspelled.Goals as goal

pub returns-in-None-clause-wrong : goal.returns-in-None-clause-wrong
returns-in-None-clause-wrong c =
    let empty : c.args.word.now ≡ [] = no-first c.args.word.now c.in-None.ensures.value in
    λ is. ap number_spelled empty ∙ empty-word

pub returns-in-Some-eq48-clause-wrong : goal.returns-in-Some-eq48-clause-wrong
returns-in-Some-eq48-clause-wrong c =
    let zero : get_or c.args.word.now 0 0 ≡ 48 = first-is c.args.word.now _ c.in-Some-eq48.ensures.value ∙ cc in
    λ is. long-zero c.args.word.now zero (ltb-true 1 (length c.args.word.now) is)

pub returns-in-Some-clause-wrong : goal.returns-in-Some-clause-wrong
returns-in-Some-clause-wrong c =
    let first : get_or c.args.word.now 0 0 ≡ c.in-Some.first.now = first-is c.args.word.now _ c.in-Some.ensures.value in
    λ is. signed-word c.args.word.now (first ∙ eqb-true c.in-Some.first.now 43 is)
