-- Proof of `split_word`, src/text/words.rt. Cuts a text at its first space: what stands before it, and what is left
-- from it on.
use Rattle.std.proofs.Common.{◌≡◌, rules, ap, ◌∙◌, length, take, drop, unwrap_or}
use Rattle.std.specs.List.{position}
use Rattle.std.proofs.lemmas.Iterator.{YieldsList-from_slice}
use Rattle.std.proofs.lemmas.Iterator.Search.{position_from_yields_List}
use Rattle.meet_run.proofs.Texts.WordLemmas.{is_space, word-at, rest-at}
use Rattle.meet_run.proofs.text.words.split_word.Goals as goal

pub returns-clause-word : goal.returns-clause-word
returns-clause-word c =
    let bs = c.args.text.now in
    let found : c.position.result ≡ position is_space bs = position_from_yields_List is_space _ _ c.position.result c.position.ensures.ran (YieldsList-from_slice _ c.iter.ensures.rest) (λ x b q k. search rules) in
    let place : c.unwrap_or-end.result ≡ unwrap_or (position is_space bs) (length bs) = c.unwrap_or-end.ensures ∙ ap (λ o. unwrap_or o (length bs)) found in
    c.split_at.ensures.front ∙ (ap (λ k. take k bs) place ∙ word-at bs)

pub returns-clause-rest : goal.returns-clause-rest
returns-clause-rest c =
    let bs = c.args.text.now in
    let found : c.position.result ≡ position is_space bs = position_from_yields_List is_space _ _ c.position.result c.position.ensures.ran (YieldsList-from_slice _ c.iter.ensures.rest) (λ x b q k. search rules) in
    let place : c.unwrap_or-end.result ≡ unwrap_or (position is_space bs) (length bs) = c.unwrap_or-end.ensures ∙ ap (λ o. unwrap_or o (length bs)) found in
    c.split_at.ensures.back ∙ (ap (λ k. drop k bs) place ∙ rest-at bs)
