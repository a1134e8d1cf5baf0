-- Stories whose fates are counted one by one.
use Rattle.std.proofs.Common.{◌≡◌, ℕ, ◌+◌, ◌<◌, ◌^◌, sym, ap, ◌∙◌, arith, List, [], ◌∷◌, ◌++◌, length, map, take, get_or}
use Rattle.std.proofs.lemmas.List.{length-map, map-append, take_more, length-take-le}
use Rattle.meet_sum.specs.declared.fates.FateCounts.{FateCounts}
use Rattle.meet_sum.specs.declared.stories.Story.{Story}
use Rattle.meet_sum.specs.FatesCounted.{numbers_of, fates_counted, with_fate}
use Rattle.meet_sum.specs.Stories.{fate_told}
use Rattle.meet_sum.proofs.FateLemmas.{numbers-push, fates_counted-most}

module _ (stories : List Story) (i : ℕ) (s : Story) (counts : FateCounts) (so_far : counts ≡ numbers_of (map fate_told (take i stories))) where
  -- one story more
  pub counted-more : i < length stories → s ≡ get_or stories i s → (more : FateCounts) → more ≡ with_fate counts (fate_told s) → more ≡ numbers_of (map fate_told (take (i + 1) stories))
  counted-more within is more added =
      added ∙ ap (λ c. with_fate c (fate_told s)) so_far
      ∙ sym (numbers-push (map fate_told (take i stories)) (fate_told s))
      ∙ sym (ap numbers_of (map-append fate_told (take i stories) (s ∷ [])))
      ∙ ap (λ xs. numbers_of (map fate_told xs)) (ap (λ x. take i stories ++ x ∷ []) is ∙ sym (take_more stories i s within))

  pub counted-fits : i < length stories → length stories < 2 ^ 64 → fates_counted counts + 1 < 2 ^ 64
  counted-fits within few =
      let most : fates_counted counts + 0 ≡ fates_counted (numbers_of (map fate_told (take i stories))) + 0 = ap (λ c. fates_counted c + 0) so_far in
      omega (arith, most, fates_counted-most (map fate_told (take i stories)), length-map (take i stories) fate_told, length-take-le i stories (omega arith))
