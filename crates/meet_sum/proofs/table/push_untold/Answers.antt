-- Proof of `push_untold`, src/table.rt. Appends a story that tells nothing.
use Rattle.std.proofs.Common.{◌∙◌, ap, ◌∷◌, ◌++◌, []}
use Rattle.meet_sum.proofs.table.push_untold.Goals as goal

pub returns : goal.returns
returns c = λ ticket. c.in_ok-push.ensures.items ∙ ap (λ s. c.args.stories.now.items ++ s ∷ []) (c.untold.ensures ticket)
