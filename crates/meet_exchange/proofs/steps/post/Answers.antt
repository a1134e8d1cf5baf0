-- Proof of `post`, src/steps.rt. Puts the item into a claimed slot, and posts it.
use Rattle.std.proofs.Common.{arith, ap, sym, ◌∙◌, Some, None}
use Rattle.meet_exchange.specs.Words.{word_of}
use Rattle.meet_exchange.proofs.Holding.{after_exchange}
use Rattle.meet_exchange.proofs.Keeping.{posts}
use Rattle.meet_exchange.proofs.steps.post.Goals as goal

pub store-requires : goal.store-requires
store-requires g c = let h = after_exchange _ _ c.args.slot None (Some c.args.item) c.requires.claimed.0 c.exchange-old.ensures.3 in (
  c.exchange-old.ensures.0 ∙ c.requires.place.0,
  omega arith,
  posts g.T.Marked.mark_of c.args.board.now.key _ _ c.args.slot c.args.round _ c.args.item c.exchange-old.new.seat.me c.requires.place.1 h.0 (ap (λ v. v.hand) h.1 ∙ c.requires.claimed.1)
      (c.word.ensures ∙ ap (λ z. word_of 2 z c.args.round) (sym (ap (λ v. v.number) h.1 ∙ c.requires.claimed.2))),
)
