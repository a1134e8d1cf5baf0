-- Proof of `withdraw`, src/steps.rt. Takes a posted item back and clears the slot, or returns the word that it found.
use Rattle.std.proofs.Common.{arith, ap, sym, ◌∙◌, Some, None}
use Rattle.meet_exchange.specs.declared.views.Duty.TheVariants.{TookBack}
use Rattle.meet_exchange.specs.declared.views.InHand.TheVariants.{At}
use Rattle.meet_exchange.specs.Words.{word_of}
use Rattle.meet_exchange.specs.Told.{round_in}
use Rattle.meet_exchange.proofs.Holding.{after_exchange, one_held}
use Rattle.meet_exchange.proofs.Keeping.{withdraws, clears_withdrawn}
use Rattle.meet_exchange.proofs.steps.withdraw.Goals as goal

pub compare_exchange-found-requires : goal.compare_exchange-found-requires
compare_exchange-found-requires g c = let is = c.requires.posted.2 in (
  c.requires.place.0,
  omega arith,
  withdraws g.T.Marked.mark_of c.args.board.now.key _ _ c.args.slot c.args.round _ _ c.args.mark c.args.token.now.me c.requires.place.1 c.requires.posted.0 c.requires.posted.1
      (c.word-posted.ensures ∙ ap (λ z. word_of 2 z c.args.round) (sym is)) (c.word-held.ensures ∙ ap (λ z. word_of 1 z c.args.round) (sym is)),
)

pub exchange-requires : goal.exchange-requires
exchange-requires g c = let h = c.compare_exchange-found.ensures.2.0.0 c.if-found-posted.false in
    let o = one_held _ _ _ _ _ h.2 (ap (λ m. m.1) c.requires.posted.0) in (c.compare_exchange-found.ensures.0 ∙ c.requires.place.0, (Some h.0, o.2))

pub store-requires : goal.store-requires
store-requires g c = let h = c.compare_exchange-found.ensures.2.0.0 c.if-found-posted.false in
    let o = one_held _ _ _ _ _ h.2 (ap (λ m. m.1) c.requires.posted.0) in
    let x = after_exchange _ _ c.args.slot (Some h.0) None o.0 c.exchange.ensures.3 in (
      c.exchange.ensures.0 ∙ (c.compare_exchange-found.ensures.0 ∙ c.requires.place.0),
      omega arith,
      clears_withdrawn g.T.Marked.mark_of c.args.board.now.key _ _ c.args.slot c.args.round _ c.exchange.new.seat.me c.requires.place.1 x.0
          (ap (λ v. v.hand) (x.1 ∙ o.1) ∙ ap (λ z. At c.args.slot (round_in z) TookBack) c.requires.posted.1) (let e = c.free_word.ensures in omega arith) (omega arith),
    )
