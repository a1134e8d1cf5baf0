-- Proof of `gain`, src/steps.rt. Takes the item that was seen to answer a posted one, and clears the slot.
use Rattle.std.proofs.Common.{arith, ap, sym, ◌∙◌, Some, None}
use Rattle.meet_exchange.specs.declared.views.Duty.TheVariants.{Gathered}
use Rattle.meet_exchange.specs.declared.views.InHand.TheVariants.{At}
use Rattle.meet_exchange.specs.Words.{word_of}
use Rattle.meet_exchange.specs.Told.{round_in}
use Rattle.meet_exchange.proofs.Holding.{after_exchange, one_held}
use Rattle.meet_exchange.proofs.Keeping.{gains, clears_collected}
use Rattle.meet_exchange.proofs.steps.gain.Goals as goal

pub compare_exchange-found-requires : goal.compare_exchange-found-requires
compare_exchange-found-requires g c = let is = c.requires.ready.2 in (
  c.requires.place.0,
  omega arith,
  gains g.T.Marked.mark_of c.args.board.now.key _ _ c.args.slot c.args.round _ _ c.args.mark c.args.token.now.me c.requires.place.1 c.requires.ready.0 c.requires.ready.1
      (c.word-answered.ensures ∙ ap (λ z. word_of 4 z c.args.round) (sym is)) (c.word-held.ensures ∙ ap (λ z. word_of 1 z c.args.round) (sym is)),
)

pub exchange-requires : goal.exchange-requires
exchange-requires g c = let h = c.compare_exchange-found.ensures.2.1 in
    let o = one_held _ _ _ _ _ h.1 (ap (λ m. m.1) c.requires.ready.0) in (c.compare_exchange-found.ensures.0 ∙ c.requires.place.0, (Some h.0, o.2))

pub store-requires : goal.store-requires
store-requires g c = let h = c.compare_exchange-found.ensures.2.1 in
    let o = one_held _ _ _ _ _ h.1 (ap (λ m. m.1) c.requires.ready.0) in
    let x = after_exchange _ _ c.args.slot (Some h.0) None o.0 c.exchange.ensures.3 in (
      c.exchange.ensures.0 ∙ (c.compare_exchange-found.ensures.0 ∙ c.requires.place.0),
      omega arith,
      clears_collected g.T.Marked.mark_of c.args.board.now.key _ _ c.args.slot c.args.round _ c.exchange.new.seat.me c.requires.place.1 x.0
          (ap (λ v. v.hand) (x.1 ∙ o.1) ∙ ap (λ z. At c.args.slot (round_in z) Gathered) c.requires.ready.1) (let e = c.free_word.ensures in omega arith) (omega arith),
    )
