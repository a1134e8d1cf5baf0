-- Proof of `is_in_turn`, src/turns.rt. Whether no call of its seat that stands behind the one of this number has begun.
use Rattle.std.proofs.Common.{◌≡◌, ◌<◌, ◌≤◌, ◌∙◌, Some, length, refl, ap, ⊎_elim, arith}
use Rattle.std.specs.Prelude.{slice_get}
use Rattle.std.proofs.lemmas.Bool.{cases_lt}
use Rattle.std.proofs.lemmas.Option.{slice_get_read}
use Rattle.meet_overlap.specs.declared.calls.Call.{Call}
use Rattle.meet_overlap.proofs.Tables.{got_below}
use Rattle.meet_overlap.proofs.Windows.{beyond}
use Rattle.meet_overlap.proofs.turns.is_in_turn.Goals as goal

pub returns : goal.returns
returns c =
    let calls = c.args.calls.now in
    let n = c.args.number in
    let window = c.args.window.now in
    let known : slice_get calls n ≡ Some c.index-calls-number.result = slice_get_read calls (length calls) n c.index-calls-number.result refl c.requires c.index-calls-number.is in (
      λ _ m call later lt own there same.
          let mine : call ≡ c.index-calls-number.result = cc in
          let below : m < length calls = got_below calls m later there in
          let seat = same ∙ ap (λ (x : Call). x.seat) (mine ∙ c.index-calls-number.is) in
          ⊎_elim
          (λ within. c.loop-later.invariant m later lt within there seat)
          (λ past.
          let test = c.loop-later-test.false in
          let end : c.end_of-end.result ≤ m = omega arith in
          let behind = c.end_of-end.ensures.behind (omega arith) in
          beyond window.first window.stages.items m (omega arith))
          (cases_lt m c.loop-later.later),
      λ _. refl,
    )
