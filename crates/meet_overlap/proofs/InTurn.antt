-- The latest call of each seat that has begun tells whether a call comes in its turn.
use Rattle.std.proofs.Common.{◌≡◌, ℕ, ◌≤◌, Some, List, ap, ◌∙◌, subst, ⊎_elim, inl, inr, arith}
use Rattle.std.specs.Prelude.{slice_get}
use Rattle.std.proofs.lemmas.Bool.Decides.{eqb_tells}
use Rattle.meet_tickets.specs.BySeat.{put_at}
use Rattle.meet_overlap.specs.declared.calls.Call.{Call}
use Rattle.meet_overlap.specs.declared.calls.Stage.{Stage}
use Rattle.meet_overlap.specs.Calls.{IsInTurn}
use Rattle.meet_overlap.specs.Known.{AreLatest}
use Rattle.meet_overlap.proofs.Ways.{put_same, put_other}

one : (calls : List Call) (n : ℕ) (a b : Call) → slice_get calls n ≡ Some a → slice_get calls n ≡ Some b → a ≡ b
one calls n a b p q = cc

module _ (calls : List Call) (stages : ℕ → Stage) (latest : ℕ → ℕ) (n : ℕ) (call : Call) (known : slice_get calls n ≡ Some call) where
  -- a call that isn't before the latest of its seat comes in turn
  pub latest_turn : AreLatest calls stages latest → latest call.seat ≤ n → IsInTurn calls stages n
  latest_turn all le m mine later lt own there same = ⊎_elim
      (λ ahead. ahead)
      (λ within.
      let is : mine ≡ call = one calls n mine call own known in
      let seat : later.seat ≡ call.seat = same ∙ ap (λ (c : Call). c.seat) is in
      let at : latest later.seat ≡ latest call.seat = ap latest seat in
      absurd (omega arith))
      (all m later there)

  -- and is the latest then
  pub latest_noted : AreLatest calls stages latest → latest call.seat ≤ n → (s : Stage) → AreLatest calls (put_at stages n s) (put_at latest call.seat n)
  latest_noted all le s m other there = ⊎_elim
      (λ q.
      let now : put_at latest call.seat n other.seat ≡ n = ap (put_at latest call.seat n) q.1 ∙ put_same latest call.seat n in
      let was : latest other.seat ≡ latest call.seat = ap latest q.1 in
      ⊎_elim
      (λ here. let at = here.1 in inr (omega arith))
      (λ else. ⊎_elim
      (λ ahead. inl (put_other stages n s m else.1 ∙ ahead))
      (λ within. inr (omega arith))
      (all m other there))
      (eqb_tells m n))
      (λ q.
      let now : put_at latest call.seat n other.seat ≡ latest other.seat = put_other latest call.seat n other.seat q.1 in
      ⊎_elim
      (λ here.
      let at : slice_get calls n ≡ Some other = subst (λ x. slice_get calls x ≡ Some other) here.1 there in
      let is : other ≡ call = one calls n other call at known in
      absurd (q.1 (ap (λ (c : Call). c.seat) is)))
      (λ else. ⊎_elim
      (λ ahead. inl (put_other stages n s m else.1 ∙ ahead))
      (λ within. inr (omega arith))
      (all m other there))
      (eqb_tells m n))
      (eqb_tells other.seat call.seat)
