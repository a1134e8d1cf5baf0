-- The seats that a new arena hands out.
use Rattle.std.proofs.Common.{◌≡◌, ℕ, suc, ◌+◌, ◌-◌, ◌<◌, List, [], ◌∷◌, ◌++◌, length, ap, ◌∙◌, arith}
use Rattle.atomic_table.specs.Seated.{TableId}
use Rattle.meet_exchange.specs.Rule.{fresh, fresh_from}
use Rattle.meet_exchange.specs.Seats.{SeatView, AreNew}

pub new_snoc : (z : TableId) (i : ℕ) (ss : List SeatView) (s : SeatView) → AreNew z i ss → s.arena ≡ z → s.number ≡ i + length ss → s.list ≡ [] → s.seen ≡ [] → AreNew z i (ss ++ s ∷ [])
new_snoc z i [] s all t n l w = let e : i + 0 ≡ i = omega arith in (t, n ∙ e, l, w, tt)
new_snoc z i (x ∷ ss) s all t n l w = let e : i + suc (length ss) ≡ suc i + length ss = omega arith in (all.0, all.1, all.2, all.3, new_snoc z (suc i) ss s all.4 t (n ∙ e) l w)

pub fresh_more : (i n : ℕ) → i < n → fresh_from i (n - i) ≡ fresh i ∷ fresh_from (i + 1) (n - (i + 1))
fresh_more i n l = let e : n - i ≡ suc (n - (i + 1)) = omega arith in let f : suc i ≡ i + 1 = omega arith in ap (fresh_from i) e ∙ ap (λ z. fresh i ∷ fresh_from z (n - (i + 1))) f

-- the last of these seats, and those before it
pub new_last : (z : TableId) (i : ℕ) (ss : List SeatView) (s : SeatView) → AreNew z i (ss ++ s ∷ []) → AreNew z i ss × (s.arena ≡ z)
new_last z i [] s all = (tt, all.0)
new_last z i (x ∷ ss) s all = let h = new_last z (suc i) ss s all.4 in ((all.0, all.1, all.2, all.3, h.0), h.1)
