-- The text of seats, one more.
use Rattle.std.proofs.Common.{◌≡◌, ℕ, ◌+◌, ◌<◌, refl, sym, ap, ◌∙◌, arith, List, [], ◌∷◌, ◌++◌, length, get_or, take, add-zero}
use Rattle.std.proofs.lemmas.List.{append_assoc, append-nil, take_more, length-take-le}
use Rattle.meet_sum.specs.declared.seats.SeatSum.{SeatSum}
use Rattle.meet_sum.specs.SumTexts.{seat_text, seats_text}

seats-push : (n : ℕ) (sums : List SeatSum) (x : SeatSum) → seats_text n (sums ++ x ∷ []) ≡ seats_text n sums ++ seat_text (n + length sums) x
unfolding seats_text
seats-push n [] x = append-nil (seat_text n x) ∙ ap (λ m. seat_text m x) (sym (add-zero n))
seats-push n (s ∷ sums) x =
    let at : n + 1 + length sums ≡ n + length (s ∷ sums) = omega arith in
    ap (λ t. seat_text n s ++ t) (seats-push (n + 1) sums x ∙ ap (λ m. seats_text (n + 1) sums ++ seat_text m x) at)
    ∙ sym (append_assoc (seat_text n s) (seats_text (n + 1) sums) (seat_text (n + length (s ∷ sums)) x))

-- behind the first i comes the next
pub seats-more : (sums : List SeatSum) (i : ℕ) (d : SeatSum) → i < length sums → seats_text 0 (take (i + 1) sums) ≡ seats_text 0 (take i sums) ++ seat_text i (get_or sums i d)
seats-more sums i d within =
    let long : 0 + length (take i sums) ≡ i = (let at = length-take-le i sums (omega arith) in omega (arith, at)) in
    ap (seats_text 0) (take_more sums i d within)
    ∙ seats-push 0 (take i sums) (get_or sums i d)
    ∙ ap (λ n. seats_text 0 (take i sums) ++ seat_text n (get_or sums i d)) long

pub seats-none : seats_text 0 [] ≡ []
unfolding seats_text
seats-none = refl

-- what was appended bit by bit was appended
module _ (o : List ℕ) where
  pub three : (a b c o1 o2 o3 : List ℕ) → o1 ≡ o ++ a → o2 ≡ o1 ++ b → o3 ≡ o2 ++ c → o3 ≡ o ++ (a ++ b ++ c)
  three a b c o1 o2 o3 e f g =
      g ∙ ap (λ x. x ++ c) (f ∙ ap (λ x. x ++ b) e ∙ append_assoc o a b) ∙ append_assoc o (a ++ b) c

  pub four : (a b c d o1 o2 o3 o4 : List ℕ) → o1 ≡ o ++ a → o2 ≡ o1 ++ b → o3 ≡ o2 ++ c → o4 ≡ o3 ++ d → o4 ≡ o ++ (a ++ b ++ c ++ d)
  four a b c d o1 o2 o3 o4 e f g h =
      h ∙ ap (λ x. x ++ d) (three a b c o1 o2 o3 e f g) ∙ append_assoc o (a ++ b ++ c) d

  pub further : (whole a now next : List ℕ) → now ≡ o ++ whole → next ≡ now ++ a → next ≡ o ++ (whole ++ a)
  further whole a now next e f = f ∙ ap (λ x. x ++ a) e ∙ append_assoc o whole a
