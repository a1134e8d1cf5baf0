-- The lines of calls, one more.
use Rattle.std.proofs.Common.{◌≡◌, ◌∙◌, ℕ, ◌+◌, ◌<◌, ap, sym, List, [], ◌∷◌, ◌++◌, length, take, get_or, add-one}
use Rattle.std.proofs.Common.{append_assoc}
use Rattle.std.proofs.Math.Seq.{take-suc}
use Rattle.std.proofs.lemmas.List.{append-nil}
use Rattle.meet_tickets.specs.declared.places.Order.{Order}
use Rattle.meet_overlap.specs.declared.calls.Call.{Call}
use Rattle.meet_judge.specs.CallText.{call_text, lines_text}

-- a call more is a line more
pub lines_more : (o : Order) (calls : List Call) (call : Call) → lines_text o (calls ++ call ∷ []) ≡ lines_text o calls ++ call_text o call
lines_more o [] call = append-nil (call_text o call)
lines_more o (c ∷ calls) call = ap (λ t. call_text o c ++ t) (lines_more o calls call) ∙ sym (append_assoc (call_text o c) (lines_text o calls) (call_text o call))

regrouped : (o a b c d e f g h i : List ℕ) → o ++ a ++ b ++ c ++ d ++ e ++ f ++ g ++ h ++ i ≡ o ++ (a ++ b ++ c ++ d ++ e ++ f ++ g ++ h ++ i)
regrouped o a b c d e f g h i = simp append_assoc

-- what is appended piece by piece is appended whole
pub appended : (o o1 o2 o3 o4 o5 o6 o7 o8 o9 a b c d e f g h i : List ℕ) → o1 ≡ o ++ a → o2 ≡ o1 ++ b → o3 ≡ o2 ++ c → o4 ≡ o3 ++ d → o5 ≡ o4 ++ e → o6 ≡ o5 ++ f → o7 ≡ o6 ++ g →
    o8 ≡ o7 ++ h → o9 ≡ o8 ++ i → o9 ≡ o ++ (a ++ b ++ c ++ d ++ e ++ f ++ g ++ h ++ i)
appended o o1 o2 o3 o4 o5 o6 o7 o8 o9 a b c d e f g h i p1 p2 p3 p4 p5 p6 p7 p8 p9 =
    p9
    ∙ ap (λ t. t ++ i) p8
    ∙ ap (λ t. t ++ h ++ i) p7
    ∙ ap (λ t. t ++ g ++ h ++ i) p6
    ∙ ap (λ t. t ++ f ++ g ++ h ++ i) p5
    ∙ ap (λ t. t ++ e ++ f ++ g ++ h ++ i) p4
    ∙ ap (λ t. t ++ d ++ e ++ f ++ g ++ h ++ i) p3
    ∙ ap (λ t. t ++ c ++ d ++ e ++ f ++ g ++ h ++ i) p2
    ∙ ap (λ t. t ++ b ++ c ++ d ++ e ++ f ++ g ++ h ++ i) p1
    ∙ regrouped o a b c d e f g h i

-- the lines so far, and one more
pub one_more : (o : Order) (calls : List Call) (n : ℕ) (call : Call) (old now more : List ℕ) → n < length calls → call ≡ get_or calls n call →
    now ≡ old ++ lines_text o (take n calls) → more ≡ now ++ call_text o call → more ≡ old ++ lines_text o (take (n + 1) calls)
one_more o calls n call old now more there is so_far pushed =
    let taken : take (n + 1) calls ≡ take n calls ++ call ∷ [] = ap (λ m. take m calls) (add-one n) ∙ take-suc calls n call there ∙ ap (λ x. take n calls ++ x ∷ []) (sym is) in
    pushed
    ∙ ap (λ t. t ++ call_text o call) so_far
    ∙ append_assoc old (lines_text o (take n calls)) (call_text o call)
    ∙ ap (λ t. old ++ t) (sym (lines_more o (take n calls) call) ∙ ap (lines_text o) (sym taken))

-- the same of four pieces
pub appended_four : (o o1 o2 o3 o4 a b c d : List ℕ) → o1 ≡ o ++ a → o2 ≡ o1 ++ b → o3 ≡ o2 ++ c → o4 ≡ o3 ++ d → o4 ≡ o ++ (a ++ b ++ c ++ d)
appended_four o o1 o2 o3 o4 a b c d p1 p2 p3 p4 =
    p4
    ∙ ap (λ t. t ++ d) p3
    ∙ ap (λ t. t ++ c ++ d) p2
    ∙ ap (λ t. t ++ b ++ c ++ d) p1
    ∙ regrouped_four o a b c d
  where
    regrouped_four : (o a b c d : List ℕ) → o ++ a ++ b ++ c ++ d ≡ o ++ (a ++ b ++ c ++ d)
    regrouped_four o a b c d = simp append_assoc

-- the same of three pieces
pub appended_three : (o o1 o2 o3 a b c : List ℕ) → o1 ≡ o ++ a → o2 ≡ o1 ++ b → o3 ≡ o2 ++ c → o3 ≡ o ++ (a ++ b ++ c)
appended_three o o1 o2 o3 a b c p1 p2 p3 =
    p3
    ∙ ap (λ t. t ++ c) p2
    ∙ ap (λ t. t ++ b ++ c) p1
    ∙ regrouped_three o a b c
  where
    regrouped_three : (o a b c : List ℕ) → o ++ a ++ b ++ c ≡ o ++ (a ++ b ++ c)
    regrouped_three o a b c = simp append_assoc
