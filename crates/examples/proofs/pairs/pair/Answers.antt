-- Proof of `pair`, src/pairs.rt. The two seats of a new queue, the first and the second.
use Rattle.std.proofs.Common.{◌≡◌, List, [], ◌∷◌, ◌++◌, length, Some, refl, ap, ◌∙◌, append_assoc}
use Rattle.std.specs.Prelude.{slice_get}
use Rattle.examples.proofs.pairs.pair.Goals as goal

-- what stands behind a list is there
behind : {A : Type 0} (xs : List A) (x : A) (rest : List A) → slice_get (xs ++ x ∷ rest) (length xs) ≡ Some x
behind [] x rest = refl
behind (y ∷ xs) x rest = behind xs x rest

pub returns-in-Some-Some : goal.returns-in-Some-Some
returns-in-Some-Some g c =
    let all = c.args.made.items in
    let one = c.pop.new.self.items in
    let none = c.pop-2.new.self.items in
    let last = c.in-Some-Some.ensures.items in
    let first = c.in-Some-Some.ensures'.items in
    let second : slice_get all (length one) ≡ Some c.in-Some-Some.second =
    ap (λ l. slice_get l (length one)) last ∙ behind one c.in-Some-Some.second [] in
    let whole = last ∙ ap (λ l. l ++ c.in-Some-Some.second ∷ []) first
    ∙ append_assoc none (c.in-Some-Some.first ∷ []) (c.in-Some-Some.second ∷ []) in
    let begin : slice_get all (length none) ≡ Some c.in-Some-Some.first =
    ap (λ l. slice_get l (length none)) whole ∙ behind none c.in-Some-Some.first (c.in-Some-Some.second ∷ []) in
    record { fresh = ((c.requires.fresh _ _ begin).1, (c.requires.fresh _ _ second).1) }
