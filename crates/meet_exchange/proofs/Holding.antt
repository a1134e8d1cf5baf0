-- What a token holds after a step or an exchange.
use Rattle.std.proofs.Common.{◌≡◌, ℕ, List, [], ◌∷◌, sym, ap, ◌∙◌}
use Rattle.atomic_table.specs.Table.{Me, rest}
use Rattle.meet_exchange.specs.declared.views.Trail.{Trail}
use Rattle.meet_exchange.specs.Rule.{top}

module _ {S : Type 0} where
  pub after_exchange : (old new : Me S (List Trail)) (k : ℕ) (a b : S) → old ≡ (top old.0 ∷ [], (k, a) ∷ []) → new ≡ (old.0, (k, b) ∷ rest old.1)
      → (new ≡ (top new.0 ∷ [], (k, b) ∷ [])) × (top new.0 ≡ top old.0)
  after_exchange old new k a b h e = let f : new.0 ≡ old.0 = ap (λ m. m.0) e in let g : rest old.1 ≡ [] = ap (λ m. rest m.1) h in let one : old.0 ≡ top old.0 ∷ [] = ap (λ m. m.0) h in
      let up : top new.0 ≡ top old.0 = ap top f in let both : old.0 ≡ top new.0 ∷ [] = one ∙ ap (λ v. v ∷ []) (sym up) in
      (e ∙ (λ i. (both i, (k, b) ∷ g i)), up)

  pub one_held : (n : Me S (List Trail)) (w : Trail) (k : ℕ) (y : S) (c : List (ℕ × S)) → n ≡ (w ∷ [], (k, y) ∷ c) → c ≡ []
      → (n ≡ (top n.0 ∷ [], (k, y) ∷ [])) × (top n.0 ≡ w) × (n.1 ≡ (k, y) ∷ rest n.1)
  one_held n w k y c e none = let f : top n.0 ≡ w = ap (λ m. top m.0) e in let g : n.1 ≡ (k, y) ∷ c = ap (λ m. m.1) e in
      (e ∙ (λ i. (sym f i ∷ [], (k, y) ∷ none i)), f, g ∙ ap (λ z. (k, y) ∷ z) (sym (ap rest g)))
