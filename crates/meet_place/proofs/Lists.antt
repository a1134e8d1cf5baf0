-- Lists that are made element by element.
use Rattle.std.proofs.Common.{◌≡◌, List, [], ◌∷◌, ◌++◌, map, append_assoc, sym, ap, ◌∙◌}
use Rattle.std.proofs.lemmas.List.{map-append}

-- an element goes from what is left to what was taken
pub moves_on : {A B C : Type 0} (f : A → C) (h : B → C) (taken : List A) (x : A) (left rest : List B) (y : B)
    (all : List C) → left ≡ y ∷ rest → f x ≡ h y → map f taken ++ map h left ≡ all
    → map f (taken ++ x ∷ []) ++ map h rest ≡ all
moves_on f h taken x left rest y all is same e =
    ap (λ l. l ++ map h rest) (map-append f taken (x ∷ [])) ∙ append_assoc (map f taken) (f x ∷ []) (map h rest)
    ∙ (λ j. map f taken ++ same j ∷ map h rest) ∙ ap (λ l. map f taken ++ map h l) (sym is) ∙ e

-- the same where it stays as it is
pub moves_plain : {A : Type 0} (taken : List A) (x : A) (left rest : List A) (y : A) (all : List A) → left ≡ y ∷ rest
    → x ≡ y → taken ++ left ≡ all → (taken ++ x ∷ []) ++ rest ≡ all
moves_plain taken x left rest y all is same e =
    append_assoc taken (x ∷ []) rest ∙ (λ j. taken ++ same j ∷ rest) ∙ ap (λ l. taken ++ l) (sym is) ∙ e
