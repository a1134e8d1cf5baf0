-- Of a list those elements of which something is true.
use Rattle.std.proofs.Common.{◌≡◌, ℕ, suc, ◌+◌, ◌<◌, refl, sym, ap, ◌∙◌, subst, ⊎_elim, List, [], ◌∷◌, ◌++◌, take, length, slice_index_or, Contains, arith}
use Rattle.std.proofs.Math.Seq.{take-suc}
use Rattle.std.specs.Prelude.{◌↔◌, Bool, true, false, IsTrue, if◌then◌else◌}
use Rattle.std.proofs.lemmas.List.Elements.{All-push, All-weaker, Contains-push, Contains-push_cases, Contains-append_left}
use Rattle.meet_tickets.specs.declared.records.Deed.{Deed}
use Rattle.meet_explain.specs.Answers.{AreChosen}

-- of none, none
pub chosen_none : (P : Deed → Type 0) → AreChosen P [] []
chosen_none P = record {
  sound = λ k d less. absurd (omega (arith, less));
  whole = λ d there is. absurd (omega (arith, there.1));
}

-- one more, of which it is true
pub chosen_more : (P : Deed → Type 0) (deeds list : List Deed) (deed : Deed) → AreChosen P deeds list → P deed → AreChosen P (deeds ++ deed ∷ []) (list ++ deed ∷ [])
chosen_more P deeds list deed are is = record {
  sound = All-push (λ d. Contains (deeds ++ deed ∷ []) d × P d) list deed
      (All-weaker (λ d. Contains deeds d × P d) (λ d. Contains (deeds ++ deed ∷ []) d × P d) (λ d both. (Contains-append_left deeds (deed ∷ []) d both.0, both.1)) list are.sound)
      (Contains-push deeds deed, is);
  whole = λ d there true. ⊎_elim
      (λ before. Contains-append_left list (deed ∷ []) d (are.whole d before true))
      (λ same. subst (Contains (list ++ deed ∷ [])) same (Contains-push list deed))
      (Contains-push_cases deeds deed d there);
}

-- one more, of which it isn't
pub chosen_less : (P : Deed → Type 0) (deeds list : List Deed) (deed : Deed) → AreChosen P deeds list → (P deed → ⊥) → AreChosen P (deeds ++ deed ∷ []) list
chosen_less P deeds list deed are untrue = record {
  sound = All-weaker (λ d. Contains deeds d × P d) (λ d. Contains (deeds ++ deed ∷ []) d × P d) (λ d both. (Contains-append_left deeds (deed ∷ []) d both.0, both.1)) list are.sound;
  whole = λ d there true. ⊎_elim
      (λ before. are.whole d before true)
      (λ same. absurd (untrue (subst P (sym same) true)))
      (Contains-push_cases deeds deed d there);
}

untrue : false ≡ true → ⊥
untrue is = cc

-- so many and one
next : (deeds : List Deed) (i : ℕ) (deed : Deed) → i < length deeds → slice_index_or deeds i deed ≡ deed → take (i + 1) deeds ≡ take i deeds ++ deed ∷ []
next deeds i deed less is = ap (λ n. take n deeds) (plus i) ∙ (take-suc deeds i deed less ∙ ap (λ x. take i deeds ++ x ∷ []) is)
  where
    plus : (i : ℕ) → i + 1 ≡ suc i
    plus i = omega arith

-- the next of a list
pub chosen_next : (P : Deed → Type 0) (deeds list : List Deed) (i : ℕ) (deed : Deed) (may : Bool) → i < length deeds → slice_index_or deeds i deed ≡ deed → (IsTrue may ↔ P deed) →
    AreChosen P (take i deeds) list → AreChosen P (take (i + 1) deeds) (if may then list ++ deed ∷ [] else list)
chosen_next P deeds list i deed true less is tells are = subst (λ ds. AreChosen P ds (list ++ deed ∷ [])) (sym (next deeds i deed less is)) (chosen_more P (take i deeds) list deed are (tells.0 refl))
chosen_next P deeds list i deed false less is tells are = subst (λ ds. AreChosen P ds list) (sym (next deeds i deed less is)) (chosen_less P (take i deeds) list deed are (λ holds. untrue (tells.1 holds)))
