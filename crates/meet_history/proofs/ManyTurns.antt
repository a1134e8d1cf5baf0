-- The turns of a list of calls, one call at a time.
use Rattle.std.proofs.Common.{◌≡◌, ℕ, ◌+◌, ◌<◌, sym, ap, ◌∙◌, append_assoc, List, ◌∷◌, ◌++◌, length, get_or, drop}
use Rattle.std.proofs.lemmas.List.{drop_more}
use Rattle.meet_history.specs.declared.one_thread.verbs.Call.{Call}
use Rattle.meet_history.specs.declared.one_thread.setup.Setup.{Setup}
use Rattle.meet_history.specs.OneThread.{Place, Turn, joined, turn, turns}

-- a part of a turn that is a list, and of two turns is one's behind the other's
abbrev pub IsListed : {X : Type 0} → (Turn → List X) → Type 0
IsListed part = (t : Turn) (rest : Place → Turn) → part (joined t rest) ≡ part t ++ part (rest t.place)

-- what was said so far and what the rest will say stay the same, over one call
pub part-step : {X : Type 0} (part : Turn → List X) (listed : IsListed part) (setup now : Setup) (p q : Place) (calls : List Call) (i : ℕ) (call : Call) (said after whole : List X) → now ≡ setup → i < length calls → call ≡ get_or calls i call → said ++ part (turns setup p (drop i calls)) ≡ whole → after ≡ said ++ part (turn now p call) → q ≡ (turn now p call).place → after ++ part (turns setup q (drop (i + 1) calls)) ≡ whole
part-step part listed setup now p q calls i call said after whole same there item so_far said_more moved =
    let here : drop i calls ≡ call ∷ drop (i + 1) calls = drop_more calls i call there ∙ ap (λ x. x ∷ drop (i + 1) calls) (sym item) in
    ap (λ xs. xs ++ part (turns setup q (drop (i + 1) calls))) (said_more ∙ ap (λ s. said ++ part (turn s p call)) same)
    ∙ ap (λ r. (said ++ part (turn setup p call)) ++ part (turns setup r (drop (i + 1) calls))) (moved ∙ ap (λ s. (turn s p call).place) same)
    ∙ append_assoc said (part (turn setup p call)) (part (turns setup (turn setup p call).place (drop (i + 1) calls)))
    ∙ ap (λ xs. said ++ xs) (sym (listed (turn setup p call) (λ r. turns setup r (drop (i + 1) calls))))
    ∙ ap (λ cs. said ++ part (turns setup p cs)) (sym here)
    ∙ so_far

-- the rest leaves the place where all calls do, over one call
pub place-step : (setup now : Setup) (p q whole : Place) (calls : List Call) (i : ℕ) (call : Call) → now ≡ setup → i < length calls → call ≡ get_or calls i call → (turns setup p (drop i calls)).place ≡ whole → q ≡ (turn now p call).place → (turns setup q (drop (i + 1) calls)).place ≡ whole
place-step setup now p q whole calls i call same there item so_far moved =
    let here : drop i calls ≡ call ∷ drop (i + 1) calls = drop_more calls i call there ∙ ap (λ x. x ∷ drop (i + 1) calls) (sym item) in
    ap (λ r. (turns setup r (drop (i + 1) calls)).place) (moved ∙ ap (λ s. (turn s p call).place) same)
    ∙ ap (λ cs. (turns setup p cs).place) (sym here)
    ∙ so_far
