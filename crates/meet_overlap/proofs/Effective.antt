-- The calls of a buffer that can have an effect, one call after the other.
use Rattle.std.proofs.Common.{true, false, ◌≡◌, ◌∙◌, ℕ, ◌+◌, ◌<◌, Option, Some, None, List, [], ◌∷◌, ◌++◌, length, take, get_or, add-one, refl, sym, ap}
use Rattle.std.proofs.Math.Seq.{take-suc}
use Rattle.std.proofs.lemmas.List.{length-append}
use Rattle.std.specs.Option.{option_map_or, is_some}
use Rattle.meet_overlap.specs.declared.calls.Call.{Call}
use Rattle.meet_overlap.specs.declared.calls.Verb.{Verb}
use Rattle.meet_overlap.specs.Buffers.{does, at_point, effects}

-- those of one call more
effects_more : (calls : List Call) (call : Call) → effects (calls ++ call ∷ []) ≡ effects calls ++ effects (call ∷ [])
effects_more [] call = refl
effects_more (c ∷ calls) call = by_call (does c.verb c.returned) (effects_more calls call)
  where
    by_call : (o : Option Verb) → effects (calls ++ call ∷ []) ≡ effects calls ++ effects (call ∷ []) → option_map_or (λ v. at_point c v ∷ effects (calls ++ call ∷ [])) o (effects (calls ++ call ∷ []))
        ≡ option_map_or (λ v. at_point c v ∷ effects calls) o (effects calls) ++ effects (call ∷ [])
    by_call None rest = rest
    by_call (Some v) rest = ap (λ l. at_point c v ∷ l) rest

-- the effects so far, and one call more
pub one_more : (calls : List Call) (n : ℕ) (call : Call) (now more : List Call) → n < length calls → call ≡ get_or calls n call →
    now ≡ effects (take n calls) → more ≡ now ++ effects (call ∷ []) → more ≡ effects (take (n + 1) calls)
one_more calls n call now more there is so_far pushed =
    let taken : take (n + 1) calls ≡ take n calls ++ call ∷ [] = ap (λ m. take m calls) (add-one n) ∙ take-suc calls n call there ∙ ap (λ x. take n calls ++ x ∷ []) (sym is) in
    pushed
    ∙ ap (λ l. l ++ effects (call ∷ [])) so_far
    ∙ sym (effects_more (take n calls) call)
    ∙ ap effects (sym taken)

-- the effects so far are counted, and those of one call more
pub counted_more : (calls : List Call) (n : ℕ) (call : Call) (count more : ℕ) → n < length calls → call ≡ get_or calls n call → count ≡ length (effects (take n calls))
    → more ≡ count + length (effects (call ∷ [])) → more ≡ length (effects (take (n + 1) calls))
counted_more calls n call count more there is so_far counted =
    let all : effects (take n calls) ++ effects (call ∷ []) ≡ effects (take (n + 1) calls) = one_more calls n call (effects (take n calls)) (effects (take n calls) ++ effects (call ∷ [])) there is refl refl in
    counted ∙ ap (λ m. m + length (effects (call ∷ []))) so_far ∙ sym (length-append (effects (take n calls)) (effects (call ∷ []))) ∙ ap length all

-- a call that has an effect is one more
pub counts_one : (call : Call) → true ≡ is_some (does call.verb call.returned) → length (effects (call ∷ [])) ≡ 1
counts_one call is = by_effect (does call.verb call.returned) is
  where
    by_effect : (o : Option Verb) → true ≡ is_some o → length (option_map_or (λ v. at_point call v ∷ []) o []) ≡ 1
    by_effect (Some v) is = refl
    by_effect None is = absurd (cc)

-- one that has none is none
pub counts_none : (call : Call) → false ≡ is_some (does call.verb call.returned) → length (effects (call ∷ [])) ≡ 0
counts_none call is = by_effect (does call.verb call.returned) is
  where
    by_effect : (o : Option Verb) → false ≡ is_some o → length (option_map_or (λ v. at_point call v ∷ []) o []) ≡ 0
    by_effect (Some v) is = absurd (cc)
    by_effect None is = refl
