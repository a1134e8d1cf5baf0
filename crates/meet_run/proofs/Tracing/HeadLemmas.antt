-- A trace's first line reads as a kind of place exactly where it is its one spelling.
use Rattle.std.proofs.Common.{◌≡◌, ℕ, ◌≤◌, true, ltb, List, [], ◌∷◌, ◌++◌, length, Option, Some, None, refl, sym, ap, subst, ◌∙◌, arith, rules, length-append, lit<}
use Rattle.std.specs.Prelude.{codes, IfSome}
use Rattle.std.proofs.lemmas.Bool.{le-ltb}
use Rattle.std.proofs.lemmas.Option.{cond_some}
use Rattle.meet_tickets.specs.declared.places.Order.{Order}
use Rattle.meet_tickets.specs.declared.places.Kind.{Kind}
use Rattle.meet_tickets.specs.Limits.{most_kept}
use Rattle.meet_tickets.specs.Meeting.{FitsBound}
use Rattle.meet_run.specs.Texts.Words.{word_of, rest_of, behind}
use Rattle.meet_run.specs.Texts.Grammar.{order_of, option_in, may_have}
use Rattle.meet_run.specs.Scripts.Spelling.{place_text, option_text}
use Rattle.meet_run.specs.Tracing.TraceGrammar.{kind_at_end, kind_in, head_in, head_of}
use Rattle.meet_run.specs.Tracing.TraceSpelling.{head_text, FitsHead, HeadsHaveOneSpelling}
use Rattle.meet_run.proofs.Texts.WordLemmas.{word-rest, behind-is}
use Rattle.meet_run.proofs.Texts.GrammarLemmas.{bind-some, chosen-second}
use Rattle.meet_run.proofs.Scripts.SetupLemmas.{option-is, order-is, bound-of, bound-tail, bound-again, place-no_space, order-again, may-of, option-short, place-short}

-- a place's word, and its bound where there is one
abbrev pub kind_text : Kind → List ℕ
kind_text kind = place_text kind.order ++ option_text (codes " bound ") kind.bound

-- ---- what is read is spelled

end-is : (order : Order) (bound : Option ℕ) (rest : List ℕ) (kind : Kind) → kind_at_end order bound rest ≡ Some kind → (rest ≡ []) × (may_have order bound ≡ true) × (record { order = order; bound = bound } ≡ kind)
unfolding kind_at_end
end-is order bound [] kind e = let p = cond_some (may_have order bound) (record { order = order; bound = bound }) kind e in (refl, p.0, p.1)
end-is order bound (b ∷ rest) kind e = absurd cc

pub kind_in-is : (text : List ℕ) (kind : Kind) → kind_in text ≡ Some kind → (text ≡ kind_text kind) × FitsBound kind.order kind.bound
unfolding kind_in
kind_in-is text kind e =
    let o = bind-some (order_of (word_of text)) _ kind e in
    let b = bind-some (option_in (codes " bound ") most_kept (rest_of text)) _ kind o.2 in
    let word = order-is (word_of text) o.0 o.1 in
    let option = option-is (codes " bound ") most_kept (rest_of text) b.0 b.1 in
    let end = end-is o.0 b.0.0 b.0.1 kind b.2 in
    let bound : List ℕ = option_text (codes " bound ") b.0.0 in
    let rest : rest_of text ≡ bound = option.0 ∙ (ap (λ (t : List ℕ). bound ++ t) end.0 ∙ search rules) in
    let spelled : text ≡ place_text o.0 ++ bound = sym (word-rest text) ∙ (ap (λ (v : List ℕ). v ++ rest_of text) word ∙ ap (λ (t : List ℕ). place_text o.0 ++ t) rest) in
    subst (λ (k : Kind). (text ≡ kind_text k) × FitsBound k.order k.bound) end.2 (spelled, bound-of o.0 b.0.0 end.1 option.1)

head_in-is : (line : List ℕ) (kind : Kind) → head_in line ≡ Some kind → (line ≡ head_text kind) × FitsBound kind.order kind.bound
unfolding head_in
head_in-is line kind e =
    let b = bind-some (behind (codes "trace 1 ") line) kind_in kind e in
    let prefix = behind-is (codes "trace 1 ") line b.0 b.1 in
    let is = kind_in-is b.0 kind b.2 in
    (prefix ∙ ap (λ (t : List ℕ). codes "trace 1 " ++ t) is.0, is.1)

-- ---- what is spelled is read

pub kind_in-again : (kind : Kind) → FitsBound kind.order kind.bound → kind_in (kind_text kind) ≡ Some kind
unfolding kind_in kind_at_end
kind_in-again kind h =
    let may = may-of kind.order kind.bound h in
    let cut = bound-tail kind.bound (place_text kind.order) (place-no_space kind.order) in
    rw (cut.0, cut.1, order-again kind.order, bound-again kind.bound may.1, may.0) refl

head_in-again : (kind : Kind) → FitsBound kind.order kind.bound → head_in (head_text kind) ≡ Some kind
unfolding head_in behind
head_in-again kind h = kind_in-again kind h

pub head-short : (kind : Kind) → FitsBound kind.order kind.bound → length (head_text kind) ≤ 128
head-short kind h =
    let p : List ℕ = place_text kind.order in
    let b : List ℕ = option_text (codes " bound ") kind.bound in
    let bound : length b ≤ 27 = option-short (codes " bound ") most_kept kind.bound (lit< tt) (may-of kind.order kind.bound h).1 in
    omega (arith, length-append p b, place-short kind.order, bound)

-- ---- the law

reads : (line : List ℕ) (kind : Kind) → head_of line ≡ Some kind → (line ≡ head_text kind) × FitsHead kind
unfolding head_of
reads line kind e =
    let whole = chosen-second (ltb 128 (length line)) (head_in line) kind e in
    head_in-is line kind whole.1

again : (kind : Kind) → FitsHead kind → head_of (head_text kind) ≡ Some kind
unfolding head_of
again kind fits =
    rw (le-ltb 128 (length (head_text kind)) (head-short kind fits), head_in-again kind fits) refl

pub heads-have-one-spelling : HeadsHaveOneSpelling
heads-have-one-spelling line kind = (reads line kind, λ p. ap (λ (l : List ℕ). head_of l) p.0 ∙ again kind p.1)

-- what is read is in its limits
pub head-limits : (line : List ℕ) (o : Option Kind) → o ≡ head_in line → IfSome o FitsHead
head-limits line None is = tt
head-limits line (Some kind) is = (head_in-is line kind (sym is)).1
