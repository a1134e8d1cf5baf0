-- A text is its lines, each with its end, but for the last end.
use Rattle.std.proofs.Common.{◌≡◌, inl, inr, ℕ, ◌<◌, false, eqb, List, [], ◌∷◌, ◌++◌, length, All, refl, sym, ap, subst, ◌∙◌, append_assoc, arith, length-append}
use Rattle.std.specs.Prelude.{◌↔◌, codes}
use Rattle.std.specs.List.{flat_map}
use Rattle.std.proofs.lemmas.Bool.{cases_Bool, eqb-true}
use Rattle.std.proofs.lemmas.Grind.{flat_map-append}
use Rattle.std.proofs.lemmas.List.Elements.{All-nil, All-cons, All-head, All-tail, All-push}
use Rattle.meet_run.specs.Texts.Reading.{with_front, lines_of, HasNoEnd}
use Rattle.meet_run.specs.Tracing.TraceTexts.{IsTextOf}
use Rattle.meet_run.proofs.Texts.LineLemmas.{lines-ended}

-- a line with its end
abbrev pub ended : List ℕ → List ℕ
ended line = line ++ codes "\n"

-- lines, each with its end
abbrev pub lines_text : List (List ℕ) → List ℕ
lines_text lines = flat_map ended lines

-- a line of a text, with a byte at least
abbrev pub IsLine : List ℕ → Type 0
IsLine line = HasNoEnd line × (0 < length line)

-- lines are read as they are
pub lines-again : (lines : List (List ℕ)) → All HasNoEnd lines → lines_of (lines_text lines) ≡ lines
unfolding lines_of
lines-again [] plain = refl
lines-again (line ∷ lines) plain =
    ap lines_of (append_assoc line (codes "\n") (lines_text lines))
    ∙ (lines-ended line (lines_text lines) (All-head HasNoEnd line lines plain)
    ∙ ap (λ (ls : List (List ℕ)). line ∷ ls) (lines-again lines (All-tail HasNoEnd line lines plain)))

-- a byte in front of a text
text-front : (b : ℕ) (bs : List ℕ) (lines : List (List ℕ)) → IsTextOf bs (lines_text lines) → IsTextOf (b ∷ bs) (lines_text (with_front b lines))
text-front b bs [] (inl none) = inr (ap (λ (t : List ℕ). b ∷ (t ++ codes "\n")) none)
text-front b bs [] (inr some) = absurd (omega (arith, length-append bs (codes "\n"), ap (λ (t : List ℕ). length t) some))
text-front b bs (line ∷ lines) (inl same) = inl (ap (λ (t : List ℕ). b ∷ t) same)
text-front b bs (line ∷ lines) (inr same) = inr (ap (λ (t : List ℕ). b ∷ t) same)

text-ended : (bs : List ℕ) (lines : List (List ℕ)) → IsTextOf bs (lines_text lines) → IsTextOf (10 ∷ bs) (lines_text ([] ∷ lines))
text-ended bs lines (inl same) = inl (ap (λ (t : List ℕ). 10 ∷ t) same)
text-ended bs lines (inr same) = inr (ap (λ (t : List ℕ). 10 ∷ t) same)

-- a text is its lines, each with its end, but for the last end
text-is : (text : List ℕ) → IsTextOf text (lines_text (lines_of text))
unfolding lines_of
text-is [] = inl refl
text-is (b ∷ bs) = elim (cases_Bool (eqb b 10)) [
  | inl t ↦ subst (λ (c : ℕ). IsTextOf (c ∷ bs) (lines_text (lines_of (c ∷ bs)))) (sym (eqb-true b 10 t)) (text-ended bs (lines_of bs) (text-is bs))
  | inr f ↦ rw f (text-front b bs (lines_of bs) (text-is bs))
]

-- no line has an end of line in it
front-plain : (b : ℕ) (lines : List (List ℕ)) → eqb b 10 ≡ false → All HasNoEnd lines → All HasNoEnd (with_front b lines)
front-plain b [] other plain = All-cons HasNoEnd (b ∷ []) [] (other, tt) (All-nil HasNoEnd)
front-plain b (line ∷ lines) other plain =
    All-cons HasNoEnd (b ∷ line) lines (other, All-head HasNoEnd line lines plain) (All-tail HasNoEnd line lines plain)

pub lines-plain : (text : List ℕ) → All HasNoEnd (lines_of text)
unfolding lines_of
lines-plain [] = All-nil HasNoEnd
lines-plain (b ∷ bs) = elim (cases_Bool (eqb b 10)) [
  | inl t ↦ rw t (All-cons HasNoEnd [] (lines_of bs) tt (lines-plain bs))
  | inr f ↦ rw f (front-plain b (lines_of bs) f (lines-plain bs))
]

all-plain : (lines : List (List ℕ)) → All IsLine lines → All HasNoEnd lines
all-plain [] all = All-nil HasNoEnd
all-plain (line ∷ lines) all = All-cons HasNoEnd line lines (All-head IsLine line lines all).0 (all-plain lines (All-tail IsLine line lines all))

last-is : (lines : List (List ℕ)) (line : List ℕ) → All IsLine (lines ++ line ∷ []) → IsLine line
last-is [] line all = All-head IsLine line [] all
last-is (first ∷ lines) line all = last-is lines line (All-tail IsLine first (lines ++ line ∷ []) all)

-- where no line is empty, a text reads as these lines exactly where it is these, each with its end, but for the last end
pub text-of-lines : (text : List ℕ) (lines : List (List ℕ)) → All IsLine lines → (lines_of text ≡ lines) ↔ IsTextOf text (lines_text lines)
text-of-lines text lines all = (λ same. subst (λ (ls : List (List ℕ)). IsTextOf text (lines_text ls)) same (text-is text), back)
  where
    plain : All HasNoEnd lines
    plain = all-plain lines all

    own : All HasNoEnd (lines_of text)
    own = lines-plain text

    unended : text ++ codes "\n" ≡ lines_text lines → IsTextOf text (lines_text (lines_of text)) → lines_of text ≡ lines
    unended more (inr same) =
        sym (lines-again (lines_of text) own) ∙ (ap lines_of (sym same ∙ more) ∙ lines-again lines plain)
    unended more (inl same) =
        let longer : List (List ℕ) = lines_of text ++ [] ∷ [] in
        let both : lines_text longer ≡ lines_text lines =
        flat_map-append ended (lines_of text) ([] ∷ []) ∙ (ap (λ (t : List ℕ). t ++ codes "\n") (sym same) ∙ more) in
        let are : longer ≡ lines = sym (lines-again longer (All-push HasNoEnd (lines_of text) [] own tt)) ∙ (ap lines_of both ∙ lines-again lines plain) in
        absurd (omega (arith, (last-is (lines_of text) [] (subst (All IsLine) (sym are) all)).1))

    back : IsTextOf text (lines_text lines) → lines_of text ≡ lines
    back (inl same) = ap lines_of same ∙ lines-again lines plain
    back (inr more) = unended more (text-is text)
