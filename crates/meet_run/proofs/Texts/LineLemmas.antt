-- The lines of a text, by reading its bytes one by one.
use Rattle.std.proofs.Common.{◌≡◌, inl, inr, ℕ, ◌+◌, ◌<◌, ◌≤◌, false, eqb, List, [], ◌∷◌, ◌++◌, length, Option, Some, None, refl, sym, ap, ◌∙◌, append_assoc, arith, rules, length-append}
use Rattle.std.specs.Prelude.{IfSome}
use Rattle.std.specs.Io.KnownBytes.{Consumes, IsAtEnd}
use Rattle.meet_run.specs.Texts.Reading.{HasNoEnd, lines_of, TakesLine, BeginsTooLong, UsesTurns, EndsInTurns, FailsBehind}

pub plain-push : (line : List ℕ) (b : ℕ) → HasNoEnd line → eqb b 10 ≡ false → HasNoEnd (line ++ b ∷ [])
plain-push [] b h e = (e, tt)
plain-push (x ∷ line) b h e = (h.0, plain-push line b h.1 e)

-- a line that is ended
pub lines-ended : (line rest : List ℕ) → HasNoEnd line → lines_of (line ++ 10 ∷ rest) ≡ line ∷ lines_of rest
unfolding lines_of
lines-ended [] rest h = refl
lines-ended (b ∷ line) rest h = rw (h.0, lines-ended line rest h.1) refl

-- a byte in front of the first line
prefix-more : (b : ℕ) (bs line : List ℕ) (lines : List (List ℕ)) → eqb b 10 ≡ false → lines_of bs ≡ line ∷ lines → lines_of (b ∷ bs) ≡ (b ∷ line) ∷ lines
unfolding lines_of
prefix-more b bs line lines e is = rw (e, is) refl

-- a last line that isn't ended
lines-last : (line : List ℕ) → HasNoEnd line → 0 < length line → lines_of line ≡ line ∷ []
unfolding lines_of
lines-last [] h some = absurd (omega arith)
lines-last (b ∷ []) h some = rw h.0 refl
lines-last (b ∷ c ∷ line) h some =
    let more : lines_of (c ∷ line) ≡ (c ∷ line) ∷ [] = lines-last (c ∷ line) h.1 (omega arith) in
    prefix-more b (c ∷ line) (c ∷ line) [] h.0 more

-- some first line, that has a byte at least more than this
record BeginsLonger (line bs : List ℕ) : Type 0 where
  first : List ℕ
  others : List (List ℕ)
  is : lines_of bs ≡ first ∷ others
  longer : length line < length first

prefix-longer : (b : ℕ) (rest : List ℕ) → eqb b 10 ≡ false → BeginsLonger [] (b ∷ rest)
unfolding lines_of
prefix-longer b rest e = go (lines_of rest) refl
  where
    go : (ls : List (List ℕ)) → lines_of rest ≡ ls → BeginsLonger [] (b ∷ rest)
    go [] is = record { first = b ∷ []; others = []; is = rw (e, is) refl; longer = omega arith }
    go (l ∷ ls) is = record { first = b ∷ l; others = ls; is = rw (e, is) refl; longer = omega arith }

begins-longer : (line : List ℕ) (b : ℕ) (rest : List ℕ) → HasNoEnd line → eqb b 10 ≡ false → BeginsLonger line (line ++ b ∷ rest)
unfolding lines_of
begins-longer [] b rest h e = prefix-longer b rest e
begins-longer (x ∷ line) b rest h e =
    let more = begins-longer line b rest h.1 e in
    record { first = x ∷ more.first; others = more.others; is = rw (h.0, more.is) refl; longer = omega (arith, more.longer) }

-- ---- the same of the known bytes

-- one part after another is taken from the front
pub consumes-more : (old mid new : Option (List ℕ)) (xs ys : List ℕ) → Consumes old mid xs → Consumes mid new ys → Consumes old new (xs ++ ys)
consumes-more None mid new xs ys h k = tt
consumes-more (Some a) None new xs ys h k = absurd h
consumes-more (Some a) (Some b) None xs ys h k = absurd k
consumes-more (Some a) (Some b) (Some c) xs ys h k = h ∙ (ap (λ (t : List ℕ). xs ++ t) k ∙ sym (append_assoc xs ys c))

pub takes-ended : (old new : Option (List ℕ)) (line : List ℕ) → HasNoEnd line → Consumes old new (line ++ 10 ∷ []) → TakesLine old new line
takes-ended None new line h k = tt
takes-ended (Some a) None line h k = k
takes-ended (Some a) (Some b) line h k =
    ap (λ (t : List ℕ). lines_of t) (k ∙ append_assoc line (10 ∷ []) b) ∙ lines-ended line b h

pub takes-last : (old new : Option (List ℕ)) (line : List ℕ) → HasNoEnd line → 0 < length line → Consumes old new line → IsAtEnd new → TakesLine old new line
unfolding lines_of
takes-last None new line h some k end = tt
takes-last (Some a) None line h some k end = k
takes-last (Some a) (Some b) line h some k end =
    let whole : a ≡ line = k ∙ (ap (λ (t : List ℕ). line ++ t) end ∙ search rules) in
    ap (λ (t : List ℕ). lines_of t) whole ∙ (lines-last line h some ∙ ap (λ (t : List ℕ). line ∷ lines_of t) (sym end))

pub begins-too-long : (old new : Option (List ℕ)) (line : List ℕ) (b : ℕ) → HasNoEnd line → eqb b 10 ≡ false → 128 ≤ length line → Consumes old new (line ++ b ∷ []) → BeginsTooLong old
begins-too-long None new line b h e long k = tt
begins-too-long (Some a) None line b h e long k = absurd k
begins-too-long (Some a) (Some c) line b h e long k =
    let found = begins-longer line b c h e in
    let whole : a ≡ line ++ b ∷ c = k ∙ append_assoc line (b ∷ []) c in
    (found.first, found.others, ap (λ (t : List ℕ). lines_of t) whole ∙ found.is, omega (arith, found.longer))

-- ---- one read after another

-- turns add up
pub uses-more : (old mid new : Option (List ℕ)) (turns between left : ℕ) → UsesTurns old mid turns between → UsesTurns mid new between left → UsesTurns old new turns left
uses-more old mid new turns between left h k =
    (h.0 ++ k.0, consumes-more old mid new h.0 k.0 h.1 k.1, omega (arith, length-append h.0 k.0, h.2, k.2))

-- turns that are left over need not be used
pub uses-fewer : (old new : Option (List ℕ)) (turns left fewer : ℕ) → UsesTurns old new turns left → fewer ≤ left → UsesTurns old new turns fewer
uses-fewer old new turns left fewer h le = (h.0, h.1, omega (arith, h.2))

-- at the end all bytes were taken
pub ends-in-turns : (old new : Option (List ℕ)) (turns left : ℕ) → UsesTurns old new turns left → IsAtEnd new → 0 < left → EndsInTurns old turns
ends-in-turns None new turns left h end some = tt
ends-in-turns (Some xs) None turns left h end some = absurd h.1
ends-in-turns (Some xs) (Some ys) turns left h end some =
    let same : length xs ≡ length (h.0 ++ ys) = ap (λ (t : List ℕ). length t) h.1 in
    let none : length ys ≡ 0 = ap (λ (t : List ℕ). length t) end in
    omega (arith, length-append h.0 ys, h.2)

-- where nothing is left there is no line
pub no-lines : (new : Option (List ℕ)) → IsAtEnd new → IfSome new (λ xs. lines_of xs ≡ [])
unfolding lines_of
no-lines None h = tt
no-lines (Some xs) h = ap (λ (t : List ℕ). lines_of t) h

-- where nothing more was taken and the end was seen, it was there already
pub at-end-before : (old new : Option (List ℕ)) → Consumes old new [] → IsAtEnd new → IsAtEnd old
at-end-before None new same end = tt
at-end-before (Some xs) None same end = absurd same
at-end-before (Some xs) (Some ys) same end = same ∙ end

-- what ends in the turns that were left ends in all turns
pub ends-more : (old mid : Option (List ℕ)) (turns left : ℕ) → UsesTurns old mid turns left → EndsInTurns mid left → EndsInTurns old turns
ends-more None mid turns left h ends = tt
ends-more (Some xs) None turns left h ends = absurd h.1
ends-more (Some xs) (Some ys) turns left h ends =
    let same : length xs ≡ length (h.0 ++ ys) = ap (λ (t : List ℕ). length t) h.1 in
    omega (arith, length-append h.0 ys, h.2)

-- where nothing was read no turn was used
pub uses-none : (r : Option (List ℕ)) (turns left : ℕ) → left ≤ turns → UsesTurns r r turns left
uses-none None turns left le = ([], tt, omega arith)
uses-none (Some xs) turns left le = ([], refl, omega arith)

-- a read that failed where so many turns were left failed behind the bytes before it
pub fails-behind : (bytes all turns left : ℕ) → bytes + turns ≡ all → FailsBehind 0 turns left → FailsBehind bytes all left
fails-behind bytes all turns left before (inl cost) = inl (omega arith)
fails-behind bytes all turns left before (inr none) = inr (omega (arith, none.0), none.1)

-- it used no more turns than there were
pub fails-within : (bytes turns left : ℕ) → FailsBehind bytes turns left → bytes + left ≤ turns
fails-within bytes turns left (inl cost) = omega arith
fails-within bytes turns left (inr none) = omega (arith, none.0, none.1)
