-- A text that is written part by part.
use Rattle.std.proofs.Common.{◌≡◌, ℕ, ◌+◌, ◌-◌, ◌<◌, List, ◌++◌, length, take, drop, Option, Some, None, sym, ap, subst, ◌∙◌, append_assoc, arith, length-drop, length-take}
use Rattle.std.specs.Io.KnownBytes.{Appends, Keeps}
use Rattle.std.proofs.lemmas.List.{take-append-drop, take_all}
use Rattle.std.proofs.Math.Seq.{take-add}
use Rattle.meet_run.specs.Texts.Writing.{IsPrefix, AppendsPrefix, AppendsLess}

-- one part after another is appended
pub appends-more : (old mid new : Option (List ℕ)) (xs ys : List ℕ) → Appends old mid xs → Appends mid new ys → Appends old new (xs ++ ys)
appends-more None mid new xs ys h k = tt
appends-more (Some a) None new xs ys h k = absurd h
appends-more (Some a) (Some b) None xs ys h k = absurd k
appends-more (Some a) (Some b) (Some c) xs ys h k = k ∙ (ap (λ (t : List ℕ). t ++ ys) h ∙ append_assoc a xs ys)

-- what keeps the bytes appends nothing more
pub appends-kept : (old mid new : Option (List ℕ)) (xs : List ℕ) → Appends old mid xs → Keeps mid new → Appends old new xs
appends-kept None mid new xs h k = tt
appends-kept (Some a) None new xs h k = absurd h
appends-kept (Some a) (Some b) None xs h k = absurd k
appends-kept (Some a) (Some b) (Some c) xs h k = k ∙ h

pub prefix-at : (old new : Option (List ℕ)) (n : ℕ) (bytes : List ℕ) → Appends old new (take n bytes) → AppendsPrefix old new bytes
prefix-at old new n bytes h = (take n bytes, h, (drop n bytes, sym (take-append-drop n bytes)))

pub less-at : (old new : Option (List ℕ)) (n : ℕ) (bytes : List ℕ) → n < length bytes → Appends old new (take n bytes) → AppendsLess old new bytes
less-at old new n bytes below h =
    (take n bytes, h, (drop n bytes, sym (take-append-drop n bytes)), omega (arith, length-take n bytes, below))

-- a write took m bytes of what was left after n
pub written-more : (old mid new : Option (List ℕ)) (n m : ℕ) (bytes : List ℕ) → Appends old mid (take n bytes) → Appends mid new (take m (take (length bytes - n) (drop n bytes))) → Appends old new (take (n + m) bytes)
written-more old mid new n m bytes h k =
    let rest : take (length bytes - n) (drop n bytes) ≡ drop n bytes = take_all (length bytes - n) (drop n bytes) (omega (arith, length-drop n bytes)) in
    let parts : take (n + m) bytes ≡ take n bytes ++ take m (take (length bytes - n) (drop n bytes)) = take-add n m bytes ∙ ap (λ (t : List ℕ). take n bytes ++ take m t) (sym rest) in
    subst (λ (t : List ℕ). Appends old new t) (sym parts) (appends-more old mid new (take n bytes) (take m (take (length bytes - n) (drop n bytes))) h k)

-- what was written is a prefix of all, and so is what follows it
pub prefix-of : (old new : Option (List ℕ)) (written whole : List ℕ) → Appends old new written → IsPrefix written whole → AppendsPrefix old new whole
prefix-of old new written whole h prefix = (written, h, prefix)

-- a prefix of the next part was written behind what was
pub prefix-more : (old mid new : Option (List ℕ)) (written next whole : List ℕ) → Appends old mid written → AppendsPrefix mid new next → IsPrefix (written ++ next) whole → AppendsPrefix old new whole
prefix-more old mid new written next whole h k prefix =
    let part = k.0 in
    let rest = k.2.0 in
    let is : whole ≡ (written ++ part) ++ (rest ++ prefix.0) =
    prefix.1 ∙ (ap (λ (t : List ℕ). (written ++ t) ++ prefix.0) k.2.1 ∙ (ap (λ (t : List ℕ). t ++ prefix.0) (sym (append_assoc written part rest)) ∙ append_assoc (written ++ part) rest prefix.0)) in
    (written ++ part, appends-more old mid new written part h k.1, (rest ++ prefix.0, is))
