-- Members of lists, and lines without a ticket.
use Rattle.std.proofs.Common.{◌≡◌, ◌≢◌, ◌⊎◌, ℕ, suc, zero, ◌-◌, ◌<◌, ◌==◌, Bool, true, false, not, cond, List, [], ◌∷◌, ◌++◌, length, get_or, take, filter, find, Contains, Some, slice_get, refl, sym, ap, ◌∙◌, subst, inl, inr, ⊎_elim, arith}
use Rattle.std.proofs.lemmas.Bool.{cases_Bool, eqb-true, eqb-false, eq-eqb, ne_eqb, cond-true, cond-false, true≢false, false≢true, cond_both}
use Rattle.std.proofs.lemmas.List.Elements.{Contains-push_cases, All-filter, All-contains_itself, All-contains, filter_passes}
use Rattle.std.proofs.lemmas.Option.{slice_get_within, get_or_from_slice_get}
use Rattle.meet_tickets.specs.declared.lines.Entry.{Entry}
use Rattle.meet_tickets.specs.declared.places.Side.{Side}
use Rattle.meet_tickets.specs.declared.places.End.{End}
use Rattle.meet_tickets.specs.declared.places.End.TheVariants.{Front, Back}
use Rattle.meet_tickets.specs.Meeting.{partner, met}
use Rattle.meet_tickets.specs.ByLists.{without}
use Rattle.meet_tickets.specs.BySeat.{unmet, without_first}
use Rattle.meet_tickets.proofs.Line.Sides.{partner-met, partner-there}

-- the first element is a member
pub Contains-first : {X : Type 0} (x : X) (xs : List X) → Contains (x ∷ xs) x
Contains-first x xs = (0, omega arith, refl)

-- a member of the rest is a member
pub Contains-rest : {X : Type 0} (y : X) (xs : List X) (x : X) → Contains xs x → Contains (y ∷ xs) x
Contains-rest y xs x h = let lt = h.1 in (suc h.0, omega arith, h.2)

-- a member is the first element, or one of the rest
pub Contains-cases : {X : Type 0} (y : X) (xs : List X) (x : X) → Contains (y ∷ xs) x → (y ≡ x) ⊎ Contains xs x
Contains-cases {X} y xs x h = go h.0 h.1 h.2
  where
    go : (k : ℕ) → k < length (y ∷ xs) → get_or (y ∷ xs) k x ≡ x → (y ≡ x) ⊎ Contains xs x
    go zero lt e = inl e
    go (suc k) lt e = inr (k, omega arith, e)

-- the empty list has no member
pub Contains-nil : {X : Type 0} (x : X) → Contains [] x → ⊥
Contains-nil x h = let lt = h.1 in omega arith

-- what a filter keeps was a member
pub Contains-unfiltered : {X : Type 0} (p : X → Bool) (xs : List X) (x : X) → Contains (filter p xs) x → Contains xs x
Contains-unfiltered p xs x h = All-contains (Contains xs) (filter p xs) x (All-filter p (Contains xs) xs (All-contains_itself xs)) h

-- what a filter keeps passes
pub filtered_passes : {X : Type 0} (p : X → Bool) (xs : List X) (x : X) → Contains (filter p xs) x → p x ≡ true
filtered_passes p xs x h = All-contains (λ y. p y ≡ true) (filter p xs) x (filter_passes p xs) h

-- one step of a filter keeps a member that passes
Contains-cond : {X : Type 0} (b : Bool) (y : X) (ys : List X) (x : X) → (y ≡ x → b ≡ true) → (y ≡ x) ⊎ Contains ys x →
    Contains (cond b (y ∷ ys) ys) x
Contains-cond true y ys x f (inl e) = subst (Contains (y ∷ ys)) e (Contains-first y ys)
Contains-cond true y ys x f (inr m) = Contains-rest y ys x m
Contains-cond false y ys x f (inl e) = absurd (false≢true (f e))
Contains-cond false y ys x f (inr m) = m

-- a member that passes is kept by the filter
pub Contains-filter : {X : Type 0} (p : X → Bool) (xs : List X) (x : X) → Contains xs x → p x ≡ true → Contains (filter p xs) x
Contains-filter p [] x h e = absurd (Contains-nil x h)
Contains-filter p (y ∷ xs) x h e =
    Contains-cond (p y) y (filter p xs) x (λ s. ap p s ∙ e) (⊎_elim (λ s. inl s) (λ m. inr (Contains-filter p xs x m e)) (Contains-cases y xs x h))

-- the test that another number isn't this one passes
pub ne_not_eqb : (a b : ℕ) → a ≢ b → not (a == b) ≡ true
ne_not_eqb a b h = ap not (ne_eqb a b h)

-- where that test passes, the numbers differ
pub not_eqb-true : (a b : ℕ) → not (a == b) ≡ true → a ≢ b
not_eqb-true a b e h = true≢false (sym e ∙ ap not (eq-eqb a b h))

-- no entry has this ticket
abbrev pub IsApart : ℕ → List (Entry ℕ) → Type 0
IsApart t line = (e : Entry ℕ) → Contains line e → e.ticket ≢ t

-- the tickets of a line are distinct
abbrev pub IsDistinct : List (Entry ℕ) → Type 0
IsDistinct [] = Unit {0}
IsDistinct (e ∷ line) = IsApart e.ticket line × IsDistinct line

-- a line without an absent ticket is the line
without_apart : (t : ℕ) (line : List (Entry ℕ)) → IsApart t line → without t line ≡ line
without_apart t [] h = refl
without_apart t (e ∷ line) h =
    rw (ne_not_eqb e.ticket t (h e (Contains-first e line))) (ap (λ l. e ∷ l) (without_apart t line (λ x m. h x (Contains-rest e line x m))))

-- the line without its first ticket is the rest
pub without_head : (e : Entry ℕ) (line : List (Entry ℕ)) → IsApart e.ticket line → without e.ticket (e ∷ line) ≡ line
without_head e line h = rw (eq-eqb e.ticket e.ticket refl) (without_apart e.ticket line h)

-- the same, where the first entry is said to be another
without_head_same : (x : Entry ℕ) (line : List (Entry ℕ)) (e : Entry ℕ) → IsApart x.ticket line → Some x ≡ Some e →
    line ≡ without e.ticket (x ∷ line)
without_head_same x line e h s =
    let same : x ≡ e = cc in
    sym (subst (λ t. without t (x ∷ line) ≡ line) (ap (λ y. y.ticket) same) (without_head x line h))

-- the line without another ticket than its first keeps the first entry
pub without_tail : (t : ℕ) (e : Entry ℕ) (line : List (Entry ℕ)) → e.ticket ≢ t → without t (e ∷ line) ≡ e ∷ without t line
without_tail t e line h = rw (ne_not_eqb e.ticket t h)

-- the two ways to take a ticket out of the line are one
pub without_first_is : (t : ℕ) (line : List (Entry ℕ)) → IsDistinct line → without_first (λ e. e.ticket == t) line ≡ without t line
without_first_is t [] d = refl
without_first_is t (e ∷ line) d =
    let rest : without_first (λ e. e.ticket == t) line ≡ without t line = without_first_is t line d.1 in
    ⊎_elim (λ y. rw y (sym (without_apart t line (subst (λ u. IsApart u line) (eqb-true e.ticket t y) d.0)))) (λ n. rw n (ap (λ l. e ∷ l) rest))
    (cases_Bool (e.ticket == t))

-- what is read from a list is a member
pub Contains-slice_get : {X : Type 0} (xs : List X) (k : ℕ) (x : X) → slice_get xs k ≡ Some x → Contains xs x
Contains-slice_get xs k x h = (k, slice_get_within xs k x h, get_or_from_slice_get xs k x x h)

-- the line without its last entry
without_last : (n : ℕ) (line : List (Entry ℕ)) (e : Entry ℕ) → length line ≡ suc n → IsDistinct line → slice_get line n ≡ Some e →
    take n line ≡ without e.ticket line
without_last zero [] e long d h = absurd (omega arith)
without_last zero (x ∷ []) e long d h = without_head_same x [] e d.0 h
without_last zero (x ∷ y ∷ line) e long d h = absurd (omega arith)
without_last (suc n) [] e long d h = absurd (omega arith)
without_last (suc n) (x ∷ line) e long d h =
    ap (λ l. x ∷ l) (without_last n line e (omega arith) d.1 h)
    ∙ sym (without_tail e.ticket x line (λ s. d.0 e (Contains-slice_get line n e h) (sym s)))

-- the line without the entry that is met
met_leaves : (end : End) (line : List (Entry ℕ)) (e : Entry ℕ) → IsDistinct line → met end line ≡ Some e →
    unmet end line ≡ without e.ticket line
met_leaves Front [] e d h = absurd (cc)
met_leaves Front (x ∷ line) e d h = without_head_same x line e d.0 h
met_leaves Back [] e d h = absurd (cc)
met_leaves Back (x ∷ line) e d h =
    let front : suc (length line) - 1 ≡ length line = omega arith in
    rw front (without_last (length line) (x ∷ line) e refl d (rw front at h))

-- the partner stands in the line
pub Contains-partner : (end : End) (line : List (Entry ℕ)) (side : Side) (e : Entry ℕ) → partner end line side ≡ Some e →
    Contains line e
Contains-partner end line side e h = partner-there (Contains line) end line side e (All-contains_itself line) h

-- the line without the partner, by its place and by its ticket
pub partner_leaves : (end : End) (line : List (Entry ℕ)) (side : Side) (e : Entry ℕ) → IsDistinct line →
    partner end line side ≡ Some e → unmet end line ≡ without e.ticket line
partner_leaves end line side e d h = met_leaves end line e d (partner-met end line side e h)

-- the first entry of this ticket
abbrev pub IsFirst : ℕ → List (Entry ℕ) → Entry ℕ → Type 0
IsFirst t line e = (find (λ y. y.ticket == t) line ≡ Some e) × Contains line e × (e.ticket ≡ t)

-- the first entry of this ticket is found at the line's head, or in the rest
find_cases : (t : ℕ) (y : Entry ℕ) (line : List (Entry ℕ)) → (y.ticket ≢ t → (e : Entry ℕ) × IsFirst t line e) →
    (e : Entry ℕ) × IsFirst t (y ∷ line) e
find_cases t y line rest = ⊎_elim here (λ n. there n (rest (eqb-false y.ticket t n))) (cases_Bool (y.ticket == t))
  where
    here : (y.ticket == t) ≡ true → (e : Entry ℕ) × IsFirst t (y ∷ line) e
    here s = (y, (cond-true (y.ticket == t) (Some y) (find (λ z. z.ticket == t) line) s, Contains-first y line, eqb-true y.ticket t s))

    there : (y.ticket == t) ≡ false → (e : Entry ℕ) × IsFirst t line e → (e : Entry ℕ) × IsFirst t (y ∷ line) e
    there n k = (k.0, (cond-false (y.ticket == t) (Some y) (find (λ z. z.ticket == t) line) n ∙ k.1.0, Contains-rest y line k.0 k.1.1, k.1.2))

-- a ticket that stands in the line has a first entry
pub find_in_line : (t : ℕ) (line : List (Entry ℕ)) (x : Entry ℕ) → Contains line x → x.ticket ≡ t → (e : Entry ℕ) × IsFirst t line e
find_in_line t [] x m h = absurd (Contains-nil x m)
find_in_line t (y ∷ line) x m h =
    find_cases t y line (λ n. ⊎_elim (λ s. absurd (n (ap (λ z. z.ticket) s ∙ h))) (λ k. find_in_line t line x k h) (Contains-cases y line x m))

-- a new ticket at the line's end leaves the tickets distinct
pub IsDistinct-push : (line : List (Entry ℕ)) (e : Entry ℕ) → IsDistinct line → IsApart e.ticket line → IsDistinct (line ++ e ∷ [])
IsDistinct-push [] e d h = ((λ x m. absurd (Contains-nil x m)), tt)
IsDistinct-push (x ∷ line) e d h = (apart, IsDistinct-push line e d.1 (λ y m. h y (Contains-rest x line y m)))
  where
    apart : IsApart x.ticket (line ++ e ∷ [])
    apart y m = ⊎_elim (λ k. d.0 y k) (λ s. subst (λ z. z.ticket ≢ x.ticket) s (λ q. h x (Contains-first x line) (sym q)))
        (Contains-push_cases line e y m)

-- what a filter keeps has distinct tickets
pub IsDistinct-filter : (p : Entry ℕ → Bool) (line : List (Entry ℕ)) → IsDistinct line → IsDistinct (filter p line)
IsDistinct-filter p [] d = tt
IsDistinct-filter p (x ∷ line) d =
    let rest = IsDistinct-filter p line d.1 in
    cond_both (p x) (x ∷ filter p line) (filter p line) IsDistinct (λ y. ((λ e m. d.0 e (Contains-unfiltered p line e m)), rest)) (λ n. rest)
