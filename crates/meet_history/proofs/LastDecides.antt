-- What all of a list pass is told by its last element.
use Rattle.std.proofs.Common.{if◌then◌else◌, ◌≡◌, ℕ, suc, ◌-◌, ◌<◌, nat_lt, refl, sym, ap, subst, ◌∙◌, Bool, true, false, not, ◌&&◌, Some, None, is_some, List, [], ◌∷◌, length, get_or, AllPairs, ⊎_elim, arith}
use Rattle.std.specs.List.{list_all, slice_get}
use Rattle.std.proofs.lemmas.Bool.{cases_Bool, cases_eq, lt-ltb, ltb-true}
use Rattle.std.proofs.lemmas.List.Folds.{list_all_at}
use Rattle.std.proofs.lemmas.Option.{get_or_from_slice_get, slice_get-get_or, slice_get_within}
use Rattle.meet_tickets.specs.declared.lines.Entry.{Entry}
use Rattle.meet_tickets.specs.declared.places.Kind.{Kind}
use Rattle.meet_tickets.specs.Bases.{Based}
use Rattle.meet_history.specs.Pieces.{is_new, is_unheld, keeps_more, entry_fits}

all-pass-at : {X : Type 0} (p : X → Bool) (xs : List X) → ((k : ℕ) (d : X) → k < length xs → p (get_or xs k d) ≡ true) → list_all p xs ≡ true
all-pass-at p [] all = refl
all-pass-at p (x ∷ xs) all = rw (all 0 x (omega arith)) (all-pass-at p xs (λ k d lt. all (suc k) d (omega (arith, lt))))

-- an empty list
pub none-decides : {X : Type 0} (p : X → Bool) (xs : List X) → slice_get xs (length xs - 1) ≡ None → list_all p xs ≡ true
none-decides p [] is = refl
none-decides p (x ∷ xs) is =
    let some : slice_get (x ∷ xs) (length (x ∷ xs) - 1) ≡ Some (get_or (x ∷ xs) (length (x ∷ xs) - 1) x) = slice_get-get_or (x ∷ xs) (length (x ∷ xs) - 1) x (omega arith) in
    let clash : None ≡ Some (get_or (x ∷ xs) (length (x ∷ xs) - 1) x) = sym is ∙ some in
    absurd (cc)

module _ {X : Type 0} (p : X → Bool) (xs : List X) (x : X) (last : slice_get xs (length xs - 1) ≡ Some x) where
  -- what the last passes the others do
  pub last-decides : ((k : ℕ) (d : X) → k < length xs - 1 → p x ≡ true → p (get_or xs k d) ≡ true) → list_all p xs ≡ p x
  last-decides below = ⊎_elim
      (λ (yes : p x ≡ true). all-pass-at p xs (λ k d lt. ⊎_elim
      (λ (end : k ≡ length xs - 1). ap p (ap (λ i. get_or xs i d) end ∙ get_or_from_slice_get xs (length xs - 1) x d last) ∙ yes)
      (λ (other : k ≡ length xs - 1 → ⊥). below k d (⊎_elim (λ (e : k ≡ length xs - 1). absurd (other e)) (λ (n : k ≡ length xs - 1 → ⊥). less k lt n) (cases_eq k (length xs - 1))) yes)
      (cases_eq k (length xs - 1))) ∙ sym yes)
      (λ (no : p x ≡ false). list_all_at p xs (length xs - 1) x (slice_get_within xs (length xs - 1) x last) (ap p (get_or_from_slice_get xs (length xs - 1) x x last) ∙ no) ∙ sym no)
      (cases_Bool (p x))
    where
      less : (k : ℕ) → k < length xs → (k ≡ length xs - 1 → ⊥) → k < length xs - 1
      less k lt n = ⊎_elim (λ (e : k ≡ length xs - 1). absurd (n e)) (λ (m : k ≡ length xs - 1 → ⊥). omega (arith, lt, m)) (cases_eq k (length xs - 1))

-- of rising numbers the last is the greatest
pub last-rises : {X : Type 0} (key : X → ℕ) (xs : List X) (t : ℕ) (x : X) → AllPairs (λ (a b : X). key a < key b) xs → slice_get xs (length xs - 1) ≡ Some x → list_all (λ y. nat_lt (key y) t) xs ≡ nat_lt (key x) t
last-rises key xs t x rises last = last-decides (λ y. nat_lt (key y) t) xs x last (λ k d lt yes.
    let end = get_or_from_slice_get xs (length xs - 1) x d last in
    let below : key (get_or xs k d) < key x = subst (λ y. key (get_or xs k d) < key y) end (rises k (length xs - 1) d lt (slice_get_within xs (length xs - 1) x last)) in
    lt-ltb (key (get_or xs k d)) t (omega (arith, below, ltb-true (key x) t yes)))

-- of entries of one side the last is of it
pub last-sides : (line : List (Entry ℕ)) (gives : Bool) (x : Entry ℕ) → AllPairs (λ (e f : Entry ℕ). is_some e.item ≡ is_some f.item) line → slice_get line (length line - 1) ≡ Some x → list_all (λ (f : Entry ℕ). if is_some f.item then gives else not gives) line ≡ (if is_some x.item then gives else not gives)
last-sides line gives x one_side last = last-decides (λ f. if is_some f.item then gives else not gives) line x last (λ k d lt yes.
    let end = get_or_from_slice_get line (length line - 1) x d last in
    let same : is_some (get_or line k d).item ≡ is_some x.item = one_side k (length line - 1) d lt (slice_get_within line (length line - 1) x last) ∙ ap (λ (e : Entry ℕ). is_some e.item) end in
    ap (λ b. if b then gives else not gives) same ∙ yes)

-- an entry that is above the line, of its side and new, fits where it may stand
pub entry-fits-rest : (k : Kind) (b : Based) (e : Entry ℕ) (r : Bool) → list_all (λ f. nat_lt f.ticket e.ticket) b.line ≡ true → list_all (λ f. if is_some f.item then is_some e.item else not (is_some e.item)) b.line ≡ true → is_new b e.ticket ≡ true → r ≡ (if e.waits then is_unheld b e.seat else (is_some e.item && keeps_more k b.line)) → r ≡ entry_fits k b e
entry-fits-rest k b e r above side new is = is ∙ sym (ap (λ x. x && (list_all (λ f. if is_some f.item then is_some e.item else not (is_some e.item)) b.line && (is_new b e.ticket && stands))) above ∙ (ap (λ x. x && (is_new b e.ticket && stands)) side ∙ ap (λ x. x && stands) new))
  where
    stands : Bool
    stands = if e.waits then is_unheld b e.seat else (is_some e.item && keeps_more k b.line)
