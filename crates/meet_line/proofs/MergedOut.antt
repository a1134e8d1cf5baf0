-- Who leaves two lists of entries that are merged by their tickets: the first, or one that is found by its ticket.
use Rattle.std.proofs.Common.{◌≡◌, ◌≢◌, ℕ, ◌<◌, ◌≤◌, ◌==◌, Bool, true, false, cond, Some, None, List, [], ◌∷◌, find, refl, sym, ap, ◌∙◌, inl, inr, arith, All}
use Rattle.std.specs.Prelude.{nat_lt}
use Rattle.std.proofs.lemmas.Bool.{cases_lt, lt-ltb, le-ltb}
use Rattle.std.proofs.lemmas.Bool.Decides.{eqb_tells}
use Rattle.std.proofs.lemmas.List.Elements.{All-nil, All-cons, All-head, All-tail, All-weaker}
use Rattle.meet_tickets.specs.declared.lines.Entry.{Entry}
use Rattle.meet_tickets.specs.declared.places.End.TheVariants.{Front}
use Rattle.meet_tickets.specs.Meeting.{met}
use Rattle.meet_tickets.specs.BySeat.{unmet, without_first}
use Rattle.meet_tickets.proofs.Line.Sides.{AllPairs-head, AllPairs-tail}
use Rattle.meet_line.specs.Merged.{with_placed, merged, Rises, is_buffered_next}
use Rattle.meet_line.proofs.Merging.{Below, placed-before, placed-behind, placed-first, rises-from_placed, rises-from_merged, first-waiting, first-buffered, all-from_merged}

-- an entry that is another's, and one that is found
module _ {T : Type 0} (t : ℕ) where
  abbrev has : Entry T → Bool
  has e = e.ticket == t

  find-other : (e : Entry T) (line : List (Entry T)) → e.ticket ≢ t → find has (e ∷ line) ≡ find has line
  find-other e line other = elim (eqb_tells e.ticket t) [ inl y ↦ absurd (other y.1) | inr n ↦ ap (λ b. cond b (Some e) (find has line)) n.0 ]

  find-own : (e : Entry T) (line : List (Entry T)) → e.ticket ≡ t → find has (e ∷ line) ≡ Some e
  find-own e line own = elim (eqb_tells e.ticket t) [ inl y ↦ ap (λ b. cond b (Some e) (find has line)) y.0 | inr n ↦ absurd (n.1 own) ]

  without-other : (e : Entry T) (line : List (Entry T)) → e.ticket ≢ t → without_first has (e ∷ line) ≡ e ∷ without_first has line
  without-other e line other = elim (eqb_tells e.ticket t) [ inl y ↦ absurd (other y.1) | inr n ↦ ap (λ b. cond b line (e ∷ without_first has line)) n.0 ]

  without-own : (e : Entry T) (line : List (Entry T)) → e.ticket ≡ t → without_first has (e ∷ line) ≡ line
  without-own e line own = elim (eqb_tells e.ticket t) [ inl y ↦ ap (λ b. cond b line (e ∷ without_first has line)) y.0 | inr n ↦ absurd (n.1 own) ]

  -- the one that was placed is found, and leaves the others
  placed-own : (e : Entry T) (line : List (Entry T)) → e.ticket ≡ t → All (λ f. f.ticket ≢ e.ticket) line → (find has (with_placed e line) ≡ Some e) × (without_first has (with_placed e line) ≡ line)
  placed-own e [] own apart = (find-own e [] own, without-own e [] own)
  placed-own e (f ∷ line) own apart =
      elim (cases_lt e.ticket f.ticket) [
        | inl below ↦
            let is = placed-before e f line below in
            (ap (find has) is ∙ find-own e (f ∷ line) own, ap (without_first has) is ∙ without-own e (f ∷ line) own)
        | inr above ↦
            let is = placed-behind e f line above in
            let P : Entry T → Type 0 = λ g. g.ticket ≢ e.ticket in
            let other : f.ticket ≢ t = λ same. All-head P f line apart (same ∙ sym own) in
            let rest = placed-own e line own (All-tail P f line apart) in (
              ap (find has) is ∙ find-other f (with_placed e line) other ∙ rest.0,
              ap (without_first has) is ∙ without-other f (with_placed e line) other ∙ ap (λ es. f ∷ es) rest.1,
            )
      ]

  -- another is found as if none had been placed
  placed-other : (e : Entry T) (line : List (Entry T)) → e.ticket ≢ t → Rises line → (find has (with_placed e line) ≡ find has line) × (without_first has (with_placed e line) ≡ with_placed e (without_first has line))
  placed-other e [] other rises = (find-other e [] other, without-other e [] other)
  placed-other e (f ∷ line) other rises =
      let parts = AllPairs-head Below f line rises in
      let rest = placed-other e line other (AllPairs-tail Below f line rises) in
      elim (cases_lt e.ticket f.ticket) [
        | inl below ↦
            let is = placed-before e f line below in
            let found = ap (find has) is ∙ find-other e (f ∷ line) other in
            let left = ap (without_first has) is ∙ without-other e (f ∷ line) other in
            elim (eqb_tells f.ticket t) [
              | inl y ↦
                  let all : All (λ g. e.ticket < g.ticket) line = All-weaker (Below f) (λ g. e.ticket < g.ticket) (λ g less. omega (arith, less, below)) line parts in
                  let own = without-own f line y.1 in
                  (found, left ∙ ap (λ es. e ∷ es) own ∙ sym (placed-first e line all) ∙ ap (with_placed e) (sym own))
              | inr n ↦
                  let stays = without-other f line n.1 in
                  (found, left ∙ ap (λ es. e ∷ es) stays ∙ sym (placed-before e f (without_first has line) below) ∙ ap (with_placed e) (sym stays))
            ]
        | inr above ↦
            let is = placed-behind e f line above in
            elim (eqb_tells f.ticket t) [
              | inl y ↦ (
                ap (find has) is ∙ find-own f (with_placed e line) y.1 ∙ sym (find-own f line y.1),
                ap (without_first has) is ∙ without-own f (with_placed e line) y.1 ∙ ap (with_placed e) (sym (without-own f line y.1)),
              )
              | inr n ↦ (
                ap (find has) is ∙ find-other f (with_placed e line) n.1 ∙ rest.0 ∙ sym (find-other f line n.1),
                ap (without_first has) is ∙ without-other f (with_placed e line) n.1 ∙ ap (λ es. f ∷ es) rest.1
                    ∙ sym (placed-behind e f (without_first has line) above) ∙ ap (with_placed e) (sym (without-other f line n.1)),
              )
            ]
      ]

  -- one that waits is found
  pub found-waiting : (xs ys : List (Entry T)) (e : Entry T) → Rises (merged xs ys) → find has xs ≡ Some e → (find has (merged xs ys) ≡ Some e) × (without_first has (merged xs ys) ≡ merged (without_first has xs) ys)
  found-waiting [] ys e rises found = absurd (cc)
  found-waiting (x ∷ xs) ys e rises found =
      let parts = rises-from_placed x (merged xs ys) rises in
      elim (eqb_tells x.ticket t) [
        | inl y ↦
            let own = placed-own x (merged xs ys) y.1 parts.1 in (
              own.0 ∙ sym (find-own x xs y.1) ∙ found,
              own.1 ∙ ap (λ es. merged es ys) (sym (without-own x xs y.1)),
            )
        | inr n ↦
            let rest = found-waiting xs ys e parts.0 (sym (find-other x xs n.1) ∙ found) in
            let other = placed-other x (merged xs ys) n.1 parts.0 in (
              other.0 ∙ rest.0,
              other.1 ∙ ap (with_placed x) rest.1 ∙ ap (λ es. merged es ys) (sym (without-other x xs n.1)),
            )
      ]

  -- where none that waits is found, a buffered one may be
  pub found-buffered : (xs ys : List (Entry T)) → Rises (merged xs ys) → find has xs ≡ None → (find has (merged xs ys) ≡ find has ys) × (without_first has (merged xs ys) ≡ merged xs (without_first has ys))
  found-buffered [] ys rises none = (refl, refl)
  found-buffered (x ∷ xs) ys rises none =
      let parts = rises-from_placed x (merged xs ys) rises in
      elim (eqb_tells x.ticket t) [
        | inl y ↦ let clash : Some x ≡ None = sym (find-own x xs y.1) ∙ none in absurd (cc)
        | inr n ↦
            let rest = found-buffered xs ys parts.0 (sym (find-other x xs n.1) ∙ none) in
            let other = placed-other x (merged xs ys) n.1 parts.0 in
            (other.0 ∙ rest.0, other.1 ∙ ap (with_placed x) rest.1)
      ]

-- of two firsts one is next
less-from_test : (a b : ℕ) → nat_lt a b ≡ true → a < b
less-from_test a b is =
    elim (cases_lt a b) [
      | inl less ↦ less
      | inr more ↦ let clash : true ≡ false = sym is ∙ le-ltb a b more in absurd (cc)
    ]

least-from_test : (a b : ℕ) → nat_lt a b ≡ false → b ≤ a
least-from_test a b is =
    elim (cases_lt a b) [
      | inl less ↦ let clash : true ≡ false = sym (lt-ltb a b less) ∙ is in absurd (cc)
      | inr more ↦ more
    ]

module _ {T : Type 0} where
  -- a list whose first is below another is above it
  all-above : (a : ℕ) (x : Entry T) (xs : List (Entry T)) → Rises (x ∷ xs) → a < x.ticket → All (λ f. a < f.ticket) (x ∷ xs)
  all-above a x xs rises below =
      let rest = All-weaker (Below x) (λ f. a < f.ticket) (λ f less. omega (arith, less, below)) xs (AllPairs-head Below x xs rises) in
      All-cons (λ f. a < f.ticket) x xs below rest

  -- the first is one that waits
  pub next-waiting : (x : Entry T) (xs ys : List (Entry T)) → Rises (x ∷ xs) → Rises (merged (x ∷ xs) ys) → is_buffered_next (x ∷ xs) ys ≡ false → merged (x ∷ xs) ys ≡ x ∷ merged xs ys
  next-waiting x xs [] seats rises next =
      first-waiting x xs [] (AllPairs-head Below x xs seats) (All-nil (λ f. x.ticket < f.ticket))
  next-waiting x xs (y ∷ ys) seats rises next =
      let parts = rises-from_placed x (merged xs (y ∷ ys)) rises in
      let apart = (all-from_merged (λ f. f.ticket ≢ x.ticket) xs (y ∷ ys) parts.1).1 in
      let differ : y.ticket ≢ x.ticket = All-head (λ f. f.ticket ≢ x.ticket) y ys apart in
      let least = least-from_test y.ticket x.ticket next in
      let below : x.ticket < y.ticket = ne_lt x.ticket y.ticket least differ in
      first-waiting x xs (y ∷ ys) (AllPairs-head Below x xs seats) (all-above x.ticket y ys (rises-from_merged xs (y ∷ ys) parts.0) below)
    where
      ne_lt : (a b : ℕ) → a ≤ b → b ≢ a → a < b
      ne_lt a b low differ = elim (cases_lt a b) [ inl less ↦ less | inr more ↦ absurd (differ (omega (arith, low, more))) ]

  -- the first is a buffered one
  pub next-buffered : (xs : List (Entry T)) (y : Entry T) (ys : List (Entry T)) → Rises xs → is_buffered_next xs (y ∷ ys) ≡ true → merged xs (y ∷ ys) ≡ y ∷ merged xs ys
  next-buffered [] y ys seats next = refl
  next-buffered (x ∷ xs) y ys seats next =
      first-buffered (x ∷ xs) y ys (all-above y.ticket x xs seats (less-from_test y.ticket x.ticket next))

  -- who is met
  pub met-waiting : (xs ys : List (Entry T)) → Rises xs → Rises (merged xs ys) → is_buffered_next xs ys ≡ false → (met Front (merged xs ys) ≡ met Front xs) × (unmet Front (merged xs ys) ≡ merged (unmet Front xs) ys)
  met-waiting [] [] seats rises next = (refl, refl)
  met-waiting [] (y ∷ ys) seats rises next = absurd (cc)
  met-waiting (x ∷ xs) ys seats rises next =
      let is = next-waiting x xs ys seats rises next in
      (ap (met Front) is, ap (unmet Front) is)

  pub met-buffered : (xs ys : List (Entry T)) → Rises xs → is_buffered_next xs ys ≡ true → (met Front (merged xs ys) ≡ met Front ys) × (unmet Front (merged xs ys) ≡ merged xs (unmet Front ys))
  met-buffered [] [] seats next = absurd (cc)
  met-buffered (x ∷ xs) [] seats next = absurd (cc)
  met-buffered xs (y ∷ ys) seats next =
      let is = next-buffered xs y ys seats next in
      (ap (met Front) is, ap (unmet Front) is)
