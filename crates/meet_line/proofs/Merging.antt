-- Two lists of entries, merged by their tickets.
use Rattle.std.proofs.Common.{◌≡◌, ◌≢◌, ◌+◌, ◌<◌, ◌≤◌, cond, List, [], ◌∷◌, ◌++◌, length, refl, sym, ap, ◌∙◌, inl, inr, subst, arith, All}
use Rattle.std.proofs.lemmas.Bool.{cases_lt, lt-ltb, le-ltb}
use Rattle.std.proofs.lemmas.List.Elements.{All-nil, All-cons, All-head, All-tail, All-weaker}
use Rattle.std.proofs.lemmas.List.Kept.{AllPairs-cons}
use Rattle.std.proofs.lemmas.List.Quantifiers.{all_pairs_push}
use Rattle.meet_tickets.specs.declared.lines.Entry.{Entry}
use Rattle.meet_tickets.proofs.Line.Sides.{AllPairs-head, AllPairs-tail}
use Rattle.meet_line.specs.Merged.{with_placed, merged, Rises}

module _ {T : Type 0} where
  abbrev pub Below : Entry T → Entry T → Type 0
  Below e f = e.ticket < f.ticket

  -- where an entry is placed before the first of a line, and where it isn't
  pub placed-before : (e f : Entry T) (line : List (Entry T)) → e.ticket < f.ticket → with_placed e (f ∷ line) ≡ e ∷ f ∷ line
  placed-before e f line below = ap (λ b. cond b (e ∷ f ∷ line) (f ∷ with_placed e line)) (lt-ltb e.ticket f.ticket below)

  pub placed-behind : (e f : Entry T) (line : List (Entry T)) → f.ticket ≤ e.ticket → with_placed e (f ∷ line) ≡ f ∷ with_placed e line
  placed-behind e f line above = ap (λ b. cond b (e ∷ f ∷ line) (f ∷ with_placed e line)) (le-ltb e.ticket f.ticket above)

  -- what holds of all
  placed-all : (P : Entry T → Type 0) (e : Entry T) (line : List (Entry T)) → P e → All P line → All P (with_placed e line)
  placed-all P e [] own all = All-cons P e [] own all
  placed-all P e (f ∷ line) own all =
      elim (cases_lt e.ticket f.ticket) [
        | inl below ↦ subst (All P) (sym (placed-before e f line below)) (All-cons P e (f ∷ line) own all)
        | inr above ↦
            let rest = placed-all P e line own (All-tail P f line all) in
            subst (All P) (sym (placed-behind e f line above)) (All-cons P f (with_placed e line) (All-head P f line all) rest)
      ]

  pub merged-all : (P : Entry T → Type 0) (xs ys : List (Entry T)) → All P xs → All P ys → All P (merged xs ys)
  merged-all P [] ys all_xs all_ys = all_ys
  merged-all P (x ∷ xs) ys all_xs all_ys =
      placed-all P x (merged xs ys) (All-head P x xs all_xs) (merged-all P xs ys (All-tail P x xs all_xs) all_ys)

  all-from_placed : (P : Entry T → Type 0) (e : Entry T) (line : List (Entry T)) → All P (with_placed e line) → P e × All P line
  all-from_placed P e [] all = (All-head P e [] all, All-nil P)
  all-from_placed P e (f ∷ line) all =
      elim (cases_lt e.ticket f.ticket) [
        | inl below ↦
            let parts = subst (All P) (placed-before e f line below) all in
            (All-head P e (f ∷ line) parts, All-tail P e (f ∷ line) parts)
        | inr above ↦
            let parts = subst (All P) (placed-behind e f line above) all in
            let rest = all-from_placed P e line (All-tail P f (with_placed e line) parts) in
            (rest.0, All-cons P f line (All-head P f (with_placed e line) parts) rest.1)
      ]

  pub all-from_merged : (P : Entry T → Type 0) (xs ys : List (Entry T)) → All P (merged xs ys) → All P xs × All P ys
  all-from_merged P [] ys all = (All-nil P, all)
  all-from_merged P (x ∷ xs) ys all =
      let parts = all-from_placed P x (merged xs ys) all in
      let rest = all-from_merged P xs ys parts.1 in
      (All-cons P x xs parts.0 rest.0, rest.1)

  -- the greatest comes behind all
  placed-push : (e g : Entry T) (line : List (Entry T)) → e.ticket < g.ticket → with_placed e (line ++ g ∷ []) ≡ with_placed e line ++ g ∷ []
  placed-push e g [] below = placed-before e g [] below
  placed-push e g (f ∷ line) below =
      elim (cases_lt e.ticket f.ticket) [
        | inl first ↦ placed-before e f (line ++ g ∷ []) first ∙ ap (λ es. es ++ g ∷ []) (sym (placed-before e f line first))
        | inr behind ↦
            placed-behind e f (line ++ g ∷ []) behind ∙ ap (λ es. f ∷ es) (placed-push e g line below)
            ∙ ap (λ es. es ++ g ∷ []) (sym (placed-behind e f line behind))
      ]

  placed-last : (g : Entry T) (line : List (Entry T)) → All (λ e. e.ticket < g.ticket) line → with_placed g line ≡ line ++ g ∷ []
  placed-last g [] all = refl
  placed-last g (f ∷ line) all =
      let P : Entry T → Type 0 = λ e. e.ticket < g.ticket in
      let below : f.ticket < g.ticket = All-head P f line all in
      placed-behind g f line (omega (arith, below)) ∙ ap (λ es. f ∷ es) (placed-last g line (All-tail P f line all))

  pub merged-push_buffered : (xs ys : List (Entry T)) (g : Entry T) → All (λ e. e.ticket < g.ticket) xs → merged xs (ys ++ g ∷ []) ≡ merged xs ys ++ g ∷ []
  merged-push_buffered [] ys g all = refl
  merged-push_buffered (x ∷ xs) ys g all =
      let P : Entry T → Type 0 = λ e. e.ticket < g.ticket in
      ap (with_placed x) (merged-push_buffered xs ys g (All-tail P x xs all)) ∙ placed-push x g (merged xs ys) (All-head P x xs all)

  pub merged-push_waiting : (xs ys : List (Entry T)) (g : Entry T) → All (λ e. e.ticket < g.ticket) xs → All (λ e. e.ticket < g.ticket) ys → merged (xs ++ g ∷ []) ys ≡ merged xs ys ++ g ∷ []
  merged-push_waiting [] ys g all all_ys = placed-last g ys all_ys
  merged-push_waiting (x ∷ xs) ys g all all_ys =
      let P : Entry T → Type 0 = λ e. e.ticket < g.ticket in
      ap (with_placed x) (merged-push_waiting xs ys g (All-tail P x xs all) all_ys) ∙ placed-push x g (merged xs ys) (All-head P x xs all)

  -- the least is the first
  pub placed-first : (e : Entry T) (line : List (Entry T)) → All (λ f. e.ticket < f.ticket) line → with_placed e line ≡ e ∷ line
  placed-first e [] all = refl
  placed-first e (f ∷ line) all = placed-before e f line (All-head (λ g. e.ticket < g.ticket) f line all)

  pub first-waiting : (x : Entry T) (xs ys : List (Entry T)) → All (λ f. x.ticket < f.ticket) xs → All (λ f. x.ticket < f.ticket) ys → merged (x ∷ xs) ys ≡ x ∷ merged xs ys
  first-waiting x xs ys all all_ys = placed-first x (merged xs ys) (merged-all (λ f. x.ticket < f.ticket) xs ys all all_ys)

  pub first-buffered : (xs : List (Entry T)) (y : Entry T) (ys : List (Entry T)) → All (λ f. y.ticket < f.ticket) xs → merged xs (y ∷ ys) ≡ y ∷ merged xs ys
  first-buffered [] y ys all = refl
  first-buffered (x ∷ xs) y ys all =
      let P : Entry T → Type 0 = λ f. y.ticket < f.ticket in
      let below : y.ticket < x.ticket = All-head P x xs all in
      ap (with_placed x) (first-buffered xs y ys (All-tail P x xs all)) ∙ placed-behind x y (merged xs ys) (omega (arith, below))

  -- how many there are
  placed-length : (e : Entry T) (line : List (Entry T)) → length (with_placed e line) ≡ length line + 1
  placed-length e [] = refl
  placed-length e (f ∷ line) =
      elim (cases_lt e.ticket f.ticket) [
        | inl below ↦ omega (arith, ap length (placed-before e f line below))
        | inr above ↦ omega (arith, ap length (placed-behind e f line above), placed-length e line)
      ]

  pub merged-length : (xs ys : List (Entry T)) → length (merged xs ys) ≡ length xs + length ys
  merged-length [] ys = omega arith
  merged-length (x ∷ xs) ys = omega (arith, placed-length x (merged xs ys), merged-length xs ys)

  -- tickets that rise in a line with one more, rise in the line, and are others than the one's
  pub rises-from_placed : (e : Entry T) (line : List (Entry T)) → Rises (with_placed e line) → Rises line × All (λ f. f.ticket ≢ e.ticket) line
  rises-from_placed e [] rises = ((λ i j d low high. absurd (omega (arith, high))), All-nil (λ f. f.ticket ≢ e.ticket))
  rises-from_placed e (f ∷ line) rises =
      elim (cases_lt e.ticket f.ticket) [
        | inl below ↦
            let parts = subst Rises (placed-before e f line below) rises in
            let above = AllPairs-head Below e (f ∷ line) parts in (
              AllPairs-tail Below e (f ∷ line) parts,
              All-weaker (Below e) (λ g. g.ticket ≢ e.ticket) (λ g less same. omega (arith, less, same)) (f ∷ line) above,
            )
        | inr above ↦
            let parts = subst Rises (placed-behind e f line above) rises in
            let rest = rises-from_placed e line (AllPairs-tail Below f (with_placed e line) parts) in
            let all = all-from_placed (Below f) e line (AllPairs-head Below f (with_placed e line) parts) in (
              AllPairs-cons Below f line all.1 rest.0,
              All-cons (λ g. g.ticket ≢ e.ticket) f line (λ same. omega (arith, all.0, same)) rest.1,
            )
      ]

  pub rises-from_merged : (xs ys : List (Entry T)) → Rises (merged xs ys) → Rises ys
  rises-from_merged [] ys rises = rises
  rises-from_merged (x ∷ xs) ys rises = rises-from_merged xs ys (rises-from_placed x (merged xs ys) rises).0

  pub rises-push : (line : List (Entry T)) (g : Entry T) → Rises line → All (λ e. e.ticket < g.ticket) line → Rises (line ++ g ∷ [])
  rises-push line g rises all = all_pairs_push Below line g rises all
