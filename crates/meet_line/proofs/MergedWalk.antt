-- The walk that merges two lists of borrowed entries, and whose first is next.
use Rattle.std.proofs.Common.{◌≡◌, ℕ, ◌+◌, ◌<◌, ◌≤◌, true, false, Some, None, List, [], ◌∷◌, ◌++◌, length, map, drop, get_or, refl, sym, ap, ◌∙◌, inl, inr, subst, arith, AllPairs, Bor}
use Rattle.std.specs.Prelude.{nat_lt}
use Rattle.std.specs.Slice.{IsItemAt}
use Rattle.std.proofs.lemmas.Bool.{cases_lt, lt-ltb, le-ltb}
use Rattle.std.proofs.lemmas.List.{append_assoc, append-nil, drop_more, drop_all, drop-map, length-map, length-drop}
use Rattle.meet_tickets.specs.declared.lines.Entry.{Entry}
use Rattle.meet_tickets.proofs.Line.Sides.{AllPairs-tail}
use Rattle.meet_line.specs.Merged.{merged, Rises, is_buffered_next}
use Rattle.meet_line.proofs.Merging.{Below}
use Rattle.meet_line.proofs.MergedOut.{next-waiting, next-buffered}

-- the first of a list, borrowed
module _ {T : Type 0} where
  first-none : (line : List (Entry T)) → IsItemAt line 0 None → line ≡ []
  first-none [] is = refl
  first-none (e ∷ line) is =
      let clash : false ≡ true = is.0 ∙ lt-ltb 0 (length (e ∷ line)) (omega arith) in
      absurd (cc)

  first-some : (line : List (Entry T)) (b : Bor (Entry T)) → IsItemAt line 0 (Some b) → (rest : List (Entry T)) × (line ≡ b.now ∷ rest)
  first-some [] b is =
      let clash : true ≡ false = is.0 ∙ le-ltb 0 0 (omega arith) in
      absurd (cc)
  first-some (e ∷ line) b is = (line, ap (λ f. f ∷ line) (sym is.1))

  next-nothing : (xs : List (Entry T)) → is_buffered_next xs [] ≡ false
  next-nothing [] = refl
  next-nothing (x ∷ xs) = refl

  pub next-none : (xs ys : List (Entry T)) → IsItemAt ys 0 None → false ≡ is_buffered_next xs ys
  next-none xs ys is = sym (ap (is_buffered_next xs) (first-none ys is) ∙ next-nothing xs)

  pub next-alone : (xs ys : List (Entry T)) (b : Bor (Entry T)) → IsItemAt xs 0 None → IsItemAt ys 0 (Some b) → true ≡ is_buffered_next xs ys
  next-alone xs ys b none is =
      ap (is_buffered_next []) (sym (first-some ys b is).1) ∙ ap (λ es. is_buffered_next es ys) (sym (first-none xs none))

  pub next-of_both : (xs ys : List (Entry T)) (a b : Bor (Entry T)) → IsItemAt xs 0 (Some a) → IsItemAt ys 0 (Some b) → nat_lt b.now.ticket a.now.ticket ≡ is_buffered_next xs ys
  next-of_both xs ys a b first is =
      let x = first-some xs a first in
      let y = first-some ys b is in
      ap (is_buffered_next (a.now ∷ x.0)) (sym y.1) ∙ ap (λ es. is_buffered_next es ys) (sym x.1)

  next-some : (ys : List (Entry T)) → 0 < length ys → is_buffered_next [] ys ≡ true
  next-some [] some = absurd (omega (arith, some))
  next-some (y ∷ ys) some = refl

  next-from_nil : (ys : List (Entry T)) → is_buffered_next [] ys ≡ false → ys ≡ []
  next-from_nil [] next = refl
  next-from_nil (y ∷ ys) next = absurd (cc)

  -- what is borrowed, from an index on
  shown-more : (bs : List (Bor (Entry T))) (i : ℕ) (d : Bor (Entry T)) → i < length bs → drop i (map (λ b. b.now) bs) ≡ (get_or bs i d).now ∷ drop (i + 1) (map (λ b. b.now) bs)
  shown-more bs i d within =
      drop-map (λ b. b.now) i bs ∙ ap (map (λ b. b.now)) (drop_more bs i d within)
      ∙ ap (λ es. (get_or bs i d).now ∷ es) (sym (drop-map (λ b. b.now) (i + 1) bs))

  shown-none : (bs : List (Bor (Entry T))) (i : ℕ) → length bs ≤ i → drop i (map (λ b. b.now) bs) ≡ []
  shown-none bs i past = drop_all i (map (λ b. b.now) bs) (omega (arith, past, length-map bs (λ b. b.now)))

module _ {T : Type 0} (ws bs : List (Bor (Entry T))) where
  abbrev W : List (Entry T)
  W = map (λ b. b.now) ws

  abbrev B : List (Entry T)
  B = map (λ b. b.now) bs

  pub next-at_none : (at from : ℕ) → length bs ≤ from → false ≡ is_buffered_next (drop at W) (drop from B)
  next-at_none at from past = sym (ap (is_buffered_next (drop at W)) (shown-none bs from past) ∙ next-nothing (drop at W))

  pub next-at_alone : (at from : ℕ) → length ws ≤ at → from < length bs → true ≡ is_buffered_next (drop at W) (drop from B)
  next-at_alone at from past within =
      let some = next-some (drop from B) (omega (arith, within, length-drop from B, length-map bs (λ b. b.now))) in
      sym (ap (λ es. is_buffered_next es (drop from B)) (shown-none ws at past) ∙ some)

  pub next-at_both : (at from : ℕ) (d e : Bor (Entry T)) → at < length ws → from < length bs → nat_lt (get_or bs from d).now.ticket (get_or ws at e).now.ticket ≡ is_buffered_next (drop at W) (drop from B)
  next-at_both at from d e within within' =
      ap (is_buffered_next ((get_or ws at e).now ∷ drop (at + 1) W)) (sym (shown-more bs from d within'))
      ∙ ap (λ es. is_buffered_next es (drop from B)) (sym (shown-more ws at e within))

  -- so many of each are merged, and these are they
  pub record Merges (at from step : ℕ) (done : List (Entry T)) : Type 0 where
    pub seats : Rises (drop at W)
    pub rises : Rises (merged (drop at W) (drop from B))
    pub all : done ++ merged (drop at W) (drop from B) ≡ merged W B
    pub at_within : at ≤ length ws
    pub from_within : from ≤ length bs
    pub steps : at + from ≡ step

  pub merges-none : Rises W → Rises (merged W B) → Merges 0 0 0 []
  merges-none seats rises = record {
    seats = seats;
    rises = rises;
    all = refl;
    at_within = omega arith;
    from_within = omega arith;
    steps = refl;
  }

  -- a buffered one is next
  pub buffered-there : (at from step : ℕ) (done : List (Entry T)) → Merges at from step done → is_buffered_next (drop at W) (drop from B) ≡ true → from < length bs
  buffered-there at from step done m next =
      elim (cases_lt from (length bs)) [
        | inl within ↦ within
        | inr past ↦ let clash : false ≡ true = next-at_none at from past ∙ next in absurd (cc)
      ]

  pub buffered-more : (at from step : ℕ) (done : List (Entry T)) (d : Bor (Entry T)) → Merges at from step done → is_buffered_next (drop at W) (drop from B) ≡ true → from < length bs → Merges at (from + 1) (step + 1) (done ++ (get_or bs from d).now ∷ [])
  buffered-more at from step done d m next within =
      let y = (get_or bs from d).now in
      let rest = drop (from + 1) B in
      let split : drop from B ≡ y ∷ rest = shown-more bs from d within in
      let first = subst (λ es. is_buffered_next (drop at W) es ≡ true) split next in
      let is : merged (drop at W) (drop from B) ≡ y ∷ merged (drop at W) rest = ap (merged (drop at W)) split ∙ next-buffered (drop at W) y rest m.seats first in
      record {
        seats = m.seats;
        rises = AllPairs-tail Below y (merged (drop at W) rest) (subst (AllPairs Below) is m.rises);
        all = append_assoc done (y ∷ []) (merged (drop at W) rest) ∙ ap (λ es. done ++ es) (sym is) ∙ m.all;
        at_within = m.at_within;
        from_within = omega (arith, within);
        steps = omega (arith, m.steps);
      }

  -- one that waits is next
  pub waiting-there : (at from step : ℕ) (done : List (Entry T)) → Merges at from step done → step < length ws + length bs → is_buffered_next (drop at W) (drop from B) ≡ false → at < length ws
  waiting-there at from step done m more next =
      elim (cases_lt at (length ws)) [
        | inl within ↦ within
        | inr past ↦
            let none : drop from B ≡ [] = next-from_nil (drop from B) (ap (λ es. is_buffered_next es (drop from B)) (sym (shown-none ws at past)) ∙ next) in
            let few = ap length none in
            absurd (omega (arith, past, more, m.at_within, m.steps, few, length-drop from B, length-map bs (λ b. b.now)))
      ]

  pub waiting-more : (at from step : ℕ) (done : List (Entry T)) (d : Bor (Entry T)) → Merges at from step done → is_buffered_next (drop at W) (drop from B) ≡ false → at < length ws → Merges (at + 1) from (step + 1) (done ++ (get_or ws at d).now ∷ [])
  waiting-more at from step done d m next within =
      let x = (get_or ws at d).now in
      let rest = drop (at + 1) W in
      let split : drop at W ≡ x ∷ rest = shown-more ws at d within in
      let first = subst (λ es. is_buffered_next es (drop from B) ≡ false) split next in
      let seats = subst (AllPairs Below) split m.seats in
      let rises = subst (λ es. Rises (merged es (drop from B))) split m.rises in
      let is : merged (drop at W) (drop from B) ≡ x ∷ merged rest (drop from B) = ap (λ es. merged es (drop from B)) split ∙ next-waiting x rest (drop from B) seats rises first in
      record {
        seats = AllPairs-tail Below x rest seats;
        rises = AllPairs-tail Below x (merged rest (drop from B)) (subst (AllPairs Below) is m.rises);
        all = append_assoc done (x ∷ []) (merged rest (drop from B)) ∙ ap (λ es. done ++ es) (sym is) ∙ m.all;
        at_within = omega (arith, within);
        from_within = m.from_within;
        steps = omega (arith, m.steps);
      }

  -- all are merged
  pub merges-all : (at from step : ℕ) (done : List (Entry T)) → Merges at from step done → length ws + length bs ≤ step → done ≡ merged W B
  merges-all at from step done m past =
      let no_waiting : drop at W ≡ [] = shown-none ws at (omega (arith, past, m.at_within, m.from_within, m.steps)) in
      let no_buffered : drop from B ≡ [] = shown-none bs from (omega (arith, past, m.at_within, m.from_within, m.steps)) in
      sym (append-nil done) ∙ ap (λ es. done ++ es) (sym (ap (λ es. merged es (drop from B)) no_waiting ∙ no_buffered)) ∙ m.all
