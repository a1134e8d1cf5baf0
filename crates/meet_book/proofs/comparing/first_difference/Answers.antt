-- Proof of `first_difference`, src/comparing.rt. The first index at which a seat's records and those of its receipts
-- differ.
use Rattle.std.proofs.Common.{Bool, ◌≡◌, ◌≢◌, ℕ, List, ◌⊎◌, inl, inr, ◌+◌, ◌<◌, ◌≤◌, ◌∷◌, [], ◌++◌, ◌∙◌, length, take, drop, filter, get_or, refl, arith, sym, ap, Some, None, length-append}
use Rattle.std.specs.Prelude.{slice_get}
use Rattle.std.proofs.lemmas.List.{append-nil, append_assoc}
use Rattle.std.proofs.lemmas.Option.{slice_get-get_or, slice_get_cases}
use Rattle.std.proofs.Math.Seq.{take-length}
use Rattle.meet_book.specs.Listed.{is_own, numbered, since, DifferAt}
use Rattle.meet_book.proofs.Listing.{of_here, of_own, of_other, differ_behind, is_own_of, isn't_own_of, numbered_many, numbered_at}
use Rattle.meet_book.specs.Received.{Received}
use Rattle.meet_book.proofs.comparing.first_difference.Goals as goal
use Rattle.meet_book.proofs.comparing.first_difference.Goals.{then-number-own+in-Some+else-not-is_for, else-number-own}

-- the records of the seat begin with these, and the receipts too; behind them they differ at once
differ : {A : Type 0} (records entries prefix xs ys : List A) (index : ℕ) → records ≡ prefix ++ xs → entries ≡ prefix ++ ys → index ≡ length prefix → slice_get xs 0 ≢ slice_get ys 0 → DifferAt records entries index
differ records entries prefix xs ys index these those is apart = rw (these, those, is) (differ_behind prefix xs ys apart)

some_same : {A : Type 0} {x y : A} → Some x ≡ Some y → x ≡ y
some_same e = cc

-- what follows from an element follows within the list
there : {A X : Type 0} (xs : List A) (i : ℕ) → i < length xs → ((x : A) → slice_get xs i ≡ Some x → X) → X
there {A} {X} xs i lt from = either (slice_get_cases xs i).1
  where
    either : ((x : A) × (i < length xs) × (slice_get xs i ≡ Some x) × (get_or xs i x ≡ x)) ⊎ ((length xs ≤ i) × (slice_get xs i ≡ None)) → X
    either (inl t) = from t.0 t.2
    either (inr t) = absurd (omega (arith, lt, t.0))

pub returns-in-None : goal.returns-in-None
returns-in-None g c =
    let gone = c.args.gone in
    let all = numbered gone c.args.records.now in
    let seat = c.args.seat in
    let i = c.loop-entry.entry-index in
    let entry = c.entry-item.result in
    let so_far = c.loop-entry.invariant in
    let own : entry.seat ≡ seat = cc (c.number.ensures.value, c.number-own.ensures.value, c.if-number-own.true) in
    let receipt : Received _ = record { place = gone + i + 1; entry = entry } in
    let there = numbered_at gone c.args.records.now i entry receipt (omega arith) c.entry-item.is refl refl in
    differ _ _ (filter (is_own seat) (take i all)) (receipt ∷ filter (is_own seat) (drop (i + 1) all)) [] _
    (of_here (is_own seat) all i receipt (omega (arith, numbered_many gone c.args.records.now)) there (is_own_of seat receipt own))
    (so_far.same ∙ ap (λ l. filter (is_own seat) (take i all) ++ l) c.in-None.ensures.none) so_far.index (λ e. cc)

pub returns-then-not-is_for : goal.returns-then-not-is_for
returns-then-not-is_for g c =
    let gone = c.args.gone in
    let all = numbered gone c.args.records.now in
    let list = c.args.list.now in
    let seat = c.args.seat in
    let i = c.loop-entry.entry-index in
    let entry = c.entry-item.result in
    let so_far = c.loop-entry.invariant in
    let found = c.in-Some.found in
    let receipt = c.index-list-found.result in
    let own : entry.seat ≡ seat = cc (c.number.ensures.value, c.number-own.ensures.value, c.if-number-own.true) in
    let there : slice_get list found ≡ Some receipt = slice_get-get_or list found receipt c.in-Some.ensures.within.1 ∙ ap (λ t. Some t) (sym c.index-list-found.is) in
    let behind = c.in-Some.ensures.some receipt there in
    let right : Received _ = record { place = gone + i + 1; entry = entry } in
    let at_number = numbered_at gone c.args.records.now i entry right (omega arith) c.entry-item.is refl refl in
    differ _ _ (filter (is_own seat) (take i all)) (right ∷ filter (is_own seat) (drop (i + 1) all)) (receipt ∷ since gone (drop (found + 1) list)) _
    (of_here (is_own seat) all i right (omega (arith, numbered_many gone c.args.records.now)) at_number (is_own_of seat right own))
    (so_far.same ∙ ap (λ l. filter (is_own seat) (take i all) ++ l) behind.1) so_far.index
    (λ e. let n : gone + i + 1 ≡ gone + c.loop-entry.before + 1 = omega (arith, so_far.before) in let same = c.is_for.ensures.1 (sym (some_same e) ∙ (λ j. record { place = n j; entry = entry })) in let r = sym same ∙ c.if-not-is_for.true in cc)

pub loop-entry-preserved : goal.loop-entry-preserved
loop-entry-preserved g c =
    let gone = c.args.gone in
    let all = numbered gone c.args.records.now in
    let list = c.args.list.now in
    let seat = c.args.seat in
    let i = c.loop-entry.entry-index in
    let entry = c.entry-item.result in
    let so_far = c.loop-entry.invariant in
    let right : Received _ = record { place = gone + i + 1; entry = entry } in
    let at_number = numbered_at gone c.args.records.now i entry right (omega arith) c.entry-item.is refl refl in
    let many = numbered_many gone c.args.records.now in
    elim c.if-number-own.branch [
      | then-number-own+in-Some+else-not-is_for w ↦
          let found = w.in-Some.found in
          let receipt = w.index-list-found.result in
          let own : entry.seat ≡ seat = cc (c.number.ensures.value, c.number-own.ensures.value, w.if-number-own.true) in
          let there : slice_get list found ≡ Some receipt = slice_get-get_or list found receipt w.in-Some.ensures.within.1 ∙ ap (λ t. Some t) (sym w.index-list-found.is) in
          let behind = w.in-Some.ensures.some receipt there in
          let more = of_own (is_own seat) all i right (omega (arith, many)) at_number (is_own_of seat right own) in
          let longer = length-append (filter (is_own seat) (take i all)) (right ∷ []) in
          let n : gone + c.loop-entry.before + 1 ≡ gone + i + 1 = omega (arith, so_far.before) in
          let same : receipt ≡ right = w.is_for.ensures.0 w.if-not-is_for.false ∙ (λ j. record { place = n j; entry = entry }) in
          record {
            within = omega (arith, w.at-is, w.in-Some.ensures.within.1);
            few = omega (arith, w.at-is, w.index-is, w.in-Some.ensures.within.0, so_far.few);
            before = omega (arith, so_far.before);
            index = omega (arith, w.index-is, ap length more, longer, so_far.index);
            same = rw (w.at-is, more) (so_far.same ∙ (λ j. filter (is_own seat) (take i all) ++ behind.1 j) ∙ (λ j. filter (is_own seat) (take i all) ++ same j ∷ since gone (drop (found + 1) list))
                ∙ sym (append_assoc (filter (is_own seat) (take i all)) (right ∷ []) (since gone (drop (found + 1) list))));
          }
      | else-number-own w ↦
          let other = of_other (is_own seat) all i right (omega (arith, many)) at_number (isn't_own_of seat right (λ e. w.if-number-own.false (cc (c.number.ensures.value, c.number-own.ensures.value, e)))) in
          record {
            within = rw w.at-is so_far.within;
            few = rw (w.at-is, w.index-is) so_far.few;
            before = omega (arith, so_far.before);
            index = rw (w.index-is, other) so_far.index;
            same = rw (w.at-is, other) so_far.same;
          }
    ]

-- with all records looked at
whole : {A : Type 0} (p : A → Bool) (xs : List A) (n : ℕ) → n ≡ length xs → filter p xs ≡ filter p (take n xs) ++ []
whole p xs n last = ap (filter p) (sym (take-length xs) ∙ ap (λ k. take k xs) (sym last)) ∙ sym (append-nil (filter p (take n xs)))

pub returns-in-Some-next_since : goal.returns-in-Some-next_since
returns-in-Some-next_since g c =
    let gone = c.args.gone in
    let all = numbered gone c.args.records.now in
    let list = c.args.list.now in
    let seat = c.args.seat in
    let i = c.loop-entry.entry-index in
    let so_far = c.loop-entry.invariant in
    let many = numbered_many gone c.args.records.now in
    let last : i ≡ length all = omega (arith, many) in
    let found = c.in-Some-next_since.field-0 in
    there list found c.in-Some-next_since.ensures.within.1 (λ receipt is.
    differ _ _ (filter (is_own seat) (take i all)) [] (receipt ∷ since gone (drop (found + 1) list)) _ (whole (is_own seat) all i last)
    (so_far.same ∙ ap (λ l. filter (is_own seat) (take i all) ++ l) (c.in-Some-next_since.ensures.some receipt is).1) so_far.index (λ e. cc))

pub returns-in-None-next_since : goal.returns-in-None-next_since
returns-in-None-next_since g c =
    let gone = c.args.gone in
    let all = numbered gone c.args.records.now in
    let seat = c.args.seat in
    let i = c.loop-entry.entry-index in
    let so_far = c.loop-entry.invariant in
    let many = numbered_many gone c.args.records.now in
    let last : i ≡ length all = omega (arith, many) in
    whole (is_own seat) all i last ∙ sym (so_far.same ∙ ap (λ l. filter (is_own seat) (take i all) ++ l) c.in-None-next_since.ensures.none)

pub is_for-requires : goal.is_for-requires
is_for-requires g c =
    let there : slice_get c.args.list.now c.in-Some.found ≡ Some c.index-list-found.result = slice_get-get_or c.args.list.now c.in-Some.found c.index-list-found.result c.in-Some.ensures.within.1 ∙ ap (λ t. Some t) (sym c.index-list-found.is) in
    (c.in-Some.ensures.some c.index-list-found.result there).0
