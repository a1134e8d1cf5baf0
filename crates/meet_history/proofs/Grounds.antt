-- What a base names and holds as a piece is laid.
use Rattle.std.proofs.Common.{if◌then◌else◌, ◌≡◌, ◌≢◌, ℕ, ◌+◌, ◌==◌, refl, sym, ap, ◌∙◌, Bool, true, false, ◌||◌, cond, List, [], ◌∷◌, ◌++◌, map, filter, ⊎_elim}
use Rattle.std.specs.List.{list_any, flat_map}
use Rattle.std.proofs.lemmas.Bool.{cases_eq, eq-eqb, ne_eqb}
use Rattle.std.proofs.lemmas.Grind.{flat_map-append}
use Rattle.std.proofs.lemmas.List.{map-append, append-nil}
use Rattle.std.proofs.lemmas.List.Elements.{filter-append}
use Rattle.std.proofs.lemmas.List.Folds.{list_any-append}
use Rattle.meet_tickets.specs.declared.lines.Entry.{Entry}
use Rattle.meet_tickets.specs.declared.bases.OpenPair.{OpenPair}
use Rattle.meet_tickets.specs.declared.bases.OpenCut.{OpenCut}
use Rattle.meet_tickets.specs.declared.places.Kind.{Kind}
use Rattle.meet_tickets.specs.Bases.{Based, Held, waiting_held, paired_held, cut_held}
use Rattle.meet_tickets.proofs.Line.Keeping.{kept-kept, kept-queued}
use Rattle.meet_history.specs.declared.pieces.Piece.TheVariants.{Stands, Met, Cut, Flagged}
use Rattle.meet_history.specs.Pieces.{with_piece, may_follow}
use Rattle.meet_history.specs.Grounds.{has_number, named_at, held_at, waiting_at, Adds, IsGround}
use Rattle.meet_history.proofs.PieceLaws.{follows-well}

same-test : (i j : ℕ) → (i == j) ≡ (j == i)
same-test i j = ⊎_elim (λ (e : i ≡ j). eq-eqb i j e ∙ sym (eq-eqb j i (sym e))) (λ (n : i ≢ j). ne_eqb i j n ∙ sym (ne_eqb j i (λ e. n (sym e)))) (cases_eq i j)

-- where a number comes to the set, it comes to what the set stands for
adds-more : (f g : ℕ → Bool) (old new : List ℕ) (t : ℕ) → ((n : ℕ) → has_number old n ≡ f n) → Adds old t new → ((n : ℕ) → g n ≡ (if t == n then true else f n)) → (n : ℕ) → has_number new n ≡ g n
adds-more f g old new t is adds more n = adds n ∙ (ap (λ b. if b then true else has_number old n) (same-test n t) ∙ (ap (λ x. if t == n then true else x) (is n) ∙ sym (more n)))

or-end : (a s : Bool) → (a || (s || false)) ≡ (if s then true else a)
or-end true true = refl
or-end true false = refl
or-end false true = refl
or-end false false = refl

or-first : (a s r : Bool) → ((a || (s || false)) || r) ≡ (if s then true else (a || r))
or-first true true r = refl
or-first true false r = refl
or-first false true r = refl
or-first false false r = refl

or-middle : (a b s c : Bool) → (a || ((b || (s || false)) || c)) ≡ (if s then true else (a || (b || c)))
or-middle true b true c = refl
or-middle true b false c = refl
or-middle false true true c = refl
or-middle false true false c = refl
or-middle false false true c = refl
or-middle false false false c = refl

or-two : (a b s t c : Bool) → (a || ((b || (s || (t || false))) || c)) ≡ (if t then true else (if s then true else (a || (b || c))))
or-two true b s true c = refl
or-two true b true false c = refl
or-two true b false false c = refl
or-two false true s true c = refl
or-two false true true false c = refl
or-two false true false false c = refl
or-two false false true true c = refl
or-two false false true false c = refl
or-two false false false true c = refl
or-two false false false false c = refl

or-last : (a b c s : Bool) → (a || (b || (c || (s || false)))) ≡ (if s then true else (a || (b || c)))
or-last true b c true = refl
or-last true b c false = refl
or-last false true c true = refl
or-last false true c false = refl
or-last false false true true = refl
or-last false false true false = refl
or-last false false false true = refl
or-last false false false false = refl

-- what passes among three lists one after another
any-three : {X : Type 0} (p : X → Bool) (a b c : List X) → list_any p (a ++ (b ++ c)) ≡ (list_any p a || (list_any p b || list_any p c))
any-three p a b c = list_any-append p a (b ++ c) ∙ ap (λ x. list_any p a || x) (list_any-append p b c)

any-first : {X : Type 0} (p : X → Bool) (a r : List X) (x : X) → list_any p ((a ++ x ∷ []) ++ r) ≡ (if p x then true else list_any p (a ++ r))
any-first p a r x =
    list_any-append p (a ++ x ∷ []) r ∙ (ap (λ b. b || list_any p r) (list_any-append p a (x ∷ [])) ∙ (or-first (list_any p a) (p x) (list_any p r) ∙ ap (λ b. if p x then true else b) (sym (list_any-append p a r))))

any-middle : {X : Type 0} (p : X → Bool) (a b c : List X) (x : X) → list_any p (a ++ ((b ++ x ∷ []) ++ c)) ≡ (if p x then true else list_any p (a ++ (b ++ c)))
any-middle p a b c x =
    any-three p a (b ++ x ∷ []) c ∙ (ap (λ y. list_any p a || (y || list_any p c)) (list_any-append p b (x ∷ [])) ∙ (or-middle (list_any p a) (list_any p b) (p x) (list_any p c) ∙ ap (λ y. if p x then true else y) (sym (any-three p a b c))))

any-two : {X : Type 0} (p : X → Bool) (a b c : List X) (x y : X) → list_any p (a ++ ((b ++ x ∷ y ∷ []) ++ c)) ≡ (if p y then true else (if p x then true else list_any p (a ++ (b ++ c))))
any-two p a b c x y =
    any-three p a (b ++ x ∷ y ∷ []) c ∙ (ap (λ z. list_any p a || (z || list_any p c)) (list_any-append p b (x ∷ y ∷ [])) ∙ (or-two (list_any p a) (list_any p b) (p x) (p y) (list_any p c) ∙ ap (λ z. if p y then true else (if p x then true else z)) (sym (any-three p a b c))))

any-last : {X : Type 0} (p : X → Bool) (a b c : List X) (x : X) → list_any p (a ++ (b ++ (c ++ x ∷ []))) ≡ (if p x then true else list_any p (a ++ (b ++ c)))
any-last p a b c x =
    any-three p a b (c ++ x ∷ []) ∙ (ap (λ z. list_any p a || (list_any p b || z)) (list_any-append p c (x ∷ [])) ∙ (or-last (list_any p a) (list_any p b) (list_any p c) (p x) ∙ ap (λ z. if p x then true else z) (sym (any-three p a b c))))

any-end : {X : Type 0} (p : X → Bool) (xs : List X) (x : X) → list_any p (xs ++ x ∷ []) ≡ (if p x then true else list_any p xs)
any-end p xs x = list_any-append p xs (x ∷ []) ∙ or-end (list_any p xs) (p x)

abbrev told : OpenPair → List ℕ
told p = p.ticket ∷ p.partner ∷ []

abbrev is_waiting : Entry ℕ → Bool
is_waiting e = e.waits

module _ (b : Based) where
  named-entry : (e : Entry ℕ) (n : ℕ) → named_at (with_piece b (Stands e)) n ≡ (if e.ticket == n then true else named_at b n)
  named-entry e n =
      ap (λ xs. list_any (λ u. u == n) (xs ++ (flat_map told b.pairs ++ map (λ (c : OpenCut). c.ticket) b.cut))) (map-append (λ (f : Entry ℕ). f.ticket) b.line (e ∷ []))
      ∙ any-first (λ u. u == n) (map (λ (f : Entry ℕ). f.ticket) b.line) (flat_map told b.pairs ++ map (λ (c : OpenCut). c.ticket) b.cut) e.ticket

  named-pair : (p : OpenPair) (n : ℕ) → named_at (with_piece b (Met p)) n ≡ (if p.partner == n then true else (if p.ticket == n then true else named_at b n))
  named-pair p n =
      ap (λ xs. list_any (λ u. u == n) (map (λ (f : Entry ℕ). f.ticket) b.line ++ (xs ++ map (λ (c : OpenCut). c.ticket) b.cut))) (flat_map-append told b.pairs (p ∷ []))
      ∙ any-two (λ u. u == n) (map (λ (f : Entry ℕ). f.ticket) b.line) (flat_map told b.pairs) (map (λ (c : OpenCut). c.ticket) b.cut) p.ticket p.partner

  named-cut : (c : OpenCut) (n : ℕ) → named_at (with_piece b (Cut c)) n ≡ (if c.ticket == n then true else named_at b n)
  named-cut c n =
      ap (λ xs. list_any (λ u. u == n) (map (λ (f : Entry ℕ). f.ticket) b.line ++ (flat_map told b.pairs ++ xs))) (map-append (λ (d : OpenCut). d.ticket) b.cut (c ∷ []))
      ∙ any-last (λ u. u == n) (map (λ (f : Entry ℕ). f.ticket) b.line) (flat_map told b.pairs) (map (λ (d : OpenCut). d.ticket) b.cut) c.ticket

  waiting-entries : (e : Entry ℕ) (w : Bool) → e.waits ≡ w → filter is_waiting (b.line ++ e ∷ []) ≡ filter is_waiting b.line ++ cond w (e ∷ []) []
  waiting-entries e w is = filter-append is_waiting b.line (e ∷ []) ∙ ap (λ v. filter is_waiting b.line ++ cond v (e ∷ []) []) is

  held-entry : (e : Entry ℕ) → e.waits ≡ true → (n : ℕ) → held_at (with_piece b (Stands e)) n ≡ (if e.seat == n then true else held_at b n)
  held-entry e waits n =
      ap (λ (xs : List (Entry ℕ)). list_any (λ (h : Held). h.seat == n) (map waiting_held xs ++ (map paired_held b.pairs ++ map cut_held b.cut))) (waiting-entries e true waits)
      ∙ (ap (λ (xs : List Held). list_any (λ (h : Held). h.seat == n) (xs ++ (map paired_held b.pairs ++ map cut_held b.cut))) (map-append waiting_held (filter is_waiting b.line) (e ∷ []))
      ∙ any-first (λ (h : Held). h.seat == n) (map waiting_held (filter is_waiting b.line)) (map paired_held b.pairs ++ map cut_held b.cut) (waiting_held e))

  held-kept : (e : Entry ℕ) → e.waits ≡ false → (n : ℕ) → held_at (with_piece b (Stands e)) n ≡ held_at b n
  held-kept e stays n =
      ap (λ (xs : List (Entry ℕ)). list_any (λ (h : Held). h.seat == n) (map waiting_held xs ++ (map paired_held b.pairs ++ map cut_held b.cut))) (waiting-entries e false stays ∙ append-nil (filter is_waiting b.line))

  held-pair : (p : OpenPair) (n : ℕ) → held_at (with_piece b (Met p)) n ≡ (if p.seat == n then true else held_at b n)
  held-pair p n =
      ap (λ (xs : List Held). list_any (λ (h : Held). h.seat == n) (map waiting_held (filter is_waiting b.line) ++ (xs ++ map cut_held b.cut))) (map-append paired_held b.pairs (p ∷ []))
      ∙ any-middle (λ (h : Held). h.seat == n) (map waiting_held (filter is_waiting b.line)) (map paired_held b.pairs) (map cut_held b.cut) (paired_held p)

  held-cut : (c : OpenCut) (n : ℕ) → held_at (with_piece b (Cut c)) n ≡ (if c.seat == n then true else held_at b n)
  held-cut c n =
      ap (λ (xs : List Held). list_any (λ (h : Held). h.seat == n) (map waiting_held (filter is_waiting b.line) ++ (map paired_held b.pairs ++ xs))) (map-append cut_held b.cut (c ∷ []))
      ∙ any-last (λ (h : Held). h.seat == n) (map waiting_held (filter is_waiting b.line)) (map paired_held b.pairs) (map cut_held b.cut) (cut_held c)

  waiting-entry : (e : Entry ℕ) (w : Bool) → e.waits ≡ w → (n : ℕ) → waiting_at (b.line ++ e ∷ []) n ≡ (if (if w then e.seat == n else false) then true else waiting_at b.line n)
  waiting-entry e w is n = any-end (λ (f : Entry ℕ). if f.waits then f.seat == n else false) b.line e ∙ ap (λ v. if (if v then e.seat == n else false) then true else waiting_at b.line n) is

module _ (k : Kind) (b : Based) (named held waiting : List ℕ) (kept : ℕ) (ground : IsGround k b named held waiting kept) where
  -- an entry that waits is laid
  pub ground-waits : (e : Entry ℕ) (named' held' waiting' : List ℕ) → may_follow k b (Stands e) ≡ true → e.waits ≡ true → Adds named e.ticket named' → Adds held e.seat held' → Adds waiting e.seat waiting' → IsGround k (with_piece b (Stands e)) named' held' waiting' kept
  ground-waits e named' held' waiting' fits waits name hold wait = (
    follows-well k b (Stands e) ground.0 fits,
    adds-more (named_at b) (named_at (with_piece b (Stands e))) named named' e.ticket ground.1 name (named-entry b e),
    adds-more (held_at b) (held_at (with_piece b (Stands e))) held held' e.seat ground.2 hold (held-entry b e waits),
    adds-more (waiting_at b.line) (waiting_at (b.line ++ e ∷ [])) waiting waiting' e.seat ground.3 wait (waiting-entry b e true waits),
    ground.4 ∙ sym (kept-queued b.line e waits),
  )

  -- one that doesn't
  pub ground-kept : (e : Entry ℕ) (named' : List ℕ) → may_follow k b (Stands e) ≡ true → e.waits ≡ false → Adds named e.ticket named' → IsGround k (with_piece b (Stands e)) named' held waiting (kept + 1)
  ground-kept e named' fits stays name = (
    follows-well k b (Stands e) ground.0 fits,
    adds-more (named_at b) (named_at (with_piece b (Stands e))) named named' e.ticket ground.1 name (named-entry b e),
    (λ n. ground.2 n ∙ sym (held-kept b e stays n)),
    (λ n. ground.3 n ∙ sym (waiting-entry b e false stays n)),
    ap (λ n. n + 1) ground.4 ∙ sym (kept-kept b.line e stays),
  )

  -- one that was met
  pub ground-pair : (p : OpenPair) (named' both held' : List ℕ) → may_follow k b (Met p) ≡ true → Adds named p.ticket named' → Adds named' p.partner both → Adds held p.seat held' → IsGround k (with_piece b (Met p)) both held' waiting kept
  ground-pair p named' both held' fits first second hold = (
    follows-well k b (Met p) ground.0 fits,
    adds-more (λ n. if p.ticket == n then true else named_at b n) (named_at (with_piece b (Met p))) named' both p.partner
        (adds-more (named_at b) (λ n. if p.ticket == n then true else named_at b n) named named' p.ticket ground.1 first (λ n. refl)) second (named-pair b p),
    adds-more (held_at b) (held_at (with_piece b (Met p))) held held' p.seat ground.2 hold (held-pair b p),
    ground.3,
    ground.4,
  )

  -- one that was cut
  pub ground-cut : (c : OpenCut) (named' held' : List ℕ) → may_follow k b (Cut c) ≡ true → Adds named c.ticket named' → Adds held c.seat held' → IsGround k (with_piece b (Cut c)) named' held' waiting kept
  ground-cut c named' held' fits name hold = (
    follows-well k b (Cut c) ground.0 fits,
    adds-more (named_at b) (named_at (with_piece b (Cut c))) named named' c.ticket ground.1 name (named-cut b c),
    adds-more (held_at b) (held_at (with_piece b (Cut c))) held held' c.seat ground.2 hold (held-cut b c),
    ground.3,
    ground.4,
  )

  -- a flagged seat
  pub ground-flag : (i : ℕ) → may_follow k b (Flagged i) ≡ true → IsGround k (with_piece b (Flagged i)) named held waiting kept
  ground-flag i fits = (follows-well k b (Flagged i) ground.0 fits, ground.1, ground.2, ground.3, ground.4)
