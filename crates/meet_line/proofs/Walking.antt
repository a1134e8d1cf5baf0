-- A walk from a line's first entry on, and where an entry is found.
use Rattle.std.proofs.Common.{◌≡◌, ℕ, ◌+◌, ◌-◌, ◌≤◌, ◌==◌, Bool, true, false, cond, Option, Some, None, List, [], ◌∷◌, ◌++◌, length, find, option_map, refl, sym, ap, ◌∙◌, subst, arith, take, drop, Bor}
use Rattle.std.specs.Prelude.{slice_get}
use Rattle.std.specs.Slice.{IsItemAt}
use Rattle.std.proofs.lemmas.Bool.{lt-ltb}
use Rattle.std.proofs.lemmas.List.{length-append, nil_from_length, append-nil, append_assoc}
use Rattle.meet_tickets.specs.declared.lines.Entry.{Entry}
use Rattle.meet_tickets.specs.BySeat.{without_first}
use Rattle.meet_line.specs.Seated.{first_seat, seat_found, Sits}
use Rattle.meet_line.proofs.Stored.{last-there, last-gone}

-- so many entries were passed, and the next has the seat at `at`
pub record Walked {T : Type 0} (line : List (Entry T)) (at : Option ℕ) (step : ℕ) : Type 0 where
  pub done : List (Entry T)
  pub rest : List (Entry T)
  pub all : line ≡ done ++ rest
  pub next : at ≡ first_seat rest
  pub steps : length done ≡ step

-- the first of a line
pub first-sits : {T : Type 0} (line : List (Entry T)) (key : ℕ) → Some key ≡ first_seat line → (e : Entry T) × (rest : List (Entry T)) × (line ≡ e ∷ rest) × (e.seat ≡ key)
first-sits [] key is = absurd (cc)
first-sits (e ∷ line) key is = let own : e.seat ≡ key = cc in (e, line, refl, own)

pub sits-first : {T : Type 0} (line : List (Entry T)) (key : ℕ) → Some key ≡ first_seat line → Sits line key
sits-first line key is = let at = first-sits line key is in record { front = []; entry = at.0; rest = at.1; all = at.2; own = at.3 }

pub first-none : {T : Type 0} (line : List (Entry T)) → None ≡ first_seat line → line ≡ []
first-none [] is = refl
first-none (e ∷ line) is = absurd (cc)

module _ {T : Type 0} (line : List (Entry T)) where
  abbrev pub walked-none : (at : Option ℕ) → at ≡ first_seat line → Walked line at 0
  walked-none at is = record { done = []; rest = line; all = refl; next = is; steps = refl }

  pub walked-sits : (key step : ℕ) → Walked line (Some key) step → Sits line key
  walked-sits key step w =
      let at = first-sits w.rest key w.next in
      record { front = w.done; entry = at.0; rest = at.1; all = w.all ∙ ap (λ r. w.done ++ r) at.2; own = at.3 }

  -- one entry more
  pub walked-more : (key step : ℕ) (at' : Option ℕ) (w : Walked line (Some key) step) → ((front : List (Entry T)) (e : Entry T) (rest : List (Entry T)) → line ≡ front ++ e ∷ rest → e.seat ≡ key → at' ≡ first_seat rest) → (more : Walked line at' (step + 1)) × (more.done ≡ w.done ++ (walked-sits key step w).entry ∷ [])
  unfolding walked-sits
  walked-more key step at' w after =
      let at = walked-sits key step w in (
        record {
          done = w.done ++ at.entry ∷ [];
          rest = at.rest;
          all = at.all ∙ sym (append_assoc w.done (at.entry ∷ []) at.rest);
          next = after w.done at.entry at.rest at.all at.own;
          steps = omega (arith, w.steps, length-append w.done (at.entry ∷ []));
        },
        refl,
      )

  -- the walk is over
  pub walked-all : (at : Option ℕ) (step : ℕ) → length line ≤ step → (w : Walked line at step) → line ≡ w.done
  walked-all at step most w =
      let none : length w.rest ≡ 0 = omega (arith, most, w.steps, ap length w.all, length-append w.done w.rest) in
      w.all ∙ ap (λ r. w.done ++ r) (nil_from_length w.rest none) ∙ append-nil w.done

  pub walked-end : (step : ℕ) → (w : Walked line None step) → line ≡ w.done
  walked-end step w = w.all ∙ ap (λ r. w.done ++ r) (first-none w.rest w.next) ∙ append-nil w.done

-- where nothing before passes, what is found stands behind
pub find-behind : {T : Type 0} (t : ℕ) (front : List (Entry T)) (e : Entry T) → find (λ a. a.ticket == t) front ≡ None → e.ticket == t ≡ false → find (λ a. a.ticket == t) (front ++ e ∷ []) ≡ None
find-behind t [] e none not = ap (λ b. cond b (Some e) None) not
find-behind {T} t (f ∷ front) e none not = by_test (f.ticket == t) none (find-behind t front e)
  where
    by_test : (b : Bool) → cond b (Some f) (find (λ a. a.ticket == t) front) ≡ None → (find (λ a. a.ticket == t) front ≡ None → e.ticket == t ≡ false → find (λ a. a.ticket == t) (front ++ e ∷ []) ≡ None) → cond b (Some f) (find (λ a. a.ticket == t) (front ++ e ∷ [])) ≡ None
    by_test true none rest = absurd (cc)
    by_test false none rest = rest none not

-- what is found, where it stands
pub record FoundAt {T : Type 0} (line : List (Entry T)) (t key : ℕ) : Type 0 where
  pub at : Sits line key
  pub found : find (λ a. a.ticket == t) line ≡ Some at.entry
  pub gone : without_first (λ a. a.ticket == t) line ≡ at.front ++ at.rest

pub found_at : {T : Type 0} (line : List (Entry T)) (t key : ℕ) → seat_found line t ≡ Some key → FoundAt line t key
found_at [] t key is = absurd (cc)
found_at {T} (e ∷ line) t key is = by_test (found_at line t key) (e.ticket == t) refl
  where
    by_test : (seat_found line t ≡ Some key → FoundAt line t key) → (b : Bool) → e.ticket == t ≡ b → FoundAt (e ∷ line) t key
    by_test rest true passes =
        let found : find (λ a. a.ticket == t) (e ∷ line) ≡ Some e = ap (λ b. cond b (Some e) (find (λ a. a.ticket == t) line)) passes in
        let seat : Some e.seat ≡ Some key = sym (ap (option_map (λ a. a.seat)) found) ∙ is in
        let own : e.seat ≡ key = cc in
        record {
          at = record { front = []; entry = e; rest = line; all = refl; own = own };
          found = found;
          gone = ap (λ b. cond b line (e ∷ without_first (λ a. a.ticket == t) line)) passes;
        }
    by_test rest false fails =
        let same : find (λ a. a.ticket == t) (e ∷ line) ≡ find (λ a. a.ticket == t) line = ap (λ b. cond b (Some e) (find (λ a. a.ticket == t) line)) fails in
        let later = rest (sym (ap (option_map (λ a. a.seat)) same) ∙ is) in
        record {
          at = record { front = e ∷ later.at.front; entry = later.at.entry; rest = later.at.rest; all = ap (λ es. e ∷ es) later.at.all; own = later.at.own };
          found = same ∙ later.found;
          gone = ap (λ b. cond b line (e ∷ without_first (λ a. a.ticket == t) line)) fails ∙ ap (λ es. e ∷ es) later.gone;
        }

pub found-none : {T : Type 0} (line : List (Entry T)) (t : ℕ) → None ≡ seat_found line t → find (λ a. a.ticket == t) line ≡ None
found-none {T} line t is = by_case (find (λ a. a.ticket == t) line) is
  where
    by_case : (o : Option (Entry T)) → None ≡ option_map (λ a. a.seat) o → o ≡ None
    by_case None is = refl
    by_case (Some e) is = absurd (cc)

-- the ends of a line
pub met-first : {T : Type 0} (line : List (Entry T)) (e : Entry T) (rest : List (Entry T)) → line ≡ e ∷ rest → (slice_get line 0 ≡ Some e) × (drop 1 line ≡ rest)
met-first line e rest all = (ap (λ es. slice_get es 0) all, ap (drop 1) all)

pub met-last : {T : Type 0} (line front : List (Entry T)) (e : Entry T) (rest : List (Entry T)) → line ≡ front ++ e ∷ rest → rest ≡ [] → (slice_get line (length line - 1) ≡ Some e) × (take (length line - 1) line ≡ front ++ rest)
met-last line front e rest all none =
    let was : line ≡ front ++ e ∷ [] = all ∙ ap (λ r. front ++ e ∷ r) none in (
      ap (λ es. slice_get es (length es - 1)) was ∙ last-there front e,
      ap (λ es. take (length es - 1) es) was ∙ last-gone front e ∙ sym (append-nil front) ∙ ap (λ r. front ++ r) (sym none),
    )

-- a borrow of the first
pub item-first : {T : Type 0} (line : List (Entry T)) (o : Option (Bor (Entry T))) (e : Entry T) (rest : List (Entry T)) → line ≡ e ∷ rest → option_map (λ f. f.now) o ≡ Some e → IsItemAt line 0 o
item-first line None e rest all is = absurd (cc)
item-first line (Some b) e rest all is =
    let same : b.now ≡ e = cc in
    subst (λ l. IsItemAt l 0 (Some b)) (sym all) (sym (lt-ltb 0 (length (e ∷ rest)) (omega arith)), same, λ _. refl, (omega arith, λ d. same), λ _ d. same)
