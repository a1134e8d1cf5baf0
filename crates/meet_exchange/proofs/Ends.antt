-- The rounds and the lists that a close answers are those that the rule knows.
use Rattle.std.proofs.Common.{◌≡◌, ℕ, zero, suc, ◌+◌, ◌<◌, ◌≤◌, inl, inr, List, [], ◌∷◌, length, replicate, set, get_or-set_other, get_or-set_same, length-set, le_refl, sym, refl, ap, ◌∙◌, subst, arith, Option, lt_of_not-le}
use mathlib.Core.Logic.{dite}
use native.Mathlib.Decide.{dec_le}
use Rattle.meet_exchange.specs.declared.records.Part.{Part}
use Rattle.meet_exchange.specs.declared.records.Round.{Round}
use Rattle.meet_exchange.specs.declared.views.Plan.{Plan}
use Rattle.meet_exchange.specs.declared.views.Trail.{Trail}
use Rattle.meet_exchange.specs.declared.left.LeftIn.{LeftIn}
use Rattle.meet_exchange.specs.Rounds.{IsHistory, in_slot, parts_of}
use Rattle.meet_exchange.specs.Rebuild.{blank, posts_of, rebuilt_from}
use Rattle.meet_exchange.specs.Closing.{Closing, AreParts, IsNewList, lists_of, put_all}
use Rattle.meet_exchange.specs.Closed.{entry_at, AreAt, HasList, numbered, IsLeft, TakenUpTo}
use Rattle.meet_exchange.proofs.Pigeons.{Among, all_there}
use Rattle.meet_exchange.proofs.Rebuilding.{firsts, length-firsts, firsts_apart, firsts_below, seat_low, rebuilt}
use Rattle.meet_exchange.proofs.Counting.{AllSeated, counted}
use Rattle.meet_exchange.proofs.Gathers.{all_left, length-lists}

-- ## Lists at their seats' numbers

length-put : (ps : List (ℕ × List Part)) (lists : List (List Part)) → length (put_all ps lists) ≡ length lists
length-put [] lists = refl
length-put (p ∷ ps) lists = length-put ps (set lists p.0 p.1) ∙ length-set lists p.0 p.1

put_absent : (ps : List (ℕ × List Part)) (lists : List (List Part)) (x : ℕ) → IsNewList x ps → entry_at (put_all ps lists) x ≡ entry_at lists x
put_absent [] lists x new = refl
put_absent (p ∷ ps) lists x new = put_absent ps (set lists p.0 p.1) x new.1 ∙ get_or-set_other lists p.0 x p.1 [] (λ e. new.0 (sym e))

put_there : (n start : ℕ) (rounds : ℕ → List Round) (ps : List (ℕ × List Part)) (lists : List (List Part)) → AreParts n start rounds ps → length lists ≡ n → (x : ℕ) → Among x (firsts ps)
    → (k : ℕ) → in_slot k (entry_at (put_all ps lists) x) ≡ parts_of x k start (rounds k)
put_there n start rounds [] lists parts long x among k = absurd among
put_there n start rounds (p ∷ ps) lists parts long x (inl e) k = let low : p.0 < n = parts.0 in
    subst (λ z. in_slot k (entry_at (put_all ps (set lists p.0 p.1)) z) ≡ parts_of z k start (rounds k)) e
    (ap (in_slot k) (put_absent ps (set lists p.0 p.1) p.0 parts.2 ∙ get_or-set_same lists p.0 p.1 [] (omega arith)) ∙ parts.1 k)
put_there n start rounds (p ∷ ps) lists parts long x (inr among) k = put_there n start rounds ps (set lists p.0 p.1) parts.3 (length-set lists p.0 p.1 ∙ long) x among k

put_at : (n start : ℕ) (rounds : ℕ → List Round) (ps : List (ℕ × List Part)) (lists : List (List Part)) → AreParts n start rounds ps → length lists ≡ n → AreAt (put_all ps lists) ps
put_at n start rounds [] lists parts long = tt
put_at n start rounds (p ∷ ps) lists parts long = let low : p.0 < n = parts.0 in (
  put_absent ps (set lists p.0 p.1) p.0 parts.2 ∙ get_or-set_same lists p.0 p.1 [] (omega arith),
  put_at n start rounds ps (set lists p.0 p.1) parts.3 (length-set lists p.0 p.1 ∙ long),
)

has_first : (x : ℕ) (ps : List (ℕ × List Part)) → Among x (firsts ps) → HasList x ps
has_first x [] among = absurd among
has_first x (p ∷ ps) (inl e) = inl e
has_first x (p ∷ ps) (inr among) = inr (has_first x ps among)

new_numbered : (x i : ℕ) (lists : List (List Part)) → x < i → IsNewList x (numbered i lists)
new_numbered x i [] l = tt
new_numbered x i (list ∷ lists) l = ((λ e. absurd (omega arith)), new_numbered x (suc i) lists (omega arith))

length-numbered : (i : ℕ) (lists : List (List Part)) → length (numbered i lists) ≡ length lists
length-numbered i [] = refl
length-numbered i (list ∷ lists) = ap suc (length-numbered (suc i) lists)

numbered_parts : (n start : ℕ) (rounds : ℕ → List Round) (i : ℕ) (lists : List (List Part)) → i + length lists ≤ n
    → ((j : ℕ) → j < length lists → (k : ℕ) → in_slot k (entry_at lists j) ≡ parts_of (i + j) k start (rounds k)) → AreParts n start rounds (numbered i lists)
numbered_parts n start rounds i [] few fit = tt
numbered_parts n start rounds i (list ∷ lists) few fit = let e : i + 0 ≡ i = omega arith in (
  omega arith,
  (λ k. fit 0 (omega arith) k ∙ ap (λ z. parts_of z k start (rounds k)) e),
  new_numbered i (suc i) lists (omega arith),
  numbered_parts n start rounds (suc i) lists (omega arith) (λ j l k. let f : i + suc j ≡ suc i + j = omega arith in fit (suc j) (omega arith) k ∙ ap (λ z. parts_of z k start (rounds k)) f),
)

-- ## Rounds

seated : (n : ℕ) (xs : List ℕ) (rds : List Round) → ((x : ℕ) → x < n → Among x xs) → IsHistory n rds → AllSeated xs rds
seated n xs [] all h = tt
seated n xs (x ∷ []) all h = (all x.seat (seat_low n x x.end h), tt)
seated n xs (x ∷ y ∷ ys) all h = (all x.seat (seat_low n x x.end h.1), seated n xs (y ∷ ys) all h.2)

past_end : (lists : List (List Round)) (k : ℕ) → length lists ≤ k → entry_at lists k ≡ []
past_end [] k l = refl
past_end (x ∷ lists) zero l = absurd (omega arith)
past_end (x ∷ lists) (suc k) l = past_end lists k (omega arith)

-- what a close answers, where these lists with their seats' numbers were joined: these lists, rounds and items
pub record Ended {T : Type 0} (mark : T → ℕ) (slots seats start : ℕ) (told : List (ℕ × List Part)) (here : List (List Part)) (all : List (List Round)) (items : List (LeftIn T)) : Type 0 where
  pub history : (k : ℕ) → IsHistory seats (entry_at all k)
  pub lists : (x k : ℕ) → x < seats → in_slot k (entry_at here x) ≡ parts_of x k start (entry_at all k)
  pub own : AreAt here told
  pub each : (x : ℕ) → x < seats → HasList x told
  pub left : IsLeft mark start (entry_at all) slots items

module _ {T : Type 0} (mark : T → ℕ) (plan : Plan) (vs : List Trail) (words : List ℕ) (values : List (Option T)) (closing : Closing mark plan (lists_of vs) words values) (many : plan.seats ≤ length vs)
    (lists0 : List (List Part)) (sized : length lists0 ≡ plan.seats) (count : ℕ → ℕ) (posts : (k : ℕ) → posts_of k (lists_of vs) ≡ count k) (all : List (List Round)) (long : length all ≡ plan.slots)
    (each : (k : ℕ) → k < plan.slots → entry_at all k ≡ rebuilt_from plan.start k (numbered 0 (put_all (lists_of vs) lists0)) (replicate (count k) blank)) where
  abbrev told : List (ℕ × List Part)
  told = lists_of vs

  abbrev lists : List (List Part)
  lists = put_all told lists0

  abbrev parts : AreParts plan.seats plan.start closing.rounds told
  parts = closing.parts

  seats_there : (x : ℕ) → x < plan.seats → Among x (firsts told)
  seats_there x l = let e = length-firsts told in let f = length-lists vs in
      all_there plan.seats (firsts told) (firsts_apart plan.seats plan.start closing.rounds told parts) (firsts_below plan.seats plan.start closing.rounds told parts) (omega arith) x l

  placed : (x k : ℕ) → x < plan.seats → in_slot k (entry_at lists x) ≡ parts_of x k plan.start (closing.rounds k)
  placed x k l = put_there plan.seats plan.start closing.rounds told lists0 parts sized x (seats_there x l) k

  same_within : (k : ℕ) → k < plan.slots → entry_at all k ≡ closing.rounds k
  same_within k l = let e : length lists ≡ plan.seats = length-put told lists0 ∙ sized in let f = length-numbered 0 lists in
      let fits : AreParts plan.seats plan.start closing.rounds (numbered 0 lists) = numbered_parts plan.seats plan.start closing.rounds 0 lists (omega arith) (λ j h k. let z : j ≡ 0 + j = omega arith in placed j k (omega arith) ∙ ap (λ y. parts_of y k plan.start (closing.rounds k)) z) in
      let long : count k ≡ length (closing.rounds k) = sym (posts k) ∙ counted plan.seats plan.start k closing.rounds told parts (firsts_apart plan.seats plan.start closing.rounds told parts) (seated plan.seats (firsts told) (closing.rounds k) seats_there (closing.history k)) in
      each k l ∙ rebuilt plan.seats plan.start k (count k) closing.rounds (numbered 0 lists) fits (omega arith) (closing.history k) long

  same : (k : ℕ) → entry_at all k ≡ closing.rounds k
  same k = dite (dec_le plan.slots k) (λ d. past_end all k (omega arith) ∙ sym (closing.beyond k d)) (λ d. same_within k (lt_of_not-le d))

  pub ended : (slots seats start : ℕ) → plan.slots ≡ slots → plan.seats ≡ seats → plan.start ≡ start → (here : List (List Part)) → here ≡ lists → (left : List (LeftIn T)) → TakenUpTo words values slots left
      → Ended mark slots seats start told here all left
  ended slots seats start e f h here is left taken = let P : ℕ → ℕ → (ℕ → List Round) → Type 0 = λ s n r. IsLeft mark s r n left in
      let known : P plan.start plan.slots closing.rounds = all_left mark plan told words values closing plan.slots (le_refl plan.slots) left (subst (λ z. TakenUpTo words values z left) (sym e) taken) in
      record {
        history = λ k. subst (λ z. IsHistory z (entry_at all k)) f (subst (IsHistory plan.seats) (sym (same k)) (closing.history k));
        lists = λ x k l. ap (λ z. in_slot k (entry_at z x)) is ∙ (placed x k (subst (λ z. x < z) (sym f) l) ∙ (λ i. parts_of x k (h i) (sym (same k) i)));
        own = subst (λ z. AreAt z told) (sym is) (put_at plan.seats plan.start closing.rounds told lists0 parts sized);
        each = λ x l. has_first x told (seats_there x (subst (λ z. x < z) (sym f) l));
        left = subst (λ s. P s slots (entry_at all)) h (subst (λ n. P plan.start n (entry_at all)) e (subst (P plan.start plan.slots) (λ i k. sym (same k) i) known));
      }
