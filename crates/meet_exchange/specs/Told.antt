-- What each kind of step tells the seat that makes it: equations on its token, a list of trails and of the slots held.
use Rattle.std.specs.Prelude.{◌≡◌, ◌≢◌, ◌/◌, ◌%◌, ℕ, ◌≤◌, List, [], ◌∷◌, ◌++◌, Option, Some, None}
use mathlib.Core.Option.{Option as Perhaps, some, none}
use Rattle.atomic_table.specs.Table.{Me, Step}
use Rattle.meet_tickets.specs.Limits.{last_round}
use Rattle.meet_exchange.specs.declared.records.SlotDeed.TheVariants.{Posted, Withdrawn, Swapped, Collected}
use Rattle.meet_exchange.specs.declared.records.Part.{Part}
use Rattle.meet_exchange.specs.declared.views.Duty.TheVariants.{Claimed, Offering, Ready, Took, Gathered, TookBack}
use Rattle.meet_exchange.specs.declared.views.InHand.{InHand}
use Rattle.meet_exchange.specs.declared.views.InHand.TheVariants.{Nothing, At}
use Rattle.meet_exchange.specs.declared.views.Trail.{Trail}
use Rattle.meet_exchange.specs.Words.{round_unit}
use Rattle.meet_exchange.specs.Rounds.{part}
use Rattle.meet_exchange.specs.Rule.{top}

-- a token, a step, and what a step tells: of the step, the token before, the word that it found, and the token after
abbrev pub Token : Type 0 → Type 0
Token T = Me (Option T) (List Trail)

abbrev pub Word : Type 0 → Type 0
Word T = Step (Option T)

abbrev pub Told : Type 0 → Type 1
Told T = Word T → Token T → ℕ → Token T → Type 0

-- it saw a word of the slot k more; it has this in hand; it did this, and has this in hand
abbrev pub saw : Trail → (k w : ℕ) → Trail
saw v k w = record v { seen = v.seen ++ (k, w) ∷ [] }

abbrev pub holds_now : Trail → InHand → Trail
holds_now v h = record v { hand = h }

abbrev pub did : Trail → Part → InHand → Trail
did v p h = record v { list = v.list ++ p ∷ []; hand = h }

-- the round, and the mark, of what is in hand
abbrev pub round_in : InHand → ℕ
round_in Nothing = 0
round_in (At k r d) = r

abbrev pub given_in : InHand → ℕ
given_in Nothing = 0
given_in (At k r Claimed) = 0
given_in (At k r (Offering a)) = a
given_in (At k r (Ready a)) = a
given_in (At k r (Took b)) = b
given_in (At k r Gathered) = 0
given_in (At k r TookBack) = 0

module _ {T : Type 0} (mark : T → ℕ) where
  -- the mark of an item that a step brings, or that the token holds
  abbrev pub said_mark : Perhaps (Option T) → ℕ
  said_mark none = 0
  said_mark (some None) = 0
  said_mark (some (Some x)) = mark x

  abbrev pub held_mark : List (ℕ × Option T) → ℕ
  held_mark [] = 0
  held_mark (x ∷ xs) = said_mark (some x.1)

module _ {T : Type 0} where
  -- a look
  abbrev pub Looks : Told T
  Looks st m found n = n ≡ (saw (top m.0) st.word found ∷ [], m.1)

  -- of a load
  abbrev pub Sees : Told T
  Sees st m found n = (found / round_unit ≤ last_round) × Looks st m found n

  -- of a load by a seat whose offer stands there: an answer that it sees is in its hand from then on
  abbrev pub Finds : Told T
  Finds st m found n = let v = top m.0 in (found / round_unit ≤ last_round) × (found % 8 ≢ 4 → Looks st m found n)
      × (found % 8 ≡ 4
      → n ≡ (saw (holds_now v (At st.word (round_in v.hand) (Ready (given_in v.hand)))) st.word found ∷ [], m.1))

  -- a step that may fail: it succeeds exactly where it finds the word that it expects, and else it is a look
  abbrev pub Tries : (Token T → Type 0) → Told T
  Tries hit st m found n = (found ≡ st.first → hit n) × (found ≢ st.first → Looks st m found n)

  abbrev pub HasClaimed : Word T → Token T → Token T → Type 0
  HasClaimed st m n = n ≡ (
    holds_now (top m.0) (At st.word (st.first / round_unit) Claimed) ∷ [],
    (st.word, None) ∷ m.1,
  )

  abbrev pub Claims : Told T
  Claims st m = Tries (HasClaimed st m) st m

  -- of a clear and of an answer: what the seat held is at home again, and it has nothing in hand
  abbrev pub Frees : Told T
  Frees st m found n = n ≡ (holds_now (top m.0) Nothing ∷ [], [])

module _ {T : Type 0} (mark : T → ℕ) where
  abbrev pub Posts : Told T
  Posts st m found n = let v = top m.0 in let r = round_in v.hand in let a = held_mark mark m.1 in
      n ≡ (did v (part st.word r (Posted a)) (At st.word r (Offering a)) ∷ [], [])

  abbrev pub HasWithdrawn : Word T → Token T → Token T → Type 0
  HasWithdrawn st m n = let v = top m.0 in let r = round_in v.hand in
      (x : T) × (mark x ≡ given_in v.hand)
      × (n ≡ (did v (part st.word r Withdrawn) (At st.word r TookBack) ∷ [], (st.word, Some x) ∷ m.1))

  abbrev pub Withdraws : Told T
  Withdraws st m found n = Tries (HasWithdrawn st m) st m found n × (found ≢ st.first → found % 8 ≢ 2)

  abbrev pub HasTaken : Word T → Token T → Token T → Type 0
  HasTaken st m n = let v = top m.0 in let r = st.first / round_unit in let b = said_mark mark st.said in (x : T)
      × (n ≡ (did v (part st.word r (Swapped b (mark x))) (At st.word r (Took b)) ∷ [], (st.word, Some x) ∷ m.1))

  abbrev pub Takes : Told T
  Takes st m = Tries (HasTaken st m) st m

  abbrev pub HasCollected : Word T → Token T → Token T → Type 0
  HasCollected st m n = let v = top m.0 in let r = round_in v.hand in
      (x : T)
      × (n ≡ (did v (part st.word r (Collected (mark x))) (At st.word r Gathered) ∷ [], (st.word, Some x) ∷ m.1))

  -- of an answer that was seen: it doesn't fail
  abbrev pub Gains : Told T
  Gains st m found n = (found ≡ st.first) × HasCollected st m n

  -- where it fails the word that it found isn't answered; and where a withdrawal does, it isn't posted
  abbrev pub Collects : Told T
  Collects st m found n = Tries (HasCollected st m) st m found n × (found ≢ st.first → found % 8 ≢ 4)
