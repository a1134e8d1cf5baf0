-- What calls do with an item of a mark.
use Rattle.std.specs.Prelude.{◌≡◌, ℕ, ◌<◌, ◌≤◌, ◌⊎◌, IfSome, List, Some, length, slice_get}
use Rattle.meet_overlap.specs.declared.calls.Answer.TheVariants.{Went, Got as GotItem}
use Rattle.meet_overlap.specs.declared.calls.Call.{Call}
use Rattle.meet_overlap.specs.declared.calls.Returned.{Returned}
use Rattle.meet_overlap.specs.declared.calls.Verb.{Verb}
use Rattle.meet_overlap.specs.declared.calls.Verb.TheVariants.{Keep, Give, Take, Interrupt as InterruptSeat}

-- an item of this mark is given
abbrev pub Gives : Verb → (mark : ℕ) → Type 0
Gives (Keep n) m = n ≡ m
Gives (Give p n) m = n ≡ m
Gives (Take p) m = ⊥
Gives (InterruptSeat j) m = ⊥

-- an item of this mark is given to a consumer; it isn't kept
abbrev pub HandsOver : Verb → (mark : ℕ) → Type 0
HandsOver (Keep n) m = ⊥
HandsOver (Give p n) m = n ≡ m
HandsOver (Take p) m = ⊥
HandsOver (InterruptSeat j) m = ⊥

-- an item of this mark is given, and kept if nobody is there
abbrev pub IsKeeping : Verb → (mark : ℕ) → Type 0
IsKeeping (Keep n) m = n ≡ m
IsKeeping (Give p n) m = ⊥
IsKeeping (Take p) m = ⊥
IsKeeping (InterruptSeat j) m = ⊥

-- an item is taken
abbrev pub IsTaking : Verb → Type 0
IsTaking (Keep n) = ⊥
IsTaking (Give p n) = ⊥
IsTaking (Take p) = Unit {0}
IsTaking (InterruptSeat j) = ⊥

-- a call of this number, and how it ended
pub record IsEnded (calls : List Call) : Type 0 where
  pub number : ℕ
  pub call : Call
  pub known : slice_get calls number ≡ Some call
  pub returned : Returned
  pub ended : call.returned ≡ Some returned

-- the call answers that its item went, or never ended
abbrev pub MayGive : Call → Type 0
MayGive call = IfSome call.returned (λ r. r.answer ≡ Went)

-- the call got an item of this mark, or never ended
abbrev pub MayGet : Call → (mark : ℕ) → Type 0
MayGet call m = IfSome call.returned (λ r. r.answer ≡ GotItem m)

-- none of the first calls that began by this time gives an item of this mark
abbrev pub NoneGave : List Call → (count mark by : ℕ) → Type 0
NoneGave calls count mark by = (n : ℕ) (call : Call) → n < count → slice_get calls n ≡ Some call → Gives call.verb mark
    → call.begin ≤ by → ⊥

-- none of the first calls that began by this time may have given an item of this mark
abbrev pub NoneMayGive : List Call → (count mark by : ℕ) → Type 0
NoneMayGive calls count mark by = (n : ℕ) (call : Call) → n < count → slice_get calls n ≡ Some call
    → Gives call.verb mark → MayGive call → call.begin ≤ by → ⊥

-- none of the first calls that began by this time may have got an item of this mark
abbrev pub NoneTook : List Call → (count mark by : ℕ) → Type 0
NoneTook calls count mark by = (n : ℕ) (call : Call) → n < count → slice_get calls n ≡ Some call → IsTaking call.verb
    → MayGet call mark → call.begin ≤ by → ⊥

-- of the first calls no other than the one of this number gives an item of this mark
abbrev pub IsOnlyGiver : List Call → (count mark giver : ℕ) → Type 0
IsOnlyGiver calls count mark giver = (n : ℕ) (call : Call) → n < count → slice_get calls n ≡ Some call
    → Gives call.verb mark → n ≡ giver

-- a call got an item of this mark, and began after this time
pub record IsGotLater (calls : List Call) (mark by : ℕ) : Type 0 where
  pub taken : IsEnded calls
  pub takes : IsTaking taken.call.verb
  pub got : taken.returned.answer ≡ GotItem mark
  pub later : by < taken.call.begin

-- nobody can have got an item of this mark by this time: no call began by then that may have got it, or one call alone
-- gives it, and a call got it that began later
abbrev pub NoneGot : List Call → (mark by : ℕ) → Type 0
NoneGot calls mark by = NoneTook calls (length calls) mark by
    ⊎ ((giver : ℕ) × IsOnlyGiver calls (length calls) mark giver × IsGotLater calls mark by)

-- the call of this number gives an item of this mark
abbrev pub IsGiverOf : List Call → (mark number : ℕ) → Type 0
IsGiverOf calls mark number = (call : Call) × (slice_get calls number ≡ Some call) × Gives call.verb mark

-- the call of this number takes an item
abbrev pub IsTakerOf : List Call → (mark number : ℕ) → Type 0
IsTakerOf calls mark number = (call : Call) × (slice_get calls number ≡ Some call) × IsTaking call.verb
    × MayGet call mark
