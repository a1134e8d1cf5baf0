-- What a step that reads a part of a line says, where it read one.
use Rattle.std.proofs.Common.{◌≡◌, ℕ, ◌^◌, ◌<◌, ◌≤◌, Bool, true, false, cond, ltb, List, length, Option, Some, None, refl, arith, lit<}
use Rattle.std.specs.Prelude.{decimal}
use Rattle.std.specs.Str.{bytes_eq}
use Rattle.std.proofs.lemmas.Bool.{ltb-true, lt-ltb}
use Rattle.std.proofs.lemmas.Fmt.{length-decimal-le}
use Rattle.std.proofs.lemmas.Option.{cond_some}
use Rattle.std.proofs.lemmas.Slice.Eq.{bytes_eq-Decides}
use Rattle.meet_tickets.specs.Limits.{most_seats}
use Rattle.meet_run.specs.Texts.Grammar.{◌>>=◌, seat_in}

-- the value of a step that did not fail
pub bind-some : {A B : Type 0} (o : Option A) (f : A → Option B) (y : B) → (o >>= f) ≡ Some y → (x : A) × (o ≡ Some x) × (f x ≡ Some y)
bind-some None f y e = absurd cc
bind-some (Some x) f y e = (x, refl, e)

-- a test that must fail
pub chosen-second : {A : Type 0} (b : Bool) (o : Option A) (x : A) → cond b None o ≡ Some x → (b ≡ false) × (o ≡ Some x)
chosen-second true o x e = absurd cc
chosen-second false o x e = (refl, e)

-- what a dispatch on a word chose
pub chosen : {A : Type 0} (word text : List ℕ) (o other : Option A) (x : A) (P : Type 0) → cond (bytes_eq word text) o other ≡ Some x → (word ≡ text → o ≡ Some x → P) → (other ≡ Some x → P) → P
chosen word text o other x P e this more = go (bytes_eq word text) refl e
  where
    go : (b : Bool) → bytes_eq word text ≡ b → cond b o other ≡ Some x → P
    go true is e = this ((bytes_eq-Decides word text).0 is) e
    go false is e = more e

-- a seat's number
pub seat-is : (n seat : ℕ) → seat_in n ≡ Some seat → (n ≡ seat) × (n < most_seats)
unfolding seat_in
seat-is n seat e = let p = cond_some (ltb n most_seats) n seat e in (p.1, ltb-true n most_seats p.0)

pub seat-again : (n : ℕ) → n < most_seats → seat_in n ≡ Some n
unfolding seat_in
seat-again n lt = rw (lt-ltb n most_seats lt) refl

pub number-short : (n : ℕ) → n < 2 ^ 64 → length (decimal n) ≤ 20
number-short n lt = length-decimal-le 20 n (lit< tt) (omega arith) lt
