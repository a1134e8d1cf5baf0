-- Plain records that a checker takes in, one after another.
use Rattle.std.proofs.Common.{◌≡◌, ◌≢◌, ℕ, ◌+◌, ◌<◌, ◌≤◌, List, [], ◌∷◌, ◌++◌, take, map, length, length-append, Option, Some, None, refl, sym, ap, subst, ◌∙◌, arith}
use Rattle.std.specs.Prelude.{slice_get}
use Rattle.std.proofs.lemmas.List.{map-append, take_more}
use Rattle.std.proofs.lemmas.Option.{slice_get_within, slice_get_past, get_or_from_slice_get}
use Rattle.meet_tickets.specs.declared.records.Record.{Record}
use Rattle.meet_tickets.specs.declared.records.Deed.{Deed}
use Rattle.meet_history.specs.declared.checker.CheckFault.TheVariants.{Illegal, Memory}
use Rattle.meet_history.specs.Pushing.{HasSeen}
use Rattle.meet_c.specs.declared.entries.PlainRecord.{PlainRecord}
use Rattle.meet_c.specs.declared.followers.Found.{Found}
use Rattle.meet_c.specs.declared.followers.Follower.{Follower}
use Rattle.meet_c.specs.Entries.{record_of}
use Rattle.meet_c.specs.Followed.{TakesNext, TakesRead, TakesAll, TakesLast, TakesMany, status_with}

-- so many plain records from the first on are records, and were taken in
pub record HasTakenMany (old : Follower) (entries : List PlainRecord) (count : ℕ) (now : Follower) : Type 0 where
  pub records : List (Record Deed)
  pub long : length records ≡ count
  pub read : map record_of (take count entries) ≡ map Some records
  pub kind : now.checker.place.kind ≡ old.checker.place.kind
  pub seen : TakesAll old.checker records now.checker
  pub counts : now.taken ≡ old.taken + count
  pub sound : 0 < count → now.checker.fault ≡ None

seen-none : (past : List (Record Deed)) → past ++ [] ≡ past
seen-none [] = refl
seen-none (r ∷ past) = ap (λ xs. r ∷ xs) (seen-none past)

-- none so far
pub none-taken : (old : Follower) (entries : List PlainRecord) → HasTakenMany old entries 0 old
none-taken old entries = record {
  records = [];
  long = refl;
  read = refl;
  kind = refl;
  seen = λ base past seen. subst (HasSeen base old.checker) (sym (seen-none past)) seen;
  counts = omega arith;
  sound = λ low. absurd (omega arith);
}

-- a record that was taken in, and nothing was found against it
pub taken-sound : (middle : Follower) (o : Option (Record Deed)) (found : Found) (now : Follower) → TakesRead middle o found now → found.status ≡ 0 → (r : Record Deed) × (o ≡ Some r) × TakesNext middle r None now
taken-sound middle None found now (told, same) zero = let bad : 30 ≡ 0 = sym (ap (λ f. f.status) told) ∙ zero in absurd (omega (arith, bad))
taken-sound middle (Some r) found now (None, next, told) zero = (r, refl, next)
taken-sound middle (Some r) found now (Some Memory, next, told) zero = let bad : 1 ≡ 0 = sym (ap (λ f. f.status) told) ∙ zero in absurd (omega (arith, bad))
taken-sound middle (Some r) found now (Some (Illegal place why), next, told) zero = let bad : 31 ≡ 0 = sym (ap (λ f. f.status) told) ∙ zero in absurd (omega (arith, bad))

append-one : (past more : List (Record Deed)) (r : Record Deed) → past ++ (more ++ r ∷ []) ≡ (past ++ more) ++ r ∷ []
append-one [] more r = refl
append-one (x ∷ past) more r = ap (λ xs. x ∷ xs) (append-one past more r)

take-one : {X : Type 0} (xs : List X) (n : ℕ) (x : X) → slice_get xs n ≡ Some x → take (n + 1) xs ≡ take n xs ++ x ∷ []
take-one xs n x at = take_more xs n x (slice_get_within xs n x at) ∙ ap (λ y. take n xs ++ y ∷ []) (get_or_from_slice_get xs n x x at)

-- one more
pub one-more : (old : Follower) (entries : List PlainRecord) (count : ℕ) (middle now : Follower) (e : PlainRecord) (found : Found) → HasTakenMany old entries count middle → slice_get entries count ≡ Some e → TakesRead middle (record_of e) found now → found.status ≡ 0 → HasTakenMany old entries (count + 1) now
one-more old entries count middle now e found before at next zero =
    let one = taken-sound middle (record_of e) found now next zero in
    let r = one.0 in
    let sure : None ≢ Some Memory = λ same. cc in
    record {
      records = before.records ++ r ∷ [];
      long = length-append before.records (r ∷ []) ∙ omega (arith, before.long);
      read = ap (map record_of) (take-one entries count e at) ∙ map-append record_of (take count entries) (e ∷ []) ∙ (λ i. before.read i ++ one.1 i ∷ []) ∙ sym (map-append Some before.records (r ∷ []));
      kind = one.2.kind ∙ before.kind;
      seen = λ base past seen. subst (HasSeen base now.checker) (sym (append-one past before.records r)) (one.2.seen sure base (past ++ before.records) (before.seen base past seen));
      counts = omega (arith, before.counts, one.2.counts sure);
      sound = λ low. one.2.ends sure;
    }

-- this is how it ended
many : (old : Follower) (entries : List PlainRecord) (count : ℕ) (middle now : Follower) (found : Found) → HasTakenMany old entries count middle → TakesLast middle (slice_get entries count) found now → TakesMany old entries found now
many old entries count middle now found before last = record {
  records = before.records;
  middle = middle;
  read = subst (λ n. map record_of (take n entries) ≡ map Some before.records) (sym before.long) before.read;
  kind = before.kind;
  seen = before.seen;
  counts = before.counts ∙ ap (λ n. old.taken + n) (sym before.long);
  sound = λ low. before.sound (subst (λ n. 0 < n) before.long low);
  last = subst (λ n. TakesLast middle (slice_get entries n) found now) (sym before.long) last;
}

-- all were taken in
pub all-taken : (old : Follower) (entries : List PlainRecord) (count : ℕ) (now : Follower) (found : Found) → HasTakenMany old entries count now → length entries ≤ count → found ≡ status_with 0 now.taken → TakesMany old entries found now
all-taken old entries count now found before past told =
    many old entries count now now found before (subst (λ o. TakesLast now o found now) (sym (slice_get_past entries count past)) (told, refl))

-- it ended at this one
pub ended-at : (old : Follower) (entries : List PlainRecord) (count : ℕ) (middle now : Follower) (e : PlainRecord) (found : Found) → HasTakenMany old entries count middle → slice_get entries count ≡ Some e → TakesRead middle (record_of e) found now → found.status ≢ 0 → TakesMany old entries found now
ended-at old entries count middle now e found before at next wrong =
    many old entries count middle now found before (subst (λ o. TakesLast middle o found now) (sym at) (wrong, next))
