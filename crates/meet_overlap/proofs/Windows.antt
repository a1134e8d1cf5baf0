-- What is read of a window that was written to, that grew, or that was moved.
use Rattle.std.proofs.Common.{◌≡◌, ◌≢◌, Some, ℕ, suc, refl, zero, ◌+◌, ◌-◌, ◌<◌, ◌≤◌, ◌⊎◌, inl, inr, sym, ◌∙◌, ap, List, [], ◌∷◌, ◌++◌, length, drop, get_or, set, true, false, eqb, ⊎_elim, arith}
use Rattle.std.specs.Prelude.{if◌then◌else◌, nat_lt}
use Rattle.std.proofs.Math.Path.{fun_ext}
use Rattle.std.proofs.lemmas.List.{get_or-set_other, get_or-set_same}
use Rattle.std.proofs.lemmas.Bool.{cases_lt, lt-ltb, le-ltb}
use Rattle.std.proofs.lemmas.Bool.Decides.{eqb_tells}
use Rattle.meet_tickets.specs.declared.places.Kind.{Kind}
use Rattle.meet_tickets.specs.declared.records.Deed.{Deed}
use Rattle.meet_tickets.specs.BySeat.{Seats, put_at}
use Rattle.meet_overlap.specs.declared.calls.Call.{Call}
use Rattle.meet_overlap.specs.declared.calls.Stage.{Stage}
use Rattle.meet_overlap.specs.declared.calls.Stage.TheVariants.{Ahead, Open, Over}
use Rattle.meet_overlap.specs.Places.{stage_in}
use Rattle.meet_overlap.specs.Search.{deed_of}
use Rattle.meet_overlap.proofs.Tables.{padded_here}

pub before : (first : ℕ) (xs : List Stage) (n : ℕ) → n < first → stage_in first xs n ≡ Over
before first xs n lt = ap (λ b. if b then Over else get_or xs (n - first) Ahead) (lt-ltb n first lt)

within : (first : ℕ) (xs : List Stage) (n : ℕ) → first ≤ n → stage_in first xs n ≡ get_or xs (n - first) Ahead
within first xs n le = ap (λ b. if b then Over else get_or xs (n - first) Ahead) (le-ltb n first le)

past_end : {A : Type 0} (xs : List A) (d : A) (i : ℕ) → length xs ≤ i → get_or xs i d ≡ d
past_end [] d zero le = refl
past_end [] d (suc i) le = refl
past_end (x ∷ xs) d zero le = absurd (omega arith)
past_end (x ∷ xs) d (suc i) le = past_end xs d i (omega arith)

-- a call behind the window is ahead
pub beyond : (first : ℕ) (xs : List Stage) (n : ℕ) → first + length xs ≤ n → stage_in first xs n ≡ Ahead
beyond first xs n past = within first xs n (omega arith) ∙ past_end xs Ahead (n - first) (omega arith)

-- calls behind the window are ahead, whether they stand there or not
pub stage_grown : (first : ℕ) (xs : List Stage) → stage_in first (xs ++ Ahead ∷ []) ≡ stage_in first xs
stage_grown first xs = fun_ext λ n. ap (λ s. if nat_lt n first then Over else s) (padded_here xs Ahead (n - first))

put_here : (first : ℕ) (xs : List Stage) (number : ℕ) (s : Stage) (k : ℕ) → first ≤ number → number - first < length xs →
    ((eqb k number ≡ true) × (k ≡ number)) ⊎ ((eqb k number ≡ false) × (k ≢ number)) → stage_in first (set xs (number - first) s) k ≡ put_at (stage_in first xs) number s k
put_here first xs number s k le there (inl h) =
    ap (stage_in first (set xs (number - first) s)) h.1
    ∙ within first (set xs (number - first) s) number le
    ∙ get_or-set_same xs (number - first) s Ahead there
    ∙ sym (ap (λ b. if b then s else stage_in first xs k) h.0)
put_here first xs number s k le there (inr h) = ⊎_elim
    (λ lt. before first (set xs (number - first) s) k lt ∙ sym (before first xs k lt))
    (λ from.
    let other : k - first ≢ number - first = λ same. h.1 (omega arith) in
    within first (set xs (number - first) s) k from
    ∙ get_or-set_other xs (number - first) (k - first) s Ahead other
    ∙ sym (within first xs k from))
    (cases_lt k first)
    ∙ sym (ap (λ b. if b then s else stage_in first xs k) h.0)

-- reading a window that was written to is reading stages that were changed there
pub stage_put : (first : ℕ) (xs : List Stage) (number : ℕ) (s : Stage) → first ≤ number → number - first < length xs → stage_in first (set xs (number - first) s) ≡ put_at (stage_in first xs) number s
stage_put first xs number s le there = fun_ext λ k. put_here first xs number s k le there (eqb_tells k number)

shifted_here : (first : ℕ) (x : Stage) (xs : List Stage) → x ≡ Over → (n : ℕ) → stage_in (first + 1) xs n ≡ stage_in first (x ∷ xs) n
shifted_here first x xs over n = ⊎_elim
    (λ lt. before (first + 1) xs n (omega arith) ∙ sym (before first (x ∷ xs) n lt))
    (λ from. ⊎_elim
    (λ here.
    let at : n - first ≡ 0 = omega arith in
    before (first + 1) xs n here
    ∙ sym over
    ∙ sym (ap (λ i. get_or (x ∷ xs) i Ahead) at)
    ∙ sym (within first (x ∷ xs) n from))
    (λ behind.
    let at : n - first ≡ suc (n - (first + 1)) = omega arith in
    within (first + 1) xs n behind
    ∙ sym (ap (λ i. get_or (x ∷ xs) i Ahead) at)
    ∙ sym (within first (x ∷ xs) n from))
    (cases_lt n (first + 1)))
    (cases_lt n first)

-- a call at the front that is over may as well stand before the window
pub stage_shifted : (first : ℕ) (x : Stage) (xs : List Stage) → x ≡ Over → stage_in (first + 1) xs ≡ stage_in first (x ∷ xs)
stage_shifted first x xs over = fun_ext λ n. shifted_here first x xs over n

-- nothing is behind an empty window at the begin
pub all_ahead : (xs : List Stage) → length xs ≡ 0 → stage_in 0 xs ≡ (λ _. Ahead)
all_ahead [] none = fun_ext λ n. within 0 [] n (omega arith)
all_ahead (x ∷ xs) some = absurd (omega arith)

-- a call that isn't over stands in the window or behind it
pub running_within : (first : ℕ) (xs : List Stage) (n : ℕ) → (stage_in first xs n ≡ Over → ⊥) → first ≤ n
running_within first xs n running = ⊎_elim (λ lt. absurd (running (before first xs n lt))) (λ le. le) (cases_lt n first)

-- the same, where it is dropped from the front
pub stage_dropped : (first : ℕ) (x : Stage) (xs rest : List Stage) → 0 < length xs → x ≡ get_or xs 0 x → x ≡ Over → rest ≡ drop 1 xs → stage_in (first + 1) rest ≡ stage_in first xs
stage_dropped first x [] rest some is over dropped = absurd (omega arith)
stage_dropped first x (y ∷ xs) rest some is over dropped = ap (stage_in (first + 1)) dropped ∙ stage_shifted first y xs (sym is ∙ over)

-- a call that has a next deed isn't over
pub moving_runs : (k : Kind) (s : Seats ℕ) (call : Call) (stage : Stage) (d : Deed) → deed_of k s call stage ≡ Some d → stage ≡ Over → ⊥
moving_runs k s call Ahead d made over = absurd (cc)
moving_runs k s call (Open t) d made over = absurd (cc)
moving_runs k s call Over d made over = absurd (cc)
