-- Where an entry stands in a line whose tickets rise.
use Rattle.std.proofs.Common.{◌≡◌, ◌∙◌, ℕ, ◌-◌, ◌<◌, Some, None, List, [], ◌∷◌, ◌++◌, length, get_or, ap, sym, ⊎_elim, arith}
use Rattle.std.specs.Prelude.{AllPairs, ◌==◌, slice_get}
use Rattle.std.specs.List.{position, position_or_len}
use Rattle.std.proofs.lemmas.Bool.{eq-eqb, ne_eqb, cases_lt}
use Rattle.std.proofs.lemmas.List.{get_or_default}
use Rattle.std.proofs.lemmas.List.Quantifiers.{all_pairs_push}
use Rattle.std.proofs.lemmas.Option.{slice_get-get_or, get_or_from_slice_get}
use Rattle.std.proofs.lemmas.Bool.Decides.{nat_tests}
use Rattle.std.proofs.lemmas.List.Sums.{position_or_len_is}
use Rattle.meet_tickets.specs.declared.lines.Entry.{Entry}

-- tickets rise from the front to the back
abbrev pub Rises : List (Entry ℕ) → Type 0
Rises line = AllPairs (λ e f. e.ticket < f.ticket) line

-- an entry of this ticket is the first one of it
pub found_at : (line : List (Entry ℕ)) (t i : ℕ) (e : Entry ℕ) → Rises line → i < length line → e ≡ get_or line i e → e.ticket ≡ t → position (λ f. f.ticket == t) line ≡ Some i
found_at line t i e rises there is same =
    let at : position_or_len (λ f. f.ticket == t) line ≡ i = position_or_len_is (λ f. f.ticket == t) line i e (omega arith)
    (λ k below. ne_eqb (get_or line k e).ticket t (λ q.
    let lt : (get_or line k e).ticket < (get_or line i e).ticket = rises k i e below there in
    let own : e.ticket ≡ (get_or line i e).ticket = ap (λ (f : Entry ℕ). f.ticket) is in
    absurd (omega arith)))
    (λ within. eq-eqb (get_or line i e).ticket t (sym (ap (λ (f : Entry ℕ). f.ticket) is) ∙ same)) in
    rw at (grind (arith, nat_tests))

-- no entry has it
pub found_nowhere : (line : List (Entry ℕ)) (t : ℕ) (e : Entry ℕ) → ((k : ℕ) → k < length line → (get_or line k e).ticket ≡ t → ⊥) → position (λ f. f.ticket == t) line ≡ None
found_nowhere line t e nowhere =
    let at : position_or_len (λ f. f.ticket == t) line ≡ length line = position_or_len_is (λ f. f.ticket == t) line (length line) e (omega arith)
    (λ k below. ne_eqb (get_or line k e).ticket t (nowhere k below))
    (λ within. absurd (omega arith)) in
    rw at (grind (arith, nat_tests))

-- one more, above the last
pub rises_push : (line : List (Entry ℕ)) (last e : Entry ℕ) → Rises line → last ≡ get_or line (length line - 1) last → last.ticket < e.ticket → Rises (line ++ e ∷ [])
rises_push line last e rises is above = all_pairs_push (λ x y. x.ticket < y.ticket) line e rises (λ k d there. ⊎_elim
    (λ before.
    let lt : (get_or line k last).ticket < (get_or line (length line - 1) last).ticket = rises k (length line - 1) last before (omega arith) in
    let own : last.ticket ≡ (get_or line (length line - 1) last).ticket = ap (λ (x : Entry ℕ). x.ticket) is in
    let same : (get_or line k d).ticket ≡ (get_or line k last).ticket = ap (λ (x : Entry ℕ). x.ticket) (get_or_default line k d last there) in
    omega arith)
    (λ after.
    let at : k ≡ length line - 1 = omega arith in
    let own : last.ticket ≡ (get_or line k last).ticket = ap (λ (x : Entry ℕ). x.ticket) is ∙ ap (λ n. (get_or line n last).ticket) (sym at) in
    let same : (get_or line k d).ticket ≡ (get_or line k last).ticket = ap (λ (x : Entry ℕ). x.ticket) (get_or_default line k d last there) in
    omega arith)
    (cases_lt k (length line - 1)))

-- the first one
pub rises_alone : (line : List (Entry ℕ)) (e : Entry ℕ) → None ≡ slice_get line (length line - 1) → Rises (line ++ e ∷ [])
rises_alone [] e none = λ i j d before there. absurd (omega (arith, there, before))
rises_alone (x ∷ line) e none =
    let some = slice_get-get_or (x ∷ line) (length (x ∷ line) - 1) x (omega arith) in
    absurd (cc)

-- the last of a line
pub last_of : (line : List (Entry ℕ)) (last : Entry ℕ) → Some last ≡ slice_get line (length line - 1) → last ≡ get_or line (length line - 1) last
last_of line last is = sym (get_or_from_slice_get line (length line - 1) last last (sym is))
