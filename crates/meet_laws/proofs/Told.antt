-- What a history that goes on says of a ticket: it has one course, and what a record said of it stays.
use Rattle.std.proofs.Common.{◌≡◌, ◌⊎◌, ℕ, refl, sym, ap, ◌∙◌, subst, inr, ⊎_elim, true, false, Option, Some, None, List, [], ◌∷◌, ◌++◌, Contains}
use Rattle.std.proofs.lemmas.Bool.{true≢false, false≢true}
use Rattle.std.proofs.lemmas.List.{append-nil, append_assoc}
use Rattle.meet_tickets.specs.declared.records.Record.{Record}
use Rattle.meet_tickets.specs.declared.records.Cause.{Cause}
use Rattle.meet_tickets.specs.declared.records.Cause.TheVariants.{Interrupted}
use Rattle.meet_tickets.specs.declared.records.Deed.{Deed}
use Rattle.meet_tickets.specs.BySeat.{is_request}
use Rattle.meet_tickets.proofs.Told.Fated.{Joining, deed_of, waits_of, blank, only_asked, only_met, only_cut}
use Rattle.meet_tickets.proofs.Lists.Members.{Contains-cases, Contains-nil}
use Rattle.meet_tickets.proofs.Told.Said.{Said, said}
use Rattle.meet_laws.proofs.Speaking.{IsLeaving, Learns, ends, gets, GoesOn, asks, meets, learns, leaves, returns, cuts, flags, Turned, stays, asked, met, learned, left, cut, returned, turns, AllGoOn, Speaks}

-- the courses that a ticket may take
pub data Course (x : Said) : Type 0 where
  unasked : x ≡ blank → Course x
  has_asked : (d : Deed) → is_request d ≡ true → x ≡ only_asked d → Course x
  has_met : (j : Joining) (u : ℕ) → x ≡ only_met j u → Course x
  has_learned : (j : Joining) (u : ℕ) → waits_of j ≡ true → x ≡ record (only_met j u) { learned = true } → Course x
  has_left : (j : Joining) (cause : Cause) → IsLeaving cause → waits_of j ≡ true → x ≡ record (only_asked (deed_of j)) { back = Some cause } → Course x
  was_cut : (j : Joining) → waits_of j ≡ true → x ≡ only_cut j → Course x
  has_returned : (j : Joining) → waits_of j ≡ true → x ≡ record (only_cut j) { back = Some Interrupted } → Course x

course_stays : (x y : Said) → y ≡ x → Course x → Course y
course_stays x y e c = subst Course (sym e) c

course_turns : (x y : Said) → Turned x y → Course x → Course y
course_turns x y (stays e) c = course_stays x y e c
course_turns x y (asked d request e f) c = has_asked d request f
course_turns x y (met j u e f) c = has_met j u f
course_turns x y (learned j u waits e f) c = has_learned j u waits f
course_turns x y (left j cause l waits e f) c = has_left j cause l waits f
course_turns x y (cut j waits e f) c = was_cut j waits f
course_turns x y (returned j waits e f) c = has_returned j waits f

-- what each turn keeps stays true of a ticket
pub carry : (Q : Said → Type 0) → ((x y : Said) → Turned x y → Q x → Q y) → (rest history : List (Record Deed)) → AllGoOn history rest → (t : ℕ) → Q (said history t) → Q (said (history ++ rest) t)
carry Q keeps [] history on t q = subst (λ h. Q (said h t)) (sym (append-nil history)) q
carry Q keeps (r ∷ rest) history on t q =
    subst (λ h. Q (said h t)) (append_assoc history (r ∷ []) rest)
    (carry Q keeps rest (history ++ r ∷ []) on.1 t (keeps (said history t) (said (history ++ r ∷ []) t) (turns history r on.0 t) q))

-- each ticket has one course
pub course_of : (history : List (Record Deed)) → Speaks history → (t : ℕ) → Course (said history t)
course_of history on t = carry Course course_turns history [] on t (unasked refl)

-- a record of a history, with what went before it and what comes behind
pub record Parted (history : List (Record Deed)) (r : Record Deed) : Type 0 where
  pub before : List (Record Deed)
  pub after : List (Record Deed)
  pub is : (before ++ r ∷ []) ++ after ≡ history
  pub goes : GoesOn (said before) r.ticket r.deed
  pub on : AllGoOn (before ++ r ∷ []) after

parted_from : (rest history : List (Record Deed)) (r : Record Deed) → AllGoOn history rest → Contains rest r → Parted (history ++ rest) r
parted_from [] history r on m = absurd (Contains-nil r m)
parted_from (x ∷ rest) history r on m = ⊎_elim here (λ n. subst (λ h. Parted h r) (append_assoc history (x ∷ []) rest) (parted_from rest (history ++ x ∷ []) r on.1 n)) (Contains-cases x rest r m)
  where
    here : x ≡ r → Parted (history ++ x ∷ rest) r
    here e = subst (Parted (history ++ x ∷ rest)) e (record { before = history; after = rest; is = append_assoc history (x ∷ []) rest; goes = on.0; on = on.1 })

pub parted : (history : List (Record Deed)) (r : Record Deed) → Speaks history → Contains history r → Parted history r
parted history r on m = parted_from history [] r on m

-- what was asked stays asked
abbrev pub HasAsked : Deed → Said → Type 0
HasAsked d x = x.asked ≡ Some d

unblank : (d : Deed) (x : Said) → x ≡ blank → x.asked ≡ Some d → ⊥
unblank d x e is = let none : None ≡ Some d = sym (ap (λ (z : Said). z.asked) e) ∙ is in cc

pub asked_turns : (d : Deed) (x y : Said) → Turned x y → HasAsked d x → HasAsked d y
asked_turns d x y (stays e) is = ap (λ (z : Said). z.asked) e ∙ is
asked_turns d x y (asked d' request e f) is = absurd (unblank d x e is)
asked_turns d x y (met j u e f) is = ap (λ (z : Said). z.asked) f ∙ sym (ap (λ (z : Said). z.asked) e) ∙ is
asked_turns d x y (learned j u waits e f) is = ap (λ (z : Said). z.asked) f ∙ sym (ap (λ (z : Said). z.asked) e) ∙ is
asked_turns d x y (left j cause l waits e f) is = ap (λ (z : Said). z.asked) f ∙ sym (ap (λ (z : Said). z.asked) e) ∙ is
asked_turns d x y (cut j waits e f) is = ap (λ (z : Said). z.asked) f ∙ sym (ap (λ (z : Said). z.asked) e) ∙ is
asked_turns d x y (returned j waits e f) is = ap (λ (z : Said). z.asked) f ∙ sym (ap (λ (z : Said). z.asked) e) ∙ is

-- a request that doesn't join the line stays all that is said of its ticket
abbrev pub Stays : Deed → Type 0
Stays d = (j : Joining) → deed_of j ≡ d → ⊥

pub only_stays : (d : Deed) → Stays d → (x y : Said) → Turned x y → x ≡ only_asked d → y ≡ only_asked d
only_stays d n x y (stays e) is = e ∙ is
only_stays d n x y (asked d' request e f) is = absurd (unblank d x e (ap (λ (z : Said). z.asked) is))
only_stays d n x y (met j u e f) is = absurd (n j (joined j (sym e ∙ is)))
  where
    joined : (j : Joining) → only_asked (deed_of j) ≡ only_asked d → deed_of j ≡ d
    joined j s = let some : Some (deed_of j) ≡ Some d = ap (λ (z : Said). z.asked) s in cc
only_stays d n x y (learned j u waits e f) is = absurd (let some : Some u ≡ None = ap (λ (z : Said). z.met) (sym e ∙ is) in cc)
only_stays d n x y (left j cause l waits e f) is = absurd (n j (let some : Some (deed_of j) ≡ Some d = ap (λ (z : Said). z.asked) (sym e ∙ is) in cc))
only_stays d n x y (cut j waits e f) is = absurd (n j (let some : Some (deed_of j) ≡ Some d = ap (λ (z : Said). z.asked) (sym e ∙ is) in cc))
only_stays d n x y (returned j waits e f) is = absurd (true≢false (ap (λ (z : Said). z.cut) (sym e ∙ is)))

-- one that was met stays so, and may learn it
abbrev pub IsMetBy : Joining → ℕ → Said → Type 0
IsMetBy j u x = (x ≡ only_met j u) ⊎ (x ≡ record (only_met j u) { learned = true })

pub met_asked : (j : Joining) (u : ℕ) (x : Said) → IsMetBy j u x → x.asked ≡ Some (deed_of j)
met_asked j u x is = ⊎_elim (λ e. ap (λ (z : Said). z.asked) e) (λ e. ap (λ (z : Said). z.asked) e) is

pub met_met : (j : Joining) (u : ℕ) (x : Said) → IsMetBy j u x → x.met ≡ Some u
met_met j u x is = ⊎_elim (λ e. ap (λ (z : Said). z.met) e) (λ e. ap (λ (z : Said). z.met) e) is

met_uncut : (j : Joining) (u : ℕ) (x : Said) → IsMetBy j u x → x.cut ≡ false
met_uncut j u x is = ⊎_elim (λ e. ap (λ (z : Said). z.cut) e) (λ e. ap (λ (z : Said). z.cut) e) is

pub met_turns : (j : Joining) (u : ℕ) (x y : Said) → Turned x y → IsMetBy j u x → IsMetBy j u y
met_turns j u x y (stays e) is = subst (IsMetBy j u) (sym e) is
met_turns j u x y (asked d request e f) is = absurd (unblank (deed_of j) x e (met_asked j u x is))
met_turns j u x y (met k v e f) is = absurd (let some : None ≡ Some u = sym (ap (λ (z : Said). z.met) e) ∙ met_met j u x is in cc)
met_turns j u x y (learned k v waits e f) is =
    let same : v ≡ u = (let some : Some v ≡ Some u = sym (ap (λ (z : Said). z.met) e) ∙ met_met j u x is in cc) in
    let own : deed_of k ≡ deed_of j = (let some : Some (deed_of k) ≡ Some (deed_of j) = sym (ap (λ (z : Said). z.asked) e) ∙ met_asked j u x is in cc) in
    inr (f ∙ ap (λ d. record { asked = Some d; met = Some v; learned = true; back = None; cut = false }) own ∙ ap (λ w. record { asked = Some (deed_of j); met = Some w; learned = true; back = None; cut = false }) same)
met_turns j u x y (left k cause l waits e f) is = absurd (let some : None ≡ Some u = sym (ap (λ (z : Said). z.met) e) ∙ met_met j u x is in cc)
met_turns j u x y (cut k waits e f) is = absurd (let some : None ≡ Some u = sym (ap (λ (z : Said). z.met) e) ∙ met_met j u x is in cc)
met_turns j u x y (returned k waits e f) is = absurd (true≢false (sym (ap (λ (z : Said). z.cut) e) ∙ met_uncut j u x is))

-- a record that goes on as a request is the first word of its ticket
pub asks_first : (f : ℕ → Said) (t : ℕ) (d : Deed) → GoesOn f t d → is_request d ≡ true → f t ≡ blank
asks_first f t d (asks request none new) is = new
asks_first f t d (meets u j m new there) is = new
asks_first f t d (learns u j l was) is = absurd (no_request t d u j (f u).asked l is)
  where
    no_request : (t : ℕ) (d : Deed) (u : ℕ) (j : Joining) (o : Option Deed) → Learns t d u j o → is_request d ≡ true → ⊥
    no_request t d u j o ends e = false≢true e
    no_request t d u j o gets e = false≢true e
asks_first f t d (leaves j cause e l waits was) is = absurd (false≢true (sym (ap is_request e) ∙ is))
asks_first f t d (returns j e waits was) is = absurd (false≢true (sym (ap is_request e) ∙ is))
asks_first f t d (cuts j i e above waits was) is = absurd (false≢true (sym (ap is_request e) ∙ is))
asks_first f t d (flags i e none) is = absurd (false≢true (sym (ap is_request e) ∙ is))
