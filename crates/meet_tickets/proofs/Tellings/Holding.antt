-- What the seats hold through the moves of the lists.
use Rattle.std.proofs.Common.{◌≡◌, ◌≢◌, ◌↔◌, ℕ, ◌==◌, Bool, true, false, IsTrue, not, if◌then◌else◌, List, [], ◌∷◌, ◌++◌, Contains, Option, Some, refl, sym, ap, ◌∙◌, subst, ⊎_elim}
use Rattle.std.proofs.lemmas.Bool.{cases_eq, cases_Bool, cond-true, cond-false, true≢false}
use Rattle.std.proofs.lemmas.List.Elements.{Contains-append_left, Contains-push}
use Rattle.meet_tickets.specs.declared.lines.Entry.{Entry}
use Rattle.meet_tickets.specs.declared.lines.Hold.{Hold}
use Rattle.meet_tickets.specs.declared.lines.Hold.TheVariants.{Free, Waiting, Handed, Served, Cut}
use Rattle.meet_tickets.specs.ByLists.{State, Pair, Open, IsOpen, IsInLine, without, minus, join, wait, meet, closed}
use Rattle.meet_tickets.specs.BySeat.{put_at, open_ticket}
use Rattle.meet_tickets.specs.Agreement.{IsOnly, Holds}
use Rattle.meet_tickets.proofs.Lists.Members.{Contains-unfiltered, filtered_passes, Contains-filter, Contains-first, Contains-rest, Contains-cases, ne_not_eqb, not_eqb-true}
use Rattle.meet_tickets.proofs.Tellings.Whereabouts.{put_at_here, put_at_there, Where, Never, InLine, IsCut, Gave, Took, Reached, Contains-opened}

-- a move leaves a seat's open tickets open, and each where it is
pub record IsCarried (s s' : State) (j : ℕ) : Type 0 where
  pub opens : (t : ℕ) → IsOpen s j t → IsOpen s' j t
  pub closes : (t : ℕ) → IsOpen s' j t → IsOpen s j t
  pub lines : (t : ℕ) → IsOpen s j t → IsInLine s t → IsInLine s' t
  pub pairs : (p : Pair) → Contains s.pairs p → Contains s'.pairs p
  pub cuts : (t : ℕ) → IsOpen s j t → Contains s.cut t → Contains s'.cut t

-- the only open ticket stays the only one
only_carried : (s s' : State) (j t : ℕ) → IsCarried s s' j → IsOnly s j t → IsOnly s' j t
only_carried s s' j t c o = record { opened = c.opens t o.opened; only = λ x m. o.only x (c.closes x m) }

-- a seat whose tickets a move leaves holds what it held
pub holds_carried : (s s' : State) (j : ℕ) → IsCarried s s' j → (x : Hold ℕ) → Holds s j x → Holds s' j x
holds_carried s s' j c Free h = λ t m. h t (c.closes t m)
holds_carried s s' j c (Waiting t) h = (only_carried s s' j t c h.0, c.lines t h.0.opened h.1)
holds_carried s s' j c (Handed t u mark) h = (only_carried s s' j t c h.0, c.pairs (record { giver = t; taker = u; mark = mark }) h.1)
holds_carried s s' j c (Served t u mark) h = (only_carried s s' j t c h.0, c.pairs (record { giver = u; taker = t; mark = mark }) h.1)
holds_carried s s' j c (Cut t item) h = (only_carried s s' j t c h.0, c.cuts t h.0.opened h.1)

-- each seat holds what the lists say
abbrev pub EachHolds : State → (ℕ → Hold ℕ) → Type 0
EachHolds s held = (j : ℕ) → Holds s j (held j)

-- one seat's hold is put, and the others' are as the lists say
pub holds_put : (s : State) (held : ℕ → Hold ℕ) (i : ℕ) (x : Hold ℕ) → Holds s i x → ((j : ℕ) → j ≢ i → Holds s j (held j)) →
    EachHolds s (put_at held i x)
holds_put s held i x here others j = ⊎_elim (λ e. subst (λ k. Holds s k (put_at held i x k)) (sym e) there) elsewhere (cases_eq j i)
  where
    there : Holds s i (put_at held i x i)
    there = subst (Holds s i) (sym (put_at_here held i x)) here

    elsewhere : j ≢ i → Holds s j (put_at held i x j)
    elsewhere n = subst (Holds s j) (sym (put_at_there held i x j n)) (others j n)

-- an open ticket of a seat is its only one
pub only_open : (s : State) (i t : ℕ) (x : Hold ℕ) → Holds s i x → IsOpen s i t → IsOnly s i t
only_open s i t Free h m = absurd (h t m)
only_open s i t (Waiting u) h m = subst (IsOnly s i) (sym (h.0.only t m)) h.0
only_open s i t (Handed u v mark) h m = subst (IsOnly s i) (sym (h.0.only t m)) h.0
only_open s i t (Served u v mark) h m = subst (IsOnly s i) (sym (h.0.only t m)) h.0
only_open s i t (Cut u item) h m = subst (IsOnly s i) (sym (h.0.only t m)) h.0

-- a seat with no open ticket is free
pub free_hold : (s : State) (i : ℕ) (x : Hold ℕ) → Holds s i x → ((t : ℕ) → IsOpen s i t → ⊥) → x ≡ Free
free_hold s i Free h n = refl
free_hold s i (Waiting u) h n = absurd (n u h.0.opened)
free_hold s i (Handed u v mark) h n = absurd (n u h.0.opened)
free_hold s i (Served u v mark) h n = absurd (n u h.0.opened)
free_hold s i (Cut u item) h n = absurd (n u h.0.opened)

-- where the open ticket of a hold is
abbrev pub place_of : Hold ℕ → Where
place_of Free = Never
place_of (Waiting t) = InLine
place_of (Handed t u mark) = Gave u mark
place_of (Served t u mark) = Took u mark
place_of (Cut t item) = IsCut

-- a ticket that stands in the line is said to be there
pub place_in_line : (s : State) (r : Reached s) (t : ℕ) → IsInLine s t → r.place t ≡ InLine
place_in_line s r t m = subst (λ x. r.place x ≡ InLine) m.2 (r.placed.lined m.0 m.1)

-- a hold says where its only open ticket is
pub held_place : (s : State) (r : Reached s) (i : ℕ) (x : Hold ℕ) → Holds s i x → (t : ℕ) → IsOpen s i t →
    (r.place t ≡ place_of x) × (open_ticket x ≡ Some t)
held_place s r i Free h t m = absurd (h t m)
held_place s r i (Waiting u) h t m =
    let same = h.0.only t m in
    (ap r.place same ∙ place_in_line s r u h.1, ap (λ y. Some y) (sym same))
held_place s r i (Handed u v mark) h t m =
    let same = h.0.only t m in
    (ap r.place same ∙ r.placed.gave (record { giver = u; taker = v; mark = mark }) h.1, ap (λ y. Some y) (sym same))
held_place s r i (Served u v mark) h t m =
    let same = h.0.only t m in
    (ap r.place same ∙ r.placed.took (record { giver = v; taker = u; mark = mark }) h.1, ap (λ y. Some y) (sym same))
held_place s r i (Cut u item) h t m =
    let same = h.0.only t m in
    (ap r.place same ∙ r.placed.cuts u h.1, ap (λ y. Some y) (sym same))

-- a hold whose ticket is in the line waits
waiting_shape : (t : ℕ) (x : Hold ℕ) → open_ticket x ≡ Some t → place_of x ≡ InLine → x ≡ Waiting t
waiting_shape t Free o p = cc
waiting_shape t (Waiting u) o p = cc
waiting_shape t (Handed u v mark) o p = cc
waiting_shape t (Served u v mark) o p = cc
waiting_shape t (Cut u item) o p = cc

-- a hold whose ticket was met as a giver is handed
handed_shape : (t u mark : ℕ) (x : Hold ℕ) → open_ticket x ≡ Some t → place_of x ≡ Gave u mark → x ≡ Handed t u mark
handed_shape t u mark Free o p = cc
handed_shape t u mark (Waiting v) o p = cc
handed_shape t u mark (Handed v w n) o p = cc
handed_shape t u mark (Served v w n) o p = cc
handed_shape t u mark (Cut v item) o p = cc

-- a hold whose ticket was met as a taker is served
served_shape : (t u mark : ℕ) (x : Hold ℕ) → open_ticket x ≡ Some t → place_of x ≡ Took u mark → x ≡ Served t u mark
served_shape t u mark Free o p = cc
served_shape t u mark (Waiting v) o p = cc
served_shape t u mark (Handed v w n) o p = cc
served_shape t u mark (Served v w n) o p = cc
served_shape t u mark (Cut v item) o p = cc

-- a hold whose ticket was interrupted is cut
cut_shape : (t : ℕ) (x : Hold ℕ) → open_ticket x ≡ Some t → place_of x ≡ IsCut → (item : Option ℕ) × (x ≡ Cut t item)
cut_shape t Free o p = absurd (cc)
cut_shape t (Waiting v) o p = absurd (cc)
cut_shape t (Handed v w n) o p = absurd (cc)
cut_shape t (Served v w n) o p = absurd (cc)
cut_shape t (Cut v item) o p = (item, cc)

-- the seat of an open ticket in the line waits
pub held_waiting : (s : State) (r : Reached s) (i t : ℕ) (x : Hold ℕ) → Holds s i x → IsOpen s i t → r.place t ≡ InLine → x ≡ Waiting t
held_waiting s r i t x h m e = let k = held_place s r i x h t m in waiting_shape t x k.1 (sym k.0 ∙ e)

-- the seat of an open ticket that was met as a giver is handed
pub held_handed : (s : State) (r : Reached s) (i t u mark : ℕ) (x : Hold ℕ) → Holds s i x → IsOpen s i t → r.place t ≡ Gave u mark →
    x ≡ Handed t u mark
held_handed s r i t u mark x h m e = let k = held_place s r i x h t m in handed_shape t u mark x k.1 (sym k.0 ∙ e)

-- the seat of an open ticket that was met as a taker is served
pub held_served : (s : State) (r : Reached s) (i t u mark : ℕ) (x : Hold ℕ) → Holds s i x → IsOpen s i t → r.place t ≡ Took u mark →
    x ≡ Served t u mark
held_served s r i t u mark x h m e = let k = held_place s r i x h t m in served_shape t u mark x k.1 (sym k.0 ∙ e)

-- the seat of an open ticket that was interrupted is cut
pub held_cut : (s : State) (r : Reached s) (i t : ℕ) (x : Hold ℕ) → Holds s i x → IsOpen s i t → r.place t ≡ IsCut →
    (item : Option ℕ) × (x ≡ Cut t item)
held_cut s r i t x h m e = let k = held_place s r i x h t m in cut_shape t x k.1 (sym k.0 ∙ e)

-- two seats with one open ticket are one
pub same_seat : (s : State) (r : Reached s) (i j t : ℕ) → IsOpen s i t → IsOpen s j t → j ≡ i
same_seat s r i j t m k = sym (r.opened.owned j t k) ∙ r.opened.owned i t m

-- later, with other flags
pub each_later : (s : State) (t : ℕ) (flags : List ℕ) (held : ℕ → Hold ℕ) → EachHolds s held →
    EachHolds (record s { last = t; flags = flags }) held
each_later s t flags held h j = holds_carried s (record s { last = t; flags = flags }) j same (held j) (h j)
  where
    same : IsCarried s (record s { last = t; flags = flags }) j
    same = record { opens = λ x m. m; closes = λ x m. m; lines = λ x o m. m; pairs = λ p m. m; cuts = λ x o m. m }

-- an entry that doesn't wait joins the line
pub each_join : (s : State) (e : Entry ℕ) (held : ℕ → Hold ℕ) → EachHolds s held → EachHolds (join s e) held
each_join s e held h j = holds_carried s (join s e) j carried (held j) (h j)
  where
    carried : IsCarried s (join s e) j
    carried = record {
      opens = λ x m. m;
      closes = λ x m. m;
      lines = λ x o m. (m.0, Contains-append_left s.line (e ∷ []) m.0 m.1, m.2);
      pairs = λ p m. m;
      cuts = λ x o m. m;
    }

-- an entry that waits joins the line
pub each_wait : (s : State) (e : Entry ℕ) (held : ℕ → Hold ℕ) → EachHolds s held → ((t : ℕ) → IsOpen s e.seat t → ⊥) →
    EachHolds (wait s e) (put_at held e.seat (Waiting e.ticket))
each_wait s e held h free = holds_put (wait s e) held e.seat (Waiting e.ticket) (only, (e, Contains-push s.line e, refl)) others
  where
    new : Open
    new = record { ticket = e.ticket; seat = e.seat }

    only : IsOnly (wait s e) e.seat e.ticket
    only = record {
      opened = Contains-push s.unended new;
      only = λ x m. ⊎_elim (λ k. absurd (free x k)) (λ k. sym k.0) (Contains-opened s.unended e.ticket e.seat e.seat x m);
    }

    others : (j : ℕ) → j ≢ e.seat → Holds (wait s e) j (held j)
    others j n = holds_carried s (wait s e) j (record {
      opens = λ x m. Contains-append_left s.unended (new ∷ []) (record { ticket = x; seat = j }) m;
      closes = λ x m. ⊎_elim (λ k. k) (λ k. absurd (n (sym k.1))) (Contains-opened s.unended e.ticket e.seat j x m);
      lines = λ x o m. (m.0, Contains-append_left s.line (e ∷ []) m.0 m.1, m.2);
      pairs = λ p m. m;
      cuts = λ x o m. m;
    }) (held j) (h j)

-- a ticket leaves the line, and what a seat without it has there stays
lines_without : (s : State) (j t x : ℕ) → (IsOpen s j t → ⊥) → IsOpen s j x → IsInLine s x →
    (e : Entry ℕ) × Contains (without t s.line) e × (e.ticket ≡ x)
lines_without s j t x apart o m =
    let passes = ne_not_eqb m.0.ticket t (λ q. apart (subst (IsOpen s j) (sym m.2 ∙ q) o)) in
    (m.0, Contains-filter (λ y. not (y.ticket == t)) s.line m.0 m.1 passes, m.2)

-- the seats that haven't the met ticket hold what they held
met_others : (s : State) (t u : ℕ) (pair : Pair) (j : ℕ) (x : Hold ℕ) → (IsOpen s j u → ⊥) → Holds s j x → Holds (meet s t u pair) j x
met_others s t u pair j x apart h = holds_carried s (meet s t u pair) j (record {
  opens = λ y m. m;
  closes = λ y m. m;
  lines = λ y o m. lines_without s j u y apart o m;
  pairs = λ p m. Contains-append_left s.pairs (pair ∷ []) p m;
  cuts = λ y o m. m;
}) x h

-- an entry is met: where it waits, its seat has a new hold
pub each_meet : (s : State) (r : Reached s) (t : ℕ) (e : Entry ℕ) (pair : Pair) (held : ℕ → Hold ℕ) (x : Hold ℕ) → Contains s.line e →
    EachHolds s held →
    (IsOnly (meet s t e.ticket pair) e.seat e.ticket → Holds (meet s t e.ticket pair) e.seat x) →
    EachHolds (meet s t e.ticket pair) (if e.waits then put_at held e.seat x else held)
each_meet s r t e pair held x m h here = ⊎_elim (λ w. subst (EachHolds s') (sym (cond-true e.waits put held w)) (waiting w))
    (λ w. subst (EachHolds s') (sym (cond-false e.waits put held w)) (still w)) (cases_Bool e.waits)
  where
    s' : State
    s' = meet s t e.ticket pair

    put : ℕ → Hold ℕ
    put = put_at held e.seat x

    still : e.waits ≡ false → EachHolds s' held
    still w j = met_others s t e.ticket pair j (held j) (r.opened.kept e m w j) (h j)

    waiting : e.waits ≡ true → EachHolds s' put
    waiting w =
        let open_here = r.opened.waits e m w in
        let only = only_open s e.seat e.ticket (held e.seat) (h e.seat) open_here in
        let apart = λ (j : ℕ) (n : j ≢ e.seat) (o : IsOpen s j e.ticket). n (same_seat s r e.seat j e.ticket open_here o) in
        holds_put s' held e.seat x (here (record { opened = only.opened; only = only.only }))
        (λ j n. met_others s t e.ticket pair j (held j) (apart j n) (h j))

-- an open ticket ends, and its seat is free
pub each_closed : (s : State) (r : Reached s) (i t : ℕ) (line : List (Entry ℕ)) (cut : List ℕ) (held : ℕ → Hold ℕ) → IsOpen s i t →
    EachHolds s held →
    ((e : Entry ℕ) → Contains s.line e → e.ticket ≢ t → Contains line e) → ((x : ℕ) → Contains s.cut x → x ≢ t → Contains cut x) →
    EachHolds (record (closed s t) { line = line; cut = cut }) (put_at held i Free)
each_closed s r i t line cut held open_here h line_keeps cut_keeps = holds_put s' held i Free free others
  where
    s' : State
    s' = record (closed s t) { line = line; cut = cut }

    test : Open → Bool
    test o = not (o.ticket == t)

    was : (j x : ℕ) → IsOpen s' j x → IsOpen s j x
    was j x m = Contains-unfiltered test s.unended (record { ticket = x; seat = j }) m

    free : (x : ℕ) → IsOpen s' i x → ⊥
    free x m =
        let only = only_open s i t (held i) (h i) open_here in
        not_eqb-true x t (filtered_passes test s.unended (record { ticket = x; seat = i }) m) (only.only x (was i x m))

    apart : (j : ℕ) → j ≢ i → (x : ℕ) → IsOpen s j x → x ≢ t
    apart j n x o e = n (same_seat s r i j t open_here (subst (IsOpen s j) e o))

    others : (j : ℕ) → j ≢ i → Holds s' j (held j)
    others j n = holds_carried s s' j (record {
      opens = λ x m. Contains-filter test s.unended (record { ticket = x; seat = j }) m (ne_not_eqb x t (apart j n x m));
      closes = λ x m. was j x m;
      lines = λ x o m. (m.0, line_keeps m.0 m.1 (λ e. apart j n x o (sym m.2 ∙ e)), m.2);
      pairs = λ p m. m;
      cuts = λ x o m. cut_keeps x m (apart j n x o);
    }) (held j) (h j)

-- a ticket in the line is cut
pub each_cut : (s : State) (r : Reached s) (i t : ℕ) (item : Option ℕ) (held : ℕ → Hold ℕ) → IsOpen s i t → EachHolds s held →
    EachHolds (record s { line = without t s.line; cut = s.cut ++ t ∷ [] }) (put_at held i (Cut t item))
each_cut s r i t item held open_here h = holds_put s' held i (Cut t item) (record { opened = only.opened; only = only.only }, Contains-push s.cut t) others
  where
    s' : State
    s' = record s { line = without t s.line; cut = s.cut ++ t ∷ [] }

    only : IsOnly s i t
    only = only_open s i t (held i) (h i) open_here

    others : (j : ℕ) → j ≢ i → Holds s' j (held j)
    others j n = holds_carried s s' j (record {
      opens = λ x m. m;
      closes = λ x m. m;
      lines = λ x o m. lines_without s j t x (λ k. n (same_seat s r i j t open_here k)) o m;
      pairs = λ p m. m;
      cuts = λ x o m. Contains-append_left s.cut (t ∷ []) x m;
    }) (held j) (h j)

-- the flags of the seats are those of the list
abbrev pub EachFlag : (ℕ → Bool) → List ℕ → Type 0
EachFlag raised flags = (i : ℕ) → IsTrue (raised i) ↔ Contains flags i

-- a flag is set
pub each_set : (raised : ℕ → Bool) (flags : List ℕ) (j : ℕ) → EachFlag raised flags → EachFlag (put_at raised j true) (j ∷ flags)
each_set raised flags j h i = ⊎_elim here there (cases_eq i j)
  where
    here : i ≡ j → IsTrue (put_at raised j true i) ↔ Contains (j ∷ flags) i
    here e = (λ y. subst (Contains (j ∷ flags)) (sym e) (Contains-first j flags), λ m. ap (put_at raised j true) e ∙ put_at_here raised j true)

    rest : i ≢ j → Contains (j ∷ flags) i → Contains flags i
    rest n m = ⊎_elim (λ s. absurd (n (sym s))) (λ k. k) (Contains-cases j flags i m)

    there : i ≢ j → IsTrue (put_at raised j true i) ↔ Contains (j ∷ flags) i
    there n =
        let same = put_at_there raised j true i n in
        (λ y. Contains-rest j flags i ((h i).0 (sym same ∙ y)), λ m. same ∙ (h i).1 (rest n m))

-- a flag is cleared
pub each_clear : (raised : ℕ → Bool) (flags : List ℕ) (j : ℕ) → EachFlag raised flags → EachFlag (put_at raised j false) (minus j flags)
each_clear raised flags j h i = ⊎_elim here there (cases_eq i j)
  where
    test : ℕ → Bool
    test n = not (n == j)

    here : i ≡ j → IsTrue (put_at raised j false i) ↔ Contains (minus j flags) i
    here e =
        let low : put_at raised j false i ≡ false = ap (put_at raised j false) e ∙ put_at_here raised j false in
        (λ y. absurd (true≢false (sym y ∙ low)), λ m. absurd (not_eqb-true i j (filtered_passes test flags i m) e))

    there : i ≢ j → IsTrue (put_at raised j false i) ↔ Contains (minus j flags) i
    there n =
        let same = put_at_there raised j false i n in
        (λ y. Contains-filter test flags i ((h i).0 (sym same ∙ y)) (ne_not_eqb i j n), λ m. same ∙ (h i).1 (Contains-unfiltered test flags i m))
