-- Where each ticket is in a state that records have reached: a function of the ticket, so no ticket is in two places.
use Rattle.std.proofs.Common.{◌≡◌, ◌≢◌, ◌⊎◌, ℕ, ◌<◌, ◌≤◌, ◌==◌, Bool, true, false, not, List, [], ◌∷◌, ◌++◌, filter, Contains, refl, sym, ap, ◌∙◌, subst, inl, inr, ⊎_elim, arith}
use Rattle.std.proofs.lemmas.Bool.{eq-eqb, ne_eqb, cond-true, cond-false, true≢false, cases_lt}
use Rattle.std.proofs.lemmas.List.Elements.{Contains-push_cases, Contains-append_left, Contains-push}
use Rattle.meet_tickets.specs.declared.lines.Entry.{Entry}
use Rattle.meet_tickets.specs.ByLists.{State, Pair, Open, without, join, wait, meet, closed}
use Rattle.meet_tickets.specs.BySeat.{put_at}
use Rattle.meet_tickets.proofs.Lists.Members.{Contains-unfiltered, filtered_passes, Contains-filter, ne_not_eqb, not_eqb-true, IsApart, IsDistinct, IsDistinct-push, IsDistinct-filter}

-- what was put at a key is there
pub put_at_here : {A : Type 0} (f : ℕ → A) (key : ℕ) (value : A) → put_at f key value key ≡ value
put_at_here f key value = cond-true (key == key) value (f key) (eq-eqb key key refl)

-- elsewhere the function is as it was
pub put_at_there : {A : Type 0} (f : ℕ → A) (key : ℕ) (value : A) (k : ℕ) → k ≢ key → put_at f key value k ≡ f k
put_at_there f key value k h = cond-false (k == key) value (f k) (ne_eqb k key h)

-- where a ticket is, or was last: in none of the lists so far, unmatched, interrupted, or met as a giver or a taker
pub data Where : Type 0 where
  Never InLine IsCut : Where
  Gave : (taker mark : ℕ) → Where
  Took : (giver mark : ℕ) → Where

-- the ticket hasn't met and isn't cut
abbrev pub IsLoose : Where → Type 0
IsLoose Never = Unit {0}
IsLoose InLine = Unit {0}
IsLoose IsCut = ⊥
IsLoose (Gave u m) = ⊥
IsLoose (Took u m) = ⊥

-- the table says where the tickets of these lists are
pub record IsPlaced (place : ℕ → Where) (last : ℕ) (line : List (Entry ℕ)) (pairs : List Pair) (cut : List ℕ) : Type 0 where
  pub fresh : (t : ℕ) → last < t → place t ≡ Never
  pub none : place 0 ≡ Never
  pub lined : (e : Entry ℕ) → Contains line e → place e.ticket ≡ InLine
  pub gave : (p : Pair) → Contains pairs p → place p.giver ≡ Gave p.taker p.mark
  pub took : (p : Pair) → Contains pairs p → place p.taker ≡ Took p.giver p.mark
  pub cuts : (t : ℕ) → Contains cut t → place t ≡ IsCut

-- the ticket is the seat's open one
abbrev pub Has : List Open → ℕ → ℕ → Type 0
Has unended i t = Contains unended (record { ticket = t; seat = i })

-- the open tickets: each belongs to one seat, and of the line's tickets those that wait are open
pub record IsOpened (owner : ℕ → ℕ) (last : ℕ) (line : List (Entry ℕ)) (unended : List Open) : Type 0 where
  pub named : (i t : ℕ) → Has unended i t → t ≤ last
  pub owned : (i t : ℕ) → Has unended i t → owner t ≡ i
  pub waits : (e : Entry ℕ) → Contains line e → e.waits ≡ true → Has unended e.seat e.ticket
  pub kept : (e : Entry ℕ) → Contains line e → e.waits ≡ false → (i : ℕ) → Has unended i e.ticket → ⊥

-- what holds of each state that records have reached
pub record Reached (s : State) : Type 0 where
  pub place : ℕ → Where
  pub owner : ℕ → ℕ
  pub placed : IsPlaced place s.last s.line s.pairs s.cut
  pub opened : IsOpened owner s.last s.line s.unended
  pub distinct : IsDistinct s.line

-- one line is part of another, and lacks this ticket
abbrev pub IsLess : ℕ → List (Entry ℕ) → List (Entry ℕ) → Type 0
IsLess t less line = (e : Entry ℕ) → Contains less e → Contains line e × (e.ticket ≢ t)

-- the line without a ticket is less
pub IsLess-without : (t : ℕ) (line : List (Entry ℕ)) → IsLess t (without t line) line
IsLess-without t line e m =
    let test = λ (x : Entry ℕ). not (x.ticket == t) in
    (Contains-unfiltered test line e m, not_eqb-true e.ticket t (filtered_passes test line e m))

module _ {place : ℕ → Where} {last : ℕ} {line : List (Entry ℕ)} {pairs : List Pair} {cut : List ℕ} (p : IsPlaced place last line pairs cut) where
  -- 0 stands in no line
  pub lined_above_zero : (t : ℕ) → place t ≡ InLine → t ≢ 0
  lined_above_zero t h e = let zero_is : place 0 ≡ Never = p.none in let there : place 0 ≡ InLine = subst (λ x. place x ≡ InLine) e h in cc

  -- a ticket in the line isn't above the last
  pub lined_below : (t : ℕ) → place t ≡ InLine → t ≤ last
  lined_below t h = ⊎_elim (λ above. let never = p.fresh t above in absurd (cc)) (λ below. below) (cases_lt last t)

  -- a new ticket isn't in the line
  pub lined_apart : (t : ℕ) → last < t → IsApart t line
  lined_apart t above e m s =
      let here = p.lined e m in
      let there = p.fresh t above in
      let same : place e.ticket ≡ place t = ap place s in
      absurd (cc)

  -- a loose ticket goes elsewhere, and leaves the line
  placed_put : (x : ℕ) (w : Where) (last' : ℕ) (line' : List (Entry ℕ)) → IsLoose (place x) → x ≢ 0 → x ≤ last' → last ≤ last' →
      IsLess x line' line →
      IsPlaced (put_at place x w) last' line' pairs cut
  placed_put x w last' line' loose above below later less = record {
    fresh = λ t over. put_at_there place x w t (λ e. omega arith) ∙ p.fresh t (omega arith);
    none = put_at_there place x w 0 (λ e. above (sym e)) ∙ p.none;
    lined = λ e m. put_at_there place x w e.ticket (less e m).1 ∙ p.lined e (less e m).0;
    gave = λ q m. put_at_there place x w q.giver (λ e. subst IsLoose (ap place (sym e) ∙ p.gave q m) loose) ∙ p.gave q m;
    took = λ q m. put_at_there place x w q.taker (λ e. subst IsLoose (ap place (sym e) ∙ p.took q m) loose) ∙ p.took q m;
    cuts = λ t m. put_at_there place x w t (λ e. subst IsLoose (ap place (sym e) ∙ p.cuts t m) loose) ∙ p.cuts t m;
  }

  -- later, and with less in the line and among the cut
  placed_less : (last' : ℕ) (line' : List (Entry ℕ)) (cut' : List ℕ) → last ≤ last' →
      ((e : Entry ℕ) → Contains line' e → Contains line e) → ((t : ℕ) → Contains cut' t → Contains cut t) →
      IsPlaced place last' line' pairs cut'
  placed_less last' line' cut' later line_less cut_less = record {
    fresh = λ t over. p.fresh t (omega arith);
    none = p.none;
    lined = λ e m. p.lined e (line_less e m);
    gave = p.gave;
    took = p.took;
    cuts = λ t m. p.cuts t (cut_less t m);
  }

  -- an entry whose ticket is said to be in the line goes to the line
  placed_lined : (e : Entry ℕ) → place e.ticket ≡ InLine → IsPlaced place last (line ++ e ∷ []) pairs cut
  placed_lined e h = record {
    fresh = p.fresh;
    none = p.none;
    lined = λ x m. ⊎_elim (λ k. p.lined x k) (λ s. subst (λ y. place y.ticket ≡ InLine) s h) (Contains-push_cases line e x m);
    gave = p.gave;
    took = p.took;
    cuts = p.cuts;
  }

  -- a pair whose tickets are said to have met goes to the pairs
  placed_paired : (q : Pair) → place q.giver ≡ Gave q.taker q.mark → place q.taker ≡ Took q.giver q.mark →
      IsPlaced place last line (pairs ++ q ∷ []) cut
  placed_paired q g t = record {
    fresh = p.fresh;
    none = p.none;
    lined = p.lined;
    gave = λ x m. ⊎_elim (λ k. p.gave x k) (λ s. subst (λ y. place y.giver ≡ Gave y.taker y.mark) s g) (Contains-push_cases pairs q x m);
    took = λ x m. ⊎_elim (λ k. p.took x k) (λ s. subst (λ y. place y.taker ≡ Took y.giver y.mark) s t) (Contains-push_cases pairs q x m);
    cuts = p.cuts;
  }

  -- a ticket that is said to be cut goes to the cut
  placed_cut : (t : ℕ) → place t ≡ IsCut → IsPlaced place last line pairs (cut ++ t ∷ [])
  placed_cut t h = record {
    fresh = p.fresh;
    none = p.none;
    lined = p.lined;
    gave = p.gave;
    took = p.took;
    cuts = λ x m. ⊎_elim (λ k. p.cuts x k) (λ s. subst (λ y. place y ≡ IsCut) s h) (Contains-push_cases cut t x m);
  }

-- one more ticket is open: an open ticket was so, or is that one
pub Contains-opened : (unended : List Open) (ticket seat i t : ℕ) → Has (unended ++ record { ticket = ticket; seat = seat } ∷ []) i t →
    Has unended i t ⊎ ((ticket ≡ t) × (seat ≡ i))
Contains-opened unended ticket seat i t m =
    let new : Open = record { ticket = ticket; seat = seat } in
    ⊎_elim (λ k. inl k) (λ s. inr (ap (λ o. o.ticket) s, ap (λ o. o.seat) s)) (Contains-push_cases unended new (record { ticket = t; seat = i }) m)

module _ {owner : ℕ → ℕ} {last : ℕ} {line : List (Entry ℕ)} {unended : List Open} (o : IsOpened owner last line unended) where
  -- later, and with less in the line
  opened_less : (last' : ℕ) (line' : List (Entry ℕ)) → last ≤ last' → ((e : Entry ℕ) → Contains line' e → Contains line e) →
      IsOpened owner last' line' unended
  opened_less last' line' later less = record {
    named = λ i t m. let below = o.named i t m in omega arith;
    owned = o.owned;
    waits = λ e m. o.waits e (less e m);
    kept = λ e m. o.kept e (less e m);
  }

  -- an entry that doesn't wait goes to the line
  opened_kept : (e : Entry ℕ) → last < e.ticket → e.waits ≡ false → IsOpened owner e.ticket (line ++ e ∷ []) unended
  opened_kept e above still = record {
    named = λ i t m. let below = o.named i t m in omega arith;
    owned = o.owned;
    waits = λ x m w. ⊎_elim (λ k. o.waits x k w) (λ s. absurd (true≢false (sym w ∙ ap (λ y. y.waits) (sym s) ∙ still))) (Contains-push_cases line e x m);
    kept = λ x m w i k. ⊎_elim (λ l. o.kept x l w i k) (λ s. late x s (o.named i x.ticket k)) (Contains-push_cases line e x m);
  }
    where
      late : (x : Entry ℕ) → e ≡ x → x.ticket ≤ last → ⊥
      late x s below = let same : e.ticket ≡ x.ticket = ap (λ y. y.ticket) s in omega arith

  -- an entry that waits goes to the line, and its ticket is open
  opened_wait : (e : Entry ℕ) → last < e.ticket → e.waits ≡ true → IsApart e.ticket line →
      IsOpened (put_at owner e.ticket e.seat) e.ticket (line ++ e ∷ []) (unended ++ record { ticket = e.ticket; seat = e.seat } ∷ [])
  opened_wait e above waiting apart = record {
    named = λ i t m. ⊎_elim (λ k. let below = o.named i t k in omega arith) (λ s. let same = s.0 in omega arith) (cases i t m);
    owned = λ i t m. ⊎_elim (λ k. old_owner i t k) (λ s. ap owners (sym s.0) ∙ put_at_here owner e.ticket e.seat ∙ s.1) (cases i t m);
    waits = λ x m w. ⊎_elim (λ k. old_open x (o.waits x k w)) (λ s. new_open x s) (Contains-push_cases line e x m);
    kept = λ x m w i k. ⊎_elim (λ l. ⊎_elim (λ q. o.kept x l w i q) (λ s. apart x l (sym s.0)) (cases i x.ticket k))
        (λ s. true≢false (sym waiting ∙ ap (λ y. y.waits) s ∙ w)) (Contains-push_cases line e x m);
  }
    where
      new : Open
      new = record { ticket = e.ticket; seat = e.seat }

      owners : ℕ → ℕ
      owners = put_at owner e.ticket e.seat

      cases : (i t : ℕ) → Has (unended ++ new ∷ []) i t → Has unended i t ⊎ ((e.ticket ≡ t) × (e.seat ≡ i))
      cases i t m = Contains-opened unended e.ticket e.seat i t m

      old_owner : (i t : ℕ) → Has unended i t → owners t ≡ i
      old_owner i t k = let below = o.named i t k in put_at_there owner e.ticket e.seat t (λ s. omega arith) ∙ o.owned i t k

      old_open : (x : Entry ℕ) → Has unended x.seat x.ticket → Has (unended ++ new ∷ []) x.seat x.ticket
      old_open x k = Contains-append_left unended (new ∷ []) (record { ticket = x.ticket; seat = x.seat }) k

      new_open : (x : Entry ℕ) → e ≡ x → Has (unended ++ new ∷ []) x.seat x.ticket
      new_open x s = subst (λ y. Has (unended ++ new ∷ []) y.seat y.ticket) s (Contains-push unended new)

  -- a ticket that has left the line ends
  opened_closed : (t : ℕ) (line' : List (Entry ℕ)) → IsLess t line' line →
      IsOpened owner last line' (filter (λ x. not (x.ticket == t)) unended)
  opened_closed t line' less = record {
    named = λ i x m. o.named i x (was i x m);
    owned = λ i x m. o.owned i x (was i x m);
    waits = λ e m w. stays e.seat e.ticket (less e m).1 (o.waits e (less e m).0 w);
    kept = λ e m w i k. o.kept e (less e m).0 w i (was i e.ticket k);
  }
    where
      test : Open → Bool
      test x = not (x.ticket == t)

      was : (i x : ℕ) → Has (filter test unended) i x → Has unended i x
      was i x m = Contains-unfiltered test unended (record { ticket = x; seat = i }) m

      stays : (i x : ℕ) → x ≢ t → Has unended i x → Has (filter test unended) i x
      stays i x n m = Contains-filter test unended (record { ticket = x; seat = i }) m (ne_not_eqb x t n)

-- later, with other flags
pub reached_later : (s : State) (t : ℕ) (flags : List ℕ) → Reached s → s.last ≤ t → Reached (record s { last = t; flags = flags })
reached_later s t flags r later = record {
  place = r.place;
  owner = r.owner;
  placed = placed_less r.placed t s.line s.cut later (λ e m. m) (λ x m. m);
  opened = opened_less r.opened t s.line later (λ e m. m);
  distinct = r.distinct;
}

-- a new ticket is loose, and isn't 0
new_ticket : (s : State) (r : Reached s) (t : ℕ) → s.last < t → IsLoose (r.place t) × (t ≢ 0)
new_ticket s r t above = (subst IsLoose (sym (r.placed.fresh t above)) tt, λ e. omega arith)

-- the table where a new entry is in the line
placed_join : (s : State) (r : Reached s) (e : Entry ℕ) → s.last < e.ticket →
    IsPlaced (put_at r.place e.ticket InLine) e.ticket (s.line ++ e ∷ []) s.pairs s.cut
placed_join s r e above =
    let k = new_ticket s r e.ticket above in
    let apart = lined_apart r.placed e.ticket above in
    placed_lined (placed_put r.placed e.ticket InLine e.ticket s.line k.0 k.1 (omega arith) (omega arith) (λ x m. (m, apart x m))) e
    (put_at_here r.place e.ticket InLine)

-- an entry that doesn't wait joins the line
pub reached_join : (s : State) (e : Entry ℕ) → Reached s → s.last < e.ticket → e.waits ≡ false → Reached (join s e)
reached_join s e r above still = record {
  place = put_at r.place e.ticket InLine;
  owner = r.owner;
  placed = placed_join s r e above;
  opened = opened_kept r.opened e above still;
  distinct = IsDistinct-push s.line e r.distinct (lined_apart r.placed e.ticket above);
}

-- an entry that waits joins the line
pub reached_wait : (s : State) (e : Entry ℕ) → Reached s → s.last < e.ticket → e.waits ≡ true → Reached (wait s e)
reached_wait s e r above waiting =
    let apart = lined_apart r.placed e.ticket above in
    record {
      place = put_at r.place e.ticket InLine;
      owner = put_at r.owner e.ticket e.seat;
      placed = placed_join s r e above;
      opened = opened_wait r.opened e above waiting apart;
      distinct = IsDistinct-push s.line e r.distinct apart;
    }

-- what is in the line isn't new
met_below : (s : State) (r : Reached s) (t u : ℕ) → s.last < t → r.place u ≡ InLine → u ≢ t
met_below s r t u above lined e = let below = lined_below r.placed u lined in omega arith

-- where the tickets are once a new ticket met one in the line
abbrev pub moved : (ℕ → Where) → (t u : ℕ) (new old : Where) → ℕ → Where
moved place t u new old = put_at (put_at place u old) t new

-- where the new ticket is
moved_new : (s : State) (r : Reached s) (t u : ℕ) (new old : Where) → moved r.place t u new old t ≡ new
moved_new s r t u new old = put_at_here (put_at r.place u old) t new

-- where the other ticket is
moved_old : (s : State) (r : Reached s) (t u : ℕ) (new old : Where) → s.last < t → r.place u ≡ InLine → moved r.place t u new old u ≡ old
moved_old s r t u new old above lined = put_at_there (put_at r.place u old) t new u (met_below s r t u above lined) ∙ put_at_here r.place u old

-- a new ticket meets one in the line
reached_meet : (s : State) (t u : ℕ) (pair : Pair) (r : Reached s) → s.last < t → r.place u ≡ InLine → (new old : Where) →
    moved r.place t u new old pair.giver ≡ Gave pair.taker pair.mark →
    moved r.place t u new old pair.taker ≡ Took pair.giver pair.mark → Reached (meet s t u pair)
reached_meet s t u pair r above lined new old gives takes =
    let k = new_ticket s r t above in
    let below = lined_below r.placed u lined in
    let apart = lined_apart r.placed t above in
    let less = IsLess-without u s.line in
    let was = put_at_there r.place u old t (λ e. met_below s r t u above lined (sym e)) in
    let above_zero = lined_above_zero r.placed u lined in
    let first = placed_put r.placed u old s.last (without u s.line) (subst IsLoose (sym lined) tt) above_zero below (omega arith) less in
    let second = placed_put first t new t (without u s.line) (subst IsLoose (sym was) k.0) k.1 (omega arith) (omega arith)
    (λ e m. (m, apart e (less e m).0)) in
    record {
      place = moved r.place t u new old;
      owner = r.owner;
      placed = placed_paired second pair gives takes;
      opened = opened_less r.opened t (without u s.line) (omega arith) (λ e m. (less e m).0);
      distinct = IsDistinct-filter (λ e. not (e.ticket == u)) s.line r.distinct;
    }

-- a new giver meets a taker in the line
pub reached_giving : (s : State) (t u mark : ℕ) (r : Reached s) → s.last < t → r.place u ≡ InLine →
    Reached (meet s t u (record { giver = t; taker = u; mark = mark }))
reached_giving s t u mark r above lined =
    let new = Gave u mark in
    let old = Took t mark in
    reached_meet s t u (record { giver = t; taker = u; mark = mark }) r above lined new old
    (moved_new s r t u new old) (moved_old s r t u new old above lined)

-- a new taker meets a giver in the line
pub reached_taking : (s : State) (t u mark : ℕ) (r : Reached s) → s.last < t → r.place u ≡ InLine →
    Reached (meet s t u (record { giver = u; taker = t; mark = mark }))
reached_taking s t u mark r above lined =
    let new = Took u mark in
    let old = Gave t mark in
    reached_meet s t u (record { giver = u; taker = t; mark = mark }) r above lined new old
    (moved_old s r t u new old above lined) (moved_new s r t u new old)

-- a ticket that has left the line ends
pub reached_closed : (s : State) (t : ℕ) (line : List (Entry ℕ)) (cut : List ℕ) → Reached s → IsLess t line s.line → IsDistinct line →
    ((x : ℕ) → Contains cut x → Contains s.cut x) → Reached (record (closed s t) { line = line; cut = cut })
reached_closed s t line cut r less distinct cut_less = record {
  place = r.place;
  owner = r.owner;
  placed = placed_less r.placed s.last line cut (omega arith) (λ e m. (less e m).0) cut_less;
  opened = opened_closed r.opened t line less;
  distinct = distinct;
}

-- a ticket in the line is cut
pub reached_cut : (s : State) (t : ℕ) (r : Reached s) → r.place t ≡ InLine →
    Reached (record s { line = without t s.line; cut = s.cut ++ t ∷ [] })
reached_cut s t r lined =
    let less = IsLess-without t s.line in
    let above = lined_above_zero r.placed t lined in
    let below = lined_below r.placed t lined in
    let put = placed_put r.placed t IsCut s.last (without t s.line) (subst IsLoose (sym lined) tt) above below (omega arith) less in
    record {
      place = put_at r.place t IsCut;
      owner = r.owner;
      placed = placed_cut put t (put_at_here r.place t IsCut);
      opened = opened_less r.opened s.last (without t s.line) (omega arith) (λ e m. (less e m).0);
      distinct = IsDistinct-filter (λ e. not (e.ticket == t)) s.line r.distinct;
    }
