-- The columns that the rows of a base and legal records leave are true.
use Rattle.std.proofs.Common.{◌≡◌, ℕ, ◌+◌, Bool, true, false, List, [], ◌∷◌, ◌++◌, map, filter, Option, Some, None, Contains, refl, sym, ap, subst, ◌∙◌}
use Rattle.std.specs.Prelude.{if◌then◌else◌, slice_set, All, ◌==◌, nat_lt, length}
use Rattle.std.specs.List.{list_any, position}
use Rattle.std.specs.Option.{option_map_or}
use Rattle.std.proofs.lemmas.List.Elements.{All-append, All-map, All-set, All-nil, All-cons, All-head, All-tail, All-contains_itself, Contains-append_left, Contains-append_right}
use Rattle.std.proofs.lemmas.Bool.{eqb-true}
use Rattle.meet_tickets.specs.declared.lines.Entry.{Entry}
use Rattle.meet_tickets.specs.declared.places.Side.{Side}
use Rattle.meet_tickets.specs.declared.places.Side.TheVariants.{Giver, Taker}
use Rattle.meet_tickets.specs.declared.places.Kind.{Kind}
use Rattle.meet_tickets.specs.declared.bases.OpenPair.{OpenPair}
use Rattle.meet_tickets.specs.declared.bases.OpenCut.{OpenCut}
use Rattle.meet_tickets.specs.declared.records.Deed.{Deed}
use Rattle.meet_tickets.specs.declared.records.Record.{Record}
use Rattle.meet_tickets.specs.Bases.{Based, Held, held_in, waiting_held, paired_held, cut_held, pair_met, state_of_base, moment_of_base, IsWellFormed}
use Rattle.meet_tickets.specs.ByLists.{State, Open, IsOpen, IsInLine, IsLegalFrom, after, run}
use Rattle.meet_tickets.specs.BySeat.{Moment, moment_after}
use Rattle.meet_tickets.proofs.OnBases.Based.{alike_base}
use Rattle.meet_tickets.proofs.Tellings.Histories.{Alike, alike_after}
use Rattle.meet_tickets.proofs.Lists.Lookups.{Contains-map}
use Rattle.meet_tickets.proofs.Tellings.Whereabouts.{Reached, InLine, IsCut, Gave, Took}
use Rattle.meet_history.specs.declared.pieces.Piece.{Piece}
use Rattle.meet_history.specs.declared.pieces.Piece.TheVariants.{Stands, Met, Cut, Flagged}
use Rattle.meet_run.specs.Tracing.BaseWording.{pieces_of}
use Rattle.meet_draw.specs.declared.columns.Lane.{Lane}
use Rattle.meet_draw.specs.declared.columns.Lane.TheVariants.{Waits, Settled}
use Rattle.meet_draw.specs.declared.columns.Column.{Column}
use Rattle.meet_draw.specs.declared.columns.Change.{Change}
use Rattle.meet_draw.specs.declared.columns.Change.TheVariants.{Nothing, Opens, Owed}
use Rattle.meet_draw.specs.declared.rows.Shown.{Shown}
use Rattle.meet_draw.specs.declared.rows.Shown.TheVariants.{Stood}
use Rattle.meet_draw.specs.Columns.{is_clear, clear_column, with_column, lane_after, column_after, changed, change_of}
use Rattle.meet_draw.specs.Pictures.{came_from}
use Rattle.meet_draw.specs.Rows.{piece_seat, piece_change, columns_after, columns_behind}
use Rattle.meet_draw.specs.Truth.{IsTrueLane, IsTrueColumn, ColumnsAreTrue}
use Rattle.meet_draw.proofs.Truths.{stepped}

each : {X : Type 0} (P Q : X → Type 0) → ((x : X) → P x → Q x) → (xs : List X) → All P xs → All Q xs
each P Q more xs all = λ k d there. more _ (all k d there)

-- ---- a row takes its column

module _ (P : Column → Type 0) (most i : ℕ) (own : P (clear_column i)) (columns : List Column) (all : All P columns) where
  either : (b : Bool) (xs ys : List Column) → All P xs → All P ys → All P (if b then xs else ys)
  either true xs ys one other = one
  either false xs ys one other = other

  replaced : (o : Option ℕ) → All P (option_map_or (λ j. slice_set columns j (clear_column i)) o columns)
  replaced None = all
  replaced (Some j) = All-set P columns j (clear_column i) own all

  given : All P (with_column most i columns)
  given =
      either (list_any (λ c. c.seat == i) columns) columns _ all
      (either (nat_lt (length columns) most) _ _ (All-append P columns (clear_column i ∷ []) all (All-cons P (clear_column i) [] own (All-nil P)))
      (replaced (position (λ c. is_clear c.lane) columns)))

-- a change that keeps each column true keeps all true
kept : (s later : State) (i : ℕ) (change : Change) → ((c : Column) → IsTrueColumn s c → IsTrueColumn later (column_after i change c)) → (most : ℕ) (columns : List Column) → All (IsTrueColumn s) columns → All (IsTrueColumn later) (changed i change (with_column most i columns))
kept s later i change one most columns all =
    let seated = given (IsTrueColumn s) most i tt columns all in
    All-map (IsTrueColumn later) (column_after i change) (with_column most i columns) (each (IsTrueColumn s) (λ c. IsTrueColumn later (column_after i change c)) one (with_column most i columns) seated)

-- ---- rows of records

pub came-next : (most n : ℕ) (r : Record Deed) (records : List (Record Deed)) (columns : List Column) → columns_behind most columns (came_from n (r ∷ records)) ≡ columns_behind most (changed r.seat (change_of r.ticket r.deed) (with_column most r.seat columns)) (came_from (n + 1) records)
unfolding columns_behind came_from columns_after
came-next most n r records columns = refl

pub came-end : (most n : ℕ) (columns : List Column) → columns_behind most columns (came_from n []) ≡ columns
unfolding columns_behind came_from
came-end most n columns = refl

came-true : (k : Kind) (most n : ℕ) (s : State) (m : Moment) → Alike s m → (records : List (Record Deed)) → IsLegalFrom k s records → (columns : List Column) → All (IsTrueColumn s) columns → All (IsTrueColumn (run s records)) (columns_behind most columns (came_from n records))
came-true k most n s m a [] legal columns all = subst (All (IsTrueColumn s)) (sym (came-end most n columns)) all
came-true k most n s m a (r ∷ records) legal columns all =
    let next = kept s (after s r.seat r.ticket r.deed) r.seat (change_of r.ticket r.deed) (λ c holds. stepped s a.reached c.seat k r.seat r.ticket r.deed legal.0 c.lane holds) most columns all in
    subst (All (IsTrueColumn (run s (r ∷ records)))) (sym (came-next most n r records columns))
    (came-true k most (n + 1) (after s r.seat r.ticket r.deed) (moment_after k m r) (alike_after k s m a r legal.0) records legal.1 _ next)

-- ---- rows of a base

-- a piece keeps columns true
abbrev IsSo : State → Piece → Type 0
IsSo s piece = (c : Column) → IsTrueColumn s c → IsTrueColumn s (column_after (piece_seat piece) (piece_change piece) c)

module _ (s : State) (most : ℕ) where
  stood-next : (piece : Piece) (pieces : List Piece) (more : List Shown) (columns : List Column) → columns_behind most columns (map Stood (piece ∷ pieces) ++ more) ≡ columns_behind most (changed (piece_seat piece) (piece_change piece) (with_column most (piece_seat piece) columns)) (map Stood pieces ++ more)
  unfolding columns_behind columns_after
  stood-next piece pieces more columns = refl

  stood-true : (P : List Column → Type 0) (more : List Shown) → ((columns : List Column) → All (IsTrueColumn s) columns → P (columns_behind most columns more)) → (pieces : List Piece) → All (IsSo s) pieces → (columns : List Column) → All (IsTrueColumn s) columns → P (columns_behind most columns (map Stood pieces ++ more))
  stood-true P more rest [] so columns all = rest columns all
  stood-true P more rest (piece ∷ pieces) so columns all =
      subst P (sym (stood-next piece pieces more columns))
      (stood-true P more rest pieces (All-tail (IsSo s) piece pieces so) _ (kept s s (piece_seat piece) (piece_change piece) (All-head (IsSo s) piece pieces so) most columns all))

-- what a piece says of its own seat's lane keeps the others
own-lane : (s : State) (i : ℕ) (own : (l : Lane) → IsTrueLane s i l → IsTrueLane s i Settled) (j : ℕ) (l : Lane) → IsTrueLane s j l → IsTrueLane s j (lane_after Owed (j == i) l)
own-lane s i own j l holds = by (j == i) refl
  where
    by : (same : Bool) → (j == i) ≡ same → IsTrueLane s j (lane_after Owed same l)
    by true is = let at = eqb-true j i is in subst (λ h. IsTrueLane s h Settled) (sym at) (own l (subst (λ h. IsTrueLane s h l) at holds))
    by false is = holds

module _ (k : Kind) (b : Based) (w : IsWellFormed k b) where
  abbrev at_base : State
  at_base = state_of_base b

  reached : Reached at_base
  reached = (alike_base k b w).reached

  stands-so : (e : Entry ℕ) → Contains b.line e → IsSo at_base (Stands e)
  stands-so e there c holds = by e.waits refl
    where
      on : (own : Bool) → (c.seat == e.seat) ≡ own → e.waits ≡ true → IsTrueLane at_base c.seat (lane_after (Opens e.ticket) own c.lane)
      on true is waits =
          let held : IsOpen at_base e.seat e.ticket = reached.opened.waits e there waits in
          subst (λ h. IsTrueLane at_base h (Waits e.ticket)) (sym (eqb-true c.seat e.seat is)) (held, (e, there, refl))
      on false is waits = holds

      by : (waits : Bool) → e.waits ≡ waits → IsTrueLane at_base c.seat (lane_after (if waits then Opens e.ticket else Nothing) (c.seat == e.seat) c.lane)
      by true is = on (c.seat == e.seat) refl is
      by false is = holds

  met-open : (p : OpenPair) → Contains b.pairs p → IsOpen at_base p.seat p.ticket
  met-open p there =
      Contains-map (λ (h : Held). let o : Open = record { ticket = h.ticket; seat = h.seat } in o) (held_in b) (paired_held p)
      (Contains-append_right (map waiting_held (filter (λ e. e.waits) b.line)) (map paired_held b.pairs ++ map cut_held b.cut) (paired_held p)
      (Contains-append_left (map paired_held b.pairs) (map cut_held b.cut) (paired_held p) (Contains-map paired_held b.pairs p there)))

  cut-open : (x : OpenCut) → Contains b.cut x → IsOpen at_base x.seat x.ticket
  cut-open x there =
      Contains-map (λ (h : Held). let o : Open = record { ticket = h.ticket; seat = h.seat } in o) (held_in b) (cut_held x)
      (Contains-append_right (map waiting_held (filter (λ e. e.waits) b.line)) (map paired_held b.pairs ++ map cut_held b.cut) (cut_held x)
      (Contains-append_right (map paired_held b.pairs) (map cut_held b.cut) (cut_held x) (Contains-map cut_held b.cut x there)))

  met-placed : (side : Side) (t u m : ℕ) → Contains at_base.pairs (pair_met side t u m) → IsInLine at_base t → ⊥
  met-placed Giver t u m there lined =
      let clash : InLine ≡ Gave u m = sym (reached.placed.lined lined.0 lined.1) ∙ (ap reached.place lined.2 ∙ reached.placed.gave (pair_met Giver t u m) there) in absurd (cc)
  met-placed Taker t u m there lined =
      let clash : InLine ≡ Took u m = sym (reached.placed.lined lined.0 lined.1) ∙ (ap reached.place lined.2 ∙ reached.placed.took (pair_met Taker t u m) there) in absurd (cc)

  met-so : (p : OpenPair) → Contains b.pairs p → IsSo at_base (Met p)
  met-so p there c holds =
      let pair = Contains-map (λ (q : OpenPair). pair_met q.side q.ticket q.partner q.mark) b.pairs p there in
      own-lane at_base p.seat (λ l h. (p.ticket, met-open p there, met-placed p.side p.ticket p.partner p.mark pair)) c.seat c.lane holds

  cut-so : (x : OpenCut) → Contains b.cut x → IsSo at_base (Cut x)
  cut-so x there c holds =
      let cut = Contains-map (λ (y : OpenCut). y.ticket) b.cut x there in
      let apart : IsInLine at_base x.ticket → ⊥ = λ lined. let clash : InLine ≡ IsCut = sym (reached.placed.lined lined.0 lined.1) ∙ (ap reached.place lined.2 ∙ reached.placed.cuts x.ticket cut) in absurd (cc) in
      own-lane at_base x.seat (λ l h. (x.ticket, cut-open x there, apart)) c.seat c.lane holds

  flag-so : (i : ℕ) → IsSo at_base (Flagged i)
  flag-so i c holds = holds

  -- each of these pieces keeps columns true
  made-so : {X : Type 0} (made : X → Piece) (xs : List X) → ((x : X) → Contains xs x → IsSo at_base (made x)) → All (IsSo at_base) (map made xs)
  made-so made xs so = All-map (IsSo at_base) made xs (each (Contains xs) (λ x. IsSo at_base (made x)) so xs (All-contains_itself xs))

  pieces-so : All (IsSo at_base) (pieces_of b)
  pieces-so =
      All-append (IsSo at_base) (map Stands b.line) (map Met b.pairs ++ (map Cut b.cut ++ map Flagged b.flags)) (made-so Stands b.line stands-so)
      (All-append (IsSo at_base) (map Met b.pairs) (map Cut b.cut ++ map Flagged b.flags) (made-so Met b.pairs met-so)
      (All-append (IsSo at_base) (map Cut b.cut) (map Flagged b.flags) (made-so Cut b.cut cut-so) (made-so Flagged b.flags (λ i there. flag-so i))))

pub columns-are-true : ColumnsAreTrue
columns-are-true k b records most w legal =
    let alike = alike_base k b w in
    stood-true (state_of_base b) most (All (IsTrueColumn (run (state_of_base b) records))) (came_from (b.gone + 1) records)
    (came-true k most (b.gone + 1) (state_of_base b) (moment_of_base b) alike records legal)
    (pieces_of b) (pieces-so k b w) [] (All-nil (IsTrueColumn (state_of_base b)))
