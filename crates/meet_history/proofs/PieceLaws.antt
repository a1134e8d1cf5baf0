-- A base goes on with a piece exactly where it comes in its order and the base with it is well formed.
use Rattle.std.proofs.Common.{if◌then◌else◌, ◌≡◌, ◌≢◌, ℕ, ◌+◌, ◌<◌, ◌≤◌, ◌==◌, nat_lt, nat_le, refl, sym, ap, subst, ◌∙◌, Bool, true, false, not, ◌&&◌, ◌||◌, Option, Some, None, is_some, List, [], ◌∷◌, ◌++◌, map, filter, length, get_or, All, AllPairs, Contains, MatchOption, append_assoc, append-nil, ⊎_elim, cond, arith}
use Rattle.std.specs.Prelude.{⊤}
use Rattle.std.specs.List.{list_any, list_all, flat_map}
use Rattle.std.specs.Option.{option_map_or}
use Rattle.std.proofs.lemmas.Bool.{lt-ltb, le-leb, ne_eqb, not_from_false, true_from_ne_false, false_from_ne_true, not-true, ltb-true, leb-true, eq-eqb, and_parts, or_parts, cases_Bool}
use Rattle.std.proofs.lemmas.Grind.{flat_map-append}
use Rattle.std.proofs.lemmas.List.{map-append}
use Rattle.std.proofs.lemmas.List.Elements.{filter-append, All-push, All-nil, All-cons, All-head, All-tail, All-weaker, Contains-push, Contains-append_left, Contains-push_cases}
use Rattle.std.proofs.lemmas.List.Folds.{list_all_at, list_any_at, list_any_none, list_any-append}
use Rattle.std.proofs.lemmas.List.Kept.{AllPairs-cons}
use Rattle.std.proofs.lemmas.List.Quantifiers.{all_pairs_push}
use Rattle.meet_tickets.specs.declared.lines.Entry.{Entry}
use Rattle.meet_tickets.specs.declared.bases.OpenPair.{OpenPair}
use Rattle.meet_tickets.specs.declared.bases.OpenCut.{OpenCut}
use Rattle.meet_tickets.specs.declared.places.Kind.{Kind}
use Rattle.meet_tickets.specs.Bases.{Based, Held, held_in, named_in, waiting_held, paired_held, cut_held, IsWellFormed, MayStand}
use Rattle.meet_tickets.specs.Meeting.{keeps, kept_count}
use Rattle.meet_tickets.proofs.Line.Sides.{AllPairs-head, AllPairs-tail}
use Rattle.meet_tickets.proofs.Lists.Members.{Contains-nil}
use Rattle.meet_tickets.proofs.Line.Keeping.{kept-kept, kept-queued}
use Rattle.meet_history.specs.declared.pieces.Piece.{Piece}
use Rattle.meet_history.specs.declared.pieces.Piece.TheVariants.{Stands, Met, Cut, Flagged}
use Rattle.meet_history.specs.Pieces.{bare_base, with_piece, in_order, is_new, is_unheld, keeps_more, is_nil, entry_fits, pair_fits, cut_fits, flag_fits, may_follow}

-- each element passes what all pass
passes : {X : Type 0} (p : X → Bool) (xs : List X) → list_all p xs ≡ true → (k : ℕ) (d : X) → k < length xs → p (get_or xs k d) ≡ true
passes p xs all k d lt = true_from_ne_false (p (get_or xs k d)) (λ no. let clash : true ≡ false = sym all ∙ list_all_at p xs k d lt no in absurd (cc))

-- none passes what no element passes
fails : {X : Type 0} (p : X → Bool) (xs : List X) → list_any p xs ≡ false → (k : ℕ) (d : X) → k < length xs → p (get_or xs k d) ≡ false
fails p xs none k d lt = false_from_ne_true (p (get_or xs k d)) (λ yes. let clash : true ≡ false = sym (list_any_at p xs k d lt yes) ∙ none in absurd (cc))

-- a number that no element is
apart-more : {X : Type 0} (key : X → ℕ) (xs : List X) (y : X) → AllPairs (λ (a b : X). key a ≢ key b) xs → list_any (λ x. key x == key y) xs ≡ false → AllPairs (λ (a b : X). key a ≢ key b) (xs ++ y ∷ [])
apart-more key xs y apart none = all_pairs_push (λ a b. key a ≢ key b) xs y apart (λ k d lt same. let clash : true ≡ false = sym (eq-eqb (key (get_or xs k d)) (key y) same) ∙ fails (λ x. key x == key y) xs none k d lt in absurd (cc))

-- a greater number
rises-more : {X : Type 0} (key : X → ℕ) (xs : List X) (y : X) → AllPairs (λ (a b : X). key a < key b) xs → list_all (λ x. nat_lt (key x) (key y)) xs ≡ true → AllPairs (λ (a b : X). key a < key b) (xs ++ y ∷ [])
rises-more key xs y rises all = all_pairs_push (λ a b. key a < key b) xs y rises (λ k d lt. ltb-true (key (get_or xs k d)) (key y) (passes (λ x. nat_lt (key x) (key y)) xs all k d lt))

same-side : (a b : Bool) → (if a then b else not b) ≡ true → a ≡ b
same-side true b is = sym is
same-side false b is = sym (not-true b is)

-- the names of a base, and where they are in its limits
abbrev AreNames : (last : ℕ) → List ℕ → Type 0
AreNames last names = AllPairs (λ t u. t ≢ u) names × All (λ t. (1 ≤ t) × (t ≤ last)) names

-- a name more
names-more : (b : Based) (names : List ℕ) (t : ℕ) → AreNames b.last names → list_any (λ u. u == t) names ≡ false → nat_le 1 t ≡ true → nat_le t b.last ≡ true → AreNames b.last (names ++ t ∷ [])
names-more b names t are new some last = (apart-more (λ u. u) names t are.0 new, All-push (λ u. (1 ≤ u) × (u ≤ b.last)) names t are.1 (leb-true 1 t some, leb-true t b.last last))

-- what it says that a ticket is new
record New (b : Based) (t : ℕ) : Type 0 where
  some : nat_le 1 t ≡ true
  last : nat_le t b.last ≡ true
  apart : list_any (λ u. u == t) (named_in b) ≡ false

new-of : (b : Based) (t : ℕ) → is_new b t ≡ true → New b t
new-of b t is =
    let one = and_parts (nat_le 1 t) (nat_le t b.last && not (list_any (λ u. u == t) (named_in b))) is in
    let two = and_parts (nat_le t b.last) (not (list_any (λ u. u == t) (named_in b))) one.1 in
    record { some = one.0; last = two.0; apart = not-true (list_any (λ u. u == t) (named_in b)) two.1 }

-- one name more
one-named : (b : Based) (t : ℕ) (later : List ℕ) → AreNames b.last (named_in b) → is_new b t ≡ true → later ≡ named_in b ++ t ∷ [] → AreNames b.last later
one-named b t later are is same =
    let new = new-of b t is in
    subst (AreNames b.last) (sym same) (names-more b (named_in b) t are new.apart new.some new.last)

-- two names more
two-named : (b : Based) (t u : ℕ) (later : List ℕ) → AreNames b.last (named_in b) → is_new b t ≡ true → is_new b u ≡ true → not (t == u) ≡ true → later ≡ named_in b ++ t ∷ u ∷ [] → AreNames b.last later
two-named b t u later are first second apart same =
    let new = new-of b t first in
    let other = new-of b u second in
    let names = named_in b in
    let none : list_any (λ n. n == u) (names ++ t ∷ []) ≡ false =
    list_any-append (λ n. n == u) names (t ∷ []) ∙ rw (other.apart, not-true (t == u) apart) refl in
    let both : AreNames b.last ((names ++ t ∷ []) ++ u ∷ []) =
    names-more b (names ++ t ∷ []) u (names-more b names t are new.apart new.some new.last) none other.some other.last in
    subst (AreNames b.last) (append_assoc names (t ∷ []) (u ∷ []) ∙ sym same) both

-- a seat more
one-held : (b : Based) (h : Held) (later : List Held) → AllPairs (λ (g f : Held). g.seat ≢ f.seat) (held_in b) → is_unheld b h.seat ≡ true → later ≡ held_in b ++ h ∷ [] → AllPairs (λ (g f : Held). g.seat ≢ f.seat) later
one-held b h later apart is same = subst (AllPairs (λ (g f : Held). g.seat ≢ f.seat)) (sym same) (apart-more (λ (g : Held). g.seat) (held_in b) h apart (not-true (list_any (λ (g : Held). g.seat == h.seat) (held_in b)) is))

names-of : (k : Kind) (b : Based) → IsWellFormed k b → AreNames b.last (named_in b)
names-of k b well = (well.apart, well.named)

-- a base of nothing but a line
abbrev line_base : (gone last : ℕ) → List (Entry ℕ) → Based
line_base gone last line = record { gone = gone; last = last; line = line; pairs = []; cut = []; flags = [] }

-- an entry more that is not kept past the bound
few-more : (k : Kind) (line : List (Entry ℕ)) (e : Entry ℕ) → MatchOption k.bound ⊤ (λ most. kept_count line ≤ most) → (e.waits ≡ false → keeps_more k line ≡ true) → MatchOption k.bound ⊤ (λ most. kept_count (line ++ e ∷ []) ≤ most)
few-more k line e few kept = ⊎_elim
    (λ (waits : e.waits ≡ true). subst (λ n. MatchOption k.bound ⊤ (λ most. n ≤ most)) (sym (kept-queued line e waits)) few)
    (λ (stays : e.waits ≡ false).
    let room = and_parts (keeps k.order) (option_map_or (λ most. nat_lt (kept_count line) most) k.bound true) (kept stays) in
    subst (λ n. MatchOption k.bound ⊤ (λ most. n ≤ most)) (sym (kept-kept line e stays)) (by_bound k.bound room.1))
    (cases_Bool e.waits)
  where
    by_bound : (bound : Option ℕ) → option_map_or (λ most. nat_lt (kept_count line) most) bound true ≡ true → MatchOption bound ⊤ (λ most. kept_count line + 1 ≤ most)
    by_bound None is = tt
    by_bound (Some most) is = omega (arith, ltb-true (kept_count line) most is)

-- what a base with an entry more names, and what its seats hold
line-names : (gone last : ℕ) (line : List (Entry ℕ)) (e : Entry ℕ) → named_in (line_base gone last (line ++ e ∷ [])) ≡ named_in (line_base gone last line) ++ e.ticket ∷ []
line-names gone last line e =
    append-nil (map (λ f. f.ticket) (line ++ e ∷ [])) ∙ map-append (λ f. f.ticket) line (e ∷ []) ∙ ap (λ ns. ns ++ e.ticket ∷ []) (sym (append-nil (map (λ f. f.ticket) line)))

line-held : (gone last : ℕ) (line : List (Entry ℕ)) (e : Entry ℕ) (w : Bool) → e.waits ≡ w → held_in (line_base gone last (line ++ e ∷ [])) ≡ held_in (line_base gone last line) ++ cond w (waiting_held e ∷ []) []
line-held gone last line e w is =
    append-nil (map waiting_held (filter (λ f. f.waits) (line ++ e ∷ [])))
    ∙ (ap (map waiting_held) (filter-append (λ f. f.waits) line (e ∷ []))
    ∙ (map-append waiting_held (filter (λ f. f.waits) line) (filter (λ f. f.waits) (e ∷ []))
    ∙ (ap (λ hs. hs ++ map waiting_held (filter (λ f. f.waits) (e ∷ []))) (sym (append-nil (map waiting_held (filter (λ f. f.waits) line))))
    ∙ ap (λ hs. (map waiting_held (filter (λ f. f.waits) line) ++ []) ++ hs) (one e.waits ∙ ap (λ v. cond v (waiting_held e ∷ []) []) is))))
  where
    one : (v : Bool) → map waiting_held (cond v (e ∷ []) []) ≡ cond v (waiting_held e ∷ []) []
    one true = refl
    one false = refl

-- an entry more
line-well : (k : Kind) (gone last : ℕ) (line : List (Entry ℕ)) (e : Entry ℕ) → IsWellFormed k (line_base gone last line) → entry_fits k (line_base gone last line) e ≡ true → IsWellFormed k (line_base gone last (line ++ e ∷ []))
line-well k gone last line e well is =
    let b = line_base gone last line in
    let rises = and_parts (list_all (λ f. nat_lt f.ticket e.ticket) line) _ is in
    let side = and_parts (list_all (λ f. if is_some f.item then is_some e.item else not (is_some e.item)) line) _ rises.1 in
    let rest = and_parts (is_new b e.ticket) (if e.waits then is_unheld b e.seat else (is_some e.item && keeps_more k line)) side.1 in
    let kept : e.waits ≡ false → (is_some e.item && keeps_more k line) ≡ true = λ stays. subst (λ w. (if w then is_unheld b e.seat else (is_some e.item && keeps_more k line)) ≡ true) stays rest.1 in
    let unheld : e.waits ≡ true → is_unheld b e.seat ≡ true = λ waits. subst (λ w. (if w then is_unheld b e.seat else (is_some e.item && keeps_more k line)) ≡ true) waits rest.1 in
    let names = one-named b e.ticket (named_in (line_base gone last (line ++ e ∷ []))) (names-of k b well) rest.0 (line-names gone last line e) in
    record {
      one_side = all_pairs_push (λ f g. is_some f.item ≡ is_some g.item) line e well.one_side (λ j d lt. same-side (is_some (get_or line j d).item) (is_some e.item) (passes (λ f. if is_some f.item then is_some e.item else not (is_some e.item)) line side.0 j d lt));
      line_rises = rises-more (λ f. f.ticket) line e well.line_rises rises.0;
      kept = All-push (MayStand k) line e well.kept (λ stays.
          let may = and_parts (is_some e.item) (keeps_more k line) (kept stays) in
          (may.0, (and_parts (keeps k.order) (option_map_or (λ most. nat_lt (kept_count line) most) k.bound true) may.1).0));
      few = few-more k line e well.few (λ stays. (and_parts (is_some e.item) (keeps_more k line) (kept stays)).1);
      pairs_rise = well.pairs_rise;
      cut_rises = well.cut_rises;
      flags_rise = well.flags_rise;
      apart = names.0;
      named = names.1;
      seats = ⊎_elim
          (λ (waits : e.waits ≡ true). one-held b (waiting_held e) (held_in (line_base gone last (line ++ e ∷ []))) well.seats (unheld waits) (line-held gone last line e true waits))
          (λ (stays : e.waits ≡ false). subst (AllPairs (λ (g f : Held). g.seat ≢ f.seat)) (sym (line-held gone last line e false stays ∙ append-nil (held_in b))) well.seats)
          (cases_Bool e.waits);
      unflagged = All-push (λ f. f.waits ≡ true → Contains [] f.seat → ⊥) line e well.unflagged (λ waits flagged. Contains-nil e.seat flagged);
    }

-- the same with one more that was met
module _ (gone last : ℕ) (line : List (Entry ℕ)) (pairs : List OpenPair) (p : OpenPair) where
  -- a base of nothing but a line and pairs
  abbrev pairs_base : Based
  pairs_base = record { gone = gone; last = last; line = line; pairs = pairs; cut = []; flags = [] }

  pair-names : named_in (with_piece pairs_base (Met p)) ≡ named_in pairs_base ++ p.ticket ∷ p.partner ∷ []
  pair-names =
      let told : OpenPair → List ℕ = λ q. q.ticket ∷ q.partner ∷ [] in
      let tickets = map (λ (e : Entry ℕ). e.ticket) line in
      ap (λ ns. tickets ++ ns) (append-nil (flat_map told (pairs ++ p ∷ [])) ∙ flat_map-append told pairs (p ∷ []))
      ∙ (sym (append_assoc tickets (flat_map told pairs) (p.ticket ∷ p.partner ∷ []))
      ∙ ap (λ ns. (tickets ++ ns) ++ p.ticket ∷ p.partner ∷ []) (sym (append-nil (flat_map told pairs))))

  pair-held : held_in (with_piece pairs_base (Met p)) ≡ held_in pairs_base ++ paired_held p ∷ []
  pair-held =
      let waiting = map waiting_held (filter (λ (e : Entry ℕ). e.waits) line) in
      ap (λ hs. waiting ++ hs) (append-nil (map paired_held (pairs ++ p ∷ [])) ∙ map-append paired_held pairs (p ∷ []))
      ∙ (sym (append_assoc waiting (map paired_held pairs) (paired_held p ∷ []))
      ∙ ap (λ hs. (waiting ++ hs) ++ paired_held p ∷ []) (sym (append-nil (map paired_held pairs))))

-- an open ticket more that was met
pair-well : (k : Kind) (gone last : ℕ) (line : List (Entry ℕ)) (pairs : List OpenPair) (p : OpenPair) → let b : Based = record { gone = gone; last = last; line = line; pairs = pairs; cut = []; flags = [] } in IsWellFormed k b → pair_fits b p ≡ true → IsWellFormed k (with_piece b (Met p))
pair-well k gone last line pairs p well is =
    let b : Based = record { gone = gone; last = last; line = line; pairs = pairs; cut = []; flags = [] } in
    let rises = and_parts (list_all (λ q. nat_lt q.ticket p.ticket) pairs) _ is in
    let first = and_parts (is_new b p.ticket) _ rises.1 in
    let second = and_parts (is_new b p.partner) _ first.1 in
    let other = and_parts (not (p.ticket == p.partner)) (is_unheld b p.seat) second.1 in
    let names = two-named b p.ticket p.partner (named_in (with_piece b (Met p))) (names-of k b well) first.0 second.0 other.0 (pair-names gone last line pairs p) in
    record {
      one_side = well.one_side;
      line_rises = well.line_rises;
      kept = well.kept;
      few = well.few;
      pairs_rise = rises-more (λ q. q.ticket) pairs p well.pairs_rise rises.0;
      cut_rises = well.cut_rises;
      flags_rise = well.flags_rise;
      apart = names.0;
      named = names.1;
      seats = one-held b (paired_held p) (held_in (with_piece b (Met p))) well.seats other.1 (pair-held gone last line pairs p);
      unflagged = well.unflagged;
    }

-- the same with one more that was cut
module _ (b : Based) (c : OpenCut) where
  cut-names : named_in (with_piece b (Cut c)) ≡ named_in b ++ c.ticket ∷ []
  cut-names =
      let tickets = map (λ (e : Entry ℕ). e.ticket) b.line in
      let met = flat_map (λ (q : OpenPair). q.ticket ∷ q.partner ∷ []) b.pairs in
      let cuts = map (λ (d : OpenCut). d.ticket) b.cut in
      ap (λ ns. tickets ++ (met ++ ns)) (map-append (λ (d : OpenCut). d.ticket) b.cut (c ∷ []))
      ∙ (ap (λ ns. tickets ++ ns) (sym (append_assoc met cuts (c.ticket ∷ [])))
      ∙ sym (append_assoc tickets (met ++ cuts) (c.ticket ∷ [])))

  cut-held : held_in (with_piece b (Cut c)) ≡ held_in b ++ cut_held c ∷ []
  cut-held =
      let waiting = map waiting_held (filter (λ (e : Entry ℕ). e.waits) b.line) in
      ap (λ hs. waiting ++ (map paired_held b.pairs ++ hs)) (map-append cut_held b.cut (c ∷ []))
      ∙ (ap (λ hs. waiting ++ hs) (sym (append_assoc (map paired_held b.pairs) (map cut_held b.cut) (cut_held c ∷ [])))
      ∙ sym (append_assoc waiting (map paired_held b.pairs ++ map cut_held b.cut) (cut_held c ∷ [])))

-- one more that was cut
cut-well : (k : Kind) (gone last : ℕ) (line : List (Entry ℕ)) (pairs : List OpenPair) (cut : List OpenCut) (c : OpenCut) → let b : Based = record { gone = gone; last = last; line = line; pairs = pairs; cut = cut; flags = [] } in IsWellFormed k b → cut_fits b c ≡ true → IsWellFormed k (with_piece b (Cut c))
cut-well k gone last line pairs cut c well is =
    let b : Based = record { gone = gone; last = last; line = line; pairs = pairs; cut = cut; flags = [] } in
    let rises = and_parts (list_all (λ d. nat_lt d.ticket c.ticket) cut) _ is in
    let rest = and_parts (is_new b c.ticket) (is_unheld b c.seat) rises.1 in
    let names = one-named b c.ticket (named_in (with_piece b (Cut c))) (names-of k b well) rest.0 (cut-names b c) in
    record {
      one_side = well.one_side;
      line_rises = well.line_rises;
      kept = well.kept;
      few = well.few;
      pairs_rise = well.pairs_rise;
      cut_rises = rises-more (λ d. d.ticket) cut c well.cut_rises rises.0;
      flags_rise = well.flags_rise;
      apart = names.0;
      named = names.1;
      seats = one-held b (cut_held c) (held_in (with_piece b (Cut c))) well.seats rest.1 (cut-held b c);
      unflagged = well.unflagged;
    }

-- a flagged seat more
flag-well : (k : Kind) (b : Based) (i : ℕ) → IsWellFormed k b → flag_fits b i ≡ true → IsWellFormed k (with_piece b (Flagged i))
flag-well k b i well is =
    let parts = and_parts (list_all (λ j. nat_lt j i) b.flags) (not (list_any (λ e. if e.waits then e.seat == i else false) b.line)) is in
    record {
      one_side = well.one_side;
      line_rises = well.line_rises;
      kept = well.kept;
      few = well.few;
      pairs_rise = well.pairs_rise;
      cut_rises = well.cut_rises;
      flags_rise = rises-more (λ j. j) b.flags i well.flags_rise parts.0;
      apart = well.apart;
      named = well.named;
      seats = well.seats;
      unflagged = each b.line well.unflagged (not-true (list_any (λ e. if e.waits then e.seat == i else false) b.line) parts.1);
    }
  where
    one : (e : Entry ℕ) → (e.waits ≡ true → Contains b.flags e.seat → ⊥) → (if e.waits then e.seat == i else false) ≡ false → e.waits ≡ true → Contains (b.flags ++ i ∷ []) e.seat → ⊥
    one e before none waits flagged = ⊎_elim (before waits)
        (λ (same : i ≡ e.seat). let clash : true ≡ false = sym (eq-eqb e.seat i (sym same)) ∙ subst (λ w. (if w then e.seat == i else false) ≡ false) waits none in absurd (cc))
        (Contains-push_cases b.flags i e.seat flagged)

    each : (line : List (Entry ℕ)) → All (λ e. e.waits ≡ true → Contains b.flags e.seat → ⊥) line → list_any (λ e. if e.waits then e.seat == i else false) line ≡ false → All (λ e. e.waits ≡ true → Contains (b.flags ++ i ∷ []) e.seat → ⊥) line
    each [] all none = All-nil (λ e. e.waits ≡ true → Contains (b.flags ++ i ∷ []) e.seat → ⊥)
    each (e ∷ line) all none =
        let parts = or_parts (if e.waits then e.seat == i else false) (list_any (λ f. if f.waits then f.seat == i else false) line) none in
        All-cons (λ f. f.waits ≡ true → Contains (b.flags ++ i ∷ []) f.seat → ⊥) e line (one e (All-head (λ f. f.waits ≡ true → Contains b.flags f.seat → ⊥) e line all) parts.0) (each line (All-tail (λ f. f.waits ≡ true → Contains b.flags f.seat → ⊥) e line all) parts.1)

-- a base with a piece that may follow is well formed
pub follows-well : (k : Kind) (b : Based) (piece : Piece) → IsWellFormed k b → may_follow k b piece ≡ true → IsWellFormed k (with_piece b piece)
follows-well k b (Flagged i) well is = flag-well k b i well is
follows-well k b (Cut c) well is = by b.flags refl
  where
    by : (flags : List ℕ) → b.flags ≡ flags → IsWellFormed k (with_piece b (Cut c))
    by [] none =
        let same : b ≡ record b { flags = [] } = λ i. record b { flags = none i } in
        subst (λ x. IsWellFormed k (with_piece x (Cut c))) (sym same) (cut-well k b.gone b.last b.line b.pairs b.cut c (subst (IsWellFormed k) same well) (subst (λ x. may_follow k x (Cut c) ≡ true) same is))
    by (i ∷ flags) some = let clash : true ≡ false = sym (subst (λ xs. (is_nil xs && cut_fits b c) ≡ true) some is) in absurd (cc)
follows-well k b (Met p) well is = by b.cut b.flags refl refl
  where
    by : (cut : List OpenCut) (flags : List ℕ) → b.cut ≡ cut → b.flags ≡ flags → IsWellFormed k (with_piece b (Met p))
    by [] [] uncut none =
        let same : b ≡ record b { cut = []; flags = [] } = λ i. record b { cut = uncut i; flags = none i } in
        subst (λ x. IsWellFormed k (with_piece x (Met p))) (sym same) (pair-well k b.gone b.last b.line b.pairs p (subst (IsWellFormed k) same well) (subst (λ x. may_follow k x (Met p) ≡ true) same is))
    by (c ∷ cut) flags uncut some = let clash : true ≡ false = sym (subst (λ xs. ((is_nil xs && is_nil b.flags) && pair_fits b p) ≡ true) uncut is) in absurd (cc)
    by [] (i ∷ flags) uncut some = let clash : true ≡ false = sym (subst (λ xs. ((is_nil xs && is_nil (i ∷ flags)) && pair_fits b p) ≡ true) uncut (subst (λ xs. ((is_nil b.cut && is_nil xs) && pair_fits b p) ≡ true) some is)) in absurd (cc)
follows-well k b (Stands e) well is = by b.pairs b.cut b.flags refl refl refl
  where
    by : (pairs : List OpenPair) (cut : List OpenCut) (flags : List ℕ) → b.pairs ≡ pairs → b.cut ≡ cut → b.flags ≡ flags → IsWellFormed k (with_piece b (Stands e))
    by [] [] [] unmet uncut none =
        let same : b ≡ line_base b.gone b.last b.line = λ i. record b { pairs = unmet i; cut = uncut i; flags = none i } in
        subst (λ x. IsWellFormed k (with_piece x (Stands e))) (sym same) (line-well k b.gone b.last b.line e (subst (IsWellFormed k) same well) (subst (λ x. may_follow k x (Stands e) ≡ true) same is))
    by (p ∷ pairs) cut flags unmet uncut some = let clash : true ≡ false = sym (subst (λ xs. ((is_nil xs && (is_nil b.cut && is_nil b.flags)) && entry_fits k b e) ≡ true) unmet is) in absurd (cc)
    by [] (c ∷ cut) flags unmet uncut some = let clash : true ≡ false = sym (subst (λ xs. ((is_nil xs && (is_nil (c ∷ cut) && is_nil b.flags)) && entry_fits k b e) ≡ true) unmet (subst (λ xs. ((is_nil b.pairs && (is_nil xs && is_nil b.flags)) && entry_fits k b e) ≡ true) uncut is)) in absurd (cc)
    by [] [] (i ∷ flags) unmet uncut some =
        let one : ((is_nil b.pairs && (is_nil b.cut && false)) && entry_fits k b e) ≡ true = subst (λ xs. ((is_nil b.pairs && (is_nil b.cut && is_nil xs)) && entry_fits k b e) ≡ true) some is in
        let two : ((is_nil b.pairs && false) && entry_fits k b e) ≡ true = subst (λ xs. ((is_nil b.pairs && (is_nil xs && false)) && entry_fits k b e) ≡ true) uncut one in
        let clash : true ≡ false = sym (subst (λ xs. ((is_nil xs && false) && entry_fits k b e) ≡ true) unmet two) in absurd (cc)

-- ---- and only where it may follow

all-end : {X : Type 0} (P : X → Type 0) (xs : List X) (y : X) → All P (xs ++ y ∷ []) → P y
all-end P [] y all = All-head P y [] all
all-end P (x ∷ xs) y all = all-end P xs y (All-tail P x (xs ++ y ∷ []) all)

pairs-end : {X : Type 0} (R : X → X → Type 0) (xs : List X) (y : X) → AllPairs R (xs ++ y ∷ []) → All (λ x. R x y) xs
pairs-end R [] y all = All-nil (λ x. R x y)
pairs-end R (x ∷ xs) y all = All-cons (λ z. R z y) x xs (all-end (R x) xs y (AllPairs-head R x (xs ++ y ∷ []) all)) (pairs-end R xs y (AllPairs-tail R x (xs ++ y ∷ []) all))

all-pass : {X : Type 0} (p : X → Bool) (xs : List X) → All (λ x. p x ≡ true) xs → list_all p xs ≡ true
all-pass p [] all = refl
all-pass p (x ∷ xs) all = rw (All-head (λ z. p z ≡ true) x xs all) (all-pass p xs (All-tail (λ z. p z ≡ true) x xs all))

both : (x y : Bool) → x ≡ true → y ≡ true → (x && y) ≡ true
both x y one two = rw one two

all-front : {X : Type 0} (P : X → Type 0) (xs : List X) (y : X) → All P (xs ++ y ∷ []) → All P xs
all-front P [] y all = All-nil P
all-front P (x ∷ xs) y all = All-cons P x xs (All-head P x (xs ++ y ∷ []) all) (all-front P xs y (All-tail P x (xs ++ y ∷ []) all))

pairs-none : {X : Type 0} (R : X → X → Type 0) → AllPairs R []
pairs-none R i j d lt less = absurd (omega (arith, less))

pairs-front : {X : Type 0} (R : X → X → Type 0) (xs : List X) (y : X) → AllPairs R (xs ++ y ∷ []) → AllPairs R xs
pairs-front R [] y all = pairs-none R
pairs-front R (x ∷ xs) y all = AllPairs-cons R x xs (all-front (R x) xs y (AllPairs-head R x (xs ++ y ∷ []) all)) (pairs-front R xs y (AllPairs-tail R x (xs ++ y ∷ []) all))

rises-only : {X : Type 0} (key : X → ℕ) (xs : List X) (y : X) → AllPairs (λ (a b : X). key a < key b) (xs ++ y ∷ []) → list_all (λ x. nat_lt (key x) (key y)) xs ≡ true
rises-only key xs y rises = all-pass (λ x. nat_lt (key x) (key y)) xs (All-weaker (λ x. key x < key y) (λ x. nat_lt (key x) (key y) ≡ true) (λ x lt. lt-ltb (key x) (key y) lt) xs (pairs-end (λ a b. key a < key b) xs y rises))

apart-only : {X : Type 0} (key : X → ℕ) (xs : List X) (y : X) → AllPairs (λ (a b : X). key a ≢ key b) (xs ++ y ∷ []) → list_any (λ x. key x == key y) xs ≡ false
apart-only key xs y apart = list_any_none (λ x. key x == key y) xs (All-weaker (λ x. key x ≢ key y) (λ x. (key x == key y) ≡ false) (λ x ne. ne_eqb (key x) (key y) ne) xs (pairs-end (λ a b. key a ≢ key b) xs y apart))

side-same : (a b : Bool) → a ≡ b → (if a then b else not b) ≡ true
side-same true b is = sym is
side-same false b is = rw (sym is) refl

new-only : (b : Based) (t : ℕ) → AreNames b.last (named_in b ++ t ∷ []) → is_new b t ≡ true
new-only b t are =
    let within = all-end (λ u. (1 ≤ u) × (u ≤ b.last)) (named_in b) t are.1 in
    both (nat_le 1 t) _ (le-leb 1 t within.0) (both (nat_le t b.last) _ (le-leb t b.last within.1) (not_from_false (list_any (λ u. u == t) (named_in b)) (apart-only (λ u. u) (named_in b) t are.0)))

unheld-only : (b : Based) (h : Held) (later : List Held) → later ≡ held_in b ++ h ∷ [] → AllPairs (λ (g f : Held). g.seat ≢ f.seat) later → is_unheld b h.seat ≡ true
unheld-only b h later same apart = not_from_false (list_any (λ (g : Held). g.seat == h.seat) (held_in b)) (apart-only (λ (g : Held). g.seat) (held_in b) h (subst (AllPairs (λ (g f : Held). g.seat ≢ f.seat)) same apart))

line-only : (k : Kind) (gone last : ℕ) (line : List (Entry ℕ)) (e : Entry ℕ) → IsWellFormed k (line_base gone last (line ++ e ∷ [])) → entry_fits k (line_base gone last line) e ≡ true
line-only k gone last line e well =
    let b = line_base gone last line in
    let names : named_in (line_base gone last (line ++ e ∷ [])) ≡ named_in b ++ e.ticket ∷ [] =
    append-nil (map (λ f. f.ticket) (line ++ e ∷ [])) ∙ map-append (λ f. f.ticket) line (e ∷ []) ∙ ap (λ ns. ns ++ e.ticket ∷ []) (sym (append-nil (map (λ f. f.ticket) line))) in
    let fits : (w : Bool) → e.waits ≡ w → (if w then is_unheld b e.seat else (is_some e.item && keeps_more k line)) ≡ true = λ w is. by w is in
    both _ _ (rises-only (λ f. f.ticket) line e well.line_rises)
    (both _ _ (all-pass (λ f. if is_some f.item then is_some e.item else not (is_some e.item)) line (All-weaker (λ f. is_some f.item ≡ is_some e.item) (λ f. (if is_some f.item then is_some e.item else not (is_some e.item)) ≡ true) (λ f same. side-same (is_some f.item) (is_some e.item) same) line (pairs-end (λ f g. is_some f.item ≡ is_some g.item) line e well.one_side)))
    (both _ _ (new-only b e.ticket (subst (AreNames last) names (well.apart, well.named)))
    (fits e.waits refl)))
  where
    by_bound : (bound : Option ℕ) → MatchOption bound ⊤ (λ most. kept_count line + 1 ≤ most) → option_map_or (λ most. nat_lt (kept_count line) most) bound true ≡ true
    by_bound None few = refl
    by_bound (Some most) few = lt-ltb (kept_count line) most (omega (arith, few))

    by : (w : Bool) → e.waits ≡ w → (if w then is_unheld (line_base gone last line) e.seat else (is_some e.item && keeps_more k line)) ≡ true
    by true is = unheld-only (line_base gone last line) (waiting_held e) (held_in (line_base gone last (line ++ e ∷ [])))
        (append-nil (map waiting_held (filter (λ f. f.waits) (line ++ e ∷ [])))
        ∙ (ap (map waiting_held) (filter-append (λ f. f.waits) line (e ∷ []) ∙ ap (λ w. filter (λ f. f.waits) line ++ cond w (e ∷ []) []) is)
        ∙ (map-append waiting_held (filter (λ f. f.waits) line) (e ∷ [])
        ∙ ap (λ hs. hs ++ waiting_held e ∷ []) (sym (append-nil (map waiting_held (filter (λ f. f.waits) line)))))))
        well.seats
    by false is =
        let may : (is_some e.item ≡ true) × (keeps k.order ≡ true) = all-end (MayStand k) line e well.kept is in
        both _ _ may.0 (both _ _ may.1 (by_bound k.bound (subst (λ n. MatchOption k.bound ⊤ (λ most. n ≤ most)) (kept-kept line e is) well.few)))

pair-only : (k : Kind) (gone last : ℕ) (line : List (Entry ℕ)) (pairs : List OpenPair) (p : OpenPair) → let b : Based = record { gone = gone; last = last; line = line; pairs = pairs; cut = []; flags = [] } in IsWellFormed k (with_piece b (Met p)) → pair_fits b p ≡ true
pair-only k gone last line pairs p well =
    let b : Based = record { gone = gone; last = last; line = line; pairs = pairs; cut = []; flags = [] } in
    -- the names but the partner, and then the names with the partner
    let all : AreNames last ((named_in b ++ p.ticket ∷ []) ++ p.partner ∷ []) = subst (AreNames last) (pair-names gone last line pairs p ∙ sym (append_assoc (named_in b) (p.ticket ∷ []) (p.partner ∷ []))) (well.apart, well.named) in
    let first : AreNames last (named_in b ++ p.ticket ∷ []) = (pairs-front (λ t u. t ≢ u) (named_in b ++ p.ticket ∷ []) p.partner all.0, all-front (λ t. (1 ≤ t) × (t ≤ last)) (named_in b ++ p.ticket ∷ []) p.partner all.1) in
    let none : list_any (λ u. u == p.partner) (named_in b ++ p.ticket ∷ []) ≡ false = apart-only (λ u. u) (named_in b ++ p.ticket ∷ []) p.partner all.0 in
    let parts = or_parts (list_any (λ u. u == p.partner) (named_in b)) (p.ticket == p.partner || false) (sym (list_any-append (λ u. u == p.partner) (named_in b) (p.ticket ∷ [])) ∙ none) in
    let within = all-end (λ t. (1 ≤ t) × (t ≤ last)) (named_in b ++ p.ticket ∷ []) p.partner all.1 in
    both _ _ (rises-only (λ q. q.ticket) pairs p well.pairs_rise)
    (both _ _ (new-only b p.ticket first)
    (both _ _ (both _ _ (le-leb 1 p.partner within.0) (both _ _ (le-leb p.partner last within.1) (not_from_false (list_any (λ u. u == p.partner) (named_in b)) parts.0)))
    (both _ _ (not_from_false (p.ticket == p.partner) ((or_parts (p.ticket == p.partner) false parts.1).0))
    (unheld-only b (paired_held p) (held_in (with_piece b (Met p))) (pair-held gone last line pairs p) well.seats))))

cut-only : (k : Kind) (gone last : ℕ) (line : List (Entry ℕ)) (pairs : List OpenPair) (cut : List OpenCut) (c : OpenCut) → let b : Based = record { gone = gone; last = last; line = line; pairs = pairs; cut = cut; flags = [] } in IsWellFormed k (with_piece b (Cut c)) → cut_fits b c ≡ true
cut-only k gone last line pairs cut c well =
    let b : Based = record { gone = gone; last = last; line = line; pairs = pairs; cut = cut; flags = [] } in
    both _ _ (rises-only (λ d. d.ticket) cut c well.cut_rises)
    (both _ _ (new-only b c.ticket (subst (AreNames last) (cut-names b c) (well.apart, well.named)))
    (unheld-only b (cut_held c) (held_in (with_piece b (Cut c))) (cut-held b c) well.seats))

flag-only : (k : Kind) (b : Based) (i : ℕ) → IsWellFormed k (with_piece b (Flagged i)) → flag_fits b i ≡ true
flag-only k b i well =
    both _ _ (rises-only (λ j. j) b.flags i well.flags_rise)
    (not_from_false (list_any (λ e. if e.waits then e.seat == i else false) b.line)
    (list_any_none (λ e. if e.waits then e.seat == i else false) b.line
    (All-weaker (λ e. e.waits ≡ true → Contains (b.flags ++ i ∷ []) e.seat → ⊥) (λ e. (if e.waits then e.seat == i else false) ≡ false) one b.line well.unflagged)))
  where
    one : (e : Entry ℕ) → (e.waits ≡ true → Contains (b.flags ++ i ∷ []) e.seat → ⊥) → (if e.waits then e.seat == i else false) ≡ false
    one e not_there = by e.waits refl
      where
        by : (w : Bool) → e.waits ≡ w → (if w then e.seat == i else false) ≡ false
        by true waits = ne_eqb e.seat i (λ same. not_there waits (subst (λ j. Contains (b.flags ++ i ∷ []) j) (sym same) (Contains-push b.flags i)))
        by false stays = refl

pub nil-of : {A : Type 0} (xs : List A) → is_nil xs ≡ true → xs ≡ []
nil-of [] is = refl
nil-of (x ∷ xs) is = let clash : true ≡ false = sym is in absurd (cc)

-- where a base with a piece in its order is well formed, the piece may follow
pub follows-only : (k : Kind) (b : Based) (piece : Piece) → IsWellFormed k (with_piece b piece) → in_order b piece ≡ true → may_follow k b piece ≡ true
follows-only k b (Flagged i) well order = both _ _ order (flag-only k b i well)
follows-only k b (Cut c) well order =
    let same : b ≡ record b { flags = [] } = λ i. record b { flags = nil-of b.flags order i } in
    both _ _ order (subst (λ x. cut_fits x c ≡ true) (sym same) (cut-only k b.gone b.last b.line b.pairs b.cut c (subst (λ x. IsWellFormed k (with_piece x (Cut c))) same well)))
follows-only k b (Met p) well order =
    let parts = and_parts (is_nil b.cut) (is_nil b.flags) order in
    let same : b ≡ record b { cut = []; flags = [] } = λ i. record b { cut = nil-of b.cut parts.0 i; flags = nil-of b.flags parts.1 i } in
    both _ _ order (subst (λ x. pair_fits x p ≡ true) (sym same) (pair-only k b.gone b.last b.line b.pairs p (subst (λ x. IsWellFormed k (with_piece x (Met p))) same well)))
follows-only k b (Stands e) well order =
    let first = and_parts (is_nil b.pairs) (is_nil b.cut && is_nil b.flags) order in
    let parts = and_parts (is_nil b.cut) (is_nil b.flags) first.1 in
    let same : b ≡ line_base b.gone b.last b.line = λ i. record b { pairs = nil-of b.pairs first.0 i; cut = nil-of b.cut parts.0 i; flags = nil-of b.flags parts.1 i } in
    both _ _ order (subst (λ x. entry_fits k x e ≡ true) (sym same) (line-only k b.gone b.last b.line e (subst (λ x. IsWellFormed k (with_piece x (Stands e))) same well)))

-- ---- and without it

module _ (k : Kind) where
  few-front : (line : List (Entry ℕ)) (e : Entry ℕ) → MatchOption k.bound ⊤ (λ most. kept_count (line ++ e ∷ []) ≤ most) → MatchOption k.bound ⊤ (λ most. kept_count line ≤ most)
  few-front line e few = by_bound k.bound few
    where
      fewer : kept_count line ≤ kept_count (line ++ e ∷ [])
      fewer = ⊎_elim
          (λ (waits : e.waits ≡ true). omega (arith, kept-queued line e waits))
          (λ (stays : e.waits ≡ false). omega (arith, kept-kept line e stays))
          (cases_Bool e.waits)

      by_bound : (bound : Option ℕ) → MatchOption bound ⊤ (λ most. kept_count (line ++ e ∷ []) ≤ most) → MatchOption bound ⊤ (λ most. kept_count line ≤ most)
      by_bound None few = tt
      by_bound (Some most) few = omega (arith, few, fewer)

  line-front : (gone last : ℕ) (line : List (Entry ℕ)) (e : Entry ℕ) → IsWellFormed k (line_base gone last (line ++ e ∷ [])) → IsWellFormed k (line_base gone last line)
  line-front gone last line e well =
      let b = line_base gone last line in
      record {
        one_side = pairs-front (λ f g. is_some f.item ≡ is_some g.item) line e well.one_side;
        line_rises = pairs-front (λ f g. f.ticket < g.ticket) line e well.line_rises;
        kept = all-front (MayStand k) line e well.kept;
        few = few-front line e well.few;
        pairs_rise = well.pairs_rise;
        cut_rises = well.cut_rises;
        flags_rise = well.flags_rise;
        apart = pairs-front (λ t u. t ≢ u) (named_in b) e.ticket (subst (AllPairs (λ t u. t ≢ u)) (line-names gone last line e) well.apart);
        named = all-front (λ t. (1 ≤ t) × (t ≤ last)) (named_in b) e.ticket (subst (All (λ t. (1 ≤ t) × (t ≤ last))) (line-names gone last line e) well.named);
        seats = ⊎_elim
            (λ (waits : e.waits ≡ true). pairs-front (λ (g f : Held). g.seat ≢ f.seat) (held_in b) (waiting_held e) (subst (AllPairs (λ (g f : Held). g.seat ≢ f.seat)) (line-held gone last line e true waits) well.seats))
            (λ (stays : e.waits ≡ false). subst (AllPairs (λ (g f : Held). g.seat ≢ f.seat)) (line-held gone last line e false stays ∙ append-nil (held_in b)) well.seats)
            (cases_Bool e.waits);
        unflagged = all-front (λ f. f.waits ≡ true → Contains [] f.seat → ⊥) line e well.unflagged;
      }

  pair-front : (gone last : ℕ) (line : List (Entry ℕ)) (pairs : List OpenPair) (p : OpenPair) → IsWellFormed k (with_piece (pairs_base gone last line pairs p) (Met p)) → IsWellFormed k (pairs_base gone last line pairs p)
  pair-front gone last line pairs p well =
      let b = pairs_base gone last line pairs p in
      let all : AreNames last ((named_in b ++ p.ticket ∷ []) ++ p.partner ∷ []) = subst (AreNames last) (pair-names gone last line pairs p ∙ sym (append_assoc (named_in b) (p.ticket ∷ []) (p.partner ∷ []))) (well.apart, well.named) in
      record {
        one_side = well.one_side;
        line_rises = well.line_rises;
        kept = well.kept;
        few = well.few;
        pairs_rise = pairs-front (λ q r. q.ticket < r.ticket) pairs p well.pairs_rise;
        cut_rises = well.cut_rises;
        flags_rise = well.flags_rise;
        apart = pairs-front (λ t u. t ≢ u) (named_in b) p.ticket (pairs-front (λ t u. t ≢ u) (named_in b ++ p.ticket ∷ []) p.partner all.0);
        named = all-front (λ t. (1 ≤ t) × (t ≤ last)) (named_in b) p.ticket (all-front (λ t. (1 ≤ t) × (t ≤ last)) (named_in b ++ p.ticket ∷ []) p.partner all.1);
        seats = pairs-front (λ (g f : Held). g.seat ≢ f.seat) (held_in b) (paired_held p) (subst (AllPairs (λ (g f : Held). g.seat ≢ f.seat)) (pair-held gone last line pairs p) well.seats);
        unflagged = well.unflagged;
      }

  cut-front : (b : Based) (c : OpenCut) → IsWellFormed k (with_piece b (Cut c)) → IsWellFormed k b
  cut-front b c well = record {
    one_side = well.one_side;
    line_rises = well.line_rises;
    kept = well.kept;
    few = well.few;
    pairs_rise = well.pairs_rise;
    cut_rises = pairs-front (λ d f. d.ticket < f.ticket) b.cut c well.cut_rises;
    flags_rise = well.flags_rise;
    apart = pairs-front (λ t u. t ≢ u) (named_in b) c.ticket (subst (AllPairs (λ t u. t ≢ u)) (cut-names b c) well.apart);
    named = all-front (λ t. (1 ≤ t) × (t ≤ b.last)) (named_in b) c.ticket (subst (All (λ t. (1 ≤ t) × (t ≤ b.last))) (cut-names b c) well.named);
    seats = pairs-front (λ (g f : Held). g.seat ≢ f.seat) (held_in b) (cut_held c) (subst (AllPairs (λ (g f : Held). g.seat ≢ f.seat)) (cut-held b c) well.seats);
    unflagged = well.unflagged;
  }

  flag-front : (b : Based) (i : ℕ) → IsWellFormed k (with_piece b (Flagged i)) → IsWellFormed k b
  flag-front b i well = record {
    one_side = well.one_side;
    line_rises = well.line_rises;
    kept = well.kept;
    few = well.few;
    pairs_rise = well.pairs_rise;
    cut_rises = well.cut_rises;
    flags_rise = pairs-front (λ i j. i < j) b.flags i well.flags_rise;
    apart = well.apart;
    named = well.named;
    seats = well.seats;
    unflagged = All-weaker (λ e. e.waits ≡ true → Contains (b.flags ++ i ∷ []) e.seat → ⊥) (λ e. e.waits ≡ true → Contains b.flags e.seat → ⊥) (λ e none waits flagged. none waits (Contains-append_left b.flags (i ∷ []) e.seat flagged)) b.line well.unflagged;
  }

  -- a base is well formed where it is so with a piece in its order
  pub front-well : (b : Based) (piece : Piece) → in_order b piece ≡ true → IsWellFormed k (with_piece b piece) → IsWellFormed k b
  front-well b (Flagged i) order well = flag-front b i well
  front-well b (Cut c) order well = cut-front b c well
  front-well b (Met p) order well =
      let parts = and_parts (is_nil b.cut) (is_nil b.flags) order in
      let same : b ≡ record b { cut = []; flags = [] } = λ i. record b { cut = nil-of b.cut parts.0 i; flags = nil-of b.flags parts.1 i } in
      subst (IsWellFormed k) (sym same) (pair-front b.gone b.last b.line b.pairs p (subst (λ x. IsWellFormed k (with_piece x (Met p))) same well))
  front-well b (Stands e) order well =
      let first = and_parts (is_nil b.pairs) (is_nil b.cut && is_nil b.flags) order in
      let parts = and_parts (is_nil b.cut) (is_nil b.flags) first.1 in
      let same : b ≡ line_base b.gone b.last b.line = λ i. record b { pairs = nil-of b.pairs first.0 i; cut = nil-of b.cut parts.0 i; flags = nil-of b.flags parts.1 i } in
      subst (IsWellFormed k) (sym same) (line-front b.gone b.last b.line e (subst (λ x. IsWellFormed k (with_piece x (Stands e))) same well))

-- a base of nothing but its numbers is well formed
pub bare-well : (k : Kind) (gone last : ℕ) → IsWellFormed k (bare_base gone last)
bare-well k gone last = record {
  one_side = pairs-none (λ e f. is_some e.item ≡ is_some f.item);
  line_rises = pairs-none (λ e f. e.ticket < f.ticket);
  kept = All-nil (MayStand k);
  few = by_bound k.bound;
  pairs_rise = pairs-none (λ p q. p.ticket < q.ticket);
  cut_rises = pairs-none (λ c d. c.ticket < d.ticket);
  flags_rise = pairs-none (λ i j. i < j);
  apart = pairs-none (λ t u. t ≢ u);
  named = All-nil (λ t. (1 ≤ t) × (t ≤ last));
  seats = pairs-none (λ (h g : Held). h.seat ≢ g.seat);
  unflagged = All-nil (λ e. e.waits ≡ true → Contains [] e.seat → ⊥);
}
  where
    by_bound : (bound : Option ℕ) → MatchOption bound ⊤ (λ most. 0 ≤ most)
    by_bound None = tt
    by_bound (Some most) = omega arith
