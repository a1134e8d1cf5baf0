-- What stays true of nodes that wait and buffered items that are merged, whoever comes and goes.
use Rattle.std.proofs.Common.{◌≡◌, ◌≢◌, ℕ, ◌+◌, ◌-◌, ◌<◌, ◌≤◌, ◌==◌, true, false, Option, Some, None, List, [], ◌∷◌, ◌++◌, length, find, sym, ap, ◌∙◌, subst, arith, All, AllPairs, Bor, option_map, option_to_list}
use Rattle.std.specs.Slice.{IsItemAt}
use Rattle.std.proofs.lemmas.Bool.{lt-ltb}
use Rattle.std.proofs.lemmas.List.{length-append, nil_from_length}
use Rattle.meet_tickets.specs.declared.lines.Entry.{Entry}
use Rattle.meet_tickets.specs.declared.places.End.TheVariants.{Front}
use Rattle.meet_tickets.specs.Meeting.{met}
use Rattle.meet_tickets.specs.BySeat.{unmet, without_first}
use Rattle.meet_tickets.proofs.Line.Sides.{AllPairs-unmet, AllPairs-without_first}
use Rattle.meet_line.specs.Seated.{Fits}
use Rattle.meet_line.specs.Merged.{merged, Rises, is_buffered_next, IsMerged, Comes}
use Rattle.meet_line.proofs.Removed.{without_first-none}
use Rattle.meet_line.proofs.Merging.{Below, all-from_merged, merged-push_waiting, merged-push_buffered, merged-length, rises-push}
use Rattle.meet_line.proofs.MergedOut.{found-waiting, found-buffered, met-waiting, met-buffered, next-waiting, next-buffered}
use Rattle.meet_line.proofs.Walking.{item-first}

-- the first of both, borrowed
module _ {T : Type 0} where
  item-shown : (e : Entry T) (line : List (Entry T)) (o : Option (Bor (Entry T))) → IsItemAt (e ∷ line) 0 o → option_map (λ b. b.now) o ≡ Some e
  item-shown e line None is =
      let clash : false ≡ true = is.0 ∙ lt-ltb 0 (length (e ∷ line)) (omega arith) in
      absurd (cc)
  item-shown e line (Some b) is = ap (λ f. Some f) is.1

  waiting-item : (xs ys : List (Entry T)) (o : Option (Bor (Entry T))) → Rises xs → Rises (merged xs ys) → is_buffered_next xs ys ≡ false → IsItemAt xs 0 o → IsItemAt (merged xs ys) 0 o
  waiting-item [] [] o seats rises next is = is
  waiting-item [] (y ∷ ys) o seats rises next is = absurd (cc)
  waiting-item (x ∷ xs) ys o seats rises next is =
      item-first (merged (x ∷ xs) ys) o x (merged xs ys) (next-waiting x xs ys seats rises next) (item-shown x xs o is)

  buffered-item : (xs ys : List (Entry T)) (o : Option (Bor (Entry T))) → Rises xs → is_buffered_next xs ys ≡ true → IsItemAt ys 0 o → IsItemAt (merged xs ys) 0 o
  buffered-item [] [] o seats next is = absurd (cc)
  buffered-item (x ∷ xs) [] o seats next is = absurd (cc)
  buffered-item xs (y ∷ ys) o seats next is =
      item-first (merged xs (y ∷ ys)) o y (merged xs ys) (next-buffered xs y ys seats next) (item-shown y ys o is)

module _ {T : Type 0} (xs ys : List (Entry T)) (room : ℕ) where
  -- an entry has come
  pub record HasCome (xs' ys' : List (Entry T)) (room' : ℕ) (g : Entry T) : Type 0 where
    pub kept : IsMerged xs' ys' room'
    pub line : merged xs' ys' ≡ merged xs ys ++ g ∷ []
    pub room_is : (room' - length xs') + 1 ≡ room - length xs

  -- what left is this, and these stay
  pub record HasLeft (xs' ys' : List (Entry T)) (room' : ℕ) (o wanted : Option (Entry T)) (left : List (Entry T)) : Type 0 where
    pub kept : IsMerged xs' ys' room'
    pub taken : o ≡ wanted
    pub line : merged xs' ys' ≡ left
    pub room_is : room' - length xs' ≡ (room - length xs) + length (option_to_list o)

module _ {T : Type 0} (xs ys : List (Entry T)) (room : ℕ) (m : IsMerged xs ys room) where
  pub waiting-come : (xs' : List (Entry T)) (g : Entry T) → All (λ e. e.ticket < g.ticket) (merged xs ys) → 0 < room - length xs → xs' ≡ xs ++ g ∷ [] → HasCome xs ys room xs' ys room g
  waiting-come xs' g above some is =
      let P : Entry T → Type 0 = λ e. e.ticket < g.ticket in
      let parts = all-from_merged P xs ys above in
      let line : merged xs' ys ≡ merged xs ys ++ g ∷ [] = ap (λ es. merged es ys) is ∙ merged-push_waiting xs ys g parts.0 parts.1 in
      let longer : length xs' ≡ length xs + 1 = omega (arith, ap length is, length-append xs (g ∷ [])) in
      record {
        kept = record {
          seats = subst (AllPairs Below) (sym is) (rises-push xs g m.seats parts.0);
          rises = subst (AllPairs Below) (sym line) (rises-push (merged xs ys) g m.rises above);
          within = omega (arith, longer, some);
        };
        line = line;
        room_is = omega (arith, longer, some);
      }

  pub buffered-come : (ys' : List (Entry T)) (room' : ℕ) (g : Entry T) → All (λ e. e.ticket < g.ticket) (merged xs ys) → 0 < room - length xs → ys' ≡ ys ++ g ∷ [] → room' + 1 ≡ room → HasCome xs ys room xs ys' room' g
  buffered-come ys' room' g above some is less =
      let P : Entry T → Type 0 = λ e. e.ticket < g.ticket in
      let parts = all-from_merged P xs ys above in
      let line : merged xs ys' ≡ merged xs ys ++ g ∷ [] = ap (merged xs) is ∙ merged-push_buffered xs ys g parts.0 in
      record {
        kept = record {
          seats = m.seats;
          rises = subst (AllPairs Below) (sym line) (rises-push (merged xs ys) g m.rises above);
          within = omega (arith, some, less);
        };
        line = line;
        room_is = omega (arith, some, less);
      }

  pub waiting-met : (xs' : List (Entry T)) (o : Option (Entry T)) → is_buffered_next xs ys ≡ false → o ≡ met Front xs → xs' ≡ unmet Front xs → length xs' + length (option_to_list o) ≡ length xs → HasLeft xs ys room xs' ys room o (met Front (merged xs ys)) (unmet Front (merged xs ys))
  waiting-met xs' o next is left fewer =
      let out = met-waiting xs ys m.seats m.rises next in
      let line : merged xs' ys ≡ unmet Front (merged xs ys) = ap (λ es. merged es ys) left ∙ sym out.1 in
      record {
        kept = record {
          seats = subst (AllPairs Below) (sym left) (AllPairs-unmet Below Front xs m.seats);
          rises = subst (AllPairs Below) (sym line) (AllPairs-unmet Below Front (merged xs ys) m.rises);
          within = omega (arith, fewer, m.within);
        };
        taken = is ∙ sym out.0;
        line = line;
        room_is = omega (arith, fewer, m.within);
      }

  pub buffered-met : (ys' : List (Entry T)) (room' : ℕ) (o : Option (Entry T)) → is_buffered_next xs ys ≡ true → o ≡ met Front ys → ys' ≡ unmet Front ys → room' ≡ room + length (option_to_list o) → HasLeft xs ys room xs ys' room' o (met Front (merged xs ys)) (unmet Front (merged xs ys))
  buffered-met ys' room' o next is left more =
      let out = met-buffered xs ys m.seats next in
      let line : merged xs ys' ≡ unmet Front (merged xs ys) = ap (merged xs) left ∙ sym out.1 in
      record {
        kept = record {
          seats = m.seats;
          rises = subst (AllPairs Below) (sym line) (AllPairs-unmet Below Front (merged xs ys) m.rises);
          within = omega (arith, more, m.within);
        };
        taken = is ∙ sym out.0;
        line = line;
        room_is = omega (arith, more, m.within);
      }

  pub waiting-left : (t : ℕ) (xs' : List (Entry T)) (e : Entry T) → Some e ≡ find (λ f. f.ticket == t) xs → xs' ≡ without_first (λ f. f.ticket == t) xs → length xs' + 1 ≡ length xs → HasLeft xs ys room xs' ys room (Some e) (find (λ f. f.ticket == t) (merged xs ys)) (without_first (λ f. f.ticket == t) (merged xs ys))
  waiting-left t xs' e is left fewer =
      let out = found-waiting t xs ys e m.rises (sym is) in
      let line : merged xs' ys ≡ without_first (λ f. f.ticket == t) (merged xs ys) = ap (λ es. merged es ys) left ∙ sym out.1 in
      record {
        kept = record {
          seats = subst (AllPairs Below) (sym left) (AllPairs-without_first Below t xs m.seats);
          rises = subst (AllPairs Below) (sym line) (AllPairs-without_first Below t (merged xs ys) m.rises);
          within = omega (arith, fewer, m.within);
        };
        taken = sym out.0;
        line = line;
        room_is = omega (arith, fewer, m.within);
      }

  pub buffered-left : (t : ℕ) (xs' ys' : List (Entry T)) (room' : ℕ) (o : Option (Entry T)) → None ≡ find (λ f. f.ticket == t) xs → xs' ≡ without_first (λ f. f.ticket == t) xs → o ≡ find (λ f. f.ticket == t) ys → ys' ≡ without_first (λ f. f.ticket == t) ys → room' ≡ room + length (option_to_list o) → HasLeft xs ys room xs' ys' room' o (find (λ f. f.ticket == t) (merged xs ys)) (without_first (λ f. f.ticket == t) (merged xs ys))
  buffered-left t xs' ys' room' o none stay is left more =
      let out = found-buffered t xs ys m.rises (sym none) in
      let same : xs' ≡ xs = stay ∙ without_first-none (λ f. f.ticket == t) xs (sym none) in
      let line : merged xs' ys' ≡ without_first (λ f. f.ticket == t) (merged xs ys) = ap (λ es. merged es ys') same ∙ ap (merged xs) left ∙ sym out.1 in
      let many = ap length same in
      record {
        kept = record {
          seats = subst (AllPairs Below) (sym same) m.seats;
          rises = subst (AllPairs Below) (sym line) (AllPairs-without_first Below t (merged xs ys) m.rises);
          within = omega (arith, many, more, m.within);
        };
        taken = is ∙ sym out.0;
        line = line;
        room_is = omega (arith, many, more, m.within);
      }

  -- one that may come may sit
  pub fits-seat : (width : ℕ) (g : Entry T) → Comes width (merged xs ys) g → g.waits ≡ true → Fits width xs g
  fits-seat width g comes waits =
      let fits = comes.seated waits in
      record { waits = waits; within = fits.within; free = (all-from_merged (λ f. f.waits ≡ true → f.seat ≢ g.seat) xs ys fits.free).0 }

  -- an empty line is of none
  pub both-empty : merged xs ys ≡ [] → (xs ≡ []) × (ys ≡ [])
  both-empty none =
      let all = ap length none in
      let many = merged-length xs ys in
      (nil_from_length xs (omega (arith, all, many)), nil_from_length ys (omega (arith, all, many)))

  -- more room
  pub roomier : (xs' ys' : List (Entry T)) (room' : ℕ) → xs' ≡ xs → ys' ≡ ys → room ≤ room' → IsMerged xs' ys' room'
  roomier xs' ys' room' same_xs same_ys more =
      let line : merged xs' ys' ≡ merged xs ys = ap (λ es. merged es ys') same_xs ∙ ap (merged xs) same_ys in
      record {
        seats = subst (AllPairs Below) (sym same_xs) m.seats;
        rises = subst (AllPairs Below) (sym line) m.rises;
        within = omega (arith, ap length same_xs, more, m.within);
      }

  -- no two are of one ticket
  pub merged-distinct : AllPairs (λ e f. e.ticket ≢ f.ticket) (merged xs ys)
  merged-distinct i j d before within same = omega (arith, m.rises i j d before within, same)

  -- the first, borrowed
  pub item-waiting : (o : Option (Bor (Entry T))) → is_buffered_next xs ys ≡ false → IsItemAt xs 0 o → IsItemAt (merged xs ys) 0 o
  item-waiting o next is = waiting-item xs ys o m.seats m.rises next is

  pub item-buffered : (o : Option (Bor (Entry T))) → is_buffered_next xs ys ≡ true → IsItemAt ys 0 o → IsItemAt (merged xs ys) 0 o
  item-buffered o next is = buffered-item xs ys o m.seats next is

-- nobody is there
pub merged-empty : {T : Type 0} (xs ys : List (Entry T)) (room : ℕ) → xs ≡ [] → ys ≡ [] → IsMerged xs ys room
merged-empty xs ys room no_xs no_ys =
    let none : merged xs ys ≡ [] = ap (λ es. merged es ys) no_xs ∙ no_ys in
    record {
      seats = subst (AllPairs Below) (sym no_xs) (λ i j d before within. absurd (omega (arith, within)));
      rises = subst (AllPairs Below) (sym none) (λ i j d before within. absurd (omega (arith, within)));
      within = omega (arith, ap length no_xs);
    }
