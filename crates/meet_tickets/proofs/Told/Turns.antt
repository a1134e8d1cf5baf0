-- The turns that the records take: a ticket asks, one leaves the line, one ends. What is said goes on to fit the place.
use Rattle.std.proofs.Common.{◌≡◌, ◌≢◌, ℕ, ◌+◌, ◌<◌, ◌≤◌, ◌==◌, refl, sym, ap, ◌∙◌, subst, ⊎_elim, Bool, true, false, cond, Some, is_some, List, [], ◌∷◌, ◌++◌, Contains, arith}
use Rattle.std.proofs.lemmas.Bool.{cases_lt, cases_eq, ne_eqb, eq-eqb}
use Rattle.std.proofs.lemmas.List.Elements.{Contains-push_cases}
use Rattle.meet_tickets.specs.declared.lines.Entry.{Entry}
use Rattle.meet_tickets.specs.declared.lines.Hold.{Hold}
use Rattle.meet_tickets.specs.declared.lines.Hold.TheVariants.{Free, Waiting}
use Rattle.meet_tickets.specs.ByLists.{without}
use Rattle.meet_tickets.specs.BySeat.{put_at, open_ticket}
use Rattle.meet_tickets.proofs.Lists.Members.{IsDistinct}
use Rattle.meet_tickets.proofs.Tellings.Whereabouts.{put_at_there, IsLess-without}
use Rattle.meet_tickets.proofs.Told.Said.{Said}
use Rattle.meet_tickets.proofs.Lists.Changed.{one, times, count-push, count_apart, count_once, count_without}
use Rattle.meet_tickets.proofs.Told.Fated.{Fated, Joining, deed_of, waits_of, blank, only_asked, weight, entry_weight, hold_weight, tickets_weigh, line_weighs, seats_weigh, IsLined, IsHeld, weight_lined, blank_unlined, blank_unmet, blank_uncut, lined_unmet, lined_uncut, held_apart, held_other, held_put, seats_put}

module _ {f : ℕ → Said} {tickets : List ℕ} {last : ℕ} {line : List (Entry ℕ)} {holds : ℕ → Hold ℕ} {bound : ℕ} (fated : Fated f tickets last line holds bound) where
  -- a seat that holds something is below the bound
  pub below_bound : (i : ℕ) → (holds i ≡ Free → ⊥) → i < bound
  below_bound i some = ⊎_elim (λ below. below) (λ over. absurd (some (fated.free i over))) (cases_lt i bound)

  -- an unsaid ticket isn't in the line
  line_apart : (t : ℕ) → f t ≡ blank → (e : Entry ℕ) → Contains line e → e.ticket ≢ t
  line_apart t is e m same = blank_unlined e.waits (f e.ticket) (ap f same ∙ is) (fated.lined e m)

  module _ (f' : ℕ → Said) (t : ℕ) (others : (x : ℕ) → x ≢ t → f' x ≡ f x) where
    -- of the entries that stay no more is said
    lined_same : (line' : List (Entry ℕ)) → ((e : Entry ℕ) → Contains line' e → Contains line e × (e.ticket ≢ t)) → (e : Entry ℕ) → Contains line' e → IsLined e.waits (f' e.ticket)
    lined_same line' less e m = subst (IsLined e.waits) (sym (others e.ticket (less e m).1)) (fated.lined e (less e m).0)

    module _ (y : Said) (asking : is_some y.asked ≡ true) (newest : ℕ) (later : last ≤ newest) (under : t ≤ newest) (unsaid : f t ≡ blank) (says : f' t ≡ y) where
      -- the tickets of a new request
      asked_once : (x : ℕ) → times x (tickets ++ t ∷ []) ≡ one (is_some (f' x).asked)
      asked_once x = ⊎_elim at away (cases_eq x t)
        where
          push : times x (tickets ++ t ∷ []) ≡ times x tickets + one (t == x)
          push = count-push (λ y. y == x) tickets t

          at : x ≡ t → times x (tickets ++ t ∷ []) ≡ one (is_some (f' x).asked)
          at e =
              let here : ◌≡◌ {A = ℕ} (one (t == x)) 1 = ap one (eq-eqb t x (sym e)) in
              let before : times x tickets ≡ 0 = fated.once x ∙ ap (λ y. one (is_some y.asked)) (ap f e ∙ unsaid) in
              let after : ◌≡◌ {A = ℕ} (one (is_some (f' x).asked)) 1 = ap (λ z. one (is_some z.asked)) (ap f' e ∙ says) ∙ ap one asking in
              omega (arith, push, here, before, after)

          away : x ≢ t → times x (tickets ++ t ∷ []) ≡ one (is_some (f' x).asked)
          away apart =
              let here : ◌≡◌ {A = ℕ} (one (t == x)) 0 = ap one (ne_eqb t x (λ e. apart (sym e))) in
              let before = fated.once x in
              let after : ◌≡◌ {A = ℕ} (one (is_some (f' x).asked)) (one (is_some (f x).asked)) = ap (λ y. one (is_some y.asked)) (others x apart) in
              omega (arith, push, here, before, after)

      -- what the tickets weigh then
      asked_weigh : (w k s : Bool) → tickets_weigh w k s f' (tickets ++ t ∷ []) ≡ tickets_weigh w k s f tickets + one (weight w k s y)
      asked_weigh w k s =
          let push = count-push (λ x. weight w k s (f' x)) tickets t in
          let none : times t tickets ≡ 0 = fated.once t ∙ ap (λ y. one (is_some y.asked)) unsaid in
          let same : tickets_weigh w k s f' tickets ≡ tickets_weigh w k s f tickets = count_apart (λ x. weight w k s (f' x)) (λ x. weight w k s (f x)) t (λ x n. ap (weight w k s) (others x n)) tickets none in
          let here : ◌≡◌ {A = ℕ} (one (weight w k s (f' t))) (one (weight w k s y)) = ap (λ z. one (weight w k s z)) says in
          omega (arith, push, same, here)

      -- of later tickets nothing is said
      asked_low : (x : ℕ) → newest < x → f' x ≡ blank
      asked_low x over = others x (λ e. omega arith) ∙ fated.low x (omega arith)

      -- of what the seats hold no more is said
      asked_held : (hold : Hold ℕ) → IsHeld f hold → IsHeld f' hold
      asked_held hold h = held_apart f f' t others hold (blank_unmet (f t) unsaid) (blank_uncut (f t) unsaid) h

      -- a request that doesn't join the line
      pub asks : ((w k s : Bool) → weight w k s y ≡ false) → Fated f' (tickets ++ t ∷ []) newest line holds bound
      asks light = record {
        low = asked_low;
        once = asked_once;
        lined = lined_same line (λ e m. (m, line_apart t unsaid e m));
        held = λ i. asked_held (holds i) (fated.held i);
        free = fated.free;
        weighs = λ w k s. (
            let more = asked_weigh w k s in
            let none : ◌≡◌ {A = ℕ} (one (weight w k s y)) 0 = ap one (light w k s) in
            let before = fated.weighs w k s in
            omega (arith, more, none, before)
            );
      }

      -- a request that doesn't join the line, and whose seat holds something
      pub sits : (i : ℕ) (x : Hold ℕ) → i < bound → holds i ≡ Free → IsHeld f' x → ((w k s : Bool) → weight w k s y ≡ hold_weight s x) → Fated f' (tickets ++ t ∷ []) newest line (put_at holds i x) bound
      sits i x below was here weighs = record {
        low = asked_low;
        once = asked_once;
        lined = lined_same line (λ e m. (m, line_apart t unsaid e m));
        held = held_put f' holds i x here (λ z n. asked_held (holds z) (fated.held z));
        free = λ z over. put_at_there holds i x z (λ same. omega arith) ∙ fated.free z over;
        weighs = λ w k s. (
            let more = asked_weigh w k s in
            let here : ◌≡◌ {A = ℕ} (one (weight w k s y)) (one (hold_weight s x)) = ap one (weighs w k s) in
            let put = seats_put s holds bound i x below in
            let none : ◌≡◌ {A = ℕ} (one (hold_weight s (holds i))) 0 = ap (λ z. one (hold_weight s z)) was in
            let before = fated.weighs w k s in
            omega (arith, more, here, put, none, before)
            );
      }

      module _ (j : Joining) (e : Entry ℕ) (is : y ≡ only_asked (deed_of j)) (ticket : e.ticket ≡ t) (waits : waits_of j ≡ e.waits) where
        -- the entry of a request that joins the line
        joined_lined : (x : Entry ℕ) → Contains (line ++ e ∷ []) x → IsLined x.waits (f' x.ticket)
        joined_lined x m = ⊎_elim (λ old. lined_same line (λ y n. (n, line_apart t unsaid y n)) x old)
            (λ new. subst (λ y. IsLined y.waits (f' y.ticket)) new (j, waits, ap f' ticket ∙ says ∙ is)) (Contains-push_cases line e x m)

        -- a request that joins the line, whatever the seats hold then
        joins : (holds' : ℕ → Hold ℕ) → ((i : ℕ) → IsHeld f' (holds' i)) → ((i : ℕ) → bound ≤ i → holds' i ≡ Free) →
            ((s : Bool) → seats_weigh s holds' bound ≡ seats_weigh s holds bound) → Fated f' (tickets ++ t ∷ []) newest (line ++ e ∷ []) holds' bound
        joins holds' held free same = record {
          low = asked_low;
          once = asked_once;
          lined = joined_lined;
          held = held;
          free = free;
          weighs = λ w k s. (
              let more = asked_weigh w k s in
              let longer : line_weighs w k (line ++ e ∷ []) ≡ line_weighs w k line + one (entry_weight w k e) = count-push (entry_weight w k) line e in
              let here : ◌≡◌ {A = ℕ} (one (weight w k s y)) (one (entry_weight w k e)) = ap one (ap (weight w k s) is ∙ weight_lined w k s j ∙ ap (λ b. cond b w k) waits) in
              let before = fated.weighs w k s in
              let seats = same s in
              omega (arith, more, longer, here, before, seats)
              );
        }

        -- its giver goes on
        pub keeps : Fated f' (tickets ++ t ∷ []) newest (line ++ e ∷ []) holds bound
        keeps = joins holds (λ i. asked_held (holds i) (fated.held i)) fated.free (λ s. refl)

        -- its seat waits
        pub waits_there : (i : ℕ) → i < bound → holds i ≡ Free → Fated f' (tickets ++ t ∷ []) newest (line ++ e ∷ []) (put_at holds i (Waiting t)) bound
        waits_there i below was = joins (put_at holds i (Waiting t)) (held_put f' holds i (Waiting t) tt (λ x n. asked_held (holds x) (fated.held x)))
            (λ x over. put_at_there holds i (Waiting t) x (λ same. omega arith) ∙ fated.free x over)
            (λ s. (
            let put = seats_put s holds bound i (Waiting t) below in
            let none : ◌≡◌ {A = ℕ} (one (hold_weight s (holds i))) 0 = ap (λ y. one (hold_weight s y)) was in
            omega (arith, put, none)
            ))

    module _ (asked : is_some (f t).asked ≡ true) (still : is_some (f' t).asked ≡ true) where
      -- more is said of a ticket that asked
      turned_once : (x : ℕ) → times x tickets ≡ one (is_some (f' x).asked)
      turned_once x = ⊎_elim (λ e. fated.once x ∙ ap one (ap (λ y. is_some (f y).asked) e ∙ asked ∙ sym still ∙ sym (ap (λ y. is_some (f' y).asked) e)))
          (λ n. fated.once x ∙ ap (λ y. one (is_some y.asked)) (sym (others x n))) (cases_eq x t)

      -- what the tickets weigh then
      turned_weigh : (w k s : Bool) → tickets_weigh w k s f' tickets + one (weight w k s (f t)) ≡ tickets_weigh w k s f tickets + one (weight w k s (f' t))
      turned_weigh w k s = count_once (λ x. weight w k s (f' x)) (λ x. weight w k s (f x)) t (λ x n. ap (weight w k s) (others x n)) tickets (fated.once t ∙ ap one asked)

      -- it isn't above the last
      turned_low : (x : ℕ) → last < x → f' x ≡ blank
      turned_low x over = others x (λ e. (let none : f t ≡ blank = fated.low t (subst (λ y. last < y) e over) in let b : is_some (f t).asked ≡ false = ap (λ y. is_some y.asked) none in cc)) ∙ fated.low x over

    -- a ticket leaves the line, whatever the seats hold then
    leaves : (e : Entry ℕ) → Contains line e → e.ticket ≡ t → IsDistinct line → is_some (f' t).asked ≡ true → (holds' : ℕ → Hold ℕ) → ((i : ℕ) → IsHeld f' (holds' i)) →
        ((i : ℕ) → bound ≤ i → holds' i ≡ Free) →
        ((w k s : Bool) → seats_weigh s holds' bound ≡ seats_weigh s holds bound + one (weight w k s (f' t))) → Fated f' tickets last (without t line) holds' bound
    leaves e m ticket distinct still holds' held free seats = record {
      low = turned_low asked still;
      once = turned_once asked still;
      lined = lined_same (without t line) (IsLess-without t line);
      held = held;
      free = free;
      weighs = λ w k s. (
          let turned = turned_weigh asked still w k s in
          let was : ◌≡◌ {A = ℕ} (one (weight w k s (f t))) (one (entry_weight w k e)) = ap one (ap (weight w k s) is.2 ∙ weight_lined w k s is.0 ∙ ap (λ b. cond b w k) is.1) in
          let shorter : line_weighs w k (without t line) + one (entry_weight w k e) ≡ line_weighs w k line = subst (λ y. line_weighs w k (without y line) + one (entry_weight w k e) ≡ line_weighs w k line) ticket (count_without (entry_weight w k) line e distinct m) in
          let before = fated.weighs w k s in
          let more = seats w k s in
          omega (arith, turned, was, shorter, before, more)
          );
    }
      where
        is : IsLined e.waits (f t)
        is = subst (λ y. IsLined e.waits (f y)) ticket (fated.lined e m)

        asked : is_some (f t).asked ≡ true
        asked = ap (λ y. is_some y.asked) is.2

    -- of the tickets that seats hold, none is in the line
    left_held : (b : Bool) → IsLined b (f t) → (hold : Hold ℕ) → IsHeld f hold → IsHeld f' hold
    left_held b is hold h = held_apart f f' t others hold (lined_unmet b (f t) is) (lined_uncut b (f t) is) h

    -- a ticket leaves the line, and its seat has waited: it holds something else
    pub leaves_seat : (e : Entry ℕ) → Contains line e → e.ticket ≡ t → IsDistinct line → is_some (f' t).asked ≡ true → (i u : ℕ) → holds i ≡ Waiting u → (x : Hold ℕ) → IsHeld f' x →
        ((w k s : Bool) → weight w k s (f' t) ≡ hold_weight s x) → Fated f' tickets last (without t line) (put_at holds i x) bound
    leaves_seat e m ticket distinct still i u was x here weighs =
        let is : IsLined e.waits (f t) = subst (λ y. IsLined e.waits (f y)) ticket (fated.lined e m) in
        let below : i < bound = below_bound i (λ none. (let apart : Waiting u ≡ Free = sym was ∙ none in cc)) in
        leaves e m ticket distinct still (put_at holds i x) (held_put f' holds i x here (λ y n. left_held e.waits is (holds y) (fated.held y)))
        (λ y over. put_at_there holds i x y (λ same. omega arith) ∙ fated.free y over)
        (λ w k s. (
        let put = seats_put s holds bound i x below in
        let none : ◌≡◌ {A = ℕ} (one (hold_weight s (holds i))) 0 = ap (λ y. one (hold_weight s y)) was in
        let now : ◌≡◌ {A = ℕ} (one (weight w k s (f' t))) (one (hold_weight s x)) = ap one (weighs w k s) in
        omega (arith, put, none, now)
        ))

    -- a ticket leaves the line, and its seat has gone on
    pub leaves_kept : (e : Entry ℕ) → Contains line e → e.ticket ≡ t → IsDistinct line → is_some (f' t).asked ≡ true → ((w k s : Bool) → weight w k s (f' t) ≡ false) → Fated f' tickets last (without t line) holds bound
    leaves_kept e m ticket distinct still light =
        let is : IsLined e.waits (f t) = subst (λ y. IsLined e.waits (f y)) ticket (fated.lined e m) in
        leaves e m ticket distinct still holds (λ i. left_held e.waits is (holds i) (fated.held i)) fated.free
        (λ w k s. (let now : ◌≡◌ {A = ℕ} (one (weight w k s (f' t))) 0 = ap one (light w k s) in omega (arith, now)))

    -- an open ticket that isn't in the line ends
    pub ends : (i : ℕ) → (holds i ≡ Free → ⊥) → ((j : ℕ) → j ≢ i → open_ticket (holds j) ≡ Some t → ⊥) → ((b : Bool) → IsLined b (f t) → ⊥) →
        is_some (f t).asked ≡ true → is_some (f' t).asked ≡ true →
        ((w k s : Bool) → weight w k s (f t) ≡ hold_weight s (holds i)) → ((w k s : Bool) → weight w k s (f' t) ≡ false) →
        Fated f' tickets last line (put_at holds i Free) bound
    ends i some elsewhere unlined asked still was light = record {
      low = turned_low asked still;
      once = turned_once asked still;
      lined = lined_same line (λ e m. (m, λ same. unlined e.waits (subst (λ y. IsLined e.waits (f y)) same (fated.lined e m))));
      held = held_put f' holds i Free tt (λ j n. held_other f f' t others (holds j) (elsewhere j n) (fated.held j));
      free = λ j over. put_at_there holds i Free j (λ same. (let below = below_bound i some in omega arith)) ∙ fated.free j over;
      weighs = λ w k s. (
          let turned = turned_weigh asked still w k s in
          let before = fated.weighs w k s in
          let put = seats_put s holds bound i Free (below_bound i some) in
          let left : ◌≡◌ {A = ℕ} (one (weight w k s (f t))) (one (hold_weight s (holds i))) = ap one (was w k s) in
          let right : ◌≡◌ {A = ℕ} (one (weight w k s (f' t))) 0 = ap one (light w k s) in
          omega (arith, turned, before, put, left, right)
          );
    }
