-- What a base shows of its tickets' fates.
use Rattle.std.proofs.Common.{◌≡◌, ℕ, ◌==◌, ◌&&◌, refl, ap, ◌∙◌, subst, Bool, true, false, if◌then◌else◌, Option, Some, None, is_none, [], ◌++◌, append-nil, map, find, Contains}
use Rattle.std.specs.Prelude.{nat_lt, nat_le}
use Rattle.std.proofs.lemmas.List.Elements.{Contains-append_left, Contains-append_right}
use Rattle.meet_tickets.specs.declared.lines.Entry.{Entry}
use Rattle.meet_tickets.specs.declared.places.Side.{Side}
use Rattle.meet_tickets.specs.declared.places.Side.TheVariants.{Giver, Taker}
use Rattle.meet_tickets.specs.declared.places.Kind.{Kind}
use Rattle.meet_tickets.specs.declared.bases.OpenPair.{OpenPair}
use Rattle.meet_tickets.specs.declared.bases.OpenCut.{OpenCut}
use Rattle.meet_tickets.specs.declared.fates.Fate.TheVariants.{Paired, Past}
use Rattle.meet_tickets.specs.Bases.{Based, held_in, hold_met, IsWellFormed}
use Rattle.meet_tickets.specs.Fates.{fate, opening, entered_in, is_past, fate_on, ShowsFates}
use Rattle.meet_tickets.proofs.Lists.Lookups.{missing_keyed, Contains-map}
use Rattle.meet_tickets.proofs.Told.Said.{said, fate_of, fate_is}
use Rattle.meet_tickets.proofs.Told.Fated.{Joining, Gives, Keeps, Takes, waits_of, only_met, IsMet, IsHeld}
use Rattle.meet_tickets.proofs.Told.StandingsOn.{bound_of_held, bound_held_is, fits_base, line_fate, cut_has_fate}
use Rattle.meet_tickets.proofs.OnBases.Unique.{held_there, pair_there}

-- the fate of what is said of a ticket that was met
met_fate : (j : Joining) (u : ℕ) → waits_of j ≡ true → fate_of (only_met j u) ≡ Paired u
met_fate (Gives m) u e = refl
met_fate (Keeps m) u e = absurd (cc)
met_fate Takes u e = refl

module _ (k : Kind) (b : Based) (w : IsWellFormed k b) where
  -- a pair's ticket is paired with its partner
  pair_fate : (p : OpenPair) → Contains b.pairs p → fate (opening b) p.ticket ≡ Paired p.partner
  pair_fate p m =
      let told = (fits_base k b w (bound_of_held (held_in b)) (bound_held_is (held_in b))).held p.seat in
      let is = met_of p.side (subst (IsHeld (said (opening b))) (held_there k b w _ (pair_there k b w p m)) told) in
      fate_is (opening b) p.ticket ∙ ap fate_of is.2 ∙ met_fate is.0 p.partner is.1
    where
      met_of : (side : Side) → IsHeld (said (opening b)) (hold_met side p.ticket p.partner p.mark) → IsMet p.partner (said (opening b) p.ticket)
      met_of Giver held = held
      met_of Taker held = held

  -- a ticket of an entry isn't past
  entered : (t : ℕ) → Contains (entered_in b) t → is_past b t ≡ false
  entered t m = by_found (find (λ u. u == t) (entered_in b)) refl
    where
      tests : (x y : Bool) → (x && y && false) ≡ false
      tests true true = refl
      tests true false = refl
      tests false true = refl
      tests false false = refl

      by_found : (o : Option ℕ) → find (λ u. u == t) (entered_in b) ≡ o → is_past b t ≡ false
      by_found None e = absurd (missing_keyed (λ u. u) (entered_in b) t e t m refl)
      by_found (Some u) e = ap (λ o. nat_lt 0 t && nat_le t b.last && is_none o) e ∙ tests (nat_lt 0 t) (nat_le t b.last)

  fate_first : (t : ℕ) → Contains (entered_in b) t → fate_on b [] t ≡ fate (opening b) t
  fate_first t m = ap (λ x. if x then Past else fate (opening b ++ []) t) (entered t m) ∙ ap (λ rs. fate rs t) (append-nil (opening b))

  pub shows_fates : ShowsFates b
  shows_fates = record {
    line = λ e m. fate_first e.ticket (Contains-append_left (map (λ (x : Entry ℕ). x.ticket) b.line) _ e.ticket (Contains-map (λ (x : Entry ℕ). x.ticket) b.line e m)) ∙ line_fate k b w e m;
    pairs = λ p m. fate_first p.ticket (Contains-append_right (map (λ (x : Entry ℕ). x.ticket) b.line) _ p.ticket (Contains-append_left (map (λ (x : OpenPair). x.ticket) b.pairs) _ p.ticket (Contains-map (λ (x : OpenPair). x.ticket) b.pairs p m))) ∙ pair_fate p m;
    cut = λ c m. fate_first c.ticket (Contains-append_right (map (λ (x : Entry ℕ). x.ticket) b.line) _ c.ticket (Contains-append_right (map (λ (x : OpenPair). x.ticket) b.pairs) (map (λ (x : OpenCut). x.ticket) b.cut) c.ticket (Contains-map (λ (x : OpenCut). x.ticket) b.cut c m))) ∙ cut_has_fate k b w c m;
    past = λ t is records. ap (λ x. if x then Past else fate (opening b ++ records) t) is;
  }
