-- A request meets the ticket that is nearest to the end of its place's order.
use Rattle.std.proofs.Common.{◌≡◌, ◌≢◌, ◌⊎◌, ℕ, zero, suc, ◌-◌, ◌<◌, refl, sym, ap, ◌∙◌, subst, ⊎_elim, Bool, true, false, ◌&&◌, ◌||◌, if◌then◌else◌, Some, List, [], ◌∷◌, ◌++◌, length, get_or, Contains, AllPairs, arith}
use Rattle.std.proofs.lemmas.Bool.{cases_eq}
use Rattle.std.proofs.lemmas.Option.{get_or_from_slice_get}
use Rattle.meet_tickets.specs.declared.lines.Entry.{Entry}
use Rattle.meet_tickets.specs.declared.lines.Hold.{Hold}
use Rattle.meet_tickets.specs.declared.lines.Hold.TheVariants.{Free, Waiting as WaitingAt, Handed, Served, Cut as CutAt}
use Rattle.meet_tickets.specs.declared.fates.Fate.{Fate}
use Rattle.meet_tickets.specs.declared.fates.Fate.TheVariants.{Paired, Cut, Kept, Waiting, Past}
use Rattle.meet_tickets.specs.declared.places.End.{End}
use Rattle.meet_tickets.specs.declared.places.End.TheVariants.{Front, Back}
use Rattle.meet_tickets.specs.declared.places.Kind.{Kind}
use Rattle.meet_tickets.specs.declared.places.Side.TheVariants.{Giver, Taker}
use Rattle.meet_tickets.specs.declared.records.Record.{Record}
use Rattle.meet_tickets.specs.declared.records.Deed.{Deed}
use Rattle.meet_tickets.specs.declared.records.Deed.TheVariants.{GiveWaits, GiveMeets, GiveFails, GiveKept, TakeWaits, TakeMeets, TakeFails, EntryInterrupted, Done, Got, Withdrawn, Interrupt}
use Rattle.meet_tickets.specs.Bases.{Based, state_of_base, moment_of_base, IsWellFormed, IsLegalOn}
use Rattle.meet_tickets.specs.ByLists.{State, IsStep, run}
use Rattle.meet_tickets.specs.BySeat.{Moment, moment_of, open_ticket, is_settled}
use Rattle.meet_tickets.specs.Fates.{opening, fate, is_past, named_by, is_waiting, is_kept, is_unlearned, has_waited}
use Rattle.meet_tickets.specs.Meeting.{end_of, met}
use Rattle.meet_tickets.specs.Placed.{TellsPlace}
use Rattle.meet_tickets.proofs.OnBases.Based.{alike_base, orderly_base}
use Rattle.meet_tickets.proofs.OnBases.Folded.{legal-parts, orderly_at_end}
use Rattle.meet_tickets.proofs.Tellings.Histories.{alike_at_end}
use Rattle.meet_tickets.proofs.Told.Placed.{tells_place}
use Rattle.meet_tickets.proofs.Line.Sides.{partner-met}
use Rattle.meet_laws.specs.Laws.{IsNearer, IsInOrder}

-- the entry that is met is nearer than every other of a rising line
nearest : (end : End) (line : List (Entry ℕ)) (e f : Entry ℕ) → AllPairs (λ x y. x.ticket < y.ticket) line → met end line ≡ Some e → Contains line f → f.ticket ≢ e.ticket → IsNearer end e.ticket f.ticket
nearest Front line e f rises is m apart = go m.0 m.1 m.2
  where
    first : get_or line 0 f ≡ e
    first = get_or_from_slice_get line 0 e f is

    go : (n : ℕ) → n < length line → get_or line n f ≡ f → e.ticket < f.ticket
    go zero below same = absurd (apart (ap (λ (x : Entry ℕ). x.ticket) (sym same ∙ first)))
    go (suc n) below same = subst (λ (x : Entry ℕ). x.ticket < f.ticket) first (subst (λ (x : Entry ℕ). (get_or line 0 f).ticket < x.ticket) same (rises 0 (suc n) f (omega arith) below))
nearest Back line e f rises is m apart = ⊎_elim here there (cases_eq m.0 (length line - 1))
  where
    last : get_or line (length line - 1) f ≡ e
    last = get_or_from_slice_get line (length line - 1) e f is

    here : m.0 ≡ length line - 1 → f.ticket < e.ticket
    here at = absurd (apart (ap (λ (x : Entry ℕ). x.ticket) (sym m.2 ∙ ap (λ n. get_or line n f) at ∙ last)))

    there : m.0 ≢ length line - 1 → f.ticket < e.ticket
    there n =
        let below = m.1 in
        subst (λ (x : Entry ℕ). f.ticket < x.ticket) last (subst (λ (x : Entry ℕ). x.ticket < (get_or line (length line - 1) f).ticket) m.2 (rises m.0 (length line - 1) f (omega arith) (omega arith)))

-- what a request names is the ticket that it finds
pub names_found : (k : Kind) (s : State) (i t : ℕ) (d : Deed) (u : ℕ) → IsStep k s i t d → named_by d ≡ Some u → (e : Entry ℕ) × (met (end_of k.order) s.line ≡ Some e) × (e.ticket ≡ u)
names_found k s i t (GiveWaits m) u z n = absurd (cc)
names_found k s i t (GiveMeets m v) u z n = let same : v ≡ u = cc in (z.1.0, partner-met (end_of k.order) s.line Giver z.1.0 z.1.1, z.1.2 ∙ same)
names_found k s i t (GiveFails m) u z n = absurd (cc)
names_found k s i t (GiveKept m) u z n = absurd (cc)
names_found k s i t TakeWaits u z n = absurd (cc)
names_found k s i t (TakeMeets m v) u z n = let same : v ≡ u = cc in (z.1.0, partner-met (end_of k.order) s.line Taker z.1.0 z.1.1, z.1.2 ∙ same)
names_found k s i t TakeFails u z n = absurd (cc)
names_found k s i t (EntryInterrupted side) u z n = absurd (cc)
names_found k s i t Done u z n = absurd (cc)
names_found k s i t (Got m v) u z n = absurd (cc)
names_found k s i t (Withdrawn cause) u z n = absurd (cc)
names_found k s i t (Interrupt j) u z n = absurd (cc)

-- a fate in the line
abbrev pub Stands : Fate → Type 0
Stands x = (x ≡ Waiting) ⊎ (x ≡ Kept)

unpast : (p : Bool) (x : Fate) → Stands (if p then Past else x) → Stands x
unpast true x s = ⊎_elim (λ e. absurd (cc)) (λ e. absurd (cc)) s
unpast false x s = s

placed : (w : Bool) (x : Fate) → Stands x → (is_waiting x || is_kept x || (w && is_unlearned x)) ≡ true
placed w x s = ⊎_elim (λ e. ap (λ y. is_waiting y || is_kept y || (w && is_unlearned y)) e) (λ e. ap (λ y. is_waiting y || is_kept y || (w && is_unlearned y)) e) s

-- what a seat holds since it was met or cut isn't of a ticket in the line
unsettled : (history : List (Record Deed)) (m : Moment) (i t : ℕ) → TellsPlace history m.seats → open_ticket (m.seats.holds i) ≡ Some t → is_settled (m.seats.holds i) ≡ true → Stands (fate history t) → ⊥
unsettled history m i t tells opened settled s = by_hold (m.seats.holds i) refl opened settled
  where
    by_hold : (x : Hold ℕ) → m.seats.holds i ≡ x → open_ticket x ≡ Some t → is_settled x ≡ true → ⊥
    by_hold Free e o y = cc
    by_hold (WaitingAt u) e o y = cc
    by_hold (Handed u v mark) e o y =
        let same : u ≡ t = cc in
        let paired : fate history t ≡ Paired v = ap (fate history) (sym same) ∙ tells.handed i u v mark e in
        ⊎_elim (λ w. cc) (λ w. cc) s
    by_hold (Served u v mark) e o y =
        let same : u ≡ t = cc in
        let paired : fate history t ≡ Paired v = ap (fate history) (sym same) ∙ tells.served i u v mark e in
        ⊎_elim (λ w. cc) (λ w. cc) s
    by_hold (CutAt u item) e o y =
        let same : u ≡ t = cc in
        let was_cut : fate history t ≡ Cut = ap (fate history) (sym same) ∙ tells.cut i u item e in
        ⊎_elim (λ w. cc) (λ w. cc) s

pub met_in_order : (k : Kind) (b : Based) (records : List (Record Deed)) (r : Record Deed) → IsWellFormed k b → IsLegalOn k b (records ++ r ∷ []) → IsInOrder k b records r
met_in_order k b records r w legal u v named apart stands =
    let parts = (legal-parts k (state_of_base b) records (r ∷ [])).0 legal in
    let tells = tells_place k b records w parts.0 in
    let s = unpast (is_past b v) (fate (opening b ++ records) v) stands in
    let line = (orderly_at_end k records (state_of_base b) (moment_of_base b) (alike_base k b w) (orderly_base k b w) parts.0).line.rises in
    let found = names_found k (run (state_of_base b) records) r.seat r.ticket r.deed u parts.1.0 named in
    let agrees = (alike_at_end k records (state_of_base b) (moment_of_base b) (alike_base k b w) parts.0).agrees.line in
    ⊎_elim
    (λ (f : (f : Entry ℕ) × Contains (moment_of k (moment_of_base b) records).seats.line f × (f.ticket ≡ v)).
    subst (λ t. IsNearer (end_of k.order) u t) f.2 (subst (λ t. IsNearer (end_of k.order) t f.0.ticket) found.2
    (nearest (end_of k.order) (run (state_of_base b) records).line found.0 f.0 line found.1 (subst (λ l. Contains l f.0) (sym agrees) f.1) (λ e. apart (sym f.2 ∙ e ∙ found.2)))))
    (λ (h : (i : ℕ) × (open_ticket ((moment_of k (moment_of_base b) records).seats.holds i) ≡ Some v) × (is_settled ((moment_of k (moment_of_base b) records).seats.holds i) ≡ true)).
    absurd (unsettled (opening b ++ records) (moment_of k (moment_of_base b) records) h.0 v tells h.1 h.2 s))
    (tells.found v (placed (has_waited (opening b ++ records) v) (fate (opening b ++ records) v) s))
