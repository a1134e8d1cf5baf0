-- A place keeps its promise: whom a request meets stood in the line, and who was met, cut or taken back meets nobody
-- any more.
use Rattle.std.proofs.Common.{◌≡◌, ◌⊎◌, ℕ, zero, suc, ◌<◌, ◌≤◌, ◌-◌, ◌==◌, refl, sym, ap, ◌∙◌, subst, inl, inr}
use Rattle.std.proofs.Common.{⊎_elim, Bool, true, false, not, ◌&&◌, ◌||◌, if◌then◌else◌, Option, Some, None, is_none}
use Rattle.std.proofs.Common.{is_some, List, [], ◌∷◌, ◌++◌, length, filter, find, Contains, arith}
use Rattle.std.specs.Prelude.{nat_lt}
use Rattle.std.proofs.lemmas.Bool.{false≢true, lt-leb}
use Rattle.std.proofs.lemmas.List.Elements.{Contains-push_cases}
use Rattle.meet_tickets.specs.declared.lines.Entry.{Entry}
use Rattle.meet_tickets.specs.declared.fates.Fate.{Fate}
use Rattle.meet_tickets.specs.declared.fates.Fate.TheVariants.{Kept, Waiting, Past}
use Rattle.meet_tickets.specs.declared.places.End.{End}
use Rattle.meet_tickets.specs.declared.places.End.TheVariants.{Front, Back}
use Rattle.meet_tickets.specs.declared.places.Kind.{Kind}
use Rattle.meet_tickets.specs.declared.records.Record.{Record}
use Rattle.meet_tickets.specs.declared.records.Cause.{Cause}
use Rattle.meet_tickets.specs.declared.records.Cause.TheVariants.{Cancelled, Expired, Interrupted}
use Rattle.meet_tickets.specs.declared.records.Deed.{Deed}
use Rattle.meet_tickets.specs.declared.records.Deed.TheVariants.{GiveWaits, GiveMeets, GiveFails, GiveKept, TakeWaits}
use Rattle.meet_tickets.specs.declared.records.Deed.TheVariants.{TakeMeets, TakeFails, EntryInterrupted, Done, Got}
use Rattle.meet_tickets.specs.declared.records.Deed.TheVariants.{Withdrawn, Interrupt}
use Rattle.meet_tickets.specs.Bases.{Based, state_of_base, moment_of_base, IsWellFormed, IsLegalOn}
use Rattle.meet_tickets.specs.ByLists.{State, IsStep, IsLegalFrom, after, run}
use Rattle.meet_tickets.specs.Fates.{named_by, was_cut, withdrawal_of, opening, entered_in, is_past, fate, fate_on}
use Rattle.meet_tickets.specs.Meeting.{end_of, met}
use Rattle.meet_tickets.proofs.OnBases.Based.{alike_base}
use Rattle.meet_tickets.proofs.Told.Fated.{Joining, Gives, Keeps, Takes, deed_of, blank, only_asked}
use Rattle.meet_tickets.proofs.Told.FatesOn.{shows_fates}
use Rattle.meet_tickets.proofs.OnBases.Folded.{legal-parts}
use Rattle.meet_tickets.proofs.Tellings.Histories.{alike_at_end}
use Rattle.meet_tickets.proofs.Lists.Members.{Contains-cases, Contains-nil, Contains-slice_get, Contains-unfiltered}
use Rattle.meet_tickets.proofs.Told.Placed.{tells_place}
use Rattle.meet_tickets.proofs.Told.Said.{Said, said}
use Rattle.meet_laws.specs.Erasing.{is_gone}
use Rattle.meet_laws.specs.Promise.{KeepsPromise}
use Rattle.meet_laws.specs.Rows.{HasMet}
use Rattle.meet_laws.proofs.Begun.{legal_speaks}
use Rattle.meet_laws.proofs.Couples.{couple}
use Rattle.meet_laws.proofs.Nearest.{Stands, names_found, met_in_order}
use Rattle.meet_laws.proofs.Speaking.{GoesOn, asks, meets, learns, leaves, returns, cuts, flags, learns_unnamed}
use Rattle.meet_laws.proofs.Speaking.{Turned, stays, asked, met as was_met, learned, left, cut, returned, meets_names}
use Rattle.meet_laws.proofs.Speaking.{turns, AllGoOn, Speaks}
use Rattle.meet_laws.proofs.Steps.{legal_goes_on}
use Rattle.meet_laws.proofs.Told.{met_met}

-- what is said of a ticket that asked, and doesn't stand in the line
abbrev IsOut : Said → Type 0
IsOut x = (x ≡ blank → ⊥) × ((j : Joining) → x ≡ only_asked (deed_of j) → ⊥)

-- who was met is out
out_met : (x : Said) (u : ℕ) → x.met ≡ Some u → IsOut x
out_met x u e = (λ is. apart (ap (λ (y : Said). y.met) is), λ j is. apart (ap (λ (y : Said). y.met) is))
  where
    apart : x.met ≡ None → ⊥
    apart none = let some : None ≡ Some u = sym none ∙ e in cc

-- so is who met another at once
joins_alone : (j : Joining) → named_by (deed_of j) ≡ None
joins_alone (Gives m) = refl
joins_alone (Keeps m) = refl
joins_alone Takes = refl

out_meets : (x : Said) (d : Deed) (u : ℕ) → x ≡ only_asked d → named_by d ≡ Some u → IsOut x
out_meets x d u e named = (unasked, joined)
  where
    was_asked : x.asked ≡ Some d
    was_asked = ap (λ (y : Said). y.asked) e

    unasked : x ≡ blank → ⊥
    unasked is = let some : None ≡ Some d = sym (ap (λ (y : Said). y.asked) is) ∙ was_asked in cc

    joined : (j : Joining) → x ≡ only_asked (deed_of j) → ⊥
    joined j is =
        let some : Some (deed_of j) ≡ Some d = sym (ap (λ (y : Said). y.asked) is) ∙ was_asked in
        let same : deed_of j ≡ d = cc in
        let names : None ≡ Some u = sym (joins_alone j) ∙ ap named_by same ∙ named in
        cc

-- and who was taken back or cut
out_back : (x : Said) (cause : Cause) → x.back ≡ Some cause → IsOut x
out_back x cause e = (λ is. apart (ap (λ (y : Said). y.back) is), λ j is. apart (ap (λ (y : Said). y.back) is))
  where
    apart : x.back ≡ None → ⊥
    apart none = let some : None ≡ Some cause = sym none ∙ e in cc

out_cut : (x : Said) → x.cut ≡ true → IsOut x
out_cut x e = (λ is. apart (ap (λ (y : Said). y.cut) is), λ j is. apart (ap (λ (y : Said). y.cut) is))
  where
    apart : x.cut ≡ false → ⊥
    apart uncut = false≢true (sym uncut ∙ e)

-- who is out stays out
out_turns : (x y : Said) → Turned x y → IsOut x → IsOut y
out_turns x y (stays e) out = subst IsOut (sym e) out
out_turns x y (asked d request e f) out = absurd (out.0 e)
out_turns x y (was_met j u e f) out = absurd (out.1 j e)
out_turns x y (learned j u waits e f) out = out_met y u (ap (λ (z : Said). z.met) f)
out_turns x y (left j cause l waits e f) out = absurd (out.1 j e)
out_turns x y (cut j waits e f) out = absurd (out.1 j e)
out_turns x y (returned j waits e f) out = out_back y Interrupted (ap (λ (z : Said). z.back) f)

-- a request that names a ticket is new, and the named one stands in the line
abbrev Joins : (f : ℕ → Said) (ticket partner : ℕ) → Type 0
Joins f t v = (j : Joining) × (f t ≡ blank) × (f v ≡ only_asked (deed_of j))

meets_joined : (f : ℕ → Said) (t : ℕ) (d : Deed) (v : ℕ) → GoesOn f t d → named_by d ≡ Some v → Joins f t v
meets_joined f t d v goes named = by_goes goes
  where
    unnamed : named_by d ≡ None → Joins f t v
    unnamed none = absurd (let e : None ≡ Some v = sym none ∙ named in cc)

    by_goes : GoesOn f t d → Joins f t v
    by_goes (asks request none new) = unnamed none
    by_goes (meets u j m new there) =
        let same : u ≡ v = (let e : Some u ≡ Some v = sym (meets_names d u j m) ∙ named in cc) in
        (j, new, ap f (sym same) ∙ there)
    by_goes (learns u j l was) = unnamed (learns_unnamed t d u j (f u).asked l)
    by_goes (leaves j cause e l waits was) = unnamed (ap named_by e)
    by_goes (returns j e waits was) = unnamed (ap named_by e)
    by_goes (cuts j i e above waits was) = unnamed (ap named_by e)
    by_goes (flags i e none) = unnamed (ap named_by e)

-- who is out meets nobody: no request of it names another, and none names it
abbrev IsOf : ℕ → Record Deed → Type 0
IsOf t r = (v : ℕ) × (named_by r.deed ≡ Some v) × ((r.ticket ≡ t) ⊎ (v ≡ t))

out_alone : (rest history : List (Record Deed)) → AllGoOn history rest → (t : ℕ) → IsOut (said history t)
    → (r : Record Deed) → Contains rest r → IsOf t r → ⊥
out_alone [] history on t out r there is = Contains-nil r there
out_alone (s ∷ rest) history on t out r there is = ⊎_elim here
    (λ m. out_alone rest (history ++ s ∷ []) on.1 t out_then r m is)
    (Contains-cases s rest r there)
  where
    out_then : IsOut (said (history ++ s ∷ []) t)
    out_then = out_turns (said history t) (said (history ++ s ∷ []) t) (turns history s on.0 t) out

    here : s ≡ r → ⊥
    here same =
        let goes = subst (λ (x : Record Deed). GoesOn (said history) x.ticket x.deed) same on.0 in
        let joins = meets_joined (said history) r.ticket r.deed is.0 goes is.1 in
        ⊎_elim (λ own. out.0 (ap (said history) (sym own) ∙ joins.1))
        (λ other. out.1 joins.0 (ap (said history) (sym other) ∙ joins.2)) is.2

unmet : (rest history : List (Record Deed)) → AllGoOn history rest → (t : ℕ) → IsOut (said history t) → (v : ℕ)
    → HasMet rest t v → ⊥
unmet rest history on t out v m = out_alone rest history on t out m.0 m.1
    (⊎_elim (λ own. (v, own.1, inl own.0)) (λ other. (t, other.1, inr refl)) m.2)

module _ (history : List (Record Deed)) (on : Speaks history) (t : ℕ) where
  -- of two that met each is out
  met_out : (u : ℕ) → HasMet history t u → IsOut (said history t)
  met_out u m = ⊎_elim own other m.2
    where
      own : (m.0.ticket ≡ t) × (named_by m.0.deed ≡ Some u) → IsOut (said history t)
      own e =
          let c = couple history on m.0 m.1 u e.1 in
          subst (λ x. IsOut (said history x)) e.0 (out_meets (said history m.0.ticket) m.0.deed u c.own e.1)

      other : (m.0.ticket ≡ u) × (named_by m.0.deed ≡ Some t) → IsOut (said history t)
      other e =
          let c = couple history on m.0 m.1 t e.1 in
          out_met (said history t) m.0.ticket (met_met c.joined m.0.ticket (said history t) c.other)

  -- and so is one that was cut or taken back
  gone_out : is_gone history t ≡ true → IsOut (said history t)
  gone_out e = by_parts (was_cut history t) (withdrawal_of history t) refl refl e
    where
      by_parts : (c : Bool) (o : Option Cause) → was_cut history t ≡ c → withdrawal_of history t ≡ o
          → (c || is_some o) ≡ true → IsOut (said history t)
      by_parts true o was back e = out_cut (said history t) was
      by_parts false (Some cause) was back e = out_back (said history t) cause back
      by_parts false None was back e = absurd (false≢true e)

module _ (k : Kind) (b : Based) (w : IsWellFormed k b) where
  -- no ticket of the line is past
  abbrev IsNow : (last : ℕ) → List (Entry ℕ) → Type 0
  IsNow last line = (b.last ≤ last) × ((e : Entry ℕ) → Contains line e → is_past b e.ticket ≡ false)

  above_now : (t : ℕ) → b.last < t → is_past b t ≡ false
  above_now t above =
      ap (λ x. nat_lt 0 t && x && is_none (find (λ u. u == t) (entered_in b))) (lt-leb t b.last above)
      ∙ tests (nat_lt 0 t) (is_none (find (λ u. u == t) (entered_in b)))
    where
      tests : (x z : Bool) → (x && false && z) ≡ false
      tests true z = refl
      tests false z = refl

  base_now : IsNow b.last b.line
  base_now = (omega arith, λ e m. by_past e m (is_past b e.ticket) refl)
    where
      apart : (waits : Bool) → Past ≡ (if waits then Waiting else Kept) → ⊥
      apart true e = cc
      apart false e = cc

      by_past : (e : Entry ℕ) → Contains b.line e → (p : Bool) → is_past b e.ticket ≡ p → p ≡ false
      by_past e m true is =
          let shows = shows_fates k b w in
          absurd (apart e.waits (sym (shows.past e.ticket is []) ∙ shows.line e m))
      by_past e m false is = refl

  module _ (last : ℕ) (line : List (Entry ℕ)) (now : IsNow last line) where
    less_now : (t : ℕ) → last ≤ t → (p : Entry ℕ → Bool) → IsNow t (filter p line)
    less_now t above p =
        let below = now.0 in
        (omega (arith, below), λ e m. now.1 e (Contains-unfiltered p line e m))

    same_now : (t : ℕ) → last < t → IsNow t line
    same_now t above = let below = now.0 in (omega (arith, below), now.1)

    more_now : (e : Entry ℕ) → last < e.ticket → IsNow e.ticket (line ++ e ∷ [])
    more_now e above =
        let below = now.0 in
        let own = above_now e.ticket (omega (arith, below)) in (
          omega (arith, below),
          λ f m. ⊎_elim (now.1 f) (λ same. subst (λ (x : Entry ℕ). is_past b x.ticket ≡ false) same own)
              (Contains-push_cases line e f m),
        )

  module _ (s : State) (now : IsNow s.last s.line) where
    joins_now : (i t : ℕ) (item : Option ℕ) (waits : Bool) → s.last < t
        → IsNow t (s.line ++ record { ticket = t; seat = i; item = item; waits = waits } ∷ [])
    joins_now i t item waits above =
        more_now s.last s.line now (record { ticket = t; seat = i; item = item; waits = waits }) above

    meets_now : (t u : ℕ) → s.last < t → IsNow t (filter (λ e. not (e.ticket == u)) s.line)
    meets_now t u above = less_now s.last s.line now t (omega (arith, above)) (λ e. not (e.ticket == u))

    leaves_now : (t : ℕ) → IsNow s.last (filter (λ e. not (e.ticket == t)) s.line)
    leaves_now t = less_now s.last s.line now s.last (omega arith) (λ e. not (e.ticket == t))

    step_now : (i t : ℕ) (d : Deed) → IsStep k s i t d → IsNow (after s i t d).last (after s i t d).line
    step_now i t (GiveWaits m) z = joins_now i t (Some m) true z.0.above
    step_now i t (GiveMeets m u) z = meets_now t u z.0.above
    step_now i t (GiveFails m) z = same_now s.last s.line now t z.0.above
    step_now i t (GiveKept m) z = joins_now i t (Some m) false z.0.above
    step_now i t TakeWaits z = joins_now i t None true z.0.above
    step_now i t (TakeMeets m u) z = meets_now t u z.0.above
    step_now i t TakeFails z = same_now s.last s.line now t z.0.above
    step_now i t (EntryInterrupted side) z = same_now s.last s.line now t z.0.above
    step_now i t Done z = now
    step_now i t (Got m u) z = now
    step_now i t (Withdrawn Cancelled) z = leaves_now t
    step_now i t (Withdrawn Expired) z = leaves_now t
    step_now i t (Withdrawn Interrupted) z = now
    step_now i zero (Interrupt j) z = now
    step_now i (suc t) (Interrupt j) z = leaves_now (suc t)

  run_now : (records : List (Record Deed)) (s : State) → IsLegalFrom k s records → IsNow s.last s.line
      → IsNow (run s records).last (run s records).line
  run_now [] s z now = now
  run_now (r ∷ records) s z now =
      run_now records (after s r.seat r.ticket r.deed) z.1 (step_now s now r.seat r.ticket r.deed z.0)

  met_there : (end : End) (line : List (Entry ℕ)) (e : Entry ℕ) → met end line ≡ Some e → Contains line e
  met_there Front line e is = Contains-slice_get line 0 e is
  met_there Back line e is = Contains-slice_get line (length line - 1) e is

  standing : (waits : Bool) (x : Fate) → x ≡ (if waits then Waiting else Kept) → Stands x
  standing true x e = inl e
  standing false x e = inr e

  -- whom a request names stands in the line
  named_stands : (before : List (Record Deed)) (r : Record Deed) (u : ℕ) → IsLegalOn k b before
      → IsStep k (run (state_of_base b) before) r.seat r.ticket r.deed → named_by r.deed ≡ Some u
      → Stands (fate_on b before u)
  named_stands before r u legal step named =
      let state = run (state_of_base b) before in
      let found = names_found k state r.seat r.ticket r.deed u step named in
      let e = found.0 in
      let there = met_there (end_of k.order) state.line e found.1 in
      let alike = alike_at_end k before (state_of_base b) (moment_of_base b) (alike_base k b w) legal in
      let tells = (tells_place k b before w legal).line e (subst (λ l. Contains l e) alike.agrees.line there) in
      let now = (run_now before (state_of_base b) legal base_now).1 e there in
      let fated = ap (λ p. if p then Past else fate (opening b ++ before) e.ticket) now ∙ tells in
      subst (λ t. Stands (fate_on b before t)) found.2 (standing e.waits (fate_on b before e.ticket) fated)

-- a place keeps its promise
module _ (k : Kind) (b : Based) (records : List (Record Deed)) (w : IsWellFormed k b) (legal : IsLegalOn k b records)
    (before rest : List (Record Deed)) (e : records ≡ before ++ rest) where
  legal_at : IsLegalOn k b (before ++ rest)
  legal_at = subst (IsLegalOn k b) e legal

  both_legal : IsLegalOn k b before × IsLegalFrom k (run (state_of_base b) before) rest
  both_legal = (legal-parts k (state_of_base b) before rest).0 legal_at

  go_on : AllGoOn (opening b ++ before) rest
  go_on = legal_goes_on k b w rest before legal_at

  speak : Speaks (opening b ++ before)
  speak = legal_speaks k b w before both_legal.0

  out_for_good : (t v : ℕ) → IsOut (said (opening b ++ before) t) → HasMet rest t v → ⊥
  out_for_good t v out m = unmet rest (opening b ++ before) go_on t out v m

pub keeps_promise : (k : Kind) (b : Based) (records : List (Record Deed)) → IsWellFormed k b → IsLegalOn k b records
    → KeepsPromise k b records
keeps_promise k b records w legal = record {
  stands = λ before after r u e named.
      let both = both_legal k b records w legal before (r ∷ after) e in
      named_stands k b w before r u both.0 both.1.0 named;
  order = λ before after r e.
      let both = both_legal k b records w legal before (r ∷ after) e in
      met_in_order k b before r w ((legal-parts k (state_of_base b) before (r ∷ [])).1 (both.0, (both.1.0, tt)));
  once = λ before after t u v e m.
      out_for_good k b records w legal before after e t v
      (met_out (opening b ++ before) (speak k b records w legal before after e) t u m);
  gone = λ before after t u e g.
      out_for_good k b records w legal before after e t u
      (gone_out (opening b ++ before) (speak k b records w legal before after e) t g);
}

-- what legal records begin with is legal
pub begins_legal : (k : Kind) (b : Based) (before after : List (Record Deed)) → IsLegalOn k b (before ++ after)
    → IsLegalOn k b before
begins_legal k b before after legal = ((legal-parts k (state_of_base b) before after).0 legal).0
