-- A call that was met or cut, so as it doesn't answer, never ends as it did.
use Rattle.std.proofs.Common.{◌≡◌, ◌≢◌, ℕ, ◌+◌, Bool, true, false, Option, Some, None, List, [], ◌∷◌, refl, sym, ap, ◌∙◌, subst, ⊎_elim, arith}
use Rattle.std.specs.Prelude.{slice_get, if◌then◌else◌}
use Rattle.std.proofs.lemmas.Bool.{eqb-true}
use Rattle.std.proofs.lemmas.Bool.Decides.{eqb_tells}
use Rattle.meet_tickets.specs.declared.lines.Entry.{Entry}
use Rattle.meet_tickets.specs.declared.lines.Hold.{Hold}
use Rattle.meet_tickets.specs.declared.lines.Hold.TheVariants.{Free, Waiting, Handed, Served, Cut}
use Rattle.meet_tickets.specs.declared.places.Kind.{Kind}
use Rattle.meet_tickets.specs.declared.records.Deed.{Deed}
use Rattle.meet_tickets.specs.declared.records.Deed.TheVariants.{Interrupt}
use Rattle.meet_tickets.specs.BySeat.{Seats, put_at}
use Rattle.meet_overlap.specs.declared.calls.Answer.{Answer}
use Rattle.meet_overlap.specs.declared.calls.Call.{Call}
use Rattle.meet_overlap.specs.declared.calls.Stage.{Stage}
use Rattle.meet_overlap.specs.declared.calls.Stage.TheVariants.{Ahead, Open, Over}
use Rattle.meet_overlap.specs.declared.calls.Verb.{Verb}
use Rattle.meet_overlap.specs.declared.calls.Verb.TheVariants.{Keep, Give, Take, Interrupt as InterruptSeat}
use Rattle.meet_overlap.specs.Calls.{Tells, MayStop, told_by, stage_told, stage_after}
use Rattle.meet_overlap.specs.Explaining.{Event}
use Rattle.meet_overlap.specs.Known.{IsBarren, IsMisled, IsSettledBy}
use Rattle.meet_overlap.specs.Plays.{Plays, IsPlay, own_ticket, play_ticket}
use Rattle.meet_overlap.specs.Search.{World, world_after, unless_open, is_held, ending_of, deed_of}
use Rattle.meet_overlap.proofs.Settled.{IsInterrupt, settled_kept}
use Rattle.meet_overlap.proofs.Ways.{put_same, put_other}

-- a seat that is settled makes no request but an interrupt
pub none_requested : (t : ℕ) (h : Hold ℕ) (o : Option Deed) (d : Deed) → IsSettledBy t h → unless_open h o ≡ Some d → ⊥
none_requested t Free o d settled is = settled
none_requested t (Waiting u) o d settled is = settled
none_requested t (Handed u v m) o d settled is = absurd (cc)
none_requested t (Served u v m) o d settled is = absurd (cc)
none_requested t (Cut u m) o d settled is = absurd (cc)

pub held_by : (n t : ℕ) (h : Hold ℕ) → IsSettledBy n h → is_held t h ≡ true → t ≡ n
held_by n t Free settled is = absurd settled
held_by n t (Waiting u) settled is = absurd settled
held_by n t (Handed u v m) settled is = sym (eqb-true u t is) ∙ settled
held_by n t (Served u v m) settled is = sym (eqb-true u t is) ∙ settled
held_by n t (Cut u m) settled is = sym (eqb-true u t is) ∙ settled

pub if_some : (b : Bool) (o : Option Deed) (d : Deed) → (if b then o else None) ≡ Some d → (b ≡ true) × (o ≡ Some d)
if_some true o d is = (refl, is)
if_some false o d is = absurd (cc)

-- another call of the seat can't move, unless it is an interrupt
pub other_seat : (k : Kind) (s : Seats ℕ) (c : Call) (stage : Stage) (d : Deed) (n : ℕ) → IsSettledBy n (s.holds c.seat) → (stage ≡ Open n → ⊥) → deed_of k s c stage ≡ Some d → IsInterrupt d
other_seat k s c Ahead d n settled other made = by_verb c.verb refl
  where
    by_verb : (v : Verb) → c.verb ≡ v → IsInterrupt d
    by_verb (Keep m) is = absurd (none_requested n (s.holds c.seat) _ d settled (rw is at made))
    by_verb (Give p m) is = absurd (none_requested n (s.holds c.seat) _ d settled (rw is at made))
    by_verb (Take p) is = absurd (none_requested n (s.holds c.seat) _ d settled (rw is at made))
    by_verb (InterruptSeat j) is = let same : Interrupt j ≡ d = let q = rw is at made in cc in subst IsInterrupt same tt
other_seat k s c (Open t) d n settled other made =
    let q = if_some (is_held t (s.holds c.seat)) (ending_of s.line c.verb (s.holds c.seat)) d made in
    let same = held_by n t (s.holds c.seat) settled q.0 in
    absurd (other (ap Open same))
other_seat k s c Over d n settled other made = absurd (cc)

told_open : (t u : ℕ) (o : Option Answer) → stage_told t o ≡ Open u → (t ≡ u) × (o ≡ None)
told_open t u None is = (let same : t ≡ u = cc in same, refl)
told_open t u (Some a) is = absurd (cc)

-- a call that waits does so by its own ticket
pub opened : (k : Kind) (calls : List Call) (w : World) (e : Event) (u : ℕ) → Plays k calls w e → stage_after (w.stages e.call) e.entry ≡ Open u → u ≡ e.call + 1
opened k calls w e u p is = by_stage (w.stages e.call) p.ticket p.deed is
  where
    by_verb : (v : Verb) → p.call.verb ≡ v → e.entry.ticket ≡ own_ticket w.moment.seats e.call p.call.verb → deed_of k w.moment.seats p.call Ahead ≡ Some e.entry.deed → e.entry.ticket ≡ u → told_by e.entry.deed ≡ None → u ≡ e.call + 1
    by_verb (Keep m) v ticket made at told = sym at ∙ (rw v at ticket)
    by_verb (Give q m) v ticket made at told = sym at ∙ (rw v at ticket)
    by_verb (Take q) v ticket made at told = sym at ∙ (rw v at ticket)
    by_verb (InterruptSeat j) v ticket made at told =
        let same : Interrupt j ≡ e.entry.deed = let q = rw v at made in cc in
        let never : told_by (Interrupt j) ≡ None = ap told_by same ∙ told in
        absurd (cc)

    by_stage : (s : Stage) → e.entry.ticket ≡ play_ticket w.moment.seats e.call p.call.verb s → deed_of k w.moment.seats p.call s ≡ Some e.entry.deed → stage_after s e.entry ≡ Open u → u ≡ e.call + 1
    by_stage Ahead ticket made is = let q = told_open e.entry.ticket u (told_by e.entry.deed) is in by_verb p.call.verb refl ticket made q.0 q.1
    by_stage (Open t) ticket made is = absurd (cc)
    by_stage Over ticket made is = absurd (cc)

-- no play leads on from where a call is misled
misled_plays : (k : Kind) (calls : List Call) (run : List Event) (w : World) → IsMisled calls w → IsPlay k calls w run → ⊥
misled_plays k calls [] w m is = by_stage (w.stages m.number) m.stage (is m.number m.call m.known)
  where
    by_stage : (s : Stage) → s ≡ Open (m.number + 1) → MayStop m.call s → ⊥
    by_stage Ahead opens stop = absurd (cc)
    by_stage (Open t) opens stop = let ended = m.ended in absurd (cc)
    by_stage Over opens stop = absurd (cc)
misled_plays k calls (e ∷ run) w m is = ⊎_elim
    (λ q. here q.1)
    (λ q. misled_plays k calls run (world_after k w e) (stays q.1) is.1)
    (eqb_tells e.call m.number)
  where
    p : Plays k calls w e
    p = is.0

    here : e.call ≡ m.number → ⊥
    here at =
        let known : slice_get calls e.call ≡ Some m.call = subst (λ n. slice_get calls n ≡ Some m.call) (sym at) m.known in
        let mine : p.call ≡ m.call = let theirs = p.known in cc in
        let stage : w.stages e.call ≡ Open (m.number + 1) = ap w.stages at ∙ m.stage in
        let made : deed_of k w.moment.seats m.call (Open (m.number + 1)) ≡ Some e.entry.deed =
        ap (λ c. deed_of k w.moment.seats c (Open (m.number + 1))) (sym mine) ∙ ap (deed_of k w.moment.seats p.call) (sym stage) ∙ p.deed in
        let ends = if_some (is_held (m.number + 1) (w.moment.seats.holds m.call.seat)) (ending_of w.moment.seats.line m.call.verb (w.moment.seats.holds m.call.seat)) e.entry.deed made in
        m.misled w.moment.seats.line e.entry.deed ends.1 (subst (λ c. Tells c e.entry.deed) mine p.tells)

    stays : e.call ≢ m.number → IsMisled calls (world_after k w e)
    stays other =
        let seat : m.call.seat ≡ e.entry.seat → IsInterrupt e.entry.deed = λ q.
        other_seat k w.moment.seats p.call (w.stages e.call) e.entry.deed (m.number + 1)
        (subst (λ i. IsSettledBy (m.number + 1) (w.moment.seats.holds i)) (q ∙ p.seat) m.settled) (λ opens. other (m.alone e.call opens)) p.deed in
        let kept = settled_kept k w.moment.seats m.call.seat e.entry.seat e.entry.ticket (m.number + 1) e.entry.deed m.settled m.gone seat in
        let told = stage_after (w.stages e.call) e.entry in
        record {
          number = m.number;
          call = m.call;
          known = m.known;
          returned = m.returned;
          ended = m.ended;
          stage = put_other w.stages e.call told m.number (λ q. other (sym q)) ∙ m.stage;
          alone = λ n opens. ⊎_elim
              (λ q.
              let mine : told ≡ Open (m.number + 1) = sym (put_same w.stages e.call told) ∙ ap (put_at w.stages e.call told) (sym q.1) ∙ opens in
              let at = opened k calls w e (m.number + 1) p mine in
              absurd (other (omega arith)))
              (λ q. m.alone n (sym (put_other w.stages e.call told n q.1) ∙ opens))
              (eqb_tells n e.call);
          settled = subst (IsSettledBy (m.number + 1)) (sym kept.hold) m.settled;
          gone = kept.gone;
          misled = λ line d made tells. m.misled line d (ap (ending_of line m.call.verb) (sym kept.hold) ∙ made) tells;
        }

pub misled_barren : (k : Kind) (calls : List Call) (w : World) → IsMisled calls w → IsBarren k calls w
misled_barren k calls w m run is = misled_plays k calls run w m is

-- how a settled ticket ends doesn't hang on the line
pub ending_any : (t : ℕ) (h : Hold ℕ) (v : Verb) (one other : List (Entry ℕ)) → IsSettledBy t h → ending_of one v h ≡ ending_of other v h
ending_any t Free v one other settled = absurd settled
ending_any t (Waiting u) v one other settled = absurd settled
ending_any t (Handed u w m) (Keep i) one other settled = refl
ending_any t (Handed u w m) (Give p i) one other settled = refl
ending_any t (Handed u w m) (Take p) one other settled = refl
ending_any t (Handed u w m) (InterruptSeat j) one other settled = refl
ending_any t (Served u w m) (Keep i) one other settled = refl
ending_any t (Served u w m) (Give p i) one other settled = refl
ending_any t (Served u w m) (Take p) one other settled = refl
ending_any t (Served u w m) (InterruptSeat j) one other settled = refl
ending_any t (Cut u m) (Keep i) one other settled = refl
ending_any t (Cut u m) (Give p i) one other settled = refl
ending_any t (Cut u m) (Take p) one other settled = refl
ending_any t (Cut u m) (InterruptSeat j) one other settled = refl
