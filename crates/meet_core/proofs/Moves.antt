-- The steps of the table and the line are the moves of the rules.
use Rattle.std.proofs.Common.{◌≡◌, ℕ, ◌==◌, refl, sym, ◌∙◌, ap, List, length, Bool, true, false, IsTrue, Option, Some, None, cond}
use Rattle.std.proofs.Math.Path.{fun_ext}
use Rattle.std.proofs.lemmas.Bool.{eq-eqb}
use Rattle.meet_tickets.specs.declared.lines.Entry.{Entry}
use Rattle.meet_tickets.specs.declared.lines.Hold.{Hold}
use Rattle.meet_tickets.specs.declared.lines.Hold.TheVariants.{Free, Handed, Served, Cut}
use Rattle.meet_tickets.specs.declared.places.End.{End}
use Rattle.meet_tickets.specs.declared.places.Side.TheVariants.{Giver}
use Rattle.meet_tickets.specs.Meeting.{is_on}
use Rattle.meet_tickets.specs.BySeat.{Seats, put_at, unmet, paired, paired_hold, withdrawn, cut_off}
use Rattle.meet_tickets.proofs.Line.Partners.{none-from}
use Rattle.meet_core.specs.Table.{hold_at, flag_at}
use Rattle.meet_core.specs.Queue.{Queue, seats_of}
use Rattle.meet_core.specs.Steps.{Leaves}

-- seats are equal where their parts are
same_seats : {T : Type 0} {line line' : List (Entry T)} {holds holds' : ℕ → Hold T} {flags flags' : ℕ → Bool} → line ≡ line' → holds ≡ holds' → flags ≡ flags' → let a : Seats T = record { line = line; holds = holds; flags = flags } in let b : Seats T = record { line = line'; holds = holds'; flags = flags' } in a ≡ b
same_seats p q r = λ i. record { line = p i; holds = q i; flags = r i }

-- a taker that was met has the item that came
pub paired_hold-taker : {T : Type 0} (mark : T → ℕ) (e : Entry T) (t : ℕ) (item : T) → is_on Giver e ≡ false → Served e.ticket t item ≡ paired_hold mark e.ticket e.item t (Some item)
paired_hold-taker mark e t item off = ap (λ own. paired_hold mark e.ticket own t (Some item)) (sym (none-from e.item off))

-- a giver that was met knows the mark that went
pub paired_hold-giver : {T : Type 0} (mark : T → ℕ) (e : Entry T) (t : ℕ) (item : T) → e.item ≡ Some item → Handed e.ticket t (mark item) ≡ paired_hold mark e.ticket e.item t None
paired_hold-giver mark e t item own = ap (λ x. paired_hold mark e.ticket x t None) (sym own)

-- one seat holds something else, and its line is another
pub record Holds {T : Type 0} (old new : Queue T) (seat : ℕ) (hold : Hold T) : Type 0 where
  pub holds : hold_at new.table.holds ≡ put_at (hold_at old.table.holds) seat hold
  pub count : length new.table.holds ≡ length old.table.holds
  pub flags : new.table.flags ≡ old.table.flags
  pub last : new.last ≡ old.last
  pub next : new.next ≡ old.next

-- the partner left the line, and its seat holds the pair
pub Leaves-paired : {T : Type 0} (mark : T → ℕ) (end : End) (old new : Queue T) (e : Entry T) (t : ℕ) (item : Option T) → IsTrue e.waits → new.line ≡ unmet end old.line → Holds old new e.seat (paired_hold mark e.ticket e.item t item) → Leaves old new (paired mark end (seats_of old) t item e)
Leaves-paired mark end old new e t item waits line h =
    let hold : Hold _ = paired_hold mark e.ticket e.item t item in
    record {
      last = h.last;
      next = h.next;
      count = h.count;
      seats_are = same_seats line
          (h.holds ∙ sym (ap (λ b. cond b (put_at (hold_at old.table.holds) e.seat hold) (hold_at old.table.holds)) waits))
          (ap flag_at h.flags);
    }

-- the partner left the line, and was kept: no seat holds anything else
pub Leaves-kept : {T : Type 0} (mark : T → ℕ) (end : End) (old new : Queue T) (e : Entry T) (t : ℕ) (item : Option T) → e.waits ≡ false → new.line ≡ unmet end old.line → new.table ≡ old.table → new.last ≡ old.last → new.next ≡ old.next → Leaves old new (paired mark end (seats_of old) t item e)
Leaves-kept mark end old new e t item kept line table last next =
    let hold : Hold _ = paired_hold mark e.ticket e.item t item in
    record {
      last = last;
      next = next;
      count = ap (λ table. length table.holds) table;
      seats_are = same_seats line
          (ap (λ table. hold_at table.holds) table ∙ sym (ap (λ b. cond b (put_at (hold_at old.table.holds) e.seat hold) (hold_at old.table.holds)) kept))
          (ap (λ table. flag_at table.flags) table);
    }

-- the line and what one seat holds were changed
pub Leaves-from : {T : Type 0} (old new : Queue T) (seat : ℕ) (hold : Hold T) (line : List (Entry T)) → new.line ≡ line → Holds old new seat hold → Leaves old new (record { line = line; holds = put_at (hold_at old.table.holds) seat hold; flags = flag_at old.table.flags })
Leaves-from old new seat hold line is h = record {
  last = h.last;
  next = h.next;
  count = h.count;
  seats_are = same_seats is h.holds (ap flag_at h.flags);
}

-- what was put somewhere is there
put_at-here : {A : Type 0} (f : ℕ → A) (i : ℕ) (value : A) → put_at f i value i ≡ value
put_at-here f i value = ap (λ b. cond b value (f i)) (eq-eqb i i refl)

-- what is put somewhere twice is what was put there last
put_at-twice : {A : Type 0} (f : ℕ → A) (i : ℕ) (first second : A) → put_at (put_at f i first) i second ≡ put_at f i second
put_at-twice {A = A} f i first second = fun_ext (λ k. by_test (k == i) (f k))
  where
    by_test : (b : Bool) (value : A) → cond b second (cond b first value) ≡ cond b second value
    by_test true value = refl
    by_test false value = refl

-- a seat whose ticket left the line holds nothing
pub free-withdrawn : {T : Type 0} (old new : Queue T) (seat t : ℕ) → Leaves old new (withdrawn (seats_of old) seat t) → (seats_of new).holds seat ≡ Free
free-withdrawn old new seat t leaves = ap (λ s. s.holds seat) leaves.seats_are ∙ put_at-here (hold_at old.table.holds) seat Free

-- a ticket that left the line is kept as cut
pub Leaves-cut : {T : Type 0} (old mid new : Queue T) (j : ℕ) (e : Entry T) → Leaves old mid (withdrawn (seats_of old) j e.ticket) → new.line ≡ mid.line → Holds mid new j (Cut e.ticket e.item) → Leaves old new (cut_off (seats_of old) j e)
Leaves-cut old mid new j e leaves line h = record {
  last = h.last ∙ leaves.last;
  next = h.next ∙ leaves.next;
  count = h.count ∙ leaves.count;
  seats_are = same_seats (line ∙ ap (λ s. s.line) leaves.seats_are)
      (h.holds ∙ ap (λ s. put_at s.holds j (Cut e.ticket e.item)) leaves.seats_are ∙ put_at-twice (hold_at old.table.holds) j Free (Cut e.ticket e.item))
      (ap flag_at h.flags ∙ ap (λ s. s.flags) leaves.seats_are);
}
