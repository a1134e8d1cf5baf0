-- A line stays sound, beside what seats hold.
use Rattle.std.proofs.Common.{◌≤◌, ◌≡◌, ◌≢◌, ℕ, zero, suc, ◌+◌, ◌<◌, ◌==◌, refl, sym, ◌∙◌, ap, subst, List, [], ◌∷◌, ◌++◌, get_or, find, arith, Option, Some, None, Bool, true, false, is_some, is_none, cond, IsSome}
use Rattle.std.specs.Prelude.{All, AllPairs}
use Rattle.std.proofs.lemmas.Bool.{cond_both, ne_eqb, eq-eqb}
use Rattle.std.proofs.lemmas.List.Elements.{All-append, All-weaker}
use Rattle.std.proofs.lemmas.List.Quantifiers.{all_pairs_push}
use Rattle.meet_tickets.specs.declared.lines.Entry.{Entry}
use Rattle.meet_tickets.specs.declared.lines.Hold.{Hold}
use Rattle.meet_tickets.specs.declared.lines.Hold.TheVariants.{Free, Waiting}
use Rattle.meet_tickets.specs.declared.places.Side.{Side}
use Rattle.meet_tickets.specs.declared.places.Side.TheVariants.{Giver, Taker}
use Rattle.meet_tickets.specs.declared.places.End.{End}
use Rattle.meet_tickets.specs.Meeting.{partner, kept_count, IsAlone}
use Rattle.meet_tickets.specs.BySeat.{put_at, unmet, without_first, open_ticket}
use Rattle.meet_tickets.specs.Limits.{last_ticket}
use Rattle.meet_tickets.proofs.Line.Keeping.{partner-waits}
use Rattle.meet_tickets.proofs.Line.Partners.{none-from}
use Rattle.meet_tickets.proofs.Line.Sides.{HasOneSide, All-unmet, All-without_first, AllPairs-unmet, AllPairs-without_first, partner-met, partner-there, partner-other, alone-same, met-apart, found-ticket, found-there, found-apart}
use Rattle.meet_line.specs.Sound.{Stands, AreFellows, IsSound}

-- what two entries are to one another they are both ways
turned : {T : Type 0} (e f : Entry T) → AreFellows e f → AreFellows f e
turned e f fellows = record {
  tickets = λ same. fellows.tickets (sym same);
  side = sym fellows.side;
}

-- a sound line has one side
pub HasOneSide-sound : {T : Type 0} {line : List (Entry T)} {holds : ℕ → Hold T} {next : ℕ} → IsSound line holds next → HasOneSide line
HasOneSide-sound sound = λ i j d before below. (sound.fellows i j d before below).side

-- the partner stands as all do
pub Stands-partner : {T : Type 0} {line : List (Entry T)} {holds : ℕ → Hold T} {next : ℕ} (end : End) (side : Side) (e : Entry T) → IsSound line holds next → partner end line side ≡ Some e → Stands holds next e
Stands-partner {line = line} {holds = holds} {next = next} end side e sound found = partner-there (Stands holds next) end line side e sound.standing found

-- an entry waits, and is what its seat holds
pub record IsMet {T : Type 0} (holds : ℕ → Hold T) (e : Entry T) : Type 0 where
  pub waits : e.waits ≡ true
  pub held : holds e.seat ≡ Waiting e.ticket

-- what isn't kept waits
not-kept : (waits : Bool) → (waits ≡ false → ⊥) → waits ≡ true
not-kept true never = refl
not-kept false never = absurd (never refl)

-- so a taker waits
pub waits-taker : {T : Type 0} (holds : ℕ → Hold T) (next : ℕ) (e : Entry T) → Stands holds next e → e.item ≡ None → e.waits ≡ true
waits-taker {T} holds next e stands none = not-kept e.waits (λ kept. (let same : IsSome {T = T} None = subst IsSome none (stands.given kept) in cc))

-- which a giver meets
pub held-taker : {T : Type 0} {line : List (Entry T)} {holds : ℕ → Hold T} {next : ℕ} (end : End) (e : Entry T) → IsSound line holds next → partner end line Giver ≡ Some e → IsMet holds e
held-taker {line = line} {holds = holds} {next = next} end e sound found =
    let stands : Stands holds next e = Stands-partner end Giver e sound found in
    let waits : e.waits ≡ true = waits-taker holds next e stands (none-from e.item (partner-other end line Giver e (HasOneSide-sound sound) found)) in
    record { waits = waits; held = stands.held waits }

-- and so does an entry whose ticket is open
pub waits-open : {T : Type 0} {line : List (Entry T)} {holds : ℕ → Hold T} {next : ℕ} (i t : ℕ) (e : Entry T) → IsSound line holds next → holds i ≡ Waiting t → find (λ f. f.ticket == t) line ≡ Some e → e.waits ≡ true
waits-open {line = line} {holds = holds} {next = next} i t e sound waits found =
    let ticket : e.ticket ≡ t = found-ticket t line e found in
    let stands : Stands holds next e = found-there (Stands holds next) t line e sound.standing found in
    not-kept e.waits (λ kept. stands.closed kept i (ap open_ticket waits ∙ ap (λ n. Some n) (sym ticket)))

-- where nothing is kept, the partner waits
pub IsMet-partner : {T : Type 0} {line : List (Entry T)} {holds : ℕ → Hold T} {next : ℕ} (end : End) (side : Side) (e : Entry T) → IsSound line holds next → kept_count line ≡ 0 → partner end line side ≡ Some e → IsMet holds e
IsMet-partner {line = line} end side e sound none found =
    let waits = partner-waits end line side e none found in
    record { waits = waits; held = (Stands-partner end side e sound found).held waits }

-- a new ticket is above all of the line
pub newest : {T : Type 0} {line : List (Entry T)} {holds : ℕ → Hold T} {next : ℕ} → IsSound line holds next → All (λ e. e.ticket < next) line
newest {line = line} {holds = holds} {next = next} sound = All-weaker (Stands holds next) (λ e. e.ticket < next) (λ e stands. stands.used) line sound.standing

-- and open at no seat
pub unopened : {T : Type 0} {line : List (Entry T)} {holds : ℕ → Hold T} {next : ℕ} → IsSound line holds next → (seat : ℕ) → open_ticket (holds seat) ≢ Some next
unopened {next = next} sound seat same = let below : next < next = sound.opened seat next same in omega arith

-- a ticket more is used
pub IsSound-later : {T : Type 0} {line : List (Entry T)} {holds : ℕ → Hold T} {next : ℕ} → IsSound line holds next → next ≤ last_ticket → IsSound line holds (next + 1)
IsSound-later {line = line} {holds = holds} {next = next} sound few = record {
  standing = All-weaker (Stands holds next) (Stands holds (next + 1)) (λ e stands. record { held = stands.held; given = stands.given; closed = stands.closed; used = let used : e.ticket < next = stands.used in omega arith }) line sound.standing;
  fellows = sound.fellows;
  opened = λ seat t is. (let below : t < next = sound.opened seat t is in omega arith);
  tickets_from = omega arith;
  tickets_to = omega arith;
}

-- nobody is there
pub IsSound-new : {T : Type 0} (line : List (Entry T)) (holds : ℕ → Hold T) (next : ℕ) → line ≡ [] → holds ≡ (λ _. Free) → 0 < next → next ≤ last_ticket → IsSound line holds next
IsSound-new {T} line holds next empty free from to = record {
  standing = subst (λ l. All (Stands holds next) l) (sym empty) (λ k d below. absurd (omega arith));
  fellows = subst (λ l. AllPairs AreFellows l) (sym empty) (λ i j d before below. absurd (omega arith));
  opened = λ seat t is. absurd (let held : open_ticket {X = T} Free ≡ Some t = ap (λ h. open_ticket (h seat)) (sym free) ∙ is in cc);
  tickets_from = from;
  tickets_to = omega arith;
}

-- what a seat may hold anew: no entry of the line has its open ticket, which was used
pub record IsApart {T : Type 0} (line : List (Entry T)) (next : ℕ) (hold : Hold T) : Type 0 where
  pub apart : All (λ f. open_ticket hold ≢ Some f.ticket) line
  pub used : (t : ℕ) → open_ticket hold ≡ Some t → t < next

-- nothing is such
pub IsApart-free : {T : Type 0} (line : List (Entry T)) (next : ℕ) → IsApart line next Free
IsApart-free line next = record { apart = λ k d below same. cc; used = λ t same. cc }

-- and what has the ticket of one that left
pub IsApart-ticket : {T : Type 0} (line : List (Entry T)) (next ticket : ℕ) (hold : Hold T) → open_ticket hold ≡ Some ticket → All (λ f. f.ticket ≢ ticket) line → ticket < next → IsApart line next hold
IsApart-ticket line next ticket hold is others used = record {
  apart = λ k d below same. (let held : Some ticket ≡ Some (get_or line k d).ticket = sym is ∙ same in let tickets : (get_or line k d).ticket ≡ ticket = cc in others k d below tickets);
  used = λ t same. (let held : Some ticket ≡ Some t = sym is ∙ same in let tickets : ticket ≡ t = cc in subst (λ n. n < next) tickets used);
}

-- a seat for which nobody waits in the line, or does any more, holds something else
pub IsSound-gone : {T : Type 0} {line : List (Entry T)} {holds : ℕ → Hold T} {next : ℕ} (i : ℕ) (hold : Hold T) → IsSound line holds next → All (λ f. f.waits ≡ true → f.seat ≢ i) line → IsApart line next hold → IsSound line (put_at holds i hold) next
IsSound-gone {T} {line = line} {holds = holds} {next = next} i hold sound away apart = record {
  standing = λ k d below.
      (let f = get_or line k d in
      let stands : Stands holds next f = sound.standing k d below in
      record {
        held = λ waits. ap (λ b. cond b hold (holds f.seat)) (ne_eqb f.seat i (away k d below waits)) ∙ stands.held waits;
        given = stands.given;
        closed = λ kept seat. cond_both (seat == i) hold (holds seat) (λ (h : Hold T). open_ticket h ≢ Some f.ticket) (λ _. apart.apart k d below) (λ _. stands.closed kept seat);
        used = stands.used;
      });
  fellows = sound.fellows;
  opened = λ seat t. cond_both (seat == i) hold (holds seat) (λ (h : Hold T). open_ticket h ≡ Some t → t < next) (λ _. apart.used t) (λ _. sound.opened seat t);
  tickets_from = sound.tickets_from;
  tickets_to = sound.tickets_to;
}

-- a seat that doesn't wait holds something else
pub IsSound-settled : {T : Type 0} {line : List (Entry T)} {holds : ℕ → Hold T} {next : ℕ} (i : ℕ) (hold : Hold T) → IsSound line holds next → ((ticket : ℕ) → holds i ≢ Waiting ticket) → IsApart line next hold → IsSound line (put_at holds i hold) next
IsSound-settled {line = line} {holds = holds} i hold sound settled apart =
    IsSound-gone i hold sound (λ k d below waits same. settled (get_or line k d).ticket (ap holds (sym same) ∙ (sound.standing k d below).held waits)) apart

-- the partner leaves the line
pub IsSound-unmet : {T : Type 0} {line : List (Entry T)} {holds : ℕ → Hold T} {next : ℕ} (end : End) → IsSound line holds next → IsSound (unmet end line) holds next
IsSound-unmet {line = line} {holds = holds} {next = next} end sound = record {
  standing = All-unmet (Stands holds next) end line sound.standing;
  fellows = AllPairs-unmet AreFellows end line sound.fellows;
  opened = sound.opened;
  tickets_from = sound.tickets_from;
  tickets_to = sound.tickets_to;
}

-- it waited, and its seat holds what came of its ticket
pub IsSound-met : {T : Type 0} {line : List (Entry T)} {holds : ℕ → Hold T} {next : ℕ} (end : End) (side : Side) (e : Entry T) (hold : Hold T) → IsSound line holds next → partner end line side ≡ Some e → e.waits ≡ true → open_ticket hold ≡ Some e.ticket → IsSound (unmet end line) (put_at holds e.seat hold) next
IsSound-met {line = line} {holds = holds} {next = next} end side e hold sound found waits is =
    let left : IsSound (unmet end line) holds next = IsSound-unmet end sound in
    let stands : Stands holds next e = Stands-partner end side e sound found in
    let others : All (AreFellows e) (unmet end line) = met-apart AreFellows end line e sound.fellows (partner-met end line side e found) turned in
    IsSound-gone e.seat hold left
    (λ k d below also same.
    (let f = get_or (unmet end line) k d in
    let held : Waiting f.ticket ≡ Waiting e.ticket = sym ((left.standing k d below).held also) ∙ ap holds same ∙ stands.held waits in
    let tickets : e.ticket ≡ f.ticket = cc in
    (others k d below).tickets tickets))
    (IsApart-ticket (unmet end line) next e.ticket hold is (λ k d below same. (others k d below).tickets (sym same)) stands.used)

-- the entry of a ticket leaves the line, and the seat that held it is free
pub IsSound-removed : {T : Type 0} {line : List (Entry T)} {holds : ℕ → Hold T} {next : ℕ} (i t : ℕ) (e : Entry T) → IsSound line holds next → holds i ≡ Waiting t → find (λ f. f.ticket == t) line ≡ Some e → IsSound (without_first (λ f. f.ticket == t) line) (put_at holds i Free) next
IsSound-removed {line = line} {holds = holds} {next = next} i t e sound waits found =
    let left : IsSound (without_first (λ f. f.ticket == t) line) holds next = record {
      standing = All-without_first (Stands holds next) t line sound.standing;
      fellows = AllPairs-without_first AreFellows t line sound.fellows;
      opened = sound.opened;
      tickets_from = sound.tickets_from;
      tickets_to = sound.tickets_to;
    } in
    let ticket : e.ticket ≡ t = found-ticket t line e found in
    let others : All (AreFellows e) (without_first (λ f. f.ticket == t) line) = found-apart AreFellows t line e sound.fellows turned found in
    IsSound-gone i Free left
    (λ k d below also same.
    (let f = get_or (without_first (λ f. f.ticket == t) line) k d in
    let held : Waiting f.ticket ≡ Waiting t = sym ((left.standing k d below).held also) ∙ ap holds same ∙ waits in
    let tickets : f.ticket ≡ t = cc in
    (others k d below).tickets (ticket ∙ sym tickets)))
    (IsApart-free (without_first (λ f. f.ticket == t) line) next)

-- its ticket is no other's
pub apart-removed : {T : Type 0} {line : List (Entry T)} {holds : ℕ → Hold T} {next : ℕ} (t : ℕ) (e : Entry T) → IsSound line holds next → find (λ f. f.ticket == t) line ≡ Some e → All (λ f. f.ticket ≢ e.ticket) (without_first (λ f. f.ticket == t) line)
apart-removed {line = line} t e sound found =
    let others : All (AreFellows e) (without_first (λ f. f.ticket == t) line) = found-apart AreFellows t line e sound.fellows turned found in
    λ k d below same. (others k d below).tickets (sym same)

-- and was used
pub used-removed : {T : Type 0} {line : List (Entry T)} {holds : ℕ → Hold T} {next : ℕ} (t : ℕ) (e : Entry T) → IsSound line holds next → find (λ f. f.ticket == t) line ≡ Some e → e.ticket < next
used-removed {line = line} {holds = holds} {next = next} t e sound found = (found-there (Stands holds next) t line e sound.standing found).used

-- what holds of one is true of a list of it alone
All-one : {X : Type 0} (P : X → Type 0) (x : X) → P x → All P (x ∷ [])
All-one P x holds zero d below = holds
All-one P x holds (suc k) d below = absurd (omega arith)

-- who finds nobody stands on the side of the line
fellow-side : {T : Type 0} (end : End) (line : List (Entry T)) (e : Entry T) (own : Option T) → e.item ≡ own → HasOneSide line → IsAlone end line own → All (λ f. is_some f.item ≡ is_some e.item) line
fellow-side end line e None is one alone = alone-same end line Taker e one alone (ap (λ o. is_none o) is)
fellow-side end line e (Some x) is one alone = alone-same end line Giver e one alone (ap (λ o. is_some o) is)

-- an entry with a new ticket goes to the line's end
IsSound-added : {T : Type 0} {line : List (Entry T)} {holds : ℕ → Hold T} {next : ℕ} (end : End) (e : Entry T) → IsSound line holds next → Stands holds next e → All (λ f. f.ticket < e.ticket) line → IsAlone end line e.item → IsSound (line ++ e ∷ []) holds next
IsSound-added {line = line} {holds = holds} {next = next} end e sound stands earlier alone =
    let sides : All (λ f. is_some f.item ≡ is_some e.item) line = fellow-side end line e e.item refl (HasOneSide-sound sound) alone in
    record {
      standing = All-append (Stands holds next) line (e ∷ []) sound.standing (All-one (Stands holds next) e stands);
      fellows = all_pairs_push AreFellows line e sound.fellows (λ k d below. record {
        tickets = λ same. (let less : (get_or line k d).ticket < e.ticket = earlier k d below in omega arith);
        side = sides k d below;
      });
      opened = sound.opened;
      tickets_from = sound.tickets_from;
      tickets_to = sound.tickets_to;
    }

-- a request goes to the line's end, and its seat holds its ticket
pub IsSound-queued : {T : Type 0} {line : List (Entry T)} {holds : ℕ → Hold T} {next : ℕ} (end : End) (i t : ℕ) (item : Option T) → IsSound line holds next → holds i ≡ Free → All (λ f. f.ticket < t) line → t < next → IsAlone end line item → IsSound (line ++ record { ticket = t; seat = i; item = item; waits = true } ∷ []) (put_at holds i (Waiting t)) next
IsSound-queued {T} {line = line} {holds = holds} {next = next} end i t item sound free earlier used alone =
    let e : Entry T = record { ticket = t; seat = i; item = item; waits = true } in
    let others : All (λ f. f.ticket ≢ t) line = λ k d below same. (let less : (get_or line k d).ticket < t = earlier k d below in omega arith) in
    let before : IsSound line (put_at holds i (Waiting t)) next = IsSound-settled i (Waiting t) sound (λ ticket held. (let same : Free ≡ Waiting ticket = sym free ∙ held in cc)) (IsApart-ticket line next t (Waiting t) refl others used) in
    IsSound-added end e before (record {
      held = λ _. ap (λ b. cond b (Waiting t) (holds i)) (eq-eqb i i refl);
      given = λ kept. absurd (let same : true ≡ false = kept in cc);
      closed = λ kept. absurd (let same : true ≡ false = kept in cc);
      used = used;
    }) earlier alone

-- an item goes to the line's end and is kept, and its ticket is open nowhere
pub IsSound-kept : {T : Type 0} {line : List (Entry T)} {holds : ℕ → Hold T} {next : ℕ} (end : End) (i t : ℕ) (item : T) → IsSound line holds next → ((seat : ℕ) → open_ticket (holds seat) ≢ Some t) → All (λ f. f.ticket < t) line → t < next → partner end line Giver ≡ None → IsSound (line ++ record { ticket = t; seat = i; item = Some item; waits = false } ∷ []) holds next
IsSound-kept {T} end i t item sound closed earlier used alone =
    let e : Entry T = record { ticket = t; seat = i; item = Some item; waits = false } in
    IsSound-added end e sound (record {
      held = λ waits. absurd (let same : false ≡ true = waits in cc);
      given = λ _. refl;
      closed = λ _. closed;
      used = used;
    }) earlier alone

-- where a seat has nothing open, nothing that waits is of it
pub seat-free : {T : Type 0} {line : List (Entry T)} {holds : ℕ → Hold T} {next : ℕ} (seat : ℕ) → IsSound line holds next → holds seat ≡ Free → All (λ e. e.waits ≡ true → e.seat ≢ seat) line
seat-free {line = line} {holds = holds} {next = next} seat sound free =
    All-weaker (Stands holds next) (λ e. e.waits ≡ true → e.seat ≢ seat) (λ e stands waits same. let clash : Waiting e.ticket ≡ Free = sym (stands.held waits) ∙ ap holds same ∙ free in absurd (cc)) line sound.standing
