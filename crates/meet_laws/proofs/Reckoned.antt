-- The numbers by which a tally is reckoned.
use Rattle.std.proofs.Common.{◌≡◌, ℕ, ◌+◌, ◌-◌, ◌≤◌, refl, sym, ap, ◌∙◌, Bool, true, false, not, ◌&&◌, ◌||◌, Option, Some, None, is_some, List, [], ◌∷◌, ◌++◌, map, length, arith}
use Rattle.std.specs.Prelude.{count_by}
use Rattle.std.specs.List.{flat_map}
use Rattle.std.specs.Option.{option_map_or}
use Rattle.std.proofs.lemmas.Bool.{false≢true}
use Rattle.meet_tickets.specs.declared.bases.OpenPair.{OpenPair}
use Rattle.meet_tickets.specs.declared.bases.OpenCut.{OpenCut}
use Rattle.meet_tickets.specs.declared.lines.Entry.{Entry}
use Rattle.meet_tickets.specs.declared.places.Kind.{Kind}
use Rattle.meet_tickets.specs.declared.places.Side.{Side}
use Rattle.meet_tickets.specs.declared.places.Side.TheVariants.{Giver, Taker}
use Rattle.meet_tickets.specs.declared.records.Record.{Record}
use Rattle.meet_tickets.specs.declared.records.Cause.{Cause}
use Rattle.meet_tickets.specs.declared.records.Cause.TheVariants.{Interrupted}
use Rattle.meet_tickets.specs.declared.records.Deed.{Deed}
use Rattle.meet_tickets.specs.declared.records.Deed.TheVariants.{GiveWaits, GiveMeets, GiveFails, GiveKept, TakeWaits, TakeMeets, TakeFails, EntryInterrupted, Done, Got, Withdrawn, Interrupt}
use Rattle.meet_tickets.specs.Bases.{Based, IsWellFormed, IsLegalOn}
use Rattle.meet_tickets.specs.BySeat.{is_request}
use Rattle.meet_tickets.specs.Fates.{opening, tickets_of, named_by, withdrawn_by, is_kept, asked_for, asked_on, met_on, line_record, pair_records, cut_records}
use Rattle.meet_tickets.proofs.Lists.Changed.{one, count-cons, count-none}
use Rattle.meet_tickets.proofs.Told.Fated.{Joining, Gives, Keeps, Takes, deed_of, waits_of, only_asked, only_met, only_cut}
use Rattle.meet_tickets.proofs.Told.Said.{Said, said, fate_of}
use Rattle.meet_core.specs.LeftTold.{Leaving, AreLeft, leaving_of}
use Rattle.meet_core.specs.declared.left.Left.{Left}
use Rattle.meet_core.specs.declared.left.LeftStanding.{LeftStanding}
use Rattle.meet_laws.specs.declared.tally.Tally.{Tally}
use Rattle.meet_laws.specs.Rows.{fails, is_refused}
use Rattle.meet_laws.specs.Tally.{gives, meets as meets_somebody, is_give_meets, is_got, is_taker, stands_kept, is_delivered, is_returned, is_offered, given_in, tally_in, met_on as met_by, gave_on, takers_met_on}
use Rattle.meet_laws.proofs.Speaking.{Meets, given, taken, fetched, Learns, ends, gets, Speaks}
use Rattle.meet_laws.proofs.Weighing.{weigh, Balances, counted_as}
use Rattle.meet_laws.proofs.Tallied.{gave, gave_so, awaits, given_weighs, delivered_are, awaiting_are, counts_once}
use Rattle.meet_laws.proofs.Leftover.{kept_are, others_are}
use Rattle.meet_laws.proofs.Begun.{legal_speaks}

count_append : {X : Type 0} (p : X → Bool) (xs ys : List X) → count_by p (xs ++ ys) ≡ count_by p xs + count_by p ys
count_append p [] ys = omega arith
count_append p (x ∷ xs) ys =
    let rest = count_append p xs ys in
    let whole = count-cons p x (xs ++ ys) in
    let front = count-cons p x xs in
    omega (arith, rest, whole, front)

count_all : {X : Type 0} (xs : List X) → count_by (λ (x : X). true) xs ≡ length xs
count_all [] = refl
count_all {X} (x ∷ xs) =
    let rest = count_all xs in
    let cons : count_by (λ (y : X). true) (x ∷ xs) ≡ 1 + count_by (λ (y : X). true) xs = count-cons (λ (y : X). true) x xs in
    omega (arith, rest, cons)

count_within : {X : Type 0} (p : X → Bool) (xs : List X) → count_by p xs ≤ length xs
count_within p [] = omega arith
count_within p (x ∷ xs) =
    let rest = count_within p xs in
    let cons = count-cons p x xs in
    let here = most (p x) in
    omega (arith, rest, cons, here)
  where
    most : (b : Bool) → one b ≤ 1
    most true = omega arith
    most false = omega arith

-- what a base's entries count, where each counts so
module _ (q : Deed → Bool) (l : Entry ℕ → Bool) (s : OpenPair → Bool) (c : OpenCut → Bool)
    (lines : (e : Entry ℕ) → q (asked_for e.item e.waits) ≡ l e)
    (pairs : (p : OpenPair) → one (q (asked_on p.side p.mark)) + one (q (met_on p.side p.mark p.ticket)) ≡ one (s p))
    (cuts : (x : OpenCut) → one (q (asked_for x.item true)) + one (q (Interrupt x.seat)) ≡ one (c x)) where
  count_lines : (line : List (Entry ℕ)) → count_by (λ r. q r.deed) (map line_record line) ≡ count_by l line
  count_lines [] = refl
  count_lines (e ∷ line) =
      let rest = count_lines line in
      let here : ◌≡◌ {A = ℕ} (one (q (asked_for e.item e.waits))) (one (l e)) = ap one (lines e) in
      let left = count-cons (λ (r : Record Deed). q r.deed) (line_record e) (map line_record line) in
      let right = count-cons l e line in
      omega (arith, rest, here, left, right)

  count_pairs : (ps : List OpenPair) → count_by (λ r. q r.deed) (flat_map pair_records ps) ≡ count_by s ps
  count_pairs [] = refl
  count_pairs (p ∷ ps) =
      let rest = count_pairs ps in
      let here = pairs p in
      let own : Record Deed = record { seat = p.seat; ticket = p.ticket; deed = asked_on p.side p.mark } in
      let other : Record Deed = record { seat = p.seat; ticket = p.partner; deed = met_on p.side p.mark p.ticket } in
      let first = count-cons (λ (r : Record Deed). q r.deed) (record { seat = p.seat; ticket = p.ticket; deed = asked_on p.side p.mark }) (record { seat = p.seat; ticket = p.partner; deed = met_on p.side p.mark p.ticket } ∷ flat_map pair_records ps) in
      let second = count-cons (λ (r : Record Deed). q r.deed) (record { seat = p.seat; ticket = p.partner; deed = met_on p.side p.mark p.ticket }) (flat_map pair_records ps) in
      let right = count-cons s p ps in
      omega (arith, rest, here, first, second, right)

  count_cuts : (xs : List OpenCut) → count_by (λ r. q r.deed) (flat_map cut_records xs) ≡ count_by c xs
  count_cuts [] = refl
  count_cuts (x ∷ xs) =
      let rest = count_cuts xs in
      let here = cuts x in
      let first = count-cons (λ (r : Record Deed). q r.deed) (record { seat = x.seat; ticket = x.ticket; deed = asked_for x.item true }) (record { seat = x.seat; ticket = x.ticket; deed = Interrupt x.seat } ∷ flat_map cut_records xs) in
      let second = count-cons (λ (r : Record Deed). q r.deed) (record { seat = x.seat; ticket = x.ticket; deed = Interrupt x.seat }) (flat_map cut_records xs) in
      let right = count-cons c x xs in
      omega (arith, rest, here, first, second, right)

  counts_on : (b : Based) (records : List (Record Deed)) → count_by (λ r. q r.deed) (opening b ++ records) ≡ count_by l b.line + (count_by s b.pairs + count_by c b.cut) + count_by (λ r. q r.deed) records
  counts_on b records =
      let line = count_lines b.line in
      let two = count_pairs b.pairs in
      let cut = count_cuts b.cut in
      let all = count_append (λ (r : Record Deed). q r.deed) (opening b) records in
      let first = count_append (λ (r : Record Deed). q r.deed) (map line_record b.line) (flat_map pair_records b.pairs ++ flat_map cut_records b.cut) in
      let second = count_append (λ (r : Record Deed). q r.deed) (flat_map pair_records b.pairs) (flat_map cut_records b.cut) in
      omega (arith, line, two, cut, all, first, second)

-- whether a record sends an item back, or tells a taker that it has none
abbrev goes_back : Deed → Bool
goes_back d = fails d || (is_refused d || is_some (withdrawn_by d))

abbrev came_back : Said → Bool
came_back x = is_some x.asked && is_returned (fate_of x)

abbrev none_so : Deed → Bool
none_so d = false

back_asking : (d : Deed) → is_request d ≡ true → named_by d ≡ None → one (came_back (only_asked d)) + one (none_so d) ≡ 0 + one (goes_back d)
back_asking (GiveWaits m) request none = refl
back_asking (GiveMeets m u) request none = absurd (cc)
back_asking (GiveFails m) request none = refl
back_asking (GiveKept m) request none = refl
back_asking TakeWaits request none = refl
back_asking (TakeMeets m u) request none = absurd (cc)
back_asking TakeFails request none = refl
back_asking (EntryInterrupted side) request none = refl
back_asking Done request none = absurd (false≢true request)
back_asking (Got m u) request none = absurd (false≢true request)
back_asking (Withdrawn cause) request none = absurd (false≢true request)
back_asking (Interrupt i) request none = absurd (false≢true request)

back_meeting : (t : ℕ) (d : Deed) (u : ℕ) (j : Joining) → Meets d u j → (one (came_back (only_asked d)) + one (came_back (only_met j t))) + one (none_so d) ≡ one (came_back (only_asked (deed_of j))) + one (goes_back d)
back_meeting t d u j given = refl
back_meeting t d u j taken = refl
back_meeting t d u j fetched = refl

back_learning : (t : ℕ) (d : Deed) (u : ℕ) (j : Joining) (o : Option Deed) → Learns t d u j o → one (came_back (record (only_met j u) { learned = true })) + one (none_so d) ≡ one (came_back (only_met j u)) + one (goes_back d)
back_learning t d u j o ends = refl
back_learning t d u j o gets = refl

back_leaving : (j : Joining) (c : Cause) → waits_of j ≡ true → one (came_back (record (only_asked (deed_of j)) { back = Some c })) + one (none_so (Withdrawn c)) ≡ one (came_back (only_asked (deed_of j))) + one (goes_back (Withdrawn c))
back_leaving (Gives m) c waits = refl
back_leaving (Keeps m) c waits = absurd (false≢true waits)
back_leaving Takes c waits = refl

back_returning : (j : Joining) → waits_of j ≡ true → one (came_back (record (only_cut j) { back = Some Interrupted })) + one (none_so (Withdrawn Interrupted)) ≡ one (came_back (only_cut j)) + one (goes_back (Withdrawn Interrupted))
back_returning (Gives m) waits = refl
back_returning (Keeps m) waits = absurd (false≢true waits)
back_returning Takes waits = refl

back_cutting : (j : Joining) (i : ℕ) → waits_of j ≡ true → one (came_back (only_cut j)) + one (none_so (Interrupt i)) ≡ one (came_back (only_asked (deed_of j))) + one (goes_back (Interrupt i))
back_cutting (Gives m) i waits = refl
back_cutting (Keeps m) i waits = absurd (false≢true waits)
back_cutting Takes i waits = refl

back_balances : Balances (came_back) (none_so) (goes_back)
back_balances = record {
  asking = back_asking;
  meeting = back_meeting;
  learning = back_learning;
  leaving = back_leaving;
  returning = back_returning;
  cutting = back_cutting;
  flagging = λ i. refl;
}

given_line : (q : Deed → Bool) → q TakeWaits ≡ false → ((m : ℕ) → q (GiveWaits m) ≡ false) → ((m : ℕ) → q (GiveKept m) ≡ false) → (item : Option ℕ) (waits : Bool) → q (asked_for item waits) ≡ false
given_line q t w k None waits = t
given_line q t w k (Some m) true = w m
given_line q t w k (Some m) false = k m

gives_line : (item : Option ℕ) (waits : Bool) → gives (asked_for item waits) ≡ is_some item
gives_line None waits = refl
gives_line (Some m) true = refl
gives_line (Some m) false = refl

meets_pair : (side : Side) (m t : ℕ) → one (meets_somebody (asked_on side m)) + one (meets_somebody (met_on side m t)) ≡ one true
meets_pair Giver m t = refl
meets_pair Taker m t = refl

gives_pair : (side : Side) (m t : ℕ) → one (gives (asked_on side m)) + one (gives (met_on side m t)) ≡ one true
gives_pair Giver m t = refl
gives_pair Taker m t = refl

taker_pair : (side : Side) (m t : ℕ) → one (is_give_meets (asked_on side m)) + one (is_give_meets (met_on side m t)) ≡ one (is_taker side)
taker_pair Giver m t = refl
taker_pair Taker m t = refl

got_pair : (side : Side) (m t : ℕ) → one (is_got (asked_on side m)) + one (is_got (met_on side m t)) ≡ one false
got_pair Giver m t = refl
got_pair Taker m t = refl

back_pair : (side : Side) (m t : ℕ) → one (goes_back (asked_on side m)) + one (goes_back (met_on side m t)) ≡ one false
back_pair Giver m t = refl
back_pair Taker m t = refl

quiet_cut : (q : Deed → Bool) → q TakeWaits ≡ false → ((m : ℕ) → q (GiveWaits m) ≡ false) → ((i : ℕ) → q (Interrupt i) ≡ false) → (item : Option ℕ) (i : ℕ) → one (q (asked_for item true)) + one (q (Interrupt i)) ≡ one false
quiet_cut q t w n None i = total (ap one t) (ap one (n i))
  where
    total : {a b : ℕ} → a ≡ 0 → b ≡ 0 → a + b ≡ 0
    total {a} {b} x y = omega (arith, x, y)
quiet_cut q t w n (Some m) i = total (ap one (w m)) (ap one (n i))
  where
    total : {a b : ℕ} → a ≡ 0 → b ≡ 0 → a + b ≡ 0
    total {a} {b} x y = omega (arith, x, y)

gives_cut : (item : Option ℕ) (i : ℕ) → one (gives (asked_for item true)) + one (gives (Interrupt i)) ≡ one (is_some item)
gives_cut None i = refl
gives_cut (Some m) i = refl

-- what came back to givers came back
gave_back : (history : List (Record Deed)) (ts : List ℕ) → count_by (λ t. gave_so is_returned (said history t)) ts ≤ count_by (λ t. came_back (said history t)) ts
gave_back history [] = omega arith
gave_back history (t ∷ ts) =
    let rest = gave_back history ts in
    let here = less (said history t).asked (is_returned (fate_of (said history t))) in
    let left = count-cons (λ x. gave_so is_returned (said history x)) t ts in
    let right = count-cons (λ x. came_back (said history x)) t ts in
    omega (arith, rest, here, left, right)
  where
    within : (a b : Bool) → one (a && b) ≤ one b
    within true b = omega arith
    within false true = omega arith
    within false false = omega arith

    less : (o : Option Deed) (b : Bool) → one (option_map_or gives o false && b) ≤ one (is_some o && b)
    less None b = omega arith
    less (Some d) b = within (gives d) b

-- the numbers of a base, its records and what is left
pub record Reckoned (b : Based) (records : List (Record Deed)) (left : List Leaving) : Type 0 where
  pub awaiting : ℕ
  pub delivered : given_in is_delivered (opening b ++ records) ≡ met_by b records
  pub gave : given_in is_delivered (opening b ++ records) + given_in is_returned (opening b ++ records) + given_in is_kept (opening b ++ records) + given_in is_offered (opening b ++ records) ≡ gave_on b records
  pub kept : given_in is_kept (opening b ++ records) ≡ count_by (λ a. stands_kept a.standing) left
  pub others : given_in is_offered (opening b ++ records) + awaiting ≡ count_by (λ a. not (stands_kept a.standing)) left
  pub awaits : awaiting + count_by (λ r. is_got r.deed) records ≡ takers_met_on b records
  pub few : given_in is_returned (opening b ++ records) ≤ length records

-- after a legal history the items that were handed over are as many as the requests that met somebody
pub delivered_is : (k : Kind) (b : Based) (records : List (Record Deed)) → IsWellFormed k b → IsLegalOn k b records → given_in is_delivered (opening b ++ records) ≡ met_by b records
delivered_is k b records w legal =
    let met = counts_on meets_somebody (λ e. false) (λ p. true) (λ x. false) (λ e. given_line meets_somebody refl (λ m. refl) (λ m. refl) e.item e.waits) (λ p. meets_pair p.side p.mark p.ticket) (λ x. quiet_cut meets_somebody refl (λ m. refl) (λ i. refl) x.item x.seat) b records in
    let is = delivered_are (opening b ++ records) on in
    let line = count-none b.line in
    let pairs = count_all b.pairs in
    let cut = count-none b.cut in
    omega (arith, met, is, line, pairs, cut)
  where
    on : Speaks (opening b ++ records)
    on = legal_speaks k b w records legal

pub reckoned : (k : Kind) (b : Based) (records : List (Record Deed)) (left : List Leaving) → IsWellFormed k b → IsLegalOn k b records → AreLeft (opening b ++ records) left → Reckoned b records left
reckoned k b records left w legal are = record {
  awaiting = weigh awaits (opening b ++ records);
  delivered = delivered_is k b records w legal;
  gave = (
      let all = counts_on gives (λ e. is_some e.item) (λ p. true) (λ x. is_some x.item) (λ e. gives_line e.item e.waits) (λ p. gives_pair p.side p.mark p.ticket) (λ x. gives_cut x.item x.seat) b records in
      let is = counts_once (opening b ++ records) on in
      let pairs = count_all b.pairs in
      omega (arith, all, is, pairs)
      );
  kept = given_weighs is_kept (opening b ++ records) ∙ kept_are (opening b ++ records) on left are;
  others = (
      let is = given_weighs is_offered (opening b ++ records) in
      let all = others_are (opening b ++ records) on left are in
      omega (arith, is, all)
      );
  awaits = (
      let all = awaiting_are (opening b ++ records) on in
      let met = counts_on is_give_meets (λ e. false) (λ p. is_taker p.side) (λ x. false) (λ e. given_line is_give_meets refl (λ m. refl) (λ m. refl) e.item e.waits) (λ p. taker_pair p.side p.mark p.ticket) (λ x. quiet_cut is_give_meets refl (λ m. refl) (λ i. refl) x.item x.seat) b records in
      let got = counts_on is_got (λ e. false) (λ p. false) (λ x. false) (λ e. given_line is_got refl (λ m. refl) (λ m. refl) e.item e.waits) (λ p. got_pair p.side p.mark p.ticket) (λ x. quiet_cut is_got refl (λ m. refl) (λ i. refl) x.item x.seat) b records in
      let line = count-none b.line in
      let pairs = count-none b.pairs in
      let cut = count-none b.cut in
      omega (arith, all, met, got, line, pairs, cut)
      );
  few = (
      let is = given_weighs is_returned (opening b ++ records) in
      let less = gave_back (opening b ++ records) (tickets_of (opening b ++ records)) in
      let all = counted_as came_back none_so goes_back back_balances (opening b ++ records) on in
      let back = counts_on goes_back (λ e. false) (λ p. false) (λ x. false) (λ e. given_line goes_back refl (λ m. refl) (λ m. refl) e.item e.waits) (λ p. back_pair p.side p.mark p.ticket) (λ x. quiet_cut goes_back refl (λ m. refl) (λ i. refl) x.item x.seat) b records in
      let line = count-none b.line in
      let pairs = count-none b.pairs in
      let cut = count-none b.cut in
      let within = count_within (λ (r : Record Deed). goes_back r.deed) records in
      omega (arith, is, less, all, back, line, pairs, cut, within)
      );
}
  where
    on : Speaks (opening b ++ records)
    on = legal_speaks k b w records legal

-- items are counted by how they stand
pub count_standing : {T : Type 0} (mark : T → ℕ) (p : LeftStanding → Bool) (items : List (Left T)) → count_by (λ (a : Leaving). p a.standing) (map (leaving_of mark) items) ≡ count_by (λ (a : Left T). p a.standing) items
count_standing mark p [] = refl
count_standing {T} mark p (a ∷ items) =
    let rest = count_standing mark p items in
    let left = count-cons (λ (x : Leaving). p x.standing) (leaving_of mark a) (map (leaving_of mark) items) in
    let right = count-cons (λ (x : Left T). p x.standing) a items in
    omega (arith, rest, left, right)

-- a tally of these numbers
pub tally_is : {T : Type 0} (mark : T → ℕ) (k : Kind) (b : Based) (records : List (Record Deed)) (items : List (Left T)) → IsWellFormed k b → IsLegalOn k b records → AreLeft (opening b ++ records) (map (leaving_of mark) items) →
    (delivered returned kept offered met got awaiting others gave most : ℕ) →
    delivered ≡ met_by b records → met ≡ takers_met_on b records → got ≡ count_by (λ r. is_got r.deed) records → awaiting ≡ met - got →
    kept ≡ count_by (λ a. stands_kept a.standing) items → others ≡ count_by (λ a. not (stands_kept a.standing)) items → offered ≡ others - awaiting →
    gave ≡ gave_on b records → most ≡ length records →
    ((rest : ℕ) → gave ≡ delivered + rest + kept + offered → rest ≤ most → returned ≡ rest) →
    ◌≡◌ {A = Tally} (record { delivered = delivered; returned = returned; kept = kept; offered = offered }) (tally_in (opening b ++ records))
tally_is mark k b records items w legal are delivered returned kept offered met got awaiting others gave most ed em eg ea ek eo ef ev es er =
    λ i. record { delivered = same_delivered i; returned = same_returned i; kept = same_kept i; offered = same_offered i }
  where
    n : Reckoned b records (map (leaving_of mark) items)
    n = reckoned k b records (map (leaving_of mark) items) w legal are

    same_delivered : delivered ≡ given_in is_delivered (opening b ++ records)
    same_delivered = ed ∙ sym n.delivered

    same_kept : kept ≡ given_in is_kept (opening b ++ records)
    same_kept = ek ∙ sym (count_standing mark stands_kept items) ∙ sym n.kept

    same_offered : offered ≡ given_in is_offered (opening b ++ records)
    same_offered =
        let all = n.others in
        let takers = n.awaits in
        let standing = count_standing mark (λ x. not (stands_kept x)) items in
        omega (arith, all, takers, standing, em, eg, ea, eo, ef)

    same_returned : returned ≡ given_in is_returned (opening b ++ records)
    same_returned =
        let few = n.few in
        let all = n.gave in
        er (given_in is_returned (opening b ++ records)) (omega (arith, all, ev, same_delivered, same_kept, same_offered)) (omega (arith, few, es))
