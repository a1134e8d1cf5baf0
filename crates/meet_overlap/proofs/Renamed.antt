-- Tickets are names: where each is exchanged for another of its own, the same deeds may come next, and leave the same.
use Rattle.std.proofs.Common.{◌≡◌, ℕ, suc, zero, ◌+◌, ◌-◌, ◌==◌, Bool, true, false, cond, is_some, Option, Some, None, List, [], ◌∷◌, map, find, take, length, refl, sym, ap, ◌∙◌, ⊎_elim}
use Rattle.std.proofs.Math.Path.{fun_ext}
use Rattle.std.specs.Option.{option_map_or}
use Rattle.std.specs.Prelude.{option_map, slice_get, fold, not, nat_lt, if◌then◌else◌}
use Rattle.std.proofs.lemmas.Bool.{eq-eqb, ne_eqb}
use Rattle.std.proofs.lemmas.Bool.Decides.{eqb_tells}
use Rattle.std.proofs.lemmas.List.{map-append, drop-map, take-map, length-map}
use Rattle.meet_tickets.specs.declared.lines.Entry.{Entry}
use Rattle.meet_tickets.specs.declared.lines.Hold.{Hold}
use Rattle.meet_tickets.specs.declared.lines.Hold.TheVariants.{Free, Waiting, Handed, Served, Cut}
use Rattle.meet_tickets.specs.declared.places.Side.{Side}
use Rattle.meet_tickets.specs.declared.places.Side.TheVariants.{Giver, Taker}
use Rattle.meet_tickets.specs.declared.places.End.{End}
use Rattle.meet_tickets.specs.declared.places.End.TheVariants.{Front, Back}
use Rattle.meet_tickets.specs.declared.places.Kind.{Kind}
use Rattle.meet_tickets.specs.declared.records.Record.{Record}
use Rattle.meet_tickets.specs.declared.records.Cause.TheVariants.{Cancelled, Expired, Interrupted}
use Rattle.meet_tickets.specs.declared.records.Deed.{Deed}
use Rattle.meet_tickets.specs.declared.records.Deed.TheVariants.{GiveWaits, GiveMeets, GiveFails, GiveKept, TakeWaits, TakeMeets, TakeFails, EntryInterrupted, Done, Got, Withdrawn, Interrupt}
use Rattle.meet_tickets.specs.Meeting.{is_on, met, partner, end_of, keeps, kept_count}
use Rattle.meet_tickets.specs.BySeat.{Seats, Moment, put_at, entry_of, unmet, without_first, paired_hold, paired, meets, cut_off, interrupted, cut_ticket, is_request, seats_after, moment_after, flagged}
use Rattle.meet_overlap.specs.declared.calls.Patience.{Patience}
use Rattle.meet_overlap.specs.declared.calls.Patience.TheVariants.{Now, Forever, Timed}
use Rattle.meet_overlap.specs.declared.calls.Verb.{Verb}
use Rattle.meet_overlap.specs.declared.calls.Verb.TheVariants.{Keep, Give, Take, Interrupt as InterruptSeat}
use Rattle.meet_overlap.specs.declared.calls.Call.{Call}
use Rattle.meet_overlap.specs.declared.calls.Stage.{Stage}
use Rattle.meet_overlap.specs.declared.calls.Stage.TheVariants.{Ahead, Open, Over}
use Rattle.meet_overlap.specs.Calls.{told_by, stage_told, stage_after, MayStop}
use Rattle.meet_overlap.specs.Search.{may_keep, giving, taking, giving_alone, taking_alone, unless_open, request_of, expiry, ending_of, is_held, deed_of}

-- other names for tickets: each has its own, and 0 names none
pub record IsNaming (g : ℕ → ℕ) : Type 0 where
  pub zero_names_none : g 0 ≡ 0
  pub own : (a b : ℕ) → g a ≡ g b → a ≡ b

module _ (g : ℕ → ℕ) where
  abbrev pub rename_deed : Deed → Deed
  rename_deed (GiveWaits m) = GiveWaits m
  rename_deed (GiveMeets m u) = GiveMeets m (g u)
  rename_deed (GiveFails m) = GiveFails m
  rename_deed (GiveKept m) = GiveKept m
  rename_deed TakeWaits = TakeWaits
  rename_deed (TakeMeets m u) = TakeMeets m (g u)
  rename_deed TakeFails = TakeFails
  rename_deed (EntryInterrupted side) = EntryInterrupted side
  rename_deed Done = Done
  rename_deed (Got m u) = Got m (g u)
  rename_deed (Withdrawn cause) = Withdrawn cause
  rename_deed (Interrupt j) = Interrupt j

  abbrev pub rename_record : Record Deed → Record Deed
  rename_record r = record { seat = r.seat; ticket = g r.ticket; deed = rename_deed r.deed }

  abbrev pub rename_entry : Entry ℕ → Entry ℕ
  rename_entry e = record { ticket = g e.ticket; seat = e.seat; item = e.item; waits = e.waits }

  abbrev pub rename_hold : Hold ℕ → Hold ℕ
  rename_hold Free = Free
  rename_hold (Waiting t) = Waiting (g t)
  rename_hold (Handed t u mark) = Handed (g t) (g u) mark
  rename_hold (Served t u item) = Served (g t) (g u) item
  rename_hold (Cut t item) = Cut (g t) item

  abbrev pub rename_stage : Stage → Stage
  rename_stage Ahead = Ahead
  rename_stage (Open t) = Open (g t)
  rename_stage Over = Over

  abbrev pub rename_seats : Seats ℕ → Seats ℕ
  rename_seats s = record { line = map rename_entry s.line; holds = λ i. rename_hold (s.holds i); flags = s.flags }

  abbrev pub rename_moment : Moment → Moment
  rename_moment m = record { last = g m.last; seats = rename_seats m.seats }

  -- what a deed tells, and whether it is a request, is no matter of names
  pub told_alike : (d : Deed) → told_by (rename_deed d) ≡ told_by d
  told_alike (GiveWaits m) = refl
  told_alike (GiveMeets m u) = refl
  told_alike (GiveFails m) = refl
  told_alike (GiveKept m) = refl
  told_alike TakeWaits = refl
  told_alike (TakeMeets m u) = refl
  told_alike TakeFails = refl
  told_alike (EntryInterrupted side) = refl
  told_alike Done = refl
  told_alike (Got m u) = refl
  told_alike (Withdrawn Cancelled) = refl
  told_alike (Withdrawn Expired) = refl
  told_alike (Withdrawn Interrupted) = refl
  told_alike (Interrupt j) = refl

  pub requests_alike : (d : Deed) → is_request (rename_deed d) ≡ is_request d
  requests_alike (GiveWaits m) = refl
  requests_alike (GiveMeets m u) = refl
  requests_alike (GiveFails m) = refl
  requests_alike (GiveKept m) = refl
  requests_alike TakeWaits = refl
  requests_alike (TakeMeets m u) = refl
  requests_alike TakeFails = refl
  requests_alike (EntryInterrupted side) = refl
  requests_alike Done = refl
  requests_alike (Got m u) = refl
  requests_alike (Withdrawn cause) = refl
  requests_alike (Interrupt j) = refl

  pub stops_alike : (call : Call) (s : Stage) → MayStop call (rename_stage s) → MayStop call s
  stops_alike call Ahead h = h
  stops_alike call (Open t) h = h
  stops_alike call Over h = tt

  stage_told_alike : (t : ℕ) (o : Option _) → stage_told (g t) o ≡ rename_stage (stage_told t o)
  stage_told_alike t None = refl
  stage_told_alike t (Some a) = refl

  pub stage_alike : (s : Stage) (r : Record Deed) → stage_after (rename_stage s) (rename_record r) ≡ rename_stage (stage_after s r)
  stage_alike Ahead r = ap (stage_told (g r.ticket)) (told_alike r.deed) ∙ stage_told_alike r.ticket (told_by r.deed)
  stage_alike (Open t) r = refl
  stage_alike Over r = refl

  cond_alike : {A B : Type 0} (f : A → B) (b : Bool) (x y : A) → cond b (f x) (f y) ≡ f (cond b x y)
  cond_alike f true x y = refl
  cond_alike f false x y = refl

  pub put_alike : {A : Type 0} (f : A → A) (h : ℕ → A) (key : ℕ) (v : A) → put_at (λ j. f (h j)) key (f v) ≡ (λ j. f (put_at h key v j))
  put_alike f h key v = fun_ext λ j. cond_alike f (j == key) v (h j)

  is_on_alike : (side : Side) (e : Entry ℕ) → is_on side (rename_entry e) ≡ is_on side e
  is_on_alike Giver e = refl
  is_on_alike Taker e = refl

  slice_get_alike : (line : List (Entry ℕ)) (n : ℕ) → slice_get (map rename_entry line) n ≡ option_map rename_entry (slice_get line n)
  slice_get_alike [] n = refl
  slice_get_alike (e ∷ line) zero = refl
  slice_get_alike (e ∷ line) (suc n) = slice_get_alike line n

  met_alike : (end : End) (line : List (Entry ℕ)) → met end (map rename_entry line) ≡ option_map rename_entry (met end line)
  met_alike Front line = slice_get_alike line 0
  met_alike Back line = ap (λ n. slice_get (map rename_entry line) (n - 1)) (length-map line rename_entry) ∙ slice_get_alike line (length line - 1)

  cond_none : (b : Bool) (o : Option (Entry ℕ)) → cond b None (option_map rename_entry o) ≡ option_map rename_entry (cond b None o)
  cond_none true o = refl
  cond_none false o = refl

  partner_alike : (end : End) (line : List (Entry ℕ)) (side : Side) → partner end (map rename_entry line) side ≡ option_map rename_entry (partner end line side)
  partner_alike end [] side = refl
  partner_alike end (e ∷ line) side =
      ap (λ b. cond b None (met end (map rename_entry (e ∷ line)))) (is_on_alike side e)
      ∙ ap (cond (is_on side e) None) (met_alike end (e ∷ line))
      ∙ cond_none (is_on side e) (met end (e ∷ line))

  counted_alike : (n : ℕ) (line : List (Entry ℕ)) →
      fold (λ a (e : Entry ℕ). a + cond (not e.waits) 1 0) n (map rename_entry line) ≡ fold (λ a (e : Entry ℕ). a + cond (not e.waits) 1 0) n line
  counted_alike n [] = refl
  counted_alike n (e ∷ line) = counted_alike (n + cond (not e.waits) 1 0) line

  kept_alike : (line : List (Entry ℕ)) → kept_count (map rename_entry line) ≡ kept_count line
  kept_alike line = counted_alike 0 line

  may_keep_alike : (k : Kind) (line : List (Entry ℕ)) → may_keep k (map rename_entry line) ≡ may_keep k line
  may_keep_alike k line = ap (λ n. if keeps k.order then option_map_or (λ most. nat_lt n most) k.bound true else false) (kept_alike line)

  unless_alike : (h : Hold ℕ) (o : Option Deed) → unless_open (rename_hold h) (option_map rename_deed o) ≡ option_map rename_deed (unless_open h o)
  unless_alike Free o = refl
  unless_alike (Waiting t) o = refl
  unless_alike (Handed t u mark) o = refl
  unless_alike (Served t u item) o = refl
  unless_alike (Cut t item) o = refl

  giving_alike : (m : ℕ) (o : Option (Entry ℕ)) (alone : Option Deed) →
      option_map_or (giving m) (option_map rename_entry o) (option_map rename_deed alone) ≡ option_map rename_deed (option_map_or (giving m) o alone)
  giving_alike m None alone = refl
  giving_alike m (Some e) alone = by_item e.item
    where
      by_item : (item : Option ℕ) → option_map_or (λ _. None) item (Some (GiveMeets m (g e.ticket))) ≡ option_map rename_deed (option_map_or (λ _. None) item (Some (GiveMeets m e.ticket)))
      by_item None = refl
      by_item (Some x) = refl

  taking_alike : (o : Option (Entry ℕ)) (alone : Option Deed) →
      option_map_or taking (option_map rename_entry o) (option_map rename_deed alone) ≡ option_map rename_deed (option_map_or taking o alone)
  taking_alike None alone = refl
  taking_alike (Some e) alone = by_item e.item
    where
      by_item : (item : Option ℕ) → option_map (λ m. TakeMeets m (g e.ticket)) item ≡ option_map rename_deed (option_map (λ m. TakeMeets m e.ticket) item)
      by_item None = refl
      by_item (Some x) = refl

  giver_alone_alike : (k : Kind) (line : List (Entry ℕ)) (flag : Bool) (verb : Verb) → giving_alone k (map rename_entry line) flag verb ≡ option_map rename_deed (giving_alone k line flag verb)
  giver_alone_alike k line flag (Keep m) = ap (λ b. if b then Some (GiveKept m) else Some (GiveFails m)) (may_keep_alike k line) ∙ by_test (may_keep k line)
    where
      by_test : (b : Bool) → cond b (Some (GiveKept m)) (Some (GiveFails m)) ≡ option_map rename_deed (cond b (Some (GiveKept m)) (Some (GiveFails m)))
      by_test true = refl
      by_test false = refl
  giver_alone_alike k line flag (Give Now m) = refl
  giver_alone_alike k line true (Give Forever m) = refl
  giver_alone_alike k line false (Give Forever m) = refl
  giver_alone_alike k line true (Give Timed m) = refl
  giver_alone_alike k line false (Give Timed m) = refl
  giver_alone_alike k line flag (Take p) = refl
  giver_alone_alike k line flag (InterruptSeat j) = refl

  taker_alone_alike : (flag : Bool) (p : Patience) → taking_alone flag p ≡ option_map rename_deed (taking_alone flag p)
  taker_alone_alike flag Now = refl
  taker_alone_alike true Forever = refl
  taker_alone_alike false Forever = refl
  taker_alone_alike true Timed = refl
  taker_alone_alike false Timed = refl

  giver_alike : (k : Kind) (s : Seats ℕ) (i m : ℕ) (verb : Verb) →
      unless_open (rename_hold (s.holds i)) (option_map_or (giving m) (partner (end_of k.order) (map rename_entry s.line) Giver) (giving_alone k (map rename_entry s.line) (s.flags i) verb))
      ≡ option_map rename_deed (unless_open (s.holds i) (option_map_or (giving m) (partner (end_of k.order) s.line Giver) (giving_alone k s.line (s.flags i) verb)))
  giver_alike k s i m verb =
      ap (λ x. unless_open (rename_hold (s.holds i)) (option_map_or (giving m) x (giving_alone k (map rename_entry s.line) (s.flags i) verb))) (partner_alike (end_of k.order) s.line Giver)
      ∙ ap (λ x. unless_open (rename_hold (s.holds i)) (option_map_or (giving m) (option_map rename_entry (partner (end_of k.order) s.line Giver)) x)) (giver_alone_alike k s.line (s.flags i) verb)
      ∙ ap (unless_open (rename_hold (s.holds i))) (giving_alike m (partner (end_of k.order) s.line Giver) (giving_alone k s.line (s.flags i) verb))
      ∙ unless_alike (s.holds i) (option_map_or (giving m) (partner (end_of k.order) s.line Giver) (giving_alone k s.line (s.flags i) verb))

  request_alike : (k : Kind) (s : Seats ℕ) (i : ℕ) (verb : Verb) → request_of k (rename_seats s) i verb ≡ option_map rename_deed (request_of k s i verb)
  request_alike k s i (Keep m) = giver_alike k s i m (Keep m)
  request_alike k s i (Give p m) = giver_alike k s i m (Give p m)
  request_alike k s i (Take p) =
      ap (λ x. unless_open (rename_hold (s.holds i)) (option_map_or taking x (taking_alone (s.flags i) p))) (partner_alike (end_of k.order) s.line Taker)
      ∙ ap (λ x. unless_open (rename_hold (s.holds i)) (option_map_or taking (option_map rename_entry (partner (end_of k.order) s.line Taker)) x)) (taker_alone_alike (s.flags i) p)
      ∙ ap (unless_open (rename_hold (s.holds i))) (taking_alike (partner (end_of k.order) s.line Taker) (taking_alone (s.flags i) p))
      ∙ unless_alike (s.holds i) (option_map_or taking (partner (end_of k.order) s.line Taker) (taking_alone (s.flags i) p))
  request_alike k s i (InterruptSeat j) = refl

-- seats of the same parts are the same
pub same_seats : (line line' : List (Entry ℕ)) (holds holds' : ℕ → Hold ℕ) (flags : ℕ → Bool) → line ≡ line' → holds ≡ holds' →
    Path (Seats ℕ) (record { line = line; holds = holds; flags = flags }) (record { line = line'; holds = holds'; flags = flags })
same_seats line line' holds holds' flags p q =
    let lines : Path (Seats ℕ) (record { line = line; holds = holds; flags = flags }) (record { line = line'; holds = holds; flags = flags }) =
    ap (λ l. record { line = l; holds = holds; flags = flags }) p in
    let rest : Path (Seats ℕ) (record { line = line'; holds = holds; flags = flags }) (record { line = line'; holds = holds'; flags = flags }) =
    ap (λ h. record { line = line'; holds = h; flags = flags }) q in
    lines ∙ rest

module _ (g : ℕ → ℕ) (naming : IsNaming g) where
  -- names are one where the tickets are
  names_alike : (a b : ℕ) → (g a == g b) ≡ (a == b)
  names_alike a b = ⊎_elim
      (λ q. eq-eqb (g a) (g b) (ap g q.1) ∙ sym q.0)
      (λ q. ne_eqb (g a) (g b) (λ z. q.1 (naming.own a b z)) ∙ sym q.0)
      (eqb_tells a b)

  find_alike : (t : ℕ) (line : List (Entry ℕ)) → find (λ e. e.ticket == g t) (map (rename_entry g) line) ≡ option_map (rename_entry g) (find (λ e. e.ticket == t) line)
  find_alike t [] = refl
  find_alike t (e ∷ line) =
      ap (λ b. cond b (Some (rename_entry g e)) (find (λ x. x.ticket == g t) (map (rename_entry g) line))) (names_alike e.ticket t)
      ∙ ap (cond (e.ticket == t) (Some (rename_entry g e))) (find_alike t line)
      ∙ by_test (e.ticket == t)
    where
      by_test : (b : Bool) → cond b (Some (rename_entry g e)) (option_map (rename_entry g) (find (λ x. x.ticket == t) line)) ≡ option_map (rename_entry g) (cond b (Some e) (find (λ x. x.ticket == t) line))
      by_test true = refl
      by_test false = refl

  some_alike : (o : Option (Entry ℕ)) → is_some (option_map (rename_entry g) o) ≡ is_some o
  some_alike None = refl
  some_alike (Some e) = refl

  expiry_alike : (line : List (Entry ℕ)) (p : Patience) (t : ℕ) → expiry (map (rename_entry g) line) p (g t) ≡ option_map (rename_deed g) (expiry line p t)
  expiry_alike line Now t = refl
  expiry_alike line Forever t = refl
  expiry_alike line Timed t =
      ap (λ o. if is_some o then Some (Withdrawn Expired) else None) (find_alike t line)
      ∙ ap (λ b. if b then Some (Withdrawn Expired) else None) (some_alike (find (λ e. e.ticket == t) line))
      ∙ by_test (is_some (find (λ e. e.ticket == t) line))
    where
      by_test : (b : Bool) → cond b (Some (Withdrawn Expired)) None ≡ option_map (rename_deed g) (cond b (Some (Withdrawn Expired)) None)
      by_test true = refl
      by_test false = refl

  ending_alike : (line : List (Entry ℕ)) (verb : Verb) (h : Hold ℕ) → ending_of (map (rename_entry g) line) verb (rename_hold g h) ≡ option_map (rename_deed g) (ending_of line verb h)
  ending_alike line (Keep m) h = refl
  ending_alike line (Give p m) Free = refl
  ending_alike line (Give p m) (Waiting t) = expiry_alike line p t
  ending_alike line (Give p m) (Handed t u mark) = refl
  ending_alike line (Give p m) (Served t u item) = refl
  ending_alike line (Give p m) (Cut t item) = refl
  ending_alike line (Take p) Free = refl
  ending_alike line (Take p) (Waiting t) = expiry_alike line p t
  ending_alike line (Take p) (Handed t u mark) = refl
  ending_alike line (Take p) (Served t u item) = refl
  ending_alike line (Take p) (Cut t item) = refl
  ending_alike line (InterruptSeat j) h = refl

  held_alike : (t : ℕ) (h : Hold ℕ) → is_held (g t) (rename_hold g h) ≡ is_held t h
  held_alike t Free = refl
  held_alike t (Waiting u) = names_alike u t
  held_alike t (Handed u v mark) = names_alike u t
  held_alike t (Served u v item) = names_alike u t
  held_alike t (Cut u item) = names_alike u t

  -- the next deed of a call is the same
  pub deed_alike : (k : Kind) (s : Seats ℕ) (call : Call) (stage : Stage) → deed_of k (rename_seats g s) call (rename_stage g stage) ≡ option_map (rename_deed g) (deed_of k s call stage)
  deed_alike k s call Ahead = request_alike g k s call.seat call.verb
  deed_alike k s call (Open t) =
      ap (λ b. if b then ending_of (map (rename_entry g) s.line) call.verb (rename_hold g (s.holds call.seat)) else None) (held_alike t (s.holds call.seat))
      ∙ ap (λ o. if is_held t (s.holds call.seat) then o else None) (ending_alike s.line call.verb (s.holds call.seat))
      ∙ by_test (is_held t (s.holds call.seat))
    where
      by_test : (b : Bool) → cond b (option_map (rename_deed g) (ending_of s.line call.verb (s.holds call.seat))) None ≡ option_map (rename_deed g) (cond b (ending_of s.line call.verb (s.holds call.seat)) None)
      by_test true = refl
      by_test false = refl
  deed_alike k s call Over = refl

  without_alike : (t : ℕ) (line : List (Entry ℕ)) → without_first (λ e. e.ticket == g t) (map (rename_entry g) line) ≡ map (rename_entry g) (without_first (λ e. e.ticket == t) line)
  without_alike t [] = refl
  without_alike t (e ∷ line) =
      ap (λ b. cond b (map (rename_entry g) line) (rename_entry g e ∷ without_first (λ x. x.ticket == g t) (map (rename_entry g) line))) (names_alike e.ticket t)
      ∙ ap (λ l. cond (e.ticket == t) (map (rename_entry g) line) (rename_entry g e ∷ l)) (without_alike t line)
      ∙ cond_alike g (map (rename_entry g)) (e.ticket == t) line (e ∷ without_first (λ x. x.ticket == t) line)

  entry_alike : (line : List (Entry ℕ)) (h : Hold ℕ) → entry_of (map (rename_entry g) line) (rename_hold g h) ≡ option_map (rename_entry g) (entry_of line h)
  entry_alike line Free = refl
  entry_alike line (Waiting t) = find_alike t line
  entry_alike line (Handed t u mark) = refl
  entry_alike line (Served t u item) = refl
  entry_alike line (Cut t item) = refl

  -- the ticket that an interrupt cuts is the same
  pub cut_alike : (s : Seats ℕ) (j : ℕ) → cut_ticket (rename_seats g s) j ≡ g (cut_ticket s j)
  cut_alike s j = ap (λ o. option_map_or (λ (e : Entry ℕ). e.ticket) o 0) (entry_alike s.line (s.holds j)) ∙ by_entry (entry_of s.line (s.holds j))
    where
      by_entry : (o : Option (Entry ℕ)) → option_map_or (λ (e : Entry ℕ). e.ticket) (option_map (rename_entry g) o) 0 ≡ g (option_map_or (λ (e : Entry ℕ). e.ticket) o 0)
      by_entry None = sym naming.zero_names_none
      by_entry (Some e) = refl

  unmet_alike : (end : End) (line : List (Entry ℕ)) → unmet end (map (rename_entry g) line) ≡ map (rename_entry g) (unmet end line)
  unmet_alike Front line = drop-map (rename_entry g) 1 line
  unmet_alike Back line = ap (λ n. take (n - 1) (map (rename_entry g) line)) (length-map line (rename_entry g)) ∙ take-map (rename_entry g) (length line - 1) line

  paired_hold_alike : (t : ℕ) (own : Option ℕ) (u : ℕ) (brought : Option ℕ) → paired_hold (λ m. m) (g t) own (g u) brought ≡ rename_hold g (paired_hold (λ m. m) t own u brought)
  paired_hold_alike t None u None = refl
  paired_hold_alike t None u (Some item) = refl
  paired_hold_alike t (Some x) u brought = refl

  paired_alike : (end : End) (s : Seats ℕ) (t : ℕ) (item : Option ℕ) (e : Entry ℕ) → paired (λ m. m) end (rename_seats g s) (g t) item (rename_entry g e) ≡ rename_seats g (paired (λ m. m) end s t item e)
  paired_alike end s t item e = same_seats _ _ _ _ s.flags (unmet_alike end s.line) (by_waits e.waits)
    where
      by_waits : (b : Bool) → cond b (put_at (λ i. rename_hold g (s.holds i)) e.seat (paired_hold (λ m. m) (g e.ticket) e.item (g t) item)) (λ i. rename_hold g (s.holds i))
          ≡ (λ j. rename_hold g (cond b (put_at s.holds e.seat (paired_hold (λ m. m) e.ticket e.item t item)) s.holds j))
      by_waits true = ap (put_at (λ i. rename_hold g (s.holds i)) e.seat) (paired_hold_alike e.ticket e.item t item) ∙ put_alike g (rename_hold g) s.holds e.seat (paired_hold (λ m. m) e.ticket e.item t item)
      by_waits false = refl

  meets_alike : (k : Kind) (s : Seats ℕ) (t : ℕ) (item : Option ℕ) (side : Side) → meets k (rename_seats g s) (g t) item side ≡ rename_seats g (meets k s t item side)
  meets_alike k s t item side =
      ap (λ o. option_map_or (paired (λ m. m) (end_of k.order) (rename_seats g s) (g t) item) o (rename_seats g s)) (partner_alike g (end_of k.order) s.line side)
      ∙ by_partner (partner (end_of k.order) s.line side)
    where
      by_partner : (o : Option (Entry ℕ)) → option_map_or (paired (λ m. m) (end_of k.order) (rename_seats g s) (g t) item) (option_map (rename_entry g) o) (rename_seats g s) ≡ rename_seats g (option_map_or (paired (λ m. m) (end_of k.order) s t item) o s)
      by_partner None = refl
      by_partner (Some e) = paired_alike (end_of k.order) s t item e

  interrupted_alike : (s : Seats ℕ) (j : ℕ) → interrupted (rename_seats g s) j ≡ rename_seats g (interrupted s j)
  interrupted_alike s j =
      ap (λ o. option_map_or (cut_off (rename_seats g s) j) o (flagged (rename_seats g s) j true)) (entry_alike s.line (s.holds j))
      ∙ by_entry (entry_of s.line (s.holds j))
    where
      by_entry : (o : Option (Entry ℕ)) → option_map_or (cut_off (rename_seats g s) j) (option_map (rename_entry g) o) (flagged (rename_seats g s) j true) ≡ rename_seats g (option_map_or (cut_off s j) o (flagged s j true))
      by_entry None = refl
      by_entry (Some e) = same_seats _ _ _ _ s.flags (without_alike e.ticket s.line) (put_alike g (rename_hold g) s.holds j (Cut e.ticket e.item))

  -- a deed leaves the same
  pub seats_alike : (k : Kind) (s : Seats ℕ) (i t : ℕ) (d : Deed) → seats_after k (rename_seats g s) i (g t) (rename_deed g d) ≡ rename_seats g (seats_after k s i t d)
  seats_alike k s i t (GiveWaits m) =
      same_seats _ _ _ _ s.flags (sym (map-append (rename_entry g) s.line (record { ticket = t; seat = i; item = Some m; waits = true } ∷ []))) (put_alike g (rename_hold g) s.holds i (Waiting t))
  seats_alike k s i t (GiveMeets m u) = meets_alike k s t (Some m) Giver
  seats_alike k s i t (GiveFails m) = refl
  seats_alike k s i t (GiveKept m) =
      same_seats _ _ _ _ s.flags (sym (map-append (rename_entry g) s.line (record { ticket = t; seat = i; item = Some m; waits = false } ∷ []))) refl
  seats_alike k s i t TakeWaits =
      same_seats _ _ _ _ s.flags (sym (map-append (rename_entry g) s.line (record { ticket = t; seat = i; item = None; waits = true } ∷ []))) (put_alike g (rename_hold g) s.holds i (Waiting t))
  seats_alike k s i t (TakeMeets m u) = meets_alike k s t None Taker
  seats_alike k s i t TakeFails = refl
  seats_alike k s i t (EntryInterrupted side) = refl
  seats_alike k s i t Done = same_seats _ _ _ _ s.flags refl (put_alike g (rename_hold g) s.holds i Free)
  seats_alike k s i t (Got m u) = same_seats _ _ _ _ s.flags refl (put_alike g (rename_hold g) s.holds i Free)
  seats_alike k s i t (Withdrawn Cancelled) = same_seats _ _ _ _ s.flags (without_alike t s.line) (put_alike g (rename_hold g) s.holds i Free)
  seats_alike k s i t (Withdrawn Expired) = same_seats _ _ _ _ s.flags (without_alike t s.line) (put_alike g (rename_hold g) s.holds i Free)
  seats_alike k s i t (Withdrawn Interrupted) = same_seats _ _ _ _ s.flags refl (put_alike g (rename_hold g) s.holds i Free)
  seats_alike k s i t (Interrupt j) = interrupted_alike s j

  last_alike : (b : Bool) (t n : ℕ) → cond b (g t) (g n) ≡ g (cond b t n)
  last_alike true t n = refl
  last_alike false t n = refl

  -- a record leaves the same
  pub moment_alike : (k : Kind) (m : Moment) (r : Record Deed) → moment_after k (rename_moment g m) (rename_record g r) ≡ rename_moment g (moment_after k m r)
  moment_alike k m r =
      let lasts : (if is_request (rename_deed g r.deed) then g r.ticket else g m.last) ≡ g (if is_request r.deed then r.ticket else m.last) =
      ap (λ b. cond b (g r.ticket) (g m.last)) (requests_alike g r.deed) ∙ last_alike (is_request r.deed) r.ticket m.last in
      let one : Path Moment (moment_after k (rename_moment g m) (rename_record g r)) (record { last = g (if is_request r.deed then r.ticket else m.last); seats = seats_after k (rename_seats g m.seats) r.seat (g r.ticket) (rename_deed g r.deed) }) =
      ap (λ l. record { last = l; seats = seats_after k (rename_seats g m.seats) r.seat (g r.ticket) (rename_deed g r.deed) }) lasts in
      let two : Path Moment (record { last = g (if is_request r.deed then r.ticket else m.last); seats = seats_after k (rename_seats g m.seats) r.seat (g r.ticket) (rename_deed g r.deed) }) (rename_moment g (moment_after k m r)) =
      ap (λ x. record { last = g (if is_request r.deed then r.ticket else m.last); seats = x }) (seats_alike k m.seats r.seat r.ticket r.deed) in
      one ∙ two
