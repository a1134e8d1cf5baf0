-- A call's next deed where a place is known: what the rules and the call's form allow is what the search makes, and no
-- other.
use Rattle.std.proofs.Common.{◌≡◌, ℕ, Bool, true, false, IsSome, Option, Some, None, List, refl, sym, ap, ◌∙◌, subst}
use Rattle.std.specs.Option.{option_map_or}
use Rattle.std.specs.Prelude.{◌<◌, option_map, nat_lt, if◌then◌else◌, MatchOption, ⊤}
use Rattle.std.proofs.lemmas.Bool.{eq-eqb, lt-ltb, ltb-true}
use Rattle.meet_tickets.specs.declared.lines.Entry.{Entry}
use Rattle.meet_tickets.specs.declared.lines.Hold.{Hold}
use Rattle.meet_tickets.specs.declared.lines.Hold.TheVariants.{Free, Waiting}
use Rattle.meet_tickets.specs.declared.places.Side.TheVariants.{Giver, Taker}
use Rattle.meet_tickets.specs.declared.places.Kind.{Kind}
use Rattle.meet_tickets.specs.declared.records.Cause.TheVariants.{Expired, Interrupted}
use Rattle.meet_tickets.specs.declared.records.Deed.{Deed}
use Rattle.meet_tickets.specs.declared.records.Deed.TheVariants.{GiveWaits, GiveMeets, GiveFails, GiveKept, TakeWaits, TakeMeets, TakeFails, EntryInterrupted, Done, Got, Withdrawn, Interrupt}
use Rattle.meet_tickets.specs.Meeting.{keeps, kept_count, MayKeep}
use Rattle.meet_tickets.specs.BySeat.{Seats, Allows, entry_of}
use Rattle.meet_overlap.specs.declared.calls.Patience.TheVariants.{Now, Forever, Timed}
use Rattle.meet_overlap.specs.declared.calls.Verb.{Verb}
use Rattle.meet_overlap.specs.declared.calls.Verb.TheVariants.{Keep, Give, Take, Interrupt as InterruptSeat}
use Rattle.meet_overlap.specs.Calls.{Begins, Ends}
use Rattle.meet_overlap.specs.Explaining.{FailsFull}
use Rattle.meet_overlap.specs.Search.{may_keep, giving, taking, unless_open, request_of, expiry, giver_ending, taker_ending, ending_of, is_held}

-- a request of a free seat
free_passes : (h : Hold ℕ) (o : Option Deed) → h ≡ Free → unless_open h o ≡ o
free_passes h o e = ap (λ x. unless_open x o) e

-- a giver that finds a taker meets it
finds_taker : (m n u : ℕ) (o : Option (Entry ℕ)) (alone : Option Deed) (e : Entry ℕ) → o ≡ Some e → e.ticket ≡ u → e.item ≡ None → n ≡ m →
    option_map_or (giving m) o alone ≡ Some (GiveMeets n u)
finds_taker m n u o alone e found ticket item same =
    ap (λ x. option_map_or (giving m) x alone) found
    ∙ ap (λ x. option_map_or (λ _. None) x (Some (GiveMeets m e.ticket))) item
    ∙ (cc)

-- a taker that finds a giver meets it
finds_giver : (n u : ℕ) (o : Option (Entry ℕ)) (alone : Option Deed) (e : Entry ℕ) → o ≡ Some e → e.ticket ≡ u → e.item ≡ Some n →
    option_map_or taking o alone ≡ Some (TakeMeets n u)
finds_giver n u o alone e found ticket item =
    ap (λ x. option_map_or taking x alone) found
    ∙ ap (option_map (λ m. TakeMeets m e.ticket)) item
    ∙ (cc)

-- one that finds nobody does what it does alone
finds_none : {A : Type 0} (f : Entry ℕ → A) (o : Option (Entry ℕ)) (alone : A) → o ≡ None → option_map_or f o alone ≡ alone
finds_none f o alone e = ap (λ x. option_map_or f x alone) e

-- whether as many items as a line keeps are fewer than a bound
abbrev within_bound : List (Entry ℕ) → Option ℕ → Bool
within_bound line bound = option_map_or (λ most. nat_lt (kept_count line) most) bound true

-- an item that may be kept passes the test
kept_passes : (k : Kind) (line : List (Entry ℕ)) → MayKeep k line → may_keep k line ≡ true
kept_passes k line h = ap (λ x. if x then within_bound line k.bound else false) h.0 ∙ passes k.bound h.1
  where
    passes : (bound : Option ℕ) → MatchOption bound ⊤ (λ most. kept_count line < most) → within_bound line bound ≡ true
    passes None h = refl
    passes (Some most) h = lt-ltb (kept_count line) most h

-- one that may not doesn't
kept_fails : (k : Kind) (line : List (Entry ℕ)) → (MayKeep k line → ⊥) → may_keep k line ≡ false
kept_fails k line h = by_order (keeps k.order) refl
  where
    by_count : (most : ℕ) (b : Bool) → nat_lt (kept_count line) most ≡ b → ((kept_count line < most) → ⊥) → b ≡ false
    by_count most true is never = absurd (never (ltb-true (kept_count line) most is))
    by_count most false is never = refl

    by_bound : (bound : Option ℕ) → (MatchOption bound ⊤ (λ most. kept_count line < most) → ⊥) → within_bound line bound ≡ false
    by_bound None never = absurd (never tt)
    by_bound (Some most) never = by_count most (nat_lt (kept_count line) most) refl never

    by_order : (b : Bool) → keeps k.order ≡ b → (if b then within_bound line k.bound else false) ≡ false
    by_order true is = by_bound k.bound (λ within. h (is, within))
    by_order false is = refl

-- the request that the rules and the call's form allow is the one that the search makes
pub request_made : (k : Kind) (s : Seats ℕ) (i t : ℕ) (verb : Verb) (d : Deed) → Begins verb d → Allows k s i t d → FailsFull k s.line verb d → request_of k s i verb ≡ Some d
request_made k s i t (Keep m) (GiveMeets n u) b a full =
    free_passes (s.holds i) _ a.0 ∙ finds_taker m n u _ _ a.1.0 a.1.1 a.1.2 a.1.3 b
request_made k s i t (Keep m) (GiveKept n) b a full =
    free_passes (s.holds i) _ a.0 ∙ finds_none (giving m) _ _ a.1
    ∙ ap (λ x. if x then Some (GiveKept m) else Some (GiveFails m)) (kept_passes k s.line a.2) ∙ ap (λ x. Some (GiveKept x)) (sym b)
request_made k s i t (Keep m) (GiveFails n) b a full =
    free_passes (s.holds i) _ a.0 ∙ finds_none (giving m) _ _ a.1
    ∙ ap (λ x. if x then Some (GiveKept m) else Some (GiveFails m)) (kept_fails k s.line full) ∙ ap (λ x. Some (GiveFails x)) (sym b)
request_made k s i t (Give p m) (GiveMeets n u) b a full =
    free_passes (s.holds i) _ a.0 ∙ finds_taker m n u _ _ a.1.0 a.1.1 a.1.2 a.1.3 b
request_made k s i t (Give Now m) (GiveFails n) b a full =
    free_passes (s.holds i) _ a.0 ∙ finds_none (giving m) _ _ a.1 ∙ ap (λ x. Some (GiveFails x)) (sym b)
request_made k s i t (Give Forever m) (GiveWaits n) b a full =
    free_passes (s.holds i) _ a.0 ∙ finds_none (giving m) _ _ a.1
    ∙ ap (λ x. Some (if x then EntryInterrupted Giver else GiveWaits m)) a.2 ∙ ap (λ x. Some (GiveWaits x)) (sym b)
request_made k s i t (Give Timed m) (GiveWaits n) b a full =
    free_passes (s.holds i) _ a.0 ∙ finds_none (giving m) _ _ a.1
    ∙ ap (λ x. Some (if x then EntryInterrupted Giver else GiveWaits m)) a.2 ∙ ap (λ x. Some (GiveWaits x)) (sym b)
request_made k s i t (Give Forever m) (EntryInterrupted Giver) b a full =
    free_passes (s.holds i) _ a.0 ∙ finds_none (giving m) _ _ a.1
    ∙ ap (λ x. Some (if x then EntryInterrupted Giver else GiveWaits m)) a.2
request_made k s i t (Give Timed m) (EntryInterrupted Giver) b a full =
    free_passes (s.holds i) _ a.0 ∙ finds_none (giving m) _ _ a.1
    ∙ ap (λ x. Some (if x then EntryInterrupted Giver else GiveWaits m)) a.2
request_made k s i t (Take p) (TakeMeets n u) b a full =
    free_passes (s.holds i) _ a.0 ∙ finds_giver n u _ _ a.1.0 a.1.1 a.1.2 a.1.3
request_made k s i t (Take Now) TakeFails b a full =
    free_passes (s.holds i) _ a.0 ∙ finds_none taking _ _ a.1
request_made k s i t (Take Forever) TakeWaits b a full =
    free_passes (s.holds i) _ a.0 ∙ finds_none taking _ _ a.1 ∙ ap (λ x. Some (if x then EntryInterrupted Taker else TakeWaits)) a.2
request_made k s i t (Take Timed) TakeWaits b a full =
    free_passes (s.holds i) _ a.0 ∙ finds_none taking _ _ a.1 ∙ ap (λ x. Some (if x then EntryInterrupted Taker else TakeWaits)) a.2
request_made k s i t (Take Forever) (EntryInterrupted Taker) b a full =
    free_passes (s.holds i) _ a.0 ∙ finds_none taking _ _ a.1 ∙ ap (λ x. Some (if x then EntryInterrupted Taker else TakeWaits)) a.2
request_made k s i t (Take Timed) (EntryInterrupted Taker) b a full =
    free_passes (s.holds i) _ a.0 ∙ finds_none taking _ _ a.1 ∙ ap (λ x. Some (if x then EntryInterrupted Taker else TakeWaits)) a.2
request_made k s i t (InterruptSeat j) (Interrupt h) b a full = ap (λ x. Some (Interrupt x)) (sym b)
request_made k s i t verb d b a full = absurd b

-- an ending that the rules and the call's form allow is of the ticket that the seat holds
pub ending_held : (k : Kind) (s : Seats ℕ) (i t : ℕ) (verb : Verb) (d : Deed) → Ends verb d → Allows k s i t d → is_held t (s.holds i) ≡ true
ending_held k s i t (Give p m) Done b a = ap (is_held t) a.2 ∙ eq-eqb t t refl
ending_held k s i t (Give Timed m) (Withdrawn Expired) b a = ap (is_held t) a.0 ∙ eq-eqb t t refl
ending_held k s i t (Give p m) (Withdrawn Interrupted) b a = ap (is_held t) a.1 ∙ eq-eqb t t refl
ending_held k s i t (Take p) (Got n u) b a = ap (is_held t) a ∙ eq-eqb t t refl
ending_held k s i t (Take Timed) (Withdrawn Expired) b a = ap (is_held t) a.0 ∙ eq-eqb t t refl
ending_held k s i t (Take p) (Withdrawn Interrupted) b a = ap (is_held t) a.1 ∙ eq-eqb t t refl
ending_held k s i t verb d b a = absurd b

-- a ticket in the line may run out
lined_runs_out : (line : List (Entry ℕ)) (h : Hold ℕ) (t : ℕ) → h ≡ Waiting t → IsSome (entry_of line h) → expiry line Timed t ≡ Some (Withdrawn Expired)
lined_runs_out line h t e some =
    let found : IsSome (entry_of line (Waiting t)) = subst (λ x. IsSome (entry_of line x)) e some in
    ap (λ x. if x then Some (Withdrawn Expired) else None) found

-- and is the one that the search makes
pub ending_made : (k : Kind) (s : Seats ℕ) (i t : ℕ) (verb : Verb) (d : Deed) → Ends verb d → Allows k s i t d → ending_of s.line verb (s.holds i) ≡ Some d
ending_made k s i t (Give p m) Done b a = ap (giver_ending s.line p) a.2
ending_made k s i t (Give Timed m) (Withdrawn Expired) b a = ap (giver_ending s.line Timed) a.0 ∙ lined_runs_out s.line (s.holds i) t a.0 a.1
ending_made k s i t (Give p m) (Withdrawn Interrupted) b a = ap (giver_ending s.line p) a.1
ending_made k s i t (Take p) (Got n u) b a = ap (taker_ending s.line p) a
ending_made k s i t (Take Timed) (Withdrawn Expired) b a = ap (taker_ending s.line Timed) a.0 ∙ lined_runs_out s.line (s.holds i) t a.0 a.1
ending_made k s i t (Take p) (Withdrawn Interrupted) b a = ap (taker_ending s.line p) a.1
ending_made k s i t verb d b a = absurd b
