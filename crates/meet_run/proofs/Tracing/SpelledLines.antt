-- A spelled line of a trace has a byte, and no end of line in it.
use Rattle.std.proofs.Common.{◌≡◌, ℕ, ◌^◌, ◌<◌, ◌≤◌, Bool, true, false, not, eqb, List, [], ◌∷◌, ◌++◌, Option, Some, None, refl, arith, length-append}
use Rattle.std.specs.Prelude.{decimal, codes}
use Rattle.std.specs.List.{list_all}
use Rattle.std.specs.Str.Parse.{AllDigits}
use Rattle.std.proofs.lemmas.Bool.{ne_eqb, and_parts, not-true}
use Rattle.std.proofs.lemmas.Fmt.{decimal_is_IsNumeral}
use Rattle.std.proofs.lemmas.Str.Parse.{digit_from_value}
use Rattle.meet_tickets.specs.declared.places.Side.{Side}
use Rattle.meet_tickets.specs.declared.places.Side.TheVariants.{Giver, Taker}
use Rattle.meet_tickets.specs.declared.places.Order.{Order}
use Rattle.meet_tickets.specs.declared.places.Order.TheVariants.{Fair, Unfair, Transfer}
use Rattle.meet_tickets.specs.declared.places.Kind.{Kind}
use Rattle.meet_tickets.specs.declared.records.Cause.{Cause}
use Rattle.meet_tickets.specs.declared.records.Cause.TheVariants.{Cancelled, Expired, Interrupted}
use Rattle.meet_tickets.specs.declared.records.Deed.{Deed}
use Rattle.meet_tickets.specs.declared.records.Deed.TheVariants.{GiveWaits, GiveMeets, GiveFails, GiveKept, TakeWaits, TakeMeets, TakeFails, EntryInterrupted, Done, Got, Withdrawn, Interrupt}
use Rattle.meet_tickets.specs.declared.records.Record.{Record}
use Rattle.meet_tickets.specs.Limits.{most_seats, last_ticket}
use Rattle.meet_history.specs.declared.pieces.Piece.{Piece}
use Rattle.meet_history.specs.declared.pieces.Piece.TheVariants.{Stands, Met, Cut, Flagged}
use Rattle.meet_run.specs.Scripts.Spelling.{place_text, option_text}
use Rattle.meet_run.specs.Scripts.Wording.{cause_text}
use Rattle.meet_run.specs.Tracing.TraceSpelling.{side_text, paired_text, deed_text, record_text, head_text, FitsPair, FitsDeed, FitsRecord, FitsHead}
use Rattle.meet_run.specs.Tracing.BaseWording.{placed_text, item_text, standing_text, piece_text, numbers_text, based_head_text}
use Rattle.meet_run.specs.Tracing.BaseSpelling.{FitsItem, FitsStanding, FitsPiece, FitsNumbers}
use Rattle.meet_run.proofs.Scripts.SetupLemmas.{may-of}
use Rattle.meet_run.proofs.Tracing.HeadLemmas.{kind_text}
use Rattle.meet_run.specs.Texts.Reading.{HasNoEnd}
use Rattle.meet_run.proofs.Texts.TextLines.{IsLine}

-- ---- no end of line

-- a word's letters are looked at one by one
plain-of : (xs : List ℕ) → list_all (λ b. not (eqb b 10)) xs ≡ true → HasNoEnd xs
plain-of [] all = tt
plain-of (b ∷ xs) all =
    let parts = and_parts (not (eqb b 10)) (list_all (λ b. not (eqb b 10)) xs) all in
    (not-true (eqb b 10) parts.0, plain-of xs parts.1)

plain-append : (xs ys : List ℕ) → HasNoEnd xs → HasNoEnd ys → HasNoEnd (xs ++ ys)
plain-append [] ys first rest = rest
plain-append (b ∷ xs) ys first rest = (first.0, plain-append xs ys first.1 rest)

-- two words, parted by a space
plain-both : (xs ys : List ℕ) → HasNoEnd xs → HasNoEnd ys → HasNoEnd (xs ++ 32 ∷ ys)
plain-both xs ys first rest = plain-append xs (32 ∷ ys) first (refl, rest)

plain-digits : (ds : List ℕ) → AllDigits 10 ds → HasNoEnd ds
plain-digits [] h = tt
plain-digits (d ∷ ds) h =
    let range = digit_from_value d h.0 in
    (ne_eqb d 10 (λ e. absurd (omega (arith, range.0))), plain-digits ds h.1)

plain-number : (n : ℕ) → n < 2 ^ 64 → HasNoEnd (decimal n)
plain-number n lt = plain-digits (decimal n) (decimal_is_IsNumeral n lt).0.1

plain-side : (side : Side) → HasNoEnd (side_text side)
plain-side Giver = plain-of (codes "give") refl
plain-side Taker = plain-of (codes "take") refl

plain-cause : (cause : Cause) → HasNoEnd (cause_text cause)
unfolding cause_text
plain-cause Cancelled = plain-of (codes "cancelled") refl
plain-cause Expired = plain-of (codes "expired") refl
plain-cause Interrupted = plain-of (codes "interrupted") refl

-- a word with a number behind it
plain-numbered : (word : List ℕ) (n : ℕ) → list_all (λ b. not (eqb b 10)) word ≡ true → n < 2 ^ 64 → HasNoEnd (word ++ decimal n)
plain-numbered word n all lt = plain-append word (decimal n) (plain-of word all) (plain-number n lt)

plain-pair : (word : List ℕ) (m u : ℕ) → list_all (λ b. not (eqb b 10)) word ≡ true → FitsPair m u → HasNoEnd (paired_text word m u)
plain-pair word m u all h =
    plain-append word (decimal m ++ 32 ∷ decimal u) (plain-of word all) (plain-both (decimal m) (decimal u) (plain-number m h.0) (plain-number u (omega (arith, h.1))))

plain-deed : (d : Deed) → FitsDeed d → HasNoEnd (deed_text d)
plain-deed (GiveWaits m) h = plain-numbered (codes "give-waits ") m refl h
plain-deed (GiveMeets m u) h = plain-pair (codes "give-meets ") m u refl h
plain-deed (GiveFails m) h = plain-numbered (codes "give-fails ") m refl h
plain-deed (GiveKept m) h = plain-numbered (codes "give-kept ") m refl h
plain-deed TakeWaits h = plain-of (codes "take-waits") refl
plain-deed (TakeMeets m u) h = plain-pair (codes "take-meets ") m u refl h
plain-deed TakeFails h = plain-of (codes "take-fails") refl
plain-deed (EntryInterrupted side) h = plain-append (codes "entry-interrupted ") (side_text side) (plain-of (codes "entry-interrupted ") refl) (plain-side side)
plain-deed Done h = plain-of (codes "done") refl
plain-deed (Got m u) h = plain-pair (codes "got ") m u refl h
plain-deed (Withdrawn cause) h = plain-append (codes "withdrawn ") (cause_text cause) (plain-of (codes "withdrawn ") refl) (plain-cause cause)
plain-deed (Interrupt target) h = plain-numbered (codes "interrupt ") target refl (omega (arith, h))

plain-item : (item : Option ℕ) → FitsItem item → HasNoEnd (item_text item)
plain-item None h = plain-of (codes "take") refl
plain-item (Some m) h = plain-numbered (codes "give ") m refl h

plain-standing : (item : Option ℕ) (waits : Bool) → FitsStanding item waits → HasNoEnd (standing_text item waits)
plain-standing None waits h = plain-of (codes "take") refl
plain-standing (Some m) true h = plain-append (item_text (Some m)) (codes " waits") (plain-item (Some m) h) (plain-of (codes " waits") refl)
plain-standing (Some m) false h = plain-append (item_text (Some m)) (codes " kept") (plain-item (Some m) h) (plain-of (codes " kept") refl)

plain-placed : (sort text : List ℕ) (seat ticket : ℕ) → list_all (λ b. not (eqb b 10)) sort ≡ true → seat < most_seats → ticket ≤ last_ticket → HasNoEnd text → HasNoEnd (placed_text sort seat ticket ++ text)
plain-placed sort text seat ticket all small within rest =
    let last : HasNoEnd (decimal ticket ++ 32 ∷ []) = plain-both (decimal ticket) [] (plain-number ticket (omega (arith, within))) tt in
    let words : HasNoEnd (decimal seat ++ 32 ∷ (decimal ticket ++ 32 ∷ [])) = plain-both (decimal seat) (decimal ticket ++ 32 ∷ []) (plain-number seat (omega (arith, small))) last in
    plain-append (placed_text sort seat ticket) text (plain-append sort (decimal seat ++ 32 ∷ (decimal ticket ++ 32 ∷ [])) (plain-of sort all) words) rest

plain-place : (order : Order) → HasNoEnd (place_text order)
plain-place Fair = plain-of (codes "fair") refl
plain-place Unfair = plain-of (codes "unfair") refl
plain-place Transfer = plain-of (codes "transfer") refl

plain-bound : (order : Order) (bound : Option ℕ) → FitsHead (record { order = order; bound = bound }) → HasNoEnd (option_text (codes " bound ") bound)
plain-bound order None h = tt
plain-bound order (Some n) h = plain-numbered (codes " bound ") n refl (omega (arith, (may-of order (Some n) h).1.1))

plain-kind : (kind : Kind) → FitsHead kind → HasNoEnd (kind_text kind)
plain-kind kind h = plain-append (place_text kind.order) (option_text (codes " bound ") kind.bound) (plain-place kind.order) (plain-bound kind.order kind.bound h)

-- ---- each line

pub record-line : (r : Record Deed) → FitsRecord r → IsLine (record_text r)
record-line r fits = (
  plain-both (decimal r.seat) (decimal r.ticket ++ 32 ∷ deed_text r.deed) (plain-number r.seat (omega (arith, fits.seat)))
      (plain-both (decimal r.ticket) (deed_text r.deed) (plain-number r.ticket (omega (arith, fits.ticket))) (plain-deed r.deed fits.deed)),
  omega (arith, length-append (decimal r.seat) (32 ∷ (decimal r.ticket ++ 32 ∷ deed_text r.deed))),
)

pub piece-line : (piece : Piece) → FitsPiece piece → IsLine (piece_text piece)
piece-line (Stands e) h = (plain-placed (codes "line ") (standing_text e.item e.waits) e.seat e.ticket refl h.0.0 h.0.1 (plain-standing e.item e.waits h.1), omega arith)
piece-line (Met p) h =
    let pair : HasNoEnd (decimal p.partner ++ 32 ∷ decimal p.mark) = plain-both (decimal p.partner) (decimal p.mark) (plain-number p.partner (omega (arith, h.1.1))) (plain-number p.mark h.1.0) in
    (plain-placed (codes "pair ") (side_text p.side ++ 32 ∷ (decimal p.partner ++ 32 ∷ decimal p.mark)) p.seat p.ticket refl h.0.0 h.0.1 (plain-both (side_text p.side) (decimal p.partner ++ 32 ∷ decimal p.mark) (plain-side p.side) pair), omega arith)
piece-line (Cut c) h = (plain-placed (codes "cut ") (item_text c.item) c.seat c.ticket refl h.0.0 h.0.1 (plain-item c.item h.1), omega arith)
piece-line (Flagged i) h = (plain-numbered (codes "flag ") i refl (omega (arith, h)), omega arith)

pub numbers-line : (gone last : ℕ) → FitsNumbers gone last → IsLine (numbers_text gone last)
numbers-line gone last fits = (
  plain-append (codes "base ") (decimal gone ++ 32 ∷ decimal last) (plain-of (codes "base ") refl)
      (plain-both (decimal gone) (decimal last) (plain-number gone (omega (arith, fits.0))) (plain-number last (omega (arith, fits.1)))),
  omega arith,
)

pub head-line : (kind : Kind) → FitsHead kind → IsLine (head_text kind)
head-line kind fits = (plain-append (codes "trace 1 ") (kind_text kind) (plain-of (codes "trace 1 ") refl) (plain-kind kind fits), omega arith)

pub based_head-line : (kind : Kind) → FitsHead kind → IsLine (based_head_text kind)
based_head-line kind fits = (plain-append (codes "trace 2 ") (kind_text kind) (plain-of (codes "trace 2 ") refl) (plain-kind kind fits), omega arith)
