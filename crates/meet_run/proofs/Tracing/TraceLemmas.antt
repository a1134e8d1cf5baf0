-- A line reads as a record exactly where it is that record's one spelling.
use Rattle.std.proofs.Common.{◌≡◌, ℕ, ◌^◌, ◌<◌, ◌≤◌, ltb, leb, List, [], ◌∷◌, ◌++◌, length, Option, Some, refl, sym, ap, subst, ◌∙◌, arith, rules, length-append, lit≤}
use Rattle.std.specs.Prelude.{decimal, codes}
use Rattle.std.proofs.lemmas.Bool.{leb-true, le-leb, le-ltb}
use Rattle.std.proofs.lemmas.Option.{cond_some}
use Rattle.meet_tickets.specs.declared.places.Side.{Side}
use Rattle.meet_tickets.specs.declared.places.Side.TheVariants.{Giver, Taker}
use Rattle.meet_tickets.specs.declared.records.Cause.{Cause}
use Rattle.meet_tickets.specs.declared.records.Cause.TheVariants.{Cancelled, Expired, Interrupted}
use Rattle.meet_tickets.specs.declared.records.Deed.{Deed}
use Rattle.meet_tickets.specs.declared.records.Deed.TheVariants.{GiveWaits, GiveMeets, GiveFails, GiveKept, TakeWaits, TakeMeets, TakeFails, EntryInterrupted, Done, Got, Withdrawn, Interrupt}
use Rattle.meet_tickets.specs.declared.records.Record.{Record}
use Rattle.meet_tickets.specs.Limits.{most_seats, last_ticket}
use Rattle.meet_run.specs.Texts.Words.{word_of, rest_of, number_spelled}
use Rattle.meet_run.specs.Texts.Grammar.{◌>>=◌, seat_in, seat_of}
use Rattle.meet_run.specs.Scripts.Wording.{cause_text}
use Rattle.meet_run.specs.Tracing.TraceGrammar.{ticket_in, ticket_of, side_of, cause_of, bare_deed_of, marked_deed_of, worded_deed_of, paired_deed_of, deed_with, deed_of, deed_behind, record_behind, record_in, record_of}
use Rattle.meet_run.specs.Tracing.TraceSpelling.{side_text, deed_text, record_text, FitsDeed, FitsRecord, RecordsHaveOneSpelling}
use Rattle.meet_run.proofs.Texts.WordLemmas.{HasNoSpace, number_spelled-is, number_spelled-decimal, word-rest, rest-space, tail-none, tail-space, no_space-decimal}
use Rattle.meet_run.proofs.Texts.GrammarLemmas.{bind-some, chosen, chosen-second, seat-is, seat-again, number-short}

-- ---- what is read is spelled

-- a ticket's word is its number
pub ticket-is : (word : List ℕ) (t : ℕ) → ticket_of word ≡ Some t → (word ≡ decimal t) × (t ≤ last_ticket)
unfolding ticket_of ticket_in
ticket-is word t e =
    let b = bind-some (number_spelled word) ticket_in t e in
    let number = number_spelled-is word b.0 b.1 in
    let p = cond_some (leb b.0 last_ticket) b.0 t b.2 in
    (number.0 ∙ ap (λ (k : ℕ). decimal k) p.1, subst (λ (k : ℕ). k ≤ last_ticket) p.1 (leb-true b.0 last_ticket p.0))

-- a seat's word is its number
pub seat_word-is : (word : List ℕ) (seat : ℕ) → seat_of word ≡ Some seat → (word ≡ decimal seat) × (seat < most_seats)
unfolding seat_of
seat_word-is word seat e =
    let b = bind-some (number_spelled word) seat_in seat e in
    let number = number_spelled-is word b.0 b.1 in
    let p = seat-is b.0 seat b.2 in
    (number.0 ∙ ap (λ (k : ℕ). decimal k) p.0, subst (λ (k : ℕ). k < most_seats) p.0 p.1)

pub side-is : (word : List ℕ) (side : Side) → side_of word ≡ Some side → word ≡ side_text side
unfolding side_of
side-is word side e =
    let P : Type 0 = word ≡ side_text side in
    chosen word (codes "give") (Some Giver) _ side P e (λ is f. let same : Giver ≡ side = cc in is ∙ ap (λ (s : Side). side_text s) same) (λ e1.
    chosen word (codes "take") (Some Taker) _ side P e1 (λ is f. let same : Taker ≡ side = cc in is ∙ ap (λ (s : Side). side_text s) same) (λ e2. absurd cc))

cause-is : (word : List ℕ) (cause : Cause) → cause_of word ≡ Some cause → word ≡ cause_text cause
unfolding cause_of cause_text
cause-is word cause e =
    let P : Type 0 = word ≡ cause_text cause in
    chosen word (codes "cancelled") (Some Cancelled) _ cause P e (λ is f. let same : Cancelled ≡ cause = cc in is ∙ ap (λ (c : Cause). cause_text c) same) (λ e1.
    chosen word (codes "expired") (Some Expired) _ cause P e1 (λ is f. let same : Expired ≡ cause = cc in is ∙ ap (λ (c : Cause). cause_text c) same) (λ e2.
    chosen word (codes "interrupted") (Some Interrupted) _ cause P e2 (λ is f. let same : Interrupted ≡ cause = cc in is ∙ ap (λ (c : Cause). cause_text c) same) (λ e3. absurd cc)))

-- a text spells a deed in its limits
abbrev IsDeed : (text : List ℕ) → Deed → Type 0
IsDeed text d = (text ≡ deed_text d) × FitsDeed d

made : (text : List ℕ) (a d : Deed) → text ≡ deed_text a → FitsDeed a → Some a ≡ Some d → IsDeed text d
made text a d spelled fits e =
    let same : a ≡ d = cc in
    subst (λ (v : Deed). IsDeed text v) same (spelled, fits)

-- two words, parted by a space
pub both : (word value w v : List ℕ) → word ≡ w → value ≡ v → word ++ 32 ∷ value ≡ w ++ 32 ∷ v
both word value w v p q = ap (λ (t : List ℕ). t ++ 32 ∷ value) p ∙ ap (λ (t : List ℕ). w ++ 32 ∷ t) q

-- what follows a word
prefix : (word w rest : List ℕ) → word ≡ w → word ++ 32 ∷ rest ≡ w ++ 32 ∷ rest
prefix word w rest p = both word rest w rest p refl

bare-is : (word : List ℕ) (d : Deed) → bare_deed_of word ≡ Some d → IsDeed word d
unfolding bare_deed_of
bare-is word d e =
    let P : Type 0 = IsDeed word d in
    chosen word (codes "take-waits") (Some TakeWaits) _ d P e (λ is f. made word TakeWaits d is tt f) (λ e1.
    chosen word (codes "take-fails") (Some TakeFails) _ d P e1 (λ is f. made word TakeFails d is tt f) (λ e2.
    chosen word (codes "done") (Some Done) _ d P e2 (λ is f. made word Done d is tt f) (λ e3. absurd cc)))

marked-is : (word : List ℕ) (m : ℕ) (d : Deed) → m < 2 ^ 64 → marked_deed_of word m ≡ Some d → IsDeed (word ++ 32 ∷ decimal m) d
unfolding marked_deed_of
marked-is word m d lt e =
    let text : List ℕ = word ++ 32 ∷ decimal m in
    let P : Type 0 = IsDeed text d in
    chosen word (codes "give-waits") (Some (GiveWaits m)) _ d P e (λ is f. made text (GiveWaits m) d (prefix word (codes "give-waits") (decimal m) is) lt f) (λ e1.
    chosen word (codes "give-fails") (Some (GiveFails m)) _ d P e1 (λ is f. made text (GiveFails m) d (prefix word (codes "give-fails") (decimal m) is) lt f) (λ e2.
    chosen word (codes "give-kept") (Some (GiveKept m)) _ d P e2 (λ is f. made text (GiveKept m) d (prefix word (codes "give-kept") (decimal m) is) lt f) (λ e3. absurd cc)))

entry-is : (word value : List ℕ) (d : Deed) → word ≡ codes "entry-interrupted" → (side_of value >>= λ side. Some (EntryInterrupted side)) ≡ Some d → IsDeed (word ++ 32 ∷ value) d
entry-is word value d is e =
    let b = bind-some (side_of value) (λ side. Some (EntryInterrupted side)) d e in
    made (word ++ 32 ∷ value) (EntryInterrupted b.0) d (both word value (codes "entry-interrupted") (side_text b.0) is (side-is value b.0 b.1)) tt b.2

withdrawn-is : (word value : List ℕ) (d : Deed) → word ≡ codes "withdrawn" → (cause_of value >>= λ cause. Some (Withdrawn cause)) ≡ Some d → IsDeed (word ++ 32 ∷ value) d
withdrawn-is word value d is e =
    let b = bind-some (cause_of value) (λ cause. Some (Withdrawn cause)) d e in
    made (word ++ 32 ∷ value) (Withdrawn b.0) d (both word value (codes "withdrawn") (cause_text b.0) is (cause-is value b.0 b.1)) tt b.2

interrupt-is : (word value : List ℕ) (d : Deed) → word ≡ codes "interrupt" → (seat_of value >>= λ target. Some (Interrupt target)) ≡ Some d → IsDeed (word ++ 32 ∷ value) d
interrupt-is word value d is e =
    let b = bind-some (seat_of value) (λ target. Some (Interrupt target)) d e in
    let seat = seat_word-is value b.0 b.1 in
    made (word ++ 32 ∷ value) (Interrupt b.0) d (both word value (codes "interrupt") (decimal b.0) is seat.0) seat.1 b.2

mark-is : (word value : List ℕ) (d : Deed) → (number_spelled value >>= marked_deed_of word) ≡ Some d → IsDeed (word ++ 32 ∷ value) d
mark-is word value d e =
    let b = bind-some (number_spelled value) (marked_deed_of word) d e in
    let number = number_spelled-is value b.0 b.1 in
    subst (λ (v : List ℕ). IsDeed (word ++ 32 ∷ v) d) (sym number.0) (marked-is word b.0 d number.1 b.2)

worded-is : (word value : List ℕ) (d : Deed) → worded_deed_of word value ≡ Some d → IsDeed (word ++ 32 ∷ value) d
unfolding worded_deed_of
worded-is word value d e =
    let P : Type 0 = IsDeed (word ++ 32 ∷ value) d in
    chosen word (codes "entry-interrupted") (side_of value >>= λ side. Some (EntryInterrupted side)) _ d P e (entry-is word value d) (λ e1.
    chosen word (codes "withdrawn") (cause_of value >>= λ cause. Some (Withdrawn cause)) _ d P e1 (withdrawn-is word value d) (λ e2.
    chosen word (codes "interrupt") (seat_of value >>= λ target. Some (Interrupt target)) _ d P e2 (interrupt-is word value d) (mark-is word value d)))

paired-is : (word : List ℕ) (m u : ℕ) (d : Deed) → m < 2 ^ 64 → u ≤ last_ticket → paired_deed_of word m u ≡ Some d → IsDeed (word ++ 32 ∷ (decimal m ++ 32 ∷ decimal u)) d
unfolding paired_deed_of
paired-is word m u d lm lu e =
    let pair : List ℕ = decimal m ++ 32 ∷ decimal u in
    let text : List ℕ = word ++ 32 ∷ pair in
    let P : Type 0 = IsDeed text d in
    chosen word (codes "give-meets") (Some (GiveMeets m u)) _ d P e (λ is f. made text (GiveMeets m u) d (prefix word (codes "give-meets") pair is) (lm, lu) f) (λ e1.
    chosen word (codes "take-meets") (Some (TakeMeets m u)) _ d P e1 (λ is f. made text (TakeMeets m u) d (prefix word (codes "take-meets") pair is) (lm, lu) f) (λ e2.
    chosen word (codes "got") (Some (Got m u)) _ d P e2 (λ is f. made text (Got m u) d (prefix word (codes "got") pair is) (lm, lu) f) (λ e3. absurd cc)))

-- a text whose word is all of it
pub word-whole : (text : List ℕ) → rest_of text ≡ [] → word_of text ≡ text
word-whole text r =
    let end : word_of text ≡ word_of text ++ [] = search rules in
    end ∙ (ap (λ (t : List ℕ). word_of text ++ t) (sym r) ∙ word-rest text)

-- a text with something behind its word
pub word-more : (text : List ℕ) (space : ℕ) (more : List ℕ) → rest_of text ≡ space ∷ more → word_of text ++ 32 ∷ more ≡ text
word-more text space more r =
    let head : space ≡ 32 = rest-space text space more r in
    let rest : 32 ∷ more ≡ rest_of text = cc in
    ap (λ (t : List ℕ). word_of text ++ t) rest ∙ word-rest text

with-is : (word text rest : List ℕ) (d : Deed) → rest_of text ≡ rest → deed_with word (word_of text) rest ≡ Some d → IsDeed (word ++ 32 ∷ text) d
unfolding deed_with
with-is word text [] d r e =
    subst (λ (t : List ℕ). IsDeed (word ++ 32 ∷ t) d) (word-whole text r) (worded-is word (word_of text) d e)
with-is word text (space ∷ more) d r e =
    let m = bind-some (number_spelled (word_of text)) _ d e in
    let u = bind-some (ticket_of more) (paired_deed_of word m.0) d m.2 in
    let mark = number_spelled-is (word_of text) m.0 m.1 in
    let partner = ticket-is more u.0 u.1 in
    let cut : decimal m.0 ++ 32 ∷ decimal u.0 ≡ text =
    sym (both (word_of text) more (decimal m.0) (decimal u.0) mark.0 partner.0) ∙ word-more text space more r in
    subst (λ (t : List ℕ). IsDeed (word ++ 32 ∷ t) d) cut (paired-is word m.0 u.0 d mark.1 partner.1 u.2)

-- a deed that is read behind a word's space is spelled there
deed-is : (text rest : List ℕ) (d : Deed) → rest_of text ≡ rest → deed_of (word_of text) rest ≡ Some d → IsDeed text d
unfolding deed_of
deed-is text [] d r e = subst (λ (t : List ℕ). IsDeed t d) (word-whole text r) (bare-is (word_of text) d e)
deed-is text (space ∷ more) d r e =
    subst (λ (t : List ℕ). IsDeed t d) (word-more text space more r) (with-is (word_of text) more (rest_of more) d refl e)

deed_behind-is : (line rest : List ℕ) (d : Deed) → rest_of line ≡ rest → deed_behind rest ≡ Some d → (rest ≡ 32 ∷ deed_text d) × FitsDeed d
unfolding deed_behind
deed_behind-is line [] d r e = absurd cc
deed_behind-is line (space ∷ text) d r e =
    let deed = deed-is text (rest_of text) d refl e in
    let head : space ≡ 32 = rest-space line space text r in
    let tail : text ≡ deed_text d = deed.0 in
    (cc, deed.1)

-- the rest of a line spells a record of this seat
abbrev IsRest : (seat : ℕ) → (rest : List ℕ) → Record Deed → Type 0
IsRest seat rest r =
    (r.seat ≡ seat) × (rest ≡ 32 ∷ (decimal r.ticket ++ 32 ∷ deed_text r.deed)) × (r.ticket ≤ last_ticket) × FitsDeed r.deed

behind-is : (seat : ℕ) (line rest : List ℕ) (r : Record Deed) → rest_of line ≡ rest → record_behind seat rest ≡ Some r → IsRest seat rest r
unfolding record_behind
behind-is seat line [] r is e = absurd cc
behind-is seat line (space ∷ text) r is e =
    let t = bind-some (ticket_of (word_of text)) _ r e in
    let d = bind-some (deed_behind (rest_of text)) _ r t.2 in
    let ticket = ticket-is (word_of text) t.0 t.1 in
    let deed = deed_behind-is text (rest_of text) d.0 refl d.1 in
    let head : space ≡ 32 = rest-space line space text is in
    let tail : text ≡ decimal t.0 ++ 32 ∷ deed_text d.0 =
    sym (word-rest text) ∙ (ap (λ (w : List ℕ). w ++ rest_of text) ticket.0 ∙ ap (λ (v : List ℕ). decimal t.0 ++ v) deed.0) in
    let rest : space ∷ text ≡ 32 ∷ (decimal t.0 ++ 32 ∷ deed_text d.0) = cc in
    let found : Record Deed = record { seat = seat; ticket = t.0; deed = d.0 } in
    let same : found ≡ r = (let inner : Some found ≡ Some r = d.2 in cc) in
    subst (λ (x : Record Deed). IsRest seat (space ∷ text) x) same (refl, rest, ticket.1, deed.1)

-- the record of a line is spelled there
record_in-is : (line : List ℕ) (r : Record Deed) → record_in line ≡ Some r → (line ≡ record_text r) × FitsRecord r
unfolding record_in
record_in-is line r e =
    let s = bind-some (seat_of (word_of line)) _ r e in
    let seat = seat_word-is (word_of line) s.0 s.1 in
    let rest = behind-is s.0 line (rest_of line) r refl s.2 in
    let word : word_of line ≡ decimal r.seat = seat.0 ∙ ap (λ (k : ℕ). decimal k) (sym rest.0) in
    let spelled : line ≡ record_text r =
    sym (word-rest line) ∙ (ap (λ (w : List ℕ). w ++ rest_of line) word ∙ ap (λ (t : List ℕ). decimal r.seat ++ t) rest.1) in
    let small : r.seat < most_seats = subst (λ (k : ℕ). k < most_seats) (sym rest.0) seat.1 in
    (spelled, record { seat = small; ticket = rest.2; deed = rest.3 })

-- ---- what is spelled is read

pub ticket-again : (t : ℕ) → t ≤ last_ticket → ticket_of (decimal t) ≡ Some t
unfolding ticket_of ticket_in
ticket-again t lt = rw (number_spelled-decimal t (omega arith), le-leb t last_ticket lt) refl

pub seat_word-again : (seat : ℕ) → seat < most_seats → seat_of (decimal seat) ≡ Some seat
unfolding seat_of
seat_word-again seat lt = rw (number_spelled-decimal seat (omega arith), seat-again seat lt) refl

-- a word without a space is cut at its end
pub word-alone : (word : List ℕ) → HasNoSpace word → (word_of word ≡ word) × (rest_of word ≡ [])
word-alone word h =
    let end : word ++ [] ≡ word = search rules in
    subst (λ (w : List ℕ). (word_of w ≡ word) × (rest_of w ≡ [])) end (tail-none word h)

worded-again : (word value : List ℕ) (d : Deed) → HasNoSpace value → worded_deed_of word value ≡ Some d → deed_of word (32 ∷ value) ≡ Some d
unfolding deed_of deed_with
worded-again word value d h e = let cut = word-alone value h in rw (cut.0, cut.1) e

marked-again : (word : List ℕ) (m : ℕ) (d : Deed) → m < 2 ^ 64 → worded_deed_of word (decimal m) ≡ (number_spelled (decimal m) >>= marked_deed_of word) → marked_deed_of word m ≡ Some d → deed_of word (32 ∷ decimal m) ≡ Some d
marked-again word m d lt falls e =
    worded-again word (decimal m) d (no_space-decimal m lt) (falls ∙ (ap (λ (o : Option ℕ). o >>= marked_deed_of word) (number_spelled-decimal m lt) ∙ e))

paired-again : (word : List ℕ) (m u : ℕ) (d : Deed) → m < 2 ^ 64 → u ≤ last_ticket → paired_deed_of word m u ≡ Some d → deed_of word (32 ∷ (decimal m ++ 32 ∷ decimal u)) ≡ Some d
unfolding deed_of deed_with
paired-again word m u d lm lu e =
    let cut = tail-space (decimal u) (decimal m) (no_space-decimal m lm) in
    rw (cut.0, cut.1, number_spelled-decimal m lm, ticket-again u lu) e

pub side-no_space : (side : Side) → HasNoSpace (side_text side)
side-no_space Giver = (refl, (refl, (refl, (refl, tt))))
side-no_space Taker = (refl, (refl, (refl, (refl, tt))))

pub side-again : (side : Side) → side_of (side_text side) ≡ Some side
unfolding side_of
side-again Giver = refl
side-again Taker = refl

cause-no_space : (cause : Cause) → HasNoSpace (cause_text cause)
unfolding cause_text
cause-no_space Cancelled = (refl, (refl, (refl, (refl, (refl, (refl, (refl, (refl, (refl, tt)))))))))
cause-no_space Expired = (refl, (refl, (refl, (refl, (refl, (refl, (refl, tt)))))))
cause-no_space Interrupted = (refl, (refl, (refl, (refl, (refl, (refl, (refl, (refl, (refl, (refl, (refl, tt)))))))))))

cause-again : (cause : Cause) → cause_of (cause_text cause) ≡ Some cause
unfolding cause_of cause_text
cause-again Cancelled = refl
cause-again Expired = refl
cause-again Interrupted = refl

entry-again : (side : Side) → worded_deed_of (codes "entry-interrupted") (side_text side) ≡ Some (EntryInterrupted side)
unfolding worded_deed_of
entry-again side = rw (side-again side) refl

withdrawn-again : (cause : Cause) → worded_deed_of (codes "withdrawn") (cause_text cause) ≡ Some (Withdrawn cause)
unfolding worded_deed_of
withdrawn-again cause = rw (cause-again cause) refl

interrupt-again : (target : ℕ) → target < most_seats → worded_deed_of (codes "interrupt") (decimal target) ≡ Some (Interrupt target)
unfolding worded_deed_of
interrupt-again target lt = rw (seat_word-again target lt) refl

deed-again : (d : Deed) → FitsDeed d → deed_behind (32 ∷ deed_text d) ≡ Some d
unfolding deed_behind word_of rest_of bare_deed_of marked_deed_of worded_deed_of paired_deed_of deed_of
deed-again (GiveWaits m) h = marked-again (codes "give-waits") m (GiveWaits m) h refl refl
deed-again (GiveMeets m u) h = paired-again (codes "give-meets") m u (GiveMeets m u) h.0 h.1 refl
deed-again (GiveFails m) h = marked-again (codes "give-fails") m (GiveFails m) h refl refl
deed-again (GiveKept m) h = marked-again (codes "give-kept") m (GiveKept m) h refl refl
deed-again TakeWaits h = refl
deed-again (TakeMeets m u) h = paired-again (codes "take-meets") m u (TakeMeets m u) h.0 h.1 refl
deed-again TakeFails h = refl
deed-again (EntryInterrupted side) h =
    worded-again (codes "entry-interrupted") (side_text side) (EntryInterrupted side) (side-no_space side) (entry-again side)
deed-again Done h = refl
deed-again (Got m u) h = paired-again (codes "got") m u (Got m u) h.0 h.1 refl
deed-again (Withdrawn cause) h =
    worded-again (codes "withdrawn") (cause_text cause) (Withdrawn cause) (cause-no_space cause) (withdrawn-again cause)
deed-again (Interrupt target) h =
    worded-again (codes "interrupt") (decimal target) (Interrupt target) (no_space-decimal target (omega arith)) (interrupt-again target h)

behind-again : (r : Record Deed) → r.ticket ≤ last_ticket → FitsDeed r.deed → record_behind r.seat (32 ∷ (decimal r.ticket ++ 32 ∷ deed_text r.deed)) ≡ Some r
unfolding record_behind
behind-again r lt h =
    let cut = tail-space (deed_text r.deed) (decimal r.ticket) (no_space-decimal r.ticket (omega arith)) in
    rw (cut.0, cut.1, ticket-again r.ticket lt, deed-again r.deed h) refl

record_in-again : (r : Record Deed) → FitsRecord r → record_in (record_text r) ≡ Some r
unfolding record_in
record_in-again r fits =
    let wide : r.seat < 2 ^ 64 = omega (arith, fits.seat) in
    let cut = tail-space (decimal r.ticket ++ 32 ∷ deed_text r.deed) (decimal r.seat) (no_space-decimal r.seat wide) in
    rw (cut.0, cut.1, seat_word-again r.seat fits.seat) (behind-again r fits.ticket fits.deed)

-- ---- a spelling is short

pair-short : (word : List ℕ) (m u : ℕ) → m < 2 ^ 64 → u ≤ last_ticket → length word ≤ 12 → length (word ++ (decimal m ++ 32 ∷ decimal u)) ≤ 60
pair-short word m u lm lu h =
    omega (arith, h, length-append word (decimal m ++ 32 ∷ decimal u), length-append (decimal m) (32 ∷ decimal u), number-short m lm, number-short u (omega arith))

pub side-short : (side : Side) → length (side_text side) ≤ 4
side-short Giver = lit≤ tt
side-short Taker = lit≤ tt

cause-short : (cause : Cause) → length (cause_text cause) ≤ 11
unfolding cause_text
cause-short Cancelled = lit≤ tt
cause-short Expired = lit≤ tt
cause-short Interrupted = lit≤ tt

deed-short : (d : Deed) → FitsDeed d → length (deed_text d) ≤ 60
deed-short (GiveWaits m) h = omega (arith, number-short m h)
deed-short (GiveMeets m u) h = pair-short (codes "give-meets ") m u h.0 h.1 (lit≤ tt)
deed-short (GiveFails m) h = omega (arith, number-short m h)
deed-short (GiveKept m) h = omega (arith, number-short m h)
deed-short TakeWaits h = lit≤ tt
deed-short (TakeMeets m u) h = pair-short (codes "take-meets ") m u h.0 h.1 (lit≤ tt)
deed-short TakeFails h = lit≤ tt
deed-short (EntryInterrupted side) h = omega (arith, side-short side)
deed-short Done h = lit≤ tt
deed-short (Got m u) h = pair-short (codes "got ") m u h.0 h.1 (lit≤ tt)
deed-short (Withdrawn cause) h = omega (arith, cause-short cause)
deed-short (Interrupt target) h = omega (arith, number-short target (omega arith))

record-short : (r : Record Deed) → FitsRecord r → length (record_text r) ≤ 128
record-short r fits =
    omega (arith, length-append (decimal r.seat) (32 ∷ (decimal r.ticket ++ 32 ∷ deed_text r.deed)), length-append (decimal r.ticket) (32 ∷ deed_text r.deed), number-short r.seat (omega (arith, fits.seat)), number-short r.ticket (omega (arith, fits.ticket)), deed-short r.deed fits.deed)

-- ---- the law

reads : (line : List ℕ) (r : Record Deed) → record_of line ≡ Some r → (line ≡ record_text r) × FitsRecord r
unfolding record_of
reads line r e = record_in-is line r (chosen-second (ltb 128 (length line)) (record_in line) r e).1

again : (r : Record Deed) → FitsRecord r → record_of (record_text r) ≡ Some r
unfolding record_of
again r fits = rw (le-ltb 128 (length (record_text r)) (record-short r fits)) (record_in-again r fits)

pub records-have-one-spelling : RecordsHaveOneSpelling
records-have-one-spelling line r = (reads line r, λ p. ap (λ (l : List ℕ). record_of l) p.0 ∙ again r p.1)

-- what is read is in its limits
pub record-fits : (line : List ℕ) (r : Record Deed) → record_of line ≡ Some r → FitsRecord r
record-fits line r e = (reads line r e).1
