-- A line reads as a record of a pool exactly where it is that record's one spelling.
use Rattle.std.proofs.Common.{◌≡◌, ℕ, ◌+◌, ◌^◌, ◌<◌, ◌≤◌, Bool, true, false, cond, ltb, leb, List, [], ◌∷◌, ◌++◌, length, Option, Some, None, refl, sym, ap, subst, ◌∙◌, arith, length-append, lit≤}
use Rattle.std.specs.Prelude.{decimal, codes, IfSome}
use Rattle.std.proofs.lemmas.Bool.{leb-true, le-leb, lt-ltb, le-ltb}
use Rattle.std.proofs.lemmas.Option.{cond_some}
use Rattle.meet_tickets.specs.declared.records.Record.{Record}
use Rattle.meet_tickets.specs.Limits.{most_seats, most_records, last_ticket}
use Rattle.pool_core.specs.declared.deeds.PoolDeed.{PoolDeed}
use Rattle.pool_core.specs.declared.deeds.PoolDeed.TheVariants.{Handed, Started, Kept, KeptStart, Aborted, CallerRuns, Dropped, DroppedOldest, Runs, Waits, Exits, Finished, IdleExit, Leaves, StartFailed, ShutDown, ShutDownNow}
use Rattle.meet_run.specs.Texts.Words.{word_of, rest_of, number_spelled}
use Rattle.meet_run.specs.Texts.Grammar.{◌>>=◌, seat_of}
use Rattle.meet_run.specs.Tracing.TraceGrammar.{ticket_in, ticket_of}
use Rattle.meet_run.proofs.Texts.WordLemmas.{number_spelled-is, number_spelled-decimal, word-rest, rest-space, tail-space, no_space-decimal}
use Rattle.meet_run.proofs.Texts.GrammarLemmas.{bind-some, chosen, chosen-second, number-short}
use Rattle.meet_run.proofs.Tracing.TraceLemmas.{ticket-is, seat_word-is, both, word-whole, word-more, ticket-again, seat_word-again, word-alone}
use Rattle.pool_run.specs.Records.{bare_deed_of, numbered_deed_of, paired_deed_of, tripled_deed_of, deed_behind_one, deed_with, deed_of, deed_behind, record_behind, record_in, pool_record_of, pool_record_at}
use Rattle.pool_run.specs.RecordSpelling.{pair_text, deed_text, pool_record_text, FitsDeed, FitsPoolRecord, PoolRecordsHaveOneSpelling}

-- ---- what is read is spelled

-- a ticket's number
ticket_in-is : (n t : ℕ) → ticket_in n ≡ Some t → (n ≡ t) × (t ≤ last_ticket)
unfolding ticket_in
ticket_in-is n t e =
    let p = cond_some (leb n last_ticket) n t e in
    (p.1, subst (λ (k : ℕ). k ≤ last_ticket) p.1 (leb-true n last_ticket p.0))

-- a text spells a deed in its limits
abbrev IsDeed : (text : List ℕ) → PoolDeed ℕ → Type 0
IsDeed text d = (text ≡ deed_text d) × FitsDeed d

made : (text : List ℕ) (a d : PoolDeed ℕ) → text ≡ deed_text a → FitsDeed a → Some a ≡ Some d → IsDeed text d
made text a d spelled fits e =
    let same : a ≡ d = cc in
    subst (λ (v : PoolDeed ℕ). IsDeed text v) same (spelled, fits)

-- what follows a word
prefix : (word w rest : List ℕ) → word ≡ w → word ++ 32 ∷ rest ≡ w ++ 32 ∷ rest
prefix word w rest p = both word rest w rest p refl

bare-is : (word : List ℕ) (d : PoolDeed ℕ) → bare_deed_of word ≡ Some d → IsDeed word d
unfolding bare_deed_of
bare-is word d e =
    let P : Type 0 = IsDeed word d in
    chosen word (codes "waits") (Some Waits) _ d P e (λ is f. made word Waits d is tt f) (λ e1.
    chosen word (codes "exits") (Some Exits) _ d P e1 (λ is f. made word Exits d is tt f) (λ e2.
    chosen word (codes "idle-exit") (Some IdleExit) _ d P e2 (λ is f. made word IdleExit d is tt f) (λ e3.
    chosen word (codes "leaves") (Some Leaves) _ d P e3 (λ is f. made word Leaves d is tt f) (λ e4.
    chosen word (codes "start-failed") (Some StartFailed) _ d P e4 (λ is f. made word StartFailed d is tt f) (λ e5.
    chosen word (codes "shut-down") (Some ShutDown) _ d P e5 (λ is f. made word ShutDown d is tt f) (λ e6. absurd cc))))))

numbered-is : (word : List ℕ) (n : ℕ) (d : PoolDeed ℕ) → n < 2 ^ 64 → numbered_deed_of word n ≡ Some d → IsDeed (word ++ 32 ∷ decimal n) d
unfolding numbered_deed_of
numbered-is word n d lt e =
    let text : List ℕ = word ++ 32 ∷ decimal n in
    let P : Type 0 = IsDeed text d in
    chosen word (codes "kept") (Some (Kept n)) _ d P e (λ is f. made text (Kept n) d (prefix word (codes "kept") (decimal n) is) lt f) (λ e1.
    chosen word (codes "aborted") (Some (Aborted n)) _ d P e1 (λ is f. made text (Aborted n) d (prefix word (codes "aborted") (decimal n) is) lt f) (λ e2.
    chosen word (codes "caller-runs") (Some (CallerRuns n)) _ d P e2 (λ is f. made text (CallerRuns n) d (prefix word (codes "caller-runs") (decimal n) is) lt f) (λ e3.
    chosen word (codes "dropped") (Some (Dropped n)) _ d P e3 (λ is f. made text (Dropped n) d (prefix word (codes "dropped") (decimal n) is) lt f) (λ e4.
    chosen word (codes "finished") (Some (Finished n)) _ d P e4 (λ is f. made text (Finished n) d (prefix word (codes "finished") (decimal n) is) lt f) (λ e5.
    chosen word (codes "shut-down-now") (Some (ShutDownNow n)) _ d P e5 (λ is f. made text (ShutDownNow n) d (prefix word (codes "shut-down-now") (decimal n) is) lt f) (λ e6. absurd cc))))))

runs-is : (word : List ℕ) (n m : ℕ) (d : PoolDeed ℕ) → m < 2 ^ 64 → word ≡ codes "runs" → (ticket_in n >>= λ ticket. Some (Runs ticket m)) ≡ Some d → IsDeed (word ++ 32 ∷ pair_text n m) d
runs-is word n m d lm is e =
    let b = bind-some (ticket_in n) (λ ticket. Some (Runs ticket m)) d e in
    let t = ticket_in-is n b.0 b.1 in
    let same : pair_text n m ≡ pair_text b.0 m = ap (λ (k : ℕ). pair_text k m) t.0 in
    made (word ++ 32 ∷ pair_text n m) (Runs b.0 m) d (both word (pair_text n m) (codes "runs") (pair_text b.0 m) is same) (t.1, lm) b.2

paired-is : (word : List ℕ) (n m : ℕ) (d : PoolDeed ℕ) → n < 2 ^ 64 → m < 2 ^ 64 → paired_deed_of word n m ≡ Some d → IsDeed (word ++ 32 ∷ pair_text n m) d
unfolding paired_deed_of
paired-is word n m d ln lm e =
    let text : List ℕ = word ++ 32 ∷ pair_text n m in
    let P : Type 0 = IsDeed text d in
    chosen word (codes "handed") (Some (Handed n m)) _ d P e (λ is f. made text (Handed n m) d (prefix word (codes "handed") (pair_text n m) is) (ln, lm) f) (λ e1.
    chosen word (codes "started") (Some (Started n m)) _ d P e1 (λ is f. made text (Started n m) d (prefix word (codes "started") (pair_text n m) is) (ln, lm) f) (λ e2.
    chosen word (codes "kept-start") (Some (KeptStart n m)) _ d P e2 (λ is f. made text (KeptStart n m) d (prefix word (codes "kept-start") (pair_text n m) is) (ln, lm) f) (λ e3.
    chosen word (codes "runs") (ticket_in n >>= λ ticket. Some (Runs ticket m)) _ d P e3 (runs-is word n m d lm) (λ e4. absurd cc))))

tripled-is : (word : List ℕ) (t o m : ℕ) (d : PoolDeed ℕ) → t ≤ last_ticket → o < 2 ^ 64 → m < 2 ^ 64 → tripled_deed_of word t o m ≡ Some d → IsDeed (word ++ 32 ∷ (decimal t ++ 32 ∷ pair_text o m)) d
unfolding tripled_deed_of
tripled-is word t o m d lt lo lm e =
    let rest : List ℕ = decimal t ++ 32 ∷ pair_text o m in
    let text : List ℕ = word ++ 32 ∷ rest in
    chosen word (codes "dropped-oldest") (Some (DroppedOldest t o m)) _ d (IsDeed text d) e (λ is f. made text (DroppedOldest t o m) d (prefix word (codes "dropped-oldest") rest is) (lt, (lo, lm)) f) (λ e1. absurd cc)

-- a deed with more than one number, by what stands behind the first
one-is : (word : List ℕ) (first : ℕ) (text rest : List ℕ) (d : PoolDeed ℕ) → first < 2 ^ 64 → rest_of text ≡ rest → deed_behind_one word first (word_of text) rest ≡ Some d → IsDeed (word ++ 32 ∷ (decimal first ++ 32 ∷ text)) d
unfolding deed_behind_one
one-is word first text [] d lt r e =
    let b = bind-some (number_spelled (word_of text)) (paired_deed_of word first) d e in
    let job = number_spelled-is (word_of text) b.0 b.1 in
    let whole : decimal b.0 ≡ text = sym job.0 ∙ word-whole text r in
    subst (λ (t : List ℕ). IsDeed (word ++ 32 ∷ (decimal first ++ 32 ∷ t)) d) whole (paired-is word first b.0 d lt job.1 b.2)
one-is word first text (space ∷ more) d lt r e =
    let t = bind-some (ticket_in first) _ d e in
    let o = bind-some (number_spelled (word_of text)) _ d t.2 in
    let m = bind-some (number_spelled more) (tripled_deed_of word t.0 o.0) d o.2 in
    let ticket = ticket_in-is first t.0 t.1 in
    let oldest = number_spelled-is (word_of text) o.0 o.1 in
    let job = number_spelled-is more m.0 m.1 in
    let whole : pair_text o.0 m.0 ≡ text =
    sym (both (word_of text) more (decimal o.0) (decimal m.0) oldest.0 job.0) ∙ word-more text space more r in
    let cut : decimal t.0 ++ 32 ∷ pair_text o.0 m.0 ≡ decimal first ++ 32 ∷ text =
    both (decimal t.0) (pair_text o.0 m.0) (decimal first) text (ap (λ (k : ℕ). decimal k) (sym ticket.0)) whole in
    subst (λ (v : List ℕ). IsDeed (word ++ 32 ∷ v) d) cut (tripled-is word t.0 o.0 m.0 d ticket.1 oldest.1 job.1 m.2)

-- a deed with a number, by what stands behind it
with-is : (word : List ℕ) (first : ℕ) (text rest : List ℕ) (d : PoolDeed ℕ) → first < 2 ^ 64 → word_of text ≡ decimal first → rest_of text ≡ rest → deed_with word first rest ≡ Some d → IsDeed (word ++ 32 ∷ text) d
unfolding deed_with
with-is word first text [] d lt w r e =
    subst (λ (t : List ℕ). IsDeed (word ++ 32 ∷ t) d) (sym w ∙ word-whole text r) (numbered-is word first d lt e)
with-is word first text (space ∷ more) d lt w r e =
    let whole : decimal first ++ 32 ∷ more ≡ text = ap (λ (t : List ℕ). t ++ 32 ∷ more) (sym w) ∙ word-more text space more r in
    subst (λ (t : List ℕ). IsDeed (word ++ 32 ∷ t) d) whole (one-is word first more (rest_of more) d lt refl e)

-- a deed that is read behind a word's space is spelled there
deed-is : (text rest : List ℕ) (d : PoolDeed ℕ) → rest_of text ≡ rest → deed_of (word_of text) rest ≡ Some d → IsDeed text d
unfolding deed_of
deed-is text [] d r e = subst (λ (t : List ℕ). IsDeed t d) (word-whole text r) (bare-is (word_of text) d e)
deed-is text (space ∷ more) d r e =
    let b = bind-some (number_spelled (word_of more)) _ d e in
    let first = number_spelled-is (word_of more) b.0 b.1 in
    subst (λ (t : List ℕ). IsDeed t d) (word-more text space more r) (with-is (word_of text) b.0 more (rest_of more) d first.1 first.0 refl b.2)

deed_behind-is : (line rest : List ℕ) (d : PoolDeed ℕ) → rest_of line ≡ rest → deed_behind rest ≡ Some d → (rest ≡ 32 ∷ deed_text d) × FitsDeed d
unfolding deed_behind
deed_behind-is line [] d r e = absurd cc
deed_behind-is line (space ∷ text) d r e =
    let deed = deed-is text (rest_of text) d refl e in
    let head : space ≡ 32 = rest-space line space text r in
    let tail : text ≡ deed_text d = deed.0 in
    (cc, deed.1)

-- the rest of a line spells a record of this seat
abbrev IsRest : (seat : ℕ) → (rest : List ℕ) → Record (PoolDeed ℕ) → Type 0
IsRest seat rest r =
    (r.seat ≡ seat) × (rest ≡ 32 ∷ (decimal r.ticket ++ 32 ∷ deed_text r.deed)) × (r.ticket ≤ last_ticket) × FitsDeed r.deed

behind-is : (seat : ℕ) (line rest : List ℕ) (r : Record (PoolDeed ℕ)) → rest_of line ≡ rest → record_behind seat rest ≡ Some r → IsRest seat rest r
unfolding record_behind
behind-is seat line [] r is e = absurd cc
behind-is seat line (space ∷ text) r is e =
    let t = bind-some (ticket_of (word_of text)) _ r e in
    let d = bind-some (deed_behind (rest_of text)) _ r t.2 in
    let ticket = ticket-is (word_of text) t.0 t.1 in
    let deed = deed_behind-is text (rest_of text) d.0 refl d.1 in
    let head : space ≡ 32 = rest-space line space text is in
    let tail : text ≡ decimal t.0 ++ 32 ∷ deed_text d.0 =
    sym (word-rest text) ∙ (ap (λ (w : List ℕ). w ++ rest_of text) ticket.0 ∙ ap (λ (v : List ℕ). decimal t.0 ++ v) deed.0) in
    let rest : space ∷ text ≡ 32 ∷ (decimal t.0 ++ 32 ∷ deed_text d.0) = cc in
    let found : Record (PoolDeed ℕ) = record { seat = seat; ticket = t.0; deed = d.0 } in
    let same : found ≡ r = (let inner : Some found ≡ Some r = d.2 in cc) in
    subst (λ (x : Record (PoolDeed ℕ)). IsRest seat (space ∷ text) x) same (refl, rest, ticket.1, deed.1)

-- the record of a line is spelled there
record_in-is : (line : List ℕ) (r : Record (PoolDeed ℕ)) → record_in line ≡ Some r → (line ≡ pool_record_text r) × FitsPoolRecord r
unfolding record_in
record_in-is line r e =
    let s = bind-some (seat_of (word_of line)) _ r e in
    let seat = seat_word-is (word_of line) s.0 s.1 in
    let rest = behind-is s.0 line (rest_of line) r refl s.2 in
    let word : word_of line ≡ decimal r.seat = seat.0 ∙ ap (λ (k : ℕ). decimal k) (sym rest.0) in
    let spelled : line ≡ pool_record_text r =
    sym (word-rest line) ∙ (ap (λ (w : List ℕ). w ++ rest_of line) word ∙ ap (λ (t : List ℕ). decimal r.seat ++ t) rest.1) in
    let small : r.seat < most_seats = subst (λ (k : ℕ). k < most_seats) (sym rest.0) seat.1 in
    (spelled, record { seat = small; ticket = rest.2; deed = rest.3 })

-- ---- what is spelled is read

ticket_in-again : (t : ℕ) → t ≤ last_ticket → ticket_in t ≡ Some t
unfolding ticket_in
ticket_in-again t lt = rw (le-leb t last_ticket lt) refl

numbered-again : (word : List ℕ) (n : ℕ) (d : PoolDeed ℕ) → n < 2 ^ 64 → numbered_deed_of word n ≡ Some d → deed_of word (32 ∷ decimal n) ≡ Some d
unfolding deed_of deed_with
numbered-again word n d lt e =
    let cut = word-alone (decimal n) (no_space-decimal n lt) in
    rw (cut.0, cut.1, number_spelled-decimal n lt) e

paired-again : (word : List ℕ) (n m : ℕ) (d : PoolDeed ℕ) → n < 2 ^ 64 → m < 2 ^ 64 → paired_deed_of word n m ≡ Some d → deed_of word (32 ∷ pair_text n m) ≡ Some d
unfolding deed_of deed_with deed_behind_one
paired-again word n m d ln lm e =
    let cut = tail-space (decimal m) (decimal n) (no_space-decimal n ln) in
    let end = word-alone (decimal m) (no_space-decimal m lm) in
    rw (cut.0, cut.1, number_spelled-decimal n ln, end.0, end.1, number_spelled-decimal m lm) e

tripled-again : (word : List ℕ) (t o m : ℕ) (d : PoolDeed ℕ) → t ≤ last_ticket → o < 2 ^ 64 → m < 2 ^ 64 → tripled_deed_of word t o m ≡ Some d → deed_of word (32 ∷ (decimal t ++ 32 ∷ pair_text o m)) ≡ Some d
unfolding deed_of deed_with deed_behind_one
tripled-again word t o m d lt lo lm e =
    let wide : t < 2 ^ 64 = omega arith in
    let cut = tail-space (pair_text o m) (decimal t) (no_space-decimal t wide) in
    let next = tail-space (decimal m) (decimal o) (no_space-decimal o lo) in
    rw (cut.0, cut.1, number_spelled-decimal t wide, next.0, next.1, ticket_in-again t lt, number_spelled-decimal o lo, number_spelled-decimal m lm) e

runs-again : (t m : ℕ) → t ≤ last_ticket → paired_deed_of (codes "runs") t m ≡ Some (Runs t m)
unfolding paired_deed_of
runs-again t m lt = rw (ticket_in-again t lt) refl

deed-again : (d : PoolDeed ℕ) → FitsDeed d → deed_behind (32 ∷ deed_text d) ≡ Some d
unfolding deed_behind word_of rest_of bare_deed_of numbered_deed_of paired_deed_of tripled_deed_of deed_of
deed-again (Handed n m) h = paired-again (codes "handed") n m (Handed n m) h.0 h.1 refl
deed-again (Started n m) h = paired-again (codes "started") n m (Started n m) h.0 h.1 refl
deed-again (Kept n) h = numbered-again (codes "kept") n (Kept n) h refl
deed-again (KeptStart n m) h = paired-again (codes "kept-start") n m (KeptStart n m) h.0 h.1 refl
deed-again (Aborted n) h = numbered-again (codes "aborted") n (Aborted n) h refl
deed-again (CallerRuns n) h = numbered-again (codes "caller-runs") n (CallerRuns n) h refl
deed-again (Dropped n) h = numbered-again (codes "dropped") n (Dropped n) h refl
deed-again (DroppedOldest t o m) h = tripled-again (codes "dropped-oldest") t o m (DroppedOldest t o m) h.0 h.1.0 h.1.1 refl
deed-again (Runs t m) h = paired-again (codes "runs") t m (Runs t m) (omega (arith, h.0)) h.1 (runs-again t m h.0)
deed-again Waits h = refl
deed-again Exits h = refl
deed-again (Finished n) h = numbered-again (codes "finished") n (Finished n) h refl
deed-again IdleExit h = refl
deed-again Leaves h = refl
deed-again StartFailed h = refl
deed-again ShutDown h = refl
deed-again (ShutDownNow n) h = numbered-again (codes "shut-down-now") n (ShutDownNow n) h refl

behind-again : (r : Record (PoolDeed ℕ)) → r.ticket ≤ last_ticket → FitsDeed r.deed → record_behind r.seat (32 ∷ (decimal r.ticket ++ 32 ∷ deed_text r.deed)) ≡ Some r
unfolding record_behind
behind-again r lt h =
    let cut = tail-space (deed_text r.deed) (decimal r.ticket) (no_space-decimal r.ticket (omega arith)) in
    rw (cut.0, cut.1, ticket-again r.ticket lt, deed-again r.deed h) refl

record_in-again : (r : Record (PoolDeed ℕ)) → FitsPoolRecord r → record_in (pool_record_text r) ≡ Some r
unfolding record_in
record_in-again r fits =
    let wide : r.seat < 2 ^ 64 = omega (arith, fits.seat) in
    let cut = tail-space (decimal r.ticket ++ 32 ∷ deed_text r.deed) (decimal r.seat) (no_space-decimal r.seat wide) in
    rw (cut.0, cut.1, seat_word-again r.seat fits.seat) (behind-again r fits.ticket fits.deed)

-- ---- a spelling is short

pair-short : (n m : ℕ) → n < 2 ^ 64 → m < 2 ^ 64 → length (pair_text n m) ≤ 41
pair-short n m ln lm =
    omega (arith, length-append (decimal n) (32 ∷ decimal m), number-short n ln, number-short m lm)

numbered-short : (word : List ℕ) (n : ℕ) → n < 2 ^ 64 → length word ≤ 15 → length (word ++ decimal n) ≤ 77
numbered-short word n ln h = omega (arith, h, length-append word (decimal n), number-short n ln)

paired-short : (word : List ℕ) (n m : ℕ) → n < 2 ^ 64 → m < 2 ^ 64 → length word ≤ 15 → length (word ++ pair_text n m) ≤ 77
paired-short word n m ln lm h = omega (arith, h, length-append word (pair_text n m), pair-short n m ln lm)

tripled-short : (word : List ℕ) (t o m : ℕ) → t ≤ last_ticket → o < 2 ^ 64 → m < 2 ^ 64 → length word ≤ 15 → length (word ++ (decimal t ++ 32 ∷ pair_text o m)) ≤ 77
tripled-short word t o m lt lo lm h =
    omega (arith, h, length-append word (decimal t ++ 32 ∷ pair_text o m), length-append (decimal t) (32 ∷ pair_text o m), number-short t (omega arith), pair-short o m lo lm)

deed-short : (d : PoolDeed ℕ) → FitsDeed d → length (deed_text d) ≤ 77
deed-short (Handed n m) h = paired-short (codes "handed ") n m h.0 h.1 (lit≤ tt)
deed-short (Started n m) h = paired-short (codes "started ") n m h.0 h.1 (lit≤ tt)
deed-short (Kept n) h = numbered-short (codes "kept ") n h (lit≤ tt)
deed-short (KeptStart n m) h = paired-short (codes "kept-start ") n m h.0 h.1 (lit≤ tt)
deed-short (Aborted n) h = numbered-short (codes "aborted ") n h (lit≤ tt)
deed-short (CallerRuns n) h = numbered-short (codes "caller-runs ") n h (lit≤ tt)
deed-short (Dropped n) h = numbered-short (codes "dropped ") n h (lit≤ tt)
deed-short (DroppedOldest t o m) h = tripled-short (codes "dropped-oldest ") t o m h.0 h.1.0 h.1.1 (lit≤ tt)
deed-short (Runs t m) h = paired-short (codes "runs ") t m (omega (arith, h.0)) h.1 (lit≤ tt)
deed-short Waits h = lit≤ tt
deed-short Exits h = lit≤ tt
deed-short (Finished n) h = numbered-short (codes "finished ") n h (lit≤ tt)
deed-short IdleExit h = lit≤ tt
deed-short Leaves h = lit≤ tt
deed-short StartFailed h = lit≤ tt
deed-short ShutDown h = lit≤ tt
deed-short (ShutDownNow n) h = numbered-short (codes "shut-down-now ") n h (lit≤ tt)

seat-short : (seat : ℕ) → seat < most_seats → length (decimal seat) ≤ 20
seat-short seat lt = number-short seat (omega arith)

record-short : (r : Record (PoolDeed ℕ)) → FitsPoolRecord r → length (pool_record_text r) ≤ 128
record-short r fits =
    omega (arith, length-append (decimal r.seat) (32 ∷ (decimal r.ticket ++ 32 ∷ deed_text r.deed)), length-append (decimal r.ticket) (32 ∷ deed_text r.deed), seat-short r.seat fits.seat, number-short r.ticket (omega (arith, fits.ticket)), deed-short r.deed fits.deed)

-- ---- the law

reads : (line : List ℕ) (r : Record (PoolDeed ℕ)) → pool_record_of line ≡ Some r → (line ≡ pool_record_text r) × FitsPoolRecord r
unfolding pool_record_of
reads line r e = record_in-is line r (chosen-second (ltb 128 (length line)) (record_in line) r e).1

again : (r : Record (PoolDeed ℕ)) → FitsPoolRecord r → pool_record_of (pool_record_text r) ≡ Some r
unfolding pool_record_of
again r fits = rw (le-ltb 128 (length (pool_record_text r)) (record-short r fits)) (record_in-again r fits)

pub pool-records-have-one-spelling : PoolRecordsHaveOneSpelling
pool-records-have-one-spelling line r =
    (reads line r, λ p. ap (λ (l : List ℕ). pool_record_of l) p.0 ∙ again r p.1)

-- what is read is in its limits
pub record-limits : (line : List ℕ) (o : Option (Record (PoolDeed ℕ))) → o ≡ record_in line → IfSome o FitsPoolRecord
record-limits line None is = tt
record-limits line (Some r) is = (record_in-is line r (sym is)).1

-- ---- lines that are too long, or stand behind too many others

pub record-too_long : (n : ℕ) (line : List ℕ) → 128 < length line → pool_record_at n line ≡ None
unfolding pool_record_at pool_record_of
record-too_long n line long = rw (lt-ltb 128 (length line) long) (either None (ltb (most_records + 1) n))
  where
    either : {A : Type 0} (o : Option A) (b : Bool) → cond b o o ≡ o
    either o true = refl
    either o false = refl

pub record_at-past : (n : ℕ) (line : List ℕ) → most_records + 1 < n → pool_record_at n line ≡ None
unfolding pool_record_at
record_at-past n line past = rw (lt-ltb (most_records + 1) n past) refl

pub record_at-within : (n : ℕ) (line : List ℕ) → n ≤ most_records + 1 → pool_record_at n line ≡ pool_record_of line
unfolding pool_record_at
record_at-within n line within = rw (le-ltb (most_records + 1) n within) refl
