-- A line of a base reads as a piece, as the base's numbers or as a kind of place exactly where it is its one spelling.
use Rattle.std.proofs.Common.{◌≡◌, ℕ, ◌^◌, ◌<◌, ◌≤◌, Bool, true, false, ltb, List, [], ◌∷◌, ◌++◌, length, Option, Some, None, refl, sym, ap, subst, ◌∙◌, append_assoc, arith, length-append, lit≤}
use Rattle.std.specs.Prelude.{decimal, codes}
use Rattle.std.proofs.lemmas.Bool.{le-ltb}
use Rattle.meet_tickets.specs.declared.places.Side.{Side}
use Rattle.meet_tickets.specs.declared.places.Kind.{Kind}
use Rattle.meet_tickets.specs.declared.lines.Entry.{Entry}
use Rattle.meet_tickets.specs.declared.bases.OpenPair.{OpenPair}
use Rattle.meet_tickets.specs.declared.bases.OpenCut.{OpenCut}
use Rattle.meet_tickets.specs.Limits.{most_seats, last_ticket}
use Rattle.meet_history.specs.declared.pieces.Piece.{Piece}
use Rattle.meet_history.specs.declared.pieces.Piece.TheVariants.{Stands, Met, Cut, Flagged}
use Rattle.meet_run.specs.Texts.Words.{word_of, rest_of, behind, number_spelled}
use Rattle.meet_run.specs.Texts.Grammar.{◌>>=◌, seat_of}
use Rattle.meet_run.specs.Tracing.TraceGrammar.{ticket_of, side_of, kind_in}
use Rattle.meet_run.specs.Tracing.TraceSpelling.{side_text, FitsPair, FitsHead}
use Rattle.meet_run.specs.Tracing.BaseGrammar.{waits_of, giver_entry, entry_of_line, pair_of_line, pair_behind, cut_of_line, ticketed_piece, piece_with_ticket, piece_with_seat, piece_behind, piece_of, numbers_in, numbers_of, based_head_of}
use Rattle.meet_run.specs.Tracing.BaseWording.{placed_text, item_text, standing_text, piece_text, numbers_text, based_head_text}
use Rattle.meet_run.specs.Tracing.BaseSpelling.{FitsItem, FitsStanding, FitsPiece, FitsNumbers, PiecesHaveOneSpelling, BaseNumbersHaveOneSpelling, BasedHeadsHaveOneSpelling}
use Rattle.meet_run.proofs.Texts.WordLemmas.{HasNoSpace, number_spelled-is, number_spelled-decimal, behind-is, tail-space, no_space-decimal}
use Rattle.meet_run.proofs.Texts.GrammarLemmas.{bind-some, chosen, chosen-second, number-short}
use Rattle.meet_run.proofs.Tracing.HeadLemmas.{kind_in-is, kind_in-again, head-short}
use Rattle.meet_run.proofs.Tracing.TraceLemmas.{ticket-is, seat_word-is, side-is, both, word-whole, word-more, ticket-again, seat_word-again, word-alone, side-no_space, side-again, side-short}

-- ---- what is read is spelled

-- a text spells a piece in its limits
abbrev IsPiece : (text : List ℕ) → Piece → Type 0
IsPiece text piece = (text ≡ piece_text piece) × FitsPiece piece

-- what holds of the piece that was found
found : (P : Piece → Type 0) (a piece : Piece) → Some a ≡ Some piece → P a → P piece
found P a piece e is = let same : a ≡ piece = cc in subst P same is

-- whether an entry waits, as a word
waits_text : Bool → List ℕ
waits_text true = codes "waits"
waits_text false = codes "kept"

waits-is : (word : List ℕ) (waits : Bool) → waits_of word ≡ Some waits → word ≡ waits_text waits
unfolding waits_of waits_text
waits-is word waits e =
    let P : Type 0 = word ≡ waits_text waits in
    chosen word (codes "waits") (Some true) _ waits P e (λ is f. let same : true ≡ waits = cc in is ∙ ap waits_text same) (λ e1.
    chosen word (codes "kept") (Some false) _ waits P e1 (λ is f. let same : false ≡ waits = cc in is ∙ ap waits_text same) (λ e2. absurd cc))

giver-text : (m : ℕ) (waits : Bool) → codes "give " ++ (decimal m ++ 32 ∷ waits_text waits) ≡ standing_text (Some m) waits
unfolding waits_text
giver-text m true = refl
giver-text m false = refl

module _ (seat ticket : ℕ) where
  -- this text spells how an entry stands
  abbrev IsEntry : (text : List ℕ) → Entry ℕ → Type 0
  IsEntry text e =
      (item : Option ℕ) × (waits : Bool) × (record { ticket = ticket; seat = seat; item = item; waits = waits } ≡ e) × (text ≡ standing_text item waits) × FitsStanding item waits

  giver-is : (text rest : List ℕ) (e : Entry ℕ) → rest_of text ≡ rest → giver_entry seat ticket (word_of text) rest ≡ Some e → IsEntry (codes "give " ++ text) e
  unfolding giver_entry
  giver-is text [] e r is = absurd cc
  giver-is text (space ∷ word) e r is =
      let m = bind-some (number_spelled (word_of text)) _ e is in
      let w = bind-some (waits_of word) _ e m.2 in
      let number = number_spelled-is (word_of text) m.0 m.1 in
      let made : Entry ℕ = record { ticket = ticket; seat = seat; item = Some m.0; waits = w.0 } in
      let same : made ≡ e = (let inner : Some made ≡ Some e = w.2 in cc) in
      let cut : text ≡ decimal m.0 ++ 32 ∷ waits_text w.0 = sym (word-more text space word r) ∙ both (word_of text) word (decimal m.0) (waits_text w.0) number.0 (waits-is word w.0 w.1) in
      (Some m.0, w.0, same, ap (λ (t : List ℕ). codes "give " ++ t) cut ∙ giver-text m.0 w.0, number.1)

  entry-is : (text rest : List ℕ) (e : Entry ℕ) → rest_of text ≡ rest → entry_of_line seat ticket (word_of text) rest ≡ Some e → IsEntry text e
  unfolding entry_of_line
  entry-is text [] e r is =
      let taker : Entry ℕ = record { ticket = ticket; seat = seat; item = None; waits = true } in
      chosen (word_of text) (codes "take") (Some taker) None e (IsEntry text e) is
      (λ word f. let same : taker ≡ e = (let inner : Some taker ≡ Some e = f in cc) in (None, true, same, sym (word-whole text r) ∙ word, refl))
      (λ none. absurd cc)
  entry-is text (space ∷ more) e r is =
      chosen (word_of text) (codes "give") (giver_entry seat ticket (word_of more) (rest_of more)) None e (IsEntry text e) is
      (λ word f.
      let cut : codes "give " ++ more ≡ text = sym (both (word_of text) more (codes "give") more word refl) ∙ word-more text space more r in
      subst (λ (t : List ℕ). IsEntry t e) cut (giver-is more (rest_of more) e refl f))
      (λ none. absurd cc)

  -- this text spells one that was met
  abbrev IsPair : (text : List ℕ) → OpenPair → Type 0
  IsPair text p =
      (side : Side) × (u : ℕ) × (m : ℕ) × (record { ticket = ticket; seat = seat; side = side; partner = u; mark = m } ≡ p) × (text ≡ side_text side ++ 32 ∷ (decimal u ++ 32 ∷ decimal m)) × FitsPair m u

  partner-is : (word text rest : List ℕ) (p : OpenPair) → rest_of text ≡ rest → pair_of_line seat ticket word (word_of text) rest ≡ Some p → IsPair (word ++ 32 ∷ text) p
  unfolding pair_of_line
  partner-is word text [] p r is = absurd cc
  partner-is word text (space ∷ last) p r is =
      let s = bind-some (side_of word) _ p is in
      let u = bind-some (ticket_of (word_of text)) _ p s.2 in
      let m = bind-some (number_spelled last) _ p u.2 in
      let partner = ticket-is (word_of text) u.0 u.1 in
      let mark = number_spelled-is last m.0 m.1 in
      let made : OpenPair = record { ticket = ticket; seat = seat; side = s.0; partner = u.0; mark = m.0 } in
      let same : made ≡ p = (let inner : Some made ≡ Some p = m.2 in cc) in
      let cut : text ≡ decimal u.0 ++ 32 ∷ decimal m.0 = sym (word-more text space last r) ∙ both (word_of text) last (decimal u.0) (decimal m.0) partner.0 mark.0 in
      (s.0, u.0, m.0, same, both word text (side_text s.0) (decimal u.0 ++ 32 ∷ decimal m.0) (side-is word s.0 s.1) cut, (mark.1, partner.1))

  pair-is : (text rest : List ℕ) (p : OpenPair) → rest_of text ≡ rest → pair_behind seat ticket (word_of text) rest ≡ Some p → IsPair text p
  unfolding pair_behind
  pair-is text [] p r is = absurd cc
  pair-is text (space ∷ more) p r is =
      subst (λ (t : List ℕ). IsPair t p) (word-more text space more r) (partner-is (word_of text) more (rest_of more) p refl is)

  -- this text spells one that was cut
  abbrev IsCut : (text : List ℕ) → OpenCut → Type 0
  IsCut text c =
      (item : Option ℕ) × (record { ticket = ticket; seat = seat; item = item } ≡ c) × (text ≡ item_text item) × FitsItem item

  marked-is : (text : List ℕ) (c : OpenCut) → (number_spelled text >>= λ m. Some (record { ticket = ticket; seat = seat; item = Some m })) ≡ Some c → IsCut (codes "give " ++ text) c
  marked-is text c is =
      let m = bind-some (number_spelled text) _ c is in
      let number = number_spelled-is text m.0 m.1 in
      let made : OpenCut = record { ticket = ticket; seat = seat; item = Some m.0 } in
      let same : made ≡ c = (let inner : Some made ≡ Some c = m.2 in cc) in
      (Some m.0, same, ap (λ (t : List ℕ). codes "give " ++ t) number.0, number.1)

  cut-is : (text rest : List ℕ) (c : OpenCut) → rest_of text ≡ rest → cut_of_line seat ticket (word_of text) rest ≡ Some c → IsCut text c
  unfolding cut_of_line
  cut-is text [] c r is =
      let taker : OpenCut = record { ticket = ticket; seat = seat; item = None } in
      chosen (word_of text) (codes "take") (Some taker) None c (IsCut text c) is
      (λ word f. let same : taker ≡ c = (let inner : Some taker ≡ Some c = f in cc) in (None, same, sym (word-whole text r) ∙ word, tt))
      (λ none. absurd cc)
  cut-is text (space ∷ more) c r is =
      chosen (word_of text) (codes "give") (number_spelled more >>= λ m. Some (record { ticket = ticket; seat = seat; item = Some m })) None c (IsCut text c) is
      (λ word f.
      let cut : codes "give " ++ more ≡ text = sym (both (word_of text) more (codes "give") more word refl) ∙ word-more text space more r in
      subst (λ (t : List ℕ). IsCut t c) cut (marked-is more c f))
      (λ none. absurd cc)

-- a line's first words, and what stands behind them
placed : (sort text : List ℕ) (seat ticket : ℕ) → placed_text sort seat ticket ++ text ≡ sort ++ (decimal seat ++ 32 ∷ (decimal ticket ++ 32 ∷ text))
placed sort text seat ticket =
    append_assoc sort (decimal seat ++ 32 ∷ (decimal ticket ++ 32 ∷ [])) text
    ∙ ap (λ (t : List ℕ). sort ++ t) (append_assoc (decimal seat) (32 ∷ (decimal ticket ++ 32 ∷ [])) text
    ∙ ap (λ (t : List ℕ). decimal seat ++ 32 ∷ t) (append_assoc (decimal ticket) (32 ∷ []) text))

placed-is : (first sort text words : List ℕ) (seat ticket : ℕ) → first ≡ sort → text ≡ words → first ++ 32 ∷ (decimal seat ++ 32 ∷ (decimal ticket ++ 32 ∷ text)) ≡ placed_text (sort ++ 32 ∷ []) seat ticket ++ words
placed-is first sort text words seat ticket first_is text_is =
    both first (decimal seat ++ 32 ∷ (decimal ticket ++ 32 ∷ text)) sort (decimal seat ++ 32 ∷ (decimal ticket ++ 32 ∷ words)) first_is (ap (λ (t : List ℕ). decimal seat ++ 32 ∷ (decimal ticket ++ 32 ∷ t)) text_is)
    ∙ (sym (append_assoc sort (32 ∷ []) (decimal seat ++ 32 ∷ (decimal ticket ++ 32 ∷ words)))
    ∙ sym (placed (sort ++ 32 ∷ []) words seat ticket))

module _ (first text : List ℕ) (seat ticket : ℕ) (piece : Piece) (small : seat < most_seats) (within : ticket ≤ last_ticket) where
  abbrev line : List ℕ
  line = first ++ 32 ∷ (decimal seat ++ 32 ∷ (decimal ticket ++ 32 ∷ text))

  stands-is : first ≡ codes "line" → (entry_of_line seat ticket (word_of text) (rest_of text) >>= λ e. Some (Stands e)) ≡ Some piece → IsPiece line piece
  stands-is word is =
      let b = bind-some (entry_of_line seat ticket (word_of text) (rest_of text)) _ piece is in
      let entry = entry-is seat ticket text (rest_of text) b.0 refl b.1 in
      let made : Entry ℕ = record { ticket = ticket; seat = seat; item = entry.0; waits = entry.1 } in
      found (IsPiece line) (Stands made) piece (ap (λ (e : Entry ℕ). Some (Stands e)) entry.2 ∙ b.2)
      (placed-is first (codes "line") text (standing_text entry.0 entry.1) seat ticket word entry.3, ((small, within), entry.4))

  met-is : first ≡ codes "pair" → (pair_behind seat ticket (word_of text) (rest_of text) >>= λ p. Some (Met p)) ≡ Some piece → IsPiece line piece
  met-is word is =
      let b = bind-some (pair_behind seat ticket (word_of text) (rest_of text)) _ piece is in
      let pair = pair-is seat ticket text (rest_of text) b.0 refl b.1 in
      let made : OpenPair = record { ticket = ticket; seat = seat; side = pair.0; partner = pair.1; mark = pair.2 } in
      found (IsPiece line) (Met made) piece (ap (λ (p : OpenPair). Some (Met p)) pair.3 ∙ b.2)
      (placed-is first (codes "pair") text (side_text pair.0 ++ 32 ∷ (decimal pair.1 ++ 32 ∷ decimal pair.2)) seat ticket word pair.4, ((small, within), pair.5))

  left-is : first ≡ codes "cut" → (cut_of_line seat ticket (word_of text) (rest_of text) >>= λ c. Some (Cut c)) ≡ Some piece → IsPiece line piece
  left-is word is =
      let b = bind-some (cut_of_line seat ticket (word_of text) (rest_of text)) _ piece is in
      let cut = cut-is seat ticket text (rest_of text) b.0 refl b.1 in
      let made : OpenCut = record { ticket = ticket; seat = seat; item = cut.0 } in
      found (IsPiece line) (Cut made) piece (ap (λ (c : OpenCut). Some (Cut c)) cut.1 ∙ b.2)
      (placed-is first (codes "cut") text (item_text cut.0) seat ticket word cut.2, ((small, within), cut.3))

  ticketed-is : ticketed_piece first seat ticket (word_of text) (rest_of text) ≡ Some piece → IsPiece line piece
  unfolding ticketed_piece
  ticketed-is is =
      chosen first (codes "line") (entry_of_line seat ticket (word_of text) (rest_of text) >>= λ e. Some (Stands e)) _ piece (IsPiece line piece) is stands-is (λ e1.
      chosen first (codes "pair") (pair_behind seat ticket (word_of text) (rest_of text) >>= λ p. Some (Met p)) _ piece (IsPiece line piece) e1 met-is (λ e2.
      chosen first (codes "cut") (cut_of_line seat ticket (word_of text) (rest_of text) >>= λ c. Some (Cut c)) _ piece (IsPiece line piece) e2 left-is (λ e3. absurd cc)))

with_ticket-is : (first : List ℕ) (seat : ℕ) (text rest : List ℕ) (piece : Piece) → seat < most_seats → rest_of text ≡ rest → piece_with_ticket first seat (word_of text) rest ≡ Some piece → IsPiece (first ++ 32 ∷ (decimal seat ++ 32 ∷ text)) piece
unfolding piece_with_ticket
with_ticket-is first seat text [] piece small r is = absurd cc
with_ticket-is first seat text (space ∷ more) piece small r is =
    let t = bind-some (ticket_of (word_of text)) _ piece is in
    let ticket = ticket-is (word_of text) t.0 t.1 in
    let cut : decimal t.0 ++ 32 ∷ more ≡ text = sym (both (word_of text) more (decimal t.0) more ticket.0 refl) ∙ word-more text space more r in
    subst (λ (x : List ℕ). IsPiece (first ++ 32 ∷ (decimal seat ++ 32 ∷ x)) piece) cut (ticketed-is first more seat t.0 piece small ticket.1 t.2)

with_seat-is : (first text rest : List ℕ) (piece : Piece) → rest_of text ≡ rest → piece_with_seat first (word_of text) rest ≡ Some piece → IsPiece (first ++ 32 ∷ text) piece
unfolding piece_with_seat
with_seat-is first text [] piece r is =
    chosen first (codes "flag") (seat_of (word_of text) >>= λ i. Some (Flagged i)) None piece (IsPiece (first ++ 32 ∷ text) piece) is
    (λ word f.
    let i = bind-some (seat_of (word_of text)) _ piece f in
    let seat = seat_word-is (word_of text) i.0 i.1 in
    found (IsPiece (first ++ 32 ∷ text)) (Flagged i.0) piece i.2 (both first text (codes "flag") (decimal i.0) word (sym (word-whole text r) ∙ seat.0), seat.1))
    (λ none. absurd cc)
with_seat-is first text (space ∷ more) piece r is =
    let i = bind-some (seat_of (word_of text)) _ piece is in
    let seat = seat_word-is (word_of text) i.0 i.1 in
    let cut : decimal i.0 ++ 32 ∷ more ≡ text = sym (both (word_of text) more (decimal i.0) more seat.0 refl) ∙ word-more text space more r in
    subst (λ (x : List ℕ). IsPiece (first ++ 32 ∷ x) piece) cut (with_ticket-is first i.0 more (rest_of more) piece seat.1 refl i.2)

behind-first : (text rest : List ℕ) (piece : Piece) → rest_of text ≡ rest → piece_behind (word_of text) rest ≡ Some piece → IsPiece text piece
unfolding piece_behind
behind-first text [] piece r is = absurd cc
behind-first text (space ∷ more) piece r is =
    subst (λ (t : List ℕ). IsPiece t piece) (word-more text space more r) (with_seat-is (word_of text) more (rest_of more) piece refl is)

-- ---- what is spelled is read

giver-again : (seat ticket m : ℕ) (waits : Bool) → m < 2 ^ 64 → giver_entry seat ticket (word_of (decimal m ++ 32 ∷ waits_text waits)) (rest_of (decimal m ++ 32 ∷ waits_text waits)) ≡ Some (record { ticket = ticket; seat = seat; item = Some m; waits = waits })
unfolding giver_entry waits_of waits_text
giver-again seat ticket m true lt =
    let cut = tail-space (codes "waits") (decimal m) (no_space-decimal m lt) in
    rw (cut.0, cut.1, number_spelled-decimal m lt) refl
giver-again seat ticket m false lt =
    let cut = tail-space (codes "kept") (decimal m) (no_space-decimal m lt) in
    rw (cut.0, cut.1, number_spelled-decimal m lt) refl

entry-again : (seat ticket : ℕ) (item : Option ℕ) (waits : Bool) → FitsStanding item waits → entry_of_line seat ticket (word_of (standing_text item waits)) (rest_of (standing_text item waits)) ≡ Some (record { ticket = ticket; seat = seat; item = item; waits = waits })
unfolding entry_of_line word_of rest_of waits_text
entry-again seat ticket None waits h =
    ap (λ (w : Bool). let e : Entry ℕ = record { ticket = ticket; seat = seat; item = None; waits = w } in Some e) (sym h)
entry-again seat ticket (Some m) true h = giver-again seat ticket m true h
entry-again seat ticket (Some m) false h = giver-again seat ticket m false h

pair-again : (seat ticket : ℕ) (side : Side) (u m : ℕ) → FitsPair m u → let text : List ℕ = side_text side ++ 32 ∷ (decimal u ++ 32 ∷ decimal m) in pair_behind seat ticket (word_of text) (rest_of text) ≡ Some (record { ticket = ticket; seat = seat; side = side; partner = u; mark = m })
unfolding pair_behind pair_of_line
pair-again seat ticket side u m h =
    let first = tail-space (decimal u ++ 32 ∷ decimal m) (side_text side) (side-no_space side) in
    let second = tail-space (decimal m) (decimal u) (no_space-decimal u (omega (arith, h.1))) in
    rw (first.0, first.1, second.0, second.1, side-again side, ticket-again u h.1, number_spelled-decimal m h.0) refl

cut-again : (seat ticket : ℕ) (item : Option ℕ) → FitsItem item → cut_of_line seat ticket (word_of (item_text item)) (rest_of (item_text item)) ≡ Some (record { ticket = ticket; seat = seat; item = item })
unfolding cut_of_line word_of rest_of
cut-again seat ticket None h = refl
cut-again seat ticket (Some m) h = rw (number_spelled-decimal m h) refl

-- the words of a line with a seat and a ticket are read one by one
placed-again : (first text : List ℕ) (seat ticket : ℕ) → HasNoSpace first → seat < most_seats → ticket ≤ last_ticket → let line : List ℕ = first ++ 32 ∷ (decimal seat ++ 32 ∷ (decimal ticket ++ 32 ∷ text)) in piece_behind (word_of line) (rest_of line) ≡ ticketed_piece first seat ticket (word_of text) (rest_of text)
unfolding piece_behind piece_with_seat piece_with_ticket
placed-again first text seat ticket none small within =
    let one = tail-space (decimal seat ++ 32 ∷ (decimal ticket ++ 32 ∷ text)) first none in
    let two = tail-space (decimal ticket ++ 32 ∷ text) (decimal seat) (no_space-decimal seat (omega (arith, small))) in
    let three = tail-space text (decimal ticket) (no_space-decimal ticket (omega (arith, within))) in
    rw (one.0, one.1, two.0, two.1, three.0, three.1, seat_word-again seat small, ticket-again ticket within) refl

abbrev reads_as : (line : List ℕ) → Piece → Type 0
reads_as line piece = piece_behind (word_of line) (rest_of line) ≡ Some piece

flag-again : (i : ℕ) → i < most_seats → reads_as (codes "flag " ++ decimal i) (Flagged i)
unfolding piece_behind piece_with_seat word_of rest_of
flag-again i lt =
    let cut = word-alone (decimal i) (no_space-decimal i (omega (arith, lt))) in
    rw (cut.0, cut.1, seat_word-again i lt) refl

piece_in-again : (piece : Piece) → FitsPiece piece → reads_as (piece_text piece) piece
unfolding ticketed_piece
piece_in-again (Stands e) h =
    let text = standing_text e.item e.waits in
    let first : HasNoSpace (codes "line") = (refl, (refl, (refl, (refl, tt)))) in
    subst (λ (l : List ℕ). reads_as l (Stands e)) (sym (placed (codes "line ") text e.seat e.ticket))
    (placed-again (codes "line") text e.seat e.ticket first h.0.0 h.0.1 ∙ rw (entry-again e.seat e.ticket e.item e.waits h.1) refl)
piece_in-again (Met p) h =
    let text = side_text p.side ++ 32 ∷ (decimal p.partner ++ 32 ∷ decimal p.mark) in
    let first : HasNoSpace (codes "pair") = (refl, (refl, (refl, (refl, tt)))) in
    subst (λ (l : List ℕ). reads_as l (Met p)) (sym (placed (codes "pair ") text p.seat p.ticket))
    (placed-again (codes "pair") text p.seat p.ticket first h.0.0 h.0.1 ∙ rw (pair-again p.seat p.ticket p.side p.partner p.mark h.1) refl)
piece_in-again (Cut c) h =
    let text = item_text c.item in
    let first : HasNoSpace (codes "cut") = (refl, (refl, (refl, tt))) in
    subst (λ (l : List ℕ). reads_as l (Cut c)) (sym (placed (codes "cut ") text c.seat c.ticket))
    (placed-again (codes "cut") text c.seat c.ticket first h.0.0 h.0.1 ∙ rw (cut-again c.seat c.ticket c.item h.1) refl)
piece_in-again (Flagged i) h = flag-again i h

-- ---- a spelling is short

item-short : (item : Option ℕ) → FitsItem item → length (item_text item) ≤ 25
item-short None h = lit≤ tt
item-short (Some m) h = omega (arith, number-short m h)

standing-short : (item : Option ℕ) (waits : Bool) → FitsStanding item waits → length (standing_text item waits) ≤ 31
standing-short None waits h = lit≤ tt
standing-short (Some m) true h = omega (arith, length-append (item_text (Some m)) (codes " waits"), item-short (Some m) h)
standing-short (Some m) false h = omega (arith, length-append (item_text (Some m)) (codes " kept"), item-short (Some m) h)

placed-short : (sort text : List ℕ) (seat ticket : ℕ) → length sort ≤ 5 → seat < most_seats → ticket ≤ last_ticket → length text ≤ 60 → length (placed_text sort seat ticket ++ text) ≤ 128
placed-short sort text seat ticket short small within h =
    let same : length (placed_text sort seat ticket ++ text) ≡ length (sort ++ (decimal seat ++ 32 ∷ (decimal ticket ++ 32 ∷ text))) = ap (λ (t : List ℕ). length t) (placed sort text seat ticket) in
    omega (arith, same, short, h, length-append sort (decimal seat ++ 32 ∷ (decimal ticket ++ 32 ∷ text)), length-append (decimal seat) (32 ∷ (decimal ticket ++ 32 ∷ text)), length-append (decimal ticket) (32 ∷ text), number-short seat (omega (arith, small)), number-short ticket (omega (arith, within)))

piece-short : (piece : Piece) → FitsPiece piece → length (piece_text piece) ≤ 128
piece-short (Stands e) h = placed-short (codes "line ") (standing_text e.item e.waits) e.seat e.ticket (lit≤ tt) h.0.0 h.0.1 (omega (arith, standing-short e.item e.waits h.1))
piece-short (Met p) h =
    let text : List ℕ = side_text p.side ++ 32 ∷ (decimal p.partner ++ 32 ∷ decimal p.mark) in
    let short : length text ≤ 60 = omega (arith, length-append (side_text p.side) (32 ∷ (decimal p.partner ++ 32 ∷ decimal p.mark)), length-append (decimal p.partner) (32 ∷ decimal p.mark), side-short p.side, number-short p.partner (omega (arith, h.1.1)), number-short p.mark h.1.0) in
    placed-short (codes "pair ") text p.seat p.ticket (lit≤ tt) h.0.0 h.0.1 short
piece-short (Cut c) h = placed-short (codes "cut ") (item_text c.item) c.seat c.ticket (lit≤ tt) h.0.0 h.0.1 (omega (arith, item-short c.item h.1))
piece-short (Flagged i) h = omega (arith, number-short i (omega (arith, h)))

-- ---- the law of pieces

pub piece-is : (line : List ℕ) (piece : Piece) → piece_of line ≡ Some piece → (line ≡ piece_text piece) × FitsPiece piece
unfolding piece_of
piece-is line piece e =
    behind-first line (rest_of line) piece refl (chosen-second (ltb 128 (length line)) (piece_behind (word_of line) (rest_of line)) piece e).1

pub piece-again : (piece : Piece) → FitsPiece piece → piece_of (piece_text piece) ≡ Some piece
unfolding piece_of
piece-again piece fits = rw (le-ltb 128 (length (piece_text piece)) (piece-short piece fits)) (piece_in-again piece fits)

pub pieces-have-one-spelling : PiecesHaveOneSpelling
pieces-have-one-spelling line piece = (piece-is line piece, λ p. ap piece_of p.0 ∙ piece-again piece p.1)

-- ---- the law of a base's numbers

numbers_in-is : (text rest : List ℕ) (gone last : ℕ) → rest_of text ≡ rest → numbers_in (word_of text) rest ≡ Some (gone, last) → (text ≡ decimal gone ++ 32 ∷ decimal last) × FitsNumbers gone last
unfolding numbers_in
numbers_in-is text [] gone last r is = absurd cc
numbers_in-is text (space ∷ more) gone last r is =
    let numbers : ℕ × ℕ = (gone, last) in
    let g = bind-some (ticket_of (word_of text)) _ numbers is in
    let t = bind-some (ticket_of more) _ numbers g.2 in
    let one = ticket-is (word_of text) g.0 g.1 in
    let two = ticket-is more t.0 t.1 in
    let made : ℕ × ℕ = (g.0, t.0) in
    let same : made ≡ numbers = (let inner : Some made ≡ Some numbers = t.2 in cc) in
    let cut : text ≡ decimal g.0 ++ 32 ∷ decimal t.0 = sym (word-more text space more r) ∙ both (word_of text) more (decimal g.0) (decimal t.0) one.0 two.0 in
    subst (λ (n : ℕ × ℕ). (text ≡ decimal n.0 ++ 32 ∷ decimal n.1) × FitsNumbers n.0 n.1) same (cut, (one.1, two.1))

pub numbers-is : (line : List ℕ) (gone last : ℕ) → numbers_of line ≡ Some (gone, last) → (line ≡ numbers_text gone last) × FitsNumbers gone last
unfolding numbers_of
numbers-is line gone last e =
    let numbers : ℕ × ℕ = (gone, last) in
    let whole = chosen-second (ltb 128 (length line)) (behind (codes "base ") line >>= λ text. numbers_in (word_of text) (rest_of text)) numbers e in
    let b = bind-some (behind (codes "base ") line) (λ text. numbers_in (word_of text) (rest_of text)) numbers whole.1 in
    let is = numbers_in-is b.0 (rest_of b.0) gone last refl b.2 in
    (behind-is (codes "base ") line b.0 b.1 ∙ ap (λ (t : List ℕ). codes "base " ++ t) is.0, is.1)

numbers_in-again : (gone last : ℕ) → FitsNumbers gone last → let text : List ℕ = decimal gone ++ 32 ∷ decimal last in numbers_in (word_of text) (rest_of text) ≡ Some (gone, last)
unfolding numbers_in
numbers_in-again gone last fits =
    let cut = tail-space (decimal last) (decimal gone) (no_space-decimal gone (omega (arith, fits.0))) in
    rw (cut.0, cut.1, ticket-again gone fits.0, ticket-again last fits.1) refl

numbers-short : (gone last : ℕ) → FitsNumbers gone last → length (numbers_text gone last) ≤ 128
numbers-short gone last fits =
    omega (arith, length-append (decimal gone) (32 ∷ decimal last), number-short gone (omega (arith, fits.0)), number-short last (omega (arith, fits.1)))

pub numbers-again : (gone last : ℕ) → FitsNumbers gone last → numbers_of (numbers_text gone last) ≡ Some (gone, last)
unfolding numbers_of behind
numbers-again gone last fits =
    rw (le-ltb 128 (length (numbers_text gone last)) (numbers-short gone last fits)) (numbers_in-again gone last fits)

pub base-numbers-have-one-spelling : BaseNumbersHaveOneSpelling
base-numbers-have-one-spelling line gone last =
    (numbers-is line gone last, λ p. ap numbers_of p.0 ∙ numbers-again gone last p.1)

-- ---- the law of first lines

pub based_head-is : (line : List ℕ) (kind : Kind) → based_head_of line ≡ Some kind → (line ≡ based_head_text kind) × FitsHead kind
unfolding based_head_of
based_head-is line kind e =
    let whole = chosen-second (ltb 128 (length line)) (behind (codes "trace 2 ") line >>= kind_in) kind e in
    let b = bind-some (behind (codes "trace 2 ") line) kind_in kind whole.1 in
    let is = kind_in-is b.0 kind b.2 in
    (behind-is (codes "trace 2 ") line b.0 b.1 ∙ ap (λ (t : List ℕ). codes "trace 2 " ++ t) is.0, is.1)

pub based_head-again : (kind : Kind) → FitsHead kind → based_head_of (based_head_text kind) ≡ Some kind
unfolding based_head_of behind
based_head-again kind fits =
    rw (le-ltb 128 (length (based_head_text kind)) (head-short kind fits)) (kind_in-again kind fits)

pub based-heads-have-one-spelling : BasedHeadsHaveOneSpelling
based-heads-have-one-spelling line kind =
    (based_head-is line kind, λ p. ap based_head_of p.0 ∙ based_head-again kind p.1)
