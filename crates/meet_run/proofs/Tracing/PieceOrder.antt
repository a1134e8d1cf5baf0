-- The pieces of a base come in one order, and a base is laid by laying its pieces in this order.
use Rattle.std.proofs.Common.{◌≡◌, true, ◌&&◌, List, [], ◌∷◌, ◌++◌, map, refl, sym, ap, subst, ◌∙◌, append_assoc, append-nil}
use Rattle.std.specs.Prelude.{⊤, ℕ}
use Rattle.std.proofs.lemmas.Bool.{and_parts}
use Rattle.std.proofs.lemmas.List.{map-append}
use Rattle.meet_tickets.specs.declared.lines.Entry.{Entry}
use Rattle.meet_tickets.specs.declared.bases.OpenPair.{OpenPair}
use Rattle.meet_tickets.specs.declared.bases.OpenCut.{OpenCut}
use Rattle.meet_tickets.specs.declared.places.Kind.{Kind}
use Rattle.meet_tickets.specs.Bases.{Based, IsWellFormed}
use Rattle.meet_history.specs.declared.pieces.Piece.{Piece}
use Rattle.meet_history.specs.declared.pieces.Piece.TheVariants.{Stands, Met, Cut, Flagged}
use Rattle.meet_history.specs.Pieces.{bare_base, with_piece, is_nil, in_order}
use Rattle.meet_history.proofs.PieceLaws.{nil-of, front-well}
use Rattle.meet_run.specs.Tracing.BaseWording.{pieces_of}

-- four lists, and then one more
four : {A : Type 0} (a b c d e : List A) → a ++ (b ++ (c ++ (d ++ e))) ≡ (a ++ (b ++ (c ++ d))) ++ e
four {A} a b c d e =
    ap (λ (t : List A). a ++ t) (ap (λ (t : List A). b ++ t) (sym (append_assoc c d e)) ∙ sym (append_assoc b (c ++ d) e))
    ∙ sym (append_assoc a (b ++ (c ++ d)) e)

-- where a piece comes in its order it is the last of the base's
pub pieces-more : (b : Based) (piece : Piece) → in_order b piece ≡ true → pieces_of (with_piece b piece) ≡ pieces_of b ++ piece ∷ []
pieces-more b (Flagged i) order =
    let stands : List Piece = map Stands b.line in
    let met : List Piece = map Met b.pairs in
    let cut : List Piece = map Cut b.cut in
    ap (λ (t : List Piece). stands ++ (met ++ (cut ++ t))) (map-append Flagged b.flags (i ∷ []))
    ∙ four stands met cut (map Flagged b.flags) (Flagged i ∷ [])
pieces-more b (Cut c) order = by b.flags (nil-of b.flags order)
  where
    stands : List Piece
    stands = map Stands b.line

    met : List Piece
    met = map Met b.pairs

    by : (flags : List ℕ) → flags ≡ [] → stands ++ (met ++ (map Cut (b.cut ++ c ∷ []) ++ map Flagged flags)) ≡ (stands ++ (met ++ (map Cut b.cut ++ map Flagged flags))) ++ Cut c ∷ []
    by flags none = subst (λ (fs : List ℕ). stands ++ (met ++ (map Cut (b.cut ++ c ∷ []) ++ map Flagged fs)) ≡ (stands ++ (met ++ (map Cut b.cut ++ map Flagged fs))) ++ Cut c ∷ []) (sym none)
        (ap (λ (t : List Piece). stands ++ (met ++ t)) (append-nil (map Cut (b.cut ++ c ∷ [])) ∙ map-append Cut b.cut (c ∷ []))
        ∙ four stands met (map Cut b.cut) [] (Cut c ∷ []))
pieces-more b (Met p) order =
    let parts = and_parts (is_nil b.cut) (is_nil b.flags) order in
    let stands : List Piece = map Stands b.line in
    let P : List OpenCut → List ℕ → Type 0 = λ cut flags. stands ++ (map Met (b.pairs ++ p ∷ []) ++ (map Cut cut ++ map Flagged flags)) ≡ (stands ++ (map Met b.pairs ++ (map Cut cut ++ map Flagged flags))) ++ Met p ∷ [] in
    subst (λ (cut : List OpenCut). P cut b.flags) (sym (nil-of b.cut parts.0))
    (subst (λ (flags : List ℕ). P [] flags) (sym (nil-of b.flags parts.1))
    (ap (λ (t : List Piece). stands ++ t) (append-nil (map Met (b.pairs ++ p ∷ [])) ∙ map-append Met b.pairs (p ∷ []))
    ∙ four stands (map Met b.pairs) [] [] (Met p ∷ [])))
pieces-more b (Stands e) order =
    let first = and_parts (is_nil b.pairs) (is_nil b.cut && is_nil b.flags) order in
    let parts = and_parts (is_nil b.cut) (is_nil b.flags) first.1 in
    let P : List OpenPair → List OpenCut → List ℕ → Type 0 = λ pairs cut flags. map Stands (b.line ++ e ∷ []) ++ (map Met pairs ++ (map Cut cut ++ map Flagged flags)) ≡ (map Stands b.line ++ (map Met pairs ++ (map Cut cut ++ map Flagged flags))) ++ Stands e ∷ [] in
    subst (λ (pairs : List OpenPair). P pairs b.cut b.flags) (sym (nil-of b.pairs first.0))
    (subst (λ (cut : List OpenCut). P [] cut b.flags) (sym (nil-of b.cut parts.0))
    (subst (λ (flags : List ℕ). P [] [] flags) (sym (nil-of b.flags parts.1))
    (append-nil (map Stands (b.line ++ e ∷ [])) ∙ (map-append Stands b.line (e ∷ []) ∙ four (map Stands b.line) [] [] [] (Stands e ∷ [])))))

-- a base with these pieces behind its own
abbrev pub with_pieces : Based → List Piece → Based
with_pieces b [] = b
with_pieces b (piece ∷ pieces) = with_pieces (with_piece b piece) pieces

-- each comes in its order
abbrev pub AreInOrder : Based → List Piece → Type 0
AreInOrder b [] = ⊤
AreInOrder b (piece ∷ pieces) = (in_order b piece ≡ true) × AreInOrder (with_piece b piece) pieces

-- a base is well formed where it is so with pieces in their order
pub fronts-well : (k : Kind) (b : Based) (pieces : List Piece) → AreInOrder b pieces → IsWellFormed k (with_pieces b pieces) → IsWellFormed k b
fronts-well k b [] order well = well
fronts-well k b (piece ∷ pieces) order well = front-well k b piece order.0 (fronts-well k (with_piece b piece) pieces order.1 well)

-- a base's lists are laid one after another
abbrev IsLaidBy : (b new : Based) → List Piece → Type 0
IsLaidBy b new pieces = AreInOrder b pieces × (with_pieces b pieces ≡ new)

laid-flags : (b : Based) (flags : List ℕ) → IsLaidBy b (record b { flags = b.flags ++ flags }) (map Flagged flags)
laid-flags b [] = (tt, λ i. record b { flags = sym (append-nil b.flags) i })
laid-flags b (x ∷ flags) =
    let rest = laid-flags (with_piece b (Flagged x)) flags in
    ((refl, rest.0), rest.1 ∙ λ i. record b { flags = append_assoc b.flags (x ∷ []) flags i })

module _ (gone last : ℕ) (line : List (Entry ℕ)) (new : Based) where
  laid-cut : (pairs : List OpenPair) (old cut : List OpenCut) (rest : List Piece) → IsLaidBy (record { gone = gone; last = last; line = line; pairs = pairs; cut = old ++ cut; flags = [] }) new rest → IsLaidBy (record { gone = gone; last = last; line = line; pairs = pairs; cut = old; flags = [] }) new (map Cut cut ++ rest)
  laid-cut pairs old [] rest laid = subst (λ (cs : List OpenCut). IsLaidBy (record { gone = gone; last = last; line = line; pairs = pairs; cut = cs; flags = [] }) new rest) (append-nil old) laid
  laid-cut pairs old (c ∷ cut) rest laid =
      let more = laid-cut pairs (old ++ c ∷ []) cut rest (subst (λ (cs : List OpenCut). IsLaidBy (record { gone = gone; last = last; line = line; pairs = pairs; cut = cs; flags = [] }) new rest) (sym (append_assoc old (c ∷ []) cut)) laid) in
      ((refl, more.0), more.1)

  laid-pairs : (old pairs : List OpenPair) (rest : List Piece) → IsLaidBy (record { gone = gone; last = last; line = line; pairs = old ++ pairs; cut = []; flags = [] }) new rest → IsLaidBy (record { gone = gone; last = last; line = line; pairs = old; cut = []; flags = [] }) new (map Met pairs ++ rest)
  laid-pairs old [] rest laid = subst (λ (ps : List OpenPair). IsLaidBy (record { gone = gone; last = last; line = line; pairs = ps; cut = []; flags = [] }) new rest) (append-nil old) laid
  laid-pairs old (p ∷ pairs) rest laid =
      let more = laid-pairs (old ++ p ∷ []) pairs rest (subst (λ (ps : List OpenPair). IsLaidBy (record { gone = gone; last = last; line = line; pairs = ps; cut = []; flags = [] }) new rest) (sym (append_assoc old (p ∷ []) pairs)) laid) in
      ((refl, more.0), more.1)

module _ (gone last : ℕ) (new : Based) where
  laid-line : (old line : List (Entry ℕ)) (rest : List Piece) → IsLaidBy (record { gone = gone; last = last; line = old ++ line; pairs = []; cut = []; flags = [] }) new rest → IsLaidBy (record { gone = gone; last = last; line = old; pairs = []; cut = []; flags = [] }) new (map Stands line ++ rest)
  laid-line old [] rest laid = subst (λ (es : List (Entry ℕ)). IsLaidBy (record { gone = gone; last = last; line = es; pairs = []; cut = []; flags = [] }) new rest) (append-nil old) laid
  laid-line old (e ∷ line) rest laid =
      let more = laid-line (old ++ e ∷ []) line rest (subst (λ (es : List (Entry ℕ)). IsLaidBy (record { gone = gone; last = last; line = es; pairs = []; cut = []; flags = [] }) new rest) (sym (append_assoc old (e ∷ []) line)) laid) in
      ((refl, more.0), more.1)

-- a base is laid by its pieces in their order
pub laid-whole : (b : Based) → AreInOrder (bare_base b.gone b.last) (pieces_of b) × (with_pieces (bare_base b.gone b.last) (pieces_of b) ≡ b)
laid-whole b =
    laid-line b.gone b.last b [] b.line (map Met b.pairs ++ (map Cut b.cut ++ map Flagged b.flags))
    (laid-pairs b.gone b.last b.line b [] b.pairs (map Cut b.cut ++ map Flagged b.flags)
    (laid-cut b.gone b.last b.line b b.pairs [] b.cut (map Flagged b.flags)
    (laid-flags (record { gone = b.gone; last = b.last; line = b.line; pairs = b.pairs; cut = b.cut; flags = [] }) b.flags)))
