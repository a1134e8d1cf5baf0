-- The lines of a chain, parted before each that is the first of a trace.
use Rattle.std.proofs.Common.{◌≡◌, inl, inr, ℕ, ◌+◌, ◌<◌, true, false, cond, List, [], ◌∷◌, ◌++◌, length, Option, Some, None, refl, sym, ap, ◌∙◌, append_assoc, arith}
use Rattle.std.specs.Option.{option_map_or}
use Rattle.std.proofs.lemmas.Bool.{cases_Bool, lt-ltb}
use Rattle.std.proofs.lemmas.List.Elements.{All-nil, All-cons, All-head, All-tail, All-append}
use Rattle.meet_tickets.specs.declared.places.Kind.{Kind}
use Rattle.meet_tickets.specs.Bases.{Based}
use Rattle.meet_history.specs.declared.pieces.Piece.{Piece}
use Rattle.meet_history.specs.Pieces.{bare_base, with_piece, may_follow}
use Rattle.meet_run.specs.Tracing.BaseGrammar.{piece_of, numbers_of, based_head_of}
use Rattle.meet_run.specs.Tracing.BasedTraces.{Told, record_from, records_told, told_from, told_behind, ill_at}
use Rattle.meet_run.specs.Tracing.Chains.{is_head, with_line, parts_of, fault_in_parts, HaveNoHead}
use Rattle.meet_run.specs.Texts.Reading.{Listed, listed}
use Rattle.meet_run.specs.Tracing.TraceGrammar.{head_of}
use Rattle.meet_run.specs.Tracing.Traces.{record_at, records_behind, trace_fault_in}
use Rattle.meet_run.proofs.Texts.NextLemmas.{head-too_long, record-too_long}
use Rattle.meet_run.proofs.Tracing.ReadFrom.{long-none}
use Rattle.meet_run.proofs.Scripts.ScriptLemmas.{listed-end, listed-more, listed-fault}
use Rattle.meet_run.proofs.Tracing.TraceReading.{based-long}

-- ---- where lines are parted

-- the first part begins with the first line
record Begins (line : List ℕ) (parts : List (List (List ℕ))) : Type 0 where
  own : List (List ℕ)
  others : List (List (List ℕ))
  is : parts ≡ (line ∷ own) ∷ others

begins : (line : List ℕ) (parts : List (List (List ℕ))) → Begins line (with_line line parts)
begins line [] = record { own = []; others = []; is = refl }
begins line ([] ∷ parts) = record { own = []; others = parts; is = refl }
begins line ((first ∷ part) ∷ parts) = elim (cases_Bool (is_head first)) [
  | inl t ↦ record { own = []; others = (first ∷ part) ∷ parts; is = ap (λ b. cond b ((line ∷ []) ∷ ((first ∷ part) ∷ parts)) ((line ∷ first ∷ part) ∷ parts)) t }
  | inr f ↦ record { own = first ∷ part; others = parts; is = ap (λ b. cond b ((line ∷ []) ∷ ((first ∷ part) ∷ parts)) ((line ∷ first ∷ part) ∷ parts)) f }
]

pub parts-end : parts_of [] ≡ []
unfolding parts_of
parts-end = refl

parts-more : (line : List ℕ) (lines : List (List ℕ)) → parts_of (line ∷ lines) ≡ with_line line (parts_of lines)
unfolding parts_of
parts-more line lines = refl

-- nothing is left, or lines that begin with the first of a trace
abbrev pub BeginsAnew : List (List ℕ) → Type 0
BeginsAnew [] = Unit {0}
BeginsAnew (line ∷ lines) = is_head line ≡ true

-- before a head a part ends
alone : (line : List ℕ) (rest : List (List ℕ)) → BeginsAnew rest → parts_of (line ∷ rest) ≡ (line ∷ []) ∷ parts_of rest
alone line [] anew = parts-more line [] ∙ (ap (with_line line) parts-end ∙ ap (λ (p : List (List (List ℕ))). (line ∷ []) ∷ p) (sym parts-end))
alone line (head ∷ rest) anew =
    let b = begins head (parts_of rest) in
    let whole : parts_of (head ∷ rest) ≡ (head ∷ b.own) ∷ b.others = parts-more head rest ∙ b.is in
    parts-more line (head ∷ rest)
    ∙ (ap (with_line line) whole
    ∙ (ap (λ c. cond c ((line ∷ []) ∷ ((head ∷ b.own) ∷ b.others)) ((line ∷ head ∷ b.own) ∷ b.others)) anew
    ∙ ap (λ (p : List (List (List ℕ))). (line ∷ []) ∷ p) (sym whole)))

-- a part goes to the next head
pub part-first : (line : List ℕ) (own rest : List (List ℕ)) → HaveNoHead own → BeginsAnew rest → parts_of (line ∷ own ++ rest) ≡ (line ∷ own) ∷ parts_of rest
part-first line [] rest none anew = alone line rest anew
part-first line (next ∷ own) rest none anew =
    parts-more line (next ∷ own ++ rest)
    ∙ (ap (with_line line) (part-first next own rest (All-tail (λ (l : List ℕ). is_head l ≡ false) next own none) anew)
    ∙ ap (λ c. cond c ((line ∷ []) ∷ ((next ∷ own) ∷ parts_of rest)) ((line ∷ next ∷ own) ∷ parts_of rest)) (All-head (λ (l : List ℕ). is_head l ≡ false) next own none))

-- lines up to the next head, and those from it on
record Parted (lines : List (List ℕ)) : Type 0 where
  own : List (List ℕ)
  rest : List (List ℕ)
  is : lines ≡ own ++ rest
  none : HaveNoHead own
  anew : BeginsAnew rest

parted : (lines : List (List ℕ)) → Parted lines
parted [] = record { own = []; rest = []; is = refl; none = All-nil (λ (l : List ℕ). is_head l ≡ false); anew = tt }
parted (line ∷ lines) = elim (cases_Bool (is_head line)) [
  | inl t ↦ record { own = []; rest = line ∷ lines; is = refl; none = All-nil (λ (l : List ℕ). is_head l ≡ false); anew = t }
  | inr f ↦ let more = parted lines in record { own = line ∷ more.own; rest = more.rest; is = ap (λ (l : List (List ℕ)). line ∷ l) more.is; none = All-cons (λ (l : List ℕ). is_head l ≡ false) line more.own f more.none; anew = more.anew }
]

-- ---- which line is at fault

fault-more : (before : ℕ) (part : List (List ℕ)) (parts : List (List (List ℕ))) → fault_in_parts before (part ∷ parts) ≡ option_map_or (λ n. Some (before + n)) (trace_fault_in part) (fault_in_parts (before + length part) parts)
unfolding fault_in_parts
fault-more before part parts = refl

pub fault-end : (before : ℕ) → fault_in_parts before [] ≡ None
unfolding fault_in_parts
fault-end before = refl

-- none of a whole trace
pub fault-later : (before : ℕ) (line : List ℕ) (own rest : List (List ℕ)) → HaveNoHead own → BeginsAnew rest → trace_fault_in (line ∷ own) ≡ None → fault_in_parts before (parts_of (line ∷ own ++ rest)) ≡ fault_in_parts (before + (length own + 1)) (parts_of rest)
fault-later before line own rest none anew whole =
    let many : before + length (line ∷ own) ≡ before + (length own + 1) = omega arith in
    ap (fault_in_parts before) (part-first line own rest none anew)
    ∙ (fault-more before (line ∷ own) (parts_of rest)
    ∙ (ap (λ o. option_map_or (λ n. Some (before + n)) o (fault_in_parts (before + length (line ∷ own)) (parts_of rest))) whole
    ∙ ap (λ n. fault_in_parts n (parts_of rest)) many))

-- that of the first part
pub fault-here : (before : ℕ) (line : List ℕ) (own rest : List (List ℕ)) (n : ℕ) → HaveNoHead own → BeginsAnew rest → trace_fault_in (line ∷ own) ≡ Some n → fault_in_parts before (parts_of (line ∷ own ++ rest)) ≡ Some (before + n)
fault-here before line own rest n none anew at =
    ap (fault_in_parts before) (part-first line own rest none anew)
    ∙ (fault-more before (line ∷ own) (parts_of rest)
    ∙ ap (λ o. option_map_or (λ m. Some (before + m)) o (fault_in_parts (before + length (line ∷ own)) (parts_of rest))) at)

-- ---- a line that is too long

no-head : (line : List ℕ) → 128 < length line → is_head line ≡ false
no-head line long = rw (head-too_long line long, based-long line long) refl

-- the fault that comes first: that of the lines before, or this one
abbrev or_at : Option ℕ → ℕ → Option ℕ
or_at fault n = option_map_or (λ m. Some m) fault (Some n)

or-same : (fault : Option ℕ) (m n : ℕ) → m ≡ n → or_at fault m ≡ or_at fault n
or-same fault m n same = ap (or_at fault) same

listed-long : {A : Type 0} (reading : ℕ → List ℕ → Option A) (n : ℕ) (own : List (List ℕ)) (bad : List ℕ) (more : List (List ℕ)) → ((m : ℕ) → reading m bad ≡ None) → (listed reading n (own ++ bad ∷ more)).fault ≡ or_at (listed reading n own).fault (n + length own)
listed-long {A} reading n [] bad more none =
    let same : n ≡ n + 0 = omega arith in
    ap (λ (l : Listed A). l.fault) (listed-fault reading n bad more (none n)) ∙ (or-same None n (n + 0) same ∙ ap (λ (l : Listed A). or_at l.fault (n + 0)) (sym (listed-end reading n)))
listed-long {A} reading n (line ∷ own) bad more none = by (listed-long reading (n + 1) own bad more none) (reading n line) refl
  where
    by : (listed reading (n + 1) (own ++ bad ∷ more)).fault ≡ or_at (listed reading (n + 1) own).fault (n + 1 + length own) → (o : Option A) → reading n line ≡ o → (listed reading n (line ∷ own ++ bad ∷ more)).fault ≡ or_at (listed reading n (line ∷ own)).fault (n + length (line ∷ own))
    by later None is =
        ap (λ (l : Listed A). l.fault) (listed-fault reading n line (own ++ bad ∷ more) is)
        ∙ ap (λ (l : Listed A). or_at l.fault (n + length (line ∷ own))) (sym (listed-fault reading n line own is))
    by later (Some item) is =
        let many : n + 1 + length own ≡ n + length (line ∷ own) = omega arith in
        ap (λ (l : Listed A). l.fault) (listed-more reading n line (own ++ bad ∷ more) item is)
        ∙ (later
        ∙ (or-same (listed reading (n + 1) own).fault (n + 1 + length own) (n + length (line ∷ own)) many
        ∙ ap (λ (l : Listed A). or_at l.fault (n + length (line ∷ own))) (sym (listed-more reading n line own item is))))

piece-long : (line : List ℕ) → 128 < length line → piece_of line ≡ None
unfolding piece_of
piece-long line long = rw (lt-ltb 128 (length line) long) refl

numbers-long : (line : List ℕ) → 128 < length line → numbers_of line ≡ None
unfolding numbers_of
numbers-long line long = rw (lt-ltb 128 (length line) long) refl

records-fault : (b : Based) (n : ℕ) (lines : List (List ℕ)) → (records_told b n lines).fault ≡ (listed (record_from n) n lines).fault
unfolding records_told
records-fault b n lines = refl

from-nil : (k : Kind) (b : Based) (n : ℕ) → told_from k b n [] ≡ record { base = b; records = []; fault = None }
unfolding told_from
from-nil k b n = refl

from-records : (k : Kind) (b : Based) (n : ℕ) (line : List ℕ) (lines : List (List ℕ)) → piece_of line ≡ None → told_from k b n (line ∷ lines) ≡ records_told b n (line ∷ lines)
unfolding told_from
from-records k b n line lines is = rw is refl

from-piece : (k : Kind) (b : Based) (n : ℕ) (line : List ℕ) (lines : List (List ℕ)) (piece : Piece) → piece_of line ≡ Some piece → told_from k b n (line ∷ lines) ≡ cond (may_follow k b piece) (told_from k (with_piece b piece) (n + 1) lines) (ill_at b n)
unfolding told_from
from-piece k b n line lines piece is = rw is refl

from-long : (k : Kind) (b : Based) (n : ℕ) (own : List (List ℕ)) (bad : List ℕ) (more : List (List ℕ)) → 128 < length bad → (told_from k b n (own ++ bad ∷ more)).fault ≡ or_at (told_from k b n own).fault (n + length own)
from-long k b n [] bad more long =
    let same : n + length (let l : List (List ℕ) = [] in l) ≡ n + 0 = omega arith in
    ap (λ (t : Told). t.fault) (from-records k b n bad more (piece-long bad long))
    ∙ (records-fault b n (bad ∷ more)
    ∙ (listed-long (record_from n) n [] bad more (λ m. long-none n m bad long)
    ∙ (ap (λ (l : Listed _). or_at l.fault (n + 0)) (listed-end (record_from n) n)
    ∙ ap (λ (t : Told). or_at t.fault (n + 0)) (sym (from-nil k b n)))))
from-long k b n (line ∷ own) bad more long = by (λ piece. from-long k (with_piece b piece) (n + 1) own bad more long) (piece_of line) refl
  where
    at : ℕ
    at = n + length (line ∷ own)

    by : ((piece : Piece) → (told_from k (with_piece b piece) (n + 1) (own ++ bad ∷ more)).fault ≡ or_at (told_from k (with_piece b piece) (n + 1) own).fault (n + 1 + length own)) → (o : Option Piece) → piece_of line ≡ o → (told_from k b n (line ∷ own ++ bad ∷ more)).fault ≡ or_at (told_from k b n (line ∷ own)).fault at
    by later None is =
        ap (λ (t : Told). t.fault) (from-records k b n line (own ++ bad ∷ more) is)
        ∙ (records-fault b n (line ∷ own ++ bad ∷ more)
        ∙ (listed-long (record_from n) n (line ∷ own) bad more (λ m. long-none n m bad long)
        ∙ (ap (λ (f : Option ℕ). or_at f at) (sym (records-fault b n (line ∷ own)))
        ∙ ap (λ (t : Told). or_at t.fault at) (sym (from-records k b n line own is)))))
    by later (Some piece) is = elim (cases_Bool (may_follow k b piece)) [
      | inl t ↦
          let many : n + 1 + length own ≡ at = omega arith in
          let go : (lines : List (List ℕ)) → told_from k b n (line ∷ lines) ≡ told_from k (with_piece b piece) (n + 1) lines = λ lines. from-piece k b n line lines piece is ∙ ap (λ c. cond c (told_from k (with_piece b piece) (n + 1) lines) (ill_at b n)) t in
          ap (λ (t : Told). t.fault) (go (own ++ bad ∷ more))
          ∙ (later piece
          ∙ (or-same (told_from k (with_piece b piece) (n + 1) own).fault (n + 1 + length own) at many
          ∙ ap (λ (t : Told). or_at t.fault at) (sym (go own))))
      | inr f ↦
          let ill : (lines : List (List ℕ)) → told_from k b n (line ∷ lines) ≡ ill_at b n = λ lines. from-piece k b n line lines piece is ∙ ap (λ c. cond c (told_from k (with_piece b piece) (n + 1) lines) (ill_at b n)) f in
          ap (λ (t : Told). t.fault) (ill (own ++ bad ∷ more)) ∙ ap (λ (t : Told). or_at t.fault at) (sym (ill own))
    ]

behind-nil : (k : Kind) → told_behind k [] ≡ ill_at (bare_base 0 0) 2
unfolding told_behind
behind-nil k = refl

behind-none : (k : Kind) (line : List ℕ) (lines : List (List ℕ)) → numbers_of line ≡ None → told_behind k (line ∷ lines) ≡ ill_at (bare_base 0 0) 2
unfolding told_behind
behind-none k line lines is = rw is refl

behind-some : (k : Kind) (line : List ℕ) (lines : List (List ℕ)) (numbers : ℕ × ℕ) → numbers_of line ≡ Some numbers → told_behind k (line ∷ lines) ≡ told_from k (bare_base numbers.0 numbers.1) 3 lines
unfolding told_behind
behind-some k line lines numbers is = rw is refl

behind-long : (k : Kind) (own : List (List ℕ)) (bad : List ℕ) (more : List (List ℕ)) → 128 < length bad → (told_behind k (own ++ bad ∷ more)).fault ≡ or_at (told_behind k own).fault (length own + 2)
behind-long k [] bad more long =
    ap (λ (t : Told). t.fault) (behind-none k bad more (numbers-long bad long)) ∙ ap (λ (t : Told). or_at t.fault 2) (sym (behind-nil k))
behind-long k (line ∷ own) bad more long = by (numbers_of line) refl
  where
    by : (o : Option (ℕ × ℕ)) → numbers_of line ≡ o → (told_behind k (line ∷ own ++ bad ∷ more)).fault ≡ or_at (told_behind k (line ∷ own)).fault (length (line ∷ own) + 2)
    by None is =
        ap (λ (t : Told). t.fault) (behind-none k line (own ++ bad ∷ more) is)
        ∙ ap (λ (t : Told). or_at t.fault (length (line ∷ own) + 2)) (sym (behind-none k line own is))
    by (Some numbers) is =
        let b = bare_base numbers.0 numbers.1 in
        let many : 3 + length own ≡ length (line ∷ own) + 2 = omega arith in
        ap (λ (t : Told). t.fault) (behind-some k line (own ++ bad ∷ more) numbers is)
        ∙ (from-long k b 3 own bad more long
        ∙ (or-same (told_from k b 3 own).fault (3 + length own) (length (line ∷ own) + 2) many
        ∙ ap (λ (t : Told). or_at t.fault (length (line ∷ own) + 2)) (sym (behind-some k line own numbers is))))

abbrev fault_with : List (List ℕ) → Option Kind → Option Kind → Option ℕ
fault_with lines plain based =
    option_map_or (λ kind. (records_behind lines).fault) plain (option_map_or (λ kind. (told_behind kind lines).fault) based (Some 1))

trace-fault : (line : List ℕ) (lines : List (List ℕ)) → trace_fault_in (line ∷ lines) ≡ fault_with lines (head_of line) (based_head_of line)
unfolding trace_fault_in
trace-fault line lines = refl

-- behind a trace's lines the fault is that of these, or else the line that is too long
pub trace-long : (first : List ℕ) (own : List (List ℕ)) (bad : List ℕ) (more : List (List ℕ)) → 128 < length bad → trace_fault_in (first ∷ own ++ bad ∷ more) ≡ option_map_or (λ m. Some m) (trace_fault_in (first ∷ own)) (Some (length own + 2))
trace-long first own bad more long =
    trace-fault first (own ++ bad ∷ more)
    ∙ (by (head_of first) (based_head_of first)
    ∙ ap (λ f. or_at f (length own + 2)) (sym (trace-fault first own)))
  where
    by : (plain based : Option Kind) → fault_with (own ++ bad ∷ more) plain based ≡ or_at (fault_with own plain based) (length own + 2)
    by (Some k) based =
        let many : 2 + length own ≡ length own + 2 = omega arith in
        listed-long record_at 2 own bad more (λ m. record-too_long m bad long) ∙ or-same (records_behind own).fault (2 + length own) (length own + 2) many
    by None (Some k) = behind-long k own bad more long
    by None None = refl

-- the fault of a chain whose part has a line that is too long
module _ (before : ℕ) (first : List ℕ) (own : List (List ℕ)) (bad : List ℕ) (lines : List (List ℕ)) (long : 128 < length bad) (none : HaveNoHead own) where
  long-part : (n : ℕ) → ((more : List (List ℕ)) → trace_fault_in (first ∷ own ++ bad ∷ more) ≡ Some n) → fault_in_parts before (parts_of (first ∷ own ++ bad ∷ lines)) ≡ Some (before + n)
  long-part n at =
      let p = parted lines in
      let whole : own ++ bad ∷ lines ≡ (own ++ bad ∷ p.own) ++ p.rest = ap (λ (l : List (List ℕ)). own ++ bad ∷ l) p.is ∙ sym (append_assoc own (bad ∷ p.own) p.rest) in
      let clean : HaveNoHead (own ++ bad ∷ p.own) = All-append (λ (l : List ℕ). is_head l ≡ false) own (bad ∷ p.own) none (All-cons (λ (l : List ℕ). is_head l ≡ false) bad p.own (no-head bad long) p.none) in
      ap (λ (l : List (List ℕ)). fault_in_parts before (parts_of (first ∷ l))) whole ∙ fault-here before first (own ++ bad ∷ p.own) p.rest n clean p.anew (at p.own)

  -- the lines before it are whole
  pub long-whole : trace_fault_in (first ∷ own) ≡ None → fault_in_parts before (parts_of (first ∷ own ++ bad ∷ lines)) ≡ Some (before + (length own + 2))
  long-whole whole = long-part (length own + 2) (λ more. trace-long first own bad more long ∙ ap (λ f. or_at f (length own + 2)) whole)

  -- or one of them is at fault
  pub long-faulty : (n : ℕ) → trace_fault_in (first ∷ own) ≡ Some n → fault_in_parts before (parts_of (first ∷ own ++ bad ∷ lines)) ≡ Some (before + n)
  long-faulty n at = long-part n (λ more. trace-long first own bad more long ∙ ap (λ f. or_at f (length own + 2)) at)

-- a first line that is too long is at fault
pub long-first : (bad : List ℕ) (lines : List (List ℕ)) → 128 < length bad → fault_in_parts 0 (parts_of (bad ∷ lines)) ≡ Some 1
long-first bad lines long =
    let p = parted lines in
    let at : trace_fault_in (bad ∷ p.own) ≡ Some 1 = trace-fault bad p.own ∙ (ap (λ o. fault_with p.own o (based_head_of bad)) (head-too_long bad long) ∙ ap (λ o. fault_with p.own None o) (based-long bad long)) in
    ap (λ (l : List (List ℕ)). fault_in_parts 0 (parts_of (bad ∷ l))) p.is ∙ fault-here 0 bad p.own p.rest 1 p.none p.anew at
