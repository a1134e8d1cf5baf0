-- How far the pieces of a base were read.
use Rattle.std.proofs.Common.{if◌then◌else◌, ◌≡◌, ℕ, ◌+◌, ◌<◌, nat_le, Bool, true, false, cond, List, [], ◌∷◌, length, Option, Some, None, refl, sym, ap, subst, ◌∙◌}
use Rattle.std.specs.Prelude.{IfSome}
use Rattle.std.specs.Option.{option_map_or}
use Rattle.std.specs.Io.KnownBytes.{Consumes, IsAtEnd}
use Rattle.std.proofs.lemmas.Bool.{lt-ltb}
use Rattle.meet_tickets.specs.declared.places.Kind.{Kind}
use Rattle.meet_tickets.specs.declared.records.Deed.{Deed}
use Rattle.meet_tickets.specs.declared.records.Record.{Record}
use Rattle.meet_tickets.specs.Bases.{Based}
use Rattle.meet_history.specs.Pushing.{Progress, HasSeen}
use Rattle.meet_run.specs.declared.text.faults.RunFault.{RunFault}
use Rattle.meet_run.specs.Tracing.Traces.{NamesLine}
use Rattle.meet_tickets.specs.Limits.{most_records}
use Rattle.meet_history.specs.declared.pieces.Piece.{Piece}
use Rattle.meet_history.specs.declared.pieces.Piece.TheVariants.{Stands, Met, Cut, Flagged}
use Rattle.meet_history.specs.Pieces.{bare_base, with_piece, may_follow}
use Rattle.meet_run.specs.declared.trace.kept.Kept.{Kept}
use Rattle.meet_run.specs.Tracing.Keeping.{HasKept}
use Rattle.meet_run.specs.Texts.Reading.{lines_of, Listed, Both, TakesLine, BeginsTooLong, listed}
use Rattle.meet_run.specs.Tracing.TraceGrammar.{record_of}
use Rattle.meet_run.specs.Tracing.BaseGrammar.{piece_of, numbers_of}
use Rattle.meet_run.specs.Tracing.BasedTraces.{Told, record_from, records_told, told_from, told_behind, ill_at, HasLaid, ArePushedOn, IsChecked}
use Rattle.meet_run.proofs.Scripts.RunLemmas.{ended-lines}
use Rattle.meet_run.proofs.Scripts.ScriptLemmas.{listed-fault}

module _ (k : Kind) (b : Based) (n : ℕ) (line : List ℕ) (lines : List (List ℕ)) where
  pub told-more : (piece : Piece) → piece_of line ≡ Some piece → may_follow k b piece ≡ true → told_from k b n (line ∷ lines) ≡ told_from k (with_piece b piece) (n + 1) lines
  unfolding told_from
  told-more piece is follows =
      ap (λ o. option_map_or (λ p. if may_follow k b p then told_from k (with_piece b p) (n + 1) lines else ill_at b n) o (records_told b n (line ∷ lines))) is
      ∙ ap (λ c. if c then told_from k (with_piece b piece) (n + 1) lines else ill_at b n) follows

  pub told-ill : (piece : Piece) → piece_of line ≡ Some piece → may_follow k b piece ≡ false → told_from k b n (line ∷ lines) ≡ ill_at b n
  unfolding told_from
  told-ill piece is clash =
      ap (λ o. option_map_or (λ p. if may_follow k b p then told_from k (with_piece b p) (n + 1) lines else ill_at b n) o (records_told b n (line ∷ lines))) is
      ∙ ap (λ c. if c then told_from k (with_piece b piece) (n + 1) lines else ill_at b n) clash

  pub told-other : piece_of line ≡ None → told_from k b n (line ∷ lines) ≡ records_told b n (line ∷ lines)
  unfolding told_from
  told-other is =
      ap (λ o. option_map_or (λ p. if may_follow k b p then told_from k (with_piece b p) (n + 1) lines else ill_at b n) o (records_told b n (line ∷ lines))) is

  told-long : 128 < length line → (told_from k b n (line ∷ lines)).fault ≡ Some n
  unfolding piece_of record_of record_from records_told
  told-long long =
      let none : piece_of line ≡ None = rw (lt-ltb 128 (length line) long) refl in
      let faulty : record_from n n line ≡ None = rw (lt-ltb 128 (length line) long) (either None (nat_le (n + most_records) n)) in
      ap (λ (t : Told). t.fault) (told-other none) ∙ ap (λ (l : Listed (Record Deed)). l.fault) (listed-fault (record_from n) n line lines faulty)
    where
      either : {A : Type 0} (o : Option A) (c : Bool) → cond c o o ≡ o
      either o true = refl
      either o false = refl

pub told-end : (k : Kind) (b : Based) (n : ℕ) → told_from k b n [] ≡ record { base = b; records = []; fault = None }
unfolding told_from
told-end k b n = refl

-- of the known bytes so many lines were read, and the base came from this one to that one
abbrev pub WasLaid : Kind → (old now : Option (List ℕ)) → (start b : Based) → (read : ℕ) → Type 0
WasLaid k old now start b read =
    Both old now (λ first rest. told_from k start 3 (lines_of first) ≡ told_from k b (read + 1) (lines_of rest))

pub laid-none : (k : Kind) (reader : Option (List ℕ)) (b : Based) → WasLaid k reader reader b b 2
laid-none k None b = tt
laid-none k (Some xs) b = refl

module _ (k : Kind) (start b : Based) (read : ℕ) where
  pub laid-more : (old mid new : Option (List ℕ)) (line : List ℕ) (piece : Piece) → WasLaid k old mid start b read → TakesLine mid new line → piece_of line ≡ Some piece → may_follow k b piece ≡ true → WasLaid k old new start (with_piece b piece) (read + 1)
  laid-more None mid new line piece was takes is follows = tt
  laid-more (Some xs) None new line piece was takes is follows = absurd was
  laid-more (Some xs) (Some ys) None line piece was takes is follows = absurd takes
  laid-more (Some xs) (Some ys) (Some zs) line piece was takes is follows =
      was ∙ (ap (told_from k b (read + 1)) takes ∙ told-more k b (read + 1) line (lines_of zs) piece is follows)

  pub laid-ill : (old mid new : Option (List ℕ)) (line : List ℕ) (piece : Piece) → WasLaid k old mid start b read → TakesLine mid new line → piece_of line ≡ Some piece → may_follow k b piece ≡ false → IfSome old (λ rest. (told_from k start 3 (lines_of rest)).fault ≡ Some (read + 1))
  laid-ill None mid new line piece was takes is clash = tt
  laid-ill (Some xs) None new line piece was takes is clash = absurd was
  laid-ill (Some xs) (Some ys) None line piece was takes is clash = absurd takes
  laid-ill (Some xs) (Some ys) (Some zs) line piece was takes is clash =
      ap (λ (t : Told). t.fault) (was ∙ (ap (told_from k b (read + 1)) takes ∙ told-ill k b (read + 1) line (lines_of zs) piece is clash))

  pub laid-left : (old mid new : Option (List ℕ)) (line : List ℕ) → WasLaid k old mid start b read → TakesLine mid new line → piece_of line ≡ None → HasLaid k start true line b (read + 1) old new
  laid-left None mid new line was takes is = tt
  laid-left (Some xs) None new line was takes is = absurd was
  laid-left (Some xs) (Some ys) None line was takes is = absurd takes
  laid-left (Some xs) (Some ys) (Some zs) line was takes is =
      was ∙ (ap (told_from k b (read + 1)) takes ∙ told-other k b (read + 1) line (lines_of zs) is)

  pub laid-end : (old mid new : Option (List ℕ)) (line : List ℕ) (n : ℕ) → WasLaid k old mid start b read → Consumes mid new [] → IsAtEnd new → HasLaid k start false line b n old new
  laid-end old mid new line n was consumes at_end = by old mid was (ended-lines mid new consumes at_end)
    where
      by : (o m : Option (List ℕ)) → WasLaid k o m start b read → IfSome m (λ xs. lines_of xs ≡ []) → HasLaid k start false line b n o new
      by None m was none = tt
      by (Some xs) None was none = absurd was
      by (Some xs) (Some ys) was none = was ∙ (ap (told_from k b (read + 1)) none ∙ told-end k b (read + 1))

  pub laid-long : (old mid : Option (List ℕ)) → WasLaid k old mid start b read → BeginsTooLong mid → IfSome old (λ rest. (told_from k start 3 (lines_of rest)).fault ≡ Some (read + 1))
  laid-long None mid was long = tt
  laid-long (Some xs) None was long = absurd was
  laid-long (Some xs) (Some ys) was long =
      ap (λ (t : Told). t.fault) (was ∙ ap (told_from k b (read + 1)) long.2) ∙ told-long k b (read + 1) long.0 long.1 long.3

-- a piece leaves how many records were folded away
pub piece-gone : (b : Based) (piece : Piece) → (with_piece b piece).gone ≡ b.gone
piece-gone b (Stands e) = refl
piece-gone b (Met p) = refl
piece-gone b (Cut c) = refl
piece-gone b (Flagged i) = refl

-- ---- behind a first line

module _ (k : Kind) where
  pub behind-more : (line : List ℕ) (lines : List (List ℕ)) (numbers : ℕ × ℕ) → numbers_of line ≡ Some numbers → told_behind k (line ∷ lines) ≡ told_from k (bare_base numbers.0 numbers.1) 3 lines
  unfolding told_behind
  behind-more line lines numbers is = ap (λ o. option_map_or (λ (n : ℕ × ℕ). told_from k (bare_base n.0 n.1) 3 lines) o (ill_at (bare_base 0 0) 2)) is

  pub behind-none : (line : List ℕ) (lines : List (List ℕ)) → numbers_of line ≡ None → told_behind k (line ∷ lines) ≡ ill_at (bare_base 0 0) 2
  unfolding told_behind
  behind-none line lines is = ap (λ o. option_map_or (λ (n : ℕ × ℕ). told_from k (bare_base n.0 n.1) 3 lines) o (ill_at (bare_base 0 0) 2)) is

  pub behind-end : told_behind k [] ≡ ill_at (bare_base 0 0) 2
  unfolding told_behind
  behind-end = refl

  numbers-long : (line : List ℕ) → 128 < length line → numbers_of line ≡ None
  unfolding numbers_of
  numbers-long line long = rw (lt-ltb 128 (length line) long) refl

  pub ground-read : (old new : Option (List ℕ)) (line : List ℕ) (numbers : ℕ × ℕ) → TakesLine old new line → numbers_of line ≡ Some numbers → Both old new (λ xs ys. told_behind k (lines_of xs) ≡ told_from k (bare_base numbers.0 numbers.1) 3 (lines_of ys))
  ground-read None new line numbers takes is = tt
  ground-read (Some xs) None line numbers takes is = absurd takes
  ground-read (Some xs) (Some ys) line numbers takes is = ap (told_behind k) takes ∙ behind-more line (lines_of ys) numbers is

  pub ground-none : (old new : Option (List ℕ)) (line : List ℕ) → TakesLine old new line → numbers_of line ≡ None → IfSome old (λ rest. (told_behind k (lines_of rest)).fault ≡ Some 2)
  ground-none None new line takes is = tt
  ground-none (Some xs) None line takes is = absurd takes
  ground-none (Some xs) (Some ys) line takes is = ap (λ (t : Told). t.fault) (ap (told_behind k) takes ∙ behind-none line (lines_of ys) is)

  pub ground-end : (old new : Option (List ℕ)) → Consumes old new [] → IsAtEnd new → IfSome old (λ rest. (told_behind k (lines_of rest)).fault ≡ Some 2)
  ground-end old new consumes at_end = by old (ended-lines old new consumes at_end)
    where
      by : (o : Option (List ℕ)) → IfSome o (λ xs. lines_of xs ≡ []) → IfSome o (λ rest. (told_behind k (lines_of rest)).fault ≡ Some 2)
      by None none = tt
      by (Some xs) none = ap (λ (t : Told). t.fault) (ap (told_behind k) none ∙ behind-end)

  pub ground-long : (old : Option (List ℕ)) → BeginsTooLong old → IfSome old (λ rest. (told_behind k (lines_of rest)).fault ≡ Some 2)
  ground-long None long = tt
  ground-long (Some xs) long = ap (λ (t : Told). t.fault) (ap (told_behind k) long.2 ∙ behind-none long.0 long.1 (numbers-long long.0 long.3))

-- ---- a whole base and the records behind it

pub told-records : (b : Based) (n : ℕ) (lines : List (List ℕ)) → records_told b n lines ≡ record { base = b; records = (listed (record_from n) n lines).items; fault = (listed (record_from n) n lines).fault }
unfolding records_told
told-records b n lines = refl

module _ (k : Kind) (start base : Based) (line : List ℕ) (n : ℕ) where
  -- what its lines say behind a first line
  whole : (old mid new : Option (List ℕ)) → Both old mid (λ xs ys. told_behind k (lines_of xs) ≡ told_from k start 3 (lines_of ys)) → HasLaid k start true line base n mid new → Both old new (λ xs ys. told_behind k (lines_of xs) ≡ record { base = base; records = (listed (record_from n) n (line ∷ lines_of ys)).items; fault = (listed (record_from n) n (line ∷ lines_of ys)).fault })
  whole None mid new ground laid = tt
  whole (Some xs) None new ground laid = absurd ground
  whole (Some xs) (Some ys) None ground laid = absurd laid
  whole (Some xs) (Some ys) (Some zs) ground laid = ground ∙ (laid ∙ told-records base n (line ∷ lines_of zs))

  pub checked-left : (old mid new : Option (List ℕ)) (before after : Progress) (count total : ℕ) → Both old mid (λ xs ys. told_behind k (lines_of xs) ≡ told_from k start 3 (lines_of ys)) → HasLaid k start true line base n mid new → IfSome new (λ rest. ArePushedOn before after count (listed (record_from n) n (line ∷ lines_of rest))) → HasSeen base before [] → after.place.kind ≡ k → total ≡ base.gone + count → IfSome old (λ rest. IsChecked k (lines_of rest) base after total)
  checked-left old mid new before after count total ground laid pushed fresh own sum = by old new (whole old mid new ground laid) pushed
    where
      by : (o m : Option (List ℕ)) → Both o m (λ xs ys. told_behind k (lines_of xs) ≡ record { base = base; records = (listed (record_from n) n (line ∷ lines_of ys)).items; fault = (listed (record_from n) n (line ∷ lines_of ys)).fault }) → IfSome m (λ rest. ArePushedOn before after count (listed (record_from n) n (line ∷ lines_of rest))) → IfSome o (λ rest. IsChecked k (lines_of rest) base after total)
      by None m all done = tt
      by (Some xs) None all done = absurd all
      by (Some xs) (Some ys) all done =
          let records : List (Record Deed) = (listed (record_from n) n (line ∷ lines_of ys)).items in
          let none : (listed (record_from n) n (line ∷ lines_of ys)).fault ≡ None = done.0 in
          let long : count ≡ length records = done.1 in
          record {
            records = records;
            told = all ∙ ap (λ (f : Option ℕ). let t : Told = record { base = base; records = records; fault = f } in t) none;
            seen = done.2 base fresh;
            counted = sum ∙ ap (λ m. base.gone + m) long;
            own = own;
          }

  pub bad-left : (old mid new : Option (List ℕ)) (f : RunFault) → Both old mid (λ xs ys. told_behind k (lines_of xs) ≡ told_from k start 3 (lines_of ys)) → HasLaid k start true line base n mid new → IfSome new (λ rest. NamesLine f (listed (record_from n) n (line ∷ lines_of rest)).fault) → IfSome old (λ rest. NamesLine f (told_behind k (lines_of rest)).fault)
  bad-left old mid new f ground laid names = by old new (whole old mid new ground laid) names
    where
      by : (o m : Option (List ℕ)) → Both o m (λ xs ys. told_behind k (lines_of xs) ≡ record { base = base; records = (listed (record_from n) n (line ∷ lines_of ys)).items; fault = (listed (record_from n) n (line ∷ lines_of ys)).fault }) → IfSome m (λ rest. NamesLine f (listed (record_from n) n (line ∷ lines_of rest)).fault) → IfSome o (λ rest. NamesLine f (told_behind k (lines_of rest)).fault)
      by None m all names = tt
      by (Some xs) None all names = absurd all
      by (Some xs) (Some ys) all names = λ bad. names bad ∙ sym (ap (λ (t : Told). t.fault) all)

  -- what was kept of the records behind a base are what its lines say
  pub kept-left : (old mid new : Option (List ℕ)) (wanted : Bool) (kept : Kept) → Both old mid (λ xs ys. told_behind k (lines_of xs) ≡ told_from k start 3 (lines_of ys)) → HasLaid k start true line base n mid new → IfSome new (λ rest. HasKept wanted kept (listed (record_from n) n (line ∷ lines_of rest)).items) → IfSome old (λ rest. HasKept wanted kept (told_behind k (lines_of rest)).records)
  kept-left old mid new wanted kept ground laid has = by old new (whole old mid new ground laid) has
    where
      by : (o m : Option (List ℕ)) → Both o m (λ xs ys. told_behind k (lines_of xs) ≡ record { base = base; records = (listed (record_from n) n (line ∷ lines_of ys)).items; fault = (listed (record_from n) n (line ∷ lines_of ys)).fault }) → IfSome m (λ rest. HasKept wanted kept (listed (record_from n) n (line ∷ lines_of rest)).items) → IfSome o (λ rest. HasKept wanted kept (told_behind k (lines_of rest)).records)
      by None m all has = tt
      by (Some xs) None all has = absurd all
      by (Some xs) (Some ys) all has = subst (HasKept wanted kept) (sym (ap (λ (t : Told). t.records) all)) has

-- where nothing stands behind a base, nothing is kept
pub kept-none : (k : Kind) (start base : Based) (line : List ℕ) (n : ℕ) (old mid new : Option (List ℕ)) (wanted : Bool) (kept : Kept) → Both old mid (λ xs ys. told_behind k (lines_of xs) ≡ told_from k start 3 (lines_of ys)) → HasLaid k start false line base n mid new → HasKept wanted kept [] → IfSome old (λ rest. HasKept wanted kept (told_behind k (lines_of rest)).records)
kept-none k start base line n None mid new wanted kept ground laid has = tt
kept-none k start base line n (Some xs) None new wanted kept ground laid has = absurd ground
kept-none k start base line n (Some xs) (Some ys) new wanted kept ground laid has =
    subst (HasKept wanted kept) (sym (ap (λ (t : Told). t.records) (ground ∙ laid))) has
