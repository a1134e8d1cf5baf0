-- How far a chain's part was read, and the chain so far.
use Rattle.std.proofs.Common.{◌≡◌, ◌⊎◌, inl, inr, ℕ, ◌+◌, Bool, true, false, List, [], ◌∷◌, ◌++◌, length, Option, Some, None, refl, sym, ap, ◌∙◌, subst, append_assoc, append-nil, arith, length-append}
use Rattle.std.specs.Prelude.{All, IfSome, IfOk, IfErr, Result, Ok, Err, codes}
use Rattle.std.specs.Io.KnownBytes.{Appends, Consumes, IsAtEnd}
use Rattle.std.proofs.lemmas.Grind.{flat_map-append}
use Rattle.std.proofs.lemmas.List.Elements.{All-nil, All-cons, All-head, All-tail, All-push}
use Rattle.meet_run.specs.declared.trace.chain.Chain.{Chain}
use Rattle.meet_tickets.specs.declared.refusals.Refusal.TheVariants.{Memory, BadTrace, ReadFault, WriteFault}
use Rattle.meet_run.specs.declared.trace.chains.Behind.{Behind}
use Rattle.meet_run.specs.declared.trace.chains.Behind.TheVariants.{Head, End, TooLong}
use Rattle.meet_run.specs.declared.trace.check.ReadTrace.{ReadTrace}
use Rattle.meet_run.specs.declared.text.faults.RunFault.{RunFault}
use Rattle.meet_run.specs.Tracing.Chains.{is_head, parts_of, fault_in_parts, chain_fault_in, AreTraces, HaveNoHead, IsPart, IsChapterRead, IsChainFound, ChainBreaks, ChainEnds}
use Rattle.meet_run.specs.Tracing.Chapters.{Chapter, IsOf, HasRead, IsFoundOfAll}
use Rattle.meet_run.specs.Texts.Reading.{HasNoEnd, lines_of, Both, TakesLine, BeginsTooLong}
use Rattle.meet_run.specs.Tracing.Traces.{IsRead, IsUnreadTrace, NamesLine, trace_fault_in}
use Rattle.meet_run.proofs.Tracing.Parted.{BeginsAnew, parts-end, part-first, fault-end, fault-later, fault-here, long-whole, long-faulty, long-first}
use Rattle.meet_run.specs.Texts.Writing.{AppendsPrefix}
use Rattle.meet_run.proofs.Scripts.Ran.{appends-nothing}
use Rattle.meet_run.proofs.Scripts.RunLemmas.{ended-lines}
use Rattle.meet_run.proofs.Texts.TextLines.{ended, lines_text, lines-again, lines-plain}

-- ---- a part

-- of the known bytes these lines were read behind a part's first, and this is their text
pub record WasParted (first : List ℕ) (xs zs : List ℕ) (text : List ℕ) (lines : ℕ) : Type 0 where
  pub own : List (List ℕ)
  pub read : lines_of xs ≡ own ++ lines_of zs
  pub none : HaveNoHead own
  pub plain : All HasNoEnd (first ∷ own)
  pub kept : text ≡ lines_text (first ∷ own)
  pub many : lines ≡ length own + 1

abbrev pub PartSoFar : (first : List ℕ) → (old now : Option (List ℕ)) → (text : List ℕ) → (lines : ℕ) → Type 0
PartSoFar first old now text lines = Both old now (λ xs zs. WasParted first xs zs text lines)

module _ (first : List ℕ) where
  pub part-begins : (reader : Option (List ℕ)) (text : List ℕ) → HasNoEnd first → text ≡ first ++ codes "\n" → PartSoFar first reader reader text 1
  part-begins None text plain is = tt
  part-begins (Some xs) text plain is = record {
    own = [];
    read = refl;
    none = All-nil (λ (l : List ℕ). is_head l ≡ false);
    plain = All-cons HasNoEnd first [] plain (All-nil HasNoEnd);
    kept = is ∙ sym (append-nil (first ++ codes "\n"));
    many = refl;
  }

  pub part-more : (old mid new : Option (List ℕ)) (text more line : List ℕ) (lines : ℕ) → PartSoFar first old mid text lines → TakesLine mid new line → is_head line ≡ false → more ≡ text ++ (line ++ codes "\n") → PartSoFar first old new more (lines + 1)
  part-more None mid new text more line lines was takes head is = tt
  part-more (Some xs) None new text more line lines was takes head is = absurd was
  part-more (Some xs) (Some ys) None text more line lines was takes head is = absurd takes
  part-more (Some xs) (Some ys) (Some zs) text more line lines was takes head is =
      let plain : HasNoEnd line = All-head HasNoEnd line (lines_of zs) (subst (All HasNoEnd) takes (lines-plain ys)) in
      record {
        own = was.own ++ line ∷ [];
        read = was.read ∙ (ap (λ (l : List (List ℕ)). was.own ++ l) takes ∙ sym (append_assoc was.own (line ∷ []) (lines_of zs)));
        none = All-push (λ (l : List ℕ). is_head l ≡ false) was.own line was.none head;
        plain = All-push HasNoEnd (first ∷ was.own) line was.plain plain;
        kept = is ∙ (ap (λ (t : List ℕ). t ++ ended line) was.kept ∙ (ap (λ (t : List ℕ). lines_text (first ∷ was.own) ++ t) (sym (append-nil (ended line))) ∙ sym (flat_map-append ended (first ∷ was.own) (line ∷ []))));
        many = omega (arith, was.many, length-append was.own (line ∷ []));
      }

  again : (xs zs text : List ℕ) (lines : ℕ) (was : WasParted first xs zs text lines) → lines_of text ≡ first ∷ was.own
  again xs zs text lines was = ap lines_of was.kept ∙ lines-again (first ∷ was.own) was.plain

  pub part-head : (old mid new : Option (List ℕ)) (text line : List ℕ) (lines : ℕ) → PartSoFar first old mid text lines → TakesLine mid new line → is_head line ≡ true → IsPart first old new lines Head text line
  part-head None mid new text line lines was takes head = tt
  part-head (Some xs) None new text line lines was takes head = absurd was
  part-head (Some xs) (Some ys) None text line lines was takes head = absurd takes
  part-head (Some xs) (Some ys) (Some zs) text line lines was takes head =
      (was.own, was.read ∙ ap (λ (l : List (List ℕ)). was.own ++ l) takes, was.none, head, again xs ys text lines was, was.many)

  pub part-end : (old mid new : Option (List ℕ)) (text line : List ℕ) (lines : ℕ) → PartSoFar first old mid text lines → Consumes mid new [] → IsAtEnd new → IsPart first old new lines End text line
  part-end old mid new text line lines was consumes at_end = by old mid was (ended-lines mid new consumes at_end)
    where
      by : (o m : Option (List ℕ)) → PartSoFar first o m text lines → IfSome m (λ xs. lines_of xs ≡ []) → IsPart first o new lines End text line
      by None m was none = tt
      by (Some xs) None was none = absurd was
      by (Some xs) (Some ys) was none =
          let all : lines_of xs ≡ was.own = was.read ∙ (ap (λ (l : List (List ℕ)). was.own ++ l) none ∙ append-nil was.own) in
          (subst HaveNoHead (sym all) was.none, again xs ys text lines was ∙ ap (λ (l : List (List ℕ)). first ∷ l) (sym all), omega (arith, was.many, ap (λ (l : List (List ℕ)). length l) all))

  pub part-long : (old mid new : Option (List ℕ)) (text line : List ℕ) (lines : ℕ) → PartSoFar first old mid text lines → BeginsTooLong mid → IsPart first old new lines TooLong text line
  part-long None mid new text line lines was long = tt
  part-long (Some xs) None new text line lines was long = absurd was
  part-long (Some xs) (Some ys) new text line lines was long =
      (was.own, long.0, long.1, was.read ∙ ap (λ (l : List (List ℕ)). was.own ++ l) long.2, long.3, was.none, again xs ys text lines was, was.many)

-- ---- a part that is a whole trace, or isn't

module _ (first : List ℕ) (old new : Option (List ℕ)) (before lines : ℕ) (text line : List ℕ) where
  pub chapter-more : (trace : ReadTrace) → IsPart first old new lines Head text line → IsRead (lines_of text) trace → IsChapterRead first old new before trace (before + lines) true line
  chapter-more trace part read = by old new part
    where
      by : (o n : Option (List ℕ)) → IsPart first o n lines Head text line → IsChapterRead first o n before trace (before + lines) true line
      by None n part = tt
      by (Some xs) None part = absurd part
      by (Some xs) (Some ys) part =
          (part.0, part.1, part.2, part.3, subst (λ (l : List (List ℕ)). IsRead l trace) part.4 read, ap (λ n. before + n) part.5)

  pub chapter-last : (trace : ReadTrace) → IsPart first old new lines End text line → IsRead (lines_of text) trace → IsChapterRead first old new before trace (before + lines) false line
  chapter-last trace part read = by old part
    where
      by : (o : Option (List ℕ)) → IsPart first o new lines End text line → IsChapterRead first o new before trace (before + lines) false line
      by None part = tt
      by (Some xs) part = (part.0, subst (λ (l : List (List ℕ)). IsRead l trace) part.1 read)

  abbrev faulty : Option (List ℕ) → (n : ℕ) → Type 0
  faulty o n = IfSome o (λ rest. fault_in_parts before (parts_of (first ∷ lines_of rest)) ≡ Some (before + n))

  -- behind its lines stands one that is too long
  pub chapter-long : (trace : ReadTrace) → IsPart first old new lines TooLong text line → IsRead (lines_of text) trace → faulty old (lines + 1)
  chapter-long trace part read = by old part
    where
      by : (o : Option (List ℕ)) → IsPart first o new lines TooLong text line → faulty o (lines + 1)
      by None part = tt
      by (Some xs) part =
          let many : before + (length part.0 + 2) ≡ before + (lines + 1) = omega (arith, part.7) in
          ap (λ (l : List (List ℕ)). fault_in_parts before (parts_of (first ∷ l))) part.3
          ∙ (long-whole before first part.0 part.1 part.2 part.4 part.5 (ap trace_fault_in (sym part.6) ∙ read.whole)
          ∙ ap (λ n. Some n) many)

  -- one of its lines is at fault
  pub chapter-faulty-more : (n : ℕ) → IsPart first old new lines Head text line → trace_fault_in (lines_of text) ≡ Some n → faulty old n
  chapter-faulty-more n part at = by old new part
    where
      by : (o m : Option (List ℕ)) → IsPart first o m lines Head text line → faulty o n
      by None m part = tt
      by (Some xs) None part = absurd part
      by (Some xs) (Some ys) part =
          ap (λ (l : List (List ℕ)). fault_in_parts before (parts_of (first ∷ l))) part.1
          ∙ fault-here before first part.0 (line ∷ lines_of ys) n part.2 part.3 (ap trace_fault_in (sym part.4) ∙ at)

  pub chapter-faulty-last : (n : ℕ) → IsPart first old new lines End text line → trace_fault_in (lines_of text) ≡ Some n → faulty old n
  chapter-faulty-last n part at = by old part
    where
      by : (o : Option (List ℕ)) → IsPart first o new lines End text line → faulty o n
      by None part = tt
      by (Some xs) part =
          ap (λ (l : List (List ℕ)). fault_in_parts before (parts_of (first ∷ l))) (sym (append-nil (lines_of xs)))
          ∙ fault-here before first (lines_of xs) [] n part.0 tt (ap trace_fault_in (sym part.1) ∙ at)

  pub chapter-faulty-long : (n : ℕ) → IsPart first old new lines TooLong text line → trace_fault_in (lines_of text) ≡ Some n → faulty old n
  chapter-faulty-long n part at = by old part
    where
      by : (o : Option (List ℕ)) → IsPart first o new lines TooLong text line → faulty o n
      by None part = tt
      by (Some xs) part =
          ap (λ (l : List (List ℕ)). fault_in_parts before (parts_of (first ∷ l))) part.3
          ∙ long-faulty before first part.0 part.1 part.2 part.4 part.5 n (ap trace_fault_in (sym part.6) ∙ at)

  -- so the text's fault is named, wherever the part ends
  faulty-at : (next : Behind) (n : ℕ) → IsPart first old new lines next text line → trace_fault_in (lines_of text) ≡ Some n → faulty old n
  faulty-at Head n part at = chapter-faulty-more n part at
  faulty-at End n part at = chapter-faulty-last n part at
  faulty-at TooLong n part at = chapter-faulty-long n part at

  named-at : (r : RunFault) (n : ℕ) → r ≡ record { why = BadTrace; line = Some (before + n) } → faulty old n → IfSome old (λ rest. NamesLine r (fault_in_parts before (parts_of (first ∷ lines_of rest))))
  named-at r n is at = by old at
    where
      by : (o : Option (List ℕ)) → faulty o n → IfSome o (λ rest. NamesLine r (fault_in_parts before (parts_of (first ∷ lines_of rest))))
      by None at = tt
      by (Some xs) at = λ bad. ap (λ (x : RunFault). x.line) is ∙ sym at

  named-not : (r : RunFault) → (r.why ≡ BadTrace → ⊥) → IfSome old (λ rest. NamesLine r (fault_in_parts before (parts_of (first ∷ lines_of rest))))
  named-not r other = by old
    where
      by : (o : Option (List ℕ)) → IfSome o (λ rest. NamesLine r (fault_in_parts before (parts_of (first ∷ lines_of rest))))
      by None = tt
      by (Some xs) = λ bad. absurd (other bad)

  pub chapter-faulty : (next : Behind) (f r : RunFault) → IsPart first old new lines next text line → NamesLine f (trace_fault_in (lines_of text)) → IsUnreadTrace f → IfSome f.line (λ n. (r ≡ record { why = f.why; line = Some (before + n) }) ⊎ (r ≡ record { why = ReadFault; line = None })) → (f.line ≡ None → r ≡ f) → IfSome old (λ rest. NamesLine r (fault_in_parts before (parts_of (first ∷ lines_of rest))))
  chapter-faulty next f r part names (inl (n, is)) told outside = by (subst (λ (x : RunFault). IfSome x.line (λ n. (r ≡ record { why = x.why; line = Some (before + n) }) ⊎ (r ≡ record { why = ReadFault; line = None }))) is told)
    where
      by : (r ≡ record { why = BadTrace; line = Some (before + n) }) ⊎ (r ≡ record { why = ReadFault; line = None }) → IfSome old (λ rest. NamesLine r (fault_in_parts before (parts_of (first ∷ lines_of rest))))
      by (inl so) = named-at r n so (faulty-at next n part (sym (names (ap (λ (x : RunFault). x.why) is)) ∙ ap (λ (x : RunFault). x.line) is))
      by (inr so) = named-not r (λ bad. (let clash : ReadFault ≡ BadTrace = sym (ap (λ (x : RunFault). x.why) so) ∙ bad in absurd (cc)))
  chapter-faulty next f r part names (inr (inl is)) told outside = named-not r (λ bad. (let clash : Memory ≡ BadTrace = sym (ap (λ (x : RunFault). x.why) (outside (ap (λ (x : RunFault). x.line) is) ∙ is)) ∙ bad in absurd (cc)))
  chapter-faulty next f r part names (inr (inr is)) told outside = named-not r (λ bad. (let clash : ReadFault ≡ BadTrace = sym (ap (λ (x : RunFault). x.why) (outside (ap (λ (x : RunFault). x.line) is) ∙ is)) ∙ bad in absurd (cc)))

  pub chapter-too-long : (trace : ReadTrace) (r : RunFault) → IsPart first old new lines TooLong text line → IsRead (lines_of text) trace → r ≡ record { why = BadTrace; line = Some (before + lines + 1) } → IfSome old (λ rest. NamesLine r (fault_in_parts before (parts_of (first ∷ lines_of rest))))
  chapter-too-long trace r part read is =
      let many : before + lines + 1 ≡ before + (lines + 1) = omega arith in
      named-at r (lines + 1) (is ∙ ap (λ (n : ℕ). let f : RunFault = record { why = BadTrace; line = Some n } in f) many) (chapter-long trace part read)

-- ---- chapter by chapter

-- whole traces with one more
traces-more : (parts : List (List (List ℕ))) (chapters : List Chapter) (part : List (List ℕ)) (c : Chapter) → AreTraces parts chapters → AreTraces (part ∷ []) (c ∷ []) → AreTraces (parts ++ part ∷ []) (chapters ++ c ∷ [])
traces-more [] [] part c are one = one
traces-more [] (d ∷ chapters) part c are one = absurd are
traces-more (p ∷ parts) [] part c are one = absurd are
traces-more (p ∷ parts) (d ∷ chapters) part c are one = (are.0, traces-more parts chapters part c are.1 one)

-- the chapter of a trace that was read
abbrev chapter_of : (lines : List (List ℕ)) → (trace : ReadTrace) → IsRead lines trace → Chapter
chapter_of lines trace read = record { kind = trace.kind; base = trace.base; records = read.records }

is-of : (lines : List (List ℕ)) (trace : ReadTrace) (read : IsRead lines trace) → IsOf trace (chapter_of lines trace read)
is-of lines trace read = record { kind = refl; base = refl; own = read.own; seen = read.seen; counted = read.counted }

-- of a text's lines these parts were read, and the chain so far is theirs
pub record WasChained (lines left : List (List ℕ)) (before : ℕ) (chain : Chain) : Type 0 where
  pub parts : List (List (List ℕ))
  pub chapters : List Chapter
  pub are : AreTraces parts chapters
  pub read : HasRead chain chapters
  pub all : parts_of lines ≡ parts ++ parts_of left
  pub fault : fault_in_parts 0 (parts_of lines) ≡ fault_in_parts before (parts_of left)

-- so far: what is left begins with this line, or nothing is
abbrev pub ChainSoFar : (first : List ℕ) → (old now : Option (List ℕ)) → (before : ℕ) → (more : Bool) → (line : List ℕ) → Chain → Type 0
ChainSoFar first old now before true line chain =
    Both old now (λ xs ys. HasNoEnd line × WasChained (first ∷ lines_of xs) (line ∷ lines_of ys) before chain)
ChainSoFar first old now before false line chain =
    IfSome old (λ xs. WasChained (first ∷ lines_of xs) [] before chain)

-- what adds a chapter to a chain
abbrev pub Adds : ReadTrace → (old new : Chain) → Type 0
Adds trace old new = (chapters : List Chapter) (c : Chapter) → HasRead old chapters → IsOf trace c → HasRead new (chapters ++ c ∷ [])

-- one part more
chained-more : (lines : List (List ℕ)) (line : List ℕ) (own rest : List (List ℕ)) (before after : ℕ) (old new : Chain) (trace : ReadTrace) → WasChained lines (line ∷ own ++ rest) before old → HaveNoHead own → BeginsAnew rest → IsRead (line ∷ own) trace → fault_in_parts (before + (length own + 1)) (parts_of rest) ≡ fault_in_parts after (parts_of rest) → Adds trace old new → WasChained lines rest after new
chained-more lines line own rest before after old new trace was none anew read at adds =
    let c = chapter_of (line ∷ own) trace read in
    record {
      parts = was.parts ++ (line ∷ own) ∷ [];
      chapters = was.chapters ++ c ∷ [];
      are = traces-more was.parts was.chapters (line ∷ own) c was.are (read.told, tt);
      read = adds was.chapters c was.read (is-of (line ∷ own) trace read);
      all = was.all ∙ (ap (λ (p : List (List (List ℕ))). was.parts ++ p) (part-first line own rest none anew) ∙ sym (append_assoc was.parts ((line ∷ own) ∷ []) (parts_of rest)));
      fault = was.fault ∙ (fault-later before line own rest none anew read.whole ∙ at);
    }

-- the first one
chained-first : (line : List ℕ) (own rest : List (List ℕ)) (after : ℕ) (chain : Chain) (trace : ReadTrace) → HaveNoHead own → BeginsAnew rest → IsRead (line ∷ own) trace → fault_in_parts (0 + (length own + 1)) (parts_of rest) ≡ fault_in_parts after (parts_of rest) → ((c : Chapter) → IsOf trace c → HasRead chain (c ∷ [])) → WasChained (line ∷ own ++ rest) rest after chain
chained-first line own rest after chain trace none anew read at begins =
    let c = chapter_of (line ∷ own) trace read in
    record {
      parts = (line ∷ own) ∷ [];
      chapters = c ∷ [];
      are = (read.told, tt);
      read = begins c (is-of (line ∷ own) trace read);
      all = part-first line own rest none anew;
      fault = fault-later 0 line own rest none anew read.whole ∙ at;
    }

-- nothing is left to be at fault
none-left : (n m : ℕ) → fault_in_parts n (parts_of []) ≡ fault_in_parts m (parts_of [])
none-left n m =
    ap (fault_in_parts n) parts-end ∙ (fault-end n ∙ sym (ap (fault_in_parts m) parts-end ∙ fault-end m))

plain-behind : (own rest : List (List ℕ)) → All HasNoEnd (own ++ rest) → All HasNoEnd rest
plain-behind [] rest all = all
plain-behind (l ∷ own) rest all = plain-behind own rest (All-tail HasNoEnd l (own ++ rest) all)

-- a line that was read has no end in it
pub next-plain : (old : Option (List ℕ)) (new : Option (List ℕ)) (line : List ℕ) → TakesLine old new line → Both old new (λ xs ys. HasNoEnd line)
next-plain None new line takes = tt
next-plain (Some xs) None line takes = absurd takes
next-plain (Some xs) (Some ys) line takes = All-head HasNoEnd line (lines_of ys) (subst (All HasNoEnd) takes (lines-plain xs))

head-plain : (ys : List ℕ) (own : List (List ℕ)) (next : List ℕ) (rest : List (List ℕ)) → lines_of ys ≡ own ++ next ∷ rest → HasNoEnd next
head-plain ys own next rest is =
    All-head HasNoEnd next rest (plain-behind own (next ∷ rest) (subst (All HasNoEnd) is (lines-plain ys)))

module _ (first : List ℕ) where
  pub chain-more : (old mid new : Option (List ℕ)) (before after : ℕ) (more : Bool) (line next : List ℕ) (chain longer : Chain) (trace : ReadTrace) → ChainSoFar first old mid before true line chain → (HasNoEnd line → IsChapterRead line mid new before trace after more next) → Adds trace chain longer → ChainSoFar first old new after more next longer
  chain-more None mid new before after true line next chain longer trace was read adds = tt
  chain-more None mid new before after false line next chain longer trace was read adds = tt
  chain-more (Some xs) None new before after more line next chain longer trace was read adds = absurd was
  chain-more (Some xs) (Some ys) None before after true line next chain longer trace was read adds = absurd (read was.0)
  chain-more (Some xs) (Some ys) (Some zs) before after true line next chain longer trace was read adds =
      let r = read was.0 in
      let here : WasChained (first ∷ lines_of xs) (line ∷ r.0 ++ next ∷ lines_of zs) before chain = subst (λ (l : List (List ℕ)). WasChained (first ∷ lines_of xs) (line ∷ l) before chain) r.1 was.1 in
      (head-plain ys r.0 next (lines_of zs) r.1, chained-more (first ∷ lines_of xs) line r.0 (next ∷ lines_of zs) before after chain longer trace here r.2 r.3 r.4 (ap (λ n. fault_in_parts n (parts_of (next ∷ lines_of zs))) (sym r.5)) adds)
  chain-more (Some xs) (Some ys) new before after false line next chain longer trace was read adds =
      let r = read was.0 in
      let here : WasChained (first ∷ lines_of xs) (line ∷ lines_of ys ++ []) before chain = subst (λ (l : List (List ℕ)). WasChained (first ∷ lines_of xs) (line ∷ l) before chain) (sym (append-nil (lines_of ys))) was.1 in
      chained-more (first ∷ lines_of xs) line (lines_of ys) [] before after chain longer trace here r.0 tt r.1 (none-left (before + (length (lines_of ys) + 1)) after) adds

  pub chain-begins : (old new : Option (List ℕ)) (after : ℕ) (more : Bool) (next : List ℕ) (chain : Chain) (trace : ReadTrace) → HasNoEnd first → (HasNoEnd first → IsChapterRead first old new 0 trace after more next) → ((c : Chapter) → IsOf trace c → HasRead chain (c ∷ [])) → ChainSoFar first old new after more next chain
  chain-begins None new after true next chain trace plain read begins = tt
  chain-begins None new after false next chain trace plain read begins = tt
  chain-begins (Some xs) None after true next chain trace plain read begins = absurd (read plain)
  chain-begins (Some xs) (Some ys) after true next chain trace plain read begins =
      let r = read plain in
      (head-plain xs r.0 next (lines_of ys) r.1, subst (λ (l : List (List ℕ)). WasChained (first ∷ l) (next ∷ lines_of ys) after chain) (sym r.1) (chained-first first r.0 (next ∷ lines_of ys) after chain trace r.2 r.3 r.4 (ap (λ n. fault_in_parts n (parts_of (next ∷ lines_of ys))) (sym r.5)) begins))
  chain-begins (Some xs) new after false next chain trace plain read begins =
      let r = read plain in
      subst (λ (l : List (List ℕ)). WasChained (first ∷ l) [] after chain) (append-nil (lines_of xs)) (chained-first first (lines_of xs) [] after chain trace r.0 tt r.1 (none-left (0 + (length (lines_of xs) + 1)) after) begins)

  -- a faulty part is the chain's fault
  pub chain-faulty : (old mid : Option (List ℕ)) (before : ℕ) (line : List ℕ) (chain : Chain) (f : RunFault) → ChainSoFar first old mid before true line chain → (HasNoEnd line → IfSome mid (λ rest. NamesLine f (fault_in_parts before (parts_of (line ∷ lines_of rest))))) → IfSome old (λ rest. NamesLine f (chain_fault_in (first ∷ lines_of rest)))
  unfolding chain_fault_in
  chain-faulty None mid before line chain f was names = tt
  chain-faulty (Some xs) None before line chain f was names = absurd was
  chain-faulty (Some xs) (Some ys) before line chain f was names = subst (NamesLine f) (sym was.1.fault) (names was.0)

  pub chain-faulty-first : (old : Option (List ℕ)) (f : RunFault) → HasNoEnd first → (HasNoEnd first → IfSome old (λ rest. NamesLine f (fault_in_parts 0 (parts_of (first ∷ lines_of rest))))) → IfSome old (λ rest. NamesLine f (chain_fault_in (first ∷ lines_of rest)))
  unfolding chain_fault_in
  chain-faulty-first None f plain names = tt
  chain-faulty-first (Some xs) f plain names = names plain

  -- at its end this is found
  pub chain-found : (old now : Option (List ℕ)) (before : ℕ) (line : List ℕ) (chain : Chain) (legal : Bool) (text : List ℕ) → ChainSoFar first old now before false line chain → ((chapters : List Chapter) → HasRead chain chapters → IsFoundOfAll chapters legal text) → IfSome old (λ rest. IsChainFound (first ∷ lines_of rest) legal text)
  chain-found None now before line chain legal text was found = tt
  chain-found (Some xs) now before line chain legal text was found = record {
    chapters = was.chapters;
    traces = subst (λ (p : List (List (List ℕ))). AreTraces p was.chapters) (sym (was.all ∙ (ap (λ (p : List (List (List ℕ))). was.parts ++ p) parts-end ∙ append-nil was.parts))) was.are;
    found = found was.chapters was.read;
  }

  -- want of memory names no line
  pub memory-names : (old : Option (List ℕ)) (f : RunFault) → f.why ≡ Memory → IfSome old (λ rest. NamesLine f (chain_fault_in (first ∷ lines_of rest)))
  memory-names None f is = tt
  memory-names (Some xs) f is = λ bad. (let clash : Memory ≡ BadTrace = sym is ∙ bad in absurd (cc))

-- ---- from the first line on

-- what holds of a first line and the lines behind it holds of the text
whole-text : (old mid : Option (List ℕ)) (line : List ℕ) (P : List (List ℕ) → Type 0) → TakesLine old mid line → (HasNoEnd line → IfSome mid (λ rest. P (line ∷ lines_of rest))) → IfSome old (λ input. P (lines_of input))
whole-text None mid line P takes behind = tt
whole-text (Some xs) None line P takes behind = absurd takes
whole-text (Some xs) (Some ys) line P takes behind =
    let plain : HasNoEnd line = All-head HasNoEnd line (lines_of ys) (subst (All HasNoEnd) takes (lines-plain xs)) in
    subst P (sym takes) (behind plain)

pub whole-found : {A : Type 0} (old mid : Option (List ℕ)) (line : List ℕ) (r : Result A RunFault) (legal : A → Bool) (text : A → List ℕ) → TakesLine old mid line → IfOk r (λ found. HasNoEnd line → IfSome mid (λ rest. IsChainFound (line ∷ lines_of rest) (legal found) (text found))) → IfOk r (λ found. IfSome old (λ input. IsChainFound (lines_of input) (legal found) (text found)))
whole-found old mid line (Ok found) legal text takes behind = whole-text old mid line (λ ls. IsChainFound ls (legal found) (text found)) takes behind
whole-found old mid line (Err f) legal text takes behind = tt

pub whole-faulty : {A : Type 0} (old mid : Option (List ℕ)) (line : List ℕ) (r : Result A RunFault) → TakesLine old mid line → IfErr r (λ f. HasNoEnd line → IfSome mid (λ rest. NamesLine f (chain_fault_in (line ∷ lines_of rest)))) → IfErr r (λ f. IfSome old (λ input. NamesLine f (chain_fault_in (lines_of input))))
whole-faulty old mid line (Ok found) takes behind = tt
whole-faulty old mid line (Err f) takes behind = whole-text old mid line (λ ls. NamesLine f (chain_fault_in ls)) takes behind

-- a text without a line
pub no-line : (old new : Option (List ℕ)) → Consumes old new [] → IsAtEnd new → IfSome old (λ input. chain_fault_in (lines_of input) ≡ Some 1)
unfolding chain_fault_in
no-line old new consumes at_end = by old (ended-lines old new consumes at_end)
  where
    by : (o : Option (List ℕ)) → IfSome o (λ xs. lines_of xs ≡ []) → IfSome o (λ input. chain_fault_in (lines_of input) ≡ Some 1)
    by None none = tt
    by (Some xs) none = ap (λ (ls : List (List ℕ)). chain_fault_in ls) none

-- a text whose first line is too long
pub long-line : (old : Option (List ℕ)) → BeginsTooLong old → IfSome old (λ input. chain_fault_in (lines_of input) ≡ Some 1)
unfolding chain_fault_in
long-line None long = tt
long-line (Some xs) long = ap (λ (ls : List (List ℕ)). chain_fault_in ls) long.2 ∙ long-first long.0 long.1 long.3

-- ---- what comes of it all

-- a chain that wasn't read to its end: nothing is written
pub chain-unread : (old writer : Option (List ℕ)) (f : RunFault) → IsUnreadTrace f → IfSome old (λ input. NamesLine f (chain_fault_in (lines_of input))) → IfSome old (λ input. ChainBreaks (lines_of input) f.why f.line writer writer)
chain-unread None writer f unread names = tt
chain-unread (Some xs) writer f (inl bad) names =
    let at : chain_fault_in (lines_of xs) ≡ Some bad.0 = sym (names (ap (λ x. x.why) bad.1)) ∙ ap (λ x. x.line) bad.1 in
    subst (λ (x : RunFault). ChainBreaks (lines_of xs) x.why x.line writer writer) (sym bad.1) (at, appends-nothing writer)
chain-unread (Some xs) writer f (inr (inl memory)) names =
    subst (λ (x : RunFault). ChainBreaks (lines_of xs) x.why x.line writer writer) (sym memory) (appends-nothing writer)
chain-unread (Some xs) writer f (inr (inr read)) names =
    subst (λ (x : RunFault). ChainBreaks (lines_of xs) x.why x.line writer writer) (sym read) (appends-nothing writer)

-- one that was read, whose line is written whole, or but for a part
pub chain-broken : (old before after : Option (List ℕ)) (f : RunFault) (legal : Bool) (text : List ℕ) → f ≡ record { why = WriteFault; line = None } → IfSome old (λ input. IsChainFound (lines_of input) legal text) → AppendsPrefix before after text → IfSome old (λ input. ChainBreaks (lines_of input) f.why f.line before after)
chain-broken None before after f legal text is found prefix = tt
chain-broken (Some xs) before after f legal text is found prefix =
    subst (λ (x : RunFault). ChainBreaks (lines_of xs) x.why x.line before after) (sym is) (legal, text, found, prefix)

pub chain-done : (old before after : Option (List ℕ)) (legal : Bool) (text : List ℕ) → IfSome old (λ input. IsChainFound (lines_of input) legal text) → Appends before after text → IfSome old (λ input. ChainEnds (lines_of input) (Ok legal) before after)
chain-done None before after legal text found wrote = tt
chain-done (Some xs) before after legal text found wrote = (text, found, wrote)
