-- Chapters that are read one after another: each behind those before it.
use Rattle.std.proofs.Common.{◌≡◌, ◌≢◌, inl, inr, ℕ, ◌+◌, true, false, List, [], ◌∷◌, ◌++◌, length, map, Option, Some, None, refl, sym, ap, ◌∙◌, subst, append_assoc, append-nil, arith, length-append}
use Rattle.std.specs.Prelude.{All, is_some}
use Rattle.std.proofs.lemmas.Grind.{flat_map-append}
use Rattle.std.proofs.lemmas.List.{same_from_push}
use Rattle.std.proofs.lemmas.List.Elements.{All-nil, All-push, All-head}
use Rattle.meet_tickets.specs.declared.places.Kind.{Kind}
use Rattle.meet_tickets.specs.declared.records.Deed.{Deed}
use Rattle.meet_tickets.specs.declared.records.Record.{Record}
use Rattle.meet_tickets.specs.Bases.{Based, IsBaseOf, IsWellFormed, IsLegalOn, moment_of_base}
use Rattle.meet_tickets.specs.BySeat.{Moment, moment_of}
use Rattle.meet_tickets.proofs.Tellings.Continued.{moment_of-append}
use Rattle.meet_tickets.proofs.OnBases.Folded.{folds}
use Rattle.meet_history.specs.declared.checker.CheckFault.{CheckFault}
use Rattle.meet_history.specs.declared.checker.CheckFault.TheVariants.{Illegal as IllegalRecord, Memory}
use Rattle.meet_history.specs.declared.checker.Why.{Why}
use Rattle.meet_history.specs.declared.checker.Standing.{Standing}
use Rattle.meet_history.specs.Checking.{IsIllegalAt}
use Rattle.meet_history.specs.Pushing.{Progress, HasTaken, SeenWith, HasSeen, IsStandingOf, TellsEnd}
use Rattle.meet_laws.specs.Chapters.{Succeeds, IsSucceeded, FollowOn, records_in}
use Rattle.meet_run.specs.declared.trace.chain.Broken.{Broken}
use Rattle.meet_run.specs.declared.trace.chain.Chain.{Chain}
use Rattle.meet_run.specs.declared.trace.chain.ChapterFault.{ChapterFault}
use Rattle.meet_run.specs.declared.trace.chain.ChapterFault.TheVariants.{OtherPlace, OtherBase, Illegal}
use Rattle.meet_run.specs.declared.trace.check.ReadTrace.{ReadTrace}
use Rattle.meet_run.specs.Tracing.Chapters.{Chapter, stretch, all_records, AreOne, StandsBehind, IsWrongBehind, IsBroken, IsOf, IsLegalSoFar, HasRead, IsFoundOfAll, wrong_of, TellsWrong, broken_at, broken_line}
use Rattle.meet_run.specs.Scripts.Wording.{last_line}
use Rattle.meet_history.specs.Standings.{standing_on}

-- ---- what a checker has seen

-- where no fault was found, the records are legal, and led it to where it is
taken : (base : Based) (p : Progress) (past : List (Record Deed)) → p.fault ≡ None → HasSeen base p past → HasTaken base p past
taken base p past none seen = subst (λ f. SeenWith base f p past) none seen.1

module _ (first base : Based) (old new : Progress) (all own : List (Record Deed)) where
  -- a checker that began with a base for what another one has seen is where that one would be behind its records too
  pub seen-both : old.place.kind ≡ new.place.kind → old.fault ≡ None → new.fault ≡ None → HasSeen first old all → IsBaseOf (moment_of old.place.kind (moment_of_base first) all) (first.gone + length all) base → HasSeen base new own → HasSeen first new (all ++ own)
  seen-both kinds sound clean seen stands later =
      let k = new.place.kind in
      let before : HasTaken first old all = taken first old all sound seen in
      let after : HasTaken base new own = taken base new own clean later in
      let well : IsWellFormed k first = subst (λ (j : Kind). IsWellFormed j first) kinds seen.0 in
      let legal : IsLegalOn k first all = subst (λ (j : Kind). IsLegalOn j first all) kinds before.legal in
      let is : IsBaseOf (moment_of k (moment_of_base first) all) (first.gone + length all) base =
      subst (λ (j : Kind). IsBaseOf (moment_of j (moment_of_base first) all) (first.gone + length all) base) kinds stands in
      let folded = folds k first all (first.gone + length all) base well legal is in
      let whole : HasTaken first new (all ++ own) = record {
        legal = (folded.next own).0 after.legal;
        moment = after.moment ∙ (ap (λ (m : Moment). moment_of k m own) folded.stands ∙ sym (moment_of-append k (moment_of_base first) all own));
        count = omega (arith, after.count, is.gone, length-append all own);
      } in
      (well, subst (λ f. SeenWith first f new (all ++ own)) (sym clean) whole)

-- ---- chapters that follow one another

-- the one behind a chapter is the same with more behind it
succeeded-more : (k : Kind) (chapter x : Based × List (Record Deed)) (xs more : List (Based × List (Record Deed))) → IsSucceeded k chapter (xs ++ x ∷ []) → IsSucceeded k chapter ((xs ++ x ∷ []) ++ more)
succeeded-more k chapter x [] more is = is
succeeded-more k chapter x (y ∷ xs) more is = is

-- one more that stands on a base for the last one
follow-more : (k : Kind) (xs : List (Based × List (Record Deed))) (x next : Based × List (Record Deed)) → FollowOn k (xs ++ x ∷ []) → Succeeds k x.0 x.1 next.0 → IsLegalOn k next.0 next.1 → FollowOn k ((xs ++ x ∷ []) ++ next ∷ [])
follow-more k [] x next follow succeeds legal = (follow.0, succeeds, (legal, tt, tt))
follow-more k (y ∷ xs) x next follow succeeds legal =
    (follow.0, succeeded-more k y x xs (next ∷ []) follow.1, follow-more k xs x next follow.2 succeeds legal)

map-more : (xs : List Chapter) (x : Chapter) → map stretch (xs ++ x ∷ []) ≡ map stretch xs ++ stretch x ∷ []
map-more [] x = refl
map-more (y ∷ xs) x = ap (λ (l : List (Based × List (Record Deed))). stretch y ∷ l) (map-more xs x)

-- the records of all with one more
records-more : (xs : List Chapter) (x : Chapter) → all_records (xs ++ x ∷ []) ≡ all_records xs ++ x.records
records-more xs x =
    ap records_in (map-more xs x)
    ∙ (flat_map-append (λ (c : Based × List (Record Deed)). c.1) (map stretch xs) (stretch x ∷ [])
    ∙ ap (λ (l : List (Record Deed)). all_records xs ++ l) (append-nil x.records))

are-one-more : (k : Kind) (earlier : List Chapter) (last next : Chapter) → AreOne k (earlier ++ last ∷ []) → next.kind ≡ k → Succeeds k last.base last.records next.base → IsLegalOn k next.base next.records → AreOne k ((earlier ++ last ∷ []) ++ next ∷ [])
are-one-more k earlier last next one of succeeds legal =
    let follow : FollowOn k (map stretch earlier ++ stretch last ∷ []) = subst (FollowOn k) (map-more earlier last) one.1 in
    let more : FollowOn k ((map stretch earlier ++ stretch last ∷ []) ++ stretch next ∷ []) = follow-more k (map stretch earlier) (stretch last) (stretch next) follow succeeds legal in
    let told : map stretch ((earlier ++ last ∷ []) ++ next ∷ []) ≡ (map stretch earlier ++ stretch last ∷ []) ++ stretch next ∷ [] =
    map-more (earlier ++ last ∷ []) next ∙ ap (λ (l : List (Based × List (Record Deed))). l ++ stretch next ∷ []) (map-more earlier last) in
    (All-push (λ (c : Chapter). c.kind ≡ k) (earlier ++ last ∷ []) next one.0 of, subst (FollowOn k) (sym told) more)

-- ---- what is wrong with a chapter's own records

-- nothing is, where its checker found no fault
nothing-wrong : (c : Chapter) (p : Progress) → HasSeen c.base p c.records → wrong_of p.fault ≡ None → p.fault ≡ None
nothing-wrong c p seen none = by p.fault refl
  where
    by : (f : Option CheckFault) → p.fault ≡ f → p.fault ≡ None
    by None is = is
    by (Some (IllegalRecord number why)) is =
        let clash : Some (Illegal number why) ≡ None = sym (ap wrong_of is) ∙ none in absurd (cc)
    by (Some Memory) is = absurd (subst (λ f. SeenWith c.base f p c.records) is seen.1)

-- else it's a record that can't stand
record-wrong : (c : Chapter) (p : Progress) (why : ChapterFault) → p.place.kind ≡ c.kind → HasSeen c.base p c.records → wrong_of p.fault ≡ Some why → (number : ℕ) × (reason : Why) × (why ≡ Illegal number reason) × IsIllegalAt c.kind c.base c.records number reason
record-wrong c p why own seen wrong = by p.fault refl
  where
    by : (f : Option CheckFault) → p.fault ≡ f → (number : ℕ) × (reason : Why) × (why ≡ Illegal number reason) × IsIllegalAt c.kind c.base c.records number reason
    by None is = let clash : None ≡ Some why = sym (ap wrong_of is) ∙ wrong in absurd (cc)
    by (Some (IllegalRecord number reason)) is =
        let same : why ≡ Illegal number reason = (let told : Some why ≡ Some (Illegal number reason) = sym wrong ∙ ap wrong_of is in cc) in
        (number, reason, same, subst (λ k. IsIllegalAt k c.base c.records number reason) own (subst (λ f. SeenWith c.base f p c.records) is seen.1))
    by (Some Memory) is = let clash : None ≡ Some why = sym (ap wrong_of is) ∙ wrong in absurd (cc)

-- a first chapter that can't follow is told as it is
broken-as : (number n : ℕ) (wrong : Option ChapterFault) (why : ChapterFault) → broken_at number wrong ≡ Some (record { chapter = n; why = why }) → (n ≡ number) × (wrong ≡ Some why)
broken-as number n None why is = absurd (cc)
broken-as number n (Some w) why is =
    let same : (let b : Broken = record { chapter = number; why = w } in b) ≡ record { chapter = n; why = why } = (let told : Some (let b : Broken = record { chapter = number; why = w } in b) ≡ Some (record { chapter = n; why = why }) = is in cc) in
    (sym (ap (λ (b : Broken). b.chapter) same), ap (λ (b : Broken). Some b.why) same)

broken-none : (number : ℕ) (wrong : Option ChapterFault) → broken_at number wrong ≡ None → wrong ≡ None
broken-none number None is = refl
broken-none number (Some w) is = absurd (cc)

-- ---- the first chapter

pub begins-read : (trace : ReadTrace) (fault : Option Broken) (c : Chapter) → fault ≡ broken_at 1 (wrong_of trace.checker.fault) → IsOf trace c → HasRead (record { last = trace; chapters = 1; fault = fault }) (c ∷ [])
begins-read trace fault c is of = subst (λ (f : Option Broken). HasRead (record { last = trace; chapters = 1; fault = f }) (c ∷ [])) (sym is) (record {
  many = refl;
  legal = λ none. legal_so (nothing-wrong c trace.checker of.seen (broken-none 1 (wrong_of trace.checker.fault) none));
  broken = λ n why told. broken_so n why (broken-as 1 n (wrong_of trace.checker.fault) why told);
})
  where
    legal_so : trace.checker.fault ≡ None → IsLegalSoFar trace (c ∷ [])
    legal_so sound =
        let legal : IsLegalOn c.kind c.base c.records = subst (λ (k : Kind). IsLegalOn k c.base c.records) of.own (taken c.base trace.checker c.records sound of.seen).legal in
        record {
          earlier = [];
          last = c;
          parts = refl;
          of_last = of;
          sound = sound;
          one = (All-push (λ (d : Chapter). d.kind ≡ c.kind) [] c (All-nil (λ (d : Chapter). d.kind ≡ c.kind)) refl, (legal, tt, tt));
          first = c;
          later = [];
          begins = refl;
          whole = subst (λ l. HasSeen c.base trace.checker l) (sym (append-nil c.records)) of.seen;
        }

    broken_so : (n : ℕ) (why : ChapterFault) → (n ≡ 1) × (wrong_of trace.checker.fault ≡ Some why) → IsBroken (c ∷ []) n why
    broken_so n why (number, wrong) =
        let found = record-wrong c trace.checker why of.own of.seen wrong in
        record {
          kind = c.kind;
          before = [];
          bad = c;
          after = [];
          parts = refl;
          number_is = number;
          one = (All-nil (λ (d : Chapter). d.kind ≡ c.kind), tt);
          wrong = subst (IsWrongBehind c.kind [] c) (sym found.2) (refl, (λ earlier last none. absurd (omega (arith, length-append earlier (last ∷ []), ap (λ (l : List Chapter). length l) none))), found.3);
        }

-- ---- a chapter behind others

-- there is none
pub none-there : (fault : Option Broken) → is_some fault ≡ false → fault ≡ None
none-there None is = refl
none-there (Some broken) is = absurd (cc)

-- behind one that can't follow nothing is looked at
pub takes-broken : (old : Chain) (chapters : List Chapter) (c : Chapter) → is_some old.fault ≡ true → HasRead old chapters → HasRead (record { last = old.last; chapters = old.chapters + 1; fault = old.fault }) (chapters ++ c ∷ [])
takes-broken old chapters c told read = record {
  many = omega (arith, read.many, length-append chapters (c ∷ []));
  legal = λ none. (let clash : true ≡ false = sym told ∙ ap (λ (f : Option Broken). is_some f) none in absurd (cc));
  broken = λ n why at. more n why (read.broken n why at);
}
  where
    more : (n : ℕ) (why : ChapterFault) → IsBroken chapters n why → IsBroken (chapters ++ c ∷ []) n why
    more n why b = record {
      kind = b.kind;
      before = b.before;
      bad = b.bad;
      after = b.after ++ c ∷ [];
      parts = ap (λ (l : List Chapter). l ++ c ∷ []) b.parts ∙ append_assoc b.before (b.bad ∷ b.after) (c ∷ []);
      number_is = b.number_is;
      one = b.one;
      wrong = b.wrong;
    }

module _ (last : ReadTrace) (trace : ReadTrace) (chapters : List Chapter) (c : Chapter) (before : IsLegalSoFar last chapters) (of : IsOf trace c) where
  abbrev k : Kind
  k = before.last.kind

  -- a base that is the end of the last chapter stands behind all of them, and no other does
  stands-if : last.checker.place.kind ≡ k → TellsEnd last.checker trace.base true → Succeeds k before.last.base before.last.records c.base
  stands-if own tells =
      let so : IsBaseOf (moment_of last.checker.place.kind (moment_of_base before.last.base) before.last.records) (before.last.base.gone + length before.last.records) trace.base =
      (tells before.last.base before.last.records before.of_last.seen).0 refl in
      subst (λ b. Succeeds k before.last.base before.last.records b) of.base
      (subst (λ (j : Kind). Succeeds j before.last.base before.last.records trace.base) own so)

  stands-only-if : last.checker.place.kind ≡ k → TellsEnd last.checker trace.base false → Succeeds k before.last.base before.last.records c.base → ⊥
  stands-only-if own tells succeeds =
      let so : IsBaseOf (moment_of last.checker.place.kind (moment_of_base before.last.base) before.last.records) (before.last.base.gone + length before.last.records) trace.base =
      subst (λ (j : Kind). Succeeds j before.last.base before.last.records trace.base) (sym own)
      (subst (λ b. Succeeds k before.last.base before.last.records b) (sym of.base) succeeds) in
      let never : false ≡ true = (tells before.last.base before.last.records before.of_last.seen).1 so in
      absurd (cc)

  behind : Succeeds k before.last.base before.last.records c.base → StandsBehind k chapters c.base
  behind succeeds earlier other parts =
      let same : other ≡ before.last = (same_from_push earlier before.earlier other before.last (sym parts ∙ before.parts)).1 in
      subst (λ (d : Chapter). Succeeds k d.base d.records c.base) (sym same) succeeds

  some : chapters ≢ []
  some none = absurd (omega (arith, length-append before.earlier (before.last ∷ []), ap (λ (l : List Chapter). length l) (sym before.parts ∙ none)))

  broken-with : (n : ℕ) (why : ChapterFault) → n ≡ length chapters + 1 → IsWrongBehind k chapters c why → IsBroken (chapters ++ c ∷ []) n why
  broken-with n why number wrong = record {
    kind = k;
    before = chapters;
    bad = c;
    after = [];
    parts = refl;
    number_is = number;
    one = before.one;
    wrong = wrong;
  }

  legal-with : last.kind ≡ trace.kind → TellsEnd last.checker trace.base true → trace.checker.fault ≡ None → IsLegalSoFar trace (chapters ++ c ∷ [])
  legal-with kinds tells sound =
      let own : last.checker.place.kind ≡ k = before.of_last.own in
      let same : c.kind ≡ k = sym of.kind ∙ (sym kinds ∙ before.of_last.kind) in
      let succeeds : Succeeds k before.last.base before.last.records c.base = stands-if own tells in
      let legal : IsLegalOn k c.base c.records = subst (λ (j : Kind). IsLegalOn j c.base c.records) (of.own ∙ same) (taken c.base trace.checker c.records sound of.seen).legal in
      let one : AreOne k ((before.earlier ++ before.last ∷ []) ++ c ∷ []) =
      are-one-more k before.earlier before.last c (subst (AreOne k) before.parts before.one) same succeeds legal in
      let joined : AreOne k (chapters ++ c ∷ []) = subst (λ (l : List Chapter). AreOne k (l ++ c ∷ [])) (sym before.parts) one in
      let here : HasTaken before.last.base last.checker before.last.records = taken before.last.base last.checker before.last.records before.sound before.of_last.seen in
      let there : HasTaken before.first.base last.checker (all_records chapters) = taken before.first.base last.checker (all_records chapters) before.sound before.whole in
      let lk = last.checker.place.kind in
      let on_last : IsBaseOf (moment_of lk (moment_of_base before.last.base) before.last.records) (before.last.base.gone + length before.last.records) c.base =
      subst (λ (j : Kind). Succeeds j before.last.base before.last.records c.base) (sym own) succeeds in
      let moved : IsBaseOf (moment_of lk (moment_of_base before.first.base) (all_records chapters)) (before.last.base.gone + length before.last.records) c.base =
      subst (λ (m : Moment). IsBaseOf m (before.last.base.gone + length before.last.records) c.base) (sym here.moment ∙ there.moment) on_last in
      let on_all : IsBaseOf (moment_of lk (moment_of_base before.first.base) (all_records chapters)) (before.first.base.gone + length (all_records chapters)) c.base =
      subst (λ (n : ℕ). IsBaseOf (moment_of lk (moment_of_base before.first.base) (all_records chapters)) n c.base) (sym here.count ∙ there.count) moved in
      record {
        earlier = chapters;
        last = c;
        parts = refl;
        of_last = of;
        sound = sound;
        one = subst (λ (j : Kind). AreOne j (chapters ++ c ∷ [])) (sym same) joined;
        first = before.first;
        later = before.later ++ c ∷ [];
        begins = ap (λ (l : List Chapter). l ++ c ∷ []) before.begins;
        whole = subst (λ l. HasSeen before.first.base trace.checker l) (sym (records-more chapters c))
            (seen-both before.first.base c.base last.checker trace.checker (all_records chapters) c.records (own ∙ sym (of.own ∙ same)) before.sound sound before.whole on_all of.seen);
      }

-- what is told of a chapter behind others is so
pub takes-read : (old : Chain) (trace : ReadTrace) (fault : Option Broken) (chapters : List Chapter) (c : Chapter) (wrong : Option ChapterFault) → old.fault ≡ None → TellsWrong old.last trace wrong → fault ≡ broken_at (old.chapters + 1) wrong → HasRead old chapters → IsOf trace c → HasRead (record { last = trace; chapters = old.chapters + 1; fault = fault }) (chapters ++ c ∷ [])
takes-read old trace fault chapters c wrong sound tells is read of = subst (λ (f : Option Broken). HasRead (record { last = trace; chapters = old.chapters + 1; fault = f }) (chapters ++ c ∷ [])) (sym is) (by tells)
  where
    before : IsLegalSoFar old.last chapters
    before = read.legal sound

    many : old.chapters + 1 ≡ length (chapters ++ c ∷ [])
    many = omega (arith, read.many, length-append chapters (c ∷ []))

    same : old.last.kind ≡ trace.kind → c.kind ≡ before.last.kind
    same kinds = sym of.kind ∙ (sym kinds ∙ before.of_last.kind)

    by : TellsWrong old.last trace wrong → HasRead (record { last = trace; chapters = old.chapters + 1; fault = broken_at (old.chapters + 1) wrong }) (chapters ++ c ∷ [])
    by (inl other) = record {
      many = many;
      legal = λ none. (let clash : Some OtherPlace ≡ None = sym other.1 ∙ broken-none (old.chapters + 1) wrong none in absurd (cc));
      broken = λ n why told. (
          let so = broken-as (old.chapters + 1) n wrong why told in
          let this : why ≡ OtherPlace = (let both : Some why ≡ Some OtherPlace = sym so.1 ∙ other.1 in cc) in
          let differs : c.kind ≢ before.last.kind = λ eq. other.0 (before.of_last.kind ∙ (sym eq ∙ sym of.kind)) in
          broken-with old.last trace chapters c before of n why (omega (arith, so.0, read.many)) (subst (IsWrongBehind before.last.kind chapters c) (sym this) (some old.last trace chapters c before of, differs)));
    }
    by (inr (kinds, (false, ends, told))) = record {
      many = many;
      legal = λ none. (let clash : Some OtherBase ≡ None = sym told ∙ broken-none (old.chapters + 1) wrong none in absurd (cc));
      broken = λ n why at. (
          let so = broken-as (old.chapters + 1) n wrong why at in
          let this : why ≡ OtherBase = (let both : Some why ≡ Some OtherBase = sym so.1 ∙ told in cc) in
          let not : StandsBehind before.last.kind chapters c.base → ⊥ = λ stands. stands-only-if old.last trace chapters c before of before.of_last.own ends (stands before.earlier before.last before.parts) in
          broken-with old.last trace chapters c before of n why (omega (arith, so.0, read.many)) (subst (IsWrongBehind before.last.kind chapters c) (sym this) (same kinds, not)));
    }
    by (inr (kinds, (true, ends, told))) = record {
      many = many;
      legal = λ none. legal-with old.last trace chapters c before of kinds ends (nothing-wrong c trace.checker of.seen (sym told ∙ broken-none (old.chapters + 1) wrong none));
      broken = λ n why at. (
          let so = broken-as (old.chapters + 1) n wrong why at in
          let found = record-wrong c trace.checker why of.own of.seen (sym told ∙ so.1) in
          let stands : StandsBehind before.last.kind chapters c.base = behind old.last trace chapters c before of (stands-if old.last trace chapters c before of before.of_last.own ends) in
          let bad : IsIllegalAt before.last.kind c.base c.records found.0 found.1 = subst (λ (j : Kind). IsIllegalAt j c.base c.records found.0 found.1) (same kinds) found.3 in
          broken-with old.last trace chapters c before of n why (omega (arith, so.0, read.many)) (subst (IsWrongBehind before.last.kind chapters c) (sym found.2) (same kinds, stands, bad)));
    }

-- ---- what is found of all

pub found-legal : (chain : Chain) (standing : Standing) (text : List ℕ) → chain.fault ≡ None → IsStandingOf chain.last.checker standing → text ≡ last_line chain.last.count standing → (chapters : List Chapter) → HasRead chain chapters → IsFoundOfAll chapters true text
found-legal chain standing text sound stands written chapters read =
    let so = read.legal sound in
    let all = all_records chapters in
    let same : so.first.kind ≡ so.last.kind = All-head (λ (c : Chapter). c.kind ≡ so.last.kind) so.first so.later (subst (All (λ (c : Chapter). c.kind ≡ so.last.kind)) so.begins so.one.0) in
    let here : HasTaken so.last.base chain.last.checker so.last.records = taken so.last.base chain.last.checker so.last.records so.sound so.of_last.seen in
    let whole : HasTaken so.first.base chain.last.checker all = taken so.first.base chain.last.checker all so.sound so.whole in
    let count : chain.last.count ≡ so.first.base.gone + length all = so.of_last.counted ∙ (sym here.count ∙ whole.count) in
    let at_end : standing ≡ standing_on so.first.base all = stands so.first.base all so.whole in
    let legal : IsLegalOn so.first.kind so.first.base all = subst (λ (j : Kind). IsLegalOn j so.first.base all) (so.of_last.own ∙ sym same) whole.legal in
    (so.first, so.later, so.begins, subst (λ (j : Kind). AreOne j chapters) (sym same) so.one, (legal, written ∙ (ap (λ (n : ℕ). last_line n standing) count ∙ ap (λ (s : Standing). last_line (so.first.base.gone + length all) s) at_end)))

pub found-broken : (chain : Chain) (broken : Broken) (text : List ℕ) → chain.fault ≡ Some broken → text ≡ broken_line broken.chapter broken.why → (chapters : List Chapter) → HasRead chain chapters → IsFoundOfAll chapters false text
found-broken chain broken text told written chapters read = (broken.chapter, broken.why, read.broken broken.chapter broken.why told, written)
