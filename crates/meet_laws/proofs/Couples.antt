-- Two tickets that met: each is with the other, one gave and the other took, and their records tell one mark.
use Rattle.std.proofs.Common.{◌≡◌, ◌⊎◌, ℕ, ◌==◌, refl, sym, ap, ◌∙◌, subst, inl, inr, ⊎_elim, Bool, true, false, cond, ◌&&◌, if◌then◌else◌, Option, Some, None, option_map, List, [], ◌∷◌, ◌++◌, find, Contains}
use Rattle.std.specs.Prelude.{option_and_then}
use Rattle.std.specs.Option.{option_or, option_map_or}
use Rattle.std.proofs.lemmas.Bool.{false≢true, eqb-true, eq-eqb}
use Rattle.std.proofs.lemmas.List.Elements.{Contains-append_right}
use Rattle.meet_tickets.specs.declared.fates.Fate.{Fate}
use Rattle.meet_tickets.specs.declared.fates.Fate.TheVariants.{Past}
use Rattle.meet_tickets.specs.declared.places.Kind.{Kind}
use Rattle.meet_tickets.specs.declared.records.Record.{Record}
use Rattle.meet_tickets.specs.declared.records.Cause.{Cause}
use Rattle.meet_tickets.specs.declared.records.Cause.TheVariants.{Interrupted}
use Rattle.meet_tickets.specs.declared.records.Deed.{Deed}
use Rattle.meet_tickets.specs.declared.records.Deed.TheVariants.{GiveWaits, GiveMeets, GiveFails, GiveKept, TakeWaits, TakeMeets, TakeFails, EntryInterrupted, Done, Got, Withdrawn, Interrupt}
use Rattle.meet_tickets.specs.Asked.{brought_by}
use Rattle.meet_tickets.specs.Bases.{Based, IsWellFormed, IsLegalOn}
use Rattle.meet_tickets.specs.BySeat.{is_request}
use Rattle.meet_tickets.specs.Fates.{opening, fate, fate_on, is_past, request_of, named_by, meets_it}
use Rattle.meet_tickets.proofs.Told.Fated.{Joining, Gives, Keeps, Takes, deed_of, only_asked, only_met, only_cut}
use Rattle.meet_tickets.proofs.Lists.Members.{Contains-first, Contains-rest}
use Rattle.meet_tickets.proofs.Told.Said.{Said, said, said_after, fate_of, fate_is}
use Rattle.meet_laws.specs.Laws.{IsWith, takes, told_mark, HaveMet, AreMutual}
use Rattle.meet_laws.proofs.Speaking.{Meets, given, taken, fetched, Learns, ends, gets, GoesOn, asks, meets, learns, leaves, returns, cuts, flags, Speaks, meets_asks, meets_names, meets_own, meets_other, turns}
use Rattle.meet_laws.proofs.Told.{Course, unasked, has_asked, has_met, has_learned, has_left, was_cut, has_returned, course_of, carry, Parted, parted, HasAsked, asked_turns, Stays, only_stays, IsMetBy, met_turns, met_asked, met_met, asks_first}
use Rattle.meet_laws.proofs.Begun.{legal_speaks}

-- what is found stands in the list, and passes
pub find_is : {X : Type 0} (p : X → Bool) (xs : List X) (x : X) → find p xs ≡ Some x → Contains xs x × (p x ≡ true)
find_is p [] x e = absurd (cc)
find_is {X} p (y ∷ xs) x e = by_test (p y) refl (find_is p xs x) e
  where
    by_test : (b : Bool) → p y ≡ b → (find p xs ≡ Some x → Contains xs x × (p x ≡ true)) → cond b (Some y) (find p xs) ≡ Some x → Contains (y ∷ xs) x × (p x ≡ true)
    by_test true q later found = let same : y ≡ x = cc in (subst (Contains (y ∷ xs)) same (Contains-first y xs), ap p (sym same) ∙ q)
    by_test false q later found = let rest = later found in (Contains-rest y xs x rest.0, rest.1)

pub and_both : (a b : Bool) → (a && b) ≡ true → (a ≡ true) × (b ≡ true)
and_both true b e = (refl, e)
and_both false b e = absurd (false≢true e)

-- a request of a ticket is a record
pub request_found : (history : List (Record Deed)) (t : ℕ) (d : Deed) → request_of history t ≡ Some d → (r : Record Deed) × Contains history r × (is_request r.deed ≡ true) × (r.ticket ≡ t) × (r.deed ≡ d)
request_found history t d e = by_found (find (λ r. is_request r.deed && (r.ticket == t)) history) refl e
  where
    by_found : (o : Option (Record Deed)) → find (λ r. is_request r.deed && (r.ticket == t)) history ≡ o → option_map (λ (r : Record Deed). r.deed) o ≡ Some d → (r : Record Deed) × Contains history r × (is_request r.deed ≡ true) × (r.ticket ≡ t) × (r.deed ≡ d)
    by_found None found e = absurd (cc)
    by_found (Some r) found e =
        let is = find_is (λ (x : Record Deed). is_request x.deed && (x.ticket == t)) history r found in
        let both = and_both (is_request r.deed) (r.ticket == t) is.1 in
        let same : r.deed ≡ d = cc in
        (r, is.0, both.0, eqb-true r.ticket t both.1, same)

-- who meets a ticket is a record
pub meeting_found : (history : List (Record Deed)) (t u : ℕ) → (said history t).met ≡ Some u → (r : Record Deed) × Contains history r × (named_by r.deed ≡ Some t) × (r.ticket ≡ u)
meeting_found history t u e = by_found (find (meets_it t) history) refl e
  where
    named : (o : Option ℕ) → option_map_or (λ v. v == t) o false ≡ true → o ≡ Some t
    named None e = absurd (false≢true e)
    named (Some v) e = ap (λ w. Some w) (eqb-true v t e)

    by_found : (o : Option (Record Deed)) → find (meets_it t) history ≡ o → option_map (λ (r : Record Deed). r.ticket) o ≡ Some u → (r : Record Deed) × Contains history r × (named_by r.deed ≡ Some t) × (r.ticket ≡ u)
    by_found None found e = absurd (cc)
    by_found (Some r) found e =
        let is = find_is (meets_it t) history r found in
        let same : r.ticket ≡ u = cc in
        (r, is.0, named (named_by r.deed) is.1, same)

-- a request that meets doesn't join the line
meets_stay : (d : Deed) (u : ℕ) (j : Joining) → Meets d u j → Stays d
meets_stay d u j given (Gives n) e = cc
meets_stay d u j given (Keeps n) e = cc
meets_stay d u j given Takes e = cc
meets_stay d u j taken (Gives n) e = cc
meets_stay d u j taken (Keeps n) e = cc
meets_stay d u j taken Takes e = cc
meets_stay d u j fetched (Gives n) e = cc
meets_stay d u j fetched (Keeps n) e = cc
meets_stay d u j fetched Takes e = cc

learns_names : (t : ℕ) (d : Deed) (u : ℕ) (j : Joining) (o : Option Deed) → Learns t d u j o → named_by d ≡ None
learns_names t d u j o ends = refl
learns_names t d u j o gets = refl

-- what a ticket gets is what its giver's request brought
learned_mark : (t : ℕ) (d : Deed) (u : ℕ) (j : Joining) (o : Option Deed) → Learns t d u j o → (m : ℕ) → told_mark d ≡ Some m → (j ≡ Takes) × (o ≡ Some (GiveMeets m t))
learned_mark t d u j o ends m e = absurd (cc)
learned_mark t d u j o (gets {m = n}) m e = let same : n ≡ m = cc in (refl, ap (λ x. Some (GiveMeets x t)) same)

module _ (history : List (Record Deed)) (on : Speaks history) where
  -- the request of a ticket is what its record says
  pub request_said : (r : Record Deed) → Contains history r → is_request r.deed ≡ true → (said history r.ticket).asked ≡ Some r.deed
  request_said r m request =
      let p = parted history r on m in
      let new = asks_first (said p.before) r.ticket r.deed p.goes request in
      let said_then : (said (p.before ++ r ∷ []) r.ticket).asked ≡ Some r.deed =
      ap (λ (x : Said). x.asked) (said_after p.before r r.ticket)
      ∙ ap (λ (x : Said). option_or x.asked (if is_request r.deed && (r.ticket == r.ticket) then Some r.deed else None)) new
      ∙ ap (λ b. if b && (r.ticket == r.ticket) then Some r.deed else None) request
      ∙ ap (λ b. if b then Some r.deed else None) (eq-eqb r.ticket r.ticket refl) in
      subst (λ h. (said h r.ticket).asked ≡ Some r.deed) p.is (carry (HasAsked r.deed) (asked_turns r.deed) p.after (p.before ++ r ∷ []) p.on r.ticket said_then)

  -- what is said of two tickets that met
  pub record Couple (r : Record Deed) (u : ℕ) : Type 0 where
    pub joined : Joining
    pub how : Meets r.deed u joined
    pub own : said history r.ticket ≡ only_asked r.deed
    pub other : IsMetBy joined r.ticket (said history u)

  couple_goes : (r : Record Deed) (u : ℕ) (p : Parted history r) → GoesOn (said p.before) r.ticket r.deed → named_by r.deed ≡ Some u → Couple r u
  couple_goes r u p (asks request none new) n = absurd (let e : None ≡ Some u = sym none ∙ n in cc)
  couple_goes r u p (meets v j m new there) n =
      let same : v ≡ u = (let e : Some v ≡ Some u = sym (meets_names r.deed v j m) ∙ n in cc) in
      subst (Couple r) same (record {
        joined = j;
        how = m;
        own = subst (λ h. said h r.ticket ≡ only_asked r.deed) p.is (carry (λ x. x ≡ only_asked r.deed) (only_stays r.deed (meets_stay r.deed v j m)) p.after (p.before ++ r ∷ []) p.on r.ticket (meets_own p.before r v j m new there));
        other = subst (λ h. IsMetBy j r.ticket (said h v)) p.is (carry (IsMetBy j r.ticket) (met_turns j r.ticket) p.after (p.before ++ r ∷ []) p.on v (inl (meets_other p.before r v j m new there)));
      })
  couple_goes r u p (learns v j l was) n = absurd (let e : None ≡ Some u = sym (learns_names r.ticket r.deed v j (said p.before v).asked l) ∙ n in cc)
  couple_goes r u p (leaves j cause e l waits was) n = absurd (let f : None ≡ Some u = sym (ap named_by e) ∙ n in cc)
  couple_goes r u p (returns j e waits was) n = absurd (let f : None ≡ Some u = sym (ap named_by e) ∙ n in cc)
  couple_goes r u p (cuts j i e above waits was) n = absurd (let f : None ≡ Some u = sym (ap named_by e) ∙ n in cc)
  couple_goes r u p (flags i e none) n = absurd (let f : None ≡ Some u = sym (ap named_by e) ∙ n in cc)

  -- a record that names a ticket met it
  pub couple : (r : Record Deed) → Contains history r → (u : ℕ) → named_by r.deed ≡ Some u → Couple r u
  couple r m u n = let p = parted history r on m in couple_goes r u p p.goes n

  -- what tells a mark: a request, or what a taker that waited got
  abbrev TellsMark : (ticket mark : ℕ) → Type 0
  TellsMark t m =
      ((d : Deed) × ((said history t).asked ≡ Some d) × (told_mark d ≡ Some m))
      ⊎ ((u : ℕ) × IsMetBy Takes u (said history t) × ((said history u).asked ≡ Some (GiveMeets m t)))

  mark_goes : (r : Record Deed) (m : ℕ) (p : Parted history r) → Contains history r → GoesOn (said p.before) r.ticket r.deed → told_mark r.deed ≡ Some m → TellsMark r.ticket m
  mark_goes r m p there (asks request none new) e = inl (r.deed, request_said r there request, e)
  mark_goes r m p there (meets v j how new was) e = inl (r.deed, request_said r there (meets_asks r.deed v j how), e)
  mark_goes r m p there (learns v j l was) e =
      let is = learned_mark r.ticket r.deed v j (said p.before v).asked l m e in
      let after = p.before ++ r ∷ [] in
      inr (
        v,
        subst (λ h. IsMetBy Takes v (said h r.ticket)) p.is
            (carry (IsMetBy Takes v) (met_turns Takes v) p.after after p.on r.ticket
            (met_turns Takes v (said p.before r.ticket) (said after r.ticket) (turns p.before r p.goes r.ticket) (inl (was ∙ ap (λ i. only_met i v) is.0)))),
        subst (λ h. (said h v).asked ≡ Some (GiveMeets m r.ticket)) p.is
            (carry (HasAsked (GiveMeets m r.ticket)) (asked_turns (GiveMeets m r.ticket)) p.after after p.on v
            (asked_turns (GiveMeets m r.ticket) (said p.before v) (said after v) (turns p.before r p.goes v) is.1)),
      )
  mark_goes r m p there (leaves j cause d l waits was) e = absurd (let f : None ≡ Some m = sym (ap told_mark d) ∙ e in cc)
  mark_goes r m p there (returns j d waits was) e = absurd (let f : None ≡ Some m = sym (ap told_mark d) ∙ e in cc)
  mark_goes r m p there (cuts j i d above waits was) e = absurd (let f : None ≡ Some m = sym (ap told_mark d) ∙ e in cc)
  mark_goes r m p there (flags i d none) e = absurd (let f : None ≡ Some m = sym (ap told_mark d) ∙ e in cc)

  pub mark_tells : (r : Record Deed) (m : ℕ) → Contains history r → told_mark r.deed ≡ Some m → TellsMark r.ticket m
  mark_tells r m there e = let p = parted history r on there in mark_goes r m p there p.goes e

-- who is with another names it, or is named by it
with_asked : (d : Deed) (u : ℕ) → IsWith u (fate_of (only_asked d)) → named_by d ≡ Some u
with_asked (GiveWaits m) u w = absurd w
with_asked (GiveMeets m v) u w = ap (λ x. Some x) (sym w)
with_asked (GiveFails m) u w = absurd w
with_asked (GiveKept m) u w = absurd w
with_asked TakeWaits u w = absurd w
with_asked (TakeMeets m v) u w = ap (λ x. Some x) (sym w)
with_asked TakeFails u w = absurd w
with_asked (EntryInterrupted side) u w = absurd w
with_asked Done u w = absurd w
with_asked (Got m v) u w = absurd w
with_asked (Withdrawn cause) u w = absurd w
with_asked (Interrupt i) u w = absurd w

abbrev NamesOrMet : ℕ → Said → Type 0
NamesOrMet u x = ((d : Deed) × (x.asked ≡ Some d) × (named_by d ≡ Some u)) ⊎ (x.met ≡ Some u)

with_met : (j : Joining) (v u : ℕ) → IsWith u (fate_of (only_met j v)) → Some v ≡ Some u
with_met (Gives m) v u w = ap (λ x. Some x) (sym w)
with_met (Keeps m) v u w = ap (λ x. Some x) (sym w)
with_met Takes v u w = ap (λ x. Some x) (sym w)

with_learned : (j : Joining) (v u : ℕ) → IsWith u (fate_of (record (only_met j v) { learned = true })) → Some v ≡ Some u
with_learned (Gives m) v u w = ap (λ x. Some x) (sym w)
with_learned (Keeps m) v u w = ap (λ x. Some x) (sym w)
with_learned Takes v u w = ap (λ x. Some x) (sym w)

left_alone : (j : Joining) (cause : Cause) (u : ℕ) → IsWith u (fate_of (record (only_asked (deed_of j)) { back = Some cause })) → ⊥
left_alone (Gives m) cause u w = w
left_alone (Keeps m) cause u w = w
left_alone Takes cause u w = w

cut_alone : (j : Joining) (u : ℕ) → IsWith u (fate_of (only_cut j)) → ⊥
cut_alone (Gives m) u w = w
cut_alone (Keeps m) u w = w
cut_alone Takes u w = w

returned_alone : (j : Joining) (cause : Cause) (u : ℕ) → IsWith u (fate_of (record (only_cut j) { back = Some cause })) → ⊥
returned_alone (Gives m) cause u w = w
returned_alone (Keeps m) cause u w = w
returned_alone Takes cause u w = w

with_said : (x : Said) (u : ℕ) → Course x → IsWith u (fate_of x) → NamesOrMet u x
with_said x u (unasked e) w = absurd (subst (λ y. IsWith u (fate_of y)) e w)
with_said x u (has_asked d request e) w = inl (d, ap (λ (y : Said). y.asked) e, with_asked d u (subst (λ y. IsWith u (fate_of y)) e w))
with_said x u (has_met j v e) w = inr (ap (λ (y : Said). y.met) e ∙ with_met j v u (subst (λ y. IsWith u (fate_of y)) e w))
with_said x u (has_learned j v waits e) w = inr (ap (λ (y : Said). y.met) e ∙ with_learned j v u (subst (λ y. IsWith u (fate_of y)) e w))
with_said x u (has_left j cause l waits e) w = absurd (left_alone j cause u (subst (λ y. IsWith u (fate_of y)) e w))
with_said x u (was_cut j waits e) w = absurd (cut_alone j u (subst (λ y. IsWith u (fate_of y)) e w))
with_said x u (has_returned j waits e) w = absurd (returned_alone j Interrupted u (subst (λ y. IsWith u (fate_of y)) e w))

-- those that met are with each other
met_with : (j : Joining) (u : ℕ) (x : Said) → IsMetBy j u x → IsWith u (fate_of x)
met_with j u x is = ⊎_elim (λ e. subst (λ y. IsWith u (fate_of y)) (sym e) (paired j)) (λ e. subst (λ y. IsWith u (fate_of y)) (sym e) (collected j)) is
  where
    paired : (j : Joining) → IsWith u (fate_of (only_met j u))
    paired (Gives m) = refl
    paired (Keeps m) = refl
    paired Takes = refl

    collected : (j : Joining) → IsWith u (fate_of (record (only_met j u) { learned = true }))
    collected (Gives m) = refl
    collected (Keeps m) = refl
    collected Takes = refl

own_with : (d : Deed) (u : ℕ) (j : Joining) (x : Said) → Meets d u j → x ≡ only_asked d → IsWith u (fate_of x)
own_with d u j x how e = subst (λ y. IsWith u (fate_of y)) (sym e) (asked_with d u j how)
  where
    asked_with : (d : Deed) (u : ℕ) (j : Joining) → Meets d u j → IsWith u (fate_of (only_asked d))
    asked_with d u j given = refl
    asked_with d u j taken = refl
    asked_with d u j fetched = refl

unpast : (p : Bool) (x : Fate) (u : ℕ) → IsWith u (if p then Past else x) → IsWith u x
unpast true x u w = absurd w
unpast false x u w = w

or_past : (p : Bool) (x : Fate) (u : ℕ) → IsWith u x → ((if p then Past else x) ≡ Past) ⊎ IsWith u (if p then Past else x)
or_past true x u w = inl refl
or_past false x u w = inr w

same_mark : (d : Deed) (o : Option Deed) (x m n : ℕ) → o ≡ Some d → told_mark d ≡ Some n → (e : Deed) → o ≡ Some e → told_mark e ≡ Some m → m ≡ n
same_mark d o x m n is own e other tells = let one : Some e ≡ Some d = sym other ∙ is in let same : e ≡ d = cc in let marks : Some m ≡ Some n = sym tells ∙ ap told_mark same ∙ own in cc

module _ (b : Based) (records : List (Record Deed)) (on : Speaks (opening b ++ records)) where
  abbrev whole : List (Record Deed)
  whole = opening b ++ records

  fate_with : (t u : ℕ) → IsWith u (fate_of (said (opening b ++ records) t)) → (fate_on b records t ≡ Past) ⊎ IsWith u (fate_on b records t)
  fate_with t u w = or_past (is_past b t) (fate (opening b ++ records) t) u (subst (IsWith u) (sym (fate_is (opening b ++ records) t)) w)

  -- a record of a ticket whose request tells a mark tells that mark
  own_mark : (x : ℕ) (d : Deed) (mark : ℕ) → (said (opening b ++ records) x).asked ≡ Some d → told_mark d ≡ Some mark → (r : Record Deed) → Contains records r → r.ticket ≡ x → (m : ℕ) → told_mark r.deed ≡ Some m → m ≡ mark
  own_mark x d mark asked tells r there own m e = ⊎_elim by_request by_getting (subst (λ y. TellsMark (opening b ++ records) on y m) own (mark_tells (opening b ++ records) on r m (Contains-append_right (opening b) records r there) e))
    where
      by_request : (e : Deed) × ((said (opening b ++ records) x).asked ≡ Some e) × (told_mark e ≡ Some m) → m ≡ mark
      by_request f =
          let one : Some f.0 ≡ Some d = sym f.1 ∙ asked in
          let same : f.0 ≡ d = cc in
          let marks : Some m ≡ Some mark = sym f.2 ∙ ap told_mark same ∙ tells in
          cc

      by_getting : (u : ℕ) × IsMetBy Takes u (said (opening b ++ records) x) × ((said (opening b ++ records) u).asked ≡ Some (GiveMeets m x)) → m ≡ mark
      by_getting f =
          let one : Some d ≡ Some TakeWaits = sym asked ∙ met_asked Takes f.0 (said (opening b ++ records) x) f.1 in
          let same : d ≡ TakeWaits = cc in
          absurd (let none : None ≡ Some mark = sym (ap told_mark same) ∙ tells in cc)

  -- and one of a taker that waited that of its giver
  taker_mark : (t u mark : ℕ) → IsMetBy Takes t (said (opening b ++ records) u) → (said (opening b ++ records) t).asked ≡ Some (GiveMeets mark u) → (r : Record Deed) → Contains records r → r.ticket ≡ u → (m : ℕ) → told_mark r.deed ≡ Some m → m ≡ mark
  taker_mark t u mark is asked r there own m e = ⊎_elim by_request by_getting (subst (λ y. TellsMark (opening b ++ records) on y m) own (mark_tells (opening b ++ records) on r m (Contains-append_right (opening b) records r there) e))
    where
      by_request : (e : Deed) × ((said (opening b ++ records) u).asked ≡ Some e) × (told_mark e ≡ Some m) → m ≡ mark
      by_request f =
          let one : Some f.0 ≡ Some TakeWaits = sym f.1 ∙ met_asked Takes t (said (opening b ++ records) u) is in
          let same : f.0 ≡ TakeWaits = cc in
          absurd (let none : None ≡ Some m = sym (ap told_mark same) ∙ f.2 in cc)

      by_getting : (v : ℕ) × IsMetBy Takes v (said (opening b ++ records) u) × ((said (opening b ++ records) v).asked ≡ Some (GiveMeets m u)) → m ≡ mark
      by_getting f =
          let one : Some f.0 ≡ Some t = sym (met_met Takes f.0 (said (opening b ++ records) u) f.1) ∙ met_met Takes t (said (opening b ++ records) u) is in
          let same : f.0 ≡ t = cc in
          let deeds : Some (GiveMeets m u) ≡ Some (GiveMeets mark u) = sym f.2 ∙ ap (λ y. (said (opening b ++ records) y).asked) same ∙ asked in
          cc

  -- two tickets of which one's request met the other
  met_from : (t : ℕ) (d : Deed) (u : ℕ) (j : Joining) → Meets d u j → said (opening b ++ records) t ≡ only_asked d → IsMetBy j t (said (opening b ++ records) u) → (mark : ℕ) × (HaveMet b records t u mark ⊎ HaveMet b records u t mark)
  met_from t d u j (given {m = n}) own other = (
    n,
    inl (record {
      gave = ap (λ (x : Said). option_and_then brought_by x.asked) own;
      took = ap (λ o. option_map_or takes o false) (met_asked Takes t (said (opening b ++ records) u) other);
      of_giver = fate_with t u (own_with (GiveMeets n u) u Takes (said (opening b ++ records) t) given own);
      of_taker = fate_with u t (met_with Takes t (said (opening b ++ records) u) other);
      marks = λ r there which m e. ⊎_elim (λ x. own_mark t (GiveMeets n u) n (ap (λ (x : Said). x.asked) own) refl r there x m e) (λ x. taker_mark t u n other (ap (λ (x : Said). x.asked) own) r there x m e) which;
    }),
  )
  met_from t d u j (taken {m = n}) own other = (
    n,
    inr (record {
      gave = ap (option_and_then brought_by) (met_asked (Gives n) t (said (opening b ++ records) u) other);
      took = ap (λ (x : Said). option_map_or takes x.asked false) own;
      of_giver = fate_with u t (met_with (Gives n) t (said (opening b ++ records) u) other);
      of_taker = fate_with t u (own_with (TakeMeets n u) u (Gives n) (said (opening b ++ records) t) taken own);
      marks = λ r there which m e. ⊎_elim (λ x. own_mark u (GiveWaits n) n (met_asked (Gives n) t (said (opening b ++ records) u) other) refl r there x m e) (λ x. own_mark t (TakeMeets n u) n (ap (λ (x : Said). x.asked) own) refl r there x m e) which;
    }),
  )
  met_from t d u j (fetched {m = n}) own other = (
    n,
    inr (record {
      gave = ap (option_and_then brought_by) (met_asked (Keeps n) t (said (opening b ++ records) u) other);
      took = ap (λ (x : Said). option_map_or takes x.asked false) own;
      of_giver = fate_with u t (met_with (Keeps n) t (said (opening b ++ records) u) other);
      of_taker = fate_with t u (own_with (TakeMeets n u) u (Keeps n) (said (opening b ++ records) t) fetched own);
      marks = λ r there which m e. ⊎_elim (λ x. own_mark u (GiveKept n) n (met_asked (Keeps n) t (said (opening b ++ records) u) other) refl r there x m e) (λ x. own_mark t (TakeMeets n u) n (ap (λ (x : Said). x.asked) own) refl r there x m e) which;
    }),
  )

  -- of a record that names a ticket
  met_by : (r : Record Deed) → Contains (opening b ++ records) r → (u : ℕ) → named_by r.deed ≡ Some u → (mark : ℕ) × (HaveMet b records r.ticket u mark ⊎ HaveMet b records u r.ticket mark)
  met_by r there u n = let c = couple (opening b ++ records) on r there u n in met_from r.ticket r.deed u c.joined c.how c.own c.other

  turned_about : (t u mark : ℕ) → HaveMet b records t u mark ⊎ HaveMet b records u t mark → HaveMet b records u t mark ⊎ HaveMet b records t u mark
  turned_about t u mark two = ⊎_elim (λ x. inr x) (λ x. inl x) two

  all_mutual : AreMutual b records
  all_mutual t u w = ⊎_elim by_name by_meeting (with_said (said (opening b ++ records) t) u (course_of (opening b ++ records) on t) (subst (IsWith u) (fate_is (opening b ++ records) t) (unpast (is_past b t) (fate (opening b ++ records) t) u w)))
    where
      by_name : (d : Deed) × ((said (opening b ++ records) t).asked ≡ Some d) × (named_by d ≡ Some u) → (mark : ℕ) × (HaveMet b records t u mark ⊎ HaveMet b records u t mark)
      by_name f =
          let r = request_found (opening b ++ records) t f.0 f.1 in
          subst (λ x. (mark : ℕ) × (HaveMet b records x u mark ⊎ HaveMet b records u x mark)) r.3 (met_by r.0 r.1 u (ap named_by r.4 ∙ f.2))

      by_meeting : (said (opening b ++ records) t).met ≡ Some u → (mark : ℕ) × (HaveMet b records t u mark ⊎ HaveMet b records u t mark)
      by_meeting e =
          let r = meeting_found (opening b ++ records) t u e in
          let two = met_by r.0 r.1 t r.2 in
          (two.0, subst (λ x. HaveMet b records t x two.0 ⊎ HaveMet b records x t two.0) r.3 (turned_about r.0.ticket t two.0 two.1))

-- after a well-formed base and legal records
pub are_mutual : (k : Kind) (b : Based) (records : List (Record Deed)) → IsWellFormed k b → IsLegalOn k b records → AreMutual b records
are_mutual k b records w legal = all_mutual b records (legal_speaks k b w records legal)
