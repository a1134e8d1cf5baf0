-- A line reads as a call exactly where it is that call's one spelling.
use Rattle.std.proofs.Common.{◌≡◌, ℕ, ◌^◌, ◌<◌, ◌≤◌, Bool, true, false, cond, ltb, List, [], ◌∷◌, ◌++◌, length, Option, Some, None, refl, sym, ap, subst, ◌∙◌, arith, rules, length-append, lit<, lit≤}
use Rattle.std.specs.Prelude.{decimal, codes}
use Rattle.std.proofs.lemmas.Bool.{le-ltb}
use Rattle.std.proofs.lemmas.Option.{cond_some}
use Rattle.meet_tickets.specs.declared.places.Order.{Order}
use Rattle.meet_tickets.specs.Limits.{most_seats}
use Rattle.meet_history.specs.declared.one_thread.verbs.Call.{Call}
use Rattle.meet_history.specs.declared.one_thread.verbs.Verb.{Verb}
use Rattle.meet_history.specs.declared.one_thread.verbs.Verb.TheVariants.{Put, Offer, Take, Poll, Transfer as TransferItem, Try, Follow, Cancel, Expire, Interrupt, Drain, Look, Checkpoint}
use Rattle.meet_history.specs.declared.one_thread.verbs.Probe.TheVariants.{Size, Room, Peek, Consumers}
use Rattle.meet_history.specs.Served.{serves}
use Rattle.meet_run.specs.Texts.Words.{word_of, rest_of, number_spelled}
use Rattle.meet_run.specs.Texts.Grammar.{◌>>=◌, seat_in, seat_of}
use Rattle.meet_run.specs.Scripts.Grammar.{bare_verb_of, interrupt_of, numbered_verb_of, verb_of, verb_behind, call_in, served_call, call_of}
use Rattle.meet_run.specs.Scripts.Spelling.{verb_text, spelling, FitsVerb, FitsCall, CallsHaveOneSpelling}
use Rattle.meet_run.proofs.Texts.GrammarLemmas.{bind-some, chosen, chosen-second, seat-is, seat-again, number-short}
use Rattle.meet_run.proofs.Texts.WordLemmas.{number_spelled-is, number_spelled-decimal, word-rest, rest-space, tail-space, no_space-decimal}

abbrev IsBare : (word : List ℕ) → Verb → Type 0
IsBare word verb = (word ≡ verb_text verb) × FitsVerb verb

bare : (word text : List ℕ) (a verb : Verb) → (text ≡ verb_text a) → FitsVerb a → word ≡ text → Some a ≡ Some verb → IsBare word verb
bare word text a verb spelled fits is e =
    let same : a ≡ verb = cc in
    subst (λ (v : Verb). IsBare word v) same (is ∙ spelled, fits)

-- a word that reads as a verb is its spelling
bare-is : (word : List ℕ) (verb : Verb) → bare_verb_of word ≡ Some verb → IsBare word verb
unfolding bare_verb_of
bare-is word verb e =
    let P : Type 0 = IsBare word verb in
    chosen word (codes "take") (Some Take) _ verb P e (bare word _ Take verb refl tt) (λ e1.
    chosen word (codes "poll") (Some Poll) _ verb P e1 (bare word _ Poll verb refl tt) (λ e2.
    chosen word (codes "follow") (Some Follow) _ verb P e2 (bare word _ Follow verb refl tt) (λ e3.
    chosen word (codes "cancel") (Some Cancel) _ verb P e3 (bare word _ Cancel verb refl tt) (λ e4.
    chosen word (codes "expire") (Some Expire) _ verb P e4 (bare word _ Expire verb refl tt) (λ e5.
    chosen word (codes "size") (Some (Look Size)) _ verb P e5 (bare word _ (Look Size) verb refl tt) (λ e6.
    chosen word (codes "room") (Some (Look Room)) _ verb P e6 (bare word _ (Look Room) verb refl tt) (λ e7.
    chosen word (codes "peek") (Some (Look Peek)) _ verb P e7 (bare word _ (Look Peek) verb refl tt) (λ e8.
    chosen word (codes "consumers") (Some (Look Consumers)) _ verb P e8 (bare word _ (Look Consumers) verb refl tt) (λ e9.
    chosen word (codes "checkpoint") (Some Checkpoint) _ verb P e9 (bare word _ Checkpoint verb refl tt) (λ e10. absurd cc))))))))))

abbrev IsNumbered : (word : List ℕ) → ℕ → Verb → Type 0
IsNumbered word n verb = (word ++ 32 ∷ decimal n ≡ verb_text verb) × FitsVerb verb

numbered : (word text : List ℕ) (n : ℕ) (a verb : Verb) → (text ++ 32 ∷ decimal n ≡ verb_text a) → FitsVerb a → word ≡ text → Some a ≡ Some verb → IsNumbered word n verb
numbered word text n a verb spelled fits is e =
    let same : a ≡ verb = cc in
    subst (λ (v : Verb). IsNumbered word n v) same (ap (λ (w : List ℕ). w ++ 32 ∷ decimal n) is ∙ spelled, fits)

interrupted : (word : List ℕ) (n : ℕ) (verb : Verb) → word ≡ codes "interrupt" → interrupt_of n ≡ Some verb → IsNumbered word n verb
unfolding interrupt_of
interrupted word n verb is e =
    let b = bind-some (seat_in n) (λ target. Some (Interrupt target)) verb e in
    let s = seat-is n b.0 b.1 in
    let same : Interrupt n ≡ verb = ap (λ (k : ℕ). Interrupt k) s.0 ∙ (let inner : Some (Interrupt b.0) ≡ Some verb = b.2 in cc) in
    subst (λ (v : Verb). IsNumbered word n v) same (ap (λ (w : List ℕ). w ++ 32 ∷ decimal n) is, s.1)

numbered-is : (word : List ℕ) (n : ℕ) (verb : Verb) → n < 2 ^ 64 → numbered_verb_of word n ≡ Some verb → IsNumbered word n verb
unfolding numbered_verb_of
numbered-is word n verb lt e =
    let P : Type 0 = IsNumbered word n verb in
    chosen word (codes "put") (Some (Put n)) _ verb P e (numbered word _ n (Put n) verb refl lt) (λ e1.
    chosen word (codes "offer") (Some (Offer n)) _ verb P e1 (numbered word _ n (Offer n) verb refl lt) (λ e2.
    chosen word (codes "transfer") (Some (TransferItem n)) _ verb P e2 (numbered word _ n (TransferItem n) verb refl lt) (λ e3.
    chosen word (codes "try") (Some (Try n)) _ verb P e3 (numbered word _ n (Try n) verb refl lt) (λ e4.
    chosen word (codes "drain") (Some (Drain n)) _ verb P e4 (numbered word _ n (Drain n) verb refl lt) (λ e5.
    chosen word (codes "interrupt") (interrupt_of n) _ verb P e5 (interrupted word n verb) (λ e6. absurd cc))))))

-- a verb that is read behind a word's space is spelled there
verb-is : (text rest : List ℕ) (verb : Verb) → rest_of text ≡ rest → verb_of (word_of text) rest ≡ Some verb → (text ≡ verb_text verb) × FitsVerb verb
unfolding verb_of
verb-is text [] verb r e =
    let b = bare-is (word_of text) verb e in
    let whole : word_of text ++ [] ≡ text = ap (λ (t : List ℕ). word_of text ++ t) (sym r) ∙ word-rest text in
    (sym whole ∙ (search rules ∙ b.0), b.1)
verb-is text (space ∷ number) verb r e =
    let n = bind-some (number_spelled number) (numbered_verb_of (word_of text)) verb e in
    let is = number_spelled-is number n.0 n.1 in
    let v = numbered-is (word_of text) n.0 verb is.1 n.2 in
    let rest : space ∷ number ≡ 32 ∷ decimal n.0 = (let head : space ≡ 32 = rest-space text space number r in let tail = is.0 in cc) in
    let whole : word_of text ++ 32 ∷ decimal n.0 ≡ text = ap (λ (t : List ℕ). word_of text ++ t) (sym (r ∙ rest)) ∙ word-rest text in
    (sym whole ∙ v.0, v.1)

behind-is : (line rest : List ℕ) (verb : Verb) → rest_of line ≡ rest → verb_behind rest ≡ Some verb → (rest ≡ 32 ∷ verb_text verb) × FitsVerb verb
unfolding verb_behind
behind-is line [] verb r e = absurd cc
behind-is line (space ∷ text) verb r e =
    let v = verb-is text (rest_of text) verb refl e in
    let head : space ≡ 32 = rest-space line space text r in
    let tail : text ≡ verb_text verb = v.0 in
    (cc, v.1)

-- the call of a line is spelled there
call_in-is : (line : List ℕ) (call : Call) → call_in line ≡ Some call → (line ≡ spelling call) × (call.seat < most_seats) × FitsVerb call.verb
unfolding call_in seat_of
call_in-is line call e =
    let s = bind-some (seat_of (word_of line)) (λ seat. verb_behind (rest_of line) >>= λ verb. Some (record { seat = seat; verb = verb })) call e in
    let v = bind-some (verb_behind (rest_of line)) (λ verb. Some (record { seat = s.0; verb = verb })) call s.2 in
    let n = bind-some (number_spelled (word_of line)) seat_in s.0 s.1 in
    let number = number_spelled-is (word_of line) n.0 n.1 in
    let seat = seat-is n.0 s.0 n.2 in
    let behind = behind-is line (rest_of line) v.0 refl v.1 in
    let word : word_of line ≡ decimal s.0 = number.0 ∙ ap (λ (k : ℕ). decimal k) seat.0 in
    let spelled : line ≡ decimal s.0 ++ 32 ∷ verb_text v.0 = sym (word-rest line) ∙ (ap (λ (w : List ℕ). w ++ rest_of line) word ∙ ap (λ (t : List ℕ). decimal s.0 ++ t) behind.0) in
    let small : s.0 < most_seats = subst (λ (k : ℕ). k < most_seats) seat.0 seat.1 in
    let made : Call = record { seat = s.0; verb = v.0 } in
    let same : made ≡ call = (let inner : Some made ≡ Some call = v.2 in cc) in
    subst (λ (c : Call). (line ≡ spelling c) × (c.seat < most_seats) × FitsVerb c.verb) same (spelled, small, behind.1)

-- ---- what is spelled is read

numbered-again : (word : List ℕ) (n : ℕ) (verb : Verb) → n < 2 ^ 64 → numbered_verb_of word n ≡ Some verb → (number_spelled (decimal n) >>= numbered_verb_of word) ≡ Some verb
numbered-again word n verb lt e = ap (λ (o : Option ℕ). o >>= numbered_verb_of word) (number_spelled-decimal n lt) ∙ e

verb-again : (verb : Verb) → FitsVerb verb → verb_behind (32 ∷ verb_text verb) ≡ Some verb
unfolding verb_behind verb_of word_of rest_of bare_verb_of numbered_verb_of interrupt_of
verb-again (Put n) h = rw (number_spelled-decimal n h) refl
verb-again (Offer n) h = rw (number_spelled-decimal n h) refl
verb-again Take h = refl
verb-again Poll h = refl
verb-again (TransferItem n) h = rw (number_spelled-decimal n h) refl
verb-again (Try n) h = rw (number_spelled-decimal n h) refl
verb-again Follow h = refl
verb-again Cancel h = refl
verb-again Expire h = refl
verb-again (Interrupt n) h = rw (number_spelled-decimal n (omega arith), seat-again n h) refl
verb-again (Drain n) h = rw (number_spelled-decimal n h) refl
verb-again (Look Size) h = refl
verb-again (Look Room) h = refl
verb-again (Look Peek) h = refl
verb-again (Look Consumers) h = refl
verb-again Checkpoint h = refl

call_in-again : (call : Call) → call.seat < most_seats → FitsVerb call.verb → call_in (spelling call) ≡ Some call
unfolding call_in seat_of
call_in-again call small fits =
    let wide : call.seat < 2 ^ 64 = omega arith in
    let cut = tail-space (verb_text call.verb) (decimal call.seat) (no_space-decimal call.seat wide) in
    rw (cut.0, cut.1, number_spelled-decimal call.seat wide, seat-again call.seat small, verb-again call.verb fits) refl

verb-short : (verb : Verb) → FitsVerb verb → length (verb_text verb) ≤ 40
verb-short (Put n) h = omega (arith, number-short n h)
verb-short (Offer n) h = omega (arith, number-short n h)
verb-short Take h = lit≤ tt
verb-short Poll h = lit≤ tt
verb-short (TransferItem n) h = omega (arith, number-short n h)
verb-short (Try n) h = omega (arith, number-short n h)
verb-short Follow h = lit≤ tt
verb-short Cancel h = lit≤ tt
verb-short Expire h = lit≤ tt
verb-short (Interrupt n) h = omega (arith, number-short n (omega arith))
verb-short (Drain n) h = omega (arith, number-short n h)
verb-short (Look Size) h = lit≤ tt
verb-short (Look Room) h = lit≤ tt
verb-short (Look Peek) h = lit≤ tt
verb-short (Look Consumers) h = lit≤ tt
verb-short Checkpoint h = lit≤ tt

spelling-short : (call : Call) → call.seat < most_seats → FitsVerb call.verb → length (spelling call) ≤ 128
spelling-short call small fits =
    omega (arith, length-append (decimal call.seat) (32 ∷ verb_text call.verb), number-short call.seat (omega arith), verb-short call.verb fits)

-- ---- the law

reads : (order : Order) (line : List ℕ) (call : Call) → call_of order line ≡ Some call → (line ≡ spelling call) × FitsCall order call
unfolding call_of served_call
reads order line call e =
    let whole = chosen-second (ltb 128 (length line)) (call_in line >>= served_call order) call e in
    let b = bind-some (call_in line) (served_call order) call whole.1 in
    let served = cond_some (serves order b.0.verb) b.0 call b.2 in
    let is = call_in-is line b.0 b.1 in
    subst (λ (c : Call). (line ≡ spelling c) × FitsCall order c) served.1 (is.0, record { seat = is.1; verb = is.2; served = served.0 })

again : (order : Order) (call : Call) → FitsCall order call → call_of order (spelling call) ≡ Some call
unfolding call_of served_call
again order call fits =
    rw (le-ltb 128 (length (spelling call)) (spelling-short call fits.seat fits.verb), call_in-again call fits.seat fits.verb, fits.served) refl

pub calls-have-one-spelling : CallsHaveOneSpelling
calls-have-one-spelling order line call =
    (reads order line call, λ p. ap (λ (l : List ℕ). call_of order l) p.0 ∙ again order call p.1)

-- what is read is in its limits
pub call-fits : (order : Order) (line : List ℕ) (call : Call) → call_of order line ≡ Some call → FitsCall order call
call-fits order line call e = (reads order line call e).1
