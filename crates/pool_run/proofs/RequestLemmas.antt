-- A line reads as a call of a pool exactly where it is that call's one spelling.
use Rattle.std.proofs.Common.{◌≡◌, ℕ, ◌^◌, ◌<◌, ◌≤◌, ltb, List, [], ◌∷◌, ◌++◌, length, Option, Some, None, refl, sym, ap, subst, ◌∙◌, arith, length-append, lit≤}
use Rattle.std.specs.Prelude.{decimal, codes, IfSome}
use Rattle.std.proofs.lemmas.Bool.{lt-ltb, le-ltb}
use Rattle.pool_history.specs.declared.one_thread.verbs.PoolRequest.{PoolRequest}
use Rattle.pool_history.specs.declared.one_thread.verbs.PoolVerb.{PoolVerb}
use Rattle.pool_history.specs.declared.one_thread.verbs.PoolVerb.TheVariants.{Execute, Ready, Follow, Finish, Idle, Leave, Failed, ShutDown, Now, Counters, Checkpoint}
use Rattle.meet_run.specs.Texts.Words.{word_of, rest_of, number_spelled}
use Rattle.meet_run.specs.Texts.Grammar.{seat_of}
use Rattle.meet_run.proofs.Texts.WordLemmas.{number_spelled-is, number_spelled-decimal, word-rest, rest-space, tail-space, no_space-decimal}
use Rattle.meet_run.proofs.Texts.GrammarLemmas.{bind-some, chosen, chosen-second, number-short}
use Rattle.meet_run.proofs.Tracing.TraceLemmas.{both, word-whole, word-more, seat_word-is, seat_word-again}
use Rattle.pool_run.specs.Requests.{bare_verb_of, numbered_verb_of, verb_of, verb_behind, request_in, request_of}
use Rattle.pool_run.specs.Spelling.{verb_text, request_text, FitsVerb, FitsRequest, RequestsHaveOneSpelling}

-- ---- what is read is spelled

-- a text spells a verb in its limits
abbrev IsVerb : (text : List ℕ) → PoolVerb → Type 0
IsVerb text verb = (text ≡ verb_text verb) × FitsVerb verb

made : (text : List ℕ) (a verb : PoolVerb) → text ≡ verb_text a → FitsVerb a → Some a ≡ Some verb → IsVerb text verb
made text a verb spelled fits e =
    let same : a ≡ verb = cc in
    subst (λ (v : PoolVerb). IsVerb text v) same (spelled, fits)

bare-is : (word : List ℕ) (verb : PoolVerb) → bare_verb_of word ≡ Some verb → IsVerb word verb
unfolding bare_verb_of
bare-is word verb e =
    let P : Type 0 = IsVerb word verb in
    chosen word (codes "ready") (Some Ready) _ verb P e (λ is f. made word Ready verb is tt f) (λ e1.
    chosen word (codes "follow") (Some Follow) _ verb P e1 (λ is f. made word Follow verb is tt f) (λ e2.
    chosen word (codes "idle") (Some Idle) _ verb P e2 (λ is f. made word Idle verb is tt f) (λ e3.
    chosen word (codes "leave") (Some Leave) _ verb P e3 (λ is f. made word Leave verb is tt f) (λ e4.
    chosen word (codes "failed") (Some Failed) _ verb P e4 (λ is f. made word Failed verb is tt f) (λ e5.
    chosen word (codes "shutdown") (Some ShutDown) _ verb P e5 (λ is f. made word ShutDown verb is tt f) (λ e6.
    chosen word (codes "now") (Some Now) _ verb P e6 (λ is f. made word Now verb is tt f) (λ e7.
    chosen word (codes "counters") (Some Counters) _ verb P e7 (λ is f. made word Counters verb is tt f) (λ e8.
    chosen word (codes "checkpoint") (Some Checkpoint) _ verb P e8 (λ is f. made word Checkpoint verb is tt f) (λ e9. absurd cc)))))))))

numbered-is : (word : List ℕ) (n : ℕ) (verb : PoolVerb) → n < 2 ^ 64 → numbered_verb_of word n ≡ Some verb → IsVerb (word ++ 32 ∷ decimal n) verb
unfolding numbered_verb_of
numbered-is word n verb lt e =
    let text : List ℕ = word ++ 32 ∷ decimal n in
    let P : Type 0 = IsVerb text verb in
    chosen word (codes "execute") (Some (Execute n)) _ verb P e (λ is f. made text (Execute n) verb (both word (decimal n) (codes "execute") (decimal n) is refl) lt f) (λ e1.
    chosen word (codes "finish") (Some (Finish n)) _ verb P e1 (λ is f. made text (Finish n) verb (both word (decimal n) (codes "finish") (decimal n) is refl) lt f) (λ e2. absurd cc))

-- a verb that is read behind a word's space is spelled there
verb-is : (text rest : List ℕ) (verb : PoolVerb) → rest_of text ≡ rest → verb_of (word_of text) rest ≡ Some verb → IsVerb text verb
unfolding verb_of
verb-is text [] verb r e = subst (λ (t : List ℕ). IsVerb t verb) (word-whole text r) (bare-is (word_of text) verb e)
verb-is text (space ∷ more) verb r e =
    let n = bind-some (number_spelled more) (numbered_verb_of (word_of text)) verb e in
    let number = number_spelled-is more n.0 n.1 in
    let whole : word_of text ++ 32 ∷ decimal n.0 ≡ text =
    ap (λ (t : List ℕ). word_of text ++ 32 ∷ t) (sym number.0) ∙ word-more text space more r in
    subst (λ (t : List ℕ). IsVerb t verb) whole (numbered-is (word_of text) n.0 verb number.1 n.2)

behind-is : (line rest : List ℕ) (verb : PoolVerb) → rest_of line ≡ rest → verb_behind rest ≡ Some verb → (rest ≡ 32 ∷ verb_text verb) × FitsVerb verb
unfolding verb_behind
behind-is line [] verb r e = absurd cc
behind-is line (space ∷ text) verb r e =
    let v = verb-is text (rest_of text) verb refl e in
    let head : space ≡ 32 = rest-space line space text r in
    let tail : text ≡ verb_text verb = v.0 in
    (cc, v.1)

-- the call of a line is spelled there
request_in-is : (line : List ℕ) (request : PoolRequest) → request_in line ≡ Some request → (line ≡ request_text request) × FitsRequest request
unfolding request_in
request_in-is line request e =
    let s = bind-some (seat_of (word_of line)) _ request e in
    let v = bind-some (verb_behind (rest_of line)) _ request s.2 in
    let seat = seat_word-is (word_of line) s.0 s.1 in
    let verb = behind-is line (rest_of line) v.0 refl v.1 in
    let spelled : line ≡ decimal s.0 ++ 32 ∷ verb_text v.0 =
    sym (word-rest line) ∙ (ap (λ (w : List ℕ). w ++ rest_of line) seat.0 ∙ ap (λ (t : List ℕ). decimal s.0 ++ t) verb.0) in
    let found : PoolRequest = record { seat = s.0; verb = v.0 } in
    let same : found ≡ request = (let inner : Some found ≡ Some request = v.2 in cc) in
    subst (λ (x : PoolRequest). (line ≡ request_text x) × FitsRequest x) same (spelled, record { seat = seat.1; verb = verb.1 })

-- ---- what is spelled is read

verb-again : (verb : PoolVerb) → FitsVerb verb → verb_behind (32 ∷ verb_text verb) ≡ Some verb
unfolding verb_behind verb_of word_of rest_of bare_verb_of numbered_verb_of
verb-again (Execute n) h = rw (number_spelled-decimal n h) refl
verb-again Ready h = refl
verb-again Follow h = refl
verb-again (Finish n) h = rw (number_spelled-decimal n h) refl
verb-again Idle h = refl
verb-again Leave h = refl
verb-again Failed h = refl
verb-again ShutDown h = refl
verb-again Now h = refl
verb-again Counters h = refl
verb-again Checkpoint h = refl

request_in-again : (request : PoolRequest) → FitsRequest request → request_in (request_text request) ≡ Some request
unfolding request_in
request_in-again request fits =
    let wide : request.seat < 2 ^ 64 = omega (arith, fits.seat) in
    let cut = tail-space (verb_text request.verb) (decimal request.seat) (no_space-decimal request.seat wide) in
    rw (cut.0, cut.1, seat_word-again request.seat fits.seat, verb-again request.verb fits.verb) refl

-- ---- a spelling is short

verb-short : (verb : PoolVerb) → FitsVerb verb → length (verb_text verb) ≤ 40
verb-short (Execute n) h = omega (arith, number-short n h)
verb-short Ready h = lit≤ tt
verb-short Follow h = lit≤ tt
verb-short (Finish n) h = omega (arith, number-short n h)
verb-short Idle h = lit≤ tt
verb-short Leave h = lit≤ tt
verb-short Failed h = lit≤ tt
verb-short ShutDown h = lit≤ tt
verb-short Now h = lit≤ tt
verb-short Counters h = lit≤ tt
verb-short Checkpoint h = lit≤ tt

request-short : (request : PoolRequest) → FitsRequest request → length (request_text request) ≤ 128
request-short request fits =
    omega (arith, length-append (decimal request.seat) (32 ∷ verb_text request.verb), number-short request.seat (omega (arith, fits.seat)), verb-short request.verb fits.verb)

-- ---- the law

reads : (line : List ℕ) (request : PoolRequest) → request_of line ≡ Some request → (line ≡ request_text request) × FitsRequest request
unfolding request_of
reads line request e = request_in-is line request (chosen-second (ltb 128 (length line)) (request_in line) request e).1

again : (request : PoolRequest) → FitsRequest request → request_of (request_text request) ≡ Some request
unfolding request_of
again request fits = rw (le-ltb 128 (length (request_text request)) (request-short request fits)) (request_in-again request fits)

pub requests-have-one-spelling : RequestsHaveOneSpelling
requests-have-one-spelling line request =
    (reads line request, λ p. ap (λ (l : List ℕ). request_of l) p.0 ∙ again request p.1)

-- what is read is in its limits
pub request-limits : (line : List ℕ) (o : Option PoolRequest) → o ≡ request_in line → IfSome o FitsRequest
request-limits line None is = tt
request-limits line (Some request) is = (request_in-is line request (sym is)).1

pub request-too_long : (line : List ℕ) → 128 < length line → request_of line ≡ None
unfolding request_of
request-too_long line long = rw (lt-ltb 128 (length line) long) refl
