-- A first line reads as a place exactly where it spells it.
use Rattle.std.proofs.Common.{◌≡◌, ℕ, ◌+◌, ◌^◌, ◌<◌, ◌≤◌, true, ◌&&◌, ltb, leb, List, [], ◌∷◌, ◌++◌, length, Option, Some, None, unwrap_or, refl, sym, ap, subst, ◌∙◌, append_assoc, arith, rules, length-append, lit<, lit≤}
use Rattle.std.specs.Prelude.{decimal, codes, ⊤, IfSome}
use Rattle.std.specs.Option.{option_map_or}
use Rattle.std.proofs.lemmas.Bool.{leb-true, le-leb, le-ltb, and_parts}
use Rattle.std.proofs.lemmas.Fmt.{length-decimal-le}
use Rattle.std.proofs.lemmas.Option.{cond_some}
use Rattle.meet_tickets.specs.declared.places.Order.{Order}
use Rattle.meet_tickets.specs.declared.places.Order.TheVariants.{Fair, Unfair, Transfer}
use Rattle.meet_tickets.specs.Limits.{most_seats, most_records, most_kept, last_ticket}
use Rattle.meet_run.specs.declared.script.first_line.Options.{Options}
use Rattle.meet_history.specs.declared.one_thread.setup.Setup.{Setup}
use Rattle.meet_run.specs.Texts.Words.{word_of, rest_of, behind, number_spelled}
use Rattle.meet_run.specs.Texts.Grammar.{◌>>=◌, provided, order_of, option_value, option_in, may_have}
use Rattle.meet_run.specs.Scripts.Grammar.{written_in, setup_with, setup_at_end, setup_in, setup_of}
use Rattle.meet_tickets.specs.Meeting.{FitsBound}
use Rattle.meet_history.specs.Limits.{IsInLimits}
use Rattle.meet_run.specs.Scripts.Spelling.{place_text, option_text, written_text, SpellsSetup, SetupsAreSpelled}
use Rattle.meet_run.proofs.Texts.WordLemmas.{HasNoSpace, number_spelled-is, number_spelled-decimal, behind-is, word-rest, IsTail, tail-none, tail-space, no_space-decimal}
use Rattle.meet_run.proofs.Texts.GrammarLemmas.{bind-some, chosen, chosen-second}

-- an option that is spelled out is in its limits
abbrev pub IsWithin : (most : ℕ) → Option ℕ → Type 0
IsWithin most None = ⊤
IsWithin most (Some n) = (1 ≤ n) × (n ≤ most)

-- ---- what is read is spelled

-- what an option took from the front of a line's rest
abbrev pub IsOption : (name : List ℕ) (most : ℕ) (rest : List ℕ) → Option ℕ × List ℕ → Type 0
IsOption name most rest found = (rest ≡ option_text name found.0 ++ found.1) × IsWithin most found.0

value-is : (name : List ℕ) (most : ℕ) (text : List ℕ) (found : Option ℕ × List ℕ) → option_value most (word_of text) (rest_of text) ≡ Some found → IsOption name most (name ++ text) found
unfolding option_value
value-is name most text found e =
    let b = bind-some (number_spelled (word_of text)) (λ n. provided (leb 1 n && leb n most) (Some n, rest_of text)) found e in
    let n : ℕ = b.0 in
    let spelled = number_spelled-is (word_of text) n b.1 in
    let test = cond_some (leb 1 n && leb n most) (Some n, rest_of text) found b.2 in
    let limits = and_parts (leb 1 n) (leb n most) test.0 in
    let cut : text ≡ decimal n ++ rest_of text = sym (word-rest text) ∙ ap (λ (w : List ℕ). w ++ rest_of text) spelled.0 in
    let whole : name ++ text ≡ (name ++ decimal n) ++ rest_of text = ap (λ (t : List ℕ). name ++ t) cut ∙ sym (append_assoc name (decimal n) (rest_of text)) in
    subst (λ (f : Option ℕ × List ℕ). IsOption name most (name ++ text) f) test.1 (whole, (leb-true 1 n limits.0, leb-true n most limits.1))

pub option-is : (name : List ℕ) (most : ℕ) (rest : List ℕ) (found : Option ℕ × List ℕ) → option_in name most rest ≡ Some found → IsOption name most rest found
unfolding option_in
option-is name most rest found e = go (behind name rest) refl e
  where
    go : (o : Option (List ℕ)) → behind name rest ≡ o → option_map_or (λ text. option_value most (word_of text) (rest_of text)) o (Some (None, rest)) ≡ Some found → IsOption name most rest found
    go None is e =
        let absent : Option ℕ × List ℕ = (None, rest) in
        let same : absent ≡ found = (let inner : Some absent ≡ Some found = e in cc) in
        subst (λ (f : Option ℕ × List ℕ). IsOption name most rest f) same (refl, tt)
    go (Some text) is e =
        let whole : name ++ text ≡ rest = sym (behind-is name rest text is) in
        subst (λ (r : List ℕ). IsOption name most r found) whole (value-is name most text found e)

-- each option that is spelled out is in its limits
record AreWithin (options : Options) : Type 0 where
  seats : IsWithin most_seats options.seats
  cap : IsWithin most_records options.cap
  first : IsWithin last_ticket options.first
  bound : IsWithin most_kept options.bound

written-is : (rest : List ℕ) (found : Options × List ℕ) → written_in rest ≡ Some found → (rest ≡ written_text found.0 ++ found.1) × AreWithin found.0
unfolding written_in
written-is rest found e =
    let seats = bind-some (option_in (codes " seats ") most_seats rest) _ found e in
    let cap = bind-some (option_in (codes " cap ") most_records seats.0.1) _ found seats.2 in
    let first = bind-some (option_in (codes " first ") last_ticket cap.0.1) _ found cap.2 in
    let bound = bind-some (option_in (codes " bound ") most_kept first.0.1) _ found first.2 in
    let a = option-is (codes " seats ") most_seats rest seats.0 seats.1 in
    let b = option-is (codes " cap ") most_records seats.0.1 cap.0 cap.1 in
    let c = option-is (codes " first ") last_ticket cap.0.1 first.0 first.1 in
    let d = option-is (codes " bound ") most_kept first.0.1 bound.0 bound.1 in
    let made : Options × List ℕ = (record { seats = seats.0.0; cap = cap.0.0; first = first.0.0; bound = bound.0.0 }, bound.0.1) in
    let same : made ≡ found = (let inner : Some made ≡ Some found = bound.2 in cc) in
    let ta : List ℕ = option_text (codes " seats ") seats.0.0 in
    let tb : List ℕ = option_text (codes " cap ") cap.0.0 in
    let tc : List ℕ = option_text (codes " first ") first.0.0 in
    let td : List ℕ = option_text (codes " bound ") bound.0.0 in
    let last : List ℕ = bound.0.1 in
    let s3 : first.0.1 ≡ td ++ last = d.0 in
    let s2 : cap.0.1 ≡ (tc ++ td) ++ last = c.0 ∙ (ap (λ (t : List ℕ). tc ++ t) s3 ∙ sym (append_assoc tc td last)) in
    let s1 : seats.0.1 ≡ (tb ++ (tc ++ td)) ++ last = b.0 ∙ (ap (λ (t : List ℕ). tb ++ t) s2 ∙ sym (append_assoc tb (tc ++ td) last)) in
    let s0 : rest ≡ (ta ++ (tb ++ (tc ++ td))) ++ last = a.0 ∙ (ap (λ (t : List ℕ). ta ++ t) s1 ∙ sym (append_assoc ta (tb ++ (tc ++ td)) last)) in
    subst (λ (f : Options × List ℕ). (rest ≡ written_text f.0 ++ f.1) × AreWithin f.0) same (s0, record { seats = a.1; cap = b.1; first = c.1; bound = d.1 })

pub order-is : (word : List ℕ) (order : Order) → order_of word ≡ Some order → word ≡ place_text order
unfolding order_of
order-is word order e =
    let P : Type 0 = word ≡ place_text order in
    chosen word (codes "fair") (Some Fair) _ order P e (λ is f. let same : Fair ≡ order = cc in is ∙ ap (λ (o : Order). place_text o) same) (λ e1.
    chosen word (codes "unfair") (Some Unfair) _ order P e1 (λ is f. let same : Unfair ≡ order = cc in is ∙ ap (λ (o : Order). place_text o) same) (λ e2.
    chosen word (codes "transfer") (Some Transfer) _ order P e2 (λ is f. let same : Transfer ≡ order = cc in is ∙ ap (λ (o : Order). place_text o) same) (λ e3. absurd cc)))

end-is : (order : Order) (options : Options) (rest : List ℕ) (setup : Setup) → setup_at_end order options rest ≡ Some setup → (rest ≡ []) × (may_have order options.bound ≡ true) × (setup_with order options ≡ setup)
unfolding setup_at_end
end-is order options [] setup e = let p = cond_some (may_have order options.bound) (setup_with order options) setup e in (refl, p.0, p.1)
end-is order options (b ∷ rest) setup e = absurd cc

limits-of : (most default : ℕ) (o : Option ℕ) → IsWithin most o → 1 ≤ default → default ≤ most → (1 ≤ unwrap_or o default) × (unwrap_or o default ≤ most)
limits-of most default None h low high = (low, high)
limits-of most default (Some n) h low high = h

pub bound-of : (order : Order) (bound : Option ℕ) → may_have order bound ≡ true → IsWithin most_kept bound → FitsBound order bound
bound-of order None may h = tt
bound-of order (Some n) may h = (may, h.0, h.1)

in_limits : (order : Order) (options : Options) → AreWithin options → may_have order options.bound ≡ true → IsInLimits (setup_with order options)
in_limits order options h may =
    let first = limits-of last_ticket 1 options.first h.first (lit≤ tt) (lit≤ tt) in
    record {
      seats = limits-of most_seats 64 options.seats h.seats (lit≤ tt) (lit≤ tt);
      cap = limits-of most_records most_records options.cap h.cap (lit≤ tt) (lit≤ tt);
      first = (first.0, omega (arith, first.1));
      bound = bound-of order options.bound may h.bound;
    }

-- the place of a line is spelled there, and is in its limits
setup_in-is : (line : List ℕ) (setup : Setup) → setup_in line ≡ Some setup → SpellsSetup line setup × IsInLimits setup
unfolding setup_in
setup_in-is line setup e =
    let o = bind-some (order_of (word_of line)) (λ order. written_in (rest_of line) >>= λ written. setup_at_end order written.0 written.1) setup e in
    let w = bind-some (written_in (rest_of line)) (λ written. setup_at_end o.0 written.0 written.1) setup o.2 in
    let word = order-is (word_of line) o.0 o.1 in
    let text = written-is (rest_of line) w.0 w.1 in
    let end = end-is o.0 w.0.0 w.0.1 setup w.2 in
    let rest : rest_of line ≡ written_text w.0.0 = text.0 ∙ (ap (λ (t : List ℕ). written_text w.0.0 ++ t) end.0 ∙ search rules) in
    let spelled : line ≡ place_text o.0 ++ written_text w.0.0 = sym (word-rest line) ∙ (ap (λ (v : List ℕ). v ++ rest_of line) word ∙ ap (λ (t : List ℕ). place_text o.0 ++ t) rest) in
    subst (λ (s : Setup). SpellsSetup line s × IsInLimits s) end.2 ((w.0.0, spelled, refl), in_limits o.0 w.0.0 text.1 end.1)

-- ---- what is spelled is read

number-again : (most n : ℕ) (rest : List ℕ) → most < 2 ^ 64 → 1 ≤ n → n ≤ most → IsTail rest → option_value most (word_of (decimal n ++ rest)) (rest_of (decimal n ++ rest)) ≡ Some (Some n, rest)
unfolding option_value
number-again most n rest wide low high tail =
    let lt : n < 2 ^ 64 = omega arith in
    let cut = tail (decimal n) (no_space-decimal n lt) in
    rw (cut.0, cut.1, number_spelled-decimal n lt, le-leb 1 n low, le-leb n most high) refl

option-again : (name : List ℕ) (most n : ℕ) (rest text : List ℕ) → behind name text ≡ Some (decimal n ++ rest) → most < 2 ^ 64 → IsWithin most (Some n) → IsTail rest → option_in name most text ≡ Some (Some n, rest)
unfolding option_in
option-again name most n rest text prefix wide h tail = rw prefix (number-again most n rest wide h.0 h.1 tail)

option-absent : (name : List ℕ) (most : ℕ) (text : List ℕ) → behind name text ≡ None → option_in name most text ≡ Some (None, text)
unfolding option_in
option-absent name most text prefix = rw prefix refl

-- the texts of the last option, of the last two and of the last three
abbrev pub bound-text : Option ℕ → List ℕ
bound-text b = option_text (codes " bound ") b

abbrev first-text : (f b : Option ℕ) → List ℕ
first-text f b = option_text (codes " first ") f ++ bound-text b

abbrev cap-text : (c f b : Option ℕ) → List ℕ
cap-text c f b = option_text (codes " cap ") c ++ first-text f b

abbrev seats-text : (s c f b : Option ℕ) → List ℕ
seats-text s c f b = option_text (codes " seats ") s ++ cap-text c f b

pub bound-tail : (b : Option ℕ) → IsTail (bound-text b)
bound-tail None = tail-none
bound-tail (Some n) = tail-space _

first-tail : (f b : Option ℕ) → IsTail (first-text f b)
first-tail None b = bound-tail b
first-tail (Some n) b = tail-space _

cap-tail : (c f b : Option ℕ) → IsTail (cap-text c f b)
cap-tail None f b = first-tail f b
cap-tail (Some n) f b = tail-space _

seats-tail : (s c f b : Option ℕ) → IsTail (seats-text s c f b)
seats-tail None c f b = cap-tail c f b
seats-tail (Some n) c f b = tail-space _

pub bound-again : (b : Option ℕ) → IsWithin most_kept b → option_in (codes " bound ") most_kept (bound-text b) ≡ Some (b, [])
unfolding behind
bound-again None h = option-absent (codes " bound ") most_kept [] refl
bound-again (Some n) h =
    let end : decimal n ≡ decimal n ++ [] = search rules in
    option-again (codes " bound ") most_kept n [] (bound-text (Some n)) (ap (λ (t : List ℕ). Some t) end) (lit< tt) h tail-none

first-again : (f b : Option ℕ) → IsWithin last_ticket f → option_in (codes " first ") last_ticket (first-text f b) ≡ Some (f, bound-text b)
unfolding behind
first-again (Some n) b h = option-again (codes " first ") last_ticket n (bound-text b) (first-text (Some n) b) refl (lit< tt) h (bound-tail b)
first-again None (Some m) h = option-absent (codes " first ") last_ticket (bound-text (Some m)) refl
first-again None None h = option-absent (codes " first ") last_ticket [] refl

cap-again : (c f b : Option ℕ) → IsWithin most_records c → option_in (codes " cap ") most_records (cap-text c f b) ≡ Some (c, first-text f b)
unfolding behind
cap-again (Some n) f b h = option-again (codes " cap ") most_records n (first-text f b) (cap-text (Some n) f b) refl (lit< tt) h (first-tail f b)
cap-again None (Some m) b h = option-absent (codes " cap ") most_records (first-text (Some m) b) refl
cap-again None None (Some m) h = option-absent (codes " cap ") most_records (bound-text (Some m)) refl
cap-again None None None h = option-absent (codes " cap ") most_records [] refl

seats-again : (s c f b : Option ℕ) → IsWithin most_seats s → option_in (codes " seats ") most_seats (seats-text s c f b) ≡ Some (s, cap-text c f b)
unfolding behind
seats-again (Some n) c f b h = option-again (codes " seats ") most_seats n (cap-text c f b) (seats-text (Some n) c f b) refl (lit< tt) h (cap-tail c f b)
seats-again None (Some m) f b h = option-absent (codes " seats ") most_seats (cap-text (Some m) f b) refl
seats-again None None (Some m) b h = option-absent (codes " seats ") most_seats (first-text (Some m) b) refl
seats-again None None None (Some m) h = option-absent (codes " seats ") most_seats (bound-text (Some m)) refl
seats-again None None None None h = option-absent (codes " seats ") most_seats [] refl

written-again : (o : Options) → AreWithin o → written_in (written_text o) ≡ Some (o, [])
unfolding written_in
written-again o h =
    rw (seats-again o.seats o.cap o.first o.bound h.seats, cap-again o.cap o.first o.bound h.cap, first-again o.first o.bound h.first, bound-again o.bound h.bound) refl

pub place-no_space : (order : Order) → HasNoSpace (place_text order)
place-no_space Fair = (refl, (refl, (refl, (refl, tt))))
place-no_space Unfair = (refl, (refl, (refl, (refl, (refl, (refl, tt))))))
place-no_space Transfer = (refl, (refl, (refl, (refl, (refl, (refl, (refl, (refl, tt))))))))

pub order-again : (order : Order) → order_of (place_text order) ≡ Some order
unfolding order_of
order-again Fair = refl
order-again Unfair = refl
order-again Transfer = refl

setup_in-again : (order : Order) (o : Options) → AreWithin o → may_have order o.bound ≡ true → setup_in (place_text order ++ written_text o) ≡ Some (setup_with order o)
unfolding setup_in setup_at_end
setup_in-again order o h may =
    let cut = seats-tail o.seats o.cap o.first o.bound (place_text order) (place-no_space order) in
    rw (cut.0, cut.1, order-again order, written-again o h, may) refl

within-of : (most default : ℕ) (o : Option ℕ) → 1 ≤ unwrap_or o default → unwrap_or o default ≤ most → IsWithin most o
within-of most default None low high = tt
within-of most default (Some n) low high = (low, high)

pub may-of : (order : Order) (bound : Option ℕ) → FitsBound order bound → (may_have order bound ≡ true) × IsWithin most_kept bound
may-of order None h = (refl, tt)
may-of order (Some n) h = (h.0, (h.1, h.2))

within : (order : Order) (o : Options) → IsInLimits (setup_with order o) → AreWithin o
within order o h = record {
  seats = within-of most_seats 64 o.seats h.seats.0 h.seats.1;
  cap = within-of most_records most_records o.cap h.cap.0 h.cap.1;
  first = within-of last_ticket 1 o.first h.first.0 (omega (arith, h.first.1));
  bound = (may-of order o.bound h.bound).1;
}

pub option-short : (name : List ℕ) (most : ℕ) (o : Option ℕ) → most < 2 ^ 64 → IsWithin most o → length (option_text name o) ≤ length name + 20
option-short name most None wide h = omega arith
option-short name most (Some n) wide h =
    let lt : n < 2 ^ 64 = omega (arith, h.1) in
    let short : length (decimal n) ≤ 20 = length-decimal-le 20 n (lit< tt) (omega arith) lt in
    omega (arith, length-append name (decimal n))

pub place-short : (order : Order) → length (place_text order) ≤ 8
place-short Fair = lit≤ tt
place-short Unfair = lit≤ tt
place-short Transfer = lit≤ tt

sum-short : (p a b c d : List ℕ) → length p ≤ 8 → length a ≤ 27 → length b ≤ 25 → length c ≤ 27 → length d ≤ 27 → length (p ++ (a ++ (b ++ (c ++ d)))) ≤ 128
sum-short p a b c d hp ha hb hc hd =
    omega (arith, length-append p (a ++ (b ++ (c ++ d))), length-append a (b ++ (c ++ d)), length-append b (c ++ d), length-append c d)

line-short : (order : Order) (o : Options) → AreWithin o → length (place_text order ++ written_text o) ≤ 128
line-short order o h =
    let a : length (option_text (codes " seats ") o.seats) ≤ 27 = option-short (codes " seats ") most_seats o.seats (lit< tt) h.seats in
    let b : length (option_text (codes " cap ") o.cap) ≤ 25 = option-short (codes " cap ") most_records o.cap (lit< tt) h.cap in
    let c : length (option_text (codes " first ") o.first) ≤ 27 = option-short (codes " first ") last_ticket o.first (lit< tt) h.first in
    let d : length (option_text (codes " bound ") o.bound) ≤ 27 = option-short (codes " bound ") most_kept o.bound (lit< tt) h.bound in
    sum-short (place_text order) (option_text (codes " seats ") o.seats) (option_text (codes " cap ") o.cap) (option_text (codes " first ") o.first) (option_text (codes " bound ") o.bound) (place-short order) a b c d

-- ---- the law

reads : (line : List ℕ) (setup : Setup) → setup_of line ≡ Some setup → SpellsSetup line setup × IsInLimits setup
unfolding setup_of
reads line setup e =
    let whole = chosen-second (ltb 128 (length line)) (setup_in line) setup e in
    setup_in-is line setup whole.1

again : (line : List ℕ) (setup : Setup) → SpellsSetup line setup → IsInLimits setup → setup_of line ≡ Some setup
unfolding setup_of
again line setup spells fits =
    let order : Order = setup.kind.order in
    let o : Options = spells.0 in
    let limits : IsInLimits (setup_with order o) = subst (λ (s : Setup). IsInLimits s) spells.2 fits in
    let w = within order o limits in
    let short : length line ≤ 128 = subst (λ (l : List ℕ). length l ≤ 128) (sym spells.1) (line-short order o w) in
    let found : setup_in line ≡ Some setup = ap (λ (l : List ℕ). setup_in l) spells.1 ∙ (setup_in-again order o w (may-of order o.bound limits.bound).0 ∙ ap (λ (s : Setup). Some s) (sym spells.2)) in
    rw (le-ltb 128 (length line) short, found) refl

pub setups-are-spelled : SetupsAreSpelled
setups-are-spelled line setup = (reads line setup, λ p. again line setup p.0 p.1)

-- what is read is in its limits
pub setup-fits : (line : List ℕ) (setup : Setup) → setup_of line ≡ Some setup → IsInLimits setup
setup-fits line setup e = (reads line setup e).1

pub setup-limits : (line : List ℕ) (o : Option Setup) → o ≡ setup_in line → IfSome o IsInLimits
setup-limits line None is = tt
setup-limits line (Some setup) is = (setup_in-is line setup (sym is)).1
