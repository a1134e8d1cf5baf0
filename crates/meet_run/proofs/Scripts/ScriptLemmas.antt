-- A script, line by line.
use Rattle.std.proofs.Common.{◌≡◌, ℕ, ◌+◌, ◌<◌, ◌≤◌, List, [], ◌∷◌, ◌++◌, length, Option, Some, None, refl, sym, ap, ◌∙◌, append_assoc, append-nil, arith, length-append}
use Rattle.std.specs.Option.{option_map_or}
use Rattle.std.proofs.lemmas.Bool.{lt-ltb}
use Rattle.meet_tickets.specs.declared.places.Order.{Order}
use Rattle.meet_history.specs.declared.one_thread.verbs.Call.{Call}
use Rattle.meet_history.specs.declared.one_thread.setup.Setup.{Setup}
use Rattle.meet_history.specs.declared.one_thread.replies.Reply.{Reply}
use Rattle.meet_history.specs.OneThread.{Place, start, turn, turns, records, standing_of}
use Rattle.meet_run.specs.Scripts.Grammar.{call_of, setup_of}
use Rattle.meet_run.specs.Scripts.Wording.{text_of, last_line}
use Rattle.meet_run.specs.Texts.Reading.{Listed, no_more, faulty_at, with_item, listed}
use Rattle.meet_run.specs.Scripts.Script.{calls_from, replies_text, text_from, closing_from, ending_from, output_from, calls_behind, fault_in, text_in, output_in, text, closing, AreCalls, ScriptsAreAnswered, FaultsEndScripts}
use Rattle.meet_history.specs.Standings.{standing_in}
use Rattle.meet_history.proofs.RecordCounts.{turn-counted}
use Rattle.meet_history.proofs.Recorded.{is_recorded}
use Rattle.meet_history.specs.Limits.{IsInLimits}
use Rattle.meet_run.proofs.Scripts.SetupLemmas.{setup-fits}

-- ---- lines that are too long

pub call-too_long : (order : Order) (line : List ℕ) → 128 < length line → call_of order line ≡ None
unfolding call_of
call-too_long order line long = rw (lt-ltb 128 (length line) long) refl

pub setup-too_long : (line : List ℕ) → 128 < length line → setup_of line ≡ None
unfolding setup_of
setup-too_long line long = rw (lt-ltb 128 (length line) long) refl

-- ---- what the lines from here on read as

pub listed-end : {A : Type 0} (reading : ℕ → List ℕ → Option A) (n : ℕ) → listed reading n [] ≡ no_more
unfolding listed
listed-end reading n = refl

pub listed-more : {A : Type 0} (reading : ℕ → List ℕ → Option A) (n : ℕ) (line : List ℕ) (lines : List (List ℕ)) (item : A) → reading n line ≡ Some item → listed reading n (line ∷ lines) ≡ with_item item (listed reading (n + 1) lines)
unfolding listed
listed-more reading n line lines item e = rw e refl

pub listed-fault : {A : Type 0} (reading : ℕ → List ℕ → Option A) (n : ℕ) (line : List ℕ) (lines : List (List ℕ)) → reading n line ≡ None → listed reading n (line ∷ lines) ≡ faulty_at n
unfolding listed
listed-fault reading n line lines e = rw e refl

-- how the lines of a script read
abbrev pub reads : Order → ℕ → List ℕ → Option Call
reads order n line = call_of order line

-- ---- what is written from here on

replies_text-append : (xs ys : List Reply) → replies_text (xs ++ ys) ≡ replies_text xs ++ replies_text ys
unfolding replies_text
replies_text-append [] ys = refl
replies_text-append (x ∷ xs) ys = ap (λ (t : List ℕ). text_of x ++ t) (replies_text-append xs ys) ∙ sym (append_assoc (text_of x) (replies_text xs) (replies_text ys))

pub text-end : (setup : Setup) (p : Place) → text_from setup p [] ≡ []
unfolding text_from replies_text
text-end setup p = refl

pub text-more : (setup : Setup) (p : Place) (call : Call) (calls : List Call) → text_from setup p (call ∷ calls) ≡ replies_text (turn setup p call).replies ++ text_from setup (turn setup p call).place calls
unfolding text_from
text-more setup p call calls = replies_text-append (turn setup p call).replies (turns setup (turn setup p call).place calls).replies

pub ending-more : (setup : Setup) (p : Place) (call : Call) (rest : Listed Call) → ending_from setup p (with_item call rest) ≡ ending_from setup (turn setup p call).place rest
unfolding ending_from closing_from
ending-more setup p call rest =
    let t = turn setup p call in
    let more = turns setup t.place rest.items in
    let count : p.gone + p.records + length (t.records ++ more.records) ≡ t.place.gone + t.place.records + length more.records = omega (arith, length-append t.records more.records, turn-counted setup p call) in
    ap (λ (n : ℕ). option_map_or (λ k. []) rest.fault (last_line n (standing_of setup more.place))) count

pub output-more : (setup : Setup) (p : Place) (call : Call) (rest : Listed Call) → output_from setup p (with_item call rest) ≡ replies_text (turn setup p call).replies ++ output_from setup (turn setup p call).place rest
unfolding output_from
output-more setup p call rest =
    let t = turn setup p call in
    let text = text-more setup p call rest.items in
    let end = ending-more setup p call rest in
    ap (λ (s : List ℕ). s ++ ending_from setup p (with_item call rest)) text ∙ (append_assoc (replies_text t.replies) (text_from setup t.place rest.items) (ending_from setup p (with_item call rest)) ∙ ap (λ (s : List ℕ). replies_text t.replies ++ (text_from setup t.place rest.items ++ s)) end)

-- at the end of the lines only the last line is left
pub output-end : (setup : Setup) (p : Place) → output_from setup p no_more ≡ last_line (p.gone + p.records) (standing_of setup p)
unfolding output_from text_from replies_text ending_from closing_from
output-end setup p =
    let none : p.gone + p.records + 0 ≡ p.gone + p.records = omega arith in
    ap (λ (n : ℕ). last_line n (standing_of setup p)) none

-- at a fault nothing is
pub output-fault : (setup : Setup) (p : Place) (n : ℕ) → output_from setup p (faulty_at n) ≡ []
unfolding output_from text_from replies_text ending_from
output-fault setup p n = refl

-- ---- the first line

-- what a script gives behind its first line
pub record Behind (setup : Setup) (line : List ℕ) (lines : List (List ℕ)) : Type 0 where
  pub fault : fault_in (line ∷ lines) ≡ (calls_behind setup lines).fault
  pub text : text_in (line ∷ lines) ≡ text_from setup (start setup) (calls_behind setup lines).items
  pub output : output_in (line ∷ lines) ≡ output_from setup (start setup) (calls_behind setup lines)

pub first-line : (setup : Setup) (line : List ℕ) (lines : List (List ℕ)) → setup_of line ≡ Some setup → Behind setup line lines
unfolding fault_in text_in output_in
first-line setup line lines e = record { fault = rw e refl; text = rw e refl; output = rw e refl }

-- what a script gives whose first line is at fault, or isn't there
pub record IsFaulty (lines : List (List ℕ)) : Type 0 where
  pub fault : fault_in lines ≡ Some 1
  pub text : text_in lines ≡ []
  pub output : output_in lines ≡ []

pub first-fault : (line : List ℕ) (lines : List (List ℕ)) → setup_of line ≡ None → IsFaulty (line ∷ lines)
unfolding fault_in text_in output_in
first-fault line lines e = record { fault = rw e refl; text = rw e refl; output = rw e refl }

pub no-line : IsFaulty []
unfolding fault_in text_in output_in
no-line = record { fault = refl; text = refl; output = refl }

-- ---- the law

are-calls : (order : Order) (n : ℕ) (lines : List (List ℕ)) (calls : List Call) → AreCalls order lines calls → calls_from order n lines ≡ record { items = calls; fault = None }
are-calls order n [] [] h = listed-end (reads order) n
are-calls order n [] (call ∷ calls) h = absurd h
are-calls order n (line ∷ lines) [] h = absurd h
are-calls order n (line ∷ lines) (call ∷ calls) h =
    listed-more (reads order) n line lines call h.0 ∙ ap (λ (rest : Listed Call). with_item call rest) (are-calls order (n + 1) lines calls h.1)

pub scripts-are-answered : ScriptsAreAnswered
unfolding output_from text_from replies_text ending_from closing_from
scripts-are-answered line lines setup calls first h =
    let behind = first-line setup line lines first in
    let all : Listed Call = record { items = calls; fault = None } in
    let are : calls_behind setup lines ≡ all = are-calls setup.kind.order 2 lines calls h in
    let count : 0 + length (records setup calls) ≡ length (records setup calls) = omega arith in
    let limits : IsInLimits setup = setup-fits line setup first in
    let from : 1 ≤ setup.first = limits.first.0 in
    let stands : standing_of setup (turns setup (start setup) calls).place ≡ standing_in (records setup calls) = (is_recorded setup calls (omega arith)).standing in
    let whole : output_from setup (start setup) all ≡ text setup calls ++ closing setup calls =
    (λ i. text setup calls ++ last_line (count i) (stands i)) in
    (behind.fault ∙ ap (λ (c : Listed Call). c.fault) are, behind.output ∙ (ap (λ (c : Listed Call). output_from setup (start setup) c) are ∙ whole))

are-faulty : (order : Order) (n : ℕ) (lines : List (List ℕ)) (calls : List Call) (bad : List ℕ) (more : List (List ℕ)) → AreCalls order lines calls → call_of order bad ≡ None → calls_from order n (lines ++ bad ∷ more) ≡ record { items = calls; fault = Some (length lines + n) }
are-faulty order n [] [] bad more h e =
    let at : n ≡ 0 + n = omega arith in
    listed-fault (reads order) n bad more e ∙ ap (λ (k : ℕ). faulty_at k) at
are-faulty order n [] (call ∷ calls) bad more h e = absurd h
are-faulty order n (line ∷ lines) [] bad more h e = absurd h
are-faulty order n (line ∷ lines) (call ∷ calls) bad more h e =
    let at : length lines + (n + 1) ≡ length (line ∷ lines) + n = omega arith in
    let rest = are-faulty order (n + 1) lines calls bad more h.1 e in
    let next : ℕ → Listed Call = λ k. record { items = call ∷ calls; fault = Some k } in
    listed-more (reads order) n line (lines ++ bad ∷ more) call h.0 ∙ (ap (λ (c : Listed Call). with_item call c) rest ∙ ap next at)

pub faults-end-scripts : FaultsEndScripts
unfolding output_from text_from replies_text ending_from
faults-end-scripts line lines bad more setup calls first h e =
    let behind = first-line setup line (lines ++ bad ∷ more) first in
    let all : Listed Call = record { items = calls; fault = Some (length lines + 2) } in
    let are : calls_behind setup (lines ++ bad ∷ more) ≡ all = are-faulty setup.kind.order 2 lines calls bad more h e in
    (behind.fault ∙ ap (λ (c : Listed Call). c.fault) are, behind.output ∙ (ap (λ (c : Listed Call). output_from setup (start setup) c) are ∙ append-nil (text setup calls)))
