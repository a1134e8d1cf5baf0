-- An ending by what the seat holds.
use Rattle.std.proofs.Common.{◌≡◌, ◌≢◌, ℕ, zero, suc, ◌<◌, List, [], ◌∷◌, length, arith, sym, ap, subst, ◌∙◌, true, Option, Some}
use Rattle.meet_tickets.specs.declared.lines.Entry.{Entry}
use Rattle.meet_tickets.specs.declared.lines.Hold.{Hold}
use Rattle.meet_tickets.specs.declared.lines.Hold.TheVariants.{Free, Waiting, Handed, Served, Cut}
use Rattle.meet_tickets.specs.BySeat.{open_ticket, is_settled, entry_of, released, withdrawn}
use Rattle.meet_tickets.proofs.Line.Sides.{found-ticket}
use Rattle.meet_core.specs.Table.{hold_at}
use Rattle.meet_core.specs.Queue.{Queue, seats_of}
use Rattle.meet_core.specs.declared.answers.TakenBack.TheVariants.{Back}
use Rattle.meet_core.specs.Answers.{followed_by}
use Rattle.meet_core.specs.Steps.{FollowStep, WithdrawStep, Leaves}

-- a seat that has an open ticket is there
pub there-open : {T : Type 0} (holds : List (Hold T)) (seat ticket : ℕ) → open_ticket (hold_at holds seat) ≡ Some ticket → seat < length holds
there-open [] seat ticket opened = cc
there-open (h ∷ holds) zero ticket opened = omega arith
there-open (h ∷ holds) (suc seat) ticket opened =
    let below : seat < length holds = there-open holds seat ticket opened in
    omega arith

-- a seat that waits is there
pub there-waiting : {T : Type 0} (holds : List (Hold T)) (seat ticket : ℕ) → hold_at holds seat ≡ Waiting ticket → seat < length holds
there-waiting [] seat ticket e = cc
there-waiting (h ∷ holds) zero ticket e = omega arith
there-waiting (h ∷ holds) (suc seat) ticket e =
    let below : seat < length holds = there-waiting holds seat ticket e in
    omega arith

-- a settled ticket doesn't wait
pub not_waiting : {T : Type 0} (hold : Hold T) (ticket : ℕ) → is_settled hold ≡ true → hold ≢ Waiting ticket
not_waiting Free ticket settled same = cc
not_waiting (Waiting t) ticket settled same = cc
not_waiting (Handed t u mark) ticket settled same = cc
not_waiting (Served t u item) ticket settled same = cc
not_waiting (Cut t item) ticket settled same = cc

-- whose entry stands in the line waits with that ticket
entry_of-waits : {T : Type 0} (line : List (Entry T)) (hold : Hold T) (t : ℕ) (e : Entry T) → open_ticket hold ≡ Some t → Some e ≡ entry_of line hold → (hold ≡ Waiting t) × (entry_of line (Waiting t) ≡ Some e)
entry_of-waits line Free t e o found = cc
entry_of-waits line (Waiting v) t e o found = let same : v ≡ t = cc in (ap (λ w. Waiting w) same, ap (λ w. entry_of line (Waiting w)) (sym same) ∙ sym found)
entry_of-waits line (Handed v u mark) t e o found = cc
entry_of-waits line (Served v u item) t e o found = cc
entry_of-waits line (Cut v item) t e o found = cc

-- the step of a waiting ticket that is taken back
pub WithdrawStep-from : {T : Type 0} (old new : Queue T) (seat t : ℕ) (e : Entry T) (item : Option T) → open_ticket ((seats_of old).holds seat) ≡ Some t → Some e ≡ entry_of old.line ((seats_of old).holds seat) → item ≡ e.item → Leaves old new (withdrawn (seats_of old) seat e.ticket) → WithdrawStep old seat t (Back item) new
WithdrawStep-from old new seat t e item opened found is leaves =
    let waits = entry_of-waits old.line ((seats_of old).holds seat) t e opened found in
    (e, waits.0, waits.1, is, subst (λ ticket. Leaves old new (withdrawn (seats_of old) seat ticket)) (found-ticket t old.line e waits.1) leaves)

-- the step of a settled ticket's follow-up
pub FollowStep-from : {T : Type 0} (old new : Queue T) (seat t : ℕ) (hold : Hold T) → (seats_of old).holds seat ≡ hold → open_ticket hold ≡ Some t → is_settled hold ≡ true → Leaves old new (released (seats_of old) seat) → FollowStep old seat t (followed_by hold) new
FollowStep-from old new seat t Free is o settled leaves = cc
FollowStep-from old new seat t (Waiting v) is o settled leaves = cc
FollowStep-from old new seat t (Handed v u mark) is o settled leaves =
    let same : v ≡ t = cc in
    (u, mark, is ∙ ap (λ w. Handed w u mark) same, leaves)
FollowStep-from old new seat t (Served v u item) is o settled leaves =
    let same : v ≡ t = cc in
    (is ∙ ap (λ w. Served w u item) same, leaves)
FollowStep-from old new seat t (Cut v item) is o settled leaves =
    let same : v ≡ t = cc in
    (is ∙ ap (λ w. Cut w item) same, leaves)
