-- A pool stays sound, move by move.
use Rattle.std.proofs.Common.{◌≡◌, ◌≢◌, ℕ, zero, suc, ◌+◌, ◌-◌, ◌<◌, ◌≤◌, refl, sym, ap, ◌∙◌, subst, true, false, cond, is_none, Option, Some, None, List, [], ◌∷◌, ◌++◌, length, length-take, get_or, set, arith, is_some, ltb, ◌⊎◌, inl, inr}
use Rattle.std.specs.Prelude.{All, ⊤, MatchOption, sum_by}
use Rattle.std.proofs.lemmas.List.{length-set, length-drop, get_or_past}
use Rattle.std.proofs.lemmas.List.Elements.{All-append, All-weaker}
use Rattle.std.proofs.lemmas.List.Quantifiers.{all_pairs_push}
use Rattle.std.proofs.lemmas.List.Sums.{sum_by-set}
use Rattle.meet_tickets.specs.declared.lines.Entry.{Entry}
use Rattle.meet_tickets.specs.declared.lines.Hold.{Hold}
use Rattle.meet_tickets.specs.declared.lines.Hold.TheVariants.{Free, Served}
use Rattle.meet_tickets.specs.declared.places.End.{End}
use Rattle.meet_tickets.specs.declared.places.End.TheVariants.{Front, Back}
use Rattle.meet_tickets.specs.declared.places.Side.{Side}
use Rattle.meet_tickets.specs.declared.places.Side.TheVariants.{Giver, Taker}
use Rattle.meet_tickets.specs.Limits.{last_ticket}
use Rattle.meet_tickets.specs.Meeting.{partner, met, kept_count}
use Rattle.meet_tickets.specs.BySeat.{put_at, unmet}
use Rattle.meet_tickets.proofs.Line.Keeping.{kept-kept, kept-queued, kept-partner_waits, kept-partner_kept}
use Rattle.meet_tickets.proofs.Line.Partners.{none-from}
use Rattle.meet_tickets.proofs.Line.Sides.{All-unmet, AllPairs-unmet, partner-there, partner-other, alone-same}
use Rattle.meet_line.specs.Sound.{IsSound as IsSoundLine, Stands}
use Rattle.meet_line.proofs.Sound.{IsMet, held-taker, IsSound-settled, IsSound-met, IsSound-unmet, IsSound-kept, IsSound-queued, IsApart-free, newest, unopened, HasOneSide-sound}
use Rattle.pool_core.specs.declared.settings.Settings.{Settings}
use Rattle.pool_core.specs.declared.stages.Task.{Task}
use Rattle.pool_core.specs.declared.stages.Stage.{Stage}
use Rattle.pool_core.specs.declared.stages.Stage.TheVariants.{Absent, Starting, Waiting, HandedOver}
use Rattle.pool_core.specs.Pools.{Pool, queue_end, bound_of, stage_of, staged, kept, met_one, jobs_at, stage_owes, owed, executed}
use Rattle.pool_core.specs.Sound.{IsSound, hold_of, holds_of}
use Rattle.pool_core.proofs.Seats.{ltb_tells, stage-caller, stage-at, holds-staged, waits-from}

-- tickets are drawn
pub lined-later : {X : Type 0} {line : List (Entry X)} {holds : ℕ → Hold X} {next : ℕ} (n : ℕ) → IsSoundLine line holds next → next ≤ n → n ≤ last_ticket + 1 → IsSoundLine line holds n
lined-later {line = line} {holds = holds} {next = next} n sound from few = record {
  standing = All-weaker (Stands holds next) (Stands holds n) (λ e stands. record { held = stands.held; given = stands.given; closed = stands.closed; used = let used : e.ticket < next = stands.used in omega arith }) line sound.standing;
  fellows = sound.fellows;
  opened = λ seat t is. (let below : t < next = sound.opened seat t is in omega arith);
  tickets_from = let from_one : 0 < next = sound.tickets_from in omega arith;
  tickets_to = few;
}

pub sound-later : {X : Type 0} {s : Settings} {p : Pool X} {next : ℕ} (n : ℕ) → IsSound s p next → next ≤ n → n ≤ last_ticket + 1 → IsSound s p n
sound-later {p = p} {next = next} n sound from few = record {
  fits = sound.fits;
  lined = lined-later n sound.lined from few;
  takes = sound.takes;
  count = sound.count;
  counted = let before : executed p < next = sound.counted in omega arith;
  within = sound.within;
  risen = sound.risen;
}

-- jobs come to an end
pub sound-ended : {X : Type 0} {s : Settings} {p : Pool X} {next : ℕ} (done back dropped ran : ℕ) → IsSound s p next → done + back + dropped + ran + sum_by jobs_at p.workers + kept_count p.line < next → IsSound s (record p { done = done; back = back; dropped = dropped; ran = ran }) next
sound-ended done back dropped ran sound counted = record {
  fits = sound.fits;
  lined = sound.lined;
  takes = sound.takes;
  count = sound.count;
  counted = counted;
  within = sound.within;
  risen = sound.risen;
}

-- a worker that doesn't wait comes to a stage in which it has nothing open
pub sound-worker : {X : Type 0} {s : Settings} {p : Pool X} {next : ℕ} (w largest done back : ℕ) (st : Stage X) → IsSound s p next → w < length p.workers → ((t : ℕ) → get_or p.workers w Absent ≢ Waiting t) → hold_of st ≡ Free → done + back + jobs_at st + executed p < p.done + p.back + jobs_at (get_or p.workers w Absent) + next → IsSound s (record (staged p w st) { largest = largest; done = done; back = back }) next
sound-worker {X} {s = s} {p = p} {next = next} w largest done back st sound there away free less =
    let ran : sum_by jobs_at (set p.workers w st) + jobs_at (get_or p.workers w Absent) ≡ sum_by jobs_at p.workers + jobs_at st = sum_by-set jobs_at p.workers w st Absent there in
    let own : s.sizes.callers + w - s.sizes.callers ≡ w = omega arith in
    let here : stage_of s p (s.sizes.callers + w) ≡ get_or p.workers w Absent = stage-at s p (s.sizes.callers + w) (omega arith) ∙ ap (λ n. get_or p.workers n Absent) own in
    record {
      fits = sound.fits;
      lined = subst (λ holds. IsSoundLine p.line holds next) (sym (holds-staged s p (s.sizes.callers + w) w st refl there))
          (subst (λ h. IsSoundLine p.line (put_at (holds_of s p) (s.sizes.callers + w) h) next) (sym free)
          (IsSound-settled (s.sizes.callers + w) Free sound.lined (λ t waits. away t (sym here ∙ waits-from (stage_of s p (s.sizes.callers + w)) t waits)) (IsApart-free p.line next)));
      takes = sound.takes;
      count = length-set p.workers w st ∙ sound.count;
      counted = omega arith;
      within = sound.within;
      risen = sound.risen;
    }

-- what holds of one is true of a list of it alone
All-one : {X : Type 0} (P : X → Type 0) (x : X) → P x → All P (x ∷ [])
All-one P x holds zero d below = holds
All-one P x holds (suc k) d below = absurd (omega arith)

-- one more is within a bound that isn't reached
more-within : (bound : Option ℕ) (old new : ℕ) → new ≡ old + 1 → MatchOption bound ⊤ (λ most. old < most) → MatchOption bound ⊤ (λ most. new ≤ most)
more-within None old new is below = tt
more-within (Some most) old new is below = omega arith

-- a job is kept
pub sound-kept : {X : Type 0} {s : Settings} {p : Pool X} {next : ℕ} (i t : ℕ) (job : X) → IsSound s p next → next ≤ t → t ≤ last_ticket → partner (queue_end s.queue) p.line Giver ≡ None → MatchOption (bound_of s.queue) ⊤ (λ most. kept_count p.line < most) → IsSound s (kept p i t job) (t + 1)
sound-kept {X} {s = s} {p = p} {next = next} i t job sound from few alone below =
    let e : Entry X = record { ticket = t; seat = i; item = Some job; waits = false } in
    let more : kept_count (p.line ++ e ∷ []) ≡ kept_count p.line + 1 = kept-kept p.line e refl in
    let at : IsSoundLine p.line (holds_of s p) t = lined-later t sound.lined from (omega arith) in
    let before : executed p < next = sound.counted in
    record {
      fits = sound.fits;
      lined = IsSound-kept (queue_end s.queue) i t job (lined-later (t + 1) at (omega arith) (omega arith)) (unopened at) (newest at) (omega arith) alone;
      takes = All-append (λ f. f.waits ≡ is_none f.item) p.line (e ∷ []) sound.takes (All-one (λ f. f.waits ≡ is_none f.item) e refl);
      count = sound.count;
      counted = omega arith;
      within = more-within (bound_of s.queue) (kept_count p.line) (kept_count (p.line ++ e ∷ [])) more below;
      risen = all_pairs_push (λ e f. e.ticket < f.ticket) p.line e sound.risen (newest at);
    }

-- who is met leaves the line one shorter
pub unmet-length : {X : Type 0} (end : End) (side : Side) (line : List (Entry X)) (e : Entry X) → partner end line side ≡ Some e → length (unmet end line) + 1 ≡ length line
unmet-length end side [] e found = cc
unmet-length Front side (x ∷ line) e found = omega (arith, length-drop 1 (x ∷ line))
unmet-length Back side (x ∷ line) e found = omega (arith, length-take (length (x ∷ line) - 1) (x ∷ line))

-- the worker that a job meets: its seat, its stage, and that it presents nothing
pub record Takes {X : Type 0} (s : Settings) (p : Pool X) (e : Entry X) : Type 0 where
  pub from : s.sizes.callers ≤ e.seat
  pub stage : get_or p.workers (e.seat - s.sizes.callers) Absent ≡ Waiting e.ticket
  pub there : e.seat - s.sizes.callers < length p.workers
  pub nothing : e.item ≡ None
  pub waits : e.waits ≡ true

-- a worker that waits has a number
there-waits : {X : Type 0} (workers : List (Stage X)) (w t : ℕ) → get_or workers w Absent ≡ Waiting t → w < length workers
there-waits workers w t is = by_test (ltb_tells w (length workers))
  where
    by_test : ((ltb w (length workers) ≡ true) × (w < length workers)) ⊎ ((ltb w (length workers) ≡ false) × (length workers ≤ w)) → w < length workers
    by_test (inl h) = h.1
    by_test (inr h) = absurd (let none : Absent ≡ Waiting t = sym (get_or_past workers w Absent h.1) ∙ is in cc)

-- the worker whose seat waits with this ticket
pub waiting-from : {X : Type 0} (s : Settings) (p : Pool X) (i t : ℕ) → stage_of s p i ≡ Waiting t → (s.sizes.callers ≤ i) × (get_or p.workers (i - s.sizes.callers) Absent ≡ Waiting t) × (i - s.sizes.callers < length p.workers)
waiting-from s p i t own = by_test (ltb_tells i s.sizes.callers)
  where
    by_test : ((ltb i s.sizes.callers ≡ true) × (i < s.sizes.callers)) ⊎ ((ltb i s.sizes.callers ≡ false) × (s.sizes.callers ≤ i)) → (s.sizes.callers ≤ i) × (get_or p.workers (i - s.sizes.callers) Absent ≡ Waiting t) × (i - s.sizes.callers < length p.workers)
    by_test (inl h) = absurd (let none : Absent ≡ Waiting t = sym (stage-caller s p i h.1) ∙ own in cc)
    by_test (inr h) =
        let stage : get_or p.workers (i - s.sizes.callers) Absent ≡ Waiting t = sym (stage-at s p i h.1) ∙ own in
        (h.1, stage, there-waits p.workers (i - s.sizes.callers) t stage)

pub takes-from : {X : Type 0} {s : Settings} {p : Pool X} {next : ℕ} (e : Entry X) → IsSound s p next → partner (queue_end s.queue) p.line Giver ≡ Some e → Takes s p e
takes-from {s = s} {p = p} e sound found =
    let met : IsMet (holds_of s p) e = held-taker (queue_end s.queue) e sound.lined found in
    let own : stage_of s p e.seat ≡ Waiting e.ticket = waits-from (stage_of s p e.seat) e.ticket met.held in
    let at : (s.sizes.callers ≤ e.seat) × (get_or p.workers (e.seat - s.sizes.callers) Absent ≡ Waiting e.ticket) × (e.seat - s.sizes.callers < length p.workers) = waiting-from s p e.seat e.ticket own in
    record {
      from = at.0;
      stage = at.1;
      there = at.2;
      nothing = none-from e.item (partner-other (queue_end s.queue) p.line Giver e (HasOneSide-sound sound.lined) found);
      waits = met.waits;
    }

-- a waiting worker gets a job
pub sound-handed : {X : Type 0} {s : Settings} {p : Pool X} {next : ℕ} (e : Entry X) (task : Task X) → IsSound s p next → partner (queue_end s.queue) p.line Giver ≡ Some e → executed p + 1 < next → IsSound s (record (staged p (e.seat - s.sizes.callers) (HandedOver e.ticket task)) { line = unmet (queue_end s.queue) p.line }) next
sound-handed {X} {s = s} {p = p} {next = next} e task sound found left =
    let takes : Takes s p e = takes-from e sound found in
    let runs : sum_by jobs_at (set p.workers (e.seat - s.sizes.callers) (HandedOver e.ticket task)) + jobs_at (get_or p.workers (e.seat - s.sizes.callers) Absent) ≡ sum_by jobs_at p.workers + 1 = sum_by-set jobs_at p.workers (e.seat - s.sizes.callers) (HandedOver e.ticket task) Absent takes.there in
    let ran_before : jobs_at (get_or p.workers (e.seat - s.sizes.callers) Absent) ≡ 0 = ap jobs_at takes.stage in
    let same : kept_count (unmet (queue_end s.queue) p.line) ≡ kept_count p.line = kept-partner_waits (queue_end s.queue) p.line Giver e found takes.waits in
    let at : e.seat ≡ s.sizes.callers + (e.seat - s.sizes.callers) = (let from : s.sizes.callers ≤ e.seat = takes.from in omega arith) in
    record {
      fits = sound.fits;
      lined = subst (λ holds. IsSoundLine (unmet (queue_end s.queue) p.line) holds next) (sym (holds-staged s p e.seat (e.seat - s.sizes.callers) (HandedOver e.ticket task) at takes.there))
          (IsSound-met (queue_end s.queue) Giver e (Served e.ticket task.ticket task.job) sound.lined found takes.waits refl);
      takes = All-unmet (λ f. f.waits ≡ is_none f.item) (queue_end s.queue) p.line sound.takes;
      count = length-set p.workers (e.seat - s.sizes.callers) (HandedOver e.ticket task) ∙ sound.count;
      counted = omega arith;
      within = subst (λ n. MatchOption (bound_of s.queue) ⊤ (λ most. n ≤ most)) (sym same) sound.within;
      risen = AllPairs-unmet (λ e f. e.ticket < f.ticket) (queue_end s.queue) p.line sound.risen;
    }

-- the oldest kept job, where it is met
pub oldest-kept : {X : Type 0} {s : Settings} {p : Pool X} {next : ℕ} (e : Entry X) (job : X) → IsSound s p next → partner (queue_end s.queue) p.line Taker ≡ Some e → e.item ≡ Some job → e.waits ≡ false
oldest-kept {s = s} {p = p} e job sound found is = partner-there (λ f. f.waits ≡ is_none f.item) (queue_end s.queue) p.line Taker e sound.takes found ∙ ap is_none is

-- fewer are within a bound
fewer-within : (bound : Option ℕ) (old new : ℕ) → new + 1 ≡ old → MatchOption bound ⊤ (λ most. old ≤ most) → MatchOption bound ⊤ (λ most. new < most)
fewer-within None old new is below = tt
fewer-within (Some most) old new is below = omega arith

below-within : (bound : Option ℕ) (n : ℕ) → MatchOption bound ⊤ (λ most. n < most) → MatchOption bound ⊤ (λ most. n ≤ most)
below-within None n below = tt
below-within (Some most) n below = omega arith

-- it leaves
pub sound-unmet : {X : Type 0} {s : Settings} {p : Pool X} {next : ℕ} (dropped : ℕ) (e : Entry X) → IsSound s p next → partner (queue_end s.queue) p.line Taker ≡ Some e → e.waits ≡ false → dropped ≤ p.dropped + 1 → IsSound s (record (met_one s p) { dropped = dropped }) next
sound-unmet {s = s} {p = p} {next = next} dropped e sound found kept few =
    let less : kept_count (unmet (queue_end s.queue) p.line) + 1 ≡ kept_count p.line = kept-partner_kept (queue_end s.queue) p.line Taker e found kept in
    let before : executed p < next = sound.counted in
    record {
      fits = sound.fits;
      lined = IsSound-unmet (queue_end s.queue) sound.lined;
      takes = All-unmet (λ f. f.waits ≡ is_none f.item) (queue_end s.queue) p.line sound.takes;
      count = sound.count;
      counted = omega arith;
      within = below-within (bound_of s.queue) (kept_count (unmet (queue_end s.queue) p.line)) (fewer-within (bound_of s.queue) (kept_count p.line) (kept_count (unmet (queue_end s.queue) p.line)) less sound.within);
      risen = AllPairs-unmet (λ e f. e.ticket < f.ticket) (queue_end s.queue) p.line sound.risen;
    }

-- where givers stand, a giver has no partner
givers-alone : {X : Type 0} (end : End) (line : List (Entry X)) → All (λ f. is_some f.item ≡ true) line → partner end line Giver ≡ None
givers-alone end [] all = refl
givers-alone end (x ∷ line) all = ap (λ b. cond b None (met end (x ∷ line))) (all zero x (omega arith))

pub unmet-alone : {X : Type 0} {s : Settings} {p : Pool X} {next : ℕ} (e : Entry X) (job : X) → IsSound s p next → partner (queue_end s.queue) p.line Giver ≡ None → e.item ≡ Some job → partner (queue_end s.queue) (unmet (queue_end s.queue) p.line) Giver ≡ None
unmet-alone {s = s} {p = p} e job sound alone is =
    let own : is_some e.item ≡ true = ap is_some is in
    let all : All (λ f. is_some f.item ≡ is_some e.item) p.line = alone-same (queue_end s.queue) p.line Giver e (HasOneSide-sound sound.lined) alone own in
    givers-alone (queue_end s.queue) (unmet (queue_end s.queue) p.line) (All-unmet (λ f. is_some f.item ≡ true) (queue_end s.queue) p.line (λ k d below. all k d below ∙ own))

-- the oldest job makes place for a new one
pub sound-replaced : {X : Type 0} {s : Settings} {p : Pool X} {next : ℕ} (e : Entry X) (old : X) (i t n : ℕ) (job : X) → IsSound s p next → partner (queue_end s.queue) p.line Taker ≡ Some e → e.item ≡ Some old → partner (queue_end s.queue) p.line Giver ≡ None → next ≤ t → t ≤ last_ticket → t + 1 ≡ n → IsSound s (record (kept (met_one s p) i t job) { dropped = p.dropped + 1 }) n
sound-replaced {X} {s = s} {p = p} {next = next} e old i t n job sound found is alone from few same =
    let kept_one : e.waits ≡ false = oldest-kept e old sound found is in
    let less : kept_count (unmet (queue_end s.queue) p.line) + 1 ≡ kept_count p.line = kept-partner_kept (queue_end s.queue) p.line Taker e found kept_one in
    let once : IsSound s (record (met_one s p) { dropped = p.dropped + 1 }) next = sound-unmet (p.dropped + 1) e sound found kept_one (omega arith) in
    let whole : IsSound s (record (kept (met_one s p) i t job) { dropped = p.dropped + 1 }) (t + 1) = sound-kept i t job once from few (unmet-alone e old sound alone is) (fewer-within (bound_of s.queue) (kept_count p.line) (kept_count (unmet (queue_end s.queue) p.line)) less sound.within) in
    subst (λ k. IsSound s (record (kept (met_one s p) i t job) { dropped = p.dropped + 1 }) k) same whole

-- a worker's take comes to the line
pub sound-waits : {X : Type 0} {s : Settings} {p : Pool X} {next : ℕ} (i w t : ℕ) → IsSound s p next → next ≤ t → t ≤ last_ticket → i ≡ s.sizes.callers + w → w < length p.workers → get_or p.workers w Absent ≡ Starting None → partner (queue_end s.queue) p.line Taker ≡ None → IsSound s (record (staged p w (Waiting t)) { line = p.line ++ record { ticket = t; seat = i; item = None; waits = true } ∷ [] }) (t + 1)
sound-waits {X} {s = s} {p = p} {next = next} i w t sound from few seat there starts alone =
    let e : Entry X = record { ticket = t; seat = i; item = None; waits = true } in
    let own : i - s.sizes.callers ≡ w = omega arith in
    let free : holds_of s p i ≡ Free = ap hold_of (stage-at s p i (omega arith) ∙ ap (λ n. get_or p.workers n Absent) own ∙ starts) in
    let at : IsSoundLine p.line (holds_of s p) t = lined-later t sound.lined from (omega arith) in
    let before : executed p < next = sound.counted in
    let runs : sum_by jobs_at (set p.workers w (Waiting t)) + jobs_at (get_or p.workers w Absent) ≡ sum_by jobs_at p.workers + 0 = sum_by-set jobs_at p.workers w (Waiting t) Absent there in
    let same : kept_count (p.line ++ e ∷ []) ≡ kept_count p.line = kept-queued p.line e refl in
    record {
      fits = sound.fits;
      lined = subst (λ holds. IsSoundLine (p.line ++ e ∷ []) holds (t + 1)) (sym (holds-staged s p i w (Waiting t) seat there))
          (IsSound-queued (queue_end s.queue) i t None (lined-later (t + 1) at (omega arith) (omega arith)) free (newest at) (omega arith) alone);
      takes = All-append (λ f. f.waits ≡ is_none f.item) p.line (e ∷ []) sound.takes (All-one (λ f. f.waits ≡ is_none f.item) e refl);
      count = length-set p.workers w (Waiting t) ∙ sound.count;
      counted = omega arith;
      within = subst (λ n. MatchOption (bound_of s.queue) ⊤ (λ most. n ≤ most)) (sym same) sound.within;
      risen = all_pairs_push (λ e f. e.ticket < f.ticket) p.line e sound.risen (newest at);
    }

-- a ticket that wasn't drawn yet is no entry's
pub fresh : {X : Type 0} {s : Settings} {p : Pool X} {next : ℕ} (t : ℕ) → IsSound s p next → next ≤ t → All (λ e. e.ticket ≢ t) p.line
fresh {p = p} t sound from = λ k d below same. (let less : (get_or p.line k d).ticket < _ = newest sound.lined k d below in omega arith)

-- as a worker comes to another stage there are tickets left still
pub tickets-staged : {X : Type 0} (p : Pool X) (w : ℕ) (st : Stage X) (n : ℕ) → w < length p.workers → owed p + stage_owes st + n ≤ last_ticket + 1 + stage_owes (get_or p.workers w Absent) → owed (staged p w st) + n ≤ last_ticket + 1
tickets-staged p w st n there less =
    let owes : sum_by stage_owes (set p.workers w st) + stage_owes (get_or p.workers w Absent) ≡ sum_by stage_owes p.workers + stage_owes st = sum_by-set stage_owes p.workers w st Absent there in
    omega arith

pub tickets-handed : {X : Type 0} {s : Settings} {p : Pool X} {next : ℕ} (e : Entry X) (task : Task X) (n : ℕ) → IsSound s p next → partner (queue_end s.queue) p.line Giver ≡ Some e → owed p + 3 + n ≤ last_ticket + 1 → owed (record (staged p (e.seat - s.sizes.callers) (HandedOver e.ticket task)) { line = unmet (queue_end s.queue) p.line }) + n ≤ last_ticket + 1
tickets-handed {X} {s = s} {p = p} e task n sound found left =
    let takes : Takes s p e = takes-from e sound found in
    let owes : sum_by stage_owes (set p.workers (e.seat - s.sizes.callers) (HandedOver e.ticket task)) + stage_owes (get_or p.workers (e.seat - s.sizes.callers) Absent) ≡ sum_by stage_owes p.workers + 4 = sum_by-set stage_owes p.workers (e.seat - s.sizes.callers) (HandedOver e.ticket task) Absent takes.there in
    let before : stage_owes (get_or p.workers (e.seat - s.sizes.callers) Absent) ≡ 1 = ap stage_owes takes.stage in
    let same : kept_count (unmet (queue_end s.queue) p.line) ≡ kept_count p.line = kept-partner_waits (queue_end s.queue) p.line Giver e found takes.waits in
    omega arith
