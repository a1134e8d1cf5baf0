-- The workers that wait, and their takes in the line.
use Rattle.std.proofs.Common.{◌≡◌, ◌≢◌, ℕ, zero, suc, ◌+◌, ◌-◌, ◌<◌, ◌≤◌, ◌==◌, refl, sym, ap, ◌∙◌, subst, Bool, true, false, cond, not, is_none, is_some, Option, Some, None, List, [], ◌∷◌, ◌++◌, length, get_or, map, filter, find, arith, eqb, ◌⊎◌, inl, inr}
use Rattle.std.specs.Prelude.{All, AllPairs, ⊤, MatchOption, sum_by}
use Rattle.std.proofs.lemmas.Bool.{eqb-true}
use Rattle.std.proofs.lemmas.Bool.Decides.{Decides-eqb, eqb_tells}
use Rattle.std.proofs.lemmas.List.{length-map, length-set}
use Rattle.std.proofs.Math.ListN.{get_or-map}
use Rattle.std.proofs.lemmas.List.Elements.{All-map, All-contains, All-cons, All-filter, filter_passes}
use Rattle.std.proofs.lemmas.List.Kept.{AllPairs-filter}
use Rattle.std.proofs.lemmas.List.Sums.{sum_by-cons, sum_by-set}
use Rattle.std.proofs.lemmas.Map.Made.{IsDistinct-from_AllPairs}
use Rattle.std.proofs.lemmas.Map.Steps.{length-le_from_distinct_below}
use Rattle.std.proofs.lemmas.Map.Views.{Contains-from_any}
use Rattle.meet_tickets.specs.declared.lines.Entry.{Entry}
use Rattle.meet_tickets.specs.declared.lines.Hold.TheVariants.{Free, Waiting as Waits}
use Rattle.meet_tickets.specs.declared.places.End.{End}
use Rattle.meet_tickets.specs.declared.places.End.TheVariants.{Back}
use Rattle.pool_core.specs.declared.settings.PoolQueue.{PoolQueue}
use Rattle.pool_core.specs.declared.settings.PoolQueue.TheVariants.{Hand, Unbounded, Bounded}
use Rattle.meet_tickets.specs.declared.places.Side.TheVariants.{Giver, Taker}
use Rattle.meet_tickets.specs.Meeting.{partner, met, is_on, kept_count}
use Rattle.meet_tickets.specs.BySeat.{put_at, without_first, open_ticket}
use Rattle.meet_tickets.proofs.Line.Keeping.{kept-cons, kept-found_waits}
use Rattle.meet_tickets.proofs.Lists.Lookups.{keyed_from, keyed_pairs, map_keyed}
use Rattle.meet_tickets.proofs.Line.Sides.{All-without_first, AllPairs-without_first, found-there, HasOneSide, first-side, met-some}
use Rattle.meet_line.specs.Sound.{IsSound as IsSoundLine, Stands, AreFellows}
use Rattle.meet_line.proofs.Removed.{without_first-none}
use Rattle.meet_line.proofs.Sound.{IsSound-gone, IsSound-removed, IsApart-free, waits-open, HasOneSide-sound}
use Rattle.pool_core.specs.declared.settings.Settings.{Settings}
use Rattle.pool_core.specs.declared.stages.Stage.{Stage}
use Rattle.pool_core.specs.declared.stages.Stage.TheVariants.{Absent, Starting, Waiting, Cut, HandedOver, Running}
use Rattle.pool_core.specs.Pools.{Pool, queue_end, bound_of, stage_of, staged, jobs_at, stage_owes, executed, cut_stage, shut_down}
use Rattle.pool_core.specs.Sound.{IsSound, hold_of, holds_of}
use Rattle.pool_core.proofs.Seats.{ltb_tells, stage-caller, stage-at, holds-staged, waits-from}
use Rattle.pool_core.proofs.Stays.{waiting-from}

-- what is something isn't nothing
pub none-unless : {X : Type 0} (o : Option X) → is_some o ≡ true → is_none o ≡ false
none-unless None is = cc
none-unless (Some x) is = refl

pub none-where : {X : Type 0} (o : Option X) → is_some o ≡ false → is_none o ≡ true
none-where None is = refl
none-where (Some x) is = cc

-- all are kept, or none
pub kept-all : {X : Type 0} (line : List (Entry X)) → All (λ e. e.waits ≡ is_none e.item) line → All (λ e. is_some e.item ≡ true) line → kept_count line ≡ length line
kept-all [] takes all = refl
kept-all {X} (e ∷ line) takes all =
    let rest : kept_count line ≡ length line = kept-all line (λ k d below. takes (suc k) d (omega arith)) (λ k d below. all (suc k) d (omega arith)) in
    let kept : e.waits ≡ false = takes zero e (omega arith) ∙ none-unless e.item (all zero e (omega arith)) in
    let one : ◌≡◌ {A = ℕ} (cond (not e.waits) 1 0) 1 = ap {B = ℕ} (λ b. cond (not b) 1 0) kept in
    omega (arith, kept-cons e line, rest, one)

pub kept-none : {X : Type 0} (line : List (Entry X)) → All (λ e. e.waits ≡ is_none e.item) line → All (λ e. is_some e.item ≡ false) line → kept_count line ≡ 0
kept-none [] takes all = refl
kept-none {X} (e ∷ line) takes all =
    let rest : kept_count line ≡ 0 = kept-none line (λ k d below. takes (suc k) d (omega arith)) (λ k d below. all (suc k) d (omega arith)) in
    let kept : e.waits ≡ true = takes zero e (omega arith) ∙ none-where e.item (all zero e (omega arith)) in
    let one : ◌≡◌ {A = ℕ} (cond (not e.waits) 1 0) 0 = ap {B = ℕ} (λ b. cond (not b) 1 0) kept in
    omega (arith, kept-cons e line, rest, one)

-- where a giver meets nobody, all are givers; where a taker does, all are takers
pub givers-all : {X : Type 0} (end : End) (line : List (Entry X)) → HasOneSide line → partner end line Giver ≡ None → All (λ f. is_some f.item ≡ true) line
givers-all end [] one alone = λ k d below. absurd (omega arith)
givers-all {X} end (x ∷ line) one alone = by_side (is_some x.item) refl
  where
    by_side : (b : Bool) → is_some x.item ≡ b → All (λ f. is_some f.item ≡ true) (x ∷ line)
    by_side true is = λ k d below. sym (first-side x line one k d below) ∙ is
    by_side false is = absurd (met-some end x line (sym (ap (λ b. cond b None (met end (x ∷ line))) is) ∙ alone))

pub takers-alone : {X : Type 0} (end : End) (line : List (Entry X)) → HasOneSide line → partner end line Taker ≡ None → All (λ f. is_some f.item ≡ false) line
takers-alone end [] one alone = λ k d below. absurd (omega arith)
takers-alone {X} end (x ∷ line) one alone = by_side (is_some x.item) refl
  where
    by_side : (b : Bool) → is_some x.item ≡ b → All (λ f. is_some f.item ≡ false) (x ∷ line)
    by_side false is = λ k d below. sym (first-side x line one k d below) ∙ is
    by_side true is = absurd (met-some end x line (sym (ap (λ b. cond b None (met end (x ∷ line))) (none-unless x.item is)) ∙ alone))

-- a job that meets nobody meets kept jobs alone: as many as there are entries
pub alone-kept : {X : Type 0} {s : Settings} {p : Pool X} {next : ℕ} → IsSound s p next → partner (queue_end s.queue) p.line Giver ≡ None → kept_count p.line ≡ length p.line
alone-kept {s = s} {p = p} sound alone = kept-all p.line sound.takes (givers-all (queue_end s.queue) p.line (HasOneSide-sound sound.lined) alone)

-- who finds no job finds takes alone
pub alone-takers : {X : Type 0} {s : Settings} {p : Pool X} {next : ℕ} → IsSound s p next → partner (queue_end s.queue) p.line Taker ≡ None → kept_count p.line ≡ 0
alone-takers {s = s} {p = p} sound alone = kept-none p.line sound.takes (takers-alone (queue_end s.queue) p.line (HasOneSide-sound sound.lined) alone)

-- and fewer than there are numbers, where it doesn't wait itself
pub takers-fewer : {X : Type 0} {s : Settings} {p : Pool X} {next : ℕ} (w : ℕ) → IsSound s p next → partner (queue_end s.queue) p.line Taker ≡ None → w < length p.workers → ((t : ℕ) → get_or p.workers w Absent ≢ Waiting t) → length p.line < length p.workers
takers-fewer {X} {s = s} {p = p} {next = next} w sound alone there away =
    let key : Entry X → ℕ = λ e. e.seat - s.sizes.callers in
    let all : All (λ f. is_some f.item ≡ false) p.line = takers-alone (queue_end s.queue) p.line (HasOneSide-sound sound.lined) alone in
    let apart : AllPairs (λ e f. key e ≢ key f) p.line = λ i j d less below same.
    (let e = get_or p.line i d in
    let f = get_or p.line j d in
    let at_e : (s.sizes.callers ≤ e.seat) × (get_or p.workers (e.seat - s.sizes.callers) Absent ≡ Waiting e.ticket) × (e.seat - s.sizes.callers < length p.workers) = waits_at i d (omega arith) in
    let at_f : (s.sizes.callers ≤ f.seat) × (get_or p.workers (f.seat - s.sizes.callers) Absent ≡ Waiting f.ticket) × (f.seat - s.sizes.callers < length p.workers) = waits_at j d below in
    let both : Waiting e.ticket ≡ Waiting f.ticket = sym at_e.1 ∙ ap (λ n. get_or p.workers n Absent) same ∙ at_f.1 in
    let tickets : e.ticket ≡ f.ticket = cc in
    (sound.lined.fellows i j d less below).tickets tickets) in
    let keys : AllPairs (λ x y. x ≢ y) (map key p.line) = keyed_pairs (λ k. k) (map key p.line) (map_keyed (λ k. k) key p.line (keyed_from key p.line apart)) in
    let others : All (λ k. w ≢ k) (map key p.line) = All-map (λ k. w ≢ k) key p.line (λ k d below same. (let e = get_or p.line k d in away e.ticket (ap (λ n. get_or p.workers n Absent) same ∙ (waits_at k d below).1))) in
    let whole : AllPairs (λ x y. x ≢ y) (w ∷ map key p.line) = pairs_cons w (map key p.line) others keys in
    let within : All (λ k. k < length p.workers) (w ∷ map key p.line) = All-cons (λ k. k < length p.workers) w (map key p.line) there (All-map (λ k. k < length p.workers) key p.line (λ k d below. (waits_at k d below).2)) in
    let few : length (w ∷ map key p.line) ≤ length p.workers = length-le_from_distinct_below (w ∷ map key p.line) (length p.workers) (IsDistinct-from_AllPairs Decides-eqb (w ∷ map key p.line) whole) (λ q found. All-contains (λ k. k < length p.workers) (w ∷ map key p.line) q within (Contains-from_any (λ x y same. eqb-true x y same) q (w ∷ map key p.line) found)) in
    let same : length (map key p.line) ≡ length p.line = length-map p.line key in
    omega (arith, few, same)
  where
    waits_at : (k : ℕ) (d : Entry X) → k < length p.line → (s.sizes.callers ≤ (get_or p.line k d).seat) × (get_or p.workers ((get_or p.line k d).seat - s.sizes.callers) Absent ≡ Waiting (get_or p.line k d).ticket) × ((get_or p.line k d).seat - s.sizes.callers < length p.workers)
    waits_at k d below =
        let e = get_or p.line k d in
        let taker : is_some e.item ≡ false = takers-alone (queue_end s.queue) p.line (HasOneSide-sound sound.lined) alone k d below in
        let waits : e.waits ≡ true = sound.takes k d below ∙ none-where e.item taker in
        waiting-from s p e.seat e.ticket (waits-from (stage_of s p e.seat) e.ticket ((sound.lined.standing k d below).held waits))

    pairs_cons : (x : ℕ) (xs : List ℕ) → All (λ y. x ≢ y) xs → AllPairs (λ a b. a ≢ b) xs → AllPairs (λ a b. a ≢ b) (x ∷ xs)
    pairs_cons x xs head tail zero zero d less below = absurd (omega arith)
    pairs_cons x xs head tail zero (suc j) d less below = head j d (omega arith)
    pairs_cons x xs head tail (suc i) zero d less below = absurd (omega arith)
    pairs_cons x xs head tail (suc i) (suc j) d less below = tail i j d (omega arith) (omega arith)

-- what isn't found isn't there
find-absent : {X : Type 0} (t : ℕ) (line : List (Entry X)) → find (λ e. e.ticket == t) line ≡ None → All (λ e. e.ticket ≢ t) line
find-absent t [] none = λ k d below. absurd (omega arith)
find-absent {X} t (e ∷ line) none = by_test (find-absent t line) (eqb_tells e.ticket t)
  where
    by_test : (find (λ f. f.ticket == t) line ≡ None → All (λ f. f.ticket ≢ t) line) → ((eqb e.ticket t ≡ true) × (e.ticket ≡ t)) ⊎ ((eqb e.ticket t ≡ false) × (e.ticket ≢ t)) → All (λ f. f.ticket ≢ t) (e ∷ line)
    by_test more (inl h) = absurd (let no : ◌≡◌ {A = Option (Entry X)} (Some e) None = sym (ap (λ b. cond b (Some e) (find (λ f. f.ticket == t) line)) h.0) ∙ none in cc)
    by_test more (inr h) = All-cons (λ f. f.ticket ≢ t) e line h.1 (more (sym (ap (λ b. cond b (Some e) (find (λ f. f.ticket == t) line)) h.0) ∙ none))

-- the take of a worker that waited too long leaves
pub sound-expired : {X : Type 0} {s : Settings} {p : Pool X} {next : ℕ} (i t : ℕ) → IsSound s p next → stage_of s p i ≡ Waiting t → IsSound s (record (staged p (i - s.sizes.callers) Absent) { line = without_first (λ e. e.ticket == t) p.line }) next
sound-expired {X} {s = s} {p = p} {next = next} i t sound own = by_entry (find (λ e. e.ticket == t) p.line) refl
  where
    at : (s.sizes.callers ≤ i) × (get_or p.workers (i - s.sizes.callers) Absent ≡ Waiting t) × (i - s.sizes.callers < length p.workers)
    at = waiting-from s p i t own

    held : holds_of s p i ≡ Waits t
    held = ap hold_of own

    whole : (kept_count (without_first (λ e. e.ticket == t) p.line) ≡ kept_count p.line) → IsSoundLine (without_first (λ e. e.ticket == t) p.line) (put_at (holds_of s p) i Free) next → IsSound s (record (staged p (i - s.sizes.callers) Absent) { line = without_first (λ e. e.ticket == t) p.line }) next
    whole same lined =
        let runs : sum_by jobs_at (set_absent (i - s.sizes.callers)) + jobs_at (get_or p.workers (i - s.sizes.callers) Absent) ≡ sum_by jobs_at p.workers + 0 = sum_by-set jobs_at p.workers (i - s.sizes.callers) Absent Absent at.2 in
        let ran : jobs_at (get_or p.workers (i - s.sizes.callers) Absent) ≡ 0 = ap jobs_at at.1 in
        let seat : i ≡ s.sizes.callers + (i - s.sizes.callers) = (let from : s.sizes.callers ≤ i = at.0 in omega arith) in
        let before : executed p < next = sound.counted in
        record {
          fits = sound.fits;
          lined = subst (λ holds. IsSoundLine (without_first (λ e. e.ticket == t) p.line) holds next) (sym (holds-staged s p i (i - s.sizes.callers) Absent seat at.2)) lined;
          takes = All-without_first (λ f. f.waits ≡ is_none f.item) t p.line sound.takes;
          count = length-set p.workers (i - s.sizes.callers) Absent ∙ sound.count;
          counted = omega (arith, same, runs, ran, before);
          within = subst (λ n. MatchOption (bound_of s.queue) ⊤ (λ most. n ≤ most)) (sym same) sound.within;
          risen = AllPairs-without_first (λ e f. e.ticket < f.ticket) t p.line sound.risen;
        }
      where
        set_absent : ℕ → List (Stage X)
        set_absent w = Rattle.std.proofs.Common.set p.workers w Absent

    by_entry : (o : Option (Entry X)) → find (λ e. e.ticket == t) p.line ≡ o → IsSound s (record (staged p (i - s.sizes.callers) Absent) { line = without_first (λ e. e.ticket == t) p.line }) next
    by_entry (Some e) found = whole (kept-found_waits t p.line e found (waits-open i t e sound.lined held found)) (IsSound-removed i t e sound.lined held found)
    by_entry None none =
        let same : without_first (λ e. e.ticket == t) p.line ≡ p.line = without_first-none (λ e. e.ticket == t) p.line none in
        whole (ap kept_count same) (subst (λ line. IsSoundLine line (put_at (holds_of s p) i Free) next) (sym same)
        (IsSound-gone i Free sound.lined
        (λ k d below waits at_i.
        (let f = get_or p.line k d in
        let both : Waits f.ticket ≡ Waits t = sym ((sound.lined.standing k d below).held waits) ∙ ap (holds_of s p) at_i ∙ held in
        let tickets : f.ticket ≡ t = cc in
        find-absent t p.line none k d below tickets))
        (IsApart-free p.line next)))

-- the same by the worker's number
pub sound-expired_at : {X : Type 0} {s : Settings} {p : Pool X} {next : ℕ} (i w t : ℕ) → IsSound s p next → i ≡ s.sizes.callers + w → get_or p.workers w Absent ≡ Waiting t → IsSound s (record (staged p w Absent) { line = without_first (λ e. e.ticket == t) p.line }) next
sound-expired_at {s = s} {p = p} {next = next} i w t sound seat is =
    let own : i - s.sizes.callers ≡ w = omega arith in
    subst (λ n. IsSound s (record (staged p n Absent) { line = without_first (λ e. e.ticket == t) p.line }) next) own
    (sound-expired i t sound (stage-at s p i (omega arith) ∙ ap (λ n. get_or p.workers n Absent) own ∙ is))

-- what waits with a ticket presents nothing, and so as many jobs are kept without it
pub taker-of : {X : Type 0} {s : Settings} {p : Pool X} {next : ℕ} (i w t : ℕ) → IsSound s p next → i ≡ s.sizes.callers + w → get_or p.workers w Absent ≡ Waiting t → MatchOption (find (λ e. e.ticket == t) p.line) ⊤ (λ e. e.item ≡ None)
taker-of {X} {s = s} {p = p} {next = next} i w t sound seat is = by_entry (find (λ e. e.ticket == t) p.line) refl
  where
    held : holds_of s p i ≡ Waits t
    held = ap hold_of (stage-at s p i (omega arith) ∙ ap (λ n. get_or p.workers n Absent) (let own : i - s.sizes.callers ≡ w = omega arith in own) ∙ is)

    nothing : (o : Option X) → is_none o ≡ true → o ≡ None
    nothing None none = refl
    nothing (Some x) none = cc

    by_entry : (o : Option (Entry X)) → find (λ e. e.ticket == t) p.line ≡ o → MatchOption o ⊤ (λ e. e.item ≡ None)
    by_entry None found = tt
    by_entry (Some e) found = nothing e.item (sym (found-there (λ f. f.waits ≡ is_none f.item) t p.line e sound.takes found) ∙ waits-open i t e sound.lined held found)

pub kept-expired : {X : Type 0} {s : Settings} {p : Pool X} {next : ℕ} (i w t : ℕ) → IsSound s p next → i ≡ s.sizes.callers + w → get_or p.workers w Absent ≡ Waiting t → kept_count (without_first (λ e. e.ticket == t) p.line) ≡ kept_count p.line
kept-expired {X} {s = s} {p = p} {next = next} i w t sound seat is = by_entry (find (λ e. e.ticket == t) p.line) refl
  where
    held : holds_of s p i ≡ Waits t
    held = ap hold_of (stage-at s p i (omega arith) ∙ ap (λ n. get_or p.workers n Absent) (let own : i - s.sizes.callers ≡ w = omega arith in own) ∙ is)

    by_entry : (o : Option (Entry X)) → find (λ e. e.ticket == t) p.line ≡ o → kept_count (without_first (λ e. e.ticket == t) p.line) ≡ kept_count p.line
    by_entry None found = ap kept_count (without_first-none (λ e. e.ticket == t) p.line found)
    by_entry (Some e) found = kept-found_waits t p.line e found (waits-open i t e sound.lined held found)

-- a shutdown cuts the takes
pub stage-cut : {X : Type 0} (s : Settings) (p : Pool X) (i : ℕ) → stage_of s (shut_down p) i ≡ cut_stage (stage_of s p i)
stage-cut s p i = by_test (ltb_tells i s.sizes.callers)
  where
    by_test : ((Rattle.std.proofs.Common.ltb i s.sizes.callers ≡ true) × (i < s.sizes.callers)) ⊎ ((Rattle.std.proofs.Common.ltb i s.sizes.callers ≡ false) × (s.sizes.callers ≤ i)) → stage_of s (shut_down p) i ≡ cut_stage (stage_of s p i)
    by_test (inl h) = stage-caller s (shut_down p) i h.1 ∙ sym (ap cut_stage (stage-caller s p i h.1))
    by_test (inr h) = stage-at s (shut_down p) i h.1 ∙ get_or-map cut_stage p.workers (i - s.sizes.callers) Absent ∙ sym (ap cut_stage (stage-at s p i h.1))

-- what a worker has open it has open still
open-cut : {X : Type 0} (st : Stage X) → open_ticket (hold_of (cut_stage st)) ≡ open_ticket (hold_of st)
open-cut Absent = refl
open-cut (Starting first) = refl
open-cut (Waiting t) = refl
open-cut (Cut t) = refl
open-cut (HandedOver t task) = refl
open-cut (Running t) = refl

-- and so is its job
jobs-cut : {X : Type 0} (st : Stage X) → jobs_at (cut_stage st) ≡ jobs_at st
jobs-cut Absent = refl
jobs-cut (Starting None) = refl
jobs-cut (Starting (Some task)) = refl
jobs-cut (Waiting t) = refl
jobs-cut (Cut t) = refl
jobs-cut (HandedOver t task) = refl
jobs-cut (Running t) = refl

owes-cut : {X : Type 0} (st : Stage X) → stage_owes (cut_stage st) ≡ stage_owes st
owes-cut Absent = refl
owes-cut (Starting None) = refl
owes-cut (Starting (Some task)) = refl
owes-cut (Waiting t) = refl
owes-cut (Cut t) = refl
owes-cut (HandedOver t task) = refl
owes-cut (Running t) = refl

sum-cut : {X : Type 0} (f : Stage X → ℕ) → ((st : Stage X) → f (cut_stage st) ≡ f st) → (workers : List (Stage X)) → sum_by f (map cut_stage workers) ≡ sum_by f workers
sum-cut f same [] = refl
sum-cut f same (st ∷ workers) = omega (arith, sum_by-cons f (cut_stage st) (map cut_stage workers), sum_by-cons f st workers, same st, sum-cut f same workers)

pub jobs-all_cut : {X : Type 0} (workers : List (Stage X)) → sum_by jobs_at (map cut_stage workers) ≡ sum_by jobs_at workers
jobs-all_cut workers = sum-cut jobs_at jobs-cut workers

pub owes-all_cut : {X : Type 0} (workers : List (Stage X)) → sum_by stage_owes (map cut_stage workers) ≡ sum_by stage_owes workers
owes-all_cut workers = sum-cut stage_owes owes-cut workers

-- the kept jobs stay
pub kept-givers : {X : Type 0} (line : List (Entry X)) → All (λ e. e.waits ≡ is_none e.item) line → kept_count (filter (is_on Giver) line) ≡ kept_count line
kept-givers [] takes = refl
kept-givers {X} (e ∷ line) takes = by_side (kept-givers line (λ k d below. takes (suc k) d (omega arith))) (is_some e.item) refl
  where
    by_side : kept_count (filter (is_on Giver) line) ≡ kept_count line → (b : Bool) → is_some e.item ≡ b → kept_count (filter (is_on Giver) (e ∷ line)) ≡ kept_count (e ∷ line)
    by_side rest true is = ap kept_count (ap (λ b. cond b (e ∷ filter (is_on Giver) line) (filter (is_on Giver) line)) is) ∙ kept-cons e (filter (is_on Giver) line) ∙ ap (λ n. cond (not e.waits) 1 0 + n) rest ∙ sym (kept-cons e line)
    by_side rest false is =
        let waits : e.waits ≡ true = takes zero e (omega arith) ∙ none-where e.item is in
        let none : ◌≡◌ {A = ℕ} (cond (not e.waits) 1 0) 0 = ap {B = ℕ} (λ b. cond (not b) 1 0) waits in
        let same : kept_count (filter (is_on Giver) (e ∷ line)) ≡ kept_count (filter (is_on Giver) line) = ap kept_count (ap (λ b. cond b (e ∷ filter (is_on Giver) line) (filter (is_on Giver) line)) is) in
        omega (arith, same, rest, none, kept-cons e line)

pub sound-cut : {X : Type 0} {s : Settings} {p : Pool X} {next : ℕ} → IsSound s p next → IsSound s (shut_down p) next
sound-cut {X} {s = s} {p = p} {next = next} sound = record {
  fits = sound.fits;
  lined = record {
    standing = λ k d below. stands k d below (filter_passes (is_on Giver) p.line k d below);
    fellows = AllPairs-filter AreFellows (is_on Giver) p.line sound.lined.fellows;
    opened = λ seat t is. sound.lined.opened seat t (sym (opens seat) ∙ is);
    tickets_from = sound.lined.tickets_from;
    tickets_to = sound.lined.tickets_to;
  };
  takes = All-filter (is_on Giver) (λ e. e.waits ≡ is_none e.item) p.line sound.takes;
  count = length-map p.workers cut_stage ∙ sound.count;
  counted = let before : executed p < next = sound.counted in omega (arith, jobs-all_cut p.workers, kept-givers p.line sound.takes, before);
  within = subst (λ n. MatchOption (bound_of s.queue) ⊤ (λ most. n ≤ most)) (sym (kept-givers p.line sound.takes)) sound.within;
  risen = AllPairs-filter (λ e f. e.ticket < f.ticket) (is_on Giver) p.line sound.risen;
}
  where
    opens : (seat : ℕ) → open_ticket (holds_of s (shut_down p) seat) ≡ open_ticket (holds_of s p seat)
    opens seat = ap (λ st. open_ticket (hold_of st)) (stage-cut s p seat) ∙ open-cut (stage_of s p seat)

    stands : All (λ e. is_on Giver e ≡ true → Stands (holds_of s (shut_down p)) next e) (filter (is_on Giver) p.line)
    stands = All-filter (is_on Giver) (λ e. is_on Giver e ≡ true → Stands (holds_of s (shut_down p)) next e) p.line
        (λ k d below on.
        (let e = get_or p.line k d in
        let was : Stands (holds_of s p) next e = sound.lined.standing k d below in
        let kept : e.waits ≡ false = sound.takes k d below ∙ none-unless e.item on in
        record {
          held = λ waits. absurd (let no : true ≡ false = sym waits ∙ kept in cc);
          given = was.given;
          closed = λ is seat same. was.closed is seat (sym (opens seat) ∙ same);
          used = was.used;
        }))

-- the kept jobs are handed back
none-within : (bound : Option ℕ) → MatchOption bound ⊤ (λ most. 0 ≤ most)
none-within None = tt
none-within (Some most) = omega arith

pub sound-emptied : {X : Type 0} {s : Settings} {p : Pool X} {next : ℕ} (count : ℕ) → IsSound s p next → count ≡ kept_count p.line → IsSound s (record p { line = []; back = p.back + count }) next
sound-emptied {X} {s = s} {p = p} {next = next} count sound is = record {
  fits = sound.fits;
  lined = record {
    standing = λ k d below. absurd (omega arith);
    fellows = λ i j d less below. absurd (omega arith);
    opened = sound.lined.opened;
    tickets_from = sound.lined.tickets_from;
    tickets_to = sound.lined.tickets_to;
  };
  takes = λ k d below. absurd (omega arith);
  count = sound.count;
  counted = let before : executed p < next = sound.counted in omega (arith, before, is);
  within = none-within (bound_of s.queue);
  risen = λ i j d less below. absurd (omega arith);
}

-- a line that is met at its back keeps no job
pub back-empty : {X : Type 0} {s : Settings} {p : Pool X} {next : ℕ} → IsSound s p next → queue_end s.queue ≡ Back → filter (is_on Giver) p.line ≡ []
back-empty {X} {s = s} {p = p} sound back = empty (filter (is_on Giver) p.line) (omega (arith, none, all, kept-givers p.line sound.takes))
  where
    all : kept_count (filter (is_on Giver) p.line) ≡ length (filter (is_on Giver) p.line)
    all = kept-all (filter (is_on Giver) p.line) (All-filter (is_on Giver) (λ e. e.waits ≡ is_none e.item) p.line sound.takes) (filter_passes (is_on Giver) p.line)

    by_queue : (queue : PoolQueue) (n : ℕ) → queue_end queue ≡ Back → MatchOption (bound_of queue) ⊤ (λ most. n ≤ most) → n ≡ 0
    by_queue (Hand order) n is within = omega arith
    by_queue Unbounded n is within = cc
    by_queue (Bounded most) n is within = cc

    none : kept_count p.line ≡ 0
    none = by_queue s.queue (kept_count p.line) back sound.within

    empty : (xs : List (Entry X)) → length xs ≡ 0 → xs ≡ []
    empty [] is = refl
    empty (x ∷ xs) is = absurd (omega arith)

-- the givers of a line are its kept jobs
pub givers-kept : {X : Type 0} (line : List (Entry X)) → All (λ e. e.waits ≡ is_none e.item) line → kept_count line ≡ length (filter (is_on Giver) line)
givers-kept line takes = sym (kept-givers line takes) ∙ kept-all (filter (is_on Giver) line) (All-filter (is_on Giver) (λ e. e.waits ≡ is_none e.item) line takes) (filter_passes (is_on Giver) line)
