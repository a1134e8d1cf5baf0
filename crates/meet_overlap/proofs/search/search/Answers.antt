-- Proof of `search`, src/search.rt. The calls that make their records, in order, to where each may be left as it is; or
-- how far the search came, where no history explains the calls.
use Rattle.std.proofs.Common.{◌≡◌, ◌∙◌, ◌+◌, ◌≤◌, sym, length, arith}
use Rattle.std.proofs.lemmas.Bool.{false≢true}
use Rattle.meet_overlap.specs.Known.{LeadsOn, HasNonePlayed, IsBarren}
use Rattle.meet_overlap.specs.Places.{world_of}
use Rattle.meet_overlap.specs.Search.{MayAllStop}
use Rattle.meet_overlap.proofs.Paths.{search_passed, search_moved, search_back, search_ends, search_same}
use Rattle.meet_overlap.proofs.search.search.Goals.{in-Some+in_ok-push-in-Some+in_ok-there-in-Some+else-may_all_stop-2+then-leads_nowhere, in-Some+in_ok-push-in-Some+in_ok-there-in-Some+else-may_all_stop-2+else-leads_nowhere+in_ok-push-in-Some-2, in-None+in-Some-pop+in_ok-note-in-Some-pop}
use Rattle.meet_overlap.proofs.search.search.Goals as goal

pub returns-in-None-pop : goal.returns-in-None-pop
returns-in-None-pop c =
    let k = c.args.kind in
    let calls = c.args.calls.now in
    let passed : HasNonePlayed k calls (world_of c.loop.reached) c.loop.next → HasNonePlayed k calls (world_of c.loop.reached) (length calls) = rw c.in-None.is at c.in_ok-then.ensures.none in
    let empty : length c.loop.path.items ≡ 0 = omega (arith, c.in-None-pop.ensures.cases.0) in
    record { none = search_ends k calls c.loop.path.items c.loop.reached c.loop.next c.loop.seen.worlds.items passed empty c.loop.invariant }

pub loop-preserved : goal.loop-preserved
loop-preserved c = elim c.match-branch-3.branch [
  | in-Some+in_ok-push-in-Some+in_ok-there-in-Some+else-may_all_stop-2+then-leads_nowhere w ↦
      let k = c.args.kind in
      let calls = c.args.calls.now in
      let r = c.loop.reached in
      let then = w.in-Some.then in
      let there = w.in_ok-there-in-Some.there in
      let leads : LeadsOn k calls (world_of r) then.number (world_of then.reached) = rw w.in-Some.is at c.in_ok-then.ensures.leads in
      let passed : HasNonePlayed k calls (world_of r) c.loop.next → HasNonePlayed k calls (world_of r) then.number = rw w.in-Some.is at c.in_ok-then.ensures.passed in
      let barren : IsBarren k calls (world_of there) = w.leads_nowhere.ensures w.if-leads_nowhere.true in
      let le : w.saturating_add-next.result ≤ then.number + 1 = omega (arith, w.saturating_add-next.ensures) in
      search_same k calls c.loop.path c.match-branch-3.path r c.match-branch-3.reached w.saturating_add-next.result c.match-branch-3.next c.loop.seen c.match-branch-3.seen
      w.path-is w.reached-is w.next-is w.seen-is
      (search_passed k calls c.loop.path.items r then.reached there c.loop.next then.number w.saturating_add-next.result c.loop.seen.worlds.items leads w.in_ok-there-in-Some.ensures passed barren le
      c.loop.invariant)
  | in-Some+in_ok-push-in-Some+in_ok-there-in-Some+else-may_all_stop-2+else-leads_nowhere+in_ok-push-in-Some-2 w ↦
      let k = c.args.kind in
      let calls = c.args.calls.now in
      let r = c.loop.reached in
      let then = w.in-Some.then in
      let there = w.in_ok-there-in-Some.there in
      let leads : LeadsOn k calls (world_of r) then.number (world_of then.reached) = rw w.in-Some.is at c.in_ok-then.ensures.leads in
      let passed : HasNonePlayed k calls (world_of r) c.loop.next → HasNonePlayed k calls (world_of r) then.number = rw w.in-Some.is at c.in_ok-then.ensures.passed in
      let stays : MayAllStop calls (world_of there).stages → ⊥ = λ s. absurd (false≢true (sym w.if-may_all_stop-2.false ∙ w.may_all_stop-in-Some.ensures.1 s)) in
      search_same k calls w.push-else-leads_nowhere.new.self c.match-branch-3.path there c.match-branch-3.reached there.window.first c.match-branch-3.next c.loop.seen c.match-branch-3.seen
      w.path-is w.reached-is w.next-is w.seen-is
      (search_moved k calls c.loop.path.items w.push-else-leads_nowhere.new.self.items (record { number = then.number; reached = r; made = w.len-made.result }) then.reached there c.loop.next
      c.loop.seen.worlds.items leads w.in_ok-there-in-Some.ensures passed stays w.in_ok-push-in-Some-2.ensures.items c.loop.invariant)
  | in-None+in-Some-pop+in_ok-note-in-Some-pop w ↦
      let k = c.args.kind in
      let calls = c.args.calls.now in
      let r = c.loop.reached in
      let passed : HasNonePlayed k calls (world_of r) c.loop.next → HasNonePlayed k calls (world_of r) (length calls) = rw w.in-None.is at c.in_ok-then.ensures.none in
      let m = w.in-Some-pop.moved in
      let le : w.saturating_add-next-in-Some-pop.result ≤ m.number + 1 = omega (arith, w.saturating_add-next-in-Some-pop.ensures) in
      search_same k calls w.pop.new.self c.match-branch-3.path m.reached c.match-branch-3.reached w.saturating_add-next-in-Some-pop.result c.match-branch-3.next w.note.new.self c.match-branch-3.seen
      w.path-is w.reached-is w.next-is w.seen-is
      (search_back k calls c.loop.path.items w.pop.new.self.items m r c.loop.next w.saturating_add-next-in-Some-pop.result c.loop.seen.worlds.items w.note.new.self.worlds.items passed
      w.in-Some-pop.ensures.items w.in_ok-note-in-Some-pop.ensures le c.loop.invariant)
]
