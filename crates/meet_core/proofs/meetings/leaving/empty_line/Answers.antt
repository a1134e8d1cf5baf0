-- Proof of `empty_line`, src/meetings/leaving.rt. Takes the items out of a line, in the order in which they would be
-- met, and puts them behind the others.
use Rattle.std.proofs.Common.{◌≡◌, ◌∙◌, sym, vec_len, vec_capacity, arith}
use Rattle.std.specs.List.{cons_option}
use Rattle.meet_core.specs.Left.{left_in_line}
use Rattle.meet_line.proofs.Taken.{taken-items, taken-len, taken-room, all_taken-items, all_taken-len}
use Rattle.meet_core.proofs.Leaving.{left_in_line-met, left_in_line-none, unmet-none}
use Rattle.meet_core.proofs.meetings.leaving.empty_line.Goals as goal

pub push_left-requires : goal.push_left-requires
push_left-requires g c =
    let end = g.L.Line.end in
    let line = g.L.Line.entries c.loop-entry.line in
    let rest = left_in_line end (g.L.Line.entries c.meet.new.self) in
    let parts : left_in_line end line ≡ cons_option c.of_entry.result rest = left_in_line-met end line _ c.in-Some.entry c.of_entry.result (sym c.in-Some.ensures.entry) c.in-Some.ensures.entries c.of_entry.ensures in
    taken-room (vec_len c.loop-entry.left) (vec_capacity c.loop-entry.left) (left_in_line end line) rest c.of_entry.result parts (omega arith)

pub loop-entry-preserved : goal.loop-entry-preserved
loop-entry-preserved g c =
    let end = g.L.Line.end in
    let line = g.L.Line.entries c.loop-entry.line in
    let rest = left_in_line end (g.L.Line.entries c.meet.new.self) in
    let parts : left_in_line end line ≡ cons_option c.of_entry.result rest = left_in_line-met end line _ c.in-Some.entry c.of_entry.result (sym c.in-Some.ensures.entry) c.in-Some.ensures.entries c.of_entry.ensures in
    record {
      items = taken-items c.loop-entry.left.items c.push_left.new.list.items _ (left_in_line end line) rest c.of_entry.result parts c.push_left.ensures.items c.loop-entry.invariant.items;
      len = taken-len (vec_len c.loop-entry.left) (vec_len c.push_left.new.list) _ (left_in_line end line) rest c.of_entry.result parts c.push_left.ensures.len c.loop-entry.invariant.len;
      capacity = c.push_left.ensures.capacity ∙ c.loop-entry.invariant.capacity;
    }

pub destroy_empty-requires : goal.destroy_empty-requires
destroy_empty-requires g c =
    c.meet.ensures.entries ∙ unmet-none g.L.Line.end (g.L.Line.entries c.loop-entry.line) (sym c.meet.ensures.entry ∙ c.in_default.is)

pub returns-clause-items : goal.returns-clause-items
returns-clause-items g c =
    let none = left_in_line-none g.L.Line.end (g.L.Line.entries c.loop-entry.line) (sym c.meet.ensures.entry ∙ c.in_default.is) in
    all_taken-items c.loop-entry.left.items _ _ none c.loop-entry.invariant.items

pub returns-clause-len : goal.returns-clause-len
returns-clause-len g c =
    let none = left_in_line-none g.L.Line.end (g.L.Line.entries c.loop-entry.line) (sym c.meet.ensures.entry ∙ c.in_default.is) in
    all_taken-len (vec_len c.loop-entry.left) _ _ none c.loop-entry.invariant.len
