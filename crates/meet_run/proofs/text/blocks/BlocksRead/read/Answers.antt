-- Proof of `Blocks::read`, src/text/blocks.rt.
use Rattle.std.proofs.Common.{◌≡◌, ◌<◌, ◌≤◌, ◌∷◌, [], length, take, subst, sym, rules, tests}
use Rattle.std.specs.Prelude.{slice_range, slice_set}
use Rattle.std.specs.Io.KnownBytes.{Keeps, prepend_known}
use Rattle.meet_run.specs.Texts.Blocks.{known_of}
use Rattle.meet_run.proofs.Texts.BlockLemmas.{next-byte, written-first, byte-taken}
use Rattle.meet_run.proofs.text.blocks.BlocksRead.read.Goals as goal

pub returns-clause-bytes : goal.returns-clause-bytes
returns-clause-bytes g c =
    let i = c.self.inside in
    let kept : Keeps (known_of g.R.Read.remaining c.args.self.now) (prepend_known (slice_range i.block.items i.at i.end) (g.R.Read.remaining i.reader)) = subst (λ v. Keeps (known_of g.R.Read.remaining c.args.self.now) (known_of g.R.Read.remaining v)) (sym c.self.view_is) c.ready.ensures.known in
    let some : i.at < i.end = search (rules, tests) in
    let inside : i.end ≤ length i.block.items = search (rules, tests) in
    let first : take 1 (slice_set c.args.buf.now 0 c.index.result.now) ≡ c.index.result.now ∷ [] = written-first c.args.buf.now c.index.result.now (search (rules, tests)) in
    (rw first (byte-taken (known_of g.R.Read.remaining c.args.self.now) (g.R.Read.remaining i.reader) _ _ c.index.result.now kept (next-byte i.block.items i.at i.end c.index.result.now some inside c.index.ensures)), λ none. absurd cc)
