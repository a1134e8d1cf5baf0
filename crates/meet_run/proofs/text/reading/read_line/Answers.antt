-- Proof of `read_line`, src/text/reading.rt. Reads the next line, without the byte 10 at its end, into `line`, which
-- has room for it.
use Rattle.std.proofs.Common.{rules, ◌≡◌, ◌≤◌, ℕ, ◌+◌, ◌<◌, false, eqb, List, [], ◌∷◌, ◌++◌, length, length-append, subst, sym, arith}
use Rattle.std.specs.Io.KnownBytes.{Consumes}
use Rattle.meet_run.proofs.Texts.LineLemmas.{plain-push, consumes-more, takes-ended, takes-last, begins-too-long, fails-behind, fails-within}
use Rattle.meet_run.specs.Texts.Reading.{HasNoEnd}
use Rattle.meet_run.proofs.text.reading.read_line.Goals as goal

pub returns-in-Byte-eq10-clause-read : goal.returns-in-Byte-eq10-clause-read
returns-in-Byte-eq10-clause-read g c =
    let old = g.R.Read.remaining c.args.reader.now in
    let new = g.R.Read.remaining c.read_byte.new.reader in
    let line = c.loop-byte.line.items in
    let end : c.in-Byte-eq10.field-0 ≡ 10 = search rules in
    let taken = consumes-more old (g.R.Read.remaining c.loop-byte.reader) new line (c.in-Byte-eq10.field-0 ∷ []) c.loop-byte.invariant.taken c.in-Byte-eq10.ensures.0 in
    (takes-ended old new line c.loop-byte.invariant.plain (subst (λ (b : ℕ). Consumes old new (line ++ b ∷ [])) end taken), c.loop-byte.invariant.short)

pub returns-in-Byte-eq10-clause-uses : goal.returns-in-Byte-eq10-clause-uses
returns-in-Byte-eq10-clause-uses g c =
    let old = g.R.Read.remaining c.args.reader.now in
    let new = g.R.Read.remaining c.read_byte.new.reader in
    let line = c.loop-byte.line.items in
    let b = c.in-Byte-eq10.field-0 in
    let taken = consumes-more old (g.R.Read.remaining c.loop-byte.reader) new line (b ∷ []) c.loop-byte.invariant.taken c.in-Byte-eq10.ensures.0 in
    (line ++ b ∷ [], taken, omega (arith, length-append line (b ∷ []), c.in-Byte-eq10.ensures.1))

pub returns-then-len-ge-LONGEST_LINE-clause-read : goal.returns-then-len-ge-LONGEST_LINE-clause-read
returns-then-len-ge-LONGEST_LINE-clause-read g c =
    let old = g.R.Read.remaining c.args.reader.now in
    let new = g.R.Read.remaining c.read_byte.new.reader in
    let line = c.loop-byte.line.items in
    let b = c.in-Byte.byte in
    let other : eqb b 10 ≡ false = search rules in
    let long : 128 ≤ length line = omega (arith, c.loop-byte.line.ok.0) in
    let taken = consumes-more old (g.R.Read.remaining c.loop-byte.reader) new line (b ∷ []) c.loop-byte.invariant.taken c.in-Byte.ensures.0 in
    begins-too-long old new line b c.loop-byte.invariant.plain other long taken

pub returns-then-len-ge-LONGEST_LINE-clause-uses : goal.returns-then-len-ge-LONGEST_LINE-clause-uses
returns-then-len-ge-LONGEST_LINE-clause-uses g c =
    let old = g.R.Read.remaining c.args.reader.now in
    let new = g.R.Read.remaining c.read_byte.new.reader in
    let line = c.loop-byte.line.items in
    let b = c.in-Byte.byte in
    let taken = consumes-more old (g.R.Read.remaining c.loop-byte.reader) new line (b ∷ []) c.loop-byte.invariant.taken c.in-Byte.ensures.0 in
    (line ++ b ∷ [], taken, omega (arith, length-append line (b ∷ []), c.in-Byte.ensures.1))

pub loop-byte-preserved : goal.loop-byte-preserved
loop-byte-preserved g c =
    let old = g.R.Read.remaining c.args.reader.now in
    let new = g.R.Read.remaining c.read_byte.new.reader in
    let line = c.loop-byte.line.items in
    let b = c.in-Byte.byte in
    let other : eqb b 10 ≡ false = search rules in
    let short : length line < 128 = omega (arith, c.loop-byte.line.ok.0) in
    let taken = consumes-more old (g.R.Read.remaining c.loop-byte.reader) new line (b ∷ []) c.loop-byte.invariant.taken c.in-Byte.ensures.0 in
    let more : line ++ b ∷ [] ≡ c.push_reserved.new.self.items = sym {A = List ℕ} c.push_reserved.ensures.items in
    record {
      taken = subst (λ (t : List ℕ). Consumes old new t) more taken;
      turns = subst (λ (t : List ℕ). length t + c.read_byte.new.turns ≡ c.args.turns.now) more (omega (arith, length-append line (b ∷ []), c.in-Byte.ensures.1));
      short = subst (λ (t : List ℕ). length t ≤ 128) more (omega (arith, length-append line (b ∷ [])));
      plain = subst (λ (t : List ℕ). HasNoEnd t) more (plain-push line b c.loop-byte.invariant.plain other);
      room = omega (arith, c.push_reserved.ensures.capacity);
    }

pub returns-else-is_empty-clause-read : goal.returns-else-is_empty-clause-read
returns-else-is_empty-clause-read g c =
    let old = g.R.Read.remaining c.args.reader.now in
    let new = g.R.Read.remaining c.read_byte.new.reader in
    let line = c.loop-byte.line.items in
    let some : 0 < length line = grind (arith, c.loop-byte.line.ok.0) in
    let taken = consumes-more old (g.R.Read.remaining c.loop-byte.reader) new line [] c.loop-byte.invariant.taken c.in-End.ensures.0 in
    let same : line ++ [] ≡ line = search rules in
    (takes-last old new line c.loop-byte.invariant.plain some (subst (λ (t : List ℕ). Consumes old new t) same taken) c.in-End.ensures.1, c.loop-byte.invariant.short)

pub returns-in-Failed-clause-read : goal.returns-in-Failed-clause-read
returns-in-Failed-clause-read g c =
    let old = g.R.Read.remaining c.args.reader.now in
    let new = g.R.Read.remaining c.read_byte.new.reader in
    let line = c.loop-byte.line.items in
    let taken = consumes-more old (g.R.Read.remaining c.loop-byte.reader) new line [] c.loop-byte.invariant.taken c.in-Failed.ensures.0 in
    let same : line ++ [] ≡ line = search rules in
    (subst (λ (t : List ℕ). Consumes old new t) same taken, fails-behind (length line) c.args.turns.now c.loop-byte.turns c.read_byte.new.turns c.loop-byte.invariant.turns c.in-Failed.ensures.1)

pub returns-in-Failed-clause-uses : goal.returns-in-Failed-clause-uses
returns-in-Failed-clause-uses g c =
    let old = g.R.Read.remaining c.args.reader.now in
    let new = g.R.Read.remaining c.read_byte.new.reader in
    let line = c.loop-byte.line.items in
    let taken = consumes-more old (g.R.Read.remaining c.loop-byte.reader) new line [] c.loop-byte.invariant.taken c.in-Failed.ensures.0 in
    let same : line ++ [] ≡ line = search rules in
    (line, subst (λ (t : List ℕ). Consumes old new t) same taken, fails-within (length line) c.args.turns.now c.read_byte.new.turns (fails-behind (length line) c.args.turns.now c.loop-byte.turns c.read_byte.new.turns c.loop-byte.invariant.turns c.in-Failed.ensures.1))
