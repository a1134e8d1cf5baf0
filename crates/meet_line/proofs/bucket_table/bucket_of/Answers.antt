-- Proof of `bucket_of`, src/bucket_table.rt. The bucket of a ticket, where there are so many: its lowest bits, as their
-- number is a power of two.
use Rattle.std.proofs.Common.{◌≡◌, ◌%◌, ◌-◌, sym, subst, arith, inl, inr}
use Rattle.std.specs.Int.Bits.{bit_and}
use Rattle.std.proofs.lemmas.Nat.{and_mask}
use Rattle.meet_line.proofs.bucket_table.bucket_of.Goals as goal

pub returns-clause-is : goal.returns-clause-is
returns-clause-is c =
    elim c.requires.size [
      | inl none ↦ absurd (omega (arith, c.requires.some, none))
      | inr power ↦ subst (λ n. bit_and c.args.ticket (n - 1) ≡ c.args.ticket % n) (sym power.1) (and_mask c.args.ticket power.0)
    ]
