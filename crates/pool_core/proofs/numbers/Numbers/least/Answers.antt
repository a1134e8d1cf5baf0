-- Proof of `Numbers::least`, src/numbers.rt. The least number in it.
use Rattle.std.proofs.Common.{◌≡◌, ◌<◌, subst, sym, ap, ◌∙◌, ◌==◌, not, ℕ}
use Rattle.std.specs.Prelude.{position}
use Rattle.std.specs.Int.{bit_at}
use Rattle.std.proofs.lemmas.Grind.{get_or_default_zero}
use Rattle.std.proofs.lemmas.List.Quantifiers.{position-Some}
use Rattle.pool_core.proofs.Words.{none-held, word-there, least-held, none-below}
use Rattle.pool_core.proofs.numbers.Numbers.least.Goals as goal

pub returns-in_default : goal.returns-in_default
returns-in_default c = none-held c.args.self.now.words.items (ap (position (λ word. not (word == 0))) (sym c.deref.ensures.value) ∙ sym c.in_default.ensures)

pub lowest_bit-bit-requires : goal.lowest_bit-bit-requires
lowest_bit-bit-requires c =
    let items = c.args.self.now.words.items in
    let found = ap (position (λ word. not (word == 0))) (sym c.deref.ensures.value) ∙ sym c.in-Some.ensures in
    let place = c.in-Some.place in
    let within = (position-Some (λ word. not (word == 0)) items place 0 found).0 in
    rw (c.index.ensures ∙ get_or_default_zero items place c.index.result.now within) (word-there items place 0 found)

pub returns : goal.returns
returns c =
    let items = c.args.self.now.words.items in
    let found = ap (position (λ word. not (word == 0))) (sym c.deref.ensures.value) ∙ sym c.in-Some.ensures in
    let place = c.in-Some.place in
    let within = (position-Some (λ word. not (word == 0)) items place 0 found).0 in
    let word = c.index.ensures ∙ get_or_default_zero items place c.index.result.now within in
    let bit = c.lowest_bit-bit in (
      least-held items place bit.result found bit.ensures.within (subst (λ w. bit_at w bit.result ≡ 1) word bit.ensures.is),
      none-below items place bit.result found bit.ensures.within (subst (λ w. (k : ℕ) → k < bit.result → bit_at w k ≡ 0) word bit.ensures.least),
    )
