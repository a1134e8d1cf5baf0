-- Proof of `push`, src/line.rt. An entry joins at the back.
use Rattle.std.proofs.Common.{◌≡◌, ◌∙◌, ◌-◌, ◌≤◌, ◌<◌, ℕ, List, [], ◌∷◌, ◌++◌, true, ltb, Some, None, length, drop, sym, ap, subst, arith}
use Rattle.std.proofs.lemmas.Bool.{ltb-true}
use Rattle.std.proofs.lemmas.List.{drop-append-le}
use Rattle.meet_tickets.specs.declared.lines.Entry.{Entry}
use Rattle.std.specs.Prelude.{slice_get}
use Rattle.meet_overlap.proofs.Rising.{Rises, rises_push, rises_alone, last_of}
use Rattle.meet_overlap.proofs.line.Line.push.Goals.{in-None, in-Some+then-self, in-Some+else-self}
use Rattle.meet_overlap.proofs.line.Line.push.Goals as goal

pub invariant_of-self-2 : goal.invariant_of-self-2
invariant_of-self-2 c =
    let gone = c.self.inside.gone in
    let items = c.self.inside.entries.items in
    let within : gone ≤ length items = omega (arith, c.self.invariant.0) in
    let now : drop gone c.push.new.self.items ≡ drop gone items ++ c.args.entry ∷ [] = ap (drop gone) c.in_ok-push.ensures.items ∙ drop-append-le gone items (c.args.entry ∷ []) within in
    let same_line : c.as_slice.result.now ≡ drop gone items = c.as_slice.ensures ∙ sym c.self.view_is in (
      omega (arith, within, c.in_ok-push.ensures.len),
      λ rises. subst Rises (sym now) (elim c.match-last.branch [
        | in-None w ↦ rises_alone (drop gone items) c.args.entry (subst (λ (l : List (Entry ℕ)). None ≡ slice_get l (length l - 1)) same_line w.in-None.ensures.value)
        | in-Some+then-self w ↦
            let last = w.in-Some.last.now in
            let value : Some last ≡ slice_get (drop gone items) (length (drop gone items) - 1) = subst (λ (l : List (Entry ℕ)). Some last ≡ slice_get l (length l - 1)) same_line w.in-Some.ensures.value in
            let above : last.ticket < c.args.entry.ticket = let holds : ltb w.number.result w.number-then-self.result ≡ true = sym w.rises-is ∙ rises in omega (arith, ltb-true w.number.result w.number-then-self.result holds, w.number.ensures.value, w.number-then-self.ensures.value) in
            rises_push (drop gone items) last c.args.entry (c.self.invariant.1 w.if-self.true) (last_of (drop gone items) last value) above
        | in-Some+else-self w ↦ let never = sym rises ∙ w.rises-is ∙ w.if-self.false in absurd (cc)
      ]),
    )
