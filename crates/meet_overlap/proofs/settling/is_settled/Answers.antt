-- Proof of `is_settled`, src/settling.rt. Whether the call of this number began, was met or cut, and hasn't ended, and
-- nobody else has to do with its ticket.
use Rattle.std.proofs.Common.{◌≡◌, ◌∙◌, ◌+◌, length, refl, sym, ap, subst, arith}
use Rattle.std.proofs.lemmas.Option.{slice_get_read}
use Rattle.meet_overlap.specs.declared.calls.Stage.TheVariants.{Open}
use Rattle.meet_overlap.specs.Known.{IsGone, IsSettledBy}
use Rattle.meet_overlap.specs.Places.{hold_at}
use Rattle.meet_overlap.proofs.settling.is_settled.Goals as goal

pub returns-then-is_alone : goal.returns-then-is_alone
returns-then-is_alone c =
    let calls = c.args.calls.now in
    let n = c.args.number in
    let place = c.args.reached.now.place in
    let call = c.index-calls-number.result in
    let ticket : c.in-Open.ticket ≡ n + 1 = omega (arith, c.number.ensures.value, c.if-number-own.false) in
    let held : c.hold-held.result ≡ hold_at place.holds.items call.seat = c.hold-held.ensures ∙ ap (λ holds. hold_at holds call.seat) c.deref.ensures.value in
    let settled : IsSettledBy c.in-Open.ticket c.hold-held.result = c.is_settled_by.ensures c.if-not-is_settled_by.false in
    λ yes. (
      record {
        number = n;
        call = call;
        known = slice_get_read calls (length calls) n call refl c.requires c.index-calls-number.is;
        begun = omega (arith, c.if-reached-call.false);
        stage = sym c.stage.ensures ∙ c.in-Open.is ∙ ap Open ticket;
        alone = λ other opens. c.is_alone.ensures c.if-is_alone.true other (opens ∙ ap Open (sym ticket));
        settled = subst (λ t. IsSettledBy t (hold_at place.holds.items call.seat)) ticket (subst (IsSettledBy c.in-Open.ticket) held settled);
        gone = subst (IsGone call.seat) c.as_slice.ensures (c.is_gone.ensures yes);
      },
      refl,
    )
