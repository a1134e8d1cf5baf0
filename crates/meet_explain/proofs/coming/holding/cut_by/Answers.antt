-- Proof of `cut_by`, src/coming/holding.rt. The ticket that an interrupt of this seat cuts behind a base; 0 where it doesn't
-- stand in the line, and is flagged.
use Rattle.std.proofs.Common.{sym, ap, ◌∙◌}
use Rattle.std.specs.Option.{option_map_or}
use Rattle.meet_explain.specs.Holding.{waiting_of}
use Rattle.meet_explain.proofs.Lookups.{cut_told}
use Rattle.meet_explain.proofs.coming.holding.cut_by.Goals as goal

pub returns : goal.returns
returns c =
    c.number_waiting.ensures
    ∙ (ap (λ line. option_map_or (λ e. e.ticket) (waiting_of line c.args.target) 0) (c.as_slice.ensures.value ∙ ap (λ b. b.line) c.base.view_is)
    ∙ sym (cut_told c.args.base.now c.args.target))
