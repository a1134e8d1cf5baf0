-- Proof of `behind_prefix`, src/text/words.rt. What stands behind a prefix, where a text begins with it.
use Rattle.meet_run.proofs.Texts.WordLemmas.{behind-stripped}
use Rattle.meet_run.proofs.text.words.behind_prefix.Goals as goal

pub returns : goal.returns
returns c = behind-stripped c.args.prefix.now c.args.text.now c.strip_prefix.result c.strip_prefix.ensures.cases
