-- Proof of `push_replies`, src/script/run.rt. Appends the lines of these replies.
use Rattle.std.proofs.Common.{◌≡◌, ◌++◌, ◌∙◌, sym, ap, append-nil}
use Rattle.std.proofs.lemmas.List.{take_all}
use Rattle.meet_run.specs.Scripts.Script.{replies_text}
use Rattle.meet_run.specs.Scripts.Wording.{text_of}
use Rattle.meet_run.proofs.Scripts.RunLemmas.{text-none, text-take}
use Rattle.meet_run.proofs.script.run.push_replies.Goals as goal

pub loop-reply-init : goal.loop-reply-init
loop-reply-init c =
    let out = c.args.out.now.items in
    sym (append-nil out) ∙ ap (λ text. out ++ text) (sym text-none)

pub loop-reply-preserved : goal.loop-reply-preserved
loop-reply-preserved c =
    let out = c.args.out.now.items in
    let replies = c.args.replies.now in
    let pushed : c.push_reply.new.out.items ≡ c.loop-reply.out.items ++ text_of c.reply-item.result = c.in-Ok.ensures in
    pushed ∙ ap (λ text. text ++ text_of c.reply-item.result) c.loop-reply.invariant ∙ text-take out replies c.loop-reply.reply-index c.reply-item.result c.loop-reply-test.true c.reply-item.is

pub returns-clause-text : goal.returns-clause-text
returns-clause-text c =
    let out = c.args.out.now.items in
    c.loop-reply.invariant ∙ ap (λ rs. out ++ replies_text rs) (take_all c.loop-reply.reply-index c.args.replies.now c.loop-reply-test.false)
