use Rattle.std.proofs.Common.{refl}
use Rattle.stack_session.specs.Commands.{cost}
use Rattle.stack_session.specs.Replies.{cost_of, RepliesTo, WholeStep}
use Rattle.stack_session.proofs.ReplyLemmas.{writes_reply, device_text-some}
use Rattle.stack_session.proofs.server.reply_to_cost.Goals as goal

pub returns-in-Some : goal.returns-in-Some
returns-in-Some g c =
    let found = rw (c.config-config.ensures.value, c.stack.ensures) at c.in-Some.ensures in
    let written = rw (c.config-config.ensures.value, c.stack.ensures) at c.say_cost.ensures in
    writes_reply g.W.Write.contents (λ reply. RepliesTo WholeStep c.args.queue.now (cost c.args.name.now) reply c.args.queue.now) (cost_of c.args.queue.now.stack.config c.in-Some.d.0)
    (device_text-some c.args.queue.now.stack.config c.args.name.now (cost_of c.args.queue.now.stack.config) c.in-Some.d found, refl)
    written
