use Rattle.std.proofs.Common.{ap, ◌∙◌, refl, inl}
use Rattle.std.specs.Prelude.{false}
use Rattle.table_text.specs.Print.{printed_table}
use Rattle.request_queue.specs.declared.fault.SubmitFault.TheVariants.{NoSuchDevice}
use Rattle.stack_session.specs.Commands.{table}
use Rattle.stack_session.specs.Texts.{submit_text}
use Rattle.stack_session.specs.Replies.{device_table, RepliesTo, WholeStep}
use Rattle.stack_session.proofs.ReplyLemmas.{writes_reply, device_text-none, device_text-some}
use Rattle.stack_session.proofs.server.reply_to_table.Goals as goal

pub returns-in_default : goal.returns-in_default
returns-in_default g c =
    let none = rw (c.config-config.ensures.value, c.stack.ensures) at c.in_default.ensures in
    writes_reply g.W.Write.contents (λ reply. RepliesTo WholeStep c.args.queue.now (table c.args.name.now) reply c.args.queue.now) (submit_text NoSuchDevice)
    (inl (device_text-none c.args.queue.now.stack.config c.args.name.now (device_table c.args.queue.now.stack.config) none, refl))
    c.say_submit_fault.ensures

pub returns-in-Ok : goal.returns-in-Ok
returns-in-Ok g c =
    let found = rw (c.config-config.ensures.value, c.stack.ensures) at c.in-Some.ensures in
    let lines = rw (c.config-config.ensures.value, c.stack.ensures) at c.table.ensures in
    let printed = c.as_slice.ensures.value ∙ c.in-Ok.ensures.text ∙ ap (printed_table false) lines in
    writes_reply g.W.Write.contents (λ reply. RepliesTo WholeStep c.args.queue.now (table c.args.name.now) reply c.args.queue.now) c.as_slice.result.now
    (inl (printed ∙ device_text-some c.args.queue.now.stack.config c.args.name.now (device_table c.args.queue.now.stack.config) c.in-Some.d found, refl))
    c.put.ensures.writes
