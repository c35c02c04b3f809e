use Rattle.std.proofs.Common.{Ok, Err}
use Rattle.request_queue.specs.Requests.{request_record}
use Rattle.stack_session.specs.Accesses.{access_record}
use Rattle.stack_session.specs.Commands.{submit}
use Rattle.stack_session.specs.Texts.{submit_text, ticket_text}
use Rattle.stack_session.specs.Replies.{RepliesTo, WholeStep}
use Rattle.stack_session.proofs.ReplyLemmas.{writes_reply, submit_replies}
use Rattle.stack_session.proofs.server.reply_to_submit.Goals as goal

pub returns-in-Ok-submit : goal.returns-in-Ok-submit
returns-in-Ok-submit g c =
    let r = access_record c.args.access in
    writes_reply g.W.Write.contents (λ reply. RepliesTo WholeStep c.args.queue.now (submit r) reply c.submit.new.self) (ticket_text c.in-Ok-submit.ticket.0)
    (submit_replies c.args.queue.now c.submit.new.self r (request_record c.in-Ok.request) (Ok c.in-Ok-submit.ticket.0) c.in-Ok.ensures.ok c.in-Ok-submit.ensures.ok)
    c.say_ticket.ensures

pub returns-in-Err : goal.returns-in-Err
returns-in-Err g c =
    let r = access_record c.args.access in
    writes_reply g.W.Write.contents (λ reply. RepliesTo WholeStep c.args.queue.now (submit r) reply c.submit.new.self) (submit_text c.in-Err.fault)
    (submit_replies c.args.queue.now c.submit.new.self r (request_record c.in-Ok.request) (Err c.in-Err.fault) c.in-Ok.ensures.ok c.in-Err.ensures.err)
    c.say_submit_fault.ensures
