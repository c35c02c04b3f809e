use Rattle.std.proofs.Common.{rules, ◌≡◌, ℕ, Option, Some, None, Ok, refl, ap, ◌∙◌}
use Rattle.std.specs.Option.{option_map, option_map_or, unwrap_or}
use Rattle.request_queue.specs.declared.reply.Progress.TheVariants.{Done}
use Rattle.request_queue.specs.Flights.{FlightRecord}
use Rattle.request_queue.specs.Runs.{flight_of}
use Rattle.stack_session.specs.Commands.{step}
use Rattle.stack_session.specs.Texts.{reply_text}
use Rattle.stack_session.specs.Replies.{first_sector, RepliesTo, WholeStep}
use Rattle.stack_session.proofs.ReplyLemmas.{writes_reply, step_replies}
use Rattle.stack_session.proofs.server.reply_to_step.Goals as goal

mapped-or : {A : Type 0} (f : A → ℕ) (o : Option A) → unwrap_or (option_map f o) 0 ≡ option_map_or f o 0
mapped-or f None = refl
mapped-or f (Some x) = refl

pub returns-in-Ok-Done-Ok : goal.returns-in-Ok-Done-Ok
returns-in-Ok-Done-Ok g c =
    let is : c.step.result ≡ Ok (Done (Ok c.in-Ok-Done-Ok.reply)) = search rules in
    let same : c.unwrap_or-first.result ≡ first_sector c.args.queue.now c.args.ticket = c.unwrap_or-first.ensures ∙ ap (λ (o : Option ℕ). unwrap_or o 0) c.first_sector.ensures ∙ mapped-or (λ (f : FlightRecord). f.first) (flight_of c.args.queue.now c.args.ticket) in
    writes_reply g.W.Write.contents (λ reply. RepliesTo WholeStep c.args.queue.now (step c.args.ticket) reply c.step.new.self) (reply_text c.unwrap_or-first.result c.in-Ok-Done-Ok.reply)
    (step_replies c.args.queue.now c.step.new.self c.args.ticket c.unwrap_or-first.result c.in-Ok-Done-Ok.reply c.step.result is same c.step.ensures.step)
    c.say_reply.ensures
