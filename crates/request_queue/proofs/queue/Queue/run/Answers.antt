use Rattle.std.proofs.Common.{Ok, Err, subst}
use Rattle.stack_rules.specs.Rules.{IsLoaded}
use Rattle.request_queue.specs.World.{World}
use Rattle.request_queue.specs.Requests.{request_record}
use Rattle.request_queue.proofs.lemmas.BudgetLemmas.{begun-there}
use Rattle.request_queue.proofs.lemmas.WholeRunLemmas.{whole-answers}
use Rattle.request_queue.proofs.queue.Queue.run.Goals as goal

pub finish-requires : goal.finish-requires
finish-requires g c = record { there = begun-there c.args.self.now (request_record c.args.request) c.in-Ok.ticket.0 c.submit.new.self c.in_flight-sound.ensures.sound.tickets c.in-Ok.ensures.ok }

pub returns-in-Ok-finish-clause-whole : goal.returns-in-Ok-finish-clause-whole
returns-in-Ok-finish-clause-whole g c =
    whole-answers c.args.self.now (request_record c.args.request) c.in-Ok.ticket.0 (Ok c.in-Ok-finish.reply) c.submit.new.self c.finish.new.self
    (subst (λ (w : World). IsLoaded w.stack.config) c.self.view_is c.config-loaded.ensures.sound.loaded) c.in_flight-sound.ensures.sound.tickets c.in-Ok.ensures.ok c.in-Ok-finish.ensures.ends

pub returns-in-Err-finish-clause-whole : goal.returns-in-Err-finish-clause-whole
returns-in-Err-finish-clause-whole g c =
    whole-answers c.args.self.now (request_record c.args.request) c.in-Ok.ticket.0 (Err c.in-Err-finish.fault) c.submit.new.self c.finish.new.self
    (subst (λ (w : World). IsLoaded w.stack.config) c.self.view_is c.config-loaded.ensures.sound.loaded) c.in_flight-sound.ensures.sound.tickets c.in-Ok.ensures.ok c.in-Err-finish.ensures.ends
