use Rattle.nbd_protocol.proofs.contexts.say_wanted.Goals as goal

pub string_in-requires : goal.string_in-requires
string_in-requires g c = rw c.in-Some.is at c.wants_context.ensures.string
