use Rattle.nbd_protocol.proofs.contexts.selected.Goals as goal

pub string_in-requires : goal.string_in-requires
string_in-requires c = rw c.in-Some-true.is at c.wants_context.ensures.string
