use Rattle.std.proofs.Common.{◌∙◌, sym}
use Rattle.nbd_protocol.proofs.QueryLemmas.{if-some}
use Rattle.nbd_protocol.proofs.contexts.wants_context.Goals as goal

pub returns-clause-string : goal.returns-clause-string
returns-clause-string c = if-some c.wanted_of.result (sym c.is_string.ensures ∙ c.if-not-is_string.false)
