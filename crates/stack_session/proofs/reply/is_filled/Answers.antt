use Rattle.std.proofs.Common.{◌∙◌}
use Rattle.stack_session.proofs.FilledLemmas.{filled}
use Rattle.stack_session.proofs.reply.is_filled.Goals as goal

pub returns : goal.returns
returns c = c.eq.ensures ∙ filled c.args.bytes.now c.requires
