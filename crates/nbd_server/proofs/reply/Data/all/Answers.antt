use Rattle.std.proofs.Common.{arith}
use Rattle.std.proofs.lemmas.List.{take_all}
use Rattle.nbd_server.proofs.reply.Data.all.Goals as goal

pub returns-clause-value : goal.returns-clause-value
returns-clause-value c = take_all c.len-length.result c.args.bytes.items (omega (arith, c.len-length.ensures))
