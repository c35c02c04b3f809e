use Rattle.std.proofs.Common.{arith, refl}
use Rattle.nbd_protocol.specs.Exports.{export_record}
use Rattle.nbd_server.proofs.ReadStatusLemmas.{told-small}
use Rattle.nbd_server.proofs.transmission.tell_status.Goals as goal

pub all-requires : goal.all-requires
all-requires g c = omega (arith, told-small (export_record c.args.export.now) c.args.queue.now c.args.offset c.args.len c.args.one c.in-Ok.told.items c.told_of.new.queue c.in-Ok.ensures.ok)

pub returns-in-Ok-clause-value : goal.returns-in-Ok-clause-value
returns-in-Ok-clause-value g c = rw c.all.ensures.value c.in-Ok.ensures.ok

pub returns-in-Err-clause-value : goal.returns-in-Err-clause-value
returns-in-Err-clause-value g c = rw c.from.ensures (refl, c.in-Err.ensures.err, c.in-Err.ensures.memory)
