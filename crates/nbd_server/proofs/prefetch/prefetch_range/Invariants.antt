use Rattle.std.proofs.Common.{◌-◌}
use Rattle.nbd_protocol.specs.Exports.{export_record}
use Rattle.nbd_server.proofs.PrefetchLemmas.{ArePartsRead}
use Rattle.nbd_server.proofs.prefetch.prefetch_range.Given as goal

-- the parts so far were read
abbrev pub invariant-parts : goal.invariant-parts
invariant-parts g l = ArePartsRead (export_record l.export) l.range l.fn.queue l.progress l.queue

-- a part is read
abbrev pub decreases-parts : goal.decreases-parts
decreases-parts g l = l.range.count - l.progress.done
