use Rattle.std.proofs.Common.{◌<◌, arith}
use Rattle.nbd_protocol.specs.Exports.{export_record}
use Rattle.nbd_server.specs.Extents.{most_runs}
use Rattle.nbd_server.proofs.StatusLemmas.{extent-status}
use Rattle.nbd_server.proofs.status.status_at.Goals as goal

pub returns : goal.returns
returns c =
    let at = c.args.at in
    let same : at < at → ⊥ = λ below. omega (arith, below) in
    extent-status c.args.config.now (export_record c.args.export.now) at most_runs at c.args.left c.bytes_at.result c.status.result (omega arith) c.bytes_at.ensures c.status.ensures.count c.status.ensures.zeros (λ below. absurd (same below))
