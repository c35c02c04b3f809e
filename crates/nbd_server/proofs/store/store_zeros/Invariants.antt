use Rattle.std.proofs.Common.{◌<◌}
use Rattle.nbd_protocol.specs.Exports.{IsExport, export_record}
use Rattle.nbd_server.specs.Premises.{AreExportSectors, HaveEnds}
use Rattle.nbd_server.specs.Zeros.{zeros_of}
use Rattle.nbd_server.proofs.StoreLemmas.{IsPut}
use Rattle.nbd_server.proofs.store.store_zeros.Given as goal

-- the first sectors were put, and the rest are left
abbrev pub invariant-runs : goal.invariant-runs
invariant-runs g l = record {
  put : IsPut l.fn.queue l.export.device.0 l.first l.at (zeros_of l.zeros) (zeros_of l.rest) l.queue;
  export : IsExport l.queue.stack.config (export_record l.export);
  ends : HaveEnds l.rest;
  some : 0 < l.rest.count;
  sectors : AreExportSectors (export_record l.export) l.at (zeros_of l.rest);
}

abbrev pub decreases-runs : goal.decreases-runs
decreases-runs g l = l.rest.count
