use Rattle.std.proofs.Common.{arith}
use Rattle.nbd_protocol.specs.Exports.{export_record}
use Rattle.nbd_server.proofs.FetchLemmas.{sectors-of}
use Rattle.nbd_server.proofs.piece.piece_sectors.Goals as goal

pub aligned_len-requires-clause-inside : goal.aligned_len-requires-clause-inside
aligned_len-requires-clause-inside c =
    let sectors = sectors-of c.args.config.now (export_record c.args.export.now) c.args.at c.args.left c.requires.bytes (omega arith) in
    omega (arith, c.touched-sectors.ensures, sectors.inside)
