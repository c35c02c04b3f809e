use Rattle.std.proofs.Common.{◌<◌, ◌≤◌, ◌+◌, ◌-◌, ◌*◌, ◌%◌, arith}
use Rattle.nbd_protocol.specs.Exports.{export_record}
use Rattle.nbd_server.proofs.DeliveryLemmas.{few-touched, rest-left}
use Rattle.nbd_server.proofs.ProgressLemmas.{most-next}
use Rattle.nbd_server.proofs.delivery.Delivery.piece_len.Goals as goal

pub at-at-requires : goal.at-at-requires
at-at-requires c = rest-left c.args.config.now (export_record c.args.export.now) c.args.self c.args.progress c.requires.bytes (omega (arith, c.requires.some))

pub piece_sectors-sectors-requires-clause-bytes : goal.piece_sectors-sectors-requires-clause-bytes
piece_sectors-sectors-requires-clause-bytes c = record { export = c.requires.bytes.export; within = omega (arith, c.at-at.ensures, c.requires.bytes.within, c.requires.some) }

pub piece_sectors-sectors-requires-clause-some : goal.piece_sectors-sectors-requires-clause-some
piece_sectors-sectors-requires-clause-some c = (omega (arith, c.requires.some), omega (arith, c.most.ensures, (most-next c.args.progress).0))

pub returns : goal.returns
returns c =
    let most = most-next c.args.progress in
    let is = rw (c.at-at.ensures, c.most.ensures) at c.piece_sectors-sectors.ensures.value in
    let few = rw c.most.ensures at c.piece_sectors-sectors.ensures.few.1 in
    let sectors = c.piece_sectors-sectors.result in
    let some : 0 < c.min.result = omega (arith, c.min.ensures, c.piece_sectors-sectors.ensures.few.0, c.requires.some, c.from.ensures) in
    let room = 512 * sectors - c.at-at.result % 512 in
    record {
      value = omega (arith, is, c.at-at.ensures, c.min.ensures, c.from.ensures);
      bytes = record {
        some = some;
        few = omega (arith, c.min.ensures, few, most.1);
        inside = omega (arith, c.min.ensures, c.from.ensures, c.requires.some);
      };
      small =
          let size : c.min.result ≤ room = omega (arith, c.min.ensures) in
          let there = few-touched c.at-at.result (c.args.self.offset + c.args.progress.done) c.min.result room sectors c.at-at.ensures size (omega (arith, c.piece_sectors-sectors.ensures.few.0)) in
          omega (arith, there, few);
    }
