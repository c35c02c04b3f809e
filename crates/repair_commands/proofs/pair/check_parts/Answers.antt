use Rattle.std.proofs.Common.{false, refl, true}
use Rattle.repair_commands.proofs.PairLemmas.{clash-of}
use Rattle.repair_commands.proofs.pair.check_parts.Goals as goal

pub returns-then-is_clash-clause-err : goal.returns-then-is_clash-clause-err
returns-then-is_clash-clause-err g c = record {
  clash = clash-of c.args.places.write c.args.parts c.args.pair.now c.part_use-data_use.result c.part_use-hash_use.result c.is_clash.result true c.part_use-data_use.ensures c.part_use-hash_use.ensures c.is_clash.ensures c.if-is_clash.true;
  is = (refl, refl);
}

pub returns-clause-ok : goal.returns-clause-ok
returns-clause-ok g c =
    clash-of c.args.places.write c.args.parts c.args.pair.now c.part_use-data_use.result c.part_use-hash_use.result c.is_clash.result false c.part_use-data_use.ensures c.part_use-hash_use.ensures c.is_clash.ensures c.if-is_clash.false
