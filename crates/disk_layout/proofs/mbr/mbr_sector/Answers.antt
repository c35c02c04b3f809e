use Rattle.disk_layout.proofs.AppendLemmas.{few-bytes}
use Rattle.disk_layout.proofs.mbr.mbr_sector.Goals as goal

pub pad-requires : goal.pad-requires
pad-requires c = rw c.bytes.ensures.value (few-bytes c.args.disk.size)
