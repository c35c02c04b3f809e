use Rattle.std.proofs.Common.{◌/◌, length, map}
use Rattle.tree_repair.proofs.BillLemmas.{AreReadSoFar}
use Rattle.tree_repair.specs.Sources.{AreEachRead, AreNotIn, wanted}
use Rattle.tree_repair.proofs.seeking.seek_copies.Given as goal

-- the copies so far were read, and haven't the bytes
abbrev pub invariant-copies : goal.invariant-copies
invariant-copies g l = record {
  read : AreEachRead (map g.C.BlockDev.state l.fn.copies) (map g.C.BlockDev.state l.copies);
  asked : AreReadSoFar l.k (map g.C.BlockDev.state l.fn.copies) (length l.fn.block / 512) (map g.C.BlockDev.state l.copies);
  none : AreNotIn (map g.C.BlockDev.state l.fn.copies) (map g.C.BlockDev.state l.copies) l.first (wanted l.salt l.digest (length l.fn.block / 512)) l.k;
}
