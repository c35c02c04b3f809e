use Rattle.verity_format.specs.Blocks.{IsOnlyRead}
use Rattle.tree_repair.proofs.listing.add_level.Given as goal

-- the device was only read so far
abbrev pub invariant-rows : goal.invariant-rows
invariant-rows g l = record { read : IsOnlyRead (g.H.BlockDev.state l.fn.hash_dev) (g.H.BlockDev.state l.hash_dev) }
