use Rattle.std.proofs.Common.{map}
use Rattle.update_commands.specs.Listings.{AreEachOnlyRead}
use Rattle.update_commands.proofs.listing.list_seeds.Given as goal

-- the copies so far
abbrev pub invariant-seeds : goal.invariant-seeds
invariant-seeds g l = record { read : AreEachOnlyRead (map g.C.BlockDev.state l.fn.hash_copies) (map g.C.BlockDev.state l.hash_copies) }
