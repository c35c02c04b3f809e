use Rattle.std.proofs.Common.{arith, map}
use Rattle.update_commands.proofs.ListingLemmas.{each-next, each-none}
use Rattle.update_commands.proofs.listing.list_seeds.Goals as goal

pub seeds-init : goal.seeds-init
seeds-init g c = record { read = each-none (map g.C.BlockDev.state c.args.hash_copies.now) }

pub returns-then-not-is_added : goal.returns-then-not-is_added
returns-then-not-is_added g c =
    each-next g.C.BlockDev.state (map g.C.BlockDev.state c.args.hash_copies.now) c.seeds.hash_copies c.seeds.k c.index-hash_copies-k.result c.list_old-listed.new.hash_dev (omega arith) c.seeds.invariant.read c.list_old-listed.ensures

pub seeds-preserved : goal.seeds-preserved
seeds-preserved g c = record {
  read = each-next g.C.BlockDev.state (map g.C.BlockDev.state c.args.hash_copies.now) c.seeds.hash_copies c.seeds.k c.index-hash_copies-k.result c.list_old-listed.new.hash_dev (omega arith) c.seeds.invariant.read c.list_old-listed.ensures;
}
