use Rattle.std.proofs.Common.{arith, inl, inr, refl}
use Rattle.verity_commands.proofs.tree_pair.tree_in.Goals as goal

pub returns-in-Err-clause-err : goal.returns-in-Err-clause-err
returns-in-Err-clause-err g c = inl (c.in-Err.fault, c.in-Err.ensures.err, c.pair_fault.ensures)

pub returns-then-sectors-tree_sectors-clause-err : goal.returns-then-sectors-tree_sectors-clause-err
returns-then-sectors-tree_sectors-clause-err g c =
    inr (record {
      tree = c.in-Ok.tree;
      tree_of = c.in-Ok.ensures.ok;
      past = omega (arith, c.if-sectors-tree_sectors.true, c.tree_sectors.ensures.value, c.sectors.ensures.size, c.seek_tree.ensures.read.same.size);
      is = refl;
    })

pub returns-clause-ok : goal.returns-clause-ok
returns-clause-ok g c = record {
  tree_of = c.in-Ok.ensures.ok;
  read = c.seek_tree.ensures.read;
  fits = omega (arith, c.if-sectors-tree_sectors.false, c.tree_sectors.ensures.value, c.sectors.ensures.size, c.seek_tree.ensures.read.same.size);
}
