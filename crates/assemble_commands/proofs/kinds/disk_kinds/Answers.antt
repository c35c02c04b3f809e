use Rattle.assemble_commands.specs.Kinds.{disk_kinds}
use Rattle.assemble_commands.proofs.kinds.disk_kinds.Goals as goal

pub returns-clause-ok : goal.returns-clause-ok
unfolding disk_kinds
returns-clause-ok c =
    rw (c.in_ok-name.ensures.ok, c.in_ok-tree.ensures.ok) at (rw (c.deref.ensures.value, c.deref-2.ensures.value) at (rw (c.kind_named.ensures, c.kind_named-2.ensures) at c.both_kinds.ensures))
