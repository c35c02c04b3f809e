use Rattle.linux_rules.proofs.target.takes_parts.Goals as goal

pub returns-in-Striped : goal.returns-in-Striped
returns-in-Striped c = rw c.in-Striped.is (rw c.as_slice-bases.ensures at c.are_parts-in-Striped.ensures)
