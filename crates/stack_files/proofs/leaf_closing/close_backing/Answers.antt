use Rattle.stack_files.proofs.leaf_closing.close_backing.Goals as goal

pub returns-in-Mapped : goal.returns-in-Mapped
returns-in-Mapped g c = rw c.in-Mapped.is (rw c.named_part-part.ensures at c.close_place.ensures)
