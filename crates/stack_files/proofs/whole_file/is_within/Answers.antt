use Rattle.stack_files.proofs.whole_file.is_within.Goals as goal

pub returns-in-Some : goal.returns-in-Some
returns-in-Some g c = rw c.in-Some.is c.is_inside.ensures.inside
