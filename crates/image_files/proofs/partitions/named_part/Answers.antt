use Rattle.std.proofs.Common.{inl, inr, refl, sym}
use Rattle.image_files.proofs.partitions.named_part.Goals as goal

pub returns-in-Ok-Some-clause-ok : goal.returns-in-Ok-Some-clause-ok
returns-in-Ok-Some-clause-ok c =
    record { partition = c.in-Ok-Some.partition; found = sym (rw (c.deref.ensures.value, c.in-Ok-Some.field-0-is) at c.in-Ok-Some.ensures.ok); is = c.part_of.ensures }

pub returns-in-Ok-None-clause-err : goal.returns-in-Ok-None-clause-err
returns-in-Ok-None-clause-err c = inl (record { lacks = sym (rw (c.deref.ensures.value, c.in-Ok-None.field-0-is) at c.in-Ok-None.ensures.ok); is = refl })

pub returns-in-Err-clause-err : goal.returns-in-Err-clause-err
returns-in-Err-clause-err c = inr (refl, (c.in-Err.field-0.asked, c.in-Err.ensures.err, c.in-Err.field-0.refused))
