use Rattle.image_files.proofs.named_parts.open_at.Goals as goal

pub returns-in-Err-clause-err : goal.returns-in-Err-clause-err
returns-in-Err-clause-err g c = record { cause = c.in-Err.fault; refused = c.in-Err.ensures.opened; is = c.part_cause.ensures }
