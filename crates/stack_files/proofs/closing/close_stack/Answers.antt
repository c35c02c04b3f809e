use Rattle.stack_files.proofs.closing.close_stack.Goals as goal

pub returns : goal.returns
returns g c = record { devices = c.into_parts-devices.result.1.items; are = c.into_parts-devices.ensures.leaves; closed = c.close_each.ensures }
