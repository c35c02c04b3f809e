use Rattle.std.proofs.Common.{inl, inr, refl, sym, ◌∙◌}
use Rattle.scan_commands.proofs.map_use.find_map.Goals as goal

pub returns-then-is_block_device-clause-err : goal.returns-then-is_block_device-clause-err
returns-then-is_block_device-clause-err g c =
    inr (record { image = c.in-Ok.image; opened = c.in-Ok.ensures.opened; device = sym c.is_block_device.ensures ∙ c.if-is_block_device.true; is = (refl, refl) })

pub returns-else-is_block_device-clause-ok : goal.returns-else-is_block_device-clause-ok
returns-else-is_block_device-clause-ok g c =
    inl (record { image = c.in-Ok.image; opened = c.in-Ok.ensures.opened; regular = sym c.is_block_device.ensures ∙ c.if-is_block_device.false; is = c.image_use.ensures })
