-- What is updated.
use Rattle.std.specs.Prelude.{true}
use Rattle.repair_commands.specs.declared.pair.RepairPlaces.{RepairPlaces}
use Rattle.update_commands.specs.declared.order.UpdateOrder.{UpdateOrder}

-- the two images, which may be written; the hash image begins at the beginning of what its argument names
abbrev pub places_of : UpdateOrder → RepairPlaces
places_of order = record { «data» = order.«data»; hash = order.hash; hash_first = 0; write = true }
