-- The open devices that are updated.
use Rattle.std.proofs.Common.{◌≡◌, map, ap, ◌∙◌}
use Rattle.block_device.specs.Device.{Device}
use Rattle.repair_commands.specs.declared.opening.Copies.{Copies}
use Rattle.repair_commands.specs.declared.opening.Opened.{Opened}
use Rattle.repair_commands.specs.Commands.{opened_world}
use Rattle.tree_repair.specs.Worlds.{repair_world}

-- they are those that were opened
pub world-same : {D : Type 0} (state : D → Device) (o : Opened D) (d h : D) (copies : Copies D) → d ≡ o.pair.data_image.device → h ≡ o.pair.hash_image.device → copies ≡ o.copies
    → repair_world (state d) (state h) (map state copies.data_copies.items) (map state copies.hash_copies.items) ≡ opened_world state o
world-same {D = D} state o d h copies e f same =
    ap (λ x. repair_world (state x) (state h) (map state copies.data_copies.items) (map state copies.hash_copies.items)) e
    ∙ ap (λ x. repair_world (state o.pair.data_image.device) (state x) (map state copies.data_copies.items) (map state copies.hash_copies.items)) f
    ∙ ap (λ (x : Copies D). repair_world (state o.pair.data_image.device) (state o.pair.hash_image.device) (map state x.data_copies.items) (map state x.hash_copies.items)) same
