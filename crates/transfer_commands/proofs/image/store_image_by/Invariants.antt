use Rattle.std.proofs.Common.{◌≡◌, ◌-◌, ◌≤◌, length}
use Rattle.transfer_commands.specs.Images.{HasStoredImage}
use Rattle.transfer_commands.proofs.ImageLemmas.{IsUnchanged}
use Rattle.transfer_commands.proofs.image.store_image_by.Given as goal

-- the source's sectors before this one were read and written
abbrev pub invariant-pieces : goal.invariant-pieces
invariant-pieces g l = record {
  stored : HasStoredImage l.fn.d.0 l.fn.first l.done l.fn.stack (g.S.BlockDev.state l.fn.source) l.stack;
  source : IsUnchanged (g.S.BlockDev.state l.fn.source) (g.S.BlockDev.state l.source);
  config : l.stack.config ≡ l.fn.stack.config;
  within : l.done ≤ l.sectors;
  room : length l.room ≡ 65536;
}

abbrev pub decreases-pieces : goal.decreases-pieces
decreases-pieces g l = l.sectors - l.done
