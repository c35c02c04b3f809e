-- The stack text of an image, with parity or without.
use Rattle.std.proofs.Common.{◌≡◌, ◌++◌, ℕ, List, Bool, Option, None, Some, refl}
use Rattle.partition_table.specs.declared.sector_size.SectorSize.{SectorSize}
use Rattle.verity_format.specs.Superblock.{SuperRecord}
use Rattle.partition_commands.specs.declared.parity.ImageParity.{ImageParity}
use Rattle.partition_commands.specs.declared.root.ImagePartitions.{ImagePartitions}
use Rattle.partition_commands.specs.RootStacks.{image_entry, image_stack_text, over_pair, parity_entry, root_entry, root_stack_text}

pub image-text : (writable : Bool) (size : SectorSize) (both : ImagePartitions) (s : SuperRecord) (root : List ℕ) (parity : Option ImageParity)
    → over_pair writable size both (parity_entry parity ++ image_entry s root parity) ≡ image_stack_text writable size both s root parity
unfolding root_stack_text root_entry image_entry
image-text writable size both s root None = refl
image-text writable size both s root (Some parity) = refl
