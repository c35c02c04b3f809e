-- Passes over a device, with the number of blocks that parity restored meanwhile.
use Rattle.std.specs.Prelude.{◌≡◌, ◌-◌, Option, option_map}
use Rattle.block_device.specs.Device.{Device}
use Rattle.image_files.specs.Opener.{Calls, Opener, calls}
use Rattle.scan_commands.specs.declared.map_file.MapPath.{MapPath}
use Rattle.scan_commands.specs.declared.pass_counts.PassCounts.{PassCounts}
use Rattle.scan_commands.specs.declared.passing.Passing.{Passing}
use Rattle.scan_commands.specs.MapFiles.{MapPathRecord, map_path_of}
use Rattle.scan_commands.specs.Passes.{Moving, Passes, moving, retried_of}
use Rattle.stack_recovery.specs.declared.recovery.Counts.{Counts}
use Rattle.stack_recovery.specs.Listings.{Listed}
use Rattle.stack_recovery.specs.Recoveries.{sides}
use Rattle.scan_commands.specs.Retries.{Retried}

-- no block was restored
abbrev pub unrestored : Counts → PassCounts
unrestored sectors = record { sectors = sectors; restored = 0 }

-- the sectors were read with these counts, and so many more blocks are restored than before
pub record CountsPass {S D : Type 0} (w : Calls S D) (map : Option MapPathRecord) (t : Retried) (m : Moving) (counts : PassCounts) : Type 0 where
  pub passed : Passes w map t m counts.sectors
  pub restored : counts.restored ≡ m.new.stack.restored - m.old.stack.restored

-- in terms of the arguments of a call
module _ {S D E O L : Type 0} (relations : Opener S D) (state : D → Device) (seen : O → Device) (told : L → Listed) (images images' : S) (old new : Passing E O) (listing listing' : L) where
  abbrev pub CountsPassBy : Option MapPath → PassCounts → Type 0
  CountsPassBy map = CountsPass (calls relations state images images') (option_map map_path_of map) (retried_of old) (moving (sides old.stack (seen old.out) (told listing)) (sides new.stack (seen new.out) (told listing')))
