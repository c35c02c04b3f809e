-- The sentences on stacks that Linux refuses or reads otherwise.
use Rattle.std.specs.Prelude.{ℕ, List, codes}
use Rattle.linux_rules.specs.declared.refusal.LinuxKind.{LinuxKind}
use Rattle.linux_rules.specs.declared.refusal.LinuxKind.TheVariants as kinds

-- a stack that Linux refuses or reads otherwise
unfoldable pub linux_message : LinuxKind → List ℕ
linux_message kinds.LinuxSize = codes "Linux takes at most 2^54 - 1 sectors: shorten the line"
linux_message kinds.VerityBesideOthers = codes "Linux takes no verity line beside lines of other targets: give it a device of its own"
linux_message kinds.SmallBlock = codes "a block size of the verity line is smaller than a logical block of the device beneath"
linux_message kinds.BeginBeyondDevice = codes "the hash tree begins past the end of its device: check the hash start block"
linux_message kinds.PartBlock = codes "an offset or a length of the line isn't whole logical blocks of the device beneath"
linux_message kinds.DividedBlock = codes "the line begins or ends inside a logical block of the device beneath: align it"
linux_message kinds.UnitStart = codes "the crypt line doesn't begin at a multiple of its sector size: Linux would read other bytes"
linux_message kinds.DividedChunk = codes "the chunk size isn't a multiple of a logical block beneath: Linux may not read all of it"
linux_message kinds.PartSize = codes "the device's size isn't a multiple of its logical block size"
