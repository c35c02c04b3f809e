-- The sentences on pins.
use Rattle.std.specs.Prelude.{ℕ, List, codes, Option, Some, None}
use Rattle.image_pin.specs.declared.fault.PinFault.{PinFault}
use Rattle.image_pin.specs.declared.fault.PinFault.TheVariants as pin
use Rattle.image_pin.specs.declared.mismatch.Mismatch.{Mismatch}
use Rattle.image_pin.specs.declared.mismatch.Mismatch.TheVariants as mismatch
use Rattle.image_files.specs.declared.texts.ReplaceFault.{ReplaceFault}
use Rattle.image_files.specs.declared.texts.ReplaceFault.TheVariants as replace

-- a file that is no pin
unfoldable pub pin_message : PinFault → List ℕ
pin_message pin.Header = codes "the file is no pin: its first line isn't 'dmstack-pin 1'"
pin_message pin.Line = codes "a line of the pin isn't a name and a value: get the pin again from where you trust it"
pin_message pin.Unknown = codes "a line of the pin has an unknown name: get the pin again from where you trust it"
pin_message (pin.Repeated name) = codes "two lines of the pin have this name: get the pin again from where you trust it"
pin_message (pin.Missing name) = codes "no line of the pin has this name: get the pin again from where you trust it"
pin_message (pin.Value name) = codes "the pin has no valid value of this name: get the pin again from where you trust it"
pin_message pin.TooLong = codes "the file is longer than a pin: check the path"

-- a superblock that differs from the pin
unfoldable pub mismatch_message : Mismatch → List ℕ
mismatch_message mismatch.DataBlockSize = codes "the data block size isn't that of the pin or of the other image"
mismatch_message mismatch.HashBlockSize = codes "the hash block size isn't that of the pin or of the other image"
mismatch_message mismatch.DataBlocks = codes "the number of data blocks isn't that of the pin: the hash image was changed, or is of another image"
mismatch_message mismatch.Salt = codes "the salt isn't that of the pin or of the other image: format both with the same '--salt'"

-- a pin that can't be written
unfoldable pub unwritten_pin_message : ReplaceFault → Option (List ℕ)
unwritten_pin_message replace.Write = Some (codes "the pin can't be written: check the space on its disk and the permissions of its directory")
unwritten_pin_message replace.Sync = Some (codes "the pin can't be synced: 'dmesg' may say why; the image may be complete")
unwritten_pin_message replace.Rename = Some (codes "the pin can't get its name: check the permissions of its directory; the image may be complete")
unwritten_pin_message replace.NoMemory = None
