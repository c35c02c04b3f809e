-- The sentences on files that can't be opened or read.
use Rattle.std.specs.Prelude.{ℕ, List, codes, Option, Some, None}
use Rattle.block_device.specs.declared.open_fault.OpenFault.{OpenFault}
use Rattle.block_device.specs.declared.open_fault.OpenFault.TheVariants as opening

-- a file that can't be opened or read
unfoldable pub open_message : OpenFault → Option (List ℕ)
open_message opening.NotFound = Some (codes "there is no such file, or no such part of it: check the path; in a service it has to be absolute")
open_message opening.NotAllowed = Some (codes "the file may not be opened so: check its permissions, or its partition table with 'dmstack partitions'; a file bound with 'ro:' is only read")
open_message opening.TooLarge = Some (codes "the file has more than 2^54 sectors: bind a part of it with 'ro@FIRST+COUNT:FILE'")
open_message opening.OtherFault = Some (codes "this is neither a file nor a block device (of '--map': no regular file; behind 'ro%': no map of the file), or it can't be opened or read: 'dmesg' may say why")
open_message opening.SameFile = Some (codes "an earlier argument leads to the same file, and one of the two is opened for writing: name another file, or bind both with 'ro:'")
open_message opening.InUse = Some (codes "another process holds the file's lock: wait until it ends; a file bound with 'ro:' needs no lock")
open_message opening.NoMemory = None
