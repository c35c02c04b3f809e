-- The sentences on stacks that break a rule.
use Rattle.std.specs.Prelude.{ℕ, List, codes}
use Rattle.stack_rules.specs.declared.refusal.LoadKind.{LoadKind}
use Rattle.stack_rules.specs.declared.refusal.LoadKind.TheVariants as kinds

-- a stack that breaks a rule
unfoldable pub load_message : LoadKind → List ℕ
load_message kinds.DuplicateName = codes "two entries of the stack have the same name: rename the entry with the number after 'device'"
load_message kinds.TooMany = codes "there are more than 64 devices, or more than 256 lines in one device"
load_message kinds.NoSuchDevice = codes "the line names neither a mapped device nor a binding: add NAME=ro:FILE, or write /dev/mapper/NAME"
load_message kinds.StandsOnItself = codes "the device depends on itself: follow the devices that its lines name"
load_message kinds.ZeroLength = codes "the line, or the disk of '--disk', has no sectors: a line's second field is its length"
load_message kinds.Gap = codes "the line doesn't start where the line before ends: the second field is a length, not an end"
load_message kinds.TooLarge = codes "the line ends after 2^54 sectors: its start and length are in sectors"
load_message kinds.StripesDontDivide = codes "the length isn't a multiple of COUNT times CHUNK, or of CHUNK in an unstriped line: shorten the line"
load_message kinds.BeyondDevice = codes "the line ends past the device beneath: check the image's size, and that all numbers are sectors"
load_message kinds.LineBeyondTree = codes "the verity line has more sectors than its data blocks: print the line with 'dmstack table'"
load_message kinds.TreeBeyondDevice = codes "the hash tree ends past its device: check the size of HASH, or print the line with 'dmstack table'"
load_message kinds.NeedsReadOnly = codes "a device with a verity line can't be written: replace 'rw' by 'ro' in its entry"
load_message kinds.LowerReadOnly = codes "a device beneath this writable one is read-only: bind its image with 'rw:', or make this one 'ro'"
load_message kinds.TooDeep = codes "more than 8 devices are stacked on each other: join some of their lines"
load_message kinds.CostTooLarge = codes "reading one sector could move more than 2^32 sectors of the images: remove a layer"
load_message kinds.UnitDoesntDivide = codes "the length of the crypt line isn't a multiple of its sector size: shorten the line"
load_message kinds.IvOffset = codes "the IV offset of the crypt line isn't a multiple of its sector size"
load_message kinds.ParityDoesntCover = codes "the parity leaves out data or hash blocks, or data and hash blocks differ in size: check the line's 'fec_blocks'"
