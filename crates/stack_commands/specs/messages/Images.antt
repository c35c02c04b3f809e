-- The sentences on commands on verity images.
use Rattle.std.specs.Prelude.{ℕ, List, codes, Option, Some, None}
use Rattle.image_commands.specs.declared.fault.ImageFault.{ImageFault}
use Rattle.image_commands.specs.declared.fault.ImageFault.TheVariants as image
use Rattle.verity_commands.specs.declared.verity_fault.VerityFault.{VerityFault}
use Rattle.verity_commands.specs.declared.verity_fault.VerityFault.TheVariants as verity
use Rattle.fec_commands.specs.declared.fault.FecFault.{FecFault}
use Rattle.fec_commands.specs.declared.fault.FecFault.TheVariants as fec
use Rattle.manual_pages.specs.messages.Images.{format_message, verify_message}
use Rattle.manual_pages.specs.messages.Opening.{open_message}
use Rattle.manual_pages.specs.messages.Parity.{parity_message}
use Rattle.manual_pages.specs.messages.Pins.{mismatch_message, pin_message, unwritten_pin_message}

-- a command on an image that ends early; none of images that differ
unfoldable pub image_message : ImageFault → Option (List ℕ)
image_message image.NoMemory = None
image_message (image.Open file) = open_message file.fault
image_message (image.Format fault) = format_message fault
image_message (image.Verify fault) = verify_message fault
image_message (image.Differs verdict) = None
image_message image.RootText = Some (codes "the file doesn't begin with a root hash of 64 hexadecimal digits")
image_message image.Unaligned = Some (codes "the tree's offset isn't a multiple of the hash block size: check '--hash-offset'")
image_message image.DataOverlapsTree = Some (codes "DATA and HASH are the same file: give the number of data blocks with '--blocks'")
image_message (image.Pin fault) = Some (pin_message fault)
image_message (image.Unpinned mismatch) = Some (mismatch_message mismatch)
image_message (image.PinUnwritten fault) = unwritten_pin_message fault
image_message image.Random = Some (codes "the system has no random bytes: give '--salt' and '--uuid'")
image_message image.Write = None

-- a command on verity images that ends early
unfoldable pub verity_message : VerityFault → Option (List ℕ)
verity_message verity.Usage = None
verity_message (verity.Image fault) = image_message fault

-- a command on an image with parity that ends early; none of parity that differs
unfoldable pub fec_message : FecFault → Option (List ℕ)
fec_message (fec.Verity fault) = verity_message fault
fec_message fec.BlockSizes = Some (codes "parity needs data blocks and hash blocks of the same size: format the image anew")
fec_message (fec.Parity fault) = parity_message fault
fec_message (fec.Differs round) = None
