-- The sentences on verity images that aren't made or compared.
use Rattle.std.specs.Prelude.{ℕ, List, codes, Option, Some, None}
use Rattle.verity_format.specs.declared.decoding.SuperFault.{SuperFault}
use Rattle.verity_format.specs.declared.decoding.SuperFault.TheVariants as super
use Rattle.verity_format.specs.declared.formatting.FormatFault.{FormatFault}
use Rattle.verity_format.specs.declared.formatting.FormatFault.TheVariants as format
use Rattle.verity_format.specs.declared.verifying.VerifyFault.{VerifyFault}
use Rattle.verity_format.specs.declared.verifying.VerifyFault.TheVariants as verify

-- a superblock that isn't supported
unfoldable pub super_message : SuperFault → List ℕ
super_message super.Signature = codes "there is no superblock: check that the hash image isn't DATA, and '--hash-offset'; else run an interrupted 'format' or 'update' again, or it is damaged"
super_message super.Version = codes "the version of the superblock isn't 1: the hash image is damaged, or of another format"
super_message super.HashType = codes "the hash type isn't 1: format the image anew without 'veritysetup --format 0', or the hash image is damaged"
super_message super.Algorithm = codes "the hash algorithm isn't sha256: format the image anew with it, or the hash image is damaged"
super_message super.DataBlockSize = codes "the data block size isn't 512, 1024, 2048 or 4096: format the image anew, or the hash image is damaged"
super_message super.HashBlockSize = codes "the hash block size isn't 512, 1024, 2048 or 4096: format the image anew, or the hash image is damaged"
super_message super.DataBlocks = codes "the number of data blocks isn't possible: the hash image is damaged"
super_message super.SaltSize = codes "the salt has more than 256 bytes: the hash image is damaged"

-- an image that isn't made
unfoldable pub format_message : FormatFault → Option (List ℕ)
format_message format.Shape = Some (codes "a block size isn't allowed, DATA has no whole data block, or the image is too large")
format_message format.DataTooSmall = Some (codes "DATA has fewer data blocks than '--blocks' says, or they overlap the tree in the same file")
format_message (format.HashTooSmall needed) = Some (codes "HASH or OUT has too few sectors: extend it with '--grow', or take a larger disk")
format_message format.HashReadOnly = Some (codes "HASH can't be written: check its permissions")
format_message format.Device = Some (codes "an image can't be read, written or synced: look for free space with 'df', and for the cause with 'dmesg'")
format_message format.NoMemory = None

-- an image that isn't compared
unfoldable pub verify_message : VerifyFault → Option (List ℕ)
verify_message (verify.Super fault) = Some (super_message fault)
verify_message verify.TooSmall = Some (codes "DATA or HASH ends before its last block: it was cut short, is too small for the release, or HASH is of another image")
verify_message verify.Device = Some (codes "an image can't be read, written or synced: look for free space with 'df', and for the cause with 'dmesg'")
verify_message verify.NoMemory = None
