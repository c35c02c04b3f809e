-- The sentences on stacks that can't be read.
use Rattle.std.specs.Prelude.{ℕ, List, codes}
use Rattle.dm_table.specs.declared.fault.TextKind.{TextKind}
use Rattle.dm_table.specs.declared.fault.TextKind.TheVariants as kinds

-- a stack that can't be read
unfoldable pub text_message : TextKind → List ℕ
text_message kinds.NotText = codes "the stack has a backslash, or a byte that is neither white space nor printable ASCII: remove it"
text_message kinds.Fields = codes "the entry has fewer than five fields: write 'NAME,UUID,MINOR,FLAGS,LINE', and ';' between entries"
text_message kinds.Name = codes "a device's name is empty or too long, or has a character that isn't allowed, such as a comma"
text_message kinds.Flags = codes "the fourth field is neither 'ro' nor 'rw': check the number of commas before it"
text_message kinds.Number = codes "a decimal number below 2^64 is missing: write it without unit, sign or hexadecimal digits"
text_message kinds.Target = codes "there is no such target: use linear, striped, unstriped, zero, error, crypt or verity"
text_message kinds.ArgCount = codes "the line has too few or too many arguments: check the comma after it, and the number of its options"
text_message kinds.Cipher = codes "the cipher isn't supported: only aes-xts-plain64 is"
text_message kinds.Key = codes "the key isn't 64 or 128 hexadecimal digits; a key in the kernel's keyring can't be used"
text_message kinds.Version = codes "the version of the verity line isn't supported: format the image anew with hash type 1"
text_message kinds.BlockSize = codes "the block size isn't supported: it has to be 512, 1024, 2048 or 4096"
text_message kinds.Algorithm = codes "the hash algorithm isn't supported: format the image anew with sha256"
text_message kinds.Digest = codes "the root hash isn't 64 hexadecimal digits: copy all of them"
text_message kinds.Salt = codes "the salt is neither '-' nor an even number of hexadecimal digits, from 2 to 512"
text_message kinds.Option = codes "an option is unknown, given twice or has no fitting value: correct it, or remove it and lower the number of options"
text_message kinds.StripeCount = codes "the number of stripes isn't supported: it is 1 to 16, or 1 to 2^32 - 1 of an unstriped line"
text_message kinds.ZeroChunk = codes "the chunk size isn't supported: it is a number of sectors, at least 1"
text_message kinds.StripeNumber = codes "the line has no such stripe: they are numbered from 0 to COUNT - 1"
