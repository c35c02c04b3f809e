-- The kinds of faults of a text, with the numbers and names that are printed.
use Rattle.std.specs.Prelude.{ℕ, List, codes}
use Rattle.dm_table.specs.declared.fault.TextKind.{TextKind}
use Rattle.dm_table.specs.declared.fault.TextKind.TheVariants as kinds

abbrev pub text_number : TextKind → ℕ
text_number kinds.NotText = 1
text_number kinds.Fields = 2
text_number kinds.Name = 3
text_number kinds.Flags = 4
text_number kinds.Number = 5
text_number kinds.Target = 6
text_number kinds.ArgCount = 7
text_number kinds.Cipher = 8
text_number kinds.Key = 9
text_number kinds.Version = 10
text_number kinds.BlockSize = 11
text_number kinds.Algorithm = 12
text_number kinds.Digest = 13
text_number kinds.Salt = 14
text_number kinds.Option = 15
text_number kinds.StripeCount = 16
text_number kinds.ZeroChunk = 17
text_number kinds.StripeNumber = 18

abbrev pub text_name : TextKind → List ℕ
text_name kinds.NotText = codes "NotText"
text_name kinds.Fields = codes "Fields"
text_name kinds.Name = codes "Name"
text_name kinds.Flags = codes "Flags"
text_name kinds.Number = codes "Number"
text_name kinds.Target = codes "Target"
text_name kinds.ArgCount = codes "ArgCount"
text_name kinds.Cipher = codes "Cipher"
text_name kinds.Key = codes "Key"
text_name kinds.Version = codes "Version"
text_name kinds.BlockSize = codes "BlockSize"
text_name kinds.Algorithm = codes "Algorithm"
text_name kinds.Digest = codes "Digest"
text_name kinds.Salt = codes "Salt"
text_name kinds.Option = codes "Option"
text_name kinds.StripeCount = codes "StripeCount"
text_name kinds.ZeroChunk = codes "ZeroChunk"
text_name kinds.StripeNumber = codes "StripeNumber"
