-- The names of mapped devices are text.
use Rattle.std.proofs.Common.{◌≡◌, ◌<◌, ◌&&◌, ◌==◌, ℕ, zero, suc, Bool, true, false, not, List, [], ◌∷◌, length, arith}
use Rattle.std.specs.Prelude.{IsTrue, nat_le}
use Rattle.std.specs.List.{AllByRecursion, list_all, slice_get}
use Rattle.std.specs.Option.{option_map_or}
use Rattle.std.specs.Str.{IsAscii, IsUtf8}
use Rattle.std.proofs.lemmas.Bool.{and_parts, leb-true}
use Rattle.std.proofs.lemmas.List.Elements.{recursion_from_All}
use Rattle.std.proofs.lemmas.Str.{IsUtf8-from_ascii}
use Rattle.dm_table.specs.Names.{is_leaf_byte, is_mapped_byte, is_mapped_name}
use Rattle.dm_table.specs.Words.{is_graphic}
use Rattle.stack_rules.specs.Names.{name_of}
use Rattle.stack_rules.specs.Records.{Configuration, DeviceRecord}
use Rattle.stack_rules.specs.Rules.{IsLoaded}

-- a byte of a name is below 128
low : (b : ℕ) → is_mapped_byte b ≡ true → b < 128
low b h =
    let leaf = (and_parts (is_leaf_byte b) _ h).0 in
    let printing = (and_parts (is_graphic b && not (b == 44)) _ leaf).0 in
    let graphic = (and_parts (is_graphic b) _ printing).0 in
    let bounds = (and_parts (nat_le 0x21 b && nat_le b 0x7e) _ graphic).0 in
    omega (arith, leb-true b 0x7e (and_parts (nat_le 0x21 b) _ bounds).1)

ascii : (bs : List ℕ) → list_all is_mapped_byte bs ≡ true → IsAscii bs
ascii [] h zero = omega arith
ascii [] h (suc i) = omega arith
ascii (b ∷ bs) h zero = low b (and_parts (is_mapped_byte b) _ h).0
ascii (b ∷ bs) h (suc i) = ascii bs (and_parts (is_mapped_byte b) _ h).1 i

named : (name : List ℕ) → is_mapped_name name ≡ true → IsUtf8 name
unfolding is_mapped_name
named name h = IsUtf8-from_ascii name (ascii name (and_parts _ (list_all is_mapped_byte name) h).1)

device : (devices : List DeviceRecord) (d : ℕ) → AllByRecursion (λ x. IsTrue (is_mapped_name x.name)) devices → d < length devices → IsUtf8 (option_map_or (λ (x : DeviceRecord). x.name) (slice_get devices d) [])
device [] d h low = absurd (omega (arith, low))
device (x ∷ xs) zero h low = named x.name h.0
device (x ∷ xs) (suc d) h low = device xs d h.1 (omega (arith, low))

pub utf8_name : (c : Configuration) (d : ℕ) → IsLoaded c → d < length c.devices → IsUtf8 (name_of c d)
utf8_name c d loaded low = device c.devices d (recursion_from_All (λ (x : DeviceRecord). IsTrue (is_mapped_name x.name)) c.devices loaded.mapped) low
