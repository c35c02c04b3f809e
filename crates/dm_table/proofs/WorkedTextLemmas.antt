-- Worked texts: what they say, or their first fault.
use Rattle.std.proofs.Common.{◌≡◌, ℕ, Bool, List, [], ◌∷◌, ◌++◌, replicate, refl, codes, true, false, Some, None, Ok, Err, Result}
use Rattle.hex.specs.Hex.{decode_pairs}
use Rattle.dm_table.specs.declared.verity.CorruptionMode.{CorruptionMode}
use Rattle.dm_table.specs.declared.verity.CorruptionMode.TheVariants.{Fail, Panic, Restart}
use Rattle.dm_table.specs.declared.crypt.Crypt.{Crypt}
use Rattle.dm_table.specs.declared.table.Base.{Base}
use Rattle.dm_table.specs.declared.table.Line.{Line}
use Rattle.dm_table.specs.declared.table.Target.{Target}
use Rattle.dm_table.specs.declared.table.Target.TheVariants.{Linear, Striped, Zero, Crypt as crypt_target, Verity as verity_target}
use Rattle.dm_table.specs.declared.stack.Entry.{Entry}
use Rattle.dm_table.specs.declared.fault.TextFault.{TextFault}
use Rattle.dm_table.specs.declared.fault.TextKind.{TextKind}
use Rattle.dm_table.specs.declared.fault.TextKind.TheVariants as kinds
use Rattle.dm_table.specs.Words.{words, trimmed_text, text_lines, entries_of, fields_of}
use Rattle.dm_table.specs.Numbers.{number}
use Rattle.dm_table.specs.Names.{is_mapped_name, is_device}
use Rattle.dm_table.specs.Arguments.{base_at, bytes_at}
use Rattle.dm_table.specs.Options.{option_name, option_names, options_at, known_at, value_of}
use Rattle.dm_table.specs.Parity.{fec_at, parity_at}
use Rattle.dm_table.specs.SignatureKey.{description_at, signature_key_at}
use Rattle.dm_table.specs.Crypt.{sector_size, iv_large_sectors, key_at, crypt_at}
use Rattle.dm_table.specs.Verity.{salt_at, verity_at}
use Rattle.dm_table.specs.Lines.{linear_at, striped_at, bare_at, target_at, line_of}
use Rattle.dm_table.specs.TableText.{table_of}
use Rattle.dm_table.specs.StackText.{head_of, entry_of, stack_of}

abbrev base : List ℕ → ℕ → Base
base name sector = record { device = name; offset = sector }

abbrev line : ℕ → ℕ → Target → Line
line first sectors target = record { start = first; length = sectors; target = target }

abbrev entry : ℕ → List ℕ → Bool → List Line → Entry
entry n name writable lines = record { number = n; name = name; writable = writable; table = lines }

abbrev fault : ℕ → ℕ → TextKind → Result (List Entry) TextFault
fault e l kind = Err (record { entry = e; line = l; kind = kind })

-- two lines of one device, then an empty text and skipped entries
reads : (stack_of (codes "a,,,rw,0 4 linear D 2,4 4 zero") ≡ Ok (entry 1 (codes "a") true (line 0 4 (Linear (base (codes "D") 2)) ∷ line 4 4 Zero ∷ []) ∷ []))
    × (stack_of (codes " ; b ,any,7,ro,0 016 striped 02 8 D 0 /dev/mapper/a 3") ≡ Ok (entry 2 (codes "b") false (line 0 16 (Striped 8 (base (codes "D") 0 ∷ base (codes "/dev/mapper/a") 3 ∷ [])) ∷ []) ∷ []))
    × (stack_of [] ≡ Ok []) × (stack_of (codes " ;") ≡ Ok [])
unfolding stack_of entries_of fields_of head_of entry_of trimmed_text words number is_mapped_name is_device line_of target_at linear_at striped_at bare_at base_at
reads = (refl, refl, refl, refl)

-- the first fault, by its place and kind
faults : (stack_of (codes "a,,,rw") ≡ fault 1 0 kinds.Fields)
    × (stack_of (codes "a/b,,,rw,0 1 zero") ≡ fault 1 0 kinds.Name)
    × (stack_of (codes "a,,,rx,0 1 zero") ≡ fault 1 0 kinds.Flags)
    × (stack_of (codes "a,,x,rw,0 1 zero") ≡ fault 1 0 kinds.Number)
    × (stack_of (codes "a,,,rw,0 1 mirror") ≡ fault 1 1 kinds.Target)
    × (stack_of (codes "a,,,rw,0 1 zero 5") ≡ fault 1 1 kinds.ArgCount)
    × (stack_of (codes "a,,,rw,0 8 striped 17 8") ≡ fault 1 1 kinds.StripeCount)
    × (stack_of (codes "a,,,rw,0 8 striped 1 0 D 0") ≡ fault 1 1 kinds.ZeroChunk)
    × (stack_of (codes "a,,,rw,0 4 linear D 2,") ≡ fault 1 2 kinds.ArgCount)
    × (stack_of (codes ";a,,,rw,+1 4 zero") ≡ fault 2 1 kinds.Number)
    × (stack_of (codes "a,,,rw;\\") ≡ fault 0 0 kinds.NotText)
unfolding stack_of entries_of fields_of head_of entry_of trimmed_text words number is_mapped_name is_device line_of target_at linear_at striped_at bare_at base_at
faults = (refl, refl, refl, refl, refl, refl, refl, refl, refl, refl, refl)

-- comments, blank lines and leading zeros in a table text
tables : (table_of (codes "# x" ++ 10 ∷ 10 ∷ codes "0 08 linear D 02") ≡ Ok (line 0 8 (Linear (base (codes "D") 2)) ∷ []))
    × (table_of (10 ∷ codes "# c" ++ 10 ∷ codes "0 8 foo") ≡ Err (record { entry = 0; line = 3; kind = kinds.Target }))
    × (table_of [] ≡ Err (record { entry = 0; line = 0; kind = kinds.Fields }))
unfolding table_of text_lines words number is_device line_of target_at linear_at striped_at bare_at base_at
tables = (refl, refl, refl)

-- a `crypt` line, its key in digits of either case
abbrev crypt_line : List (List ℕ) → Line
crypt_line options =
    let key = replicate 16 10 ++ replicate 16 177 in
    line 0 8 (crypt_target (record { key = key; iv_offset = 7; base = base (codes "D") 16; options = options }))

abbrev crypt_front : List ℕ
crypt_front = codes "0 8 crypt aes-xts-plain64 "

abbrev first_fault : TextKind → Result (List Line) TextFault
first_fault kind = Err (record { entry = 0; line = 1; kind = kind })

crypt_tables : (table_of (crypt_front ++ codes "0a0A0a0A0a0A0a0A0a0A0a0A0a0A0a0Ab1B1b1B1b1B1b1B1b1B1b1B1b1B1b1B1 07 D 016") ≡ Ok (crypt_line [] ∷ []))
    × (table_of (crypt_front ++ codes "0a0A0a0A0a0A0a0A0a0A0a0A0a0A0a0Ab1B1b1B1b1B1b1B1b1B1b1B1b1B1b1B1 7 D 16 02 no_read_workqueue allow_discards") ≡ Ok (crypt_line (codes "no_read_workqueue" ∷ codes "allow_discards" ∷ []) ∷ []))
unfolding table_of text_lines words number is_mapped_name is_device line_of target_at crypt_at key_at bytes_at decode_pairs base_at options_at option_names known_at option_name
crypt_tables = (refl, refl)

-- the size of a unit, and how units are numbered
abbrev crypt_with : List (List ℕ) → Crypt
crypt_with options = record { key = []; iv_offset = 0; base = base [] 0; options = options }

unit_options : (sector_size (crypt_with []) ≡ 512) × (sector_size (crypt_with (codes "sector_size:512" ∷ [])) ≡ 512) × (sector_size (crypt_with (codes "allow_discards" ∷ codes "sector_size:1024" ∷ [])) ≡ 1024)
    × (sector_size (crypt_with (codes "sector_size:2048" ∷ [])) ≡ 2048) × (sector_size (crypt_with (codes "sector_size:4096" ∷ codes "iv_large_sectors" ∷ [])) ≡ 4096)
    × (iv_large_sectors (crypt_with (codes "sector_size:4096" ∷ codes "iv_large_sectors" ∷ [])) ≡ true) × (iv_large_sectors (crypt_with (codes "sector_size:4096" ∷ [])) ≡ false)
unfolding sector_size iv_large_sectors
unit_options = (refl, refl, refl, refl, refl, refl, refl)

-- a `crypt` line at each fault, with faults after it
crypt_faults : (table_of (codes "0 8 crypt aes-cbc-plain64 x y D") ≡ first_fault kinds.ArgCount)
    × (table_of (codes "0 8 crypt aes-cbc-plain64 x y a,b z") ≡ first_fault kinds.Cipher)
    × (table_of (crypt_front ++ codes "0a0A0a0A0a0A0a0A0a0A0a0A0a0A0a0Ab1B1b1B1b1B1b1B1b1B1b1B1b1B1b1B y a,b z") ≡ first_fault kinds.Key)
    × (table_of (crypt_front ++ codes "0a0A0a0A0a0A0a0A0a0A0a0A0a0A0a0Ab1B1b1B1b1B1b1B1b1B1b1B1b1B1b1Bg y a,b z") ≡ first_fault kinds.Key)
    × (table_of (crypt_front ++ codes "0a0A0a0A0a0A0a0A0a0A0a0A0a0A0a0Ab1B1b1B1b1B1b1B1b1B1b1B1b1B1b1B1 y a,b z") ≡ first_fault kinds.Number)
    × (table_of (crypt_front ++ codes "0a0A0a0A0a0A0a0A0a0A0a0A0a0A0a0Ab1B1b1B1b1B1b1B1b1B1b1B1b1B1b1B1 7 a,b z") ≡ first_fault kinds.Name)
    × (table_of (crypt_front ++ codes "0a0A0a0A0a0A0a0A0a0A0a0A0a0A0a0Ab1B1b1B1b1B1b1B1b1B1b1B1b1B1b1B1 7 D z w") ≡ first_fault kinds.Number)
    × (table_of (crypt_front ++ codes "0a0A0a0A0a0A0a0A0a0A0a0A0a0A0a0Ab1B1b1B1b1B1b1B1b1B1b1B1b1B1b1B1 7 D 16 w no") ≡ first_fault kinds.Number)
    × (table_of (crypt_front ++ codes "0a0A0a0A0a0A0a0A0a0A0a0A0a0A0a0Ab1B1b1B1b1B1b1B1b1B1b1B1b1B1b1B1 7 D 16 2 no") ≡ first_fault kinds.ArgCount)
    × (table_of (crypt_front ++ codes "0a0A0a0A0a0A0a0A0a0A0a0A0a0A0a0Ab1B1b1B1b1B1b1B1b1B1b1B1b1B1b1B1 7 D 16 1 no") ≡ first_fault kinds.Option)
    × (table_of (crypt_front ++ codes "0a0A0a0A0a0A0a0A0a0A0a0A0a0A0a0Ab1B1b1B1b1B1b1B1b1B1b1B1b1B1b1B1 7 D 16 2 allow_discards allow_discards") ≡ first_fault kinds.Option)
    × (table_of (crypt_front ++ codes "0a0A0a0A0a0A0a0A0a0A0a0A0a0A0a0Ab1B1b1B1b1B1b1B1b1B1b1B1b1B1b1B1 7 D 16 2 sector_size:512 sector_size:4096") ≡ first_fault kinds.Option)
    × (table_of (crypt_front ++ codes "0a0A0a0A0a0A0a0A0a0A0a0A0a0A0a0Ab1B1b1B1b1B1b1B1b1B1b1B1b1B1b1B1 7 D 16 1 sector_size:8192") ≡ first_fault kinds.Option)
unfolding table_of text_lines words number is_mapped_name is_device line_of target_at crypt_at key_at bytes_at decode_pairs base_at options_at option_names known_at option_name
crypt_faults = (refl, refl, refl, refl, refl, refl, refl, refl, refl, refl, refl, refl, refl)

-- a `verity` line
abbrev verity_line : List ℕ → Bool → Line
verity_line salt ignores =
    line 0 8 (verity_target (record { «data» = codes "D"; hash = codes "/dev/mapper/t"; data_block = 4096; hash_block = 512; blocks = 1; start = 3; root = replicate 32 171; salt = salt; ignore_zero_blocks = ignores; corruption = Fail; in_tasklet = false; parity = None; signature_key = None }))

abbrev verity_line_in : CorruptionMode → Bool → Line
verity_line_in mode tasklet =
    line 0 8 (verity_target (record { «data» = codes "D"; hash = codes "/dev/mapper/t"; data_block = 4096; hash_block = 512; blocks = 1; start = 3; root = replicate 32 171; salt = []; ignore_zero_blocks = false; corruption = mode; in_tasklet = tasklet; parity = None; signature_key = None }))

verity_tables : (table_of (codes "0 8 verity 01 D /dev/mapper/t 4096 0512 1 03 sha256 abABabABabABabABabABabABabABabABabABabABabABabABabABabABabABabAB -") ≡ Ok (verity_line [] false ∷ []))
    × (table_of (codes "0 8 verity 1 D /dev/mapper/t 4096 512 1 3 sha256 abABabABabABabABabABabABabABabABabABabABabABabABabABabABabABabAB 0a0B 0") ≡ Ok (verity_line (10 ∷ 11 ∷ []) false ∷ []))
    × (table_of (codes "0 8 verity 1 D /dev/mapper/t 4096 512 1 3 sha256 abABabABabABabABabABabABabABabABabABabABabABabABabABabABabABabAB - 01 ignore_zero_blocks") ≡ Ok (verity_line [] true ∷ []))
unfolding table_of text_lines words number is_mapped_name is_device line_of target_at verity_at salt_at bytes_at decode_pairs options_at option_names known_at parity_at signature_key_at
verity_tables = (refl, refl, refl)

-- the words that are for the kernel alone; at most one of them for corruption
verity_words : (table_of (codes "0 8 verity 1 D /dev/mapper/t 4096 512 1 3 sha256 abABabABabABabABabABabABabABabABabABabABabABabABabABabABabABabAB - 1 panic_on_corruption") ≡ Ok (verity_line_in Panic false ∷ []))
    × (table_of (codes "0 8 verity 1 D /dev/mapper/t 4096 512 1 3 sha256 abABabABabABabABabABabABabABabABabABabABabABabABabABabABabABabAB - 2 try_verify_in_tasklet restart_on_corruption") ≡ Ok (verity_line_in Restart true ∷ []))
    × (table_of (codes "0 8 verity 1 D /dev/mapper/t 4096 512 1 3 sha256 abABabABabABabABabABabABabABabABabABabABabABabABabABabABabABabAB - 2 restart_on_corruption panic_on_corruption") ≡ first_fault kinds.Option)
    × (table_of (codes "0 8 verity 1 D /dev/mapper/t 4096 512 1 3 sha256 abABabABabABabABabABabABabABabABabABabABabABabABabABabABabABabAB - 1 ignore_corruption") ≡ first_fault kinds.Option)
    × (table_of (codes "0 8 verity 1 D /dev/mapper/t 4096 512 1 3 sha256 abABabABabABabABabABabABabABabABabABabABabABabABabABabABabABabAB - 1 check_at_most_once") ≡ first_fault kinds.Option)
unfolding table_of text_lines words number is_mapped_name is_device line_of target_at verity_at salt_at bytes_at decode_pairs options_at option_names known_at option_name parity_at signature_key_at
verity_words = (refl, refl, refl, refl, refl)

-- parity: four words with values, in any order
abbrev verity_line_with : ℕ → ℕ → ℕ → Line
verity_line_with roots blocks first =
    line 0 8 (verity_target (record { «data» = codes "D"; hash = codes "/dev/mapper/t"; data_block = 4096; hash_block = 512; blocks = 1; start = 3; root = replicate 32 171; salt = []; ignore_zero_blocks = true; corruption = Fail; in_tasklet = false; parity = Some (record { device = codes "fec_start"; roots = roots; blocks = blocks; start = first }); signature_key = None }))

abbrev verity_front : List ℕ
verity_front = codes "0 8 verity 1 D /dev/mapper/t 4096 512 1 3 sha256 abABabABabABabABabABabABabABabABabABabABabABabABabABabABabABabAB - "

parity_tables : (table_of (verity_front ++ codes "9 use_fec_from_device fec_start fec_roots 02 fec_blocks 7 fec_start 0 ignore_zero_blocks") ≡ Ok (verity_line_with 2 7 0 ∷ []))
    × (table_of (verity_front ++ codes "9 fec_start 5 ignore_zero_blocks fec_blocks 0 fec_roots 24 use_fec_from_device fec_start") ≡ Ok (verity_line_with 24 0 5 ∷ []))
unfolding table_of text_lines words number is_mapped_name is_device line_of target_at verity_at salt_at bytes_at decode_pairs options_at option_names known_at option_name parity_at signature_key_at fec_at value_of
parity_tables = (refl, refl)

parity_faults : (table_of (verity_front ++ codes "8 use_fec_from_device P fec_roots 2 fec_blocks 7 fec_start") ≡ first_fault kinds.ArgCount)
    × (table_of (verity_front ++ codes "7 use_fec_from_device P fec_roots 2 fec_blocks 7 fec_start") ≡ first_fault kinds.Option)
    × (table_of (verity_front ++ codes "6 use_fec_from_device P fec_roots 2 fec_blocks 7") ≡ first_fault kinds.Option)
    × (table_of (verity_front ++ codes "2 fec_start 0") ≡ first_fault kinds.Option)
    × (table_of (verity_front ++ codes "10 use_fec_from_device P fec_roots 2 fec_blocks 7 fec_start 0 fec_start 0") ≡ first_fault kinds.Option)
    × (table_of (verity_front ++ codes "8 use_fec_from_device P fec_roots 1 fec_blocks 7 fec_start 0") ≡ first_fault kinds.Option)
    × (table_of (verity_front ++ codes "8 use_fec_from_device P fec_roots 25 fec_blocks 7 fec_start 0") ≡ first_fault kinds.Option)
    × (table_of (verity_front ++ codes "8 use_fec_from_device P fec_roots x fec_blocks 7 fec_start 0") ≡ first_fault kinds.Number)
    × (table_of (verity_front ++ codes "8 use_fec_from_device a/b,c fec_roots x fec_blocks 7 fec_start 0") ≡ first_fault kinds.Name)
    × (table_of (verity_front ++ codes "8 use_fec_from_device P fec_roots 2 fec_blocks -7 fec_start 0") ≡ first_fault kinds.Number)
    × (table_of (verity_front ++ codes "8 use_fec_from_device P fec_roots 2 fec_blocks 7 fec_start x") ≡ first_fault kinds.Number)
    × (table_of (verity_front ++ codes "10 use_fec_from_device P fec_roots 2 fec_blocks 7 fec_start x restart_on_corruption panic_on_corruption") ≡ first_fault kinds.Option)
unfolding table_of text_lines words number is_mapped_name is_device line_of target_at verity_at salt_at bytes_at decode_pairs options_at option_names known_at option_name parity_at signature_key_at fec_at value_of
parity_faults = (refl, refl, refl, refl, refl, refl, refl, refl, refl, refl, refl, refl)

-- a key description, also one that equals an option
abbrev verity_line_signed : List ℕ → Line
verity_line_signed key =
    line 0 8 (verity_target (record { «data» = codes "D"; hash = codes "/dev/mapper/t"; data_block = 4096; hash_block = 512; blocks = 1; start = 3; root = replicate 32 171; salt = []; ignore_zero_blocks = false; corruption = Panic; in_tasklet = false; parity = None; signature_key = Some key }))

signature_tables : (table_of (verity_front ++ codes "3 root_hash_sig_key_desc verity:vendor panic_on_corruption") ≡ Ok (verity_line_signed (codes "verity:vendor") ∷ []))
    × (table_of (verity_front ++ codes "3 panic_on_corruption root_hash_sig_key_desc root_hash_sig_key_desc") ≡ Ok (verity_line_signed (codes "root_hash_sig_key_desc") ∷ []))
    × (table_of (verity_front ++ codes "2 root_hash_sig_key_desc a,b") ≡ first_fault kinds.Option)
    × (table_of (verity_front ++ codes "1 root_hash_sig_key_desc") ≡ first_fault kinds.Option)
    × (table_of (verity_front ++ codes "4 root_hash_sig_key_desc k root_hash_sig_key_desc k") ≡ first_fault kinds.Option)
    × (table_of (verity_front ++ codes "4 root_hash_sig_key_desc a,b fec_start x") ≡ first_fault kinds.Option)
unfolding table_of text_lines words number is_mapped_name is_device line_of target_at verity_at salt_at bytes_at decode_pairs options_at option_names known_at option_name parity_at fec_at value_of signature_key_at description_at
signature_tables = (refl, refl, refl, refl, refl, refl)

-- a `verity` line at each fault, with faults after it
verity_faults : (table_of (codes "0 8 verity 2 a,b a,b x x x x x x") ≡ first_fault kinds.ArgCount)
    × (table_of (codes "0 8 verity 2 a,b a,b x x x x x x x") ≡ first_fault kinds.Version)
    × (table_of (codes "0 8 verity 1 a,b a,b x x x x x x x") ≡ first_fault kinds.Name)
    × (table_of (codes "0 8 verity 1 D a,b x x x x x x x") ≡ first_fault kinds.Name)
    × (table_of (codes "0 8 verity 1 D t 8192 x x x x x x") ≡ first_fault kinds.BlockSize)
    × (table_of (codes "0 8 verity 1 D t 4096 256 x x x x x") ≡ first_fault kinds.BlockSize)
    × (table_of (codes "0 8 verity 1 D t 4096 512 x x x x x") ≡ first_fault kinds.Number)
    × (table_of (codes "0 8 verity 1 D t 4096 512 1 x x x x") ≡ first_fault kinds.Number)
    × (table_of (codes "0 8 verity 1 D t 4096 512 1 3 sha512 x x") ≡ first_fault kinds.Algorithm)
    × (table_of (codes "0 8 verity 1 D t 4096 512 1 3 sha256 x x") ≡ first_fault kinds.Digest)
    × (table_of (codes "0 8 verity 1 D t 4096 512 1 3 sha256 abABabABabABabABabABabABabABabABabABabABabABabABabABabABabABabAB a x") ≡ first_fault kinds.Salt)
    × (table_of (codes "0 8 verity 1 D t 4096 512 1 3 sha256 abABabABabABabABabABabABabABabABabABabABabABabABabABabABabABabAB - x") ≡ first_fault kinds.Number)
    × (table_of (codes "0 8 verity 1 D t 4096 512 1 3 sha256 abABabABabABabABabABabABabABabABabABabABabABabABabABabABabABabAB - 1") ≡ first_fault kinds.ArgCount)
    × (table_of (codes "0 8 verity 1 D t 4096 512 1 3 sha256 abABabABabABabABabABabABabABabABabABabABabABabABabABabABabABabAB - 1 x") ≡ first_fault kinds.Option)
unfolding table_of text_lines words number is_mapped_name is_device line_of target_at verity_at salt_at bytes_at decode_pairs options_at option_names known_at parity_at signature_key_at
verity_faults = (refl, refl, refl, refl, refl, refl, refl, refl, refl, refl, refl, refl, refl, refl)
