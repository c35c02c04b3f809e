-- Worked printed tables.
use Rattle.std.proofs.Common.{◌≡◌, ℕ, Bool, List, [], ◌∷◌, ◌++◌, replicate, refl, codes, true, false, Option, Some, None}
use Rattle.hex.specs.Hex.{encode_with}
use Rattle.std.specs.Fmt.{digits}
use Rattle.dm_table.specs.declared.verity.CorruptionMode.TheVariants.{Fail}
use Rattle.dm_table.specs.declared.parity.Parity.{Parity}
use Rattle.dm_table.specs.declared.table.Base.{Base}
use Rattle.dm_table.specs.declared.table.Line.{Line}
use Rattle.dm_table.specs.declared.table.Target.{Target}
use Rattle.dm_table.specs.declared.table.Target.TheVariants.{Linear, Striped, Zero, Error, Crypt as crypt_target, Verity as verity_target}
use Rattle.table_text.specs.ArgumentWords.{crypt_words, verity_words}
use Rattle.table_text.specs.Print.{target_words, line_text, printed_table}

abbrev base : List ℕ → ℕ → Base
base name sector = record { device = name; offset = sector }

abbrev line : ℕ → ℕ → Target → Line
line first sectors target = record { start = first; length = sectors; target = target }

-- a `crypt` line, its key in digits of either case
abbrev crypt_line : List (List ℕ) → Line
crypt_line options =
    let key = replicate 16 10 ++ replicate 16 177 in
    line 0 8 (crypt_target (record { key = key; iv_offset = 7; base = base (codes "D") 16; options = options }))

-- a `verity` line
abbrev verity_line : List ℕ → Bool → Option Parity → Option (List ℕ) → Line
verity_line salt ignores parity key =
    line 0 8 (verity_target (record { «data» = codes "D"; hash = codes "/dev/mapper/t"; data_block = 4096; hash_block = 512; blocks = 1; start = 3; root = replicate 32 171; salt = salt; ignore_zero_blocks = ignores; corruption = Fail; in_tasklet = false; parity = parity; signature_key = key }))

-- a printed table
printed : printed_table false (line 0 8 (Linear (base (codes "D") 2)) ∷ line 8 32 (Striped 8 (base (codes "A") 0 ∷ base (codes "/dev/mapper/b") 16 ∷ [])) ∷ line 40 1 Error ∷ line 41 1 Zero ∷ [])
    ≡ codes "0 8 linear D 2\n8 32 striped 2 8 A 0 /dev/mapper/b 16\n40 1 error\n41 1 zero\n"
unfolding digits line_text target_words
printed = refl

-- lines printed with the key, and with zeros in place of it
printed_keys : (printed_table true (crypt_line (codes "allow_discards" ∷ []) ∷ []) ≡ codes "0 8 crypt aes-xts-plain64 0a0a0a0a0a0a0a0a0a0a0a0a0a0a0a0ab1b1b1b1b1b1b1b1b1b1b1b1b1b1b1b1 7 D 16 1 allow_discards\n")
    × (printed_table false (crypt_line [] ∷ []) ≡ codes "0 8 crypt aes-xts-plain64 0000000000000000000000000000000000000000000000000000000000000000 7 D 16\n")
    × (printed_table false (verity_line [] false None None ∷ []) ≡ codes "0 8 verity 1 D /dev/mapper/t 4096 512 1 3 sha256 abababababababababababababababababababababababababababababababab -\n")
    × (printed_table false (verity_line (10 ∷ 11 ∷ []) true None None ∷ []) ≡ codes "0 8 verity 1 D /dev/mapper/t 4096 512 1 3 sha256 abababababababababababababababababababababababababababababababab 0a0b 1 ignore_zero_blocks\n")
    × (printed_table false (verity_line [] true (Some (record { device = codes "P"; roots = 2; blocks = 7; start = 0 })) None ∷ []) ≡ codes "0 8 verity 1 D /dev/mapper/t 4096 512 1 3 sha256 abababababababababababababababababababababababababababababababab - 9 ignore_zero_blocks use_fec_from_device P fec_blocks 7 fec_start 0 fec_roots 2\n")
    × (printed_table false (verity_line [] true None (Some (codes "verity:vendor")) ∷ []) ≡ codes "0 8 verity 1 D /dev/mapper/t 4096 512 1 3 sha256 abababababababababababababababababababababababababababababababab - 3 ignore_zero_blocks root_hash_sig_key_desc verity:vendor\n")
unfolding digits line_text target_words crypt_words verity_words encode_with
printed_keys = (refl, refl, refl, refl, refl, refl)
