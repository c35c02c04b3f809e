-- Worked `unstriped` lines: what they say, or their first fault.
use Rattle.std.proofs.Common.{◌≡◌, ℕ, List, [], ◌∷◌, refl, codes, Ok, Err, Result}
use Rattle.dm_table.specs.declared.table.Line.{Line}
use Rattle.dm_table.specs.declared.table.Target.TheVariants.{Unstriped}
use Rattle.dm_table.specs.declared.fault.TextFault.{TextFault}
use Rattle.dm_table.specs.declared.fault.TextKind.{TextKind}
use Rattle.dm_table.specs.declared.fault.TextKind.TheVariants as kinds
use Rattle.dm_table.specs.Words.{words, text_lines}
use Rattle.dm_table.specs.Numbers.{number}
use Rattle.dm_table.specs.Names.{is_mapped_name, is_device}
use Rattle.dm_table.specs.Arguments.{base_at}
use Rattle.dm_table.specs.Unstriped.{unstriped_at}
use Rattle.dm_table.specs.Lines.{target_at, line_of}
use Rattle.dm_table.specs.TableText.{table_of}

abbrev line_at : ℕ → ℕ → ℕ → List ℕ → ℕ → Line
line_at stripes chunk stripe name offset = record { start = 0; length = 16; target = Unstriped (record { stripes = stripes; chunk = chunk; stripe = stripe; base = record { device = name; offset = offset } }) }

tables : (table_of (codes "0 16 unstriped 2 8 1 D 3") ≡ Ok (line_at 2 8 1 (codes "D") 3 ∷ []))
    × (table_of (codes "0 16 unstriped 4294967295 4294967295 04294967294 /dev/mapper/s 18446744073709551615") ≡ Ok (line_at 4294967295 4294967295 4294967294 (codes "/dev/mapper/s") 18446744073709551615 ∷ []))
unfolding table_of text_lines words number is_mapped_name is_device line_of target_at unstriped_at base_at
tables = (refl, refl)

abbrev first_fault : TextKind → Result (List Line) TextFault
first_fault kind = Err (record { entry = 0; line = 1; kind = kind })

-- a line at each fault, with faults after it
faults : (table_of (codes "0 16 unstriped 0 0 x a,b") ≡ first_fault kinds.ArgCount)
    × (table_of (codes "0 16 unstriped 0 0 x a,b y z") ≡ first_fault kinds.ArgCount)
    × (table_of (codes "0 16 unstriped 0 0 x a,b y") ≡ first_fault kinds.StripeCount)
    × (table_of (codes "0 16 unstriped 4294967296 0 x a,b y") ≡ first_fault kinds.StripeCount)
    × (table_of (codes "0 16 unstriped 2 0 x a,b y") ≡ first_fault kinds.ZeroChunk)
    × (table_of (codes "0 16 unstriped 2 4294967296 x a,b y") ≡ first_fault kinds.ZeroChunk)
    × (table_of (codes "0 16 unstriped 2 8 x a,b y") ≡ first_fault kinds.StripeNumber)
    × (table_of (codes "0 16 unstriped 2 8 2 a,b y") ≡ first_fault kinds.StripeNumber)
    × (table_of (codes "0 16 unstriped 1 8 1 a,b y") ≡ first_fault kinds.StripeNumber)
    × (table_of (codes "0 16 unstriped 2 8 1 a,b y") ≡ first_fault kinds.Name)
    × (table_of (codes "0 16 unstriped 2 8 1 D y") ≡ first_fault kinds.Number)
unfolding table_of text_lines words number is_mapped_name is_device line_of target_at unstriped_at base_at
faults = (refl, refl, refl, refl, refl, refl, refl, refl, refl, refl, refl)
