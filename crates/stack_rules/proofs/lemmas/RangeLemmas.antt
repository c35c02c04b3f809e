-- The ranges of a line.
use Rattle.std.proofs.Common.{◌≡◌, ℕ, ◌+◌, ◌/◌, List, [], ◌∷◌, refl, ap, Bool, true, false, ◌||◌, Some, length, map}
use Rattle.std.specs.List.{AllByRecursion, list_any}
use Rattle.dm_table.specs.declared.table.Base.{Base}
use Rattle.dm_table.specs.declared.table.Target.{Target}
use Rattle.dm_table.specs.declared.table.Target.TheVariants.{Linear, Striped, Crypt, Verity}
use Rattle.dm_table.specs.declared.crypt.Crypt.{Crypt as CryptRecord}
use Rattle.dm_table.specs.declared.verity.Verity.{Verity as VerityRecord}
use Rattle.dm_table.specs.declared.parity.Parity.{Parity}
use Rattle.stack_rules.specs.Records.{Configuration}
use Rattle.stack_rules.specs.Trees.{line_data_sectors, covered_sectors, parity_sectors}
use Rattle.stack_rules.specs.targets.Verity.{parity_ranges}
use Rattle.stack_rules.specs.Names.{names}
use Rattle.stack_rules.proofs.lemmas.RulesLawsOf.{rules-laws}
use Rattle.stack_rules.specs.Rules.{ends_past, is_beyond, range_from, ranges}

pub list_any-map : {X Y : Type 0} (p : Y → Bool) (f : X → Y) (xs : List X) → list_any p (map f xs) ≡ list_any (λ x. p (f x)) xs
list_any-map p f [] = refl
list_any-map p f (x ∷ xs) = rw (list_any-map p f xs) refl

-- each range is on a device that the target names
pub ranges-names : (P : List ℕ → Type 0) (len : ℕ) (target : Target) → AllByRecursion P (names target) → AllByRecursion (λ (range : List ℕ × ℕ). P range.0) (ranges len target)
ranges-names P len target = (rules-laws target).ranges P len

or-false : (b : Bool) → (b || false) ≡ b
or-false true = refl
or-false false = refl

pub is_beyond-linear : (c : Configuration) (len : ℕ) (base : Base) → is_beyond c len (Linear base) ≡ ends_past c base.device (base.offset + len)
is_beyond-linear c len base = or-false (ends_past c base.device (base.offset + len))

pub is_beyond-striped : (c : Configuration) (len chunk : ℕ) (bases : List Base) → is_beyond c len (Striped chunk bases) ≡ list_any (λ base. ends_past c base.device (base.offset + len / length bases)) bases
is_beyond-striped c len chunk bases = list_any-map (λ (range : List ℕ × ℕ). ends_past c range.0 range.1) (range_from (len / length bases)) bases

pub is_beyond-crypt : (c : Configuration) (len : ℕ) (crypt : CryptRecord) → is_beyond c len (Crypt crypt) ≡ ends_past c crypt.base.device (crypt.base.offset + len)
is_beyond-crypt c len crypt = or-false (ends_past c crypt.base.device (crypt.base.offset + len))

pub is_beyond-verity : (c : Configuration) (len : ℕ) (verity : VerityRecord) → is_beyond c len (Verity verity) ≡ (ends_past c verity.data (line_data_sectors verity) || list_any (λ range. ends_past c range.0 range.1) (parity_ranges verity verity.parity))
is_beyond-verity c len verity = refl

-- the ranges of a line that has parity
pub parity_ranges-some : (c : Configuration) (verity : VerityRecord) (parity : Parity) → Some parity ≡ verity.parity
    → list_any (λ range. ends_past c range.0 range.1) (parity_ranges verity verity.parity) ≡ (ends_past c verity.hash (covered_sectors verity parity) || ends_past c parity.device (parity_sectors verity parity))
parity_ranges-some c verity parity is =
    rw (← is) (ap (λ b. ends_past c verity.hash (covered_sectors verity parity) || b) (or-false (ends_past c parity.device (parity_sectors verity parity))))
