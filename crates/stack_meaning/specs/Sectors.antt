-- Values of a sector, derived from the values of the sectors below it.
use Rattle.std.specs.Prelude.{◌≡◌, ℕ, zero, suc, ◌+◌, ◌-◌, ◌*◌, ◌<◌, List, [], ◌++◌, length, Option, Some, None}
use Rattle.dm_table.specs.declared.table.Line.{Line}
use Rattle.dm_table.specs.declared.table.Target.{Target}
use Rattle.stack_rules.specs.declared.lower.Lower.{Lower}
use Rattle.stack_rules.specs.declared.lower.Lower.TheVariants.{Leaf as leaf, Device as device}
use Rattle.stack_rules.specs.Records.{Configuration}
use Rattle.stack_rules.specs.Descend.{descend, by_name}
use Rattle.stack_rules.specs.Lines.{line_at}
use Rattle.stack_meaning.specs.Outcomes.{part}

-- the value of sector s of a line, which is line l of device d, given the values of the sectors of the devices that
-- the line names
abbrev pub OnLine {ℓ} : Type ℓ → Type ℓ
OnLine X = (List ℕ → ℕ → X) → ℕ → ℕ → Target → ℕ → X

-- the value of sector s of device d, given the line that contains it
abbrev pub on_found {ℓ} : {X : Type ℓ} → X → (ℕ → ℕ → Target → ℕ → X) → ℕ → ℕ → Option (ℕ × Line) → X
on_found none on_line d s None = none
on_found none on_line d s (Some p) = on_line d p.0 p.1.target (s - p.1.start)

abbrev pub sector_rule {ℓ} : {X : Type ℓ} → Configuration → X → (ℕ → ℕ → X) → OnLine X → (Lower → ℕ → X) → Lower → ℕ → X
sector_rule c none on_leaf on_line below (leaf i) s = on_leaf i s
sector_rule c none on_leaf on_line below (device d) s = on_found none (on_line (by_name c (λ t. none) below)) d.0 s (line_at c d.0 s)

-- the value of a sector of a leaf or device, given the values of leaf sectors and of lines
abbrev pub by_sector {ℓ} : {X : Type ℓ} → Configuration → X → (ℕ → ℕ → X) → OnLine X → Lower → ℕ → X
by_sector c none on_leaf on_line = descend (λ s. none) (sector_rule c none on_leaf on_line)

-- P holds for one of the n sectors from `first` on
abbrev pub SomeOf : (ℕ → Type 0) → ℕ → ℕ → Type 0
SomeOf P first n = (j : ℕ) × (j < n) × P (first + j)

-- the bytes of n sectors from `first` on; Is holds for each
pub record IsRun (Is : ℕ → List ℕ → Type 0) (first n : ℕ) (bytes : List ℕ) : Type 0 where
  pub len : length bytes ≡ 512 * n
  pub sectors : (j : ℕ) → j < n → Is (first + j) (part bytes j)

-- the lists of n sectors from `first` on, concatenated
abbrev pub gathered : {X : Type 0} → (ℕ → List X) → ℕ → ℕ → List X
gathered f first zero = []
gathered f first (suc n) = f first ++ gathered f (suc first) n
