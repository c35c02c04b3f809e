-- The lower sector that a sector of a line is mapped to.
use Rattle.std.specs.Prelude.{ℕ, ◌+◌, List, slice_get, Option, Some, None, option_map, option_and_then}
use Rattle.dm_table.specs.declared.table.Base.{Base}
use Rattle.dm_table.specs.declared.table.Target.{Target}
use Rattle.stack_rules.specs.RulesOf.{rules_of}
use Rattle.stack_meaning.specs.TargetMeaning.{IsHanded}
use Rattle.stack_meaning.specs.MeaningOf.{meaning_of}

-- a base by index and a sector relative to it, as a device name and a sector of that device
abbrev pub on_base : List Base → ℕ × ℕ → Option (List ℕ × ℕ)
on_base bases p = option_map (λ base. (base.device, base.offset + p.1)) (slice_get bases p.0)

-- the device and the sector on it that sector s of a line is mapped to
abbrev pub beneath : Target → ℕ → Option (List ℕ × ℕ)
beneath target s = option_and_then (on_base (rules_of target).bases) ((rules_of target).lies s)

-- the line passes sectors through unchanged
abbrev pub HandsOn : Target → Type 0
HandsOn target = IsHanded (meaning_of target).meant

-- the value at the lower sector, or `none` if there is no lower sector
abbrev pub said_or {ℓ} : {X : Type ℓ} → X → (List ℕ → ℕ → X) → Option (List ℕ × ℕ) → X
said_or none at None = none
said_or none at (Some p) = at p.0 p.1

-- the value at sector t of base i
abbrev pub below {ℓ} : {X : Type ℓ} → X → (List ℕ → ℕ → X) → Target → ℕ → ℕ → X
below none at target i t = said_or none at (option_map (λ base. (base.device, t)) (slice_get (rules_of target).bases i))
