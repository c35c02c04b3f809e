-- Devices on a cycle of lines.
use Rattle.std.specs.Prelude.{◌≡◌, ℕ, zero, suc, ◌+◌, ◌<◌, Bool, false, ◌&&◌, ◌||◌, ◌==◌, IsTrue, length}
use Rattle.std.specs.List.{list_any}
use Rattle.stack_rules.specs.declared.lower.Lower.{Lower}
use Rattle.stack_rules.specs.declared.lower.Lower.TheVariants.{Leaf as leaf, Device as device}
use Rattle.stack_rules.specs.Records.{Configuration}
use Rattle.stack_rules.specs.Names.{lowers}

abbrev pub is_mapped : ℕ → Lower → Bool
is_mapped e (leaf i) = false
is_mapped e (device d) = e == d.0

-- a line of device d names device e
abbrev pub names_device : Configuration → ℕ → ℕ → Bool
names_device c d e = list_any (is_mapped e) (lowers c d)

-- a chain of lines leads from one device to another
pub data Leads (c : Configuration) : ℕ → ℕ → Type 0 where
  by_line : (d e : ℕ) → IsTrue (names_device c d e) → Leads c d e
  by_chain : (d e f : ℕ) → IsTrue (names_device c d e) → Leads c e f → Leads c d f

-- a chain of lines leads from the device to itself
abbrev pub IsOnCycle : Configuration → ℕ → Type 0
IsOnCycle c d = Leads c d d

-- the device with this number, from 1 on, is the first that is on a cycle
pub record IsFirstOnCycle (c : Configuration) (number : ℕ) : Type 0 where
  pub place : ℕ
  pub counted : number ≡ place + 1
  pub on_cycle : IsOnCycle c place
  pub earlier : (d : ℕ) → d < place → IsOnCycle c d → ⊥

-- whether steps lead from d to e through indices below k only
unfoldable pub leads_below : (ℕ → ℕ → Bool) → ℕ → ℕ → ℕ → Bool
leads_below step zero d e = step d e
leads_below step (suc k) d e = leads_below step k d e || (leads_below step k d k && leads_below step k k e)

-- whether a device is on a cycle, as a computable test; `is_on_cycle-decides` proves it equivalent to IsOnCycle
unfoldable pub is_on_cycle : Configuration → ℕ → Bool
is_on_cycle c d = leads_below (names_device c) (length c.devices) d d
