-- A law of the LUKS2 headers that a search reports.
use Rattle.std.specs.Prelude.{◌≡◌, ℕ, ◌-◌, ◌/◌, List, ◌∷◌, ◌++◌, All, length, map, Option, Some}
use Rattle.std.specs.List.{flat_map}
use Rattle.find_commands.specs.declared.checksum.Checksum.{Checksum}
use Rattle.find_commands.specs.declared.checksum.Checksum.TheVariants.{Valid}
use Rattle.find_commands.specs.declared.finding.Finding.{Finding}
use Rattle.find_commands.specs.Findings.{ReadState, findings_in}
use Rattle.find_commands.specs.Headers.{computed, stated_checksum, without_checksum}
use Rattle.find_commands.specs.Luks.{stated_size}

-- these sectors were read, of which the first is sector `at`
pub record WereRead (states : List ReadState) (at : ℕ) (sectors : List (List ℕ)) : Type 0 where
  pub before : List ReadState
  pub after : List ReadState
  pub here : length before ≡ at
  pub are : states ≡ before ++ (map (λ s. Some s) sectors ++ after)

-- the sectors of a header were read, as many as its size states, and its checksum is that of their bytes
pub record IsSound (states : List ReadState) (f : Finding) : Type 0 where
  pub first : List ℕ
  pub more : List (List ℕ)
  pub read : WereRead states f.sector (first ∷ more)
  pub whole : length more ≡ stated_size f.size / 512 - 1
  pub intact : computed (without_checksum first ++ flat_map (λ s. s) more) (stated_checksum first) ≡ Valid

abbrev pub IsSoundIfValid : List ReadState → Finding → Option Checksum → Type 0
IsSoundIfValid states f (Some Valid) = IsSound states f
IsSoundIfValid states f other = Unit {0}

-- A header that is reported with a valid checksum has it.
abbrev pub ValidHeadersAreSound : Type 0
ValidHeadersAreSound = (states : List ReadState) → All (λ f. IsSoundIfValid states f f.checksum) (findings_in states)
