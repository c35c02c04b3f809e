-- Chains that a read hands out, or drops.
use Rattle.std.specs.Prelude.{◌≡◌, ◌≤◌, ℕ, List, [], ◌∷◌, ◌++◌, length, map, All, Result}
use Rattle.stack_rules.specs.declared.lower.Lower.{Lower}
use Rattle.stack_rules.specs.Records.{Configuration}
use Rattle.stack_meaning.specs.declared.fault.IoFault.{IoFault}
use Rattle.stack_meaning.specs.Found.{FoundRecord, AreDistinct}
use Rattle.stack_meaning.specs.Memory.{largest_allocation}
use Rattle.stack_meaning.specs.Places.{Place, place_of, LeafRead}
use Rattle.stack_meaning.specs.Reading.{Finds}
use Rattle.stack_lines.specs.declared.source.VerityPart.{VerityPart}
use Rattle.stack_lines.specs.declared.source.Source.{Source}
use Rattle.stack_lines.specs.Sources.{source_place}
use Rattle.verified_cache.specs.Cache.{CachedBlock}
use Rattle.stack_engine.specs.declared.path.Chains.{Chains}
use Rattle.stack_engine.specs.declared.path.Chains.TheVariants.{Kept, Dropped}

-- a data block of a part's line that was found, with its path from the root down
abbrev pub one_found : VerityPart → ℕ → List ℕ → List CachedBlock → FoundRecord
one_found part index content path = record { device = part.device.0; line = part.line; chain = record { index = index; content = content; path = map (λ b. b.bytes) path } }

-- a copy of a data block and of the blocks on its path takes no more room at a time than an access may
abbrev pub AreSmall : List ℕ → List CachedBlock → Type 0
AreSmall content path = (length content ≤ largest_allocation) × All (λ b. length b.bytes ≤ largest_allocation) path

-- what is handed out with one more chain
abbrev pub handed_out : Chains → List FoundRecord → FoundRecord → List FoundRecord
handed_out Kept out one = out ++ (one ∷ [])
handed_out Dropped out one = out

-- The chains that were found before a read and after it: all are handed out, or none of those that the read found.
abbrev pub AreHandedOut : Chains → List FoundRecord → List FoundRecord → List FoundRecord → Type 0
AreHandedOut Kept before after out = out ≡ after
AreHandedOut Dropped before after out = out ≡ before

-- a read whose chains after it are all those that were found
abbrev pub with_chains : LeafRead → List FoundRecord → LeafRead
with_chains did found = record { old = did.old; new = did.new; before = did.before; after = found }

-- A read of n sectors of a place, from the first on: some chains were found, and are handed out or dropped. Of those that
-- are handed out no two are of one block.
pub record FindsAs (chains : Chains) (place : Place) (c : Configuration) (first n : ℕ) (did : LeafRead) (answer : Result (List ℕ) IoFault) : Type 0 where
  pub after : List FoundRecord
  pub out : AreHandedOut chains did.before after did.after
  pub reads : Finds place c first n (with_chains did after) answer
  pub distinct : AreDistinct did.before → AreDistinct did.after

-- of a leaf or device
abbrev pub ReadsAs : Chains → Configuration → Lower → ℕ → ℕ → LeafRead → Result (List ℕ) IoFault → Type 0
ReadsAs chains c lower first n did answer = FindsAs chains (place_of c lower) c first n did answer

-- of a source, from its first sector on
abbrev pub ReadsSourceAs : Chains → Configuration → Source → ℕ → LeafRead → Result (List ℕ) IoFault → Type 0
ReadsSourceAs chains c source n did answer = FindsAs chains (source_place c source) c 0 n did answer
