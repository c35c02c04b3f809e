-- The leaves beneath devices and lines.
use Rattle.std.specs.Prelude.{◌≡◌, ℕ, ◌<◌, Bool, true, false, IsTrue, ◌==◌, List, length, slice_get, is_some, All}
use Rattle.std.specs.Int.{bit_at}
use Rattle.std.specs.List.{list_any, slice_index_or}
use Rattle.std.specs.Option.{option_map_or}
use Rattle.dm_table.specs.declared.table.Target.{Target}
use Rattle.stack_rules.specs.declared.lower.Lower.{Lower}
use Rattle.stack_rules.specs.declared.lower.Lower.TheVariants.{Leaf as leaf, Device as device}
use Rattle.stack_rules.specs.Descend.{depth, most_devices}
use Rattle.stack_rules.specs.Names.{mapped, lines_of}
use Rattle.stack_rules.specs.Records.{Configuration}
use Rattle.stack_rules.specs.Rules.{most_leaves}
use Rattle.stack_rules.specs.Trees.{verity_of}
use Rattle.verified_cache.specs.Cache.{CachedBlock, CacheRecord, cache_without}
use Rattle.verified_cache.specs.declared.key.Key.{Key}
use Rattle.stack_lines.specs.declared.leaf_set.LeafSet.{LeafSet}
use Rattle.stack_lines.specs.Clear.{IsClear, IsClearLine}
pub use Rattle.stack_meaning.specs.LeavesBeneath.{stands_on, name_stands_on}

-- ---- sets of leaves

abbrev pub has_leaf : LeafSet → ℕ → Bool
has_leaf set i = bit_at set.bits i == 1

-- set d, or the empty one if there is none
abbrev pub leaf_set_at : List LeafSet → ℕ → LeafSet
leaf_set_at sets d = slice_index_or sets d (record { bits = 0; clear = false })

-- ---- what is stacked on a leaf

abbrev pub is_verity : Target → Bool
is_verity target = is_some (verity_of target)

-- the target is that of a verity line, whose hash device is leaf i or is stacked on it
abbrev pub hashes_stand_on : Configuration → ℕ → Target → Bool
hashes_stand_on c i target = option_map_or (λ v. name_stands_on c i v.hash) (verity_of target) false

-- the line of a key is a verity line whose hash device is leaf i or is stacked on it
abbrev pub line_stands_on : Configuration → ℕ → ℕ → ℕ → Bool
line_stands_on c i d l = option_map_or (λ line. hashes_stand_on c i line.target) (slice_get (lines_of c d) l) false

abbrev pub key_stands_on : Configuration → ℕ → Key → Bool
key_stands_on c i key = line_stands_on c i key.device key.line

-- what is left of a cache without the blocks of the lines whose hash device is leaf i or is stacked on it
abbrev pub cache_without_leaf : Configuration → ℕ → CacheRecord → CacheRecord
cache_without_leaf c i = cache_without (key_stands_on c i)

-- ---- what is found out of a configuration

-- a leaf or device that a configuration may have
abbrev pub IsPossibleLower : Lower → Type 0
IsPossibleLower (leaf i) = i < most_leaves
IsPossibleLower (device d) = d.0 < most_devices

-- the set has the leaves beneath it, and its flag is true only if it is clear
pub record HasLeaves (c : Configuration) (lower : Lower) (set : LeafSet) : Type 0 where
  pub leaves : (i : ℕ) → has_leaf set i ≡ stands_on c i lower
  pub clear : IsTrue set.clear → IsClear c lower

-- the set has the leaves of these names, and its flag is true only if the line of that target is clear
pub record HasLineLeaves (c : Configuration) (names : List (List ℕ)) (target : Target) (set : LeafSet) : Type 0 where
  pub leaves : (i : ℕ) → has_leaf set i ≡ list_any (name_stands_on c i) names
  pub clear : IsTrue set.clear → IsClearLine c target

-- a leaf, or a device that has its set
abbrev pub KnowsLeaves : Configuration → List LeafSet → Lower → Type 0
KnowsLeaves c sets (leaf i) = Unit {0}
KnowsLeaves c sets (device d) = HasLeaves c (device d) (leaf_set_at sets d.0)

-- each device that is less deep has its set
abbrev pub AreSetsBelow : Configuration → ℕ → List LeafSet → Type 0
AreSetsBelow c deep sets = (d : ℕ) → d < length c.devices → depth c (mapped d) < deep → HasLeaves c (mapped d) (leaf_set_at sets d)

-- each device has its set
abbrev pub AreLeafSets : Configuration → List LeafSet → Type 0
AreLeafSets c sets = (d : ℕ) → d < length c.devices → HasLeaves c (mapped d) (leaf_set_at sets d)

-- the set has each leaf beneath the hash device of a kept block's line
abbrev pub CoversBlocks : Configuration → LeafSet → List CachedBlock → Type 0
CoversBlocks c set blocks = All (λ b. (i : ℕ) → i < most_leaves → key_stands_on c i b.key ≡ true → has_leaf set i ≡ true) blocks
