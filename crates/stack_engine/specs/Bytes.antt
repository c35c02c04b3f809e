-- Pieces of a read that hands out no chains.
use Rattle.std.specs.Prelude.{◌≡◌, ℕ, ◌*◌, List, All, Result}
use Rattle.hash_tree.specs.Chain.{IsGood}
use Rattle.block_device.specs.Device.{Device}
use Rattle.dm_table.specs.declared.verity.Verity.{Verity}
use Rattle.stack_rules.specs.declared.lower.Lower.{Lower}
use Rattle.stack_rules.specs.Records.{Configuration}
use Rattle.stack_rules.specs.Names.{mapped}
use Rattle.stack_rules.specs.Descend.{read_cost}
use Rattle.stack_rules.specs.Trees.{tree_of}
use Rattle.stack_meaning.specs.declared.fault.IoFault.{IoFault}
use Rattle.stack_meaning.specs.Outcomes.{span}
use Rattle.stack_meaning.specs.Found.{FoundRecord}
use Rattle.stack_meaning.specs.Meaning.{sector}
use Rattle.stack_meaning.specs.May.{MayRead, MayFault}
use Rattle.stack_meaning.specs.Leaves.{steady_images, AreRead}
use Rattle.stack_meaning.specs.Places.{place_of, run_expected}
use Rattle.stack_meaning.specs.Reading.{Ends, Answers, Gets}
use Rattle.stack_lines.specs.Touches.{EndsAtFailure, TouchesOnly, leaves_of}
use Rattle.stack_lines.specs.Walks.{HasVerity}
use Rattle.stack_engine.specs.Healing.{HasNoParity}
use Rattle.stack_engine.specs.Pieces.{IsCertainPiece, MeetsVerity}
use Rattle.stack_engine.specs.Stacks.{StackRecord}

-- a chain is good for the verity line that it names
abbrev pub IsGoodChain : Configuration → FoundRecord → Type 0
IsGoodChain c x = (v : Verity) × HasVerity c x.device x.line v × IsGood (tree_of v) v.salt v.root x.chain

-- A piece of n sectors from the first on may be these bytes: there are chains with which they may, each good for its line.
-- They aren't handed out, and a block that was met twice may have two, over devices that answer anything.
pub record MayBeBytes (c : Configuration) (lower : Lower) (first n : ℕ) (bytes : List ℕ) : Type 0 where
  pub chains : List FoundRecord
  pub read : MayRead c lower first n bytes chains
  pub good : All (IsGoodChain c) chains

-- How a piece is answered, n sectors of mapped device d from the first on, with the stack that the answer leaves:
-- whatever the leaves answer
pub record AnyBytes (w : StackRecord) (d first n : ℕ) (answer : Result (List ℕ) IoFault) (w' : StackRecord) : Type 0 where
  pub config : w'.config ≡ w.config
  pub capacity : w'.capacity ≡ w.capacity
  pub moved : AreRead w.leaves (n * read_cost w.config (mapped d)) w'.leaves
  pub may : Ends (MayBeBytes w.config (mapped d) first n) (MayFault w.config (mapped d) first n) w.leaves w'.leaves answer
  pub touches : TouchesOnly (leaves_of w.config (mapped d)) w.leaves w'.leaves answer
  pub fails : (MeetsVerity w d first n → HasNoParity w.config) → EndsAtFailure w.leaves w'.leaves answer

-- where the leaves beneath determine it: what the stack means
pub record SteadyBytes (w : StackRecord) (d first n : ℕ) (answer : Result (List ℕ) IoFault) (w' : StackRecord) : Type 0 where
  pub any : AnyBytes w d first n answer w'
  pub exact : Answers (λ bytes. bytes) (span (sector w.config (steady_images w.leaves) (mapped d)) first n) answer

-- both
pub record EachBytes (w : StackRecord) (d first n : ℕ) (answer : Result (List ℕ) IoFault) (w' : StackRecord) : Type 0 where
  pub any : AnyBytes w d first n answer w'
  pub steady : IsCertainPiece w d first n → SteadyBytes w d first n answer w'

-- ---- on the way

-- A read of n sectors of a leaf or device, from the first on, whose chains were dropped.
pub record GetsBytes (c : Configuration) (lower : Lower) (first n : ℕ) (old new : List Device) (answer : Result (List ℕ) IoFault) : Type 0 where
  pub chains : List FoundRecord
  pub got : Gets (run_expected (place_of c lower) chains first n) old new answer
