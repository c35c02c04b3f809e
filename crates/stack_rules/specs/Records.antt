-- Leaves and mapped devices as contracts see them: with lists instead of vectors.
use Rattle.std.specs.Prelude.{ℕ, Bool, List}
use Rattle.dm_table.specs.declared.table.Line.{Line}

pub record LeafRecord : Type 0 where
  pub name : List ℕ
  pub sectors : ℕ
  pub writable : Bool

pub record DeviceRecord : Type 0 where
  pub name : List ℕ
  pub writable : Bool
  pub table : List Line

-- the leaves, and the mapped devices in order of creation
pub record Configuration : Type 0 where
  pub leaves : List LeafRecord
  pub devices : List DeviceRecord

-- the configuration with these leaves and devices
abbrev pub configuration : List LeafRecord → List DeviceRecord → Configuration
configuration leaves devices = record { leaves = leaves; devices = devices }
