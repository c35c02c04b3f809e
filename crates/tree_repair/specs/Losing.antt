-- Which lost blocks are in a block's round.
use Rattle.std.specs.Prelude.{◌≡◌, ℕ, IsTrue, List}
use Rattle.fec_area.specs.declared.layout.Layout.{Layout}
use Rattle.fec_area.specs.Restoring.{IsAmong, is_beside, lost_count}

-- the first list has the blocks of the second that are in the round of a covered block
pub record AreLostAlike (l : Layout) (index : ℕ) (some all : List ℕ) : Type 0 where
  pub count : lost_count l some index ≡ lost_count l all index
  pub among : (j : ℕ) → IsTrue (is_beside l index j) → IsAmong all j → IsAmong some j
