-- The parameters of a repair.
use Rattle.std.specs.Prelude.{◌≡◌, ℕ, List, ◌+◌, ◌%◌, ◌^◌, ◌<◌, ◌≤◌, min}
use Rattle.tree_shape.specs.Digests.{digest}
use Rattle.tree_shape.specs.Shape.{ShapeRecord, levels, per_block}
use Rattle.tree_path.specs.Path.{PathRecord, digest_on}
use Rattle.tree_repair.specs.declared.mending.Mended.{Mended}
use Rattle.tree_repair.specs.declared.place.Place.{Place}
use Rattle.tree_repair.specs.declared.place.Repair.{Repair}
use Rattle.tree_repair.specs.declared.place.Row.{Row}
use Rattle.tree_repair.specs.Runs.{Job, copy_line, mended_line, parity_line}

abbrev pub job : Repair → Job
job r = record { tree = record { shape = r.shape; salt = r.salt; root = r.root }; copy_first = r.copy_first; write = r.write; parity = r.parity }

-- the lines that are printed for a block
abbrev pub block_lines : Repair → Place → Mended → List ℕ
block_lines r place m = mended_line (job r) place.height place.index m

abbrev pub copy_line_at : Repair → Place → ℕ → List ℕ
copy_line_at r place k = copy_line (job r) place.height place.index k

abbrev pub parity_line_at : Repair → Place → List ℕ
parity_line_at r place = parity_line (job r) place.height place.index

-- these bytes have the digest that the path leads to
abbrev pub AreGoodAt : Repair → PathRecord → Place → List ℕ → Type 0
AreGoodAt r p place bytes = digest r.salt bytes ≡ digest_on p place.index place.height

-- the digests of a row's blocks are in one hash block
pub record IsRow (s : ShapeRecord) (r : Row) : Type 0 where
  pub high : r.height ≤ levels s
  pub begins : r.first % per_block s ^ (r.height + 1) ≡ 0
  pub few : r.end ≤ r.first + per_block s ^ (r.height + 1)
  pub inside : r.end ≤ s.blocks
  pub steps : 0 < r.step
  pub step_is : r.step ≡ min (per_block s ^ r.height) s.blocks
  pub small : r.step ≤ 2 ^ 54
