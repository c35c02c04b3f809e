use Rattle.std.proofs.Common.{◌≡◌, ◌%◌, refl, arith}
use Rattle.std.specs.Prelude.{slice_index}
use Rattle.aes_block.specs.Columns.{row_of, state_of_columns}
use Rattle.aes_block.specs.State.{state_of}
use Rattle.aes_block.proofs.columns.block_of.Goals as goal

pub returns : goal.returns
unfolding state_of_columns state_of
returns c =
    let columns = c.args.columns in
    let a : row_of (slice_index columns 0) 0 ≡ slice_index columns 0 % 256 = omega arith in
    let b : row_of (slice_index columns 1) 0 ≡ slice_index columns 1 % 256 = omega arith in
    let d : row_of (slice_index columns 2) 0 ≡ slice_index columns 2 % 256 = omega arith in
    let e : row_of (slice_index columns 3) 0 ≡ slice_index columns 3 % 256 = omega arith in
    rw (c.to_le_bytes-a.ensures, c.to_le_bytes-b.ensures, c.to_le_bytes-c.ensures, c.to_le_bytes-d.ensures, a, b, d, e) refl
