use Rattle.std.proofs.Common.{List, ℕ, ap, arith, length, ◌∙◌}
use Rattle.std.proofs.lemmas.List.{length-replicate}
use Rattle.verity_format.proofs.lemmas.DeviceLemmas.{only_read-none, only_read-then}
use Rattle.tree_repair.proofs.listing.add_level.Goals as goal

pub rows-init : goal.rows-init
rows-init g c = record { read = only_read-none (g.H.BlockDev.state c.args.hash_dev.now) }

pub read_hash-requires-clause-fits : goal.read_hash-requires-clause-fits
read_hash-requires-clause-fits g c = omega (arith, c.requires, c.rows.invariant.read.same.size)

pub read_hash-requires-clause-size : goal.read_hash-requires-clause-size
read_hash-requires-clause-size g c =
    c.rows.auto.block ∙ ap (λ (l : List ℕ). length l) (c.as_mut_slice-block.ensures.value ∙ c.in_ok-room.ensures.ok) ∙ length-replicate {A = ℕ} c.hash_block-size.result 0 ∙ c.hash_block-size.ensures.value

pub rows-preserved : goal.rows-preserved
rows-preserved g c = record { read = only_read-then c.rows.invariant.read c.read_hash.ensures.read }

pub returns-then-levels-eq0 : goal.returns-then-levels-eq0
returns-then-levels-eq0 g c = only_read-none (g.H.BlockDev.state c.args.hash_dev.now)

pub returns-in_err-room : goal.returns-in_err-room
returns-in_err-room g c = only_read-none (g.H.BlockDev.state c.args.hash_dev.now)

pub returns-then-not-read_hash : goal.returns-then-not-read_hash
returns-then-not-read_hash g c = only_read-then c.rows.invariant.read c.read_hash.ensures.read

pub returns-in_err-add_row : goal.returns-in_err-add_row
returns-in_err-add_row g c = only_read-then c.rows.invariant.read c.read_hash.ensures.read

pub returns : goal.returns
returns g c = c.rows.invariant.read
