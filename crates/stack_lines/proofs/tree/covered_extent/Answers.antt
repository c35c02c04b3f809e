use Rattle.std.proofs.Common.{◌≡◌, ◌+◌, ◌-◌, ◌*◌, ◌<◌, ◌≤◌, ℕ, cond, Bool, ap, sym, subst, arith}
use Rattle.std.proofs.Math.Nat.{mul_comm}
use Rattle.std.proofs.lemmas.Bool.{lt-ltb, le-ltb}
use Rattle.dm_table.specs.declared.parity.Parity.{Parity}
use Rattle.dm_table.specs.declared.verity.Verity.{Verity}
use Rattle.stack_rules.specs.Records.{Configuration}
use Rattle.stack_rules.specs.Rules.{IsLoaded}
use Rattle.stack_rules.specs.Names.{size}
use Rattle.stack_rules.specs.Trees.{block_sectors}
use Rattle.stack_meaning.specs.Spares.{covered_start}
use Rattle.stack_meaning.proofs.lemmas.LoadedLemmas.{size-small}
use Rattle.stack_lines.specs.Covered.{HasCoveredBlock, covered_lower}
use Rattle.stack_lines.specs.Extents.{IsExtent}
use Rattle.stack_lines.specs.declared.tree.Extent.{Extent}
use Rattle.stack_lines.specs.declared.tree.Tree.{Tree}
use Rattle.stack_lines.proofs.UnstripedLemmas.{chunk-low}
use Rattle.stack_lines.proofs.lemmas.VerityLineLemmas.{data-whole, covered-inside}
use Rattle.stack_lines.proofs.tree.covered_extent.Goals as goal

-- a covered block of the hash device lies inside it, and its number fits
past : (c : Configuration) (v : Verity) (p : Parity) (tree : Tree) (j : ℕ) → IsLoaded c → HasCoveredBlock c v p tree j → v.blocks ≤ j
    → (block_sectors v * (v.start + (j - v.blocks)) + block_sectors v ≤ size c tree.hash) × (v.start + (j - v.blocks) ≤ block_sectors v * (v.start + (j - v.blocks)))
past c v p tree j loaded block high =
    let room = covered-inside c v p tree loaded block.line j block.there in
    let hash = subst (λ (b : Bool). cond b (block_sectors v * j) (block_sectors v * (v.start + (j - v.blocks))) + block_sectors v ≤ size c (cond b tree.data tree.hash)) (le-ltb j v.blocks high) room in
    let some = (data-whole c tree.device.0 tree.line v loaded block.line.lies.is).some in
    let low = chunk-low (v.start + (j - v.blocks)) (block_sectors v) some in
    (hash, omega (arith, low, mul_comm (v.start + (j - v.blocks)) (block_sectors v)))

pub overflow_add-block : goal.overflow_add-block
overflow_add-block c =
    let room = past c.args.config.now c.args.verity.now c.args.parity.now c.args.tree.now c.args.number c.requires.loaded c.requires.block c.if-number-verity.false in
    omega (arith, room.0, room.1, size-small c.args.config.now c.args.tree.now.hash c.requires.loaded)

-- its first sector
begins : (v : Verity) (sectors j : ℕ) → sectors ≡ block_sectors v → sectors * (v.start + (j - v.blocks)) ≡ block_sectors v * (v.start + (j - v.blocks))
begins v sectors j size = ap (λ (k : ℕ). k * (v.start + (j - v.blocks))) size

pub overflow_mul-first : goal.overflow_mul-first
overflow_mul-first c =
    let v = c.args.verity.now in
    let room = past c.args.config.now v c.args.parity.now c.args.tree.now c.args.number c.requires.loaded c.requires.block c.if-number-verity.false in
    omega (arith, room.0, begins v c.from.result c.args.number c.from.ensures, size-small c.args.config.now c.args.tree.now.hash c.requires.loaded)

-- an extent of one of the two devices
of-data : (c : Configuration) (v : Verity) (tree : Tree) (j : ℕ) (extent : Extent) → j < v.blocks → IsExtent c tree.data (block_sectors v * j) (block_sectors v) extent → IsExtent c (covered_lower v tree j) (covered_start v j) (block_sectors v) extent
of-data c v tree j extent low is =
    subst (λ (b : Bool). IsExtent c (cond b tree.data tree.hash) (cond b (block_sectors v * j) (block_sectors v * (v.start + (j - v.blocks)))) (block_sectors v) extent) (sym (lt-ltb j v.blocks low)) is

of-hash : (c : Configuration) (v : Verity) (tree : Tree) (j : ℕ) (extent : Extent) → v.blocks ≤ j → IsExtent c tree.hash (block_sectors v * (v.start + (j - v.blocks))) (block_sectors v) extent → IsExtent c (covered_lower v tree j) (covered_start v j) (block_sectors v) extent
of-hash c v tree j extent high is =
    subst (λ (b : Bool). IsExtent c (cond b tree.data tree.hash) (cond b (block_sectors v * j) (block_sectors v * (v.start + (j - v.blocks)))) (block_sectors v) extent) (sym (le-ltb j v.blocks high)) is

pub returns-then-number-verity : goal.returns-then-number-verity
returns-then-number-verity c = of-data c.args.config.now c.args.verity.now c.args.tree.now c.args.number c.data_extent.result c.if-number-verity.true c.data_extent.ensures

pub returns : goal.returns
returns c =
    let v = c.args.verity.now in
    let tree = c.args.tree.now in
    let j : ℕ = c.args.number in
    let size = data-whole c.args.config.now tree.device.0 tree.line v c.requires.loaded c.requires.block.line.lies.is in
    let room = past c.args.config.now v c.args.parity.now tree j c.requires.loaded c.requires.block c.if-number-verity.false in
    let same = begins v c.from.result j c.from.ensures in
    let at : ℕ → Extent = λ k. record { lower = tree.hash; first = k; sectors = block_sectors v } in
    of-hash c.args.config.now v tree j (at (c.from.result * (v.start + (j - v.blocks)))) c.if-number-verity.false (record { value = ap at same; lies = record { some = size.some; few = size.most; inside = omega (arith, same, room.0) } })
