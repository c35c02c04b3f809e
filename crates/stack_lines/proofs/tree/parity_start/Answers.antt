use Rattle.std.proofs.Common.{◌≡◌, ◌+◌, ◌*◌, ◌^◌, ◌≤◌, ℕ, Option, refl, sym, ap, subst, arith}
use Rattle.std.specs.Prelude.{IfSome}
use Rattle.std.proofs.Math.Nat.{mul_comm}
use Rattle.dm_table.specs.declared.parity.Parity.{Parity}
use Rattle.dm_table.specs.declared.verity.Verity.{Verity}
use Rattle.stack_rules.specs.declared.lower.Lower.{Lower}
use Rattle.stack_rules.specs.Names.{size}
use Rattle.stack_rules.specs.Records.{Configuration}
use Rattle.stack_rules.specs.Rules.{IsLoaded}
use Rattle.stack_rules.specs.Trees.{block_sectors}
use Rattle.stack_meaning.specs.Spares.{parity_start}
use Rattle.stack_meaning.proofs.lemmas.LoadedLemmas.{size-small}
use Rattle.stack_lines.specs.Covered.{HasRound}
use Rattle.stack_lines.specs.declared.tree.Tree.{Tree}
use Rattle.stack_lines.proofs.UnstripedLemmas.{chunk-low}
use Rattle.stack_lines.proofs.lemmas.VerityLineLemmas.{data-whole, parity-there, round-inside}
use Rattle.stack_lines.proofs.tree.parity_start.Goals as goal

-- the parity of a round begins at a number that fits, in sectors and in blocks
fits : (c : Configuration) (v : Verity) (p : Parity) (tree : Tree) (n : ℕ) → IsLoaded c → HasRound c v p tree n → (parity_start v p n ≤ 2 ^ 54) × (p.start + n * p.roots ≤ 2 ^ 54)
fits c v p tree n loaded round =
    let it = parity-there c v p tree loaded round.line in
    let room = round-inside c v p tree loaded round.line it.0 it.1 n round.there in
    let some = (data-whole c tree.device.0 tree.line v loaded round.line.lies.is).some in
    let low = chunk-low (p.start + n * p.roots) (block_sectors v) some in
    let swap = mul_comm (p.start + n * p.roots) (block_sectors v) in
    let small = size-small c it.0 loaded in
    (omega (arith, room, small), omega (arith, room, small, low, swap))

pub overflow_mul-within : goal.overflow_mul-within
overflow_mul-within c =
    let p = c.args.parity.now in
    let low = fits c.args.config.now c.args.verity.now p c.args.tree.now c.args.round c.requires.loaded c.requires.round in
    let same : c.args.round * c.from-roots.result ≡ c.args.round * p.roots = ap (λ (k : ℕ). c.args.round * k) c.from-roots.ensures in
    omega (arith, low.1, same)

pub overflow_add-block : goal.overflow_add-block
overflow_add-block c =
    let p = c.args.parity.now in
    let low = fits c.args.config.now c.args.verity.now p c.args.tree.now c.args.round c.requires.loaded c.requires.round in
    let same : c.args.round * c.from-roots.result ≡ c.args.round * p.roots = ap (λ (k : ℕ). c.args.round * k) c.from-roots.ensures in
    omega (arith, low.1, same)

product : (a b x y : ℕ) → a ≡ x → b ≡ y → a * b ≡ x * y
product a b x y p q = rw (p, q) refl

-- what the function computes
begins : (v : Verity) (p : Parity) (n roots sectors : ℕ) → roots ≡ p.roots → sectors ≡ block_sectors v → sectors * (p.start + n * roots) ≡ parity_start v p n
begins v p n roots sectors few size = product sectors (p.start + n * roots) (block_sectors v) (p.start + n * p.roots) size (ap (λ (k : ℕ). p.start + n * k) few)

pub overflow_mul-result : goal.overflow_mul-result
overflow_mul-result c =
    let v = c.args.verity.now in
    let p = c.args.parity.now in
    let low = fits c.args.config.now v p c.args.tree.now c.args.round c.requires.loaded c.requires.round in
    omega (arith, low.0, begins v p c.args.round c.from-roots.result c.from-sectors.result c.from-roots.ensures c.from-sectors.ensures)

pub returns-clause-value : goal.returns-clause-value
returns-clause-value c = begins c.args.verity.now c.args.parity.now c.args.round c.from-roots.result c.from-sectors.result c.from-roots.ensures c.from-sectors.ensures

pub returns-clause-inside : goal.returns-clause-inside
returns-clause-inside c =
    let v = c.args.verity.now in
    let p = c.args.parity.now in
    let tree = c.args.tree.now in
    let it = parity-there c.args.config.now v p tree c.requires.loaded c.requires.round.line in
    let same = begins v p c.args.round c.from-roots.result c.from-sectors.result c.from-roots.ensures c.from-sectors.ensures in
    let room = round-inside c.args.config.now v p tree c.requires.loaded c.requires.round.line it.0 it.1 c.args.round c.requires.round.there in
    subst (λ (o : Option Lower). IfSome o (λ lower. c.from-sectors.result * (p.start + c.args.round * c.from-roots.result) + block_sectors v * p.roots ≤ size c.args.config.now lower)) (sym it.1) (omega (arith, same, room))
