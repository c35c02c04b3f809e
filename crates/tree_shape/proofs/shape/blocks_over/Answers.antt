use Rattle.std.proofs.Common.{◌≡◌, ◌≤◌, ◌*◌, ◌/◌, ◌-◌, refl, sym, ap, ◌∙◌, arith}
use Rattle.tree_shape.specs.Shape.{ShapeRecord, per_block, area_blocks}
use Rattle.tree_shape.proofs.lemmas.ShapeLemmas.{area_blocks-step, area_blocks-end, thrice, over}
use Rattle.tree_shape.proofs.shape.blocks_over.Goals as goal

pub loop-count-preserved : goal.loop-count-preserved
loop-count-preserved c =
    let n = c.loop-count.count in
    let p = c.from-per_block.result in
    let here = c.loop-count.invariant in
    let three : 3 ≤ p = omega (arith, c.requires.digests, here.digests) in
    record {
      digests = here.digests;
      some = omega arith;
      left = λ s same.
          let digests : p ≡ per_block s = here.digests ∙ ap (λ h. h / 32) (sym same) in
          let two : 2 ≤ per_block s = omega (arith, digests, three) in
          let step = area_blocks-step s n two c.loop-count-test.true in
          let before = here.left s same in
          rw digests (omega (arith, step, before));
      room =
          let s : ShapeRecord = record { data_block = 512; hash_block = c.args.hash_block; blocks = n; start = 0 } in
          let third : 3 * ((n - 1) / (c.args.hash_block / 32)) ≤ n - 1 = thrice s (omega (arith, three, here.digests)) (n - 1) (omega (arith, three, here.digests)) in
          rw here.digests (omega (arith, third, here.room, c.loop-count-test.true));
    }

pub returns-clause-value : goal.returns-clause-value
returns-clause-value c =
    let s : ShapeRecord = record { data_block = 512; hash_block = c.args.hash_block; blocks = c.args.blocks; start = 0 } in
    let here = c.loop-count.invariant in
    let ended : area_blocks (over s c.loop-count.count) ≡ 0 = area_blocks-end s c.loop-count.count (omega (arith, c.requires.digests)) (omega (arith, here.some, c.loop-count-test.false)) in
    omega (arith, here.left s refl, ended)
