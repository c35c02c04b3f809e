use Rattle.std.proofs.Common.{[], sym, ◌∙◌, arith}
use Rattle.std.proofs.lemmas.List.{take_more_same, length-map}
use Rattle.hash_tree.proofs.BlockListLemmas.{blocks_of, block_read, ne_differ, ne_same}
use Rattle.hash_tree.proofs.difference.first_difference.Goals as goal

pub returns-then-ne-clause-found : goal.returns-then-ne-clause-found
returns-then-ne-clause-found c =
    let k = c.loop-k.k in
    let xs = c.args.a.now in
    let ys = c.args.b.now in
    let x = block_read xs k c.index-a-k.result c.as_slice.result.now (omega arith) c.index-a-k.is c.as_slice.ensures.value in
    let y = block_read ys k c.index-b-k.result c.as_slice-in-loop-k.result.now (omega (arith, c.requires)) c.index-b-k.is c.as_slice-in-loop-k.ensures.value in
    record {
      inside = rw length-map (omega arith);
      above = c.loop-k.invariant;
      differ = λ same. ne_differ c.as_slice.result.now c.as_slice-in-loop-k.result.now c.if-ne.ensures (x ∙ same ∙ sym y);
    }

pub loop-k-preserved : goal.loop-k-preserved
loop-k-preserved c =
    let k = c.loop-k.k in
    let xs = c.args.a.now in
    let ys = c.args.b.now in
    let x = block_read xs k c.index-a-k.result c.as_slice.result.now (omega arith) c.index-a-k.is c.as_slice.ensures.value in
    let y = block_read ys k c.index-b-k.result c.as_slice-in-loop-k.result.now (omega (arith, c.requires)) c.index-b-k.is c.as_slice-in-loop-k.ensures.value in
    let same = ne_same c.as_slice.result.now c.as_slice-in-loop-k.result.now c.if-ne.ensures in
    take_more_same (blocks_of xs) (blocks_of ys) k [] (rw length-map (omega arith)) (rw length-map (omega (arith, c.requires))) c.loop-k.invariant (sym x ∙ same ∙ y)
