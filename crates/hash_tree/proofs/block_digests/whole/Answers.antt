use Rattle.std.proofs.Common.{◌<◌, [], arith}
use Rattle.std.proofs.lemmas.List.{ext_get_or}
use Rattle.hash_tree.proofs.block_digests.whole.Goals as goal

pub returns : goal.returns
returns c =
    let made = c.map.ensures.items in
    ext_get_or [] c.map.result c.args.lanes (omega (arith, made.long)) (λ j h. let lt : j < 8 = omega (arith, made.long) in (made.at j [] [] lt).2.met)
