use Rattle.std.proofs.Common.{ℕ, ap, arith, length, ◌∙◌}
use Rattle.std.proofs.lemmas.List.{length-replicate}
use Rattle.verity_format.proofs.lemmas.SizeLemmas.{block-size}
use Rattle.update_commands.proofs.SealLemmas.{first_block-is}
use Rattle.update_commands.proofs.sealing.put_superblock.Goals as goal

pub put_first-requires : goal.put_first-requires
put_first-requires c =
    let least = (block-size c.args.superblock.now.hash_block c.shape-shape.ensures.valid.hash_size).least_bytes in
    omega (arith, c.encode-sector.ensures.carried.size, ap length c.requires ∙ length-replicate {A = ℕ} c.args.superblock.now.hash_block 0, least)

pub returns : goal.returns
returns c = first_block-is c.args.superblock.now c.encode-sector.result c.args.block.now c.put_first.new.bytes c.put_first.ensures c.encode-sector.ensures.value c.encode-sector.ensures.carried.size c.requires
