use Rattle.std.proofs.Common.{ap, ◌∙◌, arith}
use Rattle.aes_block.specs.Cipher.{cipher}
use Rattle.xts_sector.proofs.FirstTweakLemmas.{block-enciphered}
use Rattle.xts_sector.proofs.first_tweaks.make_first_tweaks.Goals as goal

pub returns : goal.returns
returns c j h =
    let key = c.args.key.now in
    let bytes = c.put_numbers.new.blocks in
    let e = c.enciphered.result in
    block-enciphered key bytes c.encrypt_blocks.new.blocks e j (omega arith) (omega arith) (omega arith) c.encrypt_blocks.ensures.value ∙ ap (cipher key) (c.put_numbers.ensures j h)
