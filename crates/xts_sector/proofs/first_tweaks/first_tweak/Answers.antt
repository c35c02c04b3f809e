use Rattle.std.proofs.Common.{ap, ◌∙◌}
use Rattle.aes_block.specs.Blocks.{cipher_blocks}
use Rattle.xts_sector.specs.Tweak.{unit_number}
use Rattle.xts_sector.proofs.FirstTweakLemmas.{length-unit_number, cipher_blocks-one}
use Rattle.xts_sector.proofs.first_tweaks.first_tweak.Goals as goal

pub returns : goal.returns
returns c =
    let n = c.args.number in
    c.encrypt_blocks.ensures.value ∙ ap (cipher_blocks c.args.key.now) c.unit_number-tweak.ensures ∙ cipher_blocks-one c.args.key.now (unit_number n) (length-unit_number n)
