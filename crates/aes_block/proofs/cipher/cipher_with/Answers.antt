use Rattle.std.proofs.Common.{◌≡◌, arith}
use Rattle.aes_block.specs.Cipher.{cipher_with}
use Rattle.aes_block.proofs.cipher.cipher_with.Goals as goal

pub returns : goal.returns
unfolding cipher_with
returns c =
    let done : c.loop-i.i ≡ c.args.rounds = omega arith in
    cc
