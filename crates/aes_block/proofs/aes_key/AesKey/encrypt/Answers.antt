use Rattle.std.proofs.Common.{ap, ◌∙◌}
use Rattle.aes_block.specs.Cipher.{inverse_cipher}
use Rattle.aes_block.proofs.AesKeyLemmas.{cipher-key_of, cipher_undone}
use Rattle.aes_block.proofs.aes_key.AesKey.encrypt.Goals as goal

pub returns-clause-value : goal.returns-clause-value
returns-clause-value c = rw (← c.self.view_is) (c.cipher_with.ensures ∙ cipher-key_of c.self.inside c.self.invariant c.self.told.0 c.args.block.now)

pub returns-clause-inverse : goal.returns-clause-inverse
returns-clause-inverse c =
    let key = c.self.inside in
    rw (← c.self.view_is) (ap (inverse_cipher _) (c.cipher_with.ensures ∙ cipher-key_of key c.self.invariant c.self.told.0 c.args.block.now) ∙ cipher_undone key c.self.invariant c.self.told.0 c.args.block.now (record { len = c.told-block; bytes = c.fits-block }))
