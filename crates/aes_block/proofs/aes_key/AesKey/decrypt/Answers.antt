use Rattle.std.proofs.Common.{ap, ◌∙◌}
use Rattle.aes_block.specs.Cipher.{cipher}
use Rattle.aes_block.proofs.AesKeyLemmas.{unmixed-key_of, inverse_cipher-key_of, inverse_cipher_undone}
use Rattle.aes_block.proofs.aes_key.AesKey.decrypt.Goals as goal

pub returns-clause-value : goal.returns-clause-value
returns-clause-value c = rw (← c.self.view_is) (c.inverse_cipher_with.ensures ∙ inverse_cipher-key_of c.self.inside c.self.invariant c.self.told.0 c.args.block.now)

pub returns-clause-inverse : goal.returns-clause-inverse
returns-clause-inverse c =
    let key = c.self.inside in
    rw (← c.self.view_is) (ap (cipher _) (c.inverse_cipher_with.ensures ∙ inverse_cipher-key_of key c.self.invariant c.self.told.0 c.args.block.now) ∙ inverse_cipher_undone key c.self.invariant c.self.told.0 c.args.block.now (record { len = c.told-block; bytes = c.fits-block }))

pub inverse_cipher_with-requires-clause-unmixed : goal.inverse_cipher_with-requires-clause-unmixed
inverse_cipher_with-requires-clause-unmixed c r h = unmixed-key_of c.self.inside c.self.invariant c.self.told.0 r h
