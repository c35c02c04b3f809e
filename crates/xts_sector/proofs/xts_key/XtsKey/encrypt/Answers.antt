use Rattle.std.proofs.Common.{◌≡◌, sym, ◌∙◌}
use Rattle.aes_block.specs.Cipher.{cipher}
use Rattle.xts_sector.specs.Tweak.{unit_number}
use Rattle.xts_sector.proofs.XtsKeyLemmas.{encrypted-key_of, decrypted-key_of}
use Rattle.xts_sector.proofs.xts_key.XtsKey.encrypt.Goals as goal
use Rattle.xts_sector.proofs.xts_key.XtsKey.encrypt.Goals.{After-encrypt_blocks}

-- the tweak of the first block
first_is : (c : After-encrypt_blocks) → c.first_tweak-first.result ≡ cipher c.self.inside.tweak_key (unit_number c.args.number)
first_is c = c.first_tweak-first.ensures

pub returns-clause-value : goal.returns-clause-value
returns-clause-value c =
    let first = first_is (goal.at.returns-clause-value c).After-encrypt_blocks in
    rw (← c.self.view_is) (c.encrypt_blocks.ensures.value ∙ encrypted-key_of c.self.inside c.self.invariant c.args.number c.args.unit.now c.first_tweak-first.result first)

pub returns-clause-inverse : goal.returns-clause-inverse
returns-clause-inverse c =
    let first = first_is (goal.at.returns-clause-inverse c).After-encrypt_blocks in
    rw (← c.self.view_is) (sym (decrypted-key_of c.self.inside c.self.invariant c.args.number c.encrypt_blocks.new.unit c.first_tweak-first.result first) ∙ c.encrypt_blocks.ensures.inverse)
