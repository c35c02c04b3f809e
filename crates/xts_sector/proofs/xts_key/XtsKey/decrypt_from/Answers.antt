use Rattle.std.proofs.Common.{◌≡◌, ℕ, sym, ap, ◌∙◌}
use Rattle.aes_block.specs.Cipher.{cipher}
use Rattle.xts_sector.specs.Tweak.{unit_number}
use Rattle.xts_sector.specs.Xts.{tweak}
use Rattle.xts_sector.proofs.XtsKeyLemmas.{tweak-key_of, encrypted-key_of, decrypted-key_of}
use Rattle.xts_sector.proofs.xts_key.XtsKey.decrypt_from.Goals as goal
use Rattle.xts_sector.proofs.xts_key.XtsKey.decrypt_from.Goals.{After-decrypt_blocks}

-- the tweak, under the second key
first_is : (c : After-decrypt_blocks) (n : ℕ) → c.args.first.now ≡ tweak c.args.self.now n 0 → c.args.first.now ≡ cipher c.self.inside.tweak_key (unit_number n)
first_is c n is = is ∙ ap (λ key. tweak key n 0) (sym c.self.view_is) ∙ tweak-key_of c.self.inside c.self.invariant n

pub returns-clause-value : goal.returns-clause-value
returns-clause-value c n is =
    let first = first_is (goal.at.returns-clause-value c).After-decrypt_blocks n is in
    rw (← c.self.view_is) (c.decrypt_blocks.ensures.value ∙ decrypted-key_of c.self.inside c.self.invariant n c.args.unit.now c.args.first.now first)

pub returns-clause-inverse : goal.returns-clause-inverse
returns-clause-inverse c n is =
    let first = first_is (goal.at.returns-clause-inverse c).After-decrypt_blocks n is in
    rw (← c.self.view_is) (sym (encrypted-key_of c.self.inside c.self.invariant n c.decrypt_blocks.new.unit c.args.first.now first) ∙ c.decrypt_blocks.ensures.inverse)
