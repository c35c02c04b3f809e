use Rattle.std.proofs.Common.{◌≡◌, ℕ, ◌*◌, ◌/◌, ◌<◌, length, take, drop, sym, ap, ◌∙◌, arith}
use Rattle.std.proofs.lemmas.List.{length-take-le, length-drop}
use Rattle.aes_block.specs.Cipher.{inverse_cipher}
use Rattle.aes_block.proofs.lemmas.BlockLemmas.{block-take}
use Rattle.aes_block.specs.Blocks.{block, cipher_blocks, inverse_cipher_blocks}
use Rattle.aes_block.proofs.lemmas.CipherBlocksLemmas.{length-inverse_cipher, inverse_cipher_undone-block}
use Rattle.xts_sector.specs.Blocks.{add_blocks}
use Rattle.xts_sector.specs.Xts.{decrypted_block, decrypted_blocks}
use Rattle.xts_sector.proofs.XtsLemmas.{masked_blocks, block-masked, length-masked, encrypted_block-decrypted_block}
use Rattle.xts_sector.proofs.decryption.decrypt_part.Goals as goal

pub returns-clause-value : goal.returns-clause-value
unfolding decrypted_blocks decrypted_block inverse_cipher_blocks
returns-clause-value c =
    let all = c.args.masks.now in
    let old = c.args.blocks.now in
    let m = length old / 16 in
    masked_blocks (inverse_cipher c.args.key.now) (block all) old (take (length old) all) c.add_masks.new.blocks m
    (length-inverse_cipher c.args.key.now) (omega (arith, c.requires.0)) (λ j h. block-take all (length old) j (omega (arith, h))) c.add_masks.ensures
    c.decrypt_blocks.new.blocks c.add_masks-2.new.blocks c.decrypt_blocks.ensures.value c.add_masks-2.ensures

pub returns-clause-inverse : goal.returns-clause-inverse
returns-clause-inverse c j h =
    let key = c.args.key.now in
    let all = c.args.masks.now in
    let old = c.args.blocks.now in
    let m = length old / 16 in
    let masked = c.add_masks.new.blocks in
    let whole : length old ≡ 16 * m = omega (arith, c.requires.0) in
    let mask = λ (j : ℕ) (h : j < m). block-take all (length old) j (omega (arith, h)) in
    let long = length-masked (inverse_cipher key) (block all) old (take (length old) all) masked m (length-inverse_cipher key) whole mask c.add_masks.ensures in
    let is = block-masked (inverse_cipher key) (block all) old (take (length old) all) masked m (length-inverse_cipher key) whole mask c.add_masks.ensures j h in
    let back = ap (cipher_blocks key) (sym c.decrypt_blocks.ensures.value) ∙ c.decrypt_blocks.ensures.inverse in
    let undone = inverse_cipher_undone-block key masked (omega (arith, long)) back j (omega (arith, long, h)) in
    encrypted_block-decrypted_block key (block all j) (block old j) (length-take-le 16 (drop (16 * j) old) (omega (arith, length-drop (16 * j) old, whole, h)))
    (length-inverse_cipher key (add_blocks (block old j) (block all j))) (rw is at undone)
