-- The map of SubBytes: its tables, its inverse and its range, by computing at each byte.
use Rattle.std.proofs.Common.{◌≡◌, ℕ, ◌<◌, ◌%◌, nat_eq, true, refl, sym, ap, ◌∙◌, arith}
use Rattle.std.specs.Prelude.{slice_index}
use Rattle.aes_block.specs.Field.{product_low, product, inverse, affine, inv_affine, sub_byte, inv_sub_byte}
use Rattle.aes_block.specs.declared.s_box.TheConstants.{S_BOX, INV_S_BOX}
use Rattle.aes_block.proofs.lemmas.ByteLemmas.{all_below, same_below}

s_box-computed : all_below 256 (λ b. nat_eq (slice_index S_BOX b) (sub_byte b)) ≡ true
unfolding product product_low inverse affine sub_byte
s_box-computed = refl

inv_s_box-computed : all_below 256 (λ b. nat_eq (slice_index INV_S_BOX b) (inv_sub_byte b)) ≡ true
unfolding product product_low inverse inv_affine inv_sub_byte
inv_s_box-computed = refl

-- the table is the map of SubBytes
pub s_box_is : (b : ℕ) → b < 256 → slice_index S_BOX b ≡ sub_byte b
s_box_is = same_below 256 (λ b. slice_index S_BOX b) sub_byte s_box-computed

-- the table is the map of InvSubBytes
pub inv_s_box_is : (b : ℕ) → b < 256 → slice_index INV_S_BOX b ≡ inv_sub_byte b
inv_s_box_is = same_below 256 (λ b. slice_index INV_S_BOX b) inv_sub_byte inv_s_box-computed

-- the tables are inverse to each other and hold bytes
inv_s_box-s_box-computed : all_below 256 (λ b. nat_eq (slice_index INV_S_BOX (slice_index S_BOX b)) b) ≡ true
inv_s_box-s_box-computed = refl

s_box-inv_s_box-computed : all_below 256 (λ b. nat_eq (slice_index S_BOX (slice_index INV_S_BOX b)) b) ≡ true
s_box-inv_s_box-computed = refl

s_box_lt-computed : all_below 256 (λ b. nat_eq (slice_index S_BOX b) (slice_index S_BOX b % 256)) ≡ true
s_box_lt-computed = refl

inv_s_box_lt-computed : all_below 256 (λ b. nat_eq (slice_index INV_S_BOX b) (slice_index INV_S_BOX b % 256)) ≡ true
inv_s_box_lt-computed = refl

s_box_lt : (b : ℕ) → b < 256 → slice_index S_BOX b < 256
s_box_lt b h = omega (arith, same_below 256 (λ b. slice_index S_BOX b) (λ b. slice_index S_BOX b % 256) s_box_lt-computed b h)

inv_s_box_lt : (b : ℕ) → b < 256 → slice_index INV_S_BOX b < 256
inv_s_box_lt b h = omega (arith, same_below 256 (λ b. slice_index INV_S_BOX b) (λ b. slice_index INV_S_BOX b % 256) inv_s_box_lt-computed b h)

pub inv_sub_byte-sub_byte : (b : ℕ) → b < 256 → inv_sub_byte (sub_byte b) ≡ b
inv_sub_byte-sub_byte b h =
    ap inv_sub_byte (sym (s_box_is b h)) ∙ sym (inv_s_box_is (slice_index S_BOX b) (s_box_lt b h))
    ∙ same_below 256 (λ b. slice_index INV_S_BOX (slice_index S_BOX b)) (λ b. b) inv_s_box-s_box-computed b h

pub sub_byte-inv_sub_byte : (b : ℕ) → b < 256 → sub_byte (inv_sub_byte b) ≡ b
sub_byte-inv_sub_byte b h =
    ap sub_byte (sym (inv_s_box_is b h)) ∙ sym (s_box_is (slice_index INV_S_BOX b) (inv_s_box_lt b h))
    ∙ same_below 256 (λ b. slice_index S_BOX (slice_index INV_S_BOX b)) (λ b. b) s_box-inv_s_box-computed b h

pub sub_byte_lt : (b : ℕ) → b < 256 → sub_byte b < 256
sub_byte_lt b h = omega (arith, s_box_is b h, s_box_lt b h)

pub inv_sub_byte_lt : (b : ℕ) → b < 256 → inv_sub_byte b < 256
inv_sub_byte_lt b h = omega (arith, inv_s_box_is b h, inv_s_box_lt b h)
