-- A checksum of bytes has four bytes.
use Rattle.std.proofs.Common.{◌/◌, ◌%◌, ◌^◌, ◌<◌, ◌==◌, ℕ, zero, suc, Bool, true, false, cond, List, [], ◌∷◌, arith, bit_xor}
use Rattle.std.proofs.lemmas.List.Elements.{All-head, All-tail}
use Rattle.std.proofs.lemmas.Nat.{xor_of_32}
use Rattle.partition_table.specs.Crc.{crc32, ones, polynomial, register_of, shifted_register, shifts, with_byte}
use Rattle.disk_layout.specs.Written.{AreBytes}

either : (b : Bool) (x y : ℕ) → x < 2 ^ 32 → y < 2 ^ 32 → cond b x y < 2 ^ 32
either true x y p q = p
either false x y p q = q

shifted-small : (register : ℕ) → register < 2 ^ 32 → shifted_register register < 2 ^ 32
shifted-small register small =
    let half : register / 2 < 2 ^ 32 = omega arith in
    let poly : polynomial < 2 ^ 32 = omega arith in
    either (register % 2 == 1) (bit_xor (register / 2) polynomial) (register / 2) (xor_of_32 (register / 2) polynomial half poly) half

shifts-small : (n register : ℕ) → register < 2 ^ 32 → shifts n register < 2 ^ 32
unfolding shifts
shifts-small zero register small = small
shifts-small (suc n) register small = shifted-small (shifts n register) (shifts-small n register small)

with_byte-small : (register byte : ℕ) → register < 2 ^ 32 → byte < 256 → with_byte register byte < 2 ^ 32
unfolding with_byte
with_byte-small register byte small is_byte = shifts-small 8 (bit_xor register byte) (xor_of_32 register byte small (omega arith))

register-small : (register : ℕ) (bytes : List ℕ) → register < 2 ^ 32 → AreBytes bytes → register_of register bytes < 2 ^ 32
register-small register [] small are = small
register-small register (x ∷ xs) small are =
    register-small (with_byte register x) xs (with_byte-small register x small (All-head (λ b. b < 256) x xs are)) (All-tail (λ b. b < 256) x xs are)

pub crc32-small : (bytes : List ℕ) → AreBytes bytes → crc32 bytes < 2 ^ 32
unfolding crc32
crc32-small bytes are = xor_of_32 (register_of ones bytes) ones (register-small ones bytes (omega arith) are) (omega arith)
