-- The sizes of blocks.
use Rattle.std.proofs.Common.{◌≡◌, ℕ, ◌*◌, ◌/◌, ◌≤◌, Bool, true, false, IsTrue, ◌||◌, ◌==◌, refl, arith}
use Rattle.std.proofs.lemmas.Bool.{eqb-true}
use Rattle.tree_shape.specs.Shape.{is_block_size}

-- a block is whole sectors, 1 to 8
pub record IsWholeSectors (size : ℕ) : Type 0 where
  pub whole : 512 * (size / 512) ≡ size
  pub some : 1 ≤ size / 512
  pub most : size / 512 ≤ 8

sectors_in : (n : ℕ) → (a b d e : Bool) → (n == 512) ≡ a → (n == 1024) ≡ b → (n == 2048) ≡ d → (n == 4096) ≡ e → IsTrue (a || b || d || e) → IsWholeSectors n
sectors_in n true b d e ea eb ed ee h = let is = eqb-true n 512 ea in record { whole = omega (arith, is); some = omega (arith, is); most = omega (arith, is) }
sectors_in n false true d e ea eb ed ee h = let is = eqb-true n 1024 eb in record { whole = omega (arith, is); some = omega (arith, is); most = omega (arith, is) }
sectors_in n false false true e ea eb ed ee h = let is = eqb-true n 2048 ed in record { whole = omega (arith, is); some = omega (arith, is); most = omega (arith, is) }
sectors_in n false false false true ea eb ed ee h = let is = eqb-true n 4096 ee in record { whole = omega (arith, is); some = omega (arith, is); most = omega (arith, is) }
sectors_in n false false false false ea eb ed ee h = cc

pub whole-sectors : (n : ℕ) → IsTrue (is_block_size n) → IsWholeSectors n
whole-sectors n h = sectors_in n (n == 512) (n == 1024) (n == 2048) (n == 4096) refl refl refl refl h
