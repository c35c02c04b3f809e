-- The circuit of SubBytes on numbers, bit by bit, in five parts. Each part computes wires from those of the parts
-- before it.
use Rattle.std.specs.Prelude.{◌≡◌, ℕ, zero, suc, ◌<◌, List, [], ◌∷◌, length, slice_index, bit_xor, bit_and, bit_or}
use Rattle.std.specs.Int.{bit_at}
use Rattle.aes_lanes.specs.Planes.{plane}

-- in lane p, bit b of a plane equals bit v of the number t
pub record CarriesBit (p b v : ℕ) (x : List ℕ) (t : ℕ) : Type 0 where
  pub len : length x ≡ 32
  pub bit : bit_at (slice_index x p) b ≡ bit_at t v

-- CarriesBit for each of the first n planes and numbers
unfoldable pub CarryEach : ℕ → ℕ → ℕ → ℕ → List (List ℕ) → List ℕ → Type 0
CarryEach zero p b v xs ts = Unit
CarryEach (suc n) p b v xs ts = CarryEach n p b v xs ts × CarriesBit p b v (plane xs n) (slice_index ts n)

-- in each lane and bit, n planes hold the image under a map of the bits that m planes hold there
abbrev pub Computes : (List ℕ → List ℕ) → ℕ → List (List ℕ) → ℕ → List (List ℕ) → Type 0
Computes map m xs n ys = (p b v : ℕ) (bits : List ℕ) → p < 32 → b < 8 → v < 256 → CarryEach m p b v xs bits → CarryEach n p b v ys (map bits)

-- in each lane and bit, n planes hold the image under a map of the bits that two groups of m and k planes hold there
abbrev pub ComputesOfBoth : (List ℕ → List ℕ → List ℕ) → ℕ → List (List ℕ) → ℕ → List (List ℕ) → ℕ → List (List ℕ) → Type 0
ComputesOfBoth map m xs k zs n ys = (p b v : ℕ) (xs_bits zs_bits : List ℕ) → p < 32 → b < 8 → v < 256
    → CarryEach m p b v xs xs_bits → CarryEach k p b v zs zs_bits → CarryEach n p b v ys (map xs_bits zs_bits)

-- the linear combinations of the byte's bits that the other parts need
unfoldable pub sums : List ℕ → List ℕ
sums t =
    let x7 = slice_index t 0 in
    let x6 = slice_index t 1 in
    let x5 = slice_index t 2 in
    let x4 = slice_index t 3 in
    let x3 = slice_index t 4 in
    let x2 = slice_index t 5 in
    let x1 = slice_index t 6 in
    let x0 = slice_index t 7 in
    let y14 = bit_xor x3 x5 in
    let y13 = bit_xor x0 x6 in
    let y9 = bit_xor x0 x3 in
    let y8 = bit_xor x0 x5 in
    let t0 = bit_xor x1 x2 in
    let y1 = bit_xor t0 x7 in
    let y4 = bit_xor y1 x3 in
    let y12 = bit_xor y13 y14 in
    let y2 = bit_xor y1 x0 in
    let y5 = bit_xor y1 x6 in
    let y3 = bit_xor y5 y8 in
    let t1 = bit_xor x4 y12 in
    let y15 = bit_xor t1 x5 in
    let y20 = bit_xor t1 x1 in
    let y6 = bit_xor y15 x7 in
    let y10 = bit_xor y15 t0 in
    let y11 = bit_xor y20 y9 in
    let y7 = bit_xor x7 y11 in
    let y17 = bit_xor y10 y11 in
    let y16 = bit_xor t0 y11 in
    let y18 = bit_xor y3 y6 in
    x7 ∷ y1 ∷ y2 ∷ y3 ∷ y4 ∷ y5 ∷ y6 ∷ y7 ∷ y8 ∷ y9 ∷ y10 ∷ y11 ∷ y12 ∷ y13 ∷ y14 ∷ y15 ∷ y16 ∷ y17 ∷ y18 ∷ y20 ∷ []

-- the element of the subfield that is inverted, from products of those sums
unfoldable pub combined : List ℕ → List ℕ
combined y =
    let x7 = slice_index y 0 in
    let y1 = slice_index y 1 in
    let y2 = slice_index y 2 in
    let y3 = slice_index y 3 in
    let y4 = slice_index y 4 in
    let y5 = slice_index y 5 in
    let y6 = slice_index y 6 in
    let y7 = slice_index y 7 in
    let y8 = slice_index y 8 in
    let y9 = slice_index y 9 in
    let y10 = slice_index y 10 in
    let y11 = slice_index y 11 in
    let y12 = slice_index y 12 in
    let y13 = slice_index y 13 in
    let y14 = slice_index y 14 in
    let y15 = slice_index y 15 in
    let y16 = slice_index y 16 in
    let y17 = slice_index y 17 in
    let y18 = slice_index y 18 in
    let y20 = slice_index y 19 in
    let t2 = bit_and y12 y15 in
    let t3 = bit_and y3 y6 in
    let t4 = bit_xor t3 t2 in
    let t5 = bit_and y4 x7 in
    let t6 = bit_xor t5 t2 in
    let t7 = bit_or y13 y16 in
    let t8 = bit_and y5 y1 in
    let t9 = bit_xor t8 t7 in
    let t10 = bit_and y2 y7 in
    let t11 = bit_xor t10 t7 in
    let t12 = bit_and y9 y11 in
    let t13 = bit_and y14 y17 in
    let t14 = bit_xor t13 t12 in
    let t15 = bit_or y8 y10 in
    let t16 = bit_xor t15 t12 in
    let t17 = bit_xor t4 t14 in
    let t18 = bit_xor t6 t16 in
    let t19 = bit_xor t9 t14 in
    let t20 = bit_xor t11 t16 in
    let t21 = bit_xor t17 y20 in
    let t24 = bit_xor t20 y18 in
    t21 ∷ t18 ∷ t19 ∷ t24 ∷ []

-- the inverse in the subfield of 16 elements, and the sums of its bits
unfoldable pub inverse_bits : List ℕ → List ℕ
inverse_bits t =
    let t21 = slice_index t 0 in
    let t22 = slice_index t 1 in
    let t23 = slice_index t 2 in
    let t24 = slice_index t 3 in
    let t25 = bit_xor t23 t24 in
    let t26 = bit_and t21 t25 in
    let t27 = bit_and t22 t25 in
    let t28 = bit_or t24 t26 in
    let t33 = bit_xor t27 t28 in
    let t30 = bit_or t21 t27 in
    let t31 = bit_and t22 t23 in
    let t43 = bit_xor t30 t31 in
    let t32 = bit_xor t23 t33 in
    let t34 = bit_and t24 t30 in
    let t37 = bit_or t32 t34 in
    let t44 = bit_xor t33 t37 in
    let t45 = bit_xor t43 t44 in
    let t35 = bit_and t21 t43 in
    let t36 = bit_or t22 t26 in
    let t40 = bit_xor t35 t36 in
    let t41 = bit_xor t37 t40 in
    let t29 = bit_xor t43 t40 in
    let t42 = bit_xor t45 t41 in
    t29 ∷ t33 ∷ t37 ∷ t40 ∷ t41 ∷ t42 ∷ t43 ∷ t44 ∷ t45 ∷ []

-- the products of the inverse's bits and the byte's sums
unfoldable pub products : List ℕ → List ℕ → List ℕ
products y i =
    let x7 = slice_index y 0 in
    let y1 = slice_index y 1 in
    let y2 = slice_index y 2 in
    let y3 = slice_index y 3 in
    let y4 = slice_index y 4 in
    let y5 = slice_index y 5 in
    let y6 = slice_index y 6 in
    let y7 = slice_index y 7 in
    let y8 = slice_index y 8 in
    let y9 = slice_index y 9 in
    let y10 = slice_index y 10 in
    let y11 = slice_index y 11 in
    let y12 = slice_index y 12 in
    let y13 = slice_index y 13 in
    let y14 = slice_index y 14 in
    let y15 = slice_index y 15 in
    let y16 = slice_index y 16 in
    let y17 = slice_index y 17 in
    let t29 = slice_index i 0 in
    let t33 = slice_index i 1 in
    let t37 = slice_index i 2 in
    let t40 = slice_index i 3 in
    let t41 = slice_index i 4 in
    let t42 = slice_index i 5 in
    let t43 = slice_index i 6 in
    let t44 = slice_index i 7 in
    let t45 = slice_index i 8 in
    let z0 = bit_and t44 y15 in
    let z1 = bit_and t37 y6 in
    let z2 = bit_and t33 x7 in
    let z3 = bit_and t43 y16 in
    let z4 = bit_and t40 y1 in
    let z5 = bit_and t29 y7 in
    let z6 = bit_and t42 y11 in
    let z7 = bit_and t45 y17 in
    let z8 = bit_and t41 y10 in
    let z9 = bit_and t44 y12 in
    let z10 = bit_and t37 y3 in
    let z11 = bit_and t33 y4 in
    let z12 = bit_and t43 y13 in
    let z13 = bit_and t40 y5 in
    let z14 = bit_and t29 y2 in
    let z15 = bit_and t42 y9 in
    let z16 = bit_and t45 y14 in
    let z17 = bit_and t41 y8 in
    z0 ∷ z1 ∷ z2 ∷ z3 ∷ z4 ∷ z5 ∷ z6 ∷ z7 ∷ z8 ∷ z9 ∷ z10 ∷ z11 ∷ z12 ∷ z13 ∷ z14 ∷ z15 ∷ z16 ∷ z17 ∷ []

-- the bits of SubBytes as sums of those products, without the constant 0x63
unfoldable pub substituted : List ℕ → List ℕ
substituted z =
    let z0 = slice_index z 0 in
    let z1 = slice_index z 1 in
    let z2 = slice_index z 2 in
    let z3 = slice_index z 3 in
    let z4 = slice_index z 4 in
    let z5 = slice_index z 5 in
    let z6 = slice_index z 6 in
    let z7 = slice_index z 7 in
    let z8 = slice_index z 8 in
    let z9 = slice_index z 9 in
    let z10 = slice_index z 10 in
    let z11 = slice_index z 11 in
    let z12 = slice_index z 12 in
    let z13 = slice_index z 13 in
    let z14 = slice_index z 14 in
    let z15 = slice_index z 15 in
    let z16 = slice_index z 16 in
    let z17 = slice_index z 17 in
    let t46 = bit_xor z15 z16 in
    let t47 = bit_xor z10 z11 in
    let t48 = bit_xor z5 z13 in
    let t49 = bit_xor z9 z10 in
    let t50 = bit_xor z2 z12 in
    let t51 = bit_xor z2 z5 in
    let t52 = bit_xor z7 z8 in
    let t53 = bit_xor z0 z3 in
    let t54 = bit_xor z6 z7 in
    let t55 = bit_xor z16 z17 in
    let t56 = bit_xor z12 t48 in
    let t57 = bit_xor t50 t53 in
    let t58 = bit_xor z4 t46 in
    let t59 = bit_xor z3 t54 in
    let t60 = bit_xor t46 t57 in
    let t61 = bit_xor z14 t57 in
    let t62 = bit_xor t52 t58 in
    let t63 = bit_xor t49 t58 in
    let t64 = bit_xor z4 t59 in
    let t65 = bit_xor t61 t62 in
    let t66 = bit_xor z1 t63 in
    let s0 = bit_xor t59 t63 in
    let s6 = bit_xor t56 t62 in
    let s7 = bit_xor t48 t60 in
    let t67 = bit_xor t64 t65 in
    let s3 = bit_xor t53 t66 in
    let s4 = bit_xor t51 t66 in
    let s5 = bit_xor t47 t65 in
    let s1 = bit_xor t64 s3 in
    let s2 = bit_xor t55 t67 in
    s7 ∷ s6 ∷ s5 ∷ s4 ∷ s3 ∷ s2 ∷ s1 ∷ s0 ∷ []
