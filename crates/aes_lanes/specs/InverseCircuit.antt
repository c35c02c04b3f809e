-- The circuit of InvSubBytes on numbers, bit by bit: its first and last part. The middle parts are those of SubBytes.
use Rattle.std.specs.Prelude.{ℕ, List, [], ◌∷◌, slice_index, bit_xor}

-- the linear combinations that the other parts need, of the bits of a byte to which 0x63 has been added
unfoldable pub inverse_sums : List ℕ → List ℕ
inverse_sums t =
    let b0 = slice_index t 0 in
    let b1 = slice_index t 1 in
    let b2 = slice_index t 2 in
    let b3 = slice_index t 3 in
    let b4 = slice_index t 4 in
    let b5 = slice_index t 5 in
    let b6 = slice_index t 6 in
    let b7 = slice_index t 7 in
    let y9 = bit_xor b3 b4 in
    let y5 = bit_xor b4 b6 in
    let y8 = bit_xor b6 b7 in
    let y1 = bit_xor b0 y9 in
    let y6 = bit_xor b4 y8 in
    let y3 = bit_xor b4 b7 in
    let y19 = bit_xor b0 b3 in
    let y14 = bit_xor b3 y6 in
    let y13 = bit_xor b1 y1 in
    let y2 = bit_xor y5 y13 in
    let y4 = bit_xor y9 y2 in
    let y10 = bit_xor y8 y19 in
    let y12 = bit_xor y3 y4 in
    let y7 = bit_xor b5 y4 in
    let y16 = bit_xor y1 y7 in
    let a0 = bit_xor b2 b7 in
    let y20 = bit_xor y2 a0 in
    let y0 = bit_xor b5 a0 in
    let y11 = bit_xor y9 y20 in
    let y17 = bit_xor y10 y11 in
    let y15 = bit_xor y6 y0 in
    y0 ∷ y1 ∷ y2 ∷ y3 ∷ y4 ∷ y5 ∷ y6 ∷ y7 ∷ y8 ∷ y9 ∷ y10 ∷ y11 ∷ y12 ∷ y13 ∷ y14 ∷ y15 ∷ y16 ∷ y17 ∷ b6 ∷ y20 ∷ []

-- the bits of InvSubBytes as sums of the products
unfoldable pub inverse_substituted : List ℕ → List ℕ
inverse_substituted z =
    let z0 = slice_index z 0 in
    let z1 = slice_index z 1 in
    let z2 = slice_index z 2 in
    let z3 = slice_index z 3 in
    let z4 = slice_index z 4 in
    let z5 = slice_index z 5 in
    let z6 = slice_index z 6 in
    let z7 = slice_index z 7 in
    let z8 = slice_index z 8 in
    let z9 = slice_index z 9 in
    let z10 = slice_index z 10 in
    let z11 = slice_index z 11 in
    let z12 = slice_index z 12 in
    let z13 = slice_index z 13 in
    let z14 = slice_index z 14 in
    let z15 = slice_index z 15 in
    let z16 = slice_index z 16 in
    let z17 = slice_index z 17 in
    let c0 = bit_xor z6 z15 in
    let c1 = bit_xor z12 c0 in
    let c2 = bit_xor z16 c1 in
    let c3 = bit_xor z8 z13 in
    let c4 = bit_xor z1 z4 in
    let c5 = bit_xor z2 z10 in
    let c6 = bit_xor c2 c3 in
    let c7 = bit_xor z14 c5 in
    let c8 = bit_xor z7 z13 in
    let c9 = bit_xor z5 c6 in
    let c10 = bit_xor z3 c2 in
    let c11 = bit_xor z9 z17 in
    let c12 = bit_xor c4 c7 in
    let c13 = bit_xor z4 c8 in
    let c14 = bit_xor z3 c3 in
    let c15 = bit_xor z11 c11 in
    let c16 = bit_xor z5 c5 in
    let c17 = bit_xor z11 c1 in
    let c18 = bit_xor z2 c6 in
    let c19 = bit_xor z8 c12 in
    let c20 = bit_xor z0 z17 in
    let c21 = bit_xor z0 c4 in
    let c22 = bit_xor c11 c14 in
    let c23 = bit_xor c17 c20 in
    let s0 = bit_xor z15 c15 in
    let c24 = bit_xor c0 c22 in
    let s2 = bit_xor c9 c21 in
    let c25 = bit_xor c13 c16 in
    let s1 = bit_xor c10 c13 in
    let c26 = bit_xor z11 c19 in
    let s3 = bit_xor c23 c25 in
    let s6 = bit_xor c12 c24 in
    let s4 = bit_xor z0 c18 in
    let s7 = bit_xor z3 c9 in
    let s5 = bit_xor c10 c26 in
    s0 ∷ s1 ∷ s2 ∷ s3 ∷ s4 ∷ s5 ∷ s6 ∷ s7 ∷ []
