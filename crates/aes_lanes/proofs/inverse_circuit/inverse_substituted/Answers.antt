use Rattle.aes_lanes.specs.Circuit.{CarryEach}
use Rattle.aes_lanes.specs.InverseCircuit.{inverse_substituted}
use Rattle.aes_lanes.proofs.GateLemmas.{Carries-xor}
use Rattle.aes_lanes.proofs.inverse_circuit.inverse_substituted.Goals as goal

pub returns : goal.returns
unfolding inverse_substituted CarryEach
returns c p b v products_bits lane low byte given_products =
    let z0 = given_products.0.0.0.0.0.0.0.0.0.0.0.0.0.0.0.0.0.1 in
    let z1 = given_products.0.0.0.0.0.0.0.0.0.0.0.0.0.0.0.0.1 in
    let z2 = given_products.0.0.0.0.0.0.0.0.0.0.0.0.0.0.0.1 in
    let z3 = given_products.0.0.0.0.0.0.0.0.0.0.0.0.0.0.1 in
    let z4 = given_products.0.0.0.0.0.0.0.0.0.0.0.0.0.1 in
    let z5 = given_products.0.0.0.0.0.0.0.0.0.0.0.0.1 in
    let z6 = given_products.0.0.0.0.0.0.0.0.0.0.0.1 in
    let z7 = given_products.0.0.0.0.0.0.0.0.0.0.1 in
    let z8 = given_products.0.0.0.0.0.0.0.0.0.1 in
    let z9 = given_products.0.0.0.0.0.0.0.0.1 in
    let z10 = given_products.0.0.0.0.0.0.0.1 in
    let z11 = given_products.0.0.0.0.0.0.1 in
    let z12 = given_products.0.0.0.0.0.1 in
    let z13 = given_products.0.0.0.0.1 in
    let z14 = given_products.0.0.0.1 in
    let z15 = given_products.0.0.1 in
    let z16 = given_products.0.1 in
    let z17 = given_products.1 in
    let c0 = Carries-xor lane z6 z15 in
    let c1 = Carries-xor lane z12 c0 in
    let c2 = Carries-xor lane z16 c1 in
    let c3 = Carries-xor lane z8 z13 in
    let c4 = Carries-xor lane z1 z4 in
    let c5 = Carries-xor lane z2 z10 in
    let c6 = Carries-xor lane c2 c3 in
    let c7 = Carries-xor lane z14 c5 in
    let c8 = Carries-xor lane z7 z13 in
    let c9 = Carries-xor lane z5 c6 in
    let c10 = Carries-xor lane z3 c2 in
    let c11 = Carries-xor lane z9 z17 in
    let c12 = Carries-xor lane c4 c7 in
    let c13 = Carries-xor lane z4 c8 in
    let c14 = Carries-xor lane z3 c3 in
    let c15 = Carries-xor lane z11 c11 in
    let c16 = Carries-xor lane z5 c5 in
    let c17 = Carries-xor lane z11 c1 in
    let c18 = Carries-xor lane z2 c6 in
    let c19 = Carries-xor lane z8 c12 in
    let c20 = Carries-xor lane z0 z17 in
    let c21 = Carries-xor lane z0 c4 in
    let c22 = Carries-xor lane c11 c14 in
    let c23 = Carries-xor lane c17 c20 in
    let s0 = Carries-xor lane z15 c15 in
    let c24 = Carries-xor lane c0 c22 in
    let s2 = Carries-xor lane c9 c21 in
    let c25 = Carries-xor lane c13 c16 in
    let s1 = Carries-xor lane c10 c13 in
    let c26 = Carries-xor lane z11 c19 in
    let s3 = Carries-xor lane c23 c25 in
    let s6 = Carries-xor lane c12 c24 in
    let s4 = Carries-xor lane z0 c18 in
    let s7 = Carries-xor lane z3 c9 in
    let s5 = Carries-xor lane c10 c26 in
    ((((((((tt, s0), s1), s2), s3), s4), s5), s6), s7)
