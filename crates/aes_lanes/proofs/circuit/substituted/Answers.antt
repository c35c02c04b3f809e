use Rattle.aes_lanes.specs.Circuit.{CarryEach, substituted}
use Rattle.aes_lanes.proofs.GateLemmas.{Carries-xor}
use Rattle.aes_lanes.proofs.circuit.substituted.Goals as goal

pub returns : goal.returns
unfolding substituted CarryEach
returns c p b v products_bits lane low byte given_products =
    let z0 = given_products.0.0.0.0.0.0.0.0.0.0.0.0.0.0.0.0.0.1 in
    let z1 = given_products.0.0.0.0.0.0.0.0.0.0.0.0.0.0.0.0.1 in
    let z2 = given_products.0.0.0.0.0.0.0.0.0.0.0.0.0.0.0.1 in
    let z3 = given_products.0.0.0.0.0.0.0.0.0.0.0.0.0.0.1 in
    let z4 = given_products.0.0.0.0.0.0.0.0.0.0.0.0.0.1 in
    let z5 = given_products.0.0.0.0.0.0.0.0.0.0.0.0.1 in
    let z6 = given_products.0.0.0.0.0.0.0.0.0.0.0.1 in
    let z7 = given_products.0.0.0.0.0.0.0.0.0.0.1 in
    let z8 = given_products.0.0.0.0.0.0.0.0.0.1 in
    let z9 = given_products.0.0.0.0.0.0.0.0.1 in
    let z10 = given_products.0.0.0.0.0.0.0.1 in
    let z11 = given_products.0.0.0.0.0.0.1 in
    let z12 = given_products.0.0.0.0.0.1 in
    let z13 = given_products.0.0.0.0.1 in
    let z14 = given_products.0.0.0.1 in
    let z15 = given_products.0.0.1 in
    let z16 = given_products.0.1 in
    let z17 = given_products.1 in
    let t46 = Carries-xor lane z15 z16 in
    let t47 = Carries-xor lane z10 z11 in
    let t48 = Carries-xor lane z5 z13 in
    let t49 = Carries-xor lane z9 z10 in
    let t50 = Carries-xor lane z2 z12 in
    let t51 = Carries-xor lane z2 z5 in
    let t52 = Carries-xor lane z7 z8 in
    let t53 = Carries-xor lane z0 z3 in
    let t54 = Carries-xor lane z6 z7 in
    let t55 = Carries-xor lane z16 z17 in
    let t56 = Carries-xor lane z12 t48 in
    let t57 = Carries-xor lane t50 t53 in
    let t58 = Carries-xor lane z4 t46 in
    let t59 = Carries-xor lane z3 t54 in
    let t60 = Carries-xor lane t46 t57 in
    let t61 = Carries-xor lane z14 t57 in
    let t62 = Carries-xor lane t52 t58 in
    let t63 = Carries-xor lane t49 t58 in
    let t64 = Carries-xor lane z4 t59 in
    let t65 = Carries-xor lane t61 t62 in
    let t66 = Carries-xor lane z1 t63 in
    let s0 = Carries-xor lane t59 t63 in
    let s6 = Carries-xor lane t56 t62 in
    let s7 = Carries-xor lane t48 t60 in
    let t67 = Carries-xor lane t64 t65 in
    let s3 = Carries-xor lane t53 t66 in
    let s4 = Carries-xor lane t51 t66 in
    let s5 = Carries-xor lane t47 t65 in
    let s1 = Carries-xor lane t64 s3 in
    let s2 = Carries-xor lane t55 t67 in
    ((((((((tt, s7), s6), s5), s4), s3), s2), s1), s0)
