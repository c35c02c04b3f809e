use Rattle.aes_lanes.specs.Circuit.{CarryEach, products}
use Rattle.aes_lanes.proofs.GateLemmas.{Carries-and}
use Rattle.aes_lanes.proofs.circuit.products.Goals as goal

pub returns : goal.returns
unfolding products CarryEach
returns c p b v sums_bits inverse_bits lane low byte given_sums given_inverse =
    let x7 = given_sums.0.0.0.0.0.0.0.0.0.0.0.0.0.0.0.0.0.0.0.1 in
    let y1 = given_sums.0.0.0.0.0.0.0.0.0.0.0.0.0.0.0.0.0.0.1 in
    let y2 = given_sums.0.0.0.0.0.0.0.0.0.0.0.0.0.0.0.0.0.1 in
    let y3 = given_sums.0.0.0.0.0.0.0.0.0.0.0.0.0.0.0.0.1 in
    let y4 = given_sums.0.0.0.0.0.0.0.0.0.0.0.0.0.0.0.1 in
    let y5 = given_sums.0.0.0.0.0.0.0.0.0.0.0.0.0.0.1 in
    let y6 = given_sums.0.0.0.0.0.0.0.0.0.0.0.0.0.1 in
    let y7 = given_sums.0.0.0.0.0.0.0.0.0.0.0.0.1 in
    let y8 = given_sums.0.0.0.0.0.0.0.0.0.0.0.1 in
    let y9 = given_sums.0.0.0.0.0.0.0.0.0.0.1 in
    let y10 = given_sums.0.0.0.0.0.0.0.0.0.1 in
    let y11 = given_sums.0.0.0.0.0.0.0.0.1 in
    let y12 = given_sums.0.0.0.0.0.0.0.1 in
    let y13 = given_sums.0.0.0.0.0.0.1 in
    let y14 = given_sums.0.0.0.0.0.1 in
    let y15 = given_sums.0.0.0.0.1 in
    let y16 = given_sums.0.0.0.1 in
    let y17 = given_sums.0.0.1 in
    let t29 = given_inverse.0.0.0.0.0.0.0.0.1 in
    let t33 = given_inverse.0.0.0.0.0.0.0.1 in
    let t37 = given_inverse.0.0.0.0.0.0.1 in
    let t40 = given_inverse.0.0.0.0.0.1 in
    let t41 = given_inverse.0.0.0.0.1 in
    let t42 = given_inverse.0.0.0.1 in
    let t43 = given_inverse.0.0.1 in
    let t44 = given_inverse.0.1 in
    let t45 = given_inverse.1 in
    let z0 = Carries-and lane t44 y15 in
    let z1 = Carries-and lane t37 y6 in
    let z2 = Carries-and lane t33 x7 in
    let z3 = Carries-and lane t43 y16 in
    let z4 = Carries-and lane t40 y1 in
    let z5 = Carries-and lane t29 y7 in
    let z6 = Carries-and lane t42 y11 in
    let z7 = Carries-and lane t45 y17 in
    let z8 = Carries-and lane t41 y10 in
    let z9 = Carries-and lane t44 y12 in
    let z10 = Carries-and lane t37 y3 in
    let z11 = Carries-and lane t33 y4 in
    let z12 = Carries-and lane t43 y13 in
    let z13 = Carries-and lane t40 y5 in
    let z14 = Carries-and lane t29 y2 in
    let z15 = Carries-and lane t42 y9 in
    let z16 = Carries-and lane t45 y14 in
    let z17 = Carries-and lane t41 y8 in
    ((((((((((((((((((tt, z0), z1), z2), z3), z4), z5), z6), z7), z8), z9), z10), z11), z12), z13), z14), z15), z16), z17)
