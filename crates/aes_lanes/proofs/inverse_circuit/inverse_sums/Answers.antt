use Rattle.aes_lanes.specs.Circuit.{CarryEach}
use Rattle.aes_lanes.specs.InverseCircuit.{inverse_sums}
use Rattle.aes_lanes.proofs.GateLemmas.{Carries-xor}
use Rattle.aes_lanes.proofs.inverse_circuit.inverse_sums.Goals as goal

pub returns : goal.returns
unfolding inverse_sums CarryEach
returns c p b v bits lane low byte given_x =
    let b0 = given_x.0.0.0.0.0.0.0.1 in
    let b1 = given_x.0.0.0.0.0.0.1 in
    let b2 = given_x.0.0.0.0.0.1 in
    let b3 = given_x.0.0.0.0.1 in
    let b4 = given_x.0.0.0.1 in
    let b5 = given_x.0.0.1 in
    let b6 = given_x.0.1 in
    let b7 = given_x.1 in
    let y9 = Carries-xor lane b3 b4 in
    let y5 = Carries-xor lane b4 b6 in
    let y8 = Carries-xor lane b6 b7 in
    let y1 = Carries-xor lane b0 y9 in
    let y6 = Carries-xor lane b4 y8 in
    let y3 = Carries-xor lane b4 b7 in
    let y19 = Carries-xor lane b0 b3 in
    let y14 = Carries-xor lane b3 y6 in
    let y13 = Carries-xor lane b1 y1 in
    let y2 = Carries-xor lane y5 y13 in
    let y4 = Carries-xor lane y9 y2 in
    let y10 = Carries-xor lane y8 y19 in
    let y12 = Carries-xor lane y3 y4 in
    let y7 = Carries-xor lane b5 y4 in
    let y16 = Carries-xor lane y1 y7 in
    let a0 = Carries-xor lane b2 b7 in
    let y20 = Carries-xor lane y2 a0 in
    let y0 = Carries-xor lane b5 a0 in
    let y11 = Carries-xor lane y9 y20 in
    let y17 = Carries-xor lane y10 y11 in
    let y15 = Carries-xor lane y6 y0 in
    ((((((((((((((((((((tt, y0), y1), y2), y3), y4), y5), y6), y7), y8), y9), y10), y11), y12), y13), y14), y15), y16), y17), b6), y20)
