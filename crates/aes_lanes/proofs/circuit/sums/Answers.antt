use Rattle.aes_lanes.specs.Circuit.{CarryEach, sums}
use Rattle.aes_lanes.proofs.GateLemmas.{Carries-xor}
use Rattle.aes_lanes.proofs.circuit.sums.Goals as goal

pub returns : goal.returns
unfolding sums CarryEach
returns c p b v bits lane low byte given_x =
    let x7 = given_x.0.0.0.0.0.0.0.1 in
    let x6 = given_x.0.0.0.0.0.0.1 in
    let x5 = given_x.0.0.0.0.0.1 in
    let x4 = given_x.0.0.0.0.1 in
    let x3 = given_x.0.0.0.1 in
    let x2 = given_x.0.0.1 in
    let x1 = given_x.0.1 in
    let x0 = given_x.1 in
    let y14 = Carries-xor lane x3 x5 in
    let y13 = Carries-xor lane x0 x6 in
    let y9 = Carries-xor lane x0 x3 in
    let y8 = Carries-xor lane x0 x5 in
    let t0 = Carries-xor lane x1 x2 in
    let y1 = Carries-xor lane t0 x7 in
    let y4 = Carries-xor lane y1 x3 in
    let y12 = Carries-xor lane y13 y14 in
    let y2 = Carries-xor lane y1 x0 in
    let y5 = Carries-xor lane y1 x6 in
    let y3 = Carries-xor lane y5 y8 in
    let t1 = Carries-xor lane x4 y12 in
    let y15 = Carries-xor lane t1 x5 in
    let y20 = Carries-xor lane t1 x1 in
    let y6 = Carries-xor lane y15 x7 in
    let y10 = Carries-xor lane y15 t0 in
    let y11 = Carries-xor lane y20 y9 in
    let y7 = Carries-xor lane x7 y11 in
    let y17 = Carries-xor lane y10 y11 in
    let y16 = Carries-xor lane t0 y11 in
    let y18 = Carries-xor lane y3 y6 in
    ((((((((((((((((((((tt, x7), y1), y2), y3), y4), y5), y6), y7), y8), y9), y10), y11), y12), y13), y14), y15), y16), y17), y18), y20)
