use Rattle.aes_lanes.specs.Circuit.{CarryEach, combined}
use Rattle.aes_lanes.proofs.GateLemmas.{Carries-xor, Carries-and, Carries-or}
use Rattle.aes_lanes.proofs.circuit.combined.Goals as goal

pub returns : goal.returns
unfolding combined CarryEach
returns c p b v sums_bits lane low byte given_sums =
    let x7 = given_sums.0.0.0.0.0.0.0.0.0.0.0.0.0.0.0.0.0.0.0.1 in
    let y1 = given_sums.0.0.0.0.0.0.0.0.0.0.0.0.0.0.0.0.0.0.1 in
    let y2 = given_sums.0.0.0.0.0.0.0.0.0.0.0.0.0.0.0.0.0.1 in
    let y3 = given_sums.0.0.0.0.0.0.0.0.0.0.0.0.0.0.0.0.1 in
    let y4 = given_sums.0.0.0.0.0.0.0.0.0.0.0.0.0.0.0.1 in
    let y5 = given_sums.0.0.0.0.0.0.0.0.0.0.0.0.0.0.1 in
    let y6 = given_sums.0.0.0.0.0.0.0.0.0.0.0.0.0.1 in
    let y7 = given_sums.0.0.0.0.0.0.0.0.0.0.0.0.1 in
    let y8 = given_sums.0.0.0.0.0.0.0.0.0.0.0.1 in
    let y9 = given_sums.0.0.0.0.0.0.0.0.0.0.1 in
    let y10 = given_sums.0.0.0.0.0.0.0.0.0.1 in
    let y11 = given_sums.0.0.0.0.0.0.0.0.1 in
    let y12 = given_sums.0.0.0.0.0.0.0.1 in
    let y13 = given_sums.0.0.0.0.0.0.1 in
    let y14 = given_sums.0.0.0.0.0.1 in
    let y15 = given_sums.0.0.0.0.1 in
    let y16 = given_sums.0.0.0.1 in
    let y17 = given_sums.0.0.1 in
    let y18 = given_sums.0.1 in
    let y20 = given_sums.1 in
    let t2 = Carries-and lane y12 y15 in
    let t3 = Carries-and lane y3 y6 in
    let t4 = Carries-xor lane t3 t2 in
    let t5 = Carries-and lane y4 x7 in
    let t6 = Carries-xor lane t5 t2 in
    let t7 = Carries-or lane y13 y16 in
    let t8 = Carries-and lane y5 y1 in
    let t9 = Carries-xor lane t8 t7 in
    let t10 = Carries-and lane y2 y7 in
    let t11 = Carries-xor lane t10 t7 in
    let t12 = Carries-and lane y9 y11 in
    let t13 = Carries-and lane y14 y17 in
    let t14 = Carries-xor lane t13 t12 in
    let t15 = Carries-or lane y8 y10 in
    let t16 = Carries-xor lane t15 t12 in
    let t17 = Carries-xor lane t4 t14 in
    let t18 = Carries-xor lane t6 t16 in
    let t19 = Carries-xor lane t9 t14 in
    let t20 = Carries-xor lane t11 t16 in
    let t21 = Carries-xor lane t17 y20 in
    let t24 = Carries-xor lane t20 y18 in
    ((((tt, t21), t18), t19), t24)
