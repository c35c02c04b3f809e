use Rattle.aes_lanes.specs.Circuit.{CarryEach, inverse_bits}
use Rattle.aes_lanes.proofs.GateLemmas.{Carries-xor, Carries-and, Carries-or}
use Rattle.aes_lanes.proofs.circuit.inverse.Goals as goal

pub returns : goal.returns
unfolding inverse_bits CarryEach
returns c p b v combined_bits lane low byte given_combined =
    let t21 = given_combined.0.0.0.1 in
    let t22 = given_combined.0.0.1 in
    let t23 = given_combined.0.1 in
    let t24 = given_combined.1 in
    let t25 = Carries-xor lane t23 t24 in
    let t26 = Carries-and lane t21 t25 in
    let t27 = Carries-and lane t22 t25 in
    let t28 = Carries-or lane t24 t26 in
    let t33 = Carries-xor lane t27 t28 in
    let t30 = Carries-or lane t21 t27 in
    let t31 = Carries-and lane t22 t23 in
    let t43 = Carries-xor lane t30 t31 in
    let t32 = Carries-xor lane t23 t33 in
    let t34 = Carries-and lane t24 t30 in
    let t37 = Carries-or lane t32 t34 in
    let t44 = Carries-xor lane t33 t37 in
    let t45 = Carries-xor lane t43 t44 in
    let t35 = Carries-and lane t21 t43 in
    let t36 = Carries-or lane t22 t26 in
    let t40 = Carries-xor lane t35 t36 in
    let t41 = Carries-xor lane t37 t40 in
    let t29 = Carries-xor lane t43 t40 in
    let t42 = Carries-xor lane t45 t41 in
    (((((((((tt, t29), t33), t37), t40), t41), t42), t43), t44), t45)
