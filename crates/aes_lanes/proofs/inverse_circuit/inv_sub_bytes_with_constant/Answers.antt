use Rattle.std.proofs.Common.{ℕ, ◌<◌, arith}
use Rattle.aes_lanes.specs.Planes.{byte_of}
use Rattle.aes_lanes.specs.Circuit.{combined, inverse_bits, products}
use Rattle.aes_lanes.specs.InverseCircuit.{inverse_sums}
use Rattle.aes_lanes.proofs.PlaneLemmas.{byte_of_lt}
use Rattle.aes_lanes.proofs.CircuitLemmas.{inputs, inverse_outputs, inputs_carried, byte_of-inverse_outputs, ArePlanes-carried, block_of-inv_sub_bytes}
use Rattle.aes_lanes.proofs.inverse_circuit.inv_sub_bytes_with_constant.Goals as goal

pub returns-clause-planes : goal.returns-clause-planes
returns-clause-planes c =
    let q = c.args.q.now in
    let p : ℕ = 0 in
    let b : ℕ = 0 in
    let hp : p < 32 = omega arith in
    let hb : b < 8 = omega arith in
    let v = byte_of q p b in
    let byte = byte_of_lt q p b in
    let y = c.inverse_sums-sums.ensures p b v inputs hp hb byte (inputs_carried q c.requires p b) in
    let t = c.combined-combined.ensures p b v (inverse_sums inputs) hp hb byte y in
    let i = c.inverse-inverse.ensures p b v (combined (inverse_sums inputs)) hp hb byte t in
    let z = c.products-products.ensures p b v (inverse_sums inputs) (inverse_bits (combined (inverse_sums inputs))) hp hb byte y i in
    let all = c.inverse_substituted.ensures p b v (products (inverse_sums inputs) (inverse_bits (combined (inverse_sums inputs)))) hp hb byte z in
    ArePlanes-carried p b v _ _ all

pub returns-clause-blocks : goal.returns-clause-blocks
unfolding inverse_outputs
returns-clause-blocks c =
    let q = c.args.q.now in
    block_of-inv_sub_bytes q _ (λ p b hp hb.
    let v = byte_of q p b in
    let byte = byte_of_lt q p b in
    let y = c.inverse_sums-sums.ensures p b v inputs hp hb byte (inputs_carried q c.requires p b) in
    let t = c.combined-combined.ensures p b v (inverse_sums inputs) hp hb byte y in
    let i = c.inverse-inverse.ensures p b v (combined (inverse_sums inputs)) hp hb byte t in
    let z = c.products-products.ensures p b v (inverse_sums inputs) (inverse_bits (combined (inverse_sums inputs))) hp hb byte y i in
    let all = c.inverse_substituted.ensures p b v (products (inverse_sums inputs) (inverse_bits (combined (inverse_sums inputs)))) hp hb byte z in
    byte_of-inverse_outputs p b v _ byte all)
