use Rattle.std.proofs.Common.{ℕ, ◌<◌, arith}
use Rattle.aes_lanes.specs.Planes.{byte_of}
use Rattle.aes_lanes.specs.Circuit.{CarryEach}
use Rattle.aes_lanes.proofs.GateLemmas.{Carries-xor}
use Rattle.aes_lanes.proofs.LaneLemmas.{below_eight}
use Rattle.aes_lanes.proofs.PlaneLemmas.{byte_of_lt}
use Rattle.aes_lanes.proofs.CircuitLemmas.{input_carried, doubled, byte_of-doubled}
use Rattle.aes_lanes.proofs.columns.double.Goals as goal

pub returns-clause-planes : goal.returns-clause-planes
returns-clause-planes c =
    let q = c.args.q.now in
    let p : ℕ = 0 in
    let b : ℕ = 0 in
    let hp : p < 32 = omega arith in
    let x = λ (k : ℕ) (h : k < 8). input_carried q c.requires p b k h in
    let top = x 7 (omega arith) in
    below_eight _ top.len (Carries-xor hp (x 0 (omega arith)) top).len (x 1 (omega arith)).len (Carries-xor hp (x 2 (omega arith)) top).len
    (Carries-xor hp (x 3 (omega arith)) top).len (x 4 (omega arith)).len (x 5 (omega arith)).len (x 6 (omega arith)).len

pub returns-clause-bytes : goal.returns-clause-bytes
unfolding CarryEach doubled
returns-clause-bytes c = λ p b hp hb.
    let q = c.args.q.now in
    let x = λ (k : ℕ) (h : k < 8). input_carried q c.requires p b k h in
    let top = x 7 (omega arith) in
    byte_of-doubled p b (byte_of q p b) _ (byte_of_lt q p b)
    ((((((((tt, top), Carries-xor hp (x 0 (omega arith)) top), x 1 (omega arith)), Carries-xor hp (x 2 (omega arith)) top), Carries-xor hp (x 3 (omega arith)) top), x 4 (omega arith)), x 5 (omega arith)), x 6 (omega arith))
