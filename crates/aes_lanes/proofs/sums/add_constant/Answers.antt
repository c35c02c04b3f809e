use Rattle.std.proofs.Common.{ℕ, ◌<◌, arith}
use Rattle.aes_lanes.specs.Planes.{byte_of}
use Rattle.aes_lanes.specs.Circuit.{CarryEach}
use Rattle.aes_lanes.proofs.GateLemmas.{Carries-xor, Carries-ones}
use Rattle.aes_lanes.proofs.LaneLemmas.{below_eight}
use Rattle.aes_lanes.proofs.PlaneLemmas.{byte_of_lt}
use Rattle.aes_lanes.proofs.CircuitLemmas.{input_carried, constant_added, byte_of-constant_added, block_of-constant}
use Rattle.aes_lanes.proofs.sums.add_constant.Goals as goal

pub returns-clause-planes : goal.returns-clause-planes
returns-clause-planes c =
    let q = c.args.q.now in
    let p : ℕ = 0 in
    let b : ℕ = 0 in
    let hp : p < 32 = omega arith in
    let x = λ (k : ℕ) (h : k < 8). input_carried q c.requires p b k h in
    let ones = Carries-ones hp (omega arith) (byte_of_lt q p b) in
    below_eight _ (Carries-xor hp (x 0 (omega arith)) ones).len (Carries-xor hp (x 1 (omega arith)) ones).len (x 2 (omega arith)).len (x 3 (omega arith)).len
    (x 4 (omega arith)).len (Carries-xor hp (x 5 (omega arith)) ones).len (Carries-xor hp (x 6 (omega arith)) ones).len (x 7 (omega arith)).len

pub returns-clause-blocks : goal.returns-clause-blocks
unfolding CarryEach constant_added
returns-clause-blocks c =
    let q = c.args.q.now in
    block_of-constant q _ (λ p b hp hb.
    let x = λ (k : ℕ) (h : k < 8). input_carried q c.requires p b k h in
    let ones = Carries-ones hp hb (byte_of_lt q p b) in
    byte_of-constant_added p b (byte_of q p b) _ (byte_of_lt q p b)
    ((((((((tt, Carries-xor hp (x 0 (omega arith)) ones), Carries-xor hp (x 1 (omega arith)) ones), x 2 (omega arith)), x 3 (omega arith)), x 4 (omega arith)), Carries-xor hp (x 5 (omega arith)) ones), Carries-xor hp (x 6 (omega arith)) ones), x 7 (omega arith)))
