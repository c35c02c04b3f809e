use Rattle.std.proofs.Common.{◌≡◌, ℕ, ◌-◌, ◌/◌, length, arith}
use Rattle.aes_block.specs.KeyExpansion.{rounds}
use Rattle.aes_lanes.proofs.BlocksLemmas.{rounds_between, HoldKeys-of}
use Rattle.aes_lanes.proofs.keys.planes_of_key.Goals as goal

pub key_planes-requires : goal.key_planes-requires
key_planes-requires c =
    let len = c.schedule-schedule.ensures.len in
    let between = rounds_between c.args.key.now c.schedule-schedule.ensures.key.0 in
    record { few = omega (arith, len, between); long = omega (arith, len) }

pub returns : goal.returns
returns c =
    let key = c.args.key.now in
    let w = c.schedule-schedule.result.now in
    let n : ℕ = length w / 16 - 1 in
    let count : n ≡ rounds key = omega (arith, c.schedule-schedule.ensures.len) in
    HoldKeys-of key w c.key_planes.result n c.schedule-schedule.ensures.value count c.key_planes.ensures
