use Rattle.std.proofs.Common.{◌+◌, ◌*◌, arith}
use Rattle.std.proofs.lemmas.List.{length-take-le}
use Rattle.aes_block.proofs.AesKeyLemmas.{rounds_between, rounds-key_of, IsKeyLength-key_of, IsBytes-key_of}
use Rattle.aes_block.proofs.aes_key.AesKey.schedule.Goals as goal

pub returns-clause-value : goal.returns-clause-value
returns-clause-value c = rw (← c.self.view_is) c.self.invariant.schedule

pub returns-clause-len : goal.returns-clause-len
returns-clause-len c =
    let key = c.self.inside in
    let between = rounds_between key.rounds c.self.invariant.rounds in
    let long = length-take-le (16 * (key.rounds + 1)) key.schedule (omega (arith, between, c.self.told.0)) in
    rw (← c.self.view_is) (omega (arith, long, rounds-key_of key c.self.invariant c.self.told.0))

pub returns-clause-key : goal.returns-clause-key
returns-clause-key c =
    let key = c.self.inside in
    rw (← c.self.view_is) (IsKeyLength-key_of key c.self.invariant c.self.told.0, IsBytes-key_of key c.self.invariant c.self.told.0)
