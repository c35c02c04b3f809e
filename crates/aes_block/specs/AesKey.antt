-- What the fields of an `AesKey` hold.
use Rattle.std.specs.Prelude.{◌≡◌, ℕ, ◌+◌, ◌-◌, ◌*◌, ◌⊎◌, ◌<◌, List, take}
use Rattle.aes_block.specs.declared.aes_key.AesKey.TheInside.{Inside}
use Rattle.aes_block.specs.State.{IsBytes}
use Rattle.aes_block.specs.Rounds.{inv_mix_columns}
use Rattle.aes_block.specs.KeyExpansion.{key_schedule, round_key}

-- the key: the first Nk = Nr - 6 words of the schedule
abbrev pub schedule_key : Inside → List ℕ
schedule_key k = take (4 * (k.rounds - 6)) k.schedule

-- the key has 10 or 14 rounds, `schedule` begins with its key schedule, and `unmixed` holds InvMixColumns of each
-- round key
pub record HoldsSchedule (k : Inside) : Type 0 where
  pub rounds : (k.rounds ≡ 10) ⊎ (k.rounds ≡ 14)
  pub bytes : IsBytes k.schedule
  pub schedule : take (16 * (k.rounds + 1)) k.schedule ≡ key_schedule (schedule_key k)
  pub unmixed : (r : ℕ) → r < 15 → round_key k.unmixed r ≡ inv_mix_columns (round_key k.schedule r)
