use Rattle.std.proofs.Common.{◌≡◌, ◌<◌, ◌≤◌, ℕ, ◌+◌, ◌-◌, ◌%◌, length, replicate, take}
use Rattle.std.specs.Prelude.{IsTrue}
use Rattle.nbd_server.specs.Content.{zero_block}
use Rattle.nbd_server.specs.Status.{is_zero_block}
use Rattle.nbd_server.proofs.read_status.first_run.Given as goal

-- the first bytes are a run
abbrev pub invariant-run : goal.invariant-run
invariant-run l = record {
  some : 0 < l.done;
  within : l.done ≤ length l.bytes;
  zeros : IsTrue l.zeros → take l.done l.bytes ≡ replicate l.done 0;
  blocks : (k : ℕ) → k < l.done → is_zero_block l.at l.bytes k ≡ l.zeros;
  aligned : l.done < length l.bytes → (l.at + l.done) % zero_block ≡ 0;
}

abbrev pub decreases-run : goal.decreases-run
decreases-run l = length l.bytes - l.done
