use Rattle.std.proofs.Common.{◌≡◌, ◌≤◌, ◌-◌, ◌%◌, drop, length, replicate}
use Rattle.nbd_server.specs.Content.{zero_block}
use Rattle.nbd_server.proofs.content.zeros_behind.Given as goal

-- the bytes after the rest are whole blocks of zeros
abbrev pub invariant-zeros : goal.invariant-zeros
invariant-zeros l = record {
  zeros : drop l.rest l.bytes ≡ replicate (length l.bytes - l.rest) 0;
  within : l.rest ≤ length l.bytes;
  whole : (length l.bytes - l.rest) % zero_block ≡ 0;
}

abbrev pub decreases-zeros : goal.decreases-zeros
decreases-zeros l = l.rest
