use Rattle.std.proofs.Common.{◌≡◌, ◌<◌, ◌≤◌, ◌-◌, ◌%◌, length, replicate, take}
use Rattle.nbd_server.specs.Content.{zero_block}
use Rattle.nbd_server.proofs.content.zeros_before.Given as goal

-- the first bytes are zeros, in whole blocks unless they are all
abbrev pub invariant-zeros : goal.invariant-zeros
invariant-zeros l = record { zeros : take l.done l.bytes ≡ replicate l.done 0; within : l.done ≤ length l.bytes; whole : l.done < length l.bytes → l.done % zero_block ≡ 0 }

abbrev pub decreases-zeros : goal.decreases-zeros
decreases-zeros l = length l.bytes - l.done
