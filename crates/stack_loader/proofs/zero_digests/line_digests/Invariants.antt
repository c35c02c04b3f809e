use Rattle.std.proofs.Common.{◌≡◌, take}
use Rattle.stack_config.specs.Keys.{zero_digests_of}
use Rattle.stack_loader.proofs.zero_digests.line_digests.Given as goal

abbrev pub invariant-loop-line : goal.invariant-loop-line
invariant-loop-line l = l.digests.items ≡ zero_digests_of (take l.line-index l.lines)
