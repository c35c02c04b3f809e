use Rattle.std.proofs.Common.{◌≡◌, ◌++◌, length, reverse}
use Rattle.request_queue.proofs.work.append_chains.Given as goal

-- the chains so far, and those that are left from the last one on
abbrev pub invariant-rest : goal.invariant-rest
invariant-rest l = l.chains.items ++ reverse l.more.items ≡ l.fn.chains.items ++ l.fn.more.items

abbrev pub decreases-rest : goal.decreases-rest
decreases-rest l = length l.more.items
