use Rattle.std.proofs.Common.{◌+◌, ◌/◌, ◌≤◌, ◌^◌, length, Option}
use Rattle.find_commands.specs.Headers.{Header, IsOpen}
use Rattle.find_commands.proofs.TellingLemmas.{IsTelling}
use Rattle.find_commands.proofs.sectors.tell_sectors.Given as goal

-- what the sectors so far show was received, by the header that was open at first
abbrev pub invariant-sectors : goal.invariant-sectors
invariant-sectors g l = record {
  telling : (h : Option Header) → IsOpen l.fn.current h → IsTelling g.L.FindingList.receives l.first l.bytes h l.number l.rest l.initial.list l.list l.header;
  few : l.number + length l.rest / 512 ≤ 2 ^ 54;
}

abbrev pub decreases-sectors : goal.decreases-sectors
decreases-sectors g l = length l.rest
