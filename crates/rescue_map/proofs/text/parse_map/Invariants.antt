use Rattle.std.proofs.Common.{◌≡◌, ◌+◌, ◌*◌, ◌≤◌, length}
use Rattle.rescue_map.specs.Blocks.{most_bytes}
use Rattle.rescue_map.specs.Maps.{marks}
use Rattle.rescue_map.specs.MapText.{blocks_from, map_of, said}
use Rattle.rescue_map.specs.Tails.{IsTail}
use Rattle.rescue_map.proofs.ReadLemmas.{after}
use Rattle.rescue_map.proofs.text.parse_map.Given as goal

abbrev pub invariant-lines : goal.invariant-lines
invariant-lines l = record {
  whole : map_of l.sectors l.text ≡ after l.map l.tail (blocks_from l.sectors l.at (said l.lines));
  here : length (marks l.map) * 512 + l.tail.count ≡ l.at;
  inside : l.at ≤ most_bytes l.sectors;
  part : IsTail l.tail;
}

abbrev pub decreases-lines : goal.decreases-lines
decreases-lines l = length (said l.lines)
