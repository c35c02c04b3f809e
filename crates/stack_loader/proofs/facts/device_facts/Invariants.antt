use Rattle.std.proofs.Common.{◌≡◌, ◌≤◌, length, map, drop}
use Rattle.std.specs.List.{range_with_len}
use Rattle.std.specs.Vec.Iter.{into_iter_items}
use Rattle.stack_loader.specs.Facts.{facts_at}
use Rattle.stack_loader.proofs.facts.device_facts.Given as goal

abbrev pub invariant-loop-i : goal.invariant-loop-i
invariant-loop-i l = (l.i-iterator.count ≤ length l.fn.lowers.items) × (into_iter_items l.i-iterator.iter ≡ drop l.i-iterator.count l.fn.lowers.items)
    × (l.facts.items ≡ map (facts_at l.devices l.depths l.read_costs l.write_costs l.fn.lowers.items) (range_with_len 0 l.i-iterator.count))
