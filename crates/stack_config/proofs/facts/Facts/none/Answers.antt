use Rattle.std.proofs.Common.{◌≡◌, List, Some, ap, map}
use Rattle.stack_config.specs.declared.facts.DeviceFacts.{DeviceFacts}
use Rattle.stack_config.proofs.facts.Facts.none.Goals as goal

pub returns : goal.returns
returns c = λ leaves. record {
  depths = ap (map (λ (f : DeviceFacts). f.depth)) c.new.ensures.items;
  reads = ap (map (λ (f : DeviceFacts). f.read_cost)) c.new.ensures.items;
  writes = ap (map (λ (f : DeviceFacts). f.write_cost)) c.new.ensures.items;
  lowers = ap (λ (l : List DeviceFacts). map (map (map (λ lower. Some lower))) (map (λ (f : DeviceFacts). f.lowers) l)) c.new.ensures.items;
  keys = ap (map (λ (f : DeviceFacts). f.keys)) c.new.ensures.items;
  zero_digests = ap (map (λ (f : DeviceFacts). f.zero_digests)) c.new.ensures.items;
}
