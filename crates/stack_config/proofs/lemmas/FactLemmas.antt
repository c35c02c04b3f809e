-- What is computed of a configuration, read off by the place of a device.
use Rattle.std.proofs.Common.{◌≡◌, ◌<◌, ℕ, List, [], refl, sym, ap, ◌∙◌, length, map, get_or, arith}
use Rattle.std.proofs.lemmas.List.{length-map, get_or-map}
use Rattle.stack_rules.specs.Records.{Configuration}
use Rattle.stack_rules.specs.Descend.{depth, read_cost, write_cost}
use Rattle.stack_rules.specs.Names.{mapped}
use Rattle.stack_rules.specs.Rules.{IsLoaded}
use Rattle.stack_rules.proofs.lemmas.KeptLemmas.{length-each_mapped, each_mapped-at, length-row, lower_at-kept}
use Rattle.stack_rules.proofs.lemmas.ValidLemmas.{depth-low}
use Rattle.stack_config.specs.declared.facts.DeviceFacts.{DeviceFacts}
use Rattle.stack_config.specs.declared.facts.Facts.{Facts}
use Rattle.stack_config.specs.Facts.{AreFacts, HaveDevice, IsOfDevice}
use Rattle.stack_config.proofs.KeyLemmas.{key-kept, zero_digest-kept}

-- there are as many as devices
pub length-facts : {c : Configuration} {facts : Facts} → AreFacts c facts → length facts.devices.items ≡ length c.devices
length-facts {c = c} {facts = facts} are =
    let depths : List ℕ = map (λ (f : DeviceFacts). f.depth) facts.devices.items in
    sym (length-map facts.devices.items (λ (f : DeviceFacts). f.depth)) ∙ length-each_mapped (depth c) (length c.devices) depths are.depths

pub have-device : {c : Configuration} {facts : Facts} (d : ℕ) → AreFacts c facts → d < length c.devices → HaveDevice facts d
have-device {facts = facts} d are low = omega (arith, low, length-facts are, facts.devices.ok.0)

module _ {c : Configuration} {facts : Facts} {d : ℕ} {r : DeviceFacts} (are : AreFacts c facts) (low : d < length c.devices) (read : r ≡ get_or facts.devices.items d r) where
  fact-at : {A : Type 0} (f : DeviceFacts → A) (x : A) → f r ≡ get_or (map f facts.devices.items) d x
  fact-at f x = ap f read ∙ sym (get_or-map f facts.devices.items d r x (omega (arith, low, length-facts are)))

  pub is-of-device : IsLoaded c → IsOfDevice c d r
  is-of-device loaded =
      let deep = each_mapped-at (depth c) (length c.devices) (map (λ (f : DeviceFacts). f.depth) facts.devices.items) d r.depth are.depths low (fact-at (λ (f : DeviceFacts). f.depth) r.depth) in
      record {
        depth = (deep, rw deep (depth-low c loaded.valid (mapped d)));
        read = each_mapped-at (read_cost c) (length c.devices) (map (λ (f : DeviceFacts). f.read_cost) facts.devices.items) d r.read_cost are.reads low (fact-at (λ (f : DeviceFacts). f.read_cost) r.read_cost);
        write = each_mapped-at (write_cost c) (length c.devices) (map (λ (f : DeviceFacts). f.write_cost) facts.devices.items) d r.write_cost are.writes low (fact-at (λ (f : DeviceFacts). f.write_cost) r.write_cost);
        names = λ l. rw (fact-at (λ (f : DeviceFacts). f.lowers) []) (length-row c (map (λ (f : DeviceFacts). f.lowers) facts.devices.items) d l are.lowers);
        lower = rw (fact-at (λ (f : DeviceFacts). f.lowers) []) (λ l i x. lower_at-kept c (map (λ (f : DeviceFacts). f.lowers) facts.devices.items) d l i x are.lowers);
        key = λ l. rw (fact-at (λ (f : DeviceFacts). f.keys) []) (key-kept c (map (λ (f : DeviceFacts). f.keys) facts.devices.items) d l are.keys);
        zero_digest = λ l. rw (fact-at (λ (f : DeviceFacts). f.zero_digests) []) (zero_digest-kept c (map (λ (f : DeviceFacts). f.zero_digests) facts.devices.items) d l are.zero_digests);
      }
