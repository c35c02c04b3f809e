-- The result of a load.
use Rattle.std.specs.Prelude.{◌≡◌, List, [], None}
use Rattle.dm_table.specs.declared.stack.Entry.{Entry}
use Rattle.stack_loader.specs.declared.check.Next.{Next}
use Rattle.stack_rules.specs.Records.{Configuration}
use Rattle.stack_rules.specs.Rules.{first, rules, duplicate_names, after_load}
use Rattle.stack_config.specs.Facts.{AreFacts}

-- the devices after a load, with the values computed for them
pub record IsNext (c : Configuration) (text : List Entry) (next : Next) : Type 0 where
  pub devices : next.devices.items ≡ (after_load c text).devices
  pub facts : AreFacts (after_load c text) next.facts
  pub fresh : first (duplicate_names [] text) ≡ None
  pub valid : first (rules (after_load c text)) ≡ None
