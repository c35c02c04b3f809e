use Rattle.std.proofs.Common.{◌≡◌, ◌-◌, ◌≤◌, length}
use Rattle.stack_rules.specs.Names.{mapped, size}
use Rattle.transfer_commands.specs.Stores.{HasStored, store_side}
use Rattle.transfer_commands.proofs.StoreLemmas.{HasStoredWhole}
use Rattle.transfer_commands.proofs.input.store_by.Given as goal

-- the sectors before this one were taken and written
abbrev pub invariant-pieces : goal.invariant-pieces
invariant-pieces g l = record {
  stored : HasStored l.fn.d.0 l.fn.place.first (l.at - l.fn.place.first) (store_side l.fn.stack (g.R.Read.remaining l.fn.reader.inner)) (store_side l.stack (g.R.Read.remaining l.reader.inner));
  whole : HasStoredWhole l.fn.d.0 l.fn.place.first (l.at - l.fn.place.first) (store_side l.fn.stack (g.R.Read.remaining l.fn.reader.inner)) (store_side l.stack (g.R.Read.remaining l.reader.inner));
  config : l.stack.config ≡ l.fn.stack.config;
  from : l.fn.place.first ≤ l.at;
  within : l.at ≤ l.sectors;
  all : l.sectors ≡ size l.fn.stack.config (mapped l.fn.d.0);
  room : length l.room ≡ 65536;
}

abbrev pub decreases-pieces : goal.decreases-pieces
decreases-pieces g l = l.sectors - l.at
