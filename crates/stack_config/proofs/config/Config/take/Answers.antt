use Rattle.std.proofs.Common.{◌≡◌, [], List}
use Rattle.stack_rules.specs.Records.{LeafRecord}
use Rattle.stack_config.proofs.EmptyLemmas.{empty-loaded}
use Rattle.stack_config.proofs.config.Config.take.Goals as goal

pub invariant_of-self : goal.invariant_of-self
invariant_of-self c =
    let leaves : List LeafRecord = c.self.inside.leaves.items in
    let gone : c.replace-devices.new.dest.items ≡ [] = rw c.replace-devices.ensures.after c.new.ensures.items in
    rw (gone, c.replace-facts.ensures.after) (record { loaded = empty-loaded leaves c.self.invariant.loaded.leaves; facts = c.none.ensures leaves })
