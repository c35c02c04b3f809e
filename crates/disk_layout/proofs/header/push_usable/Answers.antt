use Rattle.disk_layout.specs.Headers.{usable_fields}
use Rattle.disk_layout.specs.Numbers.{bytes32, bytes64, stored_uuid}
use Rattle.disk_layout.proofs.AppendLemmas.{append-four}
use Rattle.disk_layout.proofs.header.push_usable.Goals as goal

pub returns-clause-ok : goal.returns-clause-ok
unfolding usable_fields
returns-clause-ok c =
    append-four c.args.text.now.items _ _ _ _ (bytes64 c.args.header.now.last_usable) (stored_uuid c.args.header.now.disk_id) (bytes64 c.args.header.now.entries) (bytes32 128)
    c.in_ok-push64.ensures.ok c.in_ok-push_uuid.ensures.ok c.in_ok-push64-2.ensures.ok c.in_ok-push32.ensures.ok
