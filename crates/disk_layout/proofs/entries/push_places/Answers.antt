use Rattle.disk_layout.specs.Entries.{place_fields}
use Rattle.disk_layout.specs.Numbers.{bytes64, stored_uuid}
use Rattle.disk_layout.proofs.AppendLemmas.{append-four}
use Rattle.disk_layout.proofs.entries.push_places.Goals as goal

pub returns-clause-ok : goal.returns-clause-ok
unfolding place_fields
returns-clause-ok c =
    append-four c.args.text.now.items _ _ _ _ (stored_uuid c.args.partition.now.kind) (stored_uuid c.args.partition.now.uuid) (bytes64 c.args.partition.now.first) (bytes64 c.args.partition.now.last)
    c.in_ok-push_uuid.ensures.ok c.in_ok-push_uuid-2.ensures.ok c.in_ok-push64.ensures.ok c.in_ok-push64-2.ensures.ok
