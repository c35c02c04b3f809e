use Rattle.disk_layout.specs.Entries.{entry_bytes, label_fields, place_fields}
use Rattle.disk_layout.proofs.AppendLemmas.{append-two}
use Rattle.disk_layout.proofs.entries.push_entry.Goals as goal

pub returns-clause-ok : goal.returns-clause-ok
unfolding entry_bytes
returns-clause-ok c = append-two c.args.text.now.items _ _ (place_fields c.args.partition.now) (label_fields c.args.partition.now) c.in_ok-push_places.ensures.ok c.in_ok-push_label.ensures.ok
