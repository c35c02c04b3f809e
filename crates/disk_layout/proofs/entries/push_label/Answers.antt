use Rattle.disk_layout.specs.Entries.{label_fields}
use Rattle.disk_layout.specs.Numbers.{bytes64}
use Rattle.disk_layout.proofs.AppendLemmas.{append-two}
use Rattle.disk_layout.proofs.entries.push_label.Goals as goal

pub returns-clause-ok : goal.returns-clause-ok
unfolding label_fields
returns-clause-ok c = append-two c.args.text.now.items _ _ (bytes64 0) c.args.partition.now.label c.in_ok-push64.ensures.ok c.in_ok-append.ensures.ok
