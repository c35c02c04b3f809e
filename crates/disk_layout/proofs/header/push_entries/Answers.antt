use Rattle.disk_layout.specs.Headers.{entries_fields}
use Rattle.disk_layout.specs.Numbers.{bytes32}
use Rattle.disk_layout.proofs.AppendLemmas.{append-two}
use Rattle.disk_layout.proofs.header.push_entries.Goals as goal

pub returns-clause-ok : goal.returns-clause-ok
unfolding entries_fields
returns-clause-ok c = append-two c.args.text.now.items _ _ (bytes32 128) (bytes32 c.args.header.now.entries_checksum) c.in_ok-push32.ensures.ok c.in_ok-push32-2.ensures.ok
