use Rattle.disk_layout.specs.Mbrs.{protective_record}
use Rattle.disk_layout.specs.Numbers.{bytes32}
use Rattle.disk_layout.proofs.AppendLemmas.{append-four}
use Rattle.disk_layout.proofs.mbr.push_record.Goals as goal

pub returns-clause-ok : goal.returns-clause-ok
unfolding protective_record
returns-clause-ok c =
    append-four c.args.text.now.items _ _ _ _ (bytes32 0x20000) (bytes32 0xffffffee) (bytes32 1) (bytes32 c.args.sectors)
    c.in_ok-push32.ensures.ok c.in_ok-push32-2.ensures.ok c.in_ok-push32-3.ensures.ok c.in_ok-push32-4.ensures.ok
