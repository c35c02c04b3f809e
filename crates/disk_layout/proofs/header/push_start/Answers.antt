use Rattle.std.proofs.Common.{codes}
use Rattle.disk_layout.specs.Headers.{start_fields}
use Rattle.disk_layout.specs.Numbers.{bytes32}
use Rattle.disk_layout.proofs.AppendLemmas.{append-four}
use Rattle.disk_layout.proofs.header.push_start.Goals as goal

pub returns-clause-ok : goal.returns-clause-ok
unfolding start_fields
returns-clause-ok c =
    append-four c.args.text.now.items _ _ _ _ (codes "EFI PART") (bytes32 0x10000) (bytes32 92) (bytes32 c.args.checksum)
    c.in_ok-append.ensures.ok c.in_ok-push32.ensures.ok c.in_ok-push32-2.ensures.ok c.in_ok-push32-3.ensures.ok
