use Rattle.disk_layout.specs.Headers.{place_fields}
use Rattle.disk_layout.specs.Numbers.{bytes32, bytes64}
use Rattle.disk_layout.proofs.AppendLemmas.{append-four}
use Rattle.disk_layout.proofs.header.push_places.Goals as goal

pub returns-clause-ok : goal.returns-clause-ok
unfolding place_fields
returns-clause-ok c =
    append-four c.args.text.now.items _ _ _ _ (bytes32 0) (bytes64 c.args.header.now.own) (bytes64 c.args.header.now.other) (bytes64 c.args.header.now.first_usable)
    c.in_ok-push32.ensures.ok c.in_ok-push64.ensures.ok c.in_ok-push64-2.ensures.ok c.in_ok-push64-3.ensures.ok
