use Rattle.disk_layout.specs.Headers.{entries_fields, header_bytes, place_fields, start_fields, usable_fields}
use Rattle.disk_layout.proofs.AppendLemmas.{append-four}
use Rattle.disk_layout.proofs.header.push_header.Goals as goal

pub returns-clause-ok : goal.returns-clause-ok
unfolding header_bytes
returns-clause-ok c =
    append-four c.args.text.now.items _ _ _ _ (start_fields c.args.checksum) (place_fields c.args.header.now) (usable_fields c.args.header.now) (entries_fields c.args.header.now)
    c.in_ok-push_start.ensures.ok c.in_ok-push_places.ensures.ok c.in_ok-push_usable.ensures.ok c.in_ok-push_entries.ensures.ok
