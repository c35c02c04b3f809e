use Rattle.std.proofs.Common.{ℕ, List, ◌++◌, ◌∙◌, ap}
use Rattle.uuid.specs.Parts.{swap_fields}
use Rattle.disk_layout.specs.Numbers.{stored_uuid}
use Rattle.disk_layout.proofs.numbers.push_uuid.Goals as goal

pub returns-clause-ok : goal.returns-clause-ok
unfolding stored_uuid
returns-clause-ok c =
    c.in_ok-append.ensures.ok ∙ ap (λ (l : List ℕ). c.args.text.now.items ++ l) (c.to_bytes_le-bytes.ensures ∙ ap swap_fields c.from_bytes.ensures)
