use Rattle.std.proofs.Common.{◌≡◌, List, ℕ, length, drop, ◌∙◌}
use Rattle.std.proofs.lemmas.List.{take_at}
use Rattle.hash_tree.proofs.packing.digests_of.Goals as goal

pub returns-clause-ok : goal.returns-clause-ok
returns-clause-ok c =
    let v = c.in_ok-digests.digests in
    let put : List (List ℕ) = c.digest_blocks.new.out in
    let kept : length put ≡ v.len = c.digest_blocks.auto.out ∙ c.deref_mut.ensures.len in
    take_at put (drop (length put) v.items) v.len kept ∙ c.digest_blocks.ensures
