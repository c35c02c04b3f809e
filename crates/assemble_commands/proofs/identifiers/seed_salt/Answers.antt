use Rattle.std.proofs.Common.{◌≡◌, ◌∙◌, ℕ, List, [], ap}
use Rattle.tree_shape.specs.Digests.{digest}
use Rattle.assemble_commands.specs.Identifiers.{seed_salt}
use Rattle.assemble_commands.proofs.identifiers.seed_salt.Goals as goal

pub returns : goal.returns
unfolding seed_salt
returns c =
    let none : c.unwrap-none.result ≡ [] = rw c.unwrap-none.ensures at c.new.ensures.value in
    let salt : c.unwrap.result ≡ c.as_bytes-2.result.now = rw c.unwrap.ensures at c.new-2.ensures.value in
    salt ∙ c.as_bytes-2.ensures.value ∙ c.digest-digest.ensures ∙ ap (λ (s : List ℕ). digest s c.as_bytes.result.now) none ∙ ap (digest []) c.as_bytes.ensures.value
