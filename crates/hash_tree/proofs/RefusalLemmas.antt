-- A builder that fails because an allocation was refused.
use Rattle.std.proofs.Common.{◌≡◌, ◌≤◌, ◌+◌, ◌∙◌, ℕ, List, true, ap, arith, Result, Ok, Err}
use Rattle.std.specs.Prelude.{OnErr}
use Rattle.allocation.specs.Refusal.{IsOutOfMemory}
use Rattle.hash_tree.specs.Building.{BuilderRecord, FailsToPush, block_room, pushed}
use Rattle.hash_tree.proofs.lemmas.BuilderLemmas.{failed-pushed}
use Rattle.hash_tree.proofs.lemmas.BlockwiseLemmas.{size-pushed}

-- what holds of a call that failed is said of how it ended
pub on-err : {A E P : Type 0} (result : Result A E) → P → OnErr result P
on-err (Ok x) p = tt
on-err (Err e) p = p

-- the builder took some digests, and then failed
pub fails-after : (b mid new : BuilderRecord) (ds : List (List ℕ)) → mid ≡ pushed b ds → FailsToPush mid new → FailsToPush b new
fails-after b mid new ds is fails =
    let size : mid.hash_block ≡ b.hash_block = ap (λ (b : BuilderRecord). b.hash_block) is ∙ size-pushed b ds in
    let failed : mid.failed ≡ b.failed = ap (λ (b : BuilderRecord). b.failed) is ∙ failed-pushed b ds in
    (fails.0, λ well. let h = fails.1 (failed ∙ well) in (h.0, omega (arith, h.1, size), h.2))

-- or it failed at one of eight blocks
pub fails-at-block : (b mid new : BuilderRecord) (ds : List (List ℕ)) (n : ℕ) → mid ≡ pushed b ds → n ≤ b.hash_block → (new.failed ≡ true) × IsOutOfMemory (block_room (mid.hash_block + n)) → FailsToPush b new
fails-at-block b mid new ds n is few fails =
    let size : mid.hash_block ≡ b.hash_block = ap (λ (b : BuilderRecord). b.hash_block) is ∙ size-pushed b ds in
    (fails.0, λ well. (fails.1.0, omega (arith, fails.1.1, size, few), fails.1.2))
