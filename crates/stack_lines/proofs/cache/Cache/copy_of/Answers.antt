use Rattle.std.proofs.Common.{◌≡◌, ◌≤◌, ℕ, List, length, All, Option, Some, None, Result, Ok, Err, refl, ap, subst, arith}
use Rattle.std.specs.Prelude.{option_map, OnErr}
use Rattle.allocation.specs.Refusal.{IsRefused, IsOutOfMemory}
use Rattle.verified_cache.specs.Cache.{CachedBlock, CacheRecord, block_under}
use Rattle.verified_cache.specs.declared.key.Key.{Key}
use Rattle.verified_cache.proofs.lemmas.AnswerLemmas.{All-block_under}
use Rattle.stack_lines.specs.Caches.{StackCache, IsUncopied}
use Rattle.stack_lines.proofs.cache.Cache.copy_of.Goals as goal

-- a block that was found is one of the kept ones
module _ (cache : CacheRecord) (key : Key) (digest bytes : List ℕ) (refused : IsRefused (length bytes)) (most : ℕ) (small : All (λ b. length b.bytes ≤ most) cache.blocks) where
  of-found : (o : Option CachedBlock) → block_under key digest cache ≡ o → Some bytes ≡ option_map (λ b. b.bytes) o → IsOutOfMemory most
  of-found None found is = cc
  of-found (Some b) found is =
      let same : bytes ≡ b.bytes = cc in
      let fits : length b.bytes ≤ most = All-block_under (λ x. length x.bytes ≤ most) key digest cache b small found in
      (length bytes, omega (arith, fits, ap (λ (l : List ℕ). length l) same), refused)

on-err : {A E P : Type 0} (result : Result A E) → P → OnErr result P
on-err (Ok x) p = tt
on-err (Err e) p = p

pub returns-in_err-copy-in-Some-clause-err : goal.returns-in_err-copy-in-Some-clause-err
returns-in_err-copy-in-Some-clause-err c =
    on-err c.from_residual.result (subst (λ (k : StackCache). IsUncopied k.blocks) c.self.view_is
    (λ most small. of-found c.self.inside.blocks c.args.key c.args.digest.now c.in-Some.block.now c.in_err-copy-in-Some.ensures.err.1 most small (block_under c.args.key c.args.digest.now c.self.inside.blocks) refl c.in-Some.ensures.answer))
