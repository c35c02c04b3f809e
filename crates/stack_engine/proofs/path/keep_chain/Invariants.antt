use Rattle.std.proofs.Common.{◌≡◌, map, take}
use Rattle.verified_cache.specs.Cache.{CachedBlock}
use Rattle.stack_engine.proofs.PathBlockLemmas.{bytes}
use Rattle.stack_engine.proofs.path.keep_chain.Given as goal

-- the blocks so far are copied
abbrev pub invariant-loop-block : goal.invariant-loop-block
invariant-loop-block l = map bytes l.blocks.items ≡ map (λ (b : CachedBlock). b.bytes) (take l.block-index l.path)
