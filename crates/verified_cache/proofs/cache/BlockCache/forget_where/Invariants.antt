use Rattle.std.proofs.Common.{◌≡◌, length}
use Rattle.verified_cache.specs.Cache.{cache_after_moves}
use Rattle.verified_cache.proofs.cache.BlockCache.forget_where.Given as goal

abbrev pub invariant-loop : goal.invariant-loop
invariant-loop g l = record {
  all : l.end ≡ length l.initial.self.blocks;
  moved : l.self ≡ cache_after_moves (g.K.Keys.has l.keys) l.counter l.initial.self;
}
