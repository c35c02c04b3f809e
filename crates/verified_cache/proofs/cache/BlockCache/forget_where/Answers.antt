use Rattle.std.proofs.Common.{◌≡◌, ◌<◌, ◌∙◌, sym, ap, length, arith}
use Rattle.verified_cache.specs.Cache.{cache_after_moves}
use Rattle.verified_cache.proofs.MoveLemmas.{cache_after_moves-none, cache_after_moves-more, cache_after_moves-all}
use Rattle.verified_cache.proofs.cache.BlockCache.forget_where.Goals as goal

pub loop-init : goal.loop-init
loop-init g c = record { all = c.len-end.ensures.value; moved = sym (cache_after_moves-none (g.K.Keys.has c.args.keys.now) c.args.self.now) }

pub loop-preserved : goal.loop-preserved
loop-preserved g c =
    let within : c.loop.counter < length c.args.self.now.blocks = omega (arith, c.loop.invariant.all) in
    record {
      all = c.loop.invariant.all;
      moved = c.move_oldest.ensures ∙ ap (cache_after_moves (g.K.Keys.has c.args.keys.now) 1) c.loop.invariant.moved ∙ cache_after_moves-more (g.K.Keys.has c.args.keys.now) c.loop.counter c.args.self.now within;
    }

pub returns : goal.returns
returns g c =
    let all : c.loop.counter ≡ length c.args.self.now.blocks = omega (arith, c.loop.invariant.all) in
    c.loop.invariant.moved ∙ ap (λ n. cache_after_moves (g.K.Keys.has c.args.keys.now) n c.args.self.now) all ∙ cache_after_moves-all (g.K.Keys.has c.args.keys.now) c.args.self.now
