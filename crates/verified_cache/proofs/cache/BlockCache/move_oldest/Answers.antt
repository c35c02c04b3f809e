use Rattle.verified_cache.specs.declared.key.Key.{Key}
use Rattle.verified_cache.specs.declared.slots.DigestedBlock.{DigestedBlock}
use Rattle.verified_cache.proofs.MoveLemmas.{dropped, moved, IsCache-dropped, IsCache-moved}
use Rattle.verified_cache.proofs.cache.BlockCache.move_oldest.Goals as goal
use Rattle.verified_cache.proofs.cache.BlockCache.move_oldest.Goals.{then-has, else-has}

pub invariant_of-self-2 : goal.invariant_of-self-2
invariant_of-self-2 g c =
    let valid = rw c.in-Some.is at c.self.invariant in
    let oldest : Key × DigestedBlock = (c.in-Some-peek_lru.key.now, c.in-Some-peek_lru.field-0-1.now) in
    elim c.if-has.branch [
      | then-has w ↦
          rw (w.self-inside-is, w.pop_lru.ensures.entries)
          (valid.0, IsCache-dropped (g.K.Keys.has c.args.keys.now) c.self.inside.capacity c.in-Some.slots.entries oldest c.in-Some-peek_lru.ensures valid.1)
      | else-has w ↦
          rw (w.self-inside-is, w.promote.ensures.entries)
          (valid.0, IsCache-moved (g.K.Keys.has c.args.keys.now) c.self.inside.capacity c.in-Some.slots.entries oldest c.in-Some-peek_lru.ensures valid.1)
    ]

pub returns : goal.returns
returns g c =
    let valid = rw c.in-Some.is at c.self.invariant in
    let view = rw c.in-Some.is at c.self.view_is in
    let oldest : Key × DigestedBlock = (c.in-Some-peek_lru.key.now, c.in-Some-peek_lru.field-0-1.now) in
    elim c.if-has.branch [
      | then-has w ↦
          rw (w.self-inside-is, w.pop_lru.ensures.entries)
          (dropped (g.K.Keys.has c.args.keys.now) c.self.inside.capacity c.in-Some.slots.entries oldest c.in-Some-peek_lru.ensures w.if-has.ensures c.args.self.now view)
      | else-has w ↦
          rw (w.self-inside-is, w.promote.ensures.entries)
          (moved (g.K.Keys.has c.args.keys.now) c.self.inside.capacity c.in-Some.slots.entries oldest c.in-Some-peek_lru.ensures valid.1.distinct w.if-has.ensures c.args.self.now view)
    ]
