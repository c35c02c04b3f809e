use Rattle.std.proofs.Common.{◌-◌, ◌∙◌, arith}
use Rattle.std.specs.Str.{bytes_eq}
use Rattle.std.specs.HashMap.{get_by}
use Rattle.std.proofs.lemmas.Map.Text.{hash_map_updates_str}
use Rattle.stack_loader.proofs.PlaceLemmas.{more_places, all_places}
use Rattle.stack_loader.proofs.index.leaf_places.Goals as goal

pub loop-i-preserved : goal.loop-i-preserved
loop-i-preserved c = λ q.
    more_places (λ x. x.name) c.args.leaves.now (c.loop-i.i - 1) c.loop-i.i c.index-leaves-i.result c.name.result.now q _ (get_by (λ k. bytes_eq q k.now) c.loop-i.places)
    (omega arith) c.index-leaves-i.is c.name.ensures (omega arith) (c.loop-i.invariant q)
    (hash_map_updates_str c.name.result.now c.loop-i.places c.insert.new.map _ c.in_ok-insert.ensures.updates q)

pub returns-clause-ok : goal.returns-clause-ok
returns-clause-ok c = λ q. c.loop-i.invariant q ∙ all_places (λ x. bytes_eq x.name q) c.args.leaves.now c.loop-i.i (omega arith)
