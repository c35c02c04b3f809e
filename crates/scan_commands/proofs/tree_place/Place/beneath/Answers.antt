use Rattle.std.proofs.Common.{◌≡◌, ◌-◌, take, ap, arith}
use Rattle.std.proofs.lemmas.List.{take_more_set}
use Rattle.scan_commands.specs.Trees.{PlaceRecord}
use Rattle.scan_commands.proofs.TreeLemmas.{place-beneath, place-full}
use Rattle.scan_commands.proofs.tree_place.Place.beneath.Goals as goal

pub returns-then-self-ge-LEVELS : goal.returns-then-self-ge-LEVELS
returns-then-self-ge-LEVELS c =
    let size = ap (λ (p : PlaceRecord). p.steps) c.self.view_is in
    place-full c.args.self.now.bars c.args.self.now.steps c.args.bar (omega (arith, size))

pub returns : goal.returns
returns c =
    let p = c.self.inside in
    rw (← c.self.view_is) (place-beneath (take p.level p.bars) _ (8 - p.level) _ c.args.bar (omega arith) (take_more_set p.bars p.level c.args.bar (omega arith)))
