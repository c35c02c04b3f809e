use Rattle.std.proofs.Common.{◌+◌, ◌≤◌, ◌^◌, List, length, sym, subst}
use Rattle.rescue_map.specs.declared.map.Run.{Run}
use Rattle.rescue_map.specs.Maps.{marks}
use Rattle.rescue_map.proofs.lemmas.RunLemmas.{are_runs-either}
use Rattle.rescue_map.proofs.map.Map.add.Goals as goal

pub invariant_of-self-inside : goal.invariant_of-self-inside
invariant_of-self-inside c =
    let runs : List Run = c.self.inside.runs.items in
    let room : length (marks runs) + c.args.run.count ≤ 2 ^ 54 = subst (λ (r : List Run). length (marks r) + c.args.run.count ≤ 2 ^ 54) (sym c.self.view_is) c.requires.room in
    (are_runs-either runs c.push.new.v.items c.args.run c.push.result c.push.ensures.ok c.push.ensures.same c.self.inside.whole c.requires.some room, tt)
