use Rattle.scan_commands.specs.TreeRows.{size_text}
use Rattle.scan_commands.proofs.TreeLemmas.{leaf-text, text-then}
use Rattle.scan_commands.proofs.tree_rows.say_lower.Goals as goal

pub returns-in_ok-put-in-Leaf : goal.returns-in_ok-put-in-Leaf
returns-in_ok-put-in-Leaf g c =
    let x = c.index-leaves-i.result in
    text-then g.W.Write.contents c.args.writer.now c.put.new.self c.say_size.new.writer c.say_size.result c.name.result.now (size_text c.sectors.result c.writable.result) _
    c.in_ok-put-in-Leaf.ensures.writes.ok c.in_ok-put-in-Leaf.ensures.writes.kept c.say_size.ensures
    (leaf-text c.args.config.now c.args.lower c.in-Leaf.i c.leaves.result.now x c.name.result.now c.sectors.result c.writable.result c.requires c.in-Leaf.is c.leaves.ensures c.index-leaves-i.is c.name.ensures c.sectors.ensures c.writable.ensures)
