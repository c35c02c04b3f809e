use Rattle.std.proofs.Common.{Some, sym, subst}
use Rattle.runs.specs.Lines.{lines_text}
use Rattle.tree_difference.specs.declared.fault.DifferenceFault.{DifferenceFault}
use Rattle.verity_commands.specs.Diffs.{IsTreesCause}
use Rattle.verity_commands.proofs.KeptLemmas.{trees_cause}
use Rattle.verity_commands.proofs.diff_object.keep_difference.Goals as goal

pub returns-in-Err-clause-err : goal.returns-in-Err-clause-err
returns-in-Err-clause-err g c =
    let state = g.D.BlockDev.state in
    let two = c.args.two.now in
    let compared = c.compare_trees.new in
    subst (λ (fault : DifferenceFault). IsTreesCause (state two.first.device) (state two.second.device) (state compared.first) (state compared.second) c.args.pair.now fault)
    (sym c.unkept.ensures) (trees_cause _ _ _ _ (Some (lines_text c.args.kept.now.lines.items)) (Some (lines_text compared.listing.lines.items)) c.args.pair.now compared.listing.refused compared.listing.few c.in-Err.fault c.in-Err.ensures.err)
