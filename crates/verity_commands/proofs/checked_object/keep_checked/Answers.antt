use Rattle.std.proofs.Common.{sym, subst}
use Rattle.tree_difference.specs.declared.fault.DifferenceFault.{DifferenceFault}
use Rattle.verity_commands.specs.CheckedDiffs.{IsKeptCheckCause}
use Rattle.verity_commands.proofs.CheckedLemmas.{kept_check}
use Rattle.verity_commands.proofs.checked_object.keep_checked.Goals as goal

pub returns-in-Err-clause-err : goal.returns-in-Err-clause-err
returns-in-Err-clause-err g c =
    let state = g.D.BlockDev.state in
    let two = c.args.two.now in
    let compared = c.compare_checked.new in
    subst (λ (fault : DifferenceFault). IsKeptCheckCause (state two.first.device) (state two.second.device) (state compared.first) (state compared.second) c.args.pair.now c.args.most fault)
    (sym c.unkept.ensures) (kept_check _ _ _ _ _ _ c.args.pair.now c.args.most compared.listing.refused compared.listing.few c.in-Err.fault c.in-Err.ensures.err)
