use Rattle.std.proofs.Common.{sym, subst}
use Rattle.tree_survey.specs.declared.fault.SurveyFault.{SurveyFault}
use Rattle.verity_commands.specs.Surveys.{IsKeptCause}
use Rattle.verity_commands.proofs.KeptLemmas.{kept_cause}
use Rattle.verity_commands.proofs.survey_object.keep_survey.Goals as goal

pub returns-in-Err-clause-err : goal.returns-in-Err-clause-err
returns-in-Err-clause-err g c =
    let image = c.args.image.now in
    let scanned = c.survey_image.new in
    subst (λ (fault : SurveyFault). IsKeptCause c.args.tree.now.shape (g.D.BlockDev.state image.data) (g.H.BlockDev.state image.hash) (g.D.BlockDev.state scanned.data_dev) (g.H.BlockDev.state scanned.hash_dev) fault)
    (sym c.unkept.ensures) (kept_cause _ _ _ _ _ scanned.listing.refused scanned.listing.few c.in-Err.fault c.in-Err.ensures.err)
