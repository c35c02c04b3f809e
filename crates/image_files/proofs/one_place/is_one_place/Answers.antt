use Rattle.std.proofs.Common.{inl, inr}
use Rattle.image_files.proofs.FileLemmas.{holds-on-err}
use Rattle.image_files.proofs.one_place.is_one_place.Goals as goal

pub returns-in_err-other_target-clause-cause : goal.returns-in_err-other_target-clause-cause
returns-in_err-other_target-clause-cause g c =
    holds-on-err c.from_residual-in_err-other_target.result (inr (inl (c.target_of.new.calls, c.target_of.ensures.calls, c.in_err-other_target.ensures.cause)))
