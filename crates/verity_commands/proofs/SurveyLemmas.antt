-- Surveys that ended early.
use Rattle.std.proofs.Common.{◌≡◌, ◌⊎◌, ℕ, Bool, List, Option, inl, inr}
use Rattle.block_device.specs.Device.{Device}
use Rattle.charts.specs.declared.form.ReportForm.{ReportForm}
use Rattle.image_commands.specs.declared.tree_source.SoughtTree.{SoughtTree}
use Rattle.verity_commands.specs.declared.tree_fault.TreeFault.{TreeFault}
use Rattle.verity_commands.specs.Surveys.{EndsPlacedSurvey, IsSurveyWithout}

-- another relation holds of the data devices that calls left
pub survey-as : {Data Data' Hash : Device → Type 0} {form : ReportForm} {d h : Device} {sectors end first : ℕ} {sought : SoughtTree} {old new : Option (List ℕ)} {failed : Bool} {fault : TreeFault}
    → (IsSurveyWithout Hash sectors h first sought.source fault × (new ≡ old)) ⊎ EndsPlacedSurvey form Data Hash d h end first sought old new failed fault → ((device : Device) → Data device → Data' device)
    → (IsSurveyWithout Hash sectors h first sought.source fault × (new ≡ old)) ⊎ EndsPlacedSurvey form Data' Hash d h end first sought old new failed fault
survey-as (inl none) f = inl none
survey-as (inr ends) f = inr (record {
  tree = ends.tree;
  read_dev = ends.read_dev;
  data_dev' = ends.data_dev';
  hash_dev' = ends.hash_dev';
  left = (ends.left.0, f ends.data_dev' ends.left.1, ends.left.2);
  found = ends.found;
  ends = ends.ends;
})
