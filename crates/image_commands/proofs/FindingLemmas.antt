-- How commands end that compare a tree with what devices hold.
use Rattle.std.proofs.Common.{ℕ, Bool, inl, inr}
use Rattle.block_device.specs.Device.{Device}
use Rattle.image_commands.specs.declared.fault.ImageFault.{ImageFault}
use Rattle.image_commands.specs.declared.tree_source.SoughtTree.{SoughtTree}
use Rattle.image_commands.specs.Verifying.{IsMatchingEnd}

-- a comparison that ended early, where another relation holds of the data devices that calls left
pub matching-as : {Data Data' Hash : Device → Type 0} {d h : Device} {end first : ℕ} {sought : SoughtTree} {failed : Bool} {fault : ImageFault}
    → IsMatchingEnd Data Hash d h end first sought failed fault → ((device : Device) → Data device → Data' device) → IsMatchingEnd Data' Hash d h end first sought failed fault
matching-as (inl none) f = inl none
matching-as (inr ends) f = inr (record {
  tree = ends.tree;
  read_dev = ends.read_dev;
  data_dev' = ends.data_dev';
  hash_dev' = ends.hash_dev';
  left = (ends.left.0, f ends.data_dev' ends.left.1, ends.left.2);
  stated = ends.stated;
  ends = ends.ends;
})
