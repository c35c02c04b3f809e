-- The fault of a file of the pin that is one of the images.
use Rattle.std.proofs.Common.{List, ℕ}
use Rattle.image_commands.specs.declared.fault.ImageFault.{ImageFault}
use Rattle.image_commands.specs.declared.fault.ImageFault.TheVariants as image
use Rattle.image_commands.specs.PinFiles.{AreOne}
use Rattle.image_files.specs.declared.opening.UnopenedFile.{UnopenedFile}
use Rattle.image_files.specs.Opener.{Calls}
use Rattle.update_commands.specs.PinsApart.{file_in}

pub one-file : {S D : Type 0} (w : Calls S D) (data_path hash_path path : List ℕ) (fault : ImageFault) (other : UnopenedFile) → AreOne w data_path hash_path path fault → AreOne w data_path hash_path path (image.Open (file_in fault other))
one-file w data_path hash_path path (image.Open file) other one = one
one-file w data_path hash_path path image.NoMemory other one = absurd one
one-file w data_path hash_path path (image.Format f) other one = absurd one
one-file w data_path hash_path path (image.Verify f) other one = absurd one
one-file w data_path hash_path path (image.Differs v) other one = absurd one
one-file w data_path hash_path path image.RootText other one = absurd one
one-file w data_path hash_path path image.Unaligned other one = absurd one
one-file w data_path hash_path path image.DataOverlapsTree other one = absurd one
one-file w data_path hash_path path (image.Pin f) other one = absurd one
one-file w data_path hash_path path (image.Unpinned m) other one = absurd one
one-file w data_path hash_path path (image.PinUnwritten f) other one = absurd one
one-file w data_path hash_path path image.Random other one = absurd one
one-file w data_path hash_path path image.Write other one = absurd one
