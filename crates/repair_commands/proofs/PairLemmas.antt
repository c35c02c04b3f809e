-- Parts of open images.
use Rattle.std.proofs.Common.{◌≡◌, Bool, ap, subst, sym, ◌∙◌}
use Rattle.block_device.specs.Device.{Device}
use Rattle.device_adapters.specs.declared.part.Part.{Part}
use Rattle.image_files.specs.declared.file_use.FileUse.{FileUse}
use Rattle.image_files.specs.FileUses.{is_clash, part_use}
use Rattle.image_files.specs.Opener.{Calls, IsFresh, IsNarrowed}
use Rattle.repair_commands.specs.declared.pair.Pair.{Pair}
use Rattle.repair_commands.specs.declared.pair.Parts.{Parts}
use Rattle.repair_commands.specs.Pairs.{Narrows, do_clash}

-- a part of a device that was just opened
pub narrowed-fresh : (device narrowed : Device) (part : Part) (writable : Bool) → IsNarrowed device part narrowed → IsFresh device writable → IsFresh narrowed writable
narrowed-fresh device narrowed part writable is fresh = record { may_write = is.may_write ∙ fresh.may_write; clean = is.clean fresh.clean }

-- a device was made of this part, by another name of it
pub narrows-as : {S D : Type 0} (w : Calls S D) (device narrowed : D) (part part' : Part) → part ≡ part' → w.relations.narrows w.old device part narrowed w.new
    → IsNarrowed (w.state device) part (w.state narrowed) → Narrows w device part' narrowed
narrows-as w device narrowed part part' same made is = subst (λ (p : Part). Narrows w device p narrowed) same (record { made = made; is = is })

-- whether two parts clash, by how they are used
pub clash-of : {D : Type 0} (write : Bool) (parts : Parts) (pair : Pair D) (data_use hash_use : FileUse) (test value : Bool) → data_use ≡ part_use write parts.data_part pair.data_image
    → hash_use ≡ part_use write parts.hash_part pair.hash_image → test ≡ is_clash data_use hash_use → test ≡ value → do_clash write parts pair ≡ value
clash-of write parts pair data_use hash_use test value of_data of_hash is tested =
    sym (is ∙ (ap (λ (u : FileUse). is_clash u hash_use) of_data ∙ ap (λ (u : FileUse). is_clash (part_use write parts.data_part pair.data_image) u) of_hash)) ∙ tested
