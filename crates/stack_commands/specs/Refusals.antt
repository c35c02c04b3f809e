-- Refusals with numbers from 18 on are in the list.
use Rattle.std.specs.Prelude.{◌≡◌, ◌⊎◌, ◌<◌, ℕ, List, Some}
use Rattle.fec_area.specs.declared.writing.ParityFault.{ParityFault}
use Rattle.fec_commands.specs.declared.fault.FecFault.TheVariants as fec
use Rattle.fec_commands.specs.FaultTexts.{fec_text, parity_text}
use Rattle.image_commands.specs.declared.fault.ImageFault.TheVariants as image
use Rattle.image_files.specs.declared.texts.ReplaceFault.{ReplaceFault}
use Rattle.image_pin.specs.declared.fault.PinFault.{PinFault}
use Rattle.image_pin.specs.declared.mismatch.Mismatch.{Mismatch}
use Rattle.image_pin.specs.Faults.{fault_name, fault_number}
use Rattle.image_pin.specs.Mismatches.{mismatch_name, mismatch_number}
use Rattle.io_fault_text.specs.Refusals.{HaveOwnNumbers, IsNumbered, refusal_name}
use Rattle.io_fault_text.specs.Texts.{no_memory}
use Rattle.linux_rules.specs.declared.refusal.LinuxKind.{LinuxKind}
use Rattle.linux_rules.specs.Kinds.{linux_name, linux_number}
use Rattle.rescue_map.specs.declared.fault.MapFault.{MapFault}
use Rattle.scan_commands.specs.declared.rescue_fault.PassFault.TheVariants as pass
use Rattle.scan_commands.specs.MapTexts.{no_map_text, pass_text, unreplaced_text}
use Rattle.stack_rules.specs.FaultKinds.{load_name, load_number}
use Rattle.stack_rules.specs.declared.refusal.LoadKind.{LoadKind}
use Rattle.tree_difference.specs.declared.fault.Unlike.{Unlike}
use Rattle.tree_difference.specs.declared.fault.Which.{Which}
use Rattle.verity_commands.specs.declared.tree_fault.TreeFault.TheVariants as trees
use Rattle.verity_commands.specs.Texts.{image_text, pin_fault_text, unwritten_pin_text}
use Rattle.verity_commands.specs.TreeFaultTexts.{tree_fault_text, unaligned_text, unlike_text}
use Rattle.stack_commands.specs.FaultTexts.{outside_text}

-- the line of a refusal of the list, or that of an allocation failure
abbrev pub IsListed : List ℕ → Type 0
IsListed line = (line ≡ no_memory) ⊎ IsNumbered line

-- of map files, parity and pins
pub record AreFileLines : Type 0 where
  pub map : (fault : MapFault) → IsListed (no_map_text fault)
  pub map_length : IsNumbered (pass_text pass.TooLong)
  pub map_unwritten : (fault : ReplaceFault) → IsListed (unreplaced_text fault)
  pub parity : (fault : ParityFault) → IsListed (parity_text fault)
  pub parity_blocks : IsNumbered (fec_text fec.BlockSizes)
  pub pin : (fault : PinFault) → IsNumbered (pin_fault_text fault)
  pub pin_unwritten : (fault : ReplaceFault) → IsListed (unwritten_pin_text fault)

-- of verity images and stacks
pub record AreImageLines : Type 0 where
  pub unlike : (fault : Unlike) → IsNumbered (unlike_text fault)
  pub unaligned : IsNumbered (image_text image.Unaligned)
  pub overlap : IsNumbered (image_text image.DataOverlapsTree)
  pub root : IsNumbered (image_text image.RootText)
  pub tree : IsNumbered (tree_fault_text trees.Unaligned)
  pub compared : (which : Which) → IsNumbered (unaligned_text which)
  pub unused : IsNumbered (tree_fault_text trees.UnusedEntries)
  pub outside : (path : List ℕ) → IsNumbered (outside_text path)

-- no two refusals of the list have one number, and each refusal with a number from 18 on is in it
pub record AreNumbered : Type 0 where
  pub own : HaveOwnNumbers
  pub loads : (kind : LoadKind) → (load_number kind < 18) ⊎ (refusal_name (load_number kind) ≡ Some (load_name kind))
  pub linux : (kind : LinuxKind) → refusal_name (linux_number kind) ≡ Some (linux_name kind)
  pub pin : (fault : PinFault) → refusal_name (fault_number fault) ≡ Some (fault_name fault)
  pub unpinned : (found : Mismatch) → refusal_name (mismatch_number found) ≡ Some (mismatch_name found)
  pub files : AreFileLines
  pub images : AreImageLines
