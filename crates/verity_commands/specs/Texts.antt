-- The texts of refusals and differences of verity images.
use Rattle.std.specs.Prelude.{ℕ, List, [], ◌++◌, codes, decimal}
use Rattle.image_commands.specs.declared.fault.ImageFault.{ImageFault}
use Rattle.image_commands.specs.declared.fault.ImageFault.TheVariants as image
use Rattle.verity_format.specs.declared.formatting.FormatFault.{FormatFault}
use Rattle.verity_format.specs.declared.formatting.FormatFault.TheVariants as format
use Rattle.verity_format.specs.declared.verifying.VerifyFault.{VerifyFault}
use Rattle.verity_format.specs.declared.verifying.VerifyFault.TheVariants as verify
use Rattle.verity_format.specs.declared.verifying.Verdict.{Verdict}
use Rattle.verity_format.specs.declared.verifying.Verdict.TheVariants as verdict
use Rattle.verity_format.specs.FaultNames.{format_number, format_name, verify_number, verify_name}
use Rattle.image_pin.specs.declared.fault.PinFault.{PinFault}
use Rattle.image_pin.specs.declared.fault.PinFault.TheVariants as pin
use Rattle.image_pin.specs.declared.name.PinName.{PinName}
use Rattle.image_pin.specs.Faults.{fault_name, fault_number}
use Rattle.image_pin.specs.Mismatches.{mismatch_name, mismatch_number}
use Rattle.image_pin.specs.Names.{name_text}
use Rattle.image_files.specs.declared.texts.ReplaceFault.{ReplaceFault}
use Rattle.image_files.specs.declared.texts.ReplaceFault.TheVariants as replace
use Rattle.io_fault_text.specs.Opening.{open_text}
use Rattle.io_fault_text.specs.Texts.{kind_then, no_memory, refused_text, usage_text}
use Rattle.verity_commands.specs.declared.verity_fault.VerityFault.{VerityFault}
use Rattle.verity_commands.specs.declared.verity_fault.VerityFault.TheVariants as verity

-- an image that isn't made, and what it needs
abbrev pub format_text : FormatFault → List ℕ
format_text format.NoMemory = no_memory
format_text (format.HashTooSmall needed) =
    codes "refused " ++ kind_then (format_number (format.HashTooSmall needed)) (format_name (format.HashTooSmall needed)) (codes " needed " ++ (decimal needed ++ codes "\n"))
format_text fault = refused_text (format_number fault) (format_name fault)

-- images that aren't compared, also where the superblock isn't taken
abbrev pub verify_text : VerifyFault → List ℕ
verify_text verify.NoMemory = no_memory
verify_text fault = refused_text (verify_number fault) (verify_name fault)

abbrev pub verdict_text : Verdict → List ℕ
verdict_text verdict.Matches = codes "matches\n"
verdict_text verdict.RootDiffers = codes "root differs\n"
verdict_text (verdict.AreaDiffers block) = codes "area differs at block " ++ (decimal block ++ codes "\n")

abbrev pub named_text : ℕ → List ℕ → PinName → List ℕ
named_text number name line = codes "refused " ++ kind_then number name (codes " " ++ (name_text line ++ codes "\n"))

-- a text that is no pin, and which name of a line
abbrev pub pin_fault_text : PinFault → List ℕ
pin_fault_text (pin.Repeated name) = named_text 39 (codes "PinRepeated") name
pin_fault_text (pin.Missing name) = named_text 40 (codes "PinMissing") name
pin_fault_text (pin.Value name) = named_text 41 (codes "PinValue") name
pin_fault_text fault = refused_text (fault_number fault) (fault_name fault)

-- a pin that isn't written
abbrev pub unwritten_pin_text : ReplaceFault → List ℕ
unwritten_pin_text replace.NoMemory = no_memory
unwritten_pin_text replace.Write = refused_text 43 (codes "PinWrite")
unwritten_pin_text replace.Sync = refused_text 44 (codes "PinSync")
unwritten_pin_text replace.Rename = refused_text 45 (codes "PinRename")

-- a command on images that ends early; if a line can't be written, none is
abbrev pub image_text : ImageFault → List ℕ
image_text image.NoMemory = no_memory
image_text (image.Open file) = open_text file
image_text (image.Format fault) = format_text fault
image_text (image.Verify fault) = verify_text fault
image_text (image.Differs found) = verdict_text found
image_text image.Unaligned = codes "refused 18 Unaligned\n"
image_text image.DataOverlapsTree = codes "refused 34 DataOverlapsTree\n"
image_text (image.Pin fault) = pin_fault_text fault
image_text (image.Unpinned mismatch) = refused_text (mismatch_number mismatch) (mismatch_name mismatch)
image_text (image.PinUnwritten fault) = unwritten_pin_text fault
image_text image.RootText = codes "refused 19 RootText\n"
image_text image.Random = codes "refused random\n"
image_text image.Write = []

abbrev pub verity_text : VerityFault → List ℕ
verity_text verity.Usage = usage_text
verity_text (verity.Image fault) = image_text fault
