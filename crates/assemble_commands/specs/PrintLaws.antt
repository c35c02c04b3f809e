-- What `partitions --root` prints of a disk that was assembled.
use Rattle.std.specs.Prelude.{◌≡◌, ◌++◌, Bool, false, IsTrue, List, Option, codes, ℕ}
use Rattle.block_device.specs.Device.{Device, run_of}
use Rattle.command_line.specs.words.Assemble.{AssembleRecord}
use Rattle.image_commands.specs.declared.format.MadeImage.{MadeImage}
use Rattle.image_commands.specs.Drawing.{Gives}
use Rattle.image_files.specs.Opener.{Opener}
use Rattle.image_pin.specs.declared.trusted.TrustedRoot.{TrustedRoot}
use Rattle.partition_commands.specs.RootCommands.{FindsPair, pair_text}
use Rattle.partition_commands.specs.RootStacks.{root_entry}
use Rattle.partition_commands.specs.Signatures.{signature_entry}
use Rattle.rand_core.specs.Stream.{Stream}
use Rattle.stack_files.specs.DiskEntries.{entry_text, linear_line}
use Rattle.assemble_commands.specs.declared.plan.DiskPlan.{DiskPlan}
use Rattle.assemble_commands.specs.Laws.{HasAssembled, HoldsTheSame}
use Rattle.assemble_commands.specs.Plans.{size_of}

-- a linear device over each of the two parts, and the line with the superblock's values over both
abbrev pub assembled_text : Bool → DiskPlan → MadeImage → List ℕ
assembled_text writable plan made =
    entry_text writable (codes "data") (linear_line plan.parts.«data») ++ (entry_text false (codes "hash") (linear_line plan.parts.hash) ++ root_entry plan.superblock made.root)

-- If the devices were steady, and a device holds what OUT held when the table was closed, and in the part of the hash image what that
-- part held: the stack text that is printed for the root hash is this one, and perhaps the device of a signature.
abbrev pub AssembledStacksArePrinted : {S D T G : Type 0} → Opener S D → (D → Device) → Gives T G → (G → Stream) → Type 0
AssembledStacksArePrinted {S} {D} {T} {G} relations state gives stream =
    (images images' : S) (generators generators' : T) (a : AssembleRecord) (old new : Option (List ℕ)) → (done : HasAssembled relations state gives stream images images' generators generators' a old new)
    → IsTrue (state done.fills.image.device).steady → IsTrue (state done.fills.fills.makes.image.device).steady → IsTrue (state done.fills.fills.table.image.device).steady
    → (later : D) → HoldsTheSame (state done.fills.fills.table.device') (state later)
    → run_of (state later).image done.plan.parts.hash.first done.plan.parts.hash.count ≡ (state done.fills.fills.makes.device').image
    → (trusted : TrustedRoot) → trusted.root ≡ done.made.root → (writable : Bool) → (pair : FindsPair state later (size_of a.sector_size) trusted)
    → pair_text writable pair ≡ assembled_text writable done.plan done.made ++ signature_entry pair.table.size pair.signed
