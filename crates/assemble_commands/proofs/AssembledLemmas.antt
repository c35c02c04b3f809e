-- What was assembled of steady data: its blocks and its root hash.
use Rattle.std.proofs.Common.{◌≡◌, ◌∙◌, ◌≤◌, ℕ, IsTrue, List, Option, ap, subst, sym}
use Rattle.block_device.specs.Device.{Device, IsWhole}
use Rattle.command_line.specs.words.Assemble.{AssembleRecord}
use Rattle.image_commands.specs.Drawing.{Gives}
use Rattle.image_files.specs.Opener.{Opener}
use Rattle.disk_layout.specs.Written.{IsField}
use Rattle.hash_tree.specs.Laws.{FormedChainsAreGood}
use Rattle.rand_core.specs.Stream.{Stream}
use Rattle.verity_format.specs.Image.{data_sectors, root_over}
use Rattle.verity_format.specs.Options.{superblock_with}
use Rattle.verity_format.specs.Superblock.{SuperRecord, shape_of}
use Rattle.assemble_commands.specs.Laws.{HasAssembled}
use Rattle.assemble_commands.proofs.RootLemmas.{IsAllowed, allowed, root-field}

module _ {S D T G : Type 0} (relations : Opener S D) (state : D → Device) (gives : Gives T G) (stream : G → Stream) (images images' : S) (generators generators' : T) (a : AssembleRecord) (old new : Option (List ℕ))
    (done : HasAssembled relations state gives stream images images' generators generators' a old new) where
  -- DATA, and what the copy left of it
  abbrev pub data_dev : Device
  data_dev = state done.fills.image.device

  abbrev pub copied_dev : Device
  copied_dev = state done.fills.fills.copied_dev

  same-size : copied_dev.size ≡ data_dev.size
  same-size = done.fills.fills.copies.used.copied.from_same.size

  pub same-super : superblock_with done.plan.options copied_dev.size ≡ done.plan.superblock
  same-super = ap (superblock_with done.plan.options) same-size ∙ sym done.fills.is_plan.shaped.0

  pub data-allowed : IsAllowed done.plan.superblock data_dev
  data-allowed =
      let may = allowed (superblock_with done.plan.options copied_dev.size) copied_dev (state done.fills.fills.makes.image.device) done.fills.fills.makes.used.allowed in
      let moved : IsAllowed done.plan.superblock copied_dev = subst (λ (s : SuperRecord). IsAllowed s copied_dev) same-super may in
      record { shape = moved.shape; data_room = subst (λ (n : ℕ). data_sectors (shape_of done.plan.superblock) ≤ n) same-size moved.data_room }

  module _ (data_steady : IsTrue data_dev.steady) where
    pub same-image : copied_dev.image ≡ data_dev.image
    same-image = done.fills.fills.copies.used.copied.from_image data_steady

    pub copied-steady : IsTrue copied_dev.steady
    copied-steady = subst IsTrue (sym done.fills.fills.copies.used.copied.from_same.steady) data_steady

    pub data-root : done.made.root ≡ root_over (shape_of done.plan.superblock) done.plan.superblock.salt data_dev.image
    data-root =
        done.fills.fills.makes.used.formatting.ok.digest copied-steady
        ∙ ap (λ (s : SuperRecord). root_over (shape_of s) s.salt copied_dev.image) same-super
        ∙ ap (λ (i : List (List ℕ)). root_over (shape_of done.plan.superblock) done.plan.superblock.salt i) same-image

    pub made-field : FormedChainsAreGood → IsWhole data_dev → IsField 32 done.made.root
    made-field chains whole = subst (λ (hash : List ℕ). IsField 32 hash) (sym data-root) (root-field chains done.plan.superblock data_dev whole data-allowed)
