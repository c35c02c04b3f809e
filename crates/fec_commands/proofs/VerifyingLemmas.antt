-- The parts of an image in files that are open, and parity across them once they were read.
use Rattle.std.proofs.Common.{◌≡◌, ◌+◌, ◌*◌, ◌/◌, ◌≤◌, ℕ, Bool, List, Option, ap, ◌∙◌, arith, inl, inr}
use Rattle.block_device.specs.Device.{Device}
use Rattle.command_line.specs.words.FecVerify.{FecVerifyRecord}
use Rattle.device_adapters.specs.declared.part.Part.{Part}
use Rattle.device_adapters.specs.Windows.{windowed}
use Rattle.fec_area.specs.declared.layout.Layout.{Layout}
use Rattle.fec_area.specs.Layouts.{IsLaidOn}
use Rattle.image_commands.specs.Places.{IsPartState, IsStateOf, before, behind}
use Rattle.image_commands.specs.declared.tree_source.TreeSource.{TreeSource}
use Rattle.verity_format.specs.Blocks.{IsOnlyRead}
use Rattle.fec_commands.specs.declared.fault.FecFault.{FecFault}
use Rattle.fec_commands.specs.declared.fault.FecFault.TheVariants.{BlockSizes, Differs, Parity, Verity}
use Rattle.fec_commands.specs.declared.image.ThreeImages.{ThreeImages}
use Rattle.fec_commands.specs.Images.{three_data_end}
use Rattle.fec_commands.specs.Verifying.{IsParityEnd, IsUnmeasured, Parts, parts_of}

pub parts-are : {D : Type 0} (state : D → Device) (three : ThreeImages D) (v : FecVerifyRecord) (source : TreeSource) (d h : Device) (first end : ℕ) → d ≡ before (state three.«data».device) end → h ≡ behind (state three.hash.device) first
    → end ≡ three_data_end three first → first ≡ v.verify.hash_offset / 512
    → record { data_dev = d; hash_dev = h; parity_dev = state three.parity.device; first = first; source = source; roots = v.fec.roots } ≡ parts_of state three v source
parts-are {D} state three v source d h first end d_is h_is end_is first_is =
    let f : Device → Device → ℕ → Parts = λ x y n. record { data_dev = x; hash_dev = y; parity_dev = state three.parity.device; first = n; source = source; roots = v.fec.roots } in
    let data_part : ℕ → Device = λ n. before (state three.«data».device) n in
    let hash_part : ℕ → Device = λ n. behind (state three.hash.device) n in
    ap (λ (x : Device). f x h first) d_is ∙ (ap (λ (y : Device). f (data_part end) y first) h_is
    ∙ (ap (λ (n : ℕ). f (data_part n) (hash_part first) first) end_is ∙ ap (λ (n : ℕ). f (data_part (three_data_end three n)) (hash_part n) n) first_is))

-- reading leaves the sizes of devices as they are
pub laid-after : (l : Layout) (d h d' h' : Device) → IsOnlyRead d d' → IsOnlyRead h h' → IsLaidOn l d h → IsLaidOn l d' h'
laid-after l d h d' h' data_read hash_read laid = record {
  layout = laid.layout;
  data_room = omega (arith, data_read.same.size, laid.data_room);
  hash_room = omega (arith, hash_read.same.size, laid.hash_room);
}

-- states of windows of devices, of the type of `window`, are parts of these devices
module _ {D W : Type 0} (window : W) (inner : W → D) (part : W → Part) (state : D → Device) where
  part-inner : (device : Device) → IsStateOf (λ w. windowed (state (inner w)) (part w)) device → IsPartState state device
  part-inner device left = (inner left.0, (part left.0, left.1))

  pub unmeasured-inner : (p : Parts) (fault : FecFault) → IsUnmeasured (IsStateOf (λ w. windowed (state (inner w)) (part w))) p fault → IsUnmeasured (IsPartState state) p fault
  unmeasured-inner p fault (inl none) = inl (none.0, part-inner none.0 none.1, none.2)
  unmeasured-inner p fault (inr short) =
      inr (record { laid = short.laid; read_dev = short.read_dev; left = part-inner short.read_dev short.left; lays = short.lays; short = short.short; is = short.is })

  pub parity_end-inner : (Parity' : Device → Type 0) (l : Layout) (d h parity : Device) (old new : Option (List ℕ)) (failed : Bool) (fault : FecFault)
      → IsParityEnd (IsStateOf (λ w. windowed (state (inner w)) (part w))) (IsStateOf (λ w. windowed (state (inner w)) (part w))) Parity' l d h parity old new failed fault
      → IsParityEnd (IsPartState state) (IsPartState state) Parity' l d h parity old new failed fault
  parity_end-inner Parity' l d h parity old new failed (Parity cause) end = (
    record {
      data_dev' = end.0.data_dev';
      hash_dev' = end.0.hash_dev';
      parity_dev' = end.0.parity_dev';
      left = (part-inner end.0.data_dev' end.0.left.0, part-inner end.0.hash_dev' end.0.left.1, end.0.left.2);
      fails = end.0.fails;
    },
    end.1,
  )
  parity_end-inner Parity' l d h parity old new failed (Differs round) end = end
  parity_end-inner Parity' l d h parity old new failed BlockSizes end = end
  parity_end-inner Parity' l d h parity old new failed (Verity fault) end = end
