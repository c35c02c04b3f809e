-- Layouts on devices, and windows of devices that are the same.
use Rattle.std.proofs.Common.{◌≡◌, ℕ, ◌+◌, ◌*◌, ◌/◌, ◌≤◌, ap, subst, ◌∙◌, arith}
use Rattle.std.proofs.Math.Nat.{div-mul-le_self}
use Rattle.block_device.specs.Device.{Device}
use Rattle.device_adapters.specs.declared.part.Part.{Part}
use Rattle.device_adapters.specs.Windows.{windowed}
use Rattle.fec_area.specs.declared.layout.Layout.{Layout}
use Rattle.fec_area.specs.Layouts.{IsLaidOn, IsLayout, IsLayoutOf}
use Rattle.image_commands.specs.declared.tree_source.TreeSource.{TreeSource}
use Rattle.tree_shape.specs.Shape.{ShapeRecord}
use Rattle.verity_format.specs.Image.{data_sectors}
use Rattle.fec_commands.specs.declared.fault.FecFault.{FecFault}
use Rattle.fec_commands.specs.declared.image.LaidTree.{LaidTree}
use Rattle.fec_commands.specs.Layings.{IsLayoutEnd, LaysOut}

pub windowed-same : (d d' : Device) (p p' : Part) → d ≡ d' → p ≡ p' → windowed d p ≡ windowed d' p'
windowed-same d d' p p' e f = ap (λ (x : Device). windowed x p) e ∙ ap (windowed d') f

-- where the devices have room for the data and for the hash device's blocks
pub laid-on : (s : ShapeRecord) (sectors roots : ℕ) (l : Layout) (d h : Device) → IsLayoutOf s sectors roots l → IsLayout l → data_sectors s ≤ d.size → sectors ≤ h.size → IsLaidOn l d h
laid-on s sectors roots l d h is valid data_room hash_room =
    let k = l.block / 512 in
    let data_is : l.data_blocks * k ≡ s.blocks * (s.data_block / 512) = ap (λ n. n * k) is.data_blocks ∙ ap (λ n. s.blocks * (n / 512)) is.data_size in
    let hash_is : (l.hash_first + l.hash_blocks) * k ≡ sectors / k * k = ap (λ n. n * k) is.to_end in
    record {
      layout = valid;
      data_room = omega (arith, data_is, data_room);
      hash_room = omega (arith, hash_is, div-mul-le_self sectors k, hash_room);
    }

-- a layout on devices that are the same
pub lays-as : (a a' b b' h : Device) (first : ℕ) (source : TreeSource) (roots : ℕ) (l : LaidTree) → a ≡ a' → b ≡ b' → LaysOut a b first source roots h l → LaysOut a' b' first source roots h l
lays-as a a' b b' h first source roots l x y lays =
    subst (λ (v : Device). LaysOut v b' first source roots h l) x (subst (λ (v : Device). LaysOut a v first source roots h l) y lays)

pub layout_end-as : (a a' b b' h : Device) (first : ℕ) (source : TreeSource) (fault : FecFault) → a ≡ a' → b ≡ b' → IsLayoutEnd a b first source h fault → IsLayoutEnd a' b' first source h fault
layout_end-as a a' b b' h first source fault x y ends =
    subst (λ (v : Device). IsLayoutEnd v b' first source h fault) x (subst (λ (v : Device). IsLayoutEnd a v first source h fault) y ends)
