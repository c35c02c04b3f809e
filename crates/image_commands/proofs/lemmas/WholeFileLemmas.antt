-- A hash image that begins at the first sector of its file is the file, and so are data that end after their file.
use Rattle.std.proofs.Common.{◌≡◌, ◌≤◌, ℕ, List, ap, arith}
use Rattle.std.specs.Prelude.{◌-◌, min}
use Rattle.std.proofs.Math.Nat.{min-eq_right, zero-min}
use Rattle.std.proofs.lemmas.List.{take_all}
use Rattle.block_device.specs.Device.{Device, IsWhole}
use Rattle.image_commands.specs.Places.{before, behind}

pub behind-start : (device : Device) → IsWhole device → behind device 0 ≡ device
behind-start device whole =
    let none : min 0 device.size ≡ 0 = zero-min device.size in
    let all : device.size - 0 ≡ device.size = omega arith in
    rw (none, all) (ap (λ (image : List (List ℕ)). record device { image = image }) (take_all device.size device.image (omega (arith, whole.length))))

pub before-end : (device : Device) (end : ℕ) → IsWhole device → device.size ≤ end → before device end ≡ device
before-end device end whole h =
    let all : min end device.size ≡ device.size = min-eq_right h in
    rw all (ap (λ (image : List (List ℕ)). record device { image = image }) (take_all device.size device.image (omega (arith, whole.length))))
