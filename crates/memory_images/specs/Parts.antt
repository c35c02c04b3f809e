-- Parts of the bytes of an image.
use Rattle.std.specs.Prelude.{ℕ, ◌+◌, ◌-◌, ◌*◌, ◌/◌, ◌≤◌, ◌++◌, nat_le, List, length, take, drop, replicate, if◌then◌else◌}
use Rattle.device_adapters.specs.declared.part.Part.{Part}

-- the last sector of the part is one of the image's
abbrev pub LiesWithin : List ℕ → Part → Type 0
LiesWithin image part = part.first + part.count ≤ length image / 512

abbrev pub part_bytes : List ℕ → Part → List ℕ
part_bytes image part = take (part.count * 512) (drop (part.first * 512) image)

-- the image with the bytes from an offset on replaced, if it has as many
abbrev pub with_bytes : List ℕ → ℕ → List ℕ → List ℕ
with_bytes image offset bytes =
    if nat_le (offset + length bytes) (length image) then take offset image ++ (bytes ++ drop (offset + length bytes) image) else image

-- the image with the bytes of a part replaced, if the part is within the image
abbrev pub with_part : List ℕ → Part → List ℕ → List ℕ
with_part image part bytes =
    if nat_le (part.first + part.count) (length image / 512) then with_bytes image (part.first * 512) (take (part.count * 512) bytes) else image

-- the image extended with zeros to at least so many sectors
abbrev pub grown_image : List ℕ → ℕ → List ℕ
grown_image image sectors = image ++ replicate (sectors * 512 - length image) 0

-- the image with at most so many sectors
abbrev pub shrunk_image : List ℕ → ℕ → List ℕ
shrunk_image image sectors = take (sectors * 512) image
