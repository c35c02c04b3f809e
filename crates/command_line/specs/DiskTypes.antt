-- The values of `--type` and `--arch`, which name the types of a disk's partitions.
use Rattle.std.specs.Prelude.{ℕ, Bool, List, [], ◌∷◌, Option, None, Some, Ok, codes, if◌then◌else◌}
use Rattle.std.specs.List.{list_any}
use Rattle.std.specs.Str.{bytes_eq}
use Rattle.command_line.specs.Misuses.{Reading, misused}
use Rattle.command_line.specs.declared.misuse.Cause.TheVariants.{PartitionType}

-- one of the file systems that have types of their own for each architecture
unfoldable pub is_file_system : List ℕ → Bool
is_file_system word = list_any (λ name. bytes_eq name word) (codes "root" ∷ codes "usr" ∷ [])

-- one of the architectures of the Discoverable Partitions Specification
unfoldable pub is_architecture : List ℕ → Bool
is_architecture word = list_any (λ name. bytes_eq name word)
    (codes "alpha" ∷ codes "arc" ∷ codes "arm" ∷ codes "arm64" ∷ codes "ia64" ∷ codes "loongarch64" ∷ codes "mips" ∷ codes "mips64" ∷ codes "mips-le" ∷ codes "mips64-le" ∷ codes "parisc"
    ∷ codes "ppc" ∷ codes "ppc64" ∷ codes "ppc64-le" ∷ codes "riscv32" ∷ codes "riscv64" ∷ codes "s390" ∷ codes "s390x" ∷ codes "tilegx" ∷ codes "x86" ∷ codes "x86-64" ∷ [])

-- the data are a root file system unless the word says another
unfoldable pub kind_said : Option (List ℕ) → Reading (List ℕ)
kind_said None = Ok (codes "root")
kind_said (Some word) = if is_file_system word then Ok word else misused (codes "--type") PartitionType

-- of x86-64 unless the word says another
unfoldable pub arch_said : Option (List ℕ) → Reading (List ℕ)
arch_said None = Ok (codes "x86-64")
arch_said (Some word) = if is_architecture word then Ok word else misused (codes "--arch") PartitionType
