-- Leaves for whose last failed write no space was left.
use Rattle.std.specs.Prelude.{ℕ, ◌-◌, Bool, false, List, map}
use Rattle.std.specs.List.{slice_index_or}
use Rattle.block_device.specs.Device.{Device}
use Rattle.stack_meaning.specs.declared.fault.IoFault.{IoFault}
use Rattle.stack_meaning.specs.declared.fault.IoFault.TheVariants as io

-- leaf i lacked space; false if there is none
abbrev pub lacked_space_at : List Device → ℕ → Bool
lacked_space_at leaves i = slice_index_or (map (λ (l : Device). l.lacked_space) leaves) i false

-- the fault names a leaf, whose number counts from 1, that lacked space
abbrev pub lacks_space : List Device → IoFault → Bool
lacks_space leaves (io.Device number) = lacked_space_at leaves (number - 1)
lacks_space leaves fault = false
