-- The target types and their names.
use Rattle.std.specs.Prelude.{Option, codes, find}
use Rattle.std.specs.Str.{bytes_eq}
use Rattle.dm_table.specs.declared.target_type.TargetType.{TargetType}
use Rattle.dm_table.specs.declared.target_type.TargetType.TheVariants as types
use Rattle.dm_table.specs.declared.target_type.TheConstants.{TARGET_TYPES}
use Rattle.dm_table.specs.Words.{Word}

-- the name of the target type, the third word of a line
abbrev pub type_word : TargetType → Word
type_word types.Linear = codes "linear"
type_word types.Striped = codes "striped"
type_word types.Zero = codes "zero"
type_word types.Error = codes "error"
type_word types.Crypt = codes "crypt"
type_word types.Verity = codes "verity"
type_word types.Unstriped = codes "unstriped"

-- the type with this name, among all types
abbrev pub type_named : Word → Option TargetType
type_named word = find (λ type. bytes_eq (type_word type) word) TARGET_TYPES.now
