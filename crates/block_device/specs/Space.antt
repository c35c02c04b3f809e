-- Why no space is left for a write.
use Rattle.std.specs.Prelude.{Bool, true, false}
use Rattle.std.specs.declared.io.ErrorKind.{ErrorKind}
use Rattle.std.specs.declared.io.ErrorKind.TheVariants as kinds

-- the system's reasons that no space is left: in the file system, in a quota, or below the limit of a file's size
abbrev pub is_lack_of_space : ErrorKind → Bool
is_lack_of_space kinds.StorageFull = true
is_lack_of_space kinds.QuotaExceeded = true
is_lack_of_space kinds.FileTooLarge = true
is_lack_of_space _ = false
