-- Warnings, printed among the errors.
use Rattle.std.specs.Prelude.{◌≡◌, ◌⊎◌, ℕ, Bool, true, List, ◌++◌, codes, Option, if◌then◌else◌}
use Rattle.std.specs.Io.KnownBytes.{Appends}
use Rattle.program_io.specs.Counted.{CountedRecord}

-- `dmstack: warning: TEXT`
unfoldable pub warning_line : List ℕ → List ℕ
warning_line text = codes "dmstack: warning: " ++ (text ++ codes "\n")

-- one line if that is unusual
unfoldable pub warning_if : Bool → List ℕ → List ℕ
warning_if is text = if is then warning_line text else codes ""

-- what had been printed among the errors and is now, and whether their writer failed
pub record Notes : Type 0 where
  pub old : Option (List ℕ)
  pub new : Option (List ℕ)
  pub failed : Bool

abbrev pub notes_of : {E : Type 0} → (E → Option (List ℕ)) → CountedRecord E → CountedRecord E → Notes
notes_of contents errors errors' = record { old = contents errors.inner; new = contents errors'.inner; failed = errors'.failed }

-- a text was printed, or the writer failed
abbrev pub IsNoted : Notes → List ℕ → Type 0
IsNoted notes text = Appends notes.old notes.new text ⊎ (notes.failed ≡ true)
