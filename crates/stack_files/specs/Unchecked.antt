-- What isn't checked of a configuration, printed among the errors.
use Rattle.std.specs.Prelude.{◌≡◌, ◌⊎◌, ℕ, List, codes}
use Rattle.linux_rules.specs.Signatures.{has_signature}
use Rattle.stack_rules.specs.Records.{Configuration}
use Rattle.stack_engine.specs.Stacks.{StackRecord}
use Rattle.stack_files.specs.Warnings.{IsNoted, Notes, warning_if}

-- the signature of a root hash; nothing if no line has one
abbrev pub unchecked_text : Configuration → List ℕ
unchecked_text c = warning_if (has_signature c) (codes "no signature of a root hash is checked")

-- a stack was loaded, and that is printed of it; or none was, and nothing is printed
abbrev pub NotesStack : (StackRecord → Type 0) → Type 0 → Notes → Type 0
NotesStack Loads Fails notes = ((stack : StackRecord) × Loads stack × IsNoted notes (unchecked_text stack.config)) ⊎ (Fails × (notes.new ≡ notes.old))
