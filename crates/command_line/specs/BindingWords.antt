-- The bindings of a command line.
use Rattle.std.specs.Prelude.{◌≡◌, ℕ, List, [], ◌∷◌, map, Ok}
use Rattle.command_line.specs.declared.bindings.Binding.{Binding}
use Rattle.command_line.specs.declared.misuse.Cause.TheVariants as cause
use Rattle.command_line.specs.Bindings.{BindingRecord, binding_of, binding_record}
use Rattle.command_line.specs.Misuses.{Reading, wanted, when}

-- the bindings, if all arguments are bindings; the first that isn't is misused
unfoldable pub bindings_of : List (List ℕ) → Reading (List BindingRecord)
bindings_of [] = Ok []
bindings_of (word ∷ words) = when (wanted word cause.Binding (binding_of word)) (λ binding. when (bindings_of words) (λ more. Ok (binding ∷ more)))

-- the program's own values are the bindings that words say
abbrev pub AreBindings : Reading (List BindingRecord) → List Binding → Type 0
AreBindings said bindings = said ≡ Ok (map binding_record bindings)
