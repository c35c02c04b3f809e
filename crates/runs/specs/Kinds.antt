-- The kinds of data blocks, and the number of blocks of a kind.
use Rattle.std.specs.Prelude.{ℕ, ◌+◌, ◌==◌, Bool, true, false, List, [], ◌∷◌, Option, Some, None}
use Rattle.runs.specs.declared.kind.Kind.{Kind}
use Rattle.runs.specs.declared.kind.Kind.TheVariants.{Changed, Unknown, Removed, Added}

-- the kind of a block, or `None` if it is valid or unchanged
abbrev pub State : Type 0
State = Option Kind

abbrev pub kind_number : Kind → ℕ
kind_number Changed = 1
kind_number Unknown = 2
kind_number Removed = 3
kind_number Added = 4

abbrev pub is_same : Kind → Kind → Bool
is_same a b = kind_number a == kind_number b

abbrev pub is_state : Kind → State → Bool
is_state kind None = false
is_state kind (Some other) = is_same kind other

abbrev pub one_if : Bool → ℕ
one_if true = 1
one_if false = 0

-- the number of blocks of a kind
abbrev pub count_of : Kind → List State → ℕ
count_of kind [] = 0
count_of kind (state ∷ more) = one_if (is_state kind state) + count_of kind more
