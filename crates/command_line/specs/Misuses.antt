-- Why arguments are no command, and values that depend on none being misused.
use Rattle.std.specs.Prelude.{◌≡◌, ℕ, Bool, List, Option, None, Some, Result, Ok, Err, MatchResult, if◌then◌else◌}
use Rattle.command_line.specs.declared.misuse.Cause.{Cause}
use Rattle.command_line.specs.declared.misuse.Misuse.{Misuse}

-- an option, the name of a positional argument or the argument itself, and what is wrong with it
pub record MisuseRecord : Type 0 where
  pub argument : List ℕ
  pub cause : Cause

-- what arguments say, or which of them is misused
abbrev pub Reading : Type 0 → Type 0
Reading A = Result A MisuseRecord

abbrev pub misused : {A : Type 0} → List ℕ → Cause → Reading A
misused argument cause = Err (record { argument = argument; cause = cause })

-- a value, if the argument has one
abbrev pub wanted : {A : Type 0} → List ℕ → Cause → Option A → Reading A
wanted argument cause None = misused argument cause
wanted argument cause (Some value) = Ok value

-- what is made of a value
abbrev pub said_as : {A B : Type 0} → (A → B) → Reading A → Reading B
said_as makes (Ok value) = Ok (makes value)
said_as makes (Err misuse) = Err misuse

-- a value that may be missing, if the argument has one
abbrev pub wanted_if : {A : Type 0} → List ℕ → Cause → Option (Option A) → Reading (Option A)
wanted_if argument cause None = Ok None
wanted_if argument cause (Some value) = said_as (λ v. Some v) (wanted argument cause value)

-- the argument isn't allowed so
abbrev pub refuse_if : Bool → List ℕ → Cause → Reading (Unit {0})
refuse_if given argument cause = if given then misused argument cause else Ok tt

-- what follows of a value; the first misuse decides
abbrev pub when : {A B : Type 0} → Reading A → (A → Reading B) → Reading B
when (Ok value) follows = follows value
when (Err misuse) follows = Err misuse

-- what the program's own values say
abbrev pub misuse_record : Misuse → MisuseRecord
misuse_record misuse = record { argument = misuse.argument.now; cause = misuse.cause }

-- the result is the value or the misuse that arguments say
abbrev pub ReadsValue : {A B : Type 0} → (A → B) → Reading B → Result A Misuse → Type 0
ReadsValue says said result = MatchResult result (λ value. said ≡ Ok (says value)) (λ misuse. said ≡ Err (misuse_record misuse))
