-- That a result is the command that the words say.
use Rattle.std.specs.Prelude.{◌≡◌, Result, Ok, MatchResult}
use Rattle.command_line.specs.declared.fault.WordsFault.{WordsFault}
use Rattle.command_line.specs.declared.invocation.Invocation.{Invocation}
use Rattle.command_line.specs.CommandWords.{RefusesWords}
use Rattle.command_line.specs.Invocations.{InvocationRecord, invocation_record}
use Rattle.command_line.specs.Misuses.{Reading, said_as}

-- it is that command; a fault is the misuse, or an allocation was refused
abbrev pub ReadsCommand : Reading InvocationRecord → Result Invocation WordsFault → Type 0
ReadsCommand said result = MatchResult result (λ got. said ≡ Ok (invocation_record got)) (RefusesWords said)

-- it is the invocation of one command; a fault is the misuse, or an allocation was refused
abbrev pub ReadsAs : {A : Type 0} → (A → InvocationRecord) → Reading A → Result Invocation WordsFault → Type 0
ReadsAs command said result = ReadsCommand (said_as command said) result
