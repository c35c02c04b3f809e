-- Commands whose bindings name partitions: the partitions are looked up before the command begins.
use Rattle.std.specs.Prelude.{◌≡◌, ◌⊎◌, Bool, List}
use Rattle.command_line.specs.Bindings.{BindingRecord}
use Rattle.command_line.specs.FormatOptions.{OptionTexts}
use Rattle.command_line.specs.InvocationBindings.{bindings_in, with_bindings}
use Rattle.command_line.specs.Invocations.{InvocationRecord}
use Rattle.image_files.specs.Opener.{Calls}
use Rattle.stack_files.specs.Endings.{IsOpeningEnd}
use Rattle.stack_files.specs.Resolving.{FailsToResolve, ResolvesEach}
use Rattle.stack_commands.specs.declared.fault.CommandFault.{CommandFault}
use Rattle.stack_commands.specs.Invocations.{AreCommandNotes, FailsCommand, Succeeds}
use Rattle.stack_commands.specs.Uses.{IsStackEnd, Uses}

-- the command with each partition that its bindings name as a part of its disk
pub record Resolves {S D : Type 0} (w : Calls S D) (invocation resolved : InvocationRecord) : Type 0 where
  pub bindings : List BindingRecord
  pub found : ResolvesEach w (bindings_in invocation) bindings
  pub is : resolved ≡ with_bindings bindings invocation

-- a partition isn't found, or an allocation was refused
abbrev pub FailsToFindBound : {S D : Type 0} → Calls S D → InvocationRecord → CommandFault → Type 0
FailsToFindBound w invocation fault = IsStackEnd (IsOpeningEnd (FailsToResolve w (bindings_in invocation))) fault

-- what a command uses after its partitions were looked up
abbrev pub after_lookups : {S D T G : Type 0} → Uses S D T G → S → Uses S D T G
after_lookups u between = record u { images = record u.images { old = between } }

-- the partitions were found, and then the command succeeded
pub record SucceedsResolved {S D T G : Type 0} (texts : OptionTexts) (invocation : InvocationRecord) (u : Uses S D T G) : Type 0 where
  pub between : S
  pub resolved : InvocationRecord
  pub resolves : Resolves (record u.images { new = between }) invocation resolved
  pub succeeds : Succeeds texts resolved (after_lookups u between)
  pub noted : AreCommandNotes resolved (after_lookups u between)

-- a partition wasn't found: nothing is read or written
pub record FailsAtLookup {S D T G : Type 0} (invocation : InvocationRecord) (u : Uses S D T G) (fault : CommandFault) : Type 0 where
  pub cause : FailsToFindBound u.images invocation fault
  pub silent : u.new ≡ u.old
  pub quiet : u.notes.new ≡ u.notes.old

-- the partitions were found, and then the command ended early
pub record FailsResolved {S D T G : Type 0} (texts : OptionTexts) (invocation : InvocationRecord) (u : Uses S D T G) (failed : Bool) (fault : CommandFault) : Type 0 where
  pub between : S
  pub resolved : InvocationRecord
  pub resolves : Resolves (record u.images { new = between }) invocation resolved
  pub fails : FailsCommand texts resolved (after_lookups u between) failed fault
  pub noted : AreCommandNotes resolved (after_lookups u between)

-- one of these
abbrev pub EndsEarly : {S D T G : Type 0} → OptionTexts → InvocationRecord → Uses S D T G → Bool → CommandFault → Type 0
EndsEarly texts invocation u failed fault = FailsAtLookup invocation u fault ⊎ FailsResolved texts invocation u failed fault
