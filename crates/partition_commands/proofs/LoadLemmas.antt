-- Stack texts that `load` takes or refuses.
use Rattle.std.proofs.Common.{ℕ, List, Bool, Option, Some, None, Result, Ok, Err, subst, sym, inl, inr, arith}
use Rattle.dm_table.specs.declared.stack.Entry.{Entry}
use Rattle.dm_table.specs.declared.fault.TextFault.{TextFault}
use Rattle.dm_table.specs.StackText.{stack_of}
use Rattle.stack_rules.specs.declared.refusal.ConfigFault.{ConfigFault}
use Rattle.stack_rules.specs.declared.refusal.Refusal.{Refusal}
use Rattle.stack_rules.specs.Leaves.{first_leaf_fault}
use Rattle.stack_rules.specs.Passing.{largest_load_allocation}
use Rattle.stack_rules.specs.Records.{Configuration, LeafRecord}
use Rattle.stack_rules.specs.Rules.{first_refusal}
use Rattle.stack_rules.proofs.lemmas.PassingLemmas.{out_of_memory-more}
use Rattle.stack_files.specs.declared.stack_fault.StackFault.{StackFault}
use Rattle.stack_files.specs.declared.stack_fault.StackFault.TheVariants.{Leaves, Load, NoMemory, NoSuchDevice, Open, Outside, Text, TooLong}
use Rattle.stack_files.specs.Configuration.{FailsToConfigure, configuration_of, leaves_alone, with_entries, with_leaves, with_text}
use Rattle.partition_commands.specs.declared.fault.PartitionsFault.{PartitionsFault}
use Rattle.partition_commands.specs.declared.fault.PartitionsFault.TheVariants as partitions_fault
use Rattle.partition_commands.specs.Loads.{IsLoadableEnd, IsTextEnd, IsUnloadable, disk_leaves, load_end, stack_room}

-- the result says that memory ran out
abbrev IsNoMemory : Result Configuration StackFault → Type 0
IsNoMemory (Err NoMemory) = Unit {0}
IsNoMemory other = ⊥

entries-other : (c : Configuration) (entries : List Entry) (refusal : Option Refusal) → IsNoMemory (with_entries c entries refusal) → ⊥
entries-other c entries None h = h
entries-other c entries (Some refusal) h = h

text-other : (c : Configuration) (entries : Result (List Entry) TextFault) → IsNoMemory (with_text c entries) → ⊥
text-other c (Ok entries) h = entries-other c entries (first_refusal c entries) h
text-other c (Err fault) h = h

leaves-other : (leaves : List LeafRecord) (fault : Option ConfigFault) (entries : Result (List Entry) TextFault) → IsNoMemory (with_leaves leaves fault entries) → ⊥
leaves-other leaves None entries h = text-other (leaves_alone leaves) entries h
leaves-other leaves (Some fault) entries h = h

-- no text makes that result: it is that of a call alone
configuration_of-other : (leaves : List LeafRecord) (text : List ℕ) → IsNoMemory (configuration_of leaves text) → ⊥
unfolding configuration_of
configuration_of-other leaves text h = leaves-other leaves (first_leaf_fault leaves) (stack_of text) h

-- a fault of a text that memory didn't cause
unloadable : (writable : Bool) (sectors : ℕ) (text : List ℕ) (fault : StackFault) → (IsNoMemory (Err fault) → ⊥) → FailsToConfigure (disk_leaves writable sectors) text fault → IsUnloadable writable sectors text
unloadable writable sectors text fault other (inl is) = inr (fault, is)
unloadable writable sectors text fault other (inr memory) = absurd (other (subst (λ (f : StackFault). IsNoMemory (Err f)) (sym memory.0) tt))

pub load-end : (writable : Bool) (sectors : ℕ) (text : List ℕ) (failed : Bool) (fault : StackFault) → FailsToConfigure (disk_leaves writable sectors) text fault → IsLoadableEnd writable sectors text failed (load_end fault)
load-end writable sectors text failed NoMemory (inl is) = absurd (configuration_of-other (disk_leaves writable sectors) text (subst IsNoMemory (sym is) tt))
load-end writable sectors text failed NoMemory (inr memory) = out_of_memory-more largest_load_allocation stack_room (omega arith) memory.1
load-end writable sectors text failed TooLong fails = unloadable writable sectors text TooLong (λ h. h) fails
load-end writable sectors text failed (Open file) fails = unloadable writable sectors text (Open file) (λ h. h) fails
load-end writable sectors text failed (Outside path) fails = unloadable writable sectors text (Outside path) (λ h. h) fails
load-end writable sectors text failed (Leaves cause) fails = unloadable writable sectors text (Leaves cause) (λ h. h) fails
load-end writable sectors text failed (Text cause) fails = unloadable writable sectors text (Text cause) (λ h. h) fails
load-end writable sectors text failed (Load refusal) fails = unloadable writable sectors text (Load refusal) (λ h. h) fails
load-end writable sectors text failed NoSuchDevice fails = unloadable writable sectors text NoSuchDevice (λ h. h) fails

-- what follows from the end of a text
pub text-end : (memory memory' refused refused' : Type 0) (failed : Bool) (fault : PartitionsFault) → (memory → memory') → (refused → refused') → IsTextEnd memory refused failed fault
    → IsTextEnd memory' refused' failed fault
text-end memory memory' refused refused' failed partitions_fault.NoMemory m r ends = m ends
text-end memory memory' refused refused' failed partitions_fault.NotLoadable m r ends = r ends
text-end memory memory' refused refused' failed partitions_fault.Write m r ends = ends
text-end memory memory' refused refused' failed (partitions_fault.Open file) m r ends = absurd ends
text-end memory memory' refused refused' failed (partitions_fault.Pin cause) m r ends = absurd ends
text-end memory memory' refused refused' failed (partitions_fault.Refused refusal) m r ends = absurd ends
text-end memory memory' refused refused' failed (partitions_fault.Fec cause) m r ends = absurd ends
