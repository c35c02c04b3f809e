-- How commands on partitions end early.
use Rattle.std.proofs.Common.{◌≡◌, ◌≤◌, ℕ, Bool, List, Option, sym, subst, Result, Ok, Err, arith, inl, refl}
use Rattle.std.specs.Prelude.{IfErr, IsErrAnd}
use Rattle.allocation.specs.Asked.{asked}
use Rattle.allocation.specs.declared.out_of_memory.OutOfMemory.{OutOfMemory}
use Rattle.block_device.specs.Device.{Device}
use Rattle.image_pin.specs.declared.trusted.TrustedRoot.{TrustedRoot}
use Rattle.partition_table.specs.declared.table.PartitionTable.{PartitionTable}
use Rattle.stack_rules.proofs.lemmas.PassingLemmas.{out_of_memory-more}
use Rattle.verity_format.specs.Superblock.{SuperRecord}
use Rattle.partition_commands.specs.declared.fault.PartitionsFault.{PartitionsFault}
use Rattle.partition_commands.specs.declared.fault.PartitionsFault.TheVariants.{Fec, NoMemory, NotLoadable, Open, Pin, Refused, Write}
use Rattle.partition_commands.specs.declared.parity.ImageParity.{ImageParity}
use Rattle.partition_commands.specs.declared.plan.StackPlan.{StackPlan}
use Rattle.partition_commands.specs.Commands.{EndsUnloadable, IsEntriesEnd}
use Rattle.partition_commands.specs.Loads.{IsLoadableEnd, IsRefusedRoom, IsStackEnd, IsStackUnloadable, stack_room}
use Rattle.partition_commands.specs.RootCommands.{FindsPair, HasParityOf, ImagePlanRecord, IsRootTextEnd, image_text}
use Rattle.partition_commands.specs.RootStacks.{image_room}

-- what holds of a fault holds of the result that hands it on
pub err-from : {T E : Type 0} (r : Result T E) (P : E → Type 0) (fault : E) → IsErrAnd r (λ e. e ≡ fault) → P fault → IfErr r P
err-from (Ok done) P fault is holds = tt
err-from (Err e) P fault is holds = subst P (sym is) holds

-- the exit of a `?` that hands on a refused allocation
pub exit_room : {T : Type 0} (r : Result T PartitionsFault) (n : ℕ) (e : OutOfMemory) → IsErrAnd r (λ fault. fault ≡ NoMemory) → asked e ≤ n → IfErr r (IsRefusedRoom n)
exit_room r n e is low = err-from r (IsRefusedRoom n) NoMemory is (refl, (e.asked, low, e.refused))

-- room for the end of a root's text
pub less-room : (super : SuperRecord) (root : List ℕ) (parity : Option ImageParity) (e : OutOfMemory) → asked e ≤ stack_room → asked e ≤ image_room super root parity
less-room super root parity e low = omega (arith, low)

-- a text of two partitions, and of that of the parity, that isn't written
pub say-root : {D : Type 0} (state : D → Device) (device : D) (plan : ImagePlanRecord) (trusted : TrustedRoot) (pair : FindsPair state device plan.stack.size trusted) (parity : Option ImageParity)
    → HasParityOf pair plan.fec parity → (failed : Bool) (fault : PartitionsFault)
    → IsLoadableEnd plan.stack.writable (state pair.signed_device).size (image_text plan.stack.writable pair parity) failed fault → IsRootTextEnd state plan trusted failed device fault
say-root state device plan trusted pair parity has failed NoMemory ends =
    inl (record { pair = pair; parity = parity; has = has; refused = out_of_memory-more stack_room (image_room pair.super trusted.root parity) (omega arith) ends })
say-root state device plan trusted pair parity has failed NotLoadable ends = inl (record { pair = pair; parity = parity; has = has; unloadable = ends })
say-root state device plan trusted pair parity has failed Write ends = inl ends
say-root state device plan trusted pair parity has failed (Open file) ends = absurd ends
say-root state device plan trusted pair parity has failed (Pin cause) ends = absurd ends
say-root state device plan trusted pair parity has failed (Refused refusal) ends = absurd ends
say-root state device plan trusted pair parity has failed (Fec cause) ends = absurd ends

-- a text of all partitions that isn't
pub say-entries : (old new : Device) (plan : StackPlan) (table : PartitionTable) (failed : Bool) (fault : PartitionsFault)
    → (IsStackUnloadable plan.writable new.size table.size table.partitions.items → EndsUnloadable old new plan) → IsStackEnd plan.writable new.size table.size table.partitions.items failed fault
    → IsEntriesEnd old new plan failed fault
say-entries old new plan table failed NoMemory refused ends = ends
say-entries old new plan table failed NotLoadable refused ends = refused ends
say-entries old new plan table failed Write refused ends = ends
say-entries old new plan table failed (Open file) refused ends = absurd ends
say-entries old new plan table failed (Pin cause) refused ends = absurd ends
say-entries old new plan table failed (Refused refusal) refused ends = absurd ends
say-entries old new plan table failed (Fec cause) refused ends = absurd ends
