-- The sentences on `cat` and `store`.
use Rattle.std.specs.Prelude.{ℕ, List, codes, Option, Some, None}
use Rattle.transfer_commands.specs.declared.stream_fault.CatFault.{CatFault}
use Rattle.transfer_commands.specs.declared.stream_fault.CatFault.TheVariants as cat
use Rattle.transfer_commands.specs.declared.stream_fault.StoreCause.{StoreCause}
use Rattle.transfer_commands.specs.declared.stream_fault.StoreCause.TheVariants as store
use Rattle.transfer_commands.specs.declared.stream_fault.StreamFault.{StreamFault}
use Rattle.transfer_commands.specs.declared.stream_fault.StreamFault.TheVariants as stream
use Rattle.request_queue.specs.declared.fault.SubmitFault.TheVariants as submit
use Rattle.manual_pages.specs.messages.Accesses.{io_message}
use Rattle.stack_commands.specs.messages.Stacks.{stack_message, submit_message}

-- a `cat` that ends early
unfoldable pub cat_message : CatFault → Option (List ℕ)
cat_message cat.Range = submit_message submit.OutOfRange
cat_message (cat.Read fault) = io_message fault
cat_message cat.Write = None

-- a `store` that ends early
unfoldable pub store_message : StoreCause → Option (List ℕ)
store_message store.ReadOnly = submit_message submit.ReadOnly
store_message store.Range = submit_message submit.OutOfRange
store_message store.Length = submit_message submit.Length
store_message store.TooLong = Some (codes "the input is longer than the device; only the sectors printed as written are stored")
store_message store.PartSector = Some (codes "the input ends inside a sector: extend it with 'truncate -s %512'")
store_message store.Read = Some (codes "the input can't be read: go on after the written sectors with '--first'")
store_message (store.Write fault) = io_message fault
store_message (store.Sync fault) = io_message fault

-- a command on the bytes of a device that ends early
unfoldable pub stream_message : StreamFault → Option (List ℕ)
stream_message (stream.Stack fault) = stack_message fault
stream_message (stream.Cat fault) = cat_message fault
stream_message (stream.Store fault) = store_message fault.cause
stream_message stream.Write = None
