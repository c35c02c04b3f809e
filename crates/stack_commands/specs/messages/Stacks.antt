-- The sentences on commands on stacks and of requests.
use Rattle.std.specs.Prelude.{ℕ, List, codes, Option, Some, None}
use Rattle.request_queue.specs.declared.fault.SubmitFault.{SubmitFault}
use Rattle.request_queue.specs.declared.fault.SubmitFault.TheVariants as submit
use Rattle.stack_files.specs.declared.stack_fault.StackFault.{StackFault}
use Rattle.stack_files.specs.declared.stack_fault.StackFault.TheVariants as stack
use Rattle.transfer_commands.specs.declared.request_fault.RequestFault.{RequestFault}
use Rattle.transfer_commands.specs.declared.request_fault.RequestFault.TheVariants as request
use Rattle.manual_pages.specs.messages.Accesses.{io_message}
use Rattle.manual_pages.specs.messages.Leaves.{leaves_message}
use Rattle.manual_pages.specs.messages.Loads.{load_message}
use Rattle.manual_pages.specs.messages.Opening.{open_message}
use Rattle.manual_pages.specs.messages.Texts.{text_message}

-- a request that isn't accepted; none of a full queue
unfoldable pub submit_message : SubmitFault → Option (List ℕ)
submit_message submit.NoSuchDevice = Some (codes "the stack has no mapped device with that name: 'dmstack load' prints the names")
submit_message submit.OutOfRange = Some (codes "the sectors end past the device: count in sectors of 512 bytes; 'dmstack load' prints the sizes")
submit_message submit.Length = Some (codes "no sectors, more than 2048 (use 'dmstack cat' or 'store'), or a part of a sector (use 'truncate -s %512')")
submit_message submit.ReadOnly = Some (codes "the device is read-only: write 'rw' in the stack, and bind its images with 'rw:'")
submit_message submit.Full = None
submit_message submit.NoMemory = None

-- a stack that isn't loaded
unfoldable pub stack_message : StackFault → Option (List ℕ)
stack_message stack.NoMemory = None
stack_message stack.TooLong = Some (codes "STACK has more than 1 MiB: check that it isn't the image")
stack_message (stack.Open file) = open_message file.fault
stack_message (stack.Outside path) = Some (codes "the part ends past its file: FIRST and COUNT are sectors of 512 bytes")
stack_message (stack.Leaves fault) = leaves_message fault
stack_message (stack.Text fault) = Some (text_message fault.kind)
stack_message (stack.Load refusal) = Some (load_message refusal.kind)
stack_message stack.NoSuchDevice = submit_message submit.NoSuchDevice

-- a request that isn't served
unfoldable pub request_message : RequestFault → Option (List ℕ)
request_message request.NoMemory = None
request_message (request.Stack fault) = stack_message fault
request_message (request.Submit fault) = submit_message fault
request_message (request.Io fault) = io_message fault
