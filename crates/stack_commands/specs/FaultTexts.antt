-- What is printed of faults of stacks, of requests, of devices that are scanned, and of their bytes; and the statuses.
use Rattle.std.specs.Prelude.{ℕ, List, [], ◌++◌, codes, decimal}
use Rattle.io_fault_text.specs.Opening.{open_text}
use Rattle.io_fault_text.specs.Paths.{shown_path}
use Rattle.io_fault_text.specs.Texts.{io_text, kind_then, no_memory, refused_text}
use Rattle.linux_rules.specs.Kinds.{linux_number, linux_name}
use Rattle.linux_rules.specs.declared.refusal.LinuxRefusal.{LinuxRefusal}
use Rattle.nbd_protocol.specs.declared.fault.ServiceFault.{ServiceFault}
use Rattle.nbd_protocol.specs.declared.fault.ServiceFault.TheVariants as service
use Rattle.nbd_server.specs.declared.tally.Tally.{Tally}
use Rattle.stack_meaning.specs.declared.fault.IoFault.{IoFault}
use Rattle.stack_meaning.specs.declared.fault.IoFault.TheVariants as io
use Rattle.stack_rules.specs.declared.refusal.ConfigFault.{ConfigFault}
use Rattle.stack_rules.specs.declared.refusal.ConfigFault.TheVariants as config
use Rattle.stack_rules.specs.FaultKinds.{config_number, config_name}
use Rattle.stack_files.specs.declared.stack_fault.StackFault.{StackFault}
use Rattle.stack_files.specs.declared.stack_fault.StackFault.TheVariants as stack
use Rattle.request_queue.specs.declared.fault.SubmitFault.TheVariants.{NoSuchDevice}
use Rattle.transfer_commands.specs.declared.request_fault.RequestFault.{RequestFault}
use Rattle.transfer_commands.specs.declared.request_fault.RequestFault.TheVariants as request
use Rattle.scan_commands.specs.declared.recovering_fault.RecoveringFault.{RecoveringFault}
use Rattle.scan_commands.specs.declared.recovering_fault.RecoveringFault.TheVariants as recovering
use Rattle.scan_commands.specs.Counting.{counts_text}
use Rattle.scan_commands.specs.MapTexts.{pass_text}
use Rattle.transfer_commands.specs.declared.stream_fault.StreamFault.{StreamFault}
use Rattle.transfer_commands.specs.declared.stream_fault.StreamFault.TheVariants as stream
use Rattle.transfer_commands.specs.StreamTexts.{cat_status, cat_text, store_status, store_text}
use Rattle.stack_session.specs.Texts.{fault_text, load_refusal_text, submit_text}

-- ---- of stacks

-- a part that isn't inside its file
abbrev pub outside_text : List ℕ → List ℕ
outside_text path = codes "refused 23 OutsideFile " ++ (shown_path path ++ codes "\n")

-- leaves that aren't taken
abbrev pub config_text : ConfigFault → List ℕ
config_text config.NoMemory = no_memory
config_text fault = refused_text (config_number fault) (config_name fault)

-- how a client ended its service; nothing if the input or the output failed
abbrev pub service_text : ServiceFault → List ℕ
service_text service.Lost = codes "client 1 Lost\n"
service_text service.Magic = codes "client 2 Magic\n"
service_text service.Flags = codes "client 3 Flags\n"
service_text service.NoSuchExport = codes "client 4 NoSuchExport\n"
service_text service.TooManyOptions = codes "client 5 TooManyOptions\n"
service_text service.ReadFault = []
service_text service.WriteFault = []

-- so many requests of a client ended with a fault, of so many
abbrev pub faults_text : Tally → List ℕ
faults_text tally = codes "faults " ++ (decimal tally.faults ++ (codes " requests " ++ (decimal tally.requests ++ codes "\n")))

-- what Linux would refuse or read otherwise, with the device and the line
abbrev pub linux_text : LinuxRefusal → List ℕ
linux_text r = codes "refused " ++ kind_then (linux_number r.kind) (linux_name r.kind) (codes " device " ++ (decimal r.device ++ (codes " line " ++ (decimal r.line ++ codes "\n"))))

abbrev pub stack_fault_text : StackFault → List ℕ
stack_fault_text stack.NoMemory = no_memory
stack_fault_text stack.TooLong = codes "refused input\n"
stack_fault_text (stack.Open file) = open_text file
stack_fault_text (stack.Outside path) = outside_text path.now
stack_fault_text (stack.Leaves fault) = config_text fault
stack_fault_text (stack.Text fault) = fault_text fault
stack_fault_text (stack.Load refusal) = load_refusal_text refusal
stack_fault_text stack.NoSuchDevice = submit_text NoSuchDevice

-- ---- of requests

abbrev pub request_text : RequestFault → List ℕ
request_text request.NoMemory = no_memory
request_text (request.Stack fault) = stack_fault_text fault
request_text (request.Submit fault) = submit_text fault
request_text (request.Io fault) = io_text fault

-- 3 for a fault of the stack
abbrev pub io_status : IoFault → ℕ
io_status io.NoMemory = 1
io_status fault = 3

abbrev pub request_status : RequestFault → ℕ
request_status (request.Io fault) = io_status fault
request_status fault = 1

-- ---- of devices that are scanned

-- an image to which a device isn't copied, with the sectors that it needs
abbrev pub too_small_text : ℕ → List ℕ
too_small_text needed = codes "refused 1 TooSmall needed " ++ (decimal needed ++ codes "\n")

abbrev pub recovering_text : RecoveringFault → List ℕ
recovering_text recovering.NoMemory = no_memory
recovering_text (recovering.Stack fault) = stack_fault_text fault
recovering_text (recovering.OutputTooSmall needed) = too_small_text needed
recovering_text (recovering.Pass fault) = pass_text fault
recovering_text (recovering.Lost counts) = counts_text counts
recovering_text recovering.LostAsSaid = []
recovering_text recovering.Write = []

-- 3 for lost sectors
abbrev pub recovering_status : RecoveringFault → ℕ
recovering_status (recovering.Lost counts) = 3
recovering_status recovering.LostAsSaid = 3
recovering_status fault = 1

-- ---- of the bytes of a device

abbrev pub stream_text : StreamFault → List ℕ
stream_text (stream.Stack fault) = stack_fault_text fault
stream_text (stream.Cat fault) = cat_text fault
stream_text (stream.Store fault) = store_text fault
stream_text stream.Write = []

abbrev pub stream_status : StreamFault → ℕ
stream_status (stream.Cat fault) = cat_status fault
stream_status (stream.Store fault) = store_status fault
stream_status fault = 1
