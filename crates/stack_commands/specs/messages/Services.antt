-- The sentences on the service of a client.
use Rattle.std.specs.Prelude.{ℕ, nat_lt, List, codes, Option, Some, None, if◌then◌else◌}
use Rattle.nbd_protocol.specs.declared.fault.ServiceFault.{ServiceFault}
use Rattle.nbd_protocol.specs.declared.fault.ServiceFault.TheVariants as service
use Rattle.nbd_server.specs.declared.tally.Tally.{Tally}

-- a service that ends early; none if the input or the output failed
unfoldable pub service_message : ServiceFault → Option (List ℕ)
service_message service.Lost = Some (codes "the client disconnected in the middle of a message")
service_message service.Magic = Some (codes "the client isn't an NBD client: a message begins with another magic number")
service_message service.Flags = Some (codes "the client set handshake flags that aren't offered")
service_message service.NoSuchExport = Some (codes "the client asked for an export that doesn't exist")
service_message service.TooManyOptions = Some (codes "the client sent more than 1,024 options")
service_message service.ReadFault = None
service_message service.WriteFault = None

-- requests that ended with a fault; `scan` finds nothing if each of them only lacked space
abbrev pub faults_message : Tally → List ℕ
faults_message t =
    if nat_lt t.full t.faults then codes "requests of the client failed: 'scan' on the same stack prints the sectors that can't be read"
    else codes "requests of the client failed: an image has no space left"
