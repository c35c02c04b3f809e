-- The numbers and names of a pin's faults in printed output.
use Rattle.std.specs.Prelude.{ℕ, List, codes}
use Rattle.image_pin.specs.declared.fault.PinFault.{PinFault}
use Rattle.image_pin.specs.declared.fault.PinFault.TheVariants as fault

abbrev pub fault_number : PinFault → ℕ
fault_number fault.Header = 36
fault_number fault.Line = 37
fault_number fault.Unknown = 38
fault_number (fault.Repeated name) = 39
fault_number (fault.Missing name) = 40
fault_number (fault.Value name) = 41
fault_number fault.TooLong = 42

abbrev pub fault_name : PinFault → List ℕ
fault_name fault.Header = codes "PinHeader"
fault_name fault.Line = codes "PinLine"
fault_name fault.Unknown = codes "PinUnknown"
fault_name (fault.Repeated name) = codes "PinRepeated"
fault_name (fault.Missing name) = codes "PinMissing"
fault_name (fault.Value name) = codes "PinValue"
fault_name fault.TooLong = codes "PinTooLong"
