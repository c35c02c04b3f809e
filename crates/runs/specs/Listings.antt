-- The receivers of lines.
use Rattle.std.specs.Prelude.{◌≡◌, ℕ, Bool, true, List, Option, Result, OnOk, OnErr}
use Rattle.std.specs.Io.KnownBytes.{Appends}
use Rattle.program_io.specs.declared.fault.WriteFault.{WriteFault}

-- the text was received, or a failure was recorded
pub record Tells {T : Type 0} (told_by : T → Option (List ℕ)) (has_failed : T → Bool) (old new : T) (text : List ℕ) (result : Result Unit WriteFault) : Type 0 where
  pub ok : OnOk result (Appends (told_by old) (told_by new) text)
  pub kept : OnOk result (has_failed new ≡ has_failed old)
  pub failed : OnErr result (has_failed new ≡ true)
