-- The object of an ending has no float.
use Rattle.std.proofs.Common.{◌≡◌, false, List, ℕ, None, Some, refl}
use Rattle.std.specs.Prelude.{Option}
use Rattle.serde_json.specs.Data.{object}
use Rattle.serde_json.specs.Written.{has_float}
use Rattle.stack_commands.specs.EndingObjects.{ending_json, parts_json, parts_members}
use Rattle.stack_commands.specs.EndingParts.{PartsRecord, TextFaultRecord, parts_of}

plain_members : (kind name : List ℕ) (n : Option ℕ) (detail : Option (List ℕ)) → has_float (object (parts_members (record { kind = kind; number = n; name = name; detail = detail }))) ≡ false
plain_members kind name None None = refl
plain_members kind name None (Some detail) = refl
plain_members kind name (Some n) None = refl
plain_members kind name (Some n) (Some detail) = refl

plain_parts : (line : List ℕ) (parts : Option PartsRecord) → has_float (parts_json line parts) ≡ false
plain_parts line None = refl
plain_parts line (Some parts) = plain_members parts.kind parts.name parts.number parts.detail

pub plain_ending : (line : List ℕ) (fault : Option TextFaultRecord) → has_float (ending_json line fault) ≡ false
plain_ending line None = plain_parts line (parts_of line)
plain_ending line (Some fault) = refl
