-- Texts that are empty.
use Rattle.std.proofs.Common.{◌≡◌, ℕ, List, [], ◌++◌, Option, Some, None, sym}
use Rattle.std.specs.Io.KnownBytes.{Appends}
use Rattle.std.proofs.lemmas.List.{append-nil}

pub writes_nothing : (known : Option (List ℕ)) → Appends known known []
writes_nothing None = tt
writes_nothing (Some xs) = sym (append-nil xs)
