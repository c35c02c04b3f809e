-- The text so far, with that of the units that are left, is the text of all of them.
use Rattle.std.proofs.Common.{◌≡◌, ◌++◌, ◌-◌, length, drop, string_bytes, encode_utf8_all}
use Rattle.std.specs.Char.Utf16.{utf16_lossy_chars}
use Rattle.partition_table.proofs.characters.lossy_text.Given as goal

abbrev pub invariant-loop-at : goal.invariant-loop-at
invariant-loop-at l = string_bytes l.text ++ encode_utf8_all (utf16_lossy_chars (drop l.at l.units)) ≡ encode_utf8_all (utf16_lossy_chars l.units)

abbrev pub decreases-loop-at : goal.decreases-loop-at
decreases-loop-at l = length l.units - l.at
