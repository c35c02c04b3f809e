-- Findings and segments as JSON values have no float.
use Rattle.std.proofs.Common.{◌≡◌, Bool, true, false, cond, codes, ℕ, zero, suc, List, [], ◌∷◌, ◌++◌, Option, Some, None, map, inl, inr, refl, ap, ◌∙◌}
use Rattle.std.proofs.lemmas.Bool.{or_from, or_parts}
use Rattle.std.specs.Prelude.{decimal}
use Rattle.std.specs.Str.{bytes_eq}
use Rattle.block_device.specs.Device.{Device}
use Rattle.serde_json.specs.Data.{Data, null, string}
use Rattle.serde_json.specs.View.{items_of}
use Rattle.serde_json.specs.Written.{has_float, items_have_float}
use Rattle.stack_recovery.specs.declared.recovery.Counts.{Counts}
use Rattle.find_commands.specs.declared.checksum.Checksum.{Checksum}
use Rattle.find_commands.specs.declared.finding.Finding.{Finding}
use Rattle.find_commands.specs.declared.luks.Extent.{Extent}
use Rattle.find_commands.specs.CryptLines.{crypt_line}
use Rattle.find_commands.specs.Areas.{FindsEach, FindsSegments, SeeksSegments}
use Rattle.find_commands.specs.Luks.{crypt_in, segment_at}
use Rattle.find_commands.specs.Objects.{checksum_json, crypt_items, finding_json, found_json, segment_items, segment_json, segments_json, segments_to, shown_json, stated_json, uuid_json}

plain_number : (number : Option ℕ) → has_float (stated_json number) ≡ false
plain_number (Some n) = refl
plain_number None = refl

plain_checksum : (checksum : Option Checksum) → has_float (checksum_json checksum) ≡ false
plain_checksum (Some checksum) = refl
plain_checksum None = refl

plain_uuid : (uuid : Option (List ℕ)) → has_float (uuid_json uuid) ≡ false
plain_uuid (Some bytes) = refl
plain_uuid None = refl

-- ---- segments

plain_append : (xs ys : List Data) → items_have_float (items_of xs) ≡ false → items_have_float (items_of ys) ≡ false → items_have_float (items_of (xs ++ ys)) ≡ false
plain_append [] ys first last = last
plain_append (x ∷ xs) ys first last =
    let parts = or_parts (has_float x) (items_have_float (items_of xs)) first in
    or_from _ _ parts.0 (plain_append xs ys parts.1 last)

plain_line : (known : Bool) (line : List ℕ) → has_float (cond known (string line) null) ≡ false
plain_line true line = refl
plain_line false line = refl

plain_segment : (id : ℕ) (cipher : List ℕ) (extent : Extent) → has_float (segment_json id cipher extent) ≡ false
plain_segment id cipher extent = or_from _ _ (plain_line (bytes_eq cipher (codes "aes-xts-plain64")) (crypt_line extent)) (or_from _ _ (plain_number extent.size) refl)

plain_crypt : (id : ℕ) (found : Option (List ℕ × Extent)) → items_have_float (items_of (crypt_items id found)) ≡ false
plain_crypt id (Some found) = or_from _ _ (plain_segment id found.0 found.1) refl
plain_crypt id None = refl

plain_item : (id : ℕ) (segment : Option Data) → items_have_float (items_of (segment_items id segment)) ≡ false
plain_item id (Some segment) = plain_crypt id (crypt_in segment)
plain_item id None = refl

plain_to : (area : Data) (n : ℕ) → items_have_float (items_of (segments_to area n)) ≡ false
unfolding segments_to
plain_to area zero = refl
plain_to area (suc n) = plain_append (segments_to area n) (segment_items n (segment_at (decimal n) area)) (plain_to area n) (plain_item n (segment_at (decimal n) area))

plain_segments : (area : Option Data) → has_float (segments_json area) ≡ false
plain_segments (Some area) = plain_to area 32
plain_segments None = refl

plain_sought : {D : Type 0} (state : D → Device) (first count : ℕ) (old new : D) (segments : Data) → SeeksSegments state first count old new segments → has_float segments ≡ false
plain_sought state first count old new segments (inl reads) = ap has_float reads.shows.are ∙ plain_segments reads.shows.value
plain_sought state first count old new segments (inr misses) = ap has_float misses.0

plain_sight : {D : Type 0} (state : D → Device) (f : Finding) (old new : D) (segments : Data) → FindsSegments state f old new segments → has_float segments ≡ false
plain_sight state f old new segments (inl lacks) = ap has_float lacks.2
plain_sight state f old new segments (inr seeks) = plain_sought state _ _ old new segments seeks.1

-- ---- findings

plain_finding : (f : Finding) (segments : Data) → has_float segments ≡ false → has_float (finding_json f segments) ≡ false
plain_finding f segments plain = or_from _ _ (plain_number f.blocks) (or_from _ _ (plain_checksum f.checksum) (or_from _ _ plain (or_from _ _ (plain_number f.size) (or_from _ _ (plain_uuid f.uuid) refl))))

plain_each : {D : Type 0} (state : D → Device) (old new : D) (shown : List (Finding × Data)) → FindsEach state old shown new → items_have_float (items_of (map shown_json shown)) ≡ false
plain_each state old new [] finds = refl
plain_each state old new (s ∷ more) finds = or_from _ _ (plain_finding s.0 s.1 (plain_sight state s.0 old finds.0 s.1 finds.1)) (plain_each state finds.0 new more finds.2)

pub plain_found : {D : Type 0} (state : D → Device) (old new : D) (shown : List (Finding × Data)) (counts : Counts) → FindsEach state old shown new → has_float (found_json shown counts) ≡ false
plain_found state old new shown counts finds = or_from _ _ (plain_each state old new shown finds) refl
