-- The handshake: the greeting, the client flags, and the options.
use Rattle.std.specs.Prelude.{ℕ, ◌+◌, ◌-◌, ◌*◌, ◌==◌, ◌&&◌, ◌||◌, not, nat_le, Bool, false, true, List, [], ◌∷◌, ◌++◌, flat_map, length, take, drop, replicate, codes, is_some, Option, Some, None, if◌then◌else◌}
use Rattle.nbd_protocol.specs.Numbers.{big_endian16, big_endian32, bytes16, bytes32, bytes64}
use Rattle.nbd_protocol.specs.OptionReplies.{acknowledged, refused, reply_head}
use Rattle.nbd_protocol.specs.Contexts.{contexts_reply, status_after, list_context, set_context}
use Rattle.nbd_protocol.specs.Exports.{ExportRecord, asked, export_at, export_record, export_records, transmission_flags}
use Rattle.nbd_protocol.specs.Headers.{most_length}
use Rattle.nbd_protocol.specs.declared.export.Export.{Export}
use Rattle.nbd_protocol.specs.declared.phase.Terms.{Terms}
use Rattle.nbd_protocol.specs.declared.phase.Phase.{Phase}
use Rattle.nbd_protocol.specs.declared.phase.Phase.TheVariants.{Haggling, Serving, Over}
use Rattle.nbd_protocol.specs.declared.option_reply.Refusal.TheVariants.{Unsupported, Invalid, Unknown, TooBig}

-- "NBDMAGIC", "IHAVEOPT", and the flags FIXED_NEWSTYLE and NO_ZEROES
abbrev pub greeting : List ℕ
greeting = codes "NBDMAGICIHAVEOPT" ++ 0 ∷ 3 ∷ []

-- ---- the description of an export

unfoldable pub many_zeros : List ℕ
many_zeros = replicate 124 0

-- the reply to EXPORT_NAME: size and flags, then zeros unless the client declined them
abbrev pub export_fields : ExportRecord → Terms → List ℕ
export_fields e terms = bytes64 e.size ++ (bytes16 (transmission_flags e terms.structured) ++ (if terms.no_zeroes then [] else many_zeros))

-- INFO_EXPORT: size and flags, as INFO and GO report them
abbrev pub export_info : ExportRecord → Terms → List ℕ
export_info e terms = bytes16 0 ++ (bytes64 e.size ++ bytes16 (transmission_flags e terms.structured))

-- INFO_NAME: the export's name, which a client that sent the empty name learns by it
abbrev pub name_info : ExportRecord → List ℕ
name_info e = bytes16 1 ++ e.name

-- What an export is, for humans, by whether all of its lines are `verity` lines, and whether it is writable. A device that has a
-- `verity` line is read-only.
abbrev pub description : Bool → Bool → List ℕ
description true writable = codes "verity, read-only"
description false true = codes "mapped device, writable"
description false false = codes "mapped device, read-only"

abbrev pub description_of : ExportRecord → List ℕ
description_of e = description e.verity e.writable

-- INFO_DESCRIPTION
abbrev pub description_info : List ℕ → List ℕ
description_info text = bytes16 2 ++ text

-- INFO_BLOCK_SIZE: the minimum, preferred and maximum size of a request; a request may begin and end at any byte
abbrev pub size_info : List ℕ
size_info = bytes16 3 ++ (bytes32 1 ++ (bytes32 4096 ++ bytes32 most_length))

-- the length of an export's name, and the name
abbrev pub name_field : ExportRecord → List ℕ
name_field e = bytes32 (length e.name) ++ e.name

-- ---- INFO and GO: the length of a name, the name, the number of information requests, and two bytes for each

abbrev pub name_in : List ℕ → List ℕ
name_in content = take (big_endian32 content 0) (drop 4 content)

abbrev pub wanted_in : List ℕ → List ℕ
wanted_in content = drop (6 + big_endian32 content 0) content

-- the lengths in the data of INFO or GO add up
abbrev pub is_info : List ℕ → Bool
is_info content = nat_le 6 (length content) && (nat_le (big_endian32 content 0 + 6) (length content) && (length content == big_endian32 content 0 + 6 + 2 * big_endian16 content (4 + big_endian32 content 0)))

-- the client requests the information of that type
abbrev pub wants_info : ℕ → List ℕ → Bool
wants_info kind [] = false
wants_info kind (a ∷ []) = false
wants_info kind (a ∷ b ∷ more) = ((a == 0) && (b == kind)) || wants_info kind more

-- the name, if the client requests it
unfoldable pub wanted_name : ExportRecord → ℕ → List ℕ → List ℕ
wanted_name e option wanted = if wants_info 1 wanted then reply_head option 3 (length e.name + 2) ++ name_info e else []

-- the description, if the client requests it
unfoldable pub wanted_description : ExportRecord → ℕ → List ℕ → List ℕ
wanted_description e option wanted = if wants_info 2 wanted then reply_head option 3 (length (description_of e) + 2) ++ description_info (description_of e) else []

-- the block sizes, if the client requests them
unfoldable pub wanted_sizes : ℕ → List ℕ → List ℕ
wanted_sizes option wanted = if wants_info 3 wanted then reply_head option 3 14 ++ size_info else []

-- the description and the block sizes, and the name before them, each if the client requests it
abbrev pub wanted_others : ExportRecord → ℕ → List ℕ → List ℕ
wanted_others e option wanted = wanted_description e option wanted ++ wanted_sizes option wanted

abbrev pub wanted_facts : ExportRecord → ℕ → List ℕ → List ℕ
wanted_facts e option wanted = wanted_name e option wanted ++ wanted_others e option wanted

-- the replies to INFO and GO for an existing export
abbrev pub told : ExportRecord → Terms → ℕ → List ℕ → List ℕ
told e terms option wanted = reply_head option 3 12 ++ (export_info e terms ++ (wanted_facts e option wanted ++ acknowledged option))

-- the replies for the export at an index; without an export the reply is ERR_UNKNOWN
abbrev pub told_at : List ExportRecord → Terms → ℕ → Option ℕ → List ℕ → List ℕ
told_at es terms option (Some place) wanted = told (export_at es place) terms option wanted
told_at es terms option None wanted = refused Unknown option

-- the replies for the export that the data name
abbrev pub told_in : List ExportRecord → Terms → ℕ → List ℕ → List ℕ
told_in es terms option content = told_at es terms option (asked es (name_in content)) (wanted_in content)

unfoldable pub info_reply : List ExportRecord → Terms → ℕ → List ℕ → List ℕ
info_reply es terms option content = if not (is_info content) then refused Invalid option else told_in es terms option content

-- the SERVER reply that names an export
unfoldable pub server_reply : ExportRecord → List ℕ
server_reply e = reply_head 3 2 (length e.name + 4) ++ name_field e

-- LIST has no data, and its replies name each export
abbrev pub list_reply : List ExportRecord → List ℕ → List ℕ
list_reply es [] = flat_map server_reply es ++ acknowledged 3
list_reply es content = refused Invalid 3

-- STRUCTURED_REPLY has no data
abbrev pub structured_reply : List ℕ → List ℕ
structured_reply [] = acknowledged 8
structured_reply content = refused Invalid 8

-- ---- options: EXPORT_NAME is 1, ABORT 2, LIST 3, INFO 6, GO 7, STRUCTURED_REPLY 8, LIST_META_CONTEXT 9 and
-- SET_META_CONTEXT 10

-- the most bytes of an option's data
abbrev pub most_data : ℕ
most_data = 65536

-- the reply to EXPORT_NAME; nothing if there is no such export
abbrev pub fields_at : List ExportRecord → Terms → Option ℕ → List ℕ
fields_at es terms (Some place) = export_fields (export_at es place) terms
fields_at es terms None = []

-- the replies to an option
unfoldable pub answer_to : List ExportRecord → Terms → ℕ → List ℕ → List ℕ
answer_to es terms option content =
    if option == 1 then fields_at es terms (asked es content)
    else if option == 2 then acknowledged 2
    else if option == 3 then list_reply es content
    else if (option == 6) || (option == 7) then info_reply es terms option content
    else if option == 8 then structured_reply content
    else if (option == list_context) || (option == set_context) then contexts_reply es terms option content
    else refused Unsupported option

-- the reply to an option whose data are longer than `most_data`
abbrev pub answer_to_long : ℕ → List ℕ
answer_to_long option = if option == 2 then acknowledged 2 else refused TooBig option

-- the most options of one handshake
abbrev pub most_options : ℕ
most_options = 1024

-- the terms after an option that agrees on nothing: one option fewer may follow
abbrev pub one_fewer : Terms → Terms
one_fewer terms = record terms { left = terms.left - 1 }

-- the terms after an option whose data are too long: SET_META_CONTEXT deselects the context
abbrev pub terms_after_long : Terms → ℕ → Terms
terms_after_long terms option = record (one_fewer terms) { status = if option == set_context then None else terms.status }

abbrev pub phase_after_long : Terms → ℕ → Phase
phase_after_long terms option = if option == 2 then Over else Haggling (terms_after_long terms option)

-- the context is selected for the export at that index
abbrev pub is_place : Option ℕ → ℕ → Bool
is_place (Some selected) place = selected == place
is_place None place = false

-- the transmission begins if the export exists
abbrev pub serving_at : Terms → Option ℕ → Phase
serving_at terms (Some place) = Serving (record { place = place; structured = terms.structured; status = is_place terms.status place })
serving_at terms None = Haggling (one_fewer terms)

-- The terms after an option that doesn't end the handshake: STRUCTURED_REPLY agrees on chunks, SET_META_CONTEXT selects the
-- context of an export.
abbrev pub terms_after : List ExportRecord → Terms → ℕ → List ℕ → Terms
terms_after es terms option content = record {
  no_zeroes = terms.no_zeroes;
  structured = terms.structured || ((option == 8) && (length content == 0));
  status = status_after es terms option content;
  left = terms.left - 1;
}

-- EXPORT_NAME and GO begin the transmission of an existing export, and ABORT ends the session
unfoldable pub phase_after : List ExportRecord → Terms → ℕ → List ℕ → Phase
phase_after es terms option content =
    if option == 1 then serving_at terms (asked es content)
    else if option == 2 then Over
    else if (option == 7) && is_info content then serving_at terms (asked es (name_in content))
    else Haggling (terms_after es terms option content)

-- EXPORT_NAME can be answered only if it names an export
abbrev pub names_export : List ExportRecord → ℕ → List ℕ → Bool
names_export es option content = not (option == 1) || is_some (asked es content)

-- ---- the replies, for exports in memory

abbrev pub told_by : Export → Terms → ℕ → List ℕ → List ℕ
told_by export terms option wanted = told (export_record export) terms option wanted

abbrev pub told_in_by : List Export → Terms → ℕ → List ℕ → List ℕ
told_in_by exports terms option content = told_in (export_records exports) terms option content

abbrev pub info_by : List Export → Terms → ℕ → List ℕ → List ℕ
info_by exports terms option content = info_reply (export_records exports) terms option content

abbrev pub fields_by : List Export → Terms → List ℕ → List ℕ
fields_by exports terms name = fields_at (export_records exports) terms (asked (export_records exports) name)

abbrev pub answer_by : List Export → Terms → ℕ → List ℕ → List ℕ
answer_by exports terms option content = answer_to (export_records exports) terms option content
