-- Metadata contexts: the queries of a client, and the replies (the protocol's document, "Metadata querying",
-- NBD_OPT_LIST_META_CONTEXT and NBD_OPT_SET_META_CONTEXT).
use Rattle.std.specs.Prelude.{ℕ, zero, suc, ◌+◌, ◌==◌, ◌&&◌, ◌||◌, not, nat_le, nat_lt, Bool, true, false, List, [], ◌++◌, length, take, drop, codes, Option, Some, None, if◌then◌else◌}
use Rattle.std.specs.List.{position}
use Rattle.std.specs.Str.{bytes_eq}
use Rattle.nbd_protocol.specs.Numbers.{big_endian32, bytes32}
use Rattle.nbd_protocol.specs.Exports.{ExportRecord, asked, export_records}
use Rattle.nbd_protocol.specs.OptionReplies.{acknowledged, refused, reply_head}
use Rattle.nbd_protocol.specs.declared.export.Export.{Export}
use Rattle.nbd_protocol.specs.declared.phase.Terms.{Terms}
use Rattle.nbd_protocol.specs.declared.option_reply.Refusal.TheVariants.{Invalid, Unknown}

-- LIST_META_CONTEXT and SET_META_CONTEXT
abbrev pub list_context : ℕ
list_context = 9

abbrev pub set_context : ℕ
set_context = 10

-- ---- strings: a length in four bytes, then so many bytes

abbrev pub is_string : List ℕ → Bool
is_string bytes = nat_le 4 (length bytes) && nat_le (4 + big_endian32 bytes 0) (length bytes)

abbrev pub string_in : List ℕ → List ℕ
string_in bytes = take (big_endian32 bytes 0) (drop 4 bytes)

abbrev pub behind_string : List ℕ → List ℕ
behind_string bytes = drop (4 + big_endian32 bytes 0) bytes

-- ---- queries

-- the only context: which bytes are zeros, and which are holes
unfoldable pub context_name : List ℕ
context_name = codes "base:allocation"

unfoldable pub context_namespace : List ℕ
context_namespace = codes "base:"

-- a query names the context; in a LIST its namespace does too
abbrev pub names_context : Bool → List ℕ → Bool
names_context listing query = bytes_eq query context_name || (listing && bytes_eq query context_namespace)

-- the first colon of a query, which is 58 and ends its namespace
abbrev pub namespace_end : List ℕ → Option ℕ
namespace_end query = position (λ byte. byte == 58) query

-- the namespace has at least one byte
abbrev pub ends_namespace : Option ℕ → Bool
ends_namespace (Some end) = nat_lt 0 end
ends_namespace None = false

abbrev pub has_namespace : List ℕ → Bool
has_namespace query = ends_namespace (namespace_end query)

-- a LIST without queries names every context
abbrev pub is_of_all : Bool → ℕ → Bool
is_of_all listing count = listing && (count == 0)

-- whether the context was named; none if bytes are left after the last query
abbrev pub named_at_end : Bool → List ℕ → Option Bool
named_at_end named rest = if length rest == 0 then Some named else None

-- whether the context was named, or one of n queries names it; none if the lengths don't add up, or a query has no namespace
unfoldable pub queried : Bool → Bool → ℕ → List ℕ → Option Bool
queried listing named zero rest = named_at_end named rest
queried listing named (suc n) rest =
    if not (is_string rest) then None
    else if not (has_namespace (string_in rest)) then None
    else queried listing (named || names_context listing (string_in rest)) n (behind_string rest)

-- whether the queries name the context; the bytes are the number of queries, then the queries
abbrev pub wanted_of : Bool → List ℕ → Option Bool
wanted_of listing bytes = queried listing (is_of_all listing (big_endian32 bytes 0)) (big_endian32 bytes 0) (drop 4 bytes)

abbrev pub wants_context : Bool → List ℕ → Option Bool
wants_context listing content =
    if not (is_string content) then None
    else if not (nat_le 4 (length (behind_string content))) then None
    else wanted_of listing (behind_string content)

-- ---- replies

-- the number of the context, which has no meaning in a LIST
abbrev pub context_number : Bool → ℕ
context_number listing = if listing then 0 else 1

abbrev pub told_context : Bool → ℕ → List ℕ
told_context listing option = reply_head option 4 19 ++ (bytes32 (context_number listing) ++ context_name)

-- the context, if it was named
abbrev pub named_context : Bool → ℕ → Bool → List ℕ
named_context listing option named = if named then told_context listing option else []

-- the replies about an export; without an export the reply is ERR_UNKNOWN
abbrev pub context_of : Bool → ℕ → Bool → Option ℕ → List ℕ
context_of listing option named None = refused Unknown option
context_of listing option named (Some place) = named_context listing option named ++ acknowledged option

abbrev pub contexts_at : Bool → ℕ → Option Bool → Option ℕ → List ℕ
contexts_at listing option None found = refused Invalid option
contexts_at listing option (Some named) found = context_of listing option named found

-- the replies about the export and the queries in the data
abbrev pub contexts_in : List ExportRecord → Bool → ℕ → List ℕ → List ℕ
contexts_in es listing option content = contexts_at listing option (wants_context listing content) (asked es (string_in content))

-- only a client that agreed on structured replies may query
abbrev pub contexts_reply : List ExportRecord → Terms → ℕ → List ℕ → List ℕ
contexts_reply es terms option content =
    if not terms.structured then refused Invalid option
    else contexts_in es (option == list_context) option content

-- the export for which a SET selects the context
abbrev pub selected : Option Bool → Option ℕ → Option ℕ
selected (Some true) found = found
selected (Some false) found = None
selected None found = None

abbrev pub selected_in : List ExportRecord → List ℕ → Option ℕ
selected_in es content = selected (wants_context false content) (asked es (string_in content))

-- the export that the last SET selected: a SET replaces the selection even if it fails
abbrev pub status_after : List ExportRecord → Terms → ℕ → List ℕ → Option ℕ
status_after es terms option content =
    if not (option == set_context) then terms.status
    else if not terms.structured then None
    else selected_in es content

-- ---- the replies, for exports in memory

abbrev pub contexts_by : List Export → Terms → ℕ → List ℕ → List ℕ
contexts_by exports terms option content = contexts_reply (export_records exports) terms option content

abbrev pub queries_by : List Export → Bool → ℕ → List ℕ → List ℕ
queries_by exports listing option content = contexts_in (export_records exports) listing option content
