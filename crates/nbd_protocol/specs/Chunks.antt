-- The chunks of a structured reply (the protocol's document, "Structured reply chunk message" and "Structured reply types").
use Rattle.std.specs.Prelude.{ℕ, ◌+◌, Bool, true, List, ◌++◌, length, if◌then◌else◌}
use Rattle.nbd_protocol.specs.Headers.{error_number}
use Rattle.nbd_protocol.specs.Numbers.{bytes16, bytes32, bytes64}
use Rattle.nbd_protocol.specs.declared.request_error.RequestError.{RequestError}

abbrev pub chunk_magic : ℕ
chunk_magic = 0x668e33ef

-- the flag of the last chunk of a reply
abbrev pub flag_of_last : Bool → ℕ
flag_of_last done = if done then 1 else 0

-- the header of a chunk with `count` bytes of payload
abbrev pub chunk_head : Bool → ℕ → ℕ → ℕ → List ℕ
chunk_head done kind cookie count = bytes32 chunk_magic ++ (bytes16 (flag_of_last done) ++ (bytes16 kind ++ (bytes64 cookie ++ bytes32 count)))

-- NONE, the last chunk of a reply
abbrev pub none_chunk : ℕ → List ℕ
none_chunk cookie = chunk_head true 0 cookie 0

-- OFFSET_DATA: bytes of the export from an offset on
abbrev pub data_chunk : Bool → ℕ → ℕ → List ℕ → List ℕ
data_chunk done cookie offset content = chunk_head done 1 cookie (8 + length content) ++ (bytes64 offset ++ content)

-- OFFSET_HOLE: `count` bytes of the export from an offset on are zeros
abbrev pub hole_chunk : Bool → ℕ → ℕ → ℕ → List ℕ
hole_chunk done cookie offset count = chunk_head done 2 cookie 12 ++ (bytes64 offset ++ bytes32 count)

-- BLOCK_STATUS, the last chunk of a reply: the extent descriptors of the only context, whose number is 1
abbrev pub status_chunk : ℕ → List ℕ → List ℕ
status_chunk cookie told = chunk_head true 5 cookie (4 + length told) ++ (bytes32 1 ++ told)

-- an error number, the length of its message, and the message
abbrev pub error_told : RequestError → List ℕ → List ℕ
error_told error text = bytes32 (error_number error) ++ (bytes16 (length text) ++ text)

-- ERROR, the last chunk of a reply
abbrev pub error_chunk : ℕ → RequestError → List ℕ → List ℕ
error_chunk cookie error text = chunk_head true 0x8001 cookie (6 + length text) ++ error_told error text

-- ERROR_OFFSET, the last chunk of a reply: the error occurs at that byte
abbrev pub error_at_chunk : ℕ → ℕ → RequestError → List ℕ → List ℕ
error_at_chunk cookie offset error text = chunk_head true 0x8002 cookie (14 + length text) ++ (error_told error text ++ bytes64 offset)
