-- The reply to a request: a simple reply, or chunks if structured replies are agreed on.
use Rattle.std.specs.Prelude.{ℕ, List, [], ◌∷◌, ◌++◌, ◌==◌, Bool, true, false, Result, Ok, Err, if◌then◌else◌}
use Rattle.nbd_protocol.specs.Headers.{error_number, is_chunked}
use Rattle.nbd_protocol.specs.Numbers.{bytes32, bytes64}
use Rattle.nbd_protocol.specs.declared.header.Header.{Header}
use Rattle.nbd_protocol.specs.declared.phase.Agreement.{Agreement}
use Rattle.nbd_server.specs.declared.failure.Failure.{Failure}
use Rattle.nbd_server.specs.Failures.{failure_text, reported_error}
use Rattle.nbd_protocol.specs.Chunks.{data_chunk, error_chunk, none_chunk, status_chunk}

-- the bytes that answer a request, or why it isn't done
abbrev pub RequestOutcome : Type 0
RequestOutcome = Result (List ℕ) Failure

-- the header of a simple reply
abbrev pub simple_head : ℕ → ℕ → List ℕ
simple_head error cookie = bytes32 0x67446698 ++ (bytes32 error ++ bytes64 cookie)

-- a simple reply with the request's cookie
abbrev pub simple_reply : ℕ → RequestOutcome → List ℕ
simple_reply cookie (Ok content) = bytes32 0x67446698 ++ (bytes32 0 ++ (bytes64 cookie ++ content))
simple_reply cookie (Err error) = simple_head (error_number (reported_error error)) cookie

-- the chunk that answers a READ: data, or NONE if there are no bytes
abbrev pub read_chunk : Header → List ℕ → List ℕ
read_chunk h [] = none_chunk h.cookie
read_chunk h (byte ∷ more) = data_chunk true h.cookie h.offset (byte ∷ more)

-- the chunk that answers a READ or a BLOCK_STATUS
abbrev pub content_chunk : Header → List ℕ → List ℕ
content_chunk h content = if h.kind == 7 then status_chunk h.cookie content else read_chunk h content

-- a reply that is one chunk: the bytes or the error
abbrev pub chunked_reply : Header → RequestOutcome → List ℕ
chunked_reply h (Ok content) = content_chunk h content
chunked_reply h (Err error) = error_chunk h.cookie (reported_error error) (failure_text error)

abbrev pub reply_by : Bool → Header → RequestOutcome → List ℕ
reply_by true h outcome = chunked_reply h outcome
reply_by false h outcome = simple_reply h.cookie outcome

-- the reply in the form that is agreed on
abbrev pub agreed_reply : Agreement → Header → RequestOutcome → List ℕ
agreed_reply a h outcome = reply_by (is_chunked a h) h outcome
