-- A whole session: the lines of an input, and the replies to them in order. How one line is replied to is a parameter,
-- `replies`: in the first state the line may get the reply, and leave the second state.
use Rattle.std.specs.Global.{Global}
use Rattle.std.specs.Prelude.{◌≡◌, ◌≢◌, ◌≤◌, ◌<◌, ◌+◌, ◌⊎◌, true, false, ℕ, List, [], ◌∷◌, ◌++◌, length, take, All, flat_map, Option, Result, Err, OnOk, OnErr, IsErrOf, Vec}
use Rattle.std.specs.Io.KnownBytes.{Consumes, IsAtEnd}
use Rattle.allocation.specs.Refusal.{IsOutOfMemory}
use Rattle.block_device.specs.Device.{capped}
use Rattle.stack_session.specs.declared.fault.SessionFault.{SessionFault}
use Rattle.stack_session.specs.declared.fault.SessionFault.TheVariants.{TooLong, ReadFault, WriteFault, NoMemory}
use Rattle.stack_session.specs.declared.lines.TheConstants.{LIMIT}
use Rattle.program_io.specs.declared.fault.WriteFault.{WriteFault as WriterFailed}
use Rattle.program_io.specs.Counted.{CountedRecord, Grows, Writes}
use Rattle.program_io.specs.Streams.{Streams, streams}

-- a text with its newline
abbrev pub ended : List ℕ → List ℕ
ended line = line ++ 10 ∷ []

abbrev pub IsOneLine : List ℕ → Type 0
IsOneLine bytes = All (λ byte. byte ≢ 10) bytes

-- the input is these whole lines, each with its newline, and then a rest that has none
pub record Splits (input : List ℕ) (whole : List (List ℕ)) (rest : List ℕ) : Type 0 where
  pub joined : input ≡ flat_map ended whole ++ rest
  pub each : All IsOneLine whole
  pub open_end : IsOneLine rest

-- how one line may be replied to
abbrev pub Replying : Type 0 → Type 1
Replying S = S → List ℕ → List ℕ → S → Type 0

-- the lines, served in order, may get these replies and leave the last state
abbrev pub ServesLines : {S : Type 0} → Replying S → S → List (List ℕ) → List (List ℕ) → S → Type 0
ServesLines {S} replies old [] [] new = new ≡ old
ServesLines {S} replies old (line ∷ lines) (reply ∷ more) new = (mid : S) × replies old line reply mid × ServesLines replies mid lines more new
ServesLines {S} replies old [] (reply ∷ more) new = ⊥
ServesLines {S} replies old (line ∷ lines) [] new = ⊥

-- the whole lines of the input were served, from the first state to `now`, and the output is their replies
pub record ServesWhole {S : Type 0} (replies : Replying S) (first : S) (input : List ℕ) (now : S) (rest output : List ℕ) : Type 0 where
  pub whole : List (List ℕ)
  pub texts : List (List ℕ)
  pub cut : Splits input whole rest
  pub run : ServesLines replies first whole texts now
  pub joined : output ≡ flat_map (λ text. text) texts

-- all lines of the input were served, including a last one without a newline
pub record ServesAll {S : Type 0} (replies : Replying S) (first : S) (input : List ℕ) (last : S) (output : List ℕ) : Type 0 where
  pub whole : List (List ℕ)
  pub rest : List ℕ
  pub texts : List (List ℕ)
  pub cut : Splits input whole rest
  pub run : ServesLines replies first (whole ++ rest ∷ []) texts last
  pub joined : output ≡ flat_map (λ text. text) texts

-- The first lines of the input were served, from the first state to the last, and these are their replies. The last of these
-- lines may lack its newline.
pub record ServesFront {S : Type 0} (replies : Replying S) (first : S) (input : List ℕ) (last : S) (output : List ℕ) : Type 0 where
  pub lines : List (List ℕ)
  pub texts : List (List ℕ)
  pub left : List ℕ
  pub cut : ended input ≡ flat_map ended lines ++ left
  pub each : All IsOneLine lines
  pub run : ServesLines replies first lines texts last
  pub joined : output ≡ flat_map (λ text. text) texts

-- a text of which P holds was written
abbrev pub AddsText : {T : Type 0} → (T → Option (List ℕ)) → CountedRecord T → CountedRecord T → (List ℕ → Type 0) → Type 0
AddsText contents old new P = Grows (contents old.inner) (contents new.inner) P

-- a text of which P holds was written and flushed
abbrev pub HandsOnText : {T : Type 0} → (T → Option (List ℕ)) → CountedRecord T → CountedRecord T → (List ℕ → Type 0) → Type 0
HandsOnText contents old new P = (new.pending ≡ false) × AddsText contents old new P

-- a reply of which P holds was written, or the writer failed in it
pub record WritesReply {T : Type 0} (contents : T → Option (List ℕ)) (old new : CountedRecord T) (P : List ℕ → Type 0) (result : Result Unit WriterFailed) : Type 0 where
  pub reply : List ℕ
  pub holds : P reply
  pub writes : Writes contents old new reply result

-- What was taken of the input, and what holds of it. If the input isn't known, these are some bytes.
pub record Taking (old new : Streams) (Is : List ℕ → Type 0) : Type 0 where
  pub taken : List ℕ
  pub consumed : Consumes old.input new.input taken
  pub holds : Is taken

-- all lines of a whole input were replied to, and the server is in the state that they left
pub record WritesAll {S : Type 0} (replies : Replying S) (first last : S) (old new : Streams) (input : List ℕ) : Type 0 where
  pub small : length input ≤ LIMIT
  pub at_end : IsAtEnd new.input
  pub written : Grows old.output new.output (ServesAll replies first input last)

-- the replies to the whole lines of the input were written, and the server is in the state that they left
abbrev pub WritesWholeLines : {S : Type 0} → Replying S → S → List ℕ → S → Streams → Streams → Type 0
WritesWholeLines replies first input last old new = (rest : List ℕ) × Grows old.output new.output (ServesWhole replies first input last rest)

-- the lines that were served when the writer failed in their replies, or memory ran out after them
pub record IsSessionStopped {T : Type 0} (old new : Option (List ℕ)) (Front : List ℕ → Type 0) (result : Result T SessionFault) : Type 0 where
  pub write_fault : IsErrOf result WriteFault → (output : List ℕ) × Front output
  pub no_memory : IsErrOf result NoMemory → Grows old new Front

-- how a session stopped, by a counted writer before and after
abbrev pub StopsWriting : {T A : Type 0} → (T → Option (List ℕ)) → CountedRecord T → CountedRecord T → (List ℕ → Type 0) → Result A SessionFault → Type 0
StopsWriting contents old new Front result = IsSessionStopped (contents old.inner) (contents new.inner) Front result

-- a piece was taken from what was left of the limit, and the part of a line that is kept stays within the limit
abbrev pub IsWithinLine : ℕ → List ℕ → List ℕ → ℕ → Type 0
IsWithinLine left piece rest after = (after + length piece ≡ left) × (length rest + after ≤ LIMIT)

-- no more is kept than there was
abbrev pub KeepsAtMost : List ℕ → List ℕ → List ℕ → Type 0
KeepsAtMost rest piece rest' = length rest' ≤ length rest + length piece

-- if the input is too long
abbrev pub OnTooLong : {A : Type 0} → Result A SessionFault → Type 0 → Type 0
OnTooLong result P = IsErrOf result TooLong → P

-- What a session read and wrote, from the first state of its server to the last, for some bytes that it took.
pub record IsSession {S : Type 0} (replies : Replying S) (first last : S) (old new : Streams) (result : Result Unit SessionFault) : Type 0 where
  -- all input was read and served, and the output is the replies
  pub ok : OnOk result (Taking old new (WritesAll replies first last old new))
  -- more than the limit was taken, and the replies to the whole lines within the limit are written
  pub too_long : IsErrOf result TooLong → Taking old new (λ taken. (LIMIT < length taken) × WritesWholeLines replies first (take LIMIT taken) last old new)
  -- the replies to the whole lines of what was taken are written; this isn't past the limit
  pub read_fault : IsErrOf result ReadFault → Taking old new (λ taken. (length taken ≤ LIMIT) × WritesWholeLines replies first taken last old new)
  -- the writer failed in the replies to the first lines, none of them past the limit, and the server is in the state that they
  -- left
  pub write_fault : IsErrOf result WriteFault → Taking old new (λ taken. (output : List ℕ) × ServesFront replies first (take LIMIT taken) last output)
  -- memory ran out after the first lines, and the output is their replies
  pub no_memory : IsErrOf result NoMemory → Taking old new (λ taken. Grows old.output new.output (ServesFront replies first (take LIMIT taken) last))

-- a session, by a counted reader and a counted writer, before and after
abbrev pub IsSessionOf : {S R W : Type 0} → Replying S → S → S → (R → Option (List ℕ)) → (W → Option (List ℕ)) → CountedRecord R → CountedRecord W → CountedRecord R → CountedRecord W → Result Unit SessionFault → Type 0
IsSessionOf replies first last remaining contents reader writer reader' writer' result =
    IsSession replies first last (streams (remaining reader.inner) (contents writer.inner)) (streams (remaining reader'.inner) (contents writer'.inner)) result

-- How a session ended, if neither its reader nor its writer had failed before.
pub record IsEnding {R W : Type 0} (reader reader' : CountedRecord R) (writer' : CountedRecord W) (result : Result Unit SessionFault) : Type 0 where
  -- no call failed
  pub ok : OnOk result ((reader'.failed ≡ false) × (writer'.failed ≡ false))
  -- the reader failed, or was called once for each byte of the limit and once more
  pub read_fault : IsErrOf result ReadFault → (reader'.failed ≡ true) ⊎ (capped (reader.calls + (LIMIT + 1)) ≤ reader'.calls)
  -- the writer failed
  pub write_fault : IsErrOf result WriteFault → writer'.failed ≡ true
  -- the reader is never called more often than this
  pub calls : reader'.calls ≤ reader.calls + (LIMIT + 1)
  -- an allocation of no more than the most bytes of input was refused
  pub memory : IsErrOf result NoMemory → IsOutOfMemory LIMIT
  -- unless the writer failed or memory ran out, each reply was flushed
  pub flushed : result ≢ Err WriteFault → result ≢ Err NoMemory → writer'.pending ≡ false

-- A failure of the writer is recorded, and nothing else is.
pub record IsRemembered {T W : Type 0} (old new : CountedRecord W) (result : Result T SessionFault) : Type 0 where
  pub kept : OnOk result (new.failed ≡ old.failed)
  pub failed : IsErrOf result WriteFault → new.failed ≡ true

-- the writer failed, or an allocation of no more than the most bytes of input was refused
abbrev pub IsStoppedIn : {T : Type 0} → Result T SessionFault → Type 0
IsStoppedIn result = OnErr result ((result ≡ Err WriteFault) ⊎ ((result ≡ Err NoMemory) × IsOutOfMemory LIMIT))

-- if the result is NoMemory, such an allocation was refused
abbrev pub IsRefusedIn : {T : Type 0} → Result T SessionFault → Type 0
IsRefusedIn result = IsErrOf result NoMemory → IsOutOfMemory LIMIT

-- the lines of what was kept and of more bytes were served, up to the call that failed
abbrev pub StopsLine : {S T A : Type 0} → Replying S → S → S → (T → Option (List ℕ)) → CountedRecord T → CountedRecord T → Vec ℕ Global → List ℕ → Result A SessionFault → Type 0
StopsLine replies first last contents old new rest more result = StopsWriting contents old new (ServesFront replies first (rest.items ++ more) last) result
