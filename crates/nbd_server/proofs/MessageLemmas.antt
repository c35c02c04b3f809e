-- Messages as they are taken and answered.
use Rattle.std.proofs.Common.{◌≡◌, ◌≢◌, ◌<◌, ◌≤◌, ℕ, ◌/◌, List, [], ◌∷◌, ◌++◌, length, refl, ap, sym, ◌∙◌, subst, append-nil, inl, inr, Option, Some, None, Result, Ok, Err, arith}
use Rattle.std.specs.Prelude.{◌⊎◌, nat_lt, ◌||◌, ◌&&◌, All, Bool, true, false, is_some, not, take, codes, ◌==◌, if◌then◌else◌}
use Rattle.std.specs.Io.KnownBytes.{Appends, Consumes, Keeps}
use Rattle.std.specs.Str.{bytes_eq}
use Rattle.std.proofs.KnownBytes.{Appends-nil, Appends-kept, Consumes-nil, Consumes-trans, Keeps-refl}
use Rattle.std.proofs.lemmas.Bool.{eqb-true}
use Rattle.std.proofs.lemmas.List.Elements.{All-get_or}
use Rattle.std.proofs.lemmas.List.Quantifiers.{position-Some}
use Rattle.std.proofs.lemmas.Slice.Eq.{bytes_eq-Decides}
use Rattle.request_queue.specs.World.{World}
use Rattle.program_io.specs.Counted.{Grows}
use Rattle.program_io.specs.Streams.{Streams, streams}
use Rattle.nbd_protocol.specs.declared.fault.ServiceFault.{ServiceFault}
use Rattle.nbd_protocol.specs.declared.fault.ServiceFault.TheVariants as fault
use Rattle.nbd_protocol.specs.declared.phase.Terms.{Terms}
use Rattle.nbd_protocol.specs.declared.phase.Agreement.{Agreement}
use Rattle.nbd_protocol.specs.declared.phase.Phase.{Phase}
use Rattle.nbd_protocol.specs.declared.phase.Phase.TheVariants.{Greeted, Haggling, Serving, Over}
use Rattle.nbd_protocol.specs.declared.header.Header.{Header}
use Rattle.nbd_protocol.specs.Numbers.{big_endian32}
use Rattle.nbd_protocol.specs.Exports.{ExportRecord, HasShortName, asked, export_at, most_name, no_export, export_place}
use Rattle.nbd_protocol.specs.Handshake.{answer_to, answer_to_long, most_data, names_export, phase_after, phase_after_long}
use Rattle.nbd_protocol.specs.Headers.{command_of, header_of, is_chunked, payload_len, request_magic}
use Rattle.nbd_server.specs.Causes.{Breaks, IsMessageCut, IsCutWithin, IsNaming}
use Rattle.nbd_protocol.specs.Streaming.{IsShort, Spoken, Stops, TakesInto}
use Rattle.nbd_server.specs.Replies.{RequestOutcome, agreed_reply}
use Rattle.nbd_server.specs.Tallies.{moved_bytes}
use Rattle.nbd_server.specs.Transmission.{ServesRequest}
use Rattle.nbd_server.specs.Delivery.{DeliversAs, IsStuck, bytes_asked, delivery_of, has_df}
use Rattle.nbd_server.specs.declared.delivery.Delivery.{Delivery}
use Rattle.nbd_server.specs.Service.{EndsReply, AnswersOption, BeginsRequest, IsTooLong, IsAnswered, IsExportUnnamed, IsNameUnread, GivesReply, TakesOption, TakesRequest, CountsMessage, EndsMessage, EndsTurn, request_fault, request_log}
use Rattle.nbd_server.specs.Logs.{logged, outcome_fault}
use Rattle.nbd_server.specs.declared.known_faults.SectorFault.{SectorFault}
use Rattle.nbd_server.specs.declared.session_log.SessionLog.{SessionLog}

-- what came of a message that the service ends in
broken : (es : List ExportRecord) (phase : Phase) (w w' : World) (old new : Streams) (x : ServiceFault) → w' ≡ w → (part : List ℕ) → Consumes old.input new.input part → Keeps old.output new.output → Breaks es phase part new.input x
    → Spoken old new (λ taken written. (written ≡ []) × (w' ≡ w) × Breaks es phase taken new.input x)
broken es phase w w' old new x same part c k cause = record {
  taken = part;
  written = [];
  consumed = c;
  appended = Appends-kept old.output old.output new.output [] (Appends-nil old.output) k;
  holds = (refl, same, cause);
}

pub turns-fault : (es : List ExportRecord) (phase : Phase) (w w' : World) (old new : Streams) (x : ServiceFault) → w' ≡ w → (part : List ℕ) → Consumes old.input new.input part → Keeps old.output new.output → Breaks es phase part new.input x
    → EndsMessage es phase w w' old new (Err x)
turns-fault es phase w w' old new fault.Lost same part c k cause = broken es phase w w' old new fault.Lost same part c k cause
turns-fault es phase w w' old new fault.Magic same part c k cause = broken es phase w w' old new fault.Magic same part c k cause
turns-fault es phase w w' old new fault.Flags same part c k cause = broken es phase w w' old new fault.Flags same part c k cause
turns-fault es phase w w' old new fault.NoSuchExport same part c k cause = broken es phase w w' old new fault.NoSuchExport same part c k cause
turns-fault es phase w w' old new fault.TooManyOptions same part c k cause = broken es phase w w' old new fault.TooManyOptions same part c k cause
turns-fault es phase w w' old new fault.ReadFault same part c k cause = broken es phase w w' old new fault.ReadFault same part c k cause
turns-fault es phase w w' old new fault.WriteFault same part c k cause = absurd cause

-- a message that began and didn't end, or didn't begin
cut-breaks : (es : List ExportRecord) (phase : Phase) (rest : List ℕ) (input : Option (List ℕ)) (x : ServiceFault) → Stops input x → (x ≡ fault.Lost → IsMessageCut phase rest) → (rest ≡ []) ⊎ IsMessageCut phase rest → Breaks es phase rest input x
cut-breaks es phase rest input fault.Lost stops lost failed = (lost refl, stops)
cut-breaks es phase rest input fault.Magic stops lost failed = absurd stops
cut-breaks es phase rest input fault.Flags stops lost failed = absurd stops
cut-breaks es phase rest input fault.NoSuchExport stops lost failed = absurd stops
cut-breaks es phase rest input fault.TooManyOptions stops lost failed = absurd stops
cut-breaks es phase rest input fault.ReadFault stops lost failed = failed
cut-breaks es phase rest input fault.WriteFault stops lost failed = absurd stops

module _ (es : List ExportRecord) (phase : Phase) (size : ℕ) (within : (rest : List ℕ) → IsCutWithin size rest → IsMessageCut phase rest) where
  begun : (rest : List ℕ) → length rest < size → (rest ≡ []) ⊎ IsMessageCut phase rest
  begun [] few = inl refl
  begun (byte ∷ more) few = inr (within (byte ∷ more) (omega arith, few))

  -- the header wasn't whole
  pub header-cut : (w : World) (input input' output : Option (List ℕ)) (x : ServiceFault) (n : ℕ) → n ≡ size → (short : IsShort n input input' x) × (x ≡ fault.Lost → 0 < length short.part)
      → EndsMessage es phase w w (streams input output) (streams input' output) (Err x)
  header-cut w input input' output x n is p =
      let few : length p.0.part < size = omega (arith, p.0.few, is) in
      turns-fault es phase w w (streams input output) (streams input' output) x refl p.0.part p.0.consumed (Keeps-refl output)
      (cut-breaks es phase p.0.part input' x p.0.cause (λ lost. within p.0.part (p.1 lost, few)) (begun p.0.part few))

pub flags-unlike : (es : List ExportRecord) (w : World) (input input' output : Option (List ℕ)) (bytes : List ℕ) → Consumes input input' bytes → length bytes ≡ 4 → 4 ≤ big_endian32 bytes 0
    → EndsMessage es Greeted w w (streams input output) (streams input' output) (Err fault.Flags)
flags-unlike es w input input' output bytes c size other = turns-fault es Greeted w w (streams input output) (streams input' output) fault.Flags refl bytes c (Keeps-refl output) (size, other)

-- ---- options

-- an option without a reply is no end of the reader
unanswered : (Is : List ℕ → Phase → Type 0) (Ends : ServiceFault → Type 0) (old new : Option (List ℕ)) → (Ends fault.ReadFault → ⊥) → (x : ServiceFault) → EndsReply Is Ends old new (Err x) → Some x ≢ Some fault.ReadFault
unanswered Is Ends old new none fault.Lost k is = cc
unanswered Is Ends old new none fault.Magic k is = cc
unanswered Is Ends old new none fault.Flags k is = cc
unanswered Is Ends old new none fault.NoSuchExport k is = cc
unanswered Is Ends old new none fault.TooManyOptions k is = cc
unanswered Is Ends old new none fault.ReadFault k is = none k.1
unanswered Is Ends old new none fault.WriteFault k is = cc

other-name : fault.ReadFault ≡ fault.NoSuchExport → ⊥
other-name is = cc

pub unread-writing : (Is : List ℕ → Phase → Type 0) (option count : ℕ) (old new : Option (List ℕ)) (x : ServiceFault) → EndsReply Is (IsNameUnread option count) old new (Err x) → Some x ≢ Some fault.ReadFault
unread-writing Is option count old new x k = unanswered Is (IsNameUnread option count) old new (λ p. other-name p.0) x k

pub unnamed-writing : (Is : List ℕ → Phase → Type 0) (es : List ExportRecord) (option : ℕ) (content : List ℕ) (old new : Option (List ℕ)) (x : ServiceFault) → EndsReply Is (IsExportUnnamed es option content) old new (Err x) → Some x ≢ Some fault.ReadFault
unnamed-writing Is es option content old new x k = unanswered Is (IsExportUnnamed es option content) old new (λ p. other-name p.0) x k

not-or : (asked named : Bool) → (not asked || named) ≡ false → (asked ≡ true) × (named ≡ false)
not-or true true h = let clash : true ≡ false = h in cc
not-or true false h = (refl, refl)
not-or false named h = let clash : true ≡ false = h in cc

both-left : (a b : Bool) → (a && b) ≡ true → a ≡ true
both-left true b h = refl
both-left false b h = let clash : false ≡ true = h in cc

no-place : (found : Option ℕ) → is_some found ≡ false → found ≡ None
no-place None h = refl
no-place (Some place) h = let clash : true ≡ false = h in cc

-- EXPORT_NAME of another
pub names-other : (es : List ExportRecord) (option : ℕ) (content : List ℕ) → names_export es option content ≡ false → (option ≡ 1) × (asked es content ≡ None)
names-other es option content h = let p = not-or (option == 1) (is_some (asked es content)) h in (eqb-true option 1 p.0, no-place (asked es content) p.1)

-- a name that is longer than any export's
pub long-name : (es : List ExportRecord) (name : List ℕ) → All HasShortName es → most_name < length name → asked es name ≡ None
unfolding asked
long-name es name short longer = go ((length name == 0) && nat_lt 0 (length es)) refl
  where
    apart : (found : Option ℕ) → export_place es name ≡ found → found ≡ None
    apart None is = refl
    apart (Some place) is =
        let p = position-Some (λ e. bytes_eq e.name name) es place no_export is in
        let equal = (bytes_eq-Decides (export_at es place).name name).0 p.1 in
        absurd (omega (arith, ap length equal, longer, All-get_or HasShortName es place no_export p.0 short))

    go : (is_first : Bool) → ((length name == 0) && nat_lt 0 (length es)) ≡ is_first → (if is_first then Some 0 else export_place es name) ≡ None
    go true is = absurd (omega (arith, eqb-true (length name) 0 (both-left (length name == 0) (nat_lt 0 (length es)) is), longer))
    go false is = apart (export_place es name) refl

-- what is replied to an option whose data are too long
pub too-long : (terms : Terms) (option count : ℕ) → most_data < count → option ≢ 1 → IsTooLong terms option count (answer_to_long option) (phase_after_long terms option)
too-long terms option count long other = record { long = long; other = other; reply_is = refl; next_is = refl }

-- and to one whose data are there
pub is-answered : (es : List ExportRecord) (terms : Terms) (option : ℕ) (content : List ℕ) → length content ≤ most_data → names_export es option content ≡ true
    → IsAnswered es terms option content (answer_to es terms option content) (phase_after es terms option content)
is-answered es terms option content short named = record { short = short; named = named; reply_is = refl; next_is = refl }

module _ (es : List ExportRecord) (terms : Terms) (w : World) (input mid input' : Option (List ℕ)) (header : List ℕ) (first : Consumes input mid header) (size : length header ≡ 16) where
  pub option-unlike : (output : Option (List ℕ)) → take 8 header ≢ codes "IHAVEOPT" → EndsMessage es (Haggling terms) w w (streams input output) (streams mid output) (Err fault.Magic)
  option-unlike output other = turns-fault es (Haggling terms) w w (streams input output) (streams mid output) fault.Magic refl header first (Keeps-refl output) (size, other)

  module _ (magic : take 8 header ≡ codes "IHAVEOPT") where
    -- no option is left
    pub option-over : (output : Option (List ℕ)) → terms.left ≡ 0 → EndsMessage es (Haggling terms) w w (streams input output) (streams mid output) (Err fault.TooManyOptions)
    option-over output none =
        turns-fault es (Haggling terms) w w (streams input output) (streams mid output) fault.TooManyOptions refl header first (Keeps-refl output) (record { size = size; magic = magic }, none)

  module _ (magic : take 8 header ≡ codes "IHAVEOPT") (allowed : 0 < terms.left) (output output' : Option (List ℕ)) where
    -- the client was lost in an option's data, or the reader failed there
    pub option-lost : (x : ServiceFault) → IsShort (big_endian32 header 12) mid input' x → EndsMessage es (Haggling terms) w w (streams input output) (streams input' output) (Err x)
    option-lost x s =
        let cut : IsMessageCut (Haggling terms) (header ++ s.part) = inr (record { header = header; part = s.part; rest_is = refl; is_header = record { size = size; magic = magic }; few = s.few }) in
        turns-fault es (Haggling terms) w w (streams input output) (streams input' output) x refl (header ++ s.part) (Consumes-trans input mid input' header s.part first s.consumed) (Keeps-refl output)
        (cut-breaks es (Haggling terms) (header ++ s.part) input' x s.cause (λ lost. cut) (inr cut))

    option-takes : (content : List ℕ) → length content ≡ big_endian32 header 12 → (next : Phase) (reply : List ℕ) → AnswersOption es terms (big_endian32 header 8) content reply next → TakesOption es terms (header ++ content) reply next
    option-takes content count next reply answered = record { header = header; content = content; allowed = allowed; message_is = refl; size = size; magic = magic; count = count; answered = answered }

    option-answered : (content : List ℕ) → Consumes mid input' content → length content ≡ big_endian32 header 12 → (next : Phase) (reply : List ℕ) → AnswersOption es terms (big_endian32 header 8) content reply next → Appends output output' reply
        → EndsMessage es (Haggling terms) w w (streams input output) (streams input' output') (Ok (Some next))
    option-answered content c count next reply answered a = record {
      taken = header ++ content;
      written = reply;
      consumed = Consumes-trans input mid input' header content first c;
      appended = a;
      holds = (option-takes content count next reply answered, refl);
    }

    -- it has no reply, or the writer failed in that
    pub option-ends : (content : List ℕ) → Consumes mid input' content → length content ≡ big_endian32 header 12 → (Is : List ℕ → Phase → Type 0) (Ends : ServiceFault → Type 0) (x : ServiceFault)
        → ((reply : List ℕ) (next : Phase) → Is reply next → AnswersOption es terms (big_endian32 header 8) content reply next) → (Ends x → Breaks es (Haggling terms) (header ++ content) input' x)
        → EndsReply Is Ends output output' (Err x) → EndsMessage es (Haggling terms) w w (streams input output) (streams input' output') (Err x)
    option-ends content c count Is Ends fault.Lost answers breaks k = turns-fault es (Haggling terms) w w (streams input output) (streams input' output') fault.Lost refl (header ++ content) (Consumes-trans input mid input' header content first c) k.0 (breaks k.1)
    option-ends content c count Is Ends fault.Magic answers breaks k = turns-fault es (Haggling terms) w w (streams input output) (streams input' output') fault.Magic refl (header ++ content) (Consumes-trans input mid input' header content first c) k.0 (breaks k.1)
    option-ends content c count Is Ends fault.Flags answers breaks k = turns-fault es (Haggling terms) w w (streams input output) (streams input' output') fault.Flags refl (header ++ content) (Consumes-trans input mid input' header content first c) k.0 (breaks k.1)
    option-ends content c count Is Ends fault.NoSuchExport answers breaks k = turns-fault es (Haggling terms) w w (streams input output) (streams input' output') fault.NoSuchExport refl (header ++ content) (Consumes-trans input mid input' header content first c) k.0 (breaks k.1)
    option-ends content c count Is Ends fault.TooManyOptions answers breaks k = turns-fault es (Haggling terms) w w (streams input output) (streams input' output') fault.TooManyOptions refl (header ++ content) (Consumes-trans input mid input' header content first c) k.0 (breaks k.1)
    option-ends content c count Is Ends fault.ReadFault answers breaks k = turns-fault es (Haggling terms) w w (streams input output) (streams input' output') fault.ReadFault refl (header ++ content) (Consumes-trans input mid input' header content first c) k.0 (breaks k.1)
    option-ends content c count Is Ends fault.WriteFault answers breaks k = inl (record {
      message = header ++ content;
      reply = k.0;
      next = k.1;
      consumed = Consumes-trans input mid input' header content first c;
      takes = (option-takes content count k.1 k.0 (answers k.0 k.1 k.2), refl);
    })

    naming : (name : List ℕ) → length name ≡ big_endian32 header 12 → big_endian32 header 8 ≡ 1 → IsNaming (header ++ name) name
    naming name count option = record { header = header; rest_is = refl; is_header = record { size = size; magic = magic }; option = option; count = count }

    -- a name that is another's
    pub unnamed-breaks : (content : List ℕ) → length content ≡ big_endian32 header 12 → (option : ℕ) → option ≡ big_endian32 header 8 → (x : ServiceFault) → IsExportUnnamed es option content x
        → Breaks es (Haggling terms) (header ++ content) input' x
    unnamed-breaks content count option is x p = subst (Breaks es (Haggling terms) (header ++ content) input') (sym p.0) (content, naming content count (sym is ∙ p.1), p.2)

    -- a name that is too long
    pub unread-breaks : All HasShortName es → (content : List ℕ) → length content ≡ big_endian32 header 12 → (option n : ℕ) → option ≡ big_endian32 header 8 → n ≡ big_endian32 header 12 → (x : ServiceFault) → IsNameUnread option n x
        → Breaks es (Haggling terms) (header ++ content) input' x
    unread-breaks short content count option n is same x p =
        subst (Breaks es (Haggling terms) (header ++ content) input') (sym p.0) (content, naming content count (sym is ∙ p.1), long-name es content short (omega (arith, p.2, count, same)))

    -- an option whose data are there
    pub option-told : (content : List ℕ) → TakesInto (Some content) (big_endian32 header 12) mid input' → (next : Phase) (Ends : ServiceFault → Type 0) → EndsReply (IsAnswered es terms (big_endian32 header 8) content) Ends output output' (Ok next)
        → EndsMessage es (Haggling terms) w w (streams input output) (streams input' output') (Ok (Some next))
    option-told content t next Ends a =
        option-answered content (subst (λ l. Consumes mid input' l) (sym t.kept) t.takes.consumed) (ap length t.kept ∙ t.takes.count) next a.0 (inl a.1) a.2

    -- one whose data are too long
    pub option-refused : TakesInto None (big_endian32 header 12) mid input' → (next : Phase) (Ends : ServiceFault → Type 0) → EndsReply (IsTooLong terms (big_endian32 header 8) (big_endian32 header 12)) Ends output output' (Ok next)
        → EndsMessage es (Haggling terms) w w (streams input output) (streams input' output') (Ok (Some next))
    option-refused t next Ends a =
        let room = subst (λ n. IsTooLong terms (big_endian32 header 8) n a.0 next) (sym t.takes.count) a.1 in
        option-answered t.takes.bytes t.takes.consumed t.takes.count next a.0 (inr room) a.2

-- ---- requests

-- what is answered piece by piece is answered by chunks
delivery-chunked : (e : ExportRecord) (agreed : Agreement) (h : Header) (d : Delivery) → delivery_of e agreed h ≡ Some d → is_chunked agreed h ≡ true
delivery-chunked e agreed h d found = go (is_chunked agreed h) (not (has_df h)) (bytes_asked h.cookie (command_of e agreed h)) found
  where
    go : (chunked whole : Bool) (asked : Option Delivery) → (if chunked && whole then asked else None) ≡ Some d → chunked ≡ true
    go true whole asked is = refl
    go false whole asked is = let clash : None ≡ Some d = is in cc

-- and no bytes follow it
chunked-payload : (agreed : Agreement) (h : Header) → is_chunked agreed h ≡ true → 0 ≡ payload_len h
chunked-payload agreed h is = go agreed.structured (h.kind == 1) refl is
  where
    none : (k : ℕ) → k ≡ 1 → ((k == 0) || (k == 7)) ≡ true → ⊥
    none k one is = let clash : false ≡ true = subst (λ (n : ℕ). ((n == 0) || (n == 7)) ≡ true) one is in cc

    go : (structured write : Bool) → (h.kind == 1) ≡ write → (structured && ((h.kind == 0) || (h.kind == 7))) ≡ true → 0 ≡ (if write then h.length else 0)
    go structured false at chunked = refl
    go false true at chunked = let clash : false ≡ true = chunked in cc
    go true true at chunked = absurd (none h.kind (eqb-true h.kind 1 at) chunked)

pub request-unlike : (es : List ExportRecord) (agreed : Agreement) (w : World) (input input' output : Option (List ℕ)) (header : List ℕ) → Consumes input input' header → length header ≡ 28 → big_endian32 header 0 ≢ request_magic
    → EndsMessage es (Serving agreed) w w (streams input output) (streams input' output) (Err fault.Magic)
request-unlike es agreed w input input' output header c size other = turns-fault es (Serving agreed) w w (streams input output) (streams input' output) fault.Magic refl header c (Keeps-refl output) (size, other)

module _ (es : List ExportRecord) (agreed : Agreement) (e : ExportRecord) (at : export_at es agreed.place ≡ e) (w w' : World) (input mid input' : Option (List ℕ)) (header : List ℕ) (first : Consumes input mid header) (size : length header ≡ 28) (magic : big_endian32 header 0 ≡ request_magic) where
  -- the client was lost in the bytes of a write, or the reader failed there
  pub request-lost : (output : Option (List ℕ)) (x : ServiceFault) → IsShort (payload_len (header_of header)) mid input' x × (w' ≡ w) → EndsMessage es (Serving agreed) w w' (streams input output) (streams input' output) (Err x)
  request-lost output x p =
      let cut : IsMessageCut (Serving agreed) (header ++ p.0.part) = inr (record { header = header; part = p.0.part; rest_is = refl; is_header = record { size = size; magic = magic }; few = p.0.few }) in
      turns-fault es (Serving agreed) w w' (streams input output) (streams input' output) x p.1 (header ++ p.0.part) (Consumes-trans input mid input' header p.0.part first p.0.consumed) (Keeps-refl output)
      (cut-breaks es (Serving agreed) (header ++ p.0.part) input' x p.0.cause (λ lost. cut) (inr cut))

  -- it was taken, and has that reply
  request-takes : (found : Option Delivery) → delivery_of e agreed (header_of header) ≡ found → (header_of header).kind ≢ 2 → (payload reply : List ℕ) → length payload ≡ payload_len (header_of header)
      → GivesReply e agreed w (header_of header) payload found reply w' → TakesRequest (export_at es agreed.place) agreed w (header ++ payload) reply (Serving agreed) w'
  request-takes found is other payload reply count replies = subst (λ x. TakesRequest x agreed w (header ++ payload) reply (Serving agreed) w') (sym at) (record {
    header = header;
    payload = payload;
    message_is = refl;
    size = size;
    magic = magic;
    count = count;
    answered = inr (other, record { replies = subst (λ (f : Option Delivery). GivesReply e agreed w (header_of header) payload f reply w') (sym is) replies; next_is = refl });
  })

  -- a reply that reports a fault, or none
  abbrev GivesAs : Option SectorFault → List ℕ → List ℕ → Option Delivery → Type 0
  GivesAs met payload reply found =
      (replies : GivesReply e agreed w (header_of header) payload found reply w') × (met ≡ request_fault e agreed w (header_of header) payload found reply w' replies)

  -- it was taken, has that reply, and is counted
  request-counts : (t : SessionLog) (n : ℕ) → n ≡ moved_bytes (command_of e agreed (header_of header)) → (met : Option SectorFault) (found : Option Delivery) → delivery_of e agreed (header_of header) ≡ found → (header_of header).kind ≢ 2 → (payload reply : List ℕ) → length payload ≡ payload_len (header_of header)
      → GivesAs met payload reply found → CountsMessage es (Serving agreed) w t (logged agreed.place n met t) (Serving agreed) w' (header ++ payload) reply
  request-counts t n size_is met found is other payload reply count replies =
      let given = subst (λ (f : Option Delivery). GivesAs met payload reply f) (sym is) replies in
      subst
      (λ (x : ExportRecord). (takes : TakesRequest x agreed w (header ++ payload) reply (Serving agreed) w')
      × (logged agreed.place n met t ≡ request_log x agreed w takes.header takes.payload reply (Serving agreed) w' takes.answered t))
      (sym at) (
        record {
          header = header;
          payload = payload;
          message_is = refl;
          size = size;
          magic = magic;
          count = count;
          answered = inr (other, record { replies = given.0; next_is = refl });
        },
        ap (λ (m : Option SectorFault). logged agreed.place n m t) given.1 ∙ ap (λ (k : ℕ). logged agreed.place k (request_fault e agreed w (header_of header) payload (delivery_of e agreed (header_of header)) reply w' given.0) t) size_is,
      )

  module _ (other : (header_of header).kind ≢ 2) (output output' : Option (List ℕ)) where
    request-answered : (t : SessionLog) (n : ℕ) → n ≡ moved_bytes (command_of e agreed (header_of header)) → (met : Option SectorFault) (found : Option Delivery) → delivery_of e agreed (header_of header) ≡ found → (payload reply : List ℕ) → length payload ≡ payload_len (header_of header) → Consumes mid input' payload
        → GivesAs met payload reply found → Appends output output' reply → EndsTurn es (Serving agreed) w w' t (logged agreed.place n met t) (streams input output) (streams input' output') (Ok (Some (Serving agreed)))
    request-answered t n size_is met found is payload reply count c replies a = record {
      taken = header ++ payload;
      written = reply;
      consumed = Consumes-trans input mid input' header payload first c;
      appended = a;
      holds = request-counts t n size_is met found is other payload reply count replies;
    }

    -- and the writer failed in its reply
    unanswered-request : (found : Option Delivery) → delivery_of e agreed (header_of header) ≡ found → (payload reply : List ℕ) → length payload ≡ payload_len (header_of header) → Consumes mid input' payload
        → GivesReply e agreed w (header_of header) payload found reply w' → EndsMessage es (Serving agreed) w w' (streams input output) (streams input' output') (Err fault.WriteFault)
    unanswered-request found is payload reply count c replies = inl (record {
      message = header ++ payload;
      reply = reply;
      next = Serving agreed;
      consumed = Consumes-trans input mid input' header payload first c;
      takes = request-takes found is other payload reply count replies;
    })

    module _ (outcome : RequestOutcome) (none : delivery_of e agreed (header_of header) ≡ None) where
      pub request-served : (t : SessionLog) (n : ℕ) → n ≡ moved_bytes (command_of e agreed (header_of header)) → (payload : List ℕ) × (length payload ≡ payload_len (header_of header)) × Consumes mid input' payload × ServesRequest e agreed w (header_of header) payload outcome w'
          → Appends output output' (agreed_reply agreed (header_of header) outcome) → EndsTurn es (Serving agreed) w w' t (logged agreed.place n (outcome_fault outcome) t) (streams input output) (streams input' output') (Ok (Some (Serving agreed)))
      request-served t n size_is p a = request-answered t n size_is (outcome_fault outcome) None none p.0 (agreed_reply agreed (header_of header) outcome) p.1 p.2 ((outcome, p.3, refl), refl) a

      pub request-unanswered : (payload : List ℕ) × (length payload ≡ payload_len (header_of header)) × Consumes mid input' payload × ServesRequest e agreed w (header_of header) payload outcome w'
          → EndsMessage es (Serving agreed) w w' (streams input output) (streams input' output') (Err fault.WriteFault)
      request-unanswered p = unanswered-request None none p.0 (agreed_reply agreed (header_of header) outcome) p.1 p.2 (outcome, p.3, refl)

    -- it is answered piece by piece: no bytes follow it
    module _ (d : Delivery) (found : delivery_of e agreed (header_of header) ≡ Some d) (same : input' ≡ mid) where
      nothing : Consumes mid input' []
      nothing = subst (λ (x : Option (List ℕ)). Consumes mid x []) (sym same) (Consumes-nil mid)

      no-payload : 0 ≡ payload_len (header_of header)
      no-payload = chunked-payload agreed (header_of header) (delivery-chunked e agreed (header_of header) d found)

      pub request-delivered : (t : SessionLog) (n : ℕ) → n ≡ moved_bytes (command_of e agreed (header_of header)) → (met : Option SectorFault) → Grows output output' (λ reply. DeliversAs e d w met reply w') → EndsTurn es (Serving agreed) w w' t (logged agreed.place n met t) (streams input output) (streams input' output') (Ok (Some (Serving agreed)))
      request-delivered t n size_is met p = request-answered t n size_is met (Some d) found [] p.text no-payload nothing p.holds p.written

      pub request-stuck : IsStuck e d w w' → EndsMessage es (Serving agreed) w w' (streams input output) (streams input' output') (Err fault.WriteFault)
      request-stuck (inl begun) = inr (record {
        message = header;
        consumed = subst (λ (x : Option (List ℕ)). Consumes input x header) (sym same) first;
        begins = subst (λ x. BeginsRequest x agreed w header w') (sym at) (record { delivery = d; size = size; magic = magic; asks = found; begun = begun });
      })
      request-stuck (inr p) = unanswered-request (Some d) found [] p.0 no-payload nothing p.1

last-payload : (h : Header) → h.kind ≡ 2 → 0 ≡ payload_len h
last-payload h kind = sym (ap (λ (k : ℕ). if k == 1 then h.length else 0) kind)

pub request-last : (es : List ExportRecord) (agreed : Agreement) (w : World) (t : SessionLog) (input input' output : Option (List ℕ)) (header : List ℕ) → Consumes input input' header → length header ≡ 28 → big_endian32 header 0 ≡ request_magic → (header_of header).kind ≡ 2
    → EndsTurn es (Serving agreed) w w t t (streams input output) (streams input' output) (Ok (Some Over))
request-last es agreed w t input input' output header c size magic kind = record {
  taken = header;
  written = [];
  consumed = c;
  appended = Appends-nil output;
  holds = (
    record {
      header = header;
      payload = [];
      message_is = sym (append-nil header);
      size = size;
      magic = magic;
      count = last-payload (header_of header) kind;
      answered = inl (record { kind = kind; silent = refl; next_is = refl; same = refl });
    },
    refl,
  );
}

-- ---- messages that aren't counted

pub flags-uncounted : (es : List ExportRecord) (w w' : World) (t : SessionLog) (old new : Streams) (result : Result (Option Phase) ServiceFault) → EndsMessage es Greeted w w' old new result → EndsTurn es Greeted w w' t t old new result
flags-uncounted es w w' t old new (Ok (Some next)) m = record { taken = m.taken; written = m.written; consumed = m.consumed; appended = m.appended; holds = (m.holds, refl) }
flags-uncounted es w w' t old new (Ok None) m = (m, refl)
flags-uncounted es w w' t old new (Err fault) m = (m, refl)

pub option-uncounted : (es : List ExportRecord) (terms : Terms) (w w' : World) (t : SessionLog) (old new : Streams) (result : Result (Option Phase) ServiceFault) → EndsMessage es (Haggling terms) w w' old new result
    → EndsTurn es (Haggling terms) w w' t t old new result
option-uncounted es terms w w' t old new (Ok (Some next)) m = record { taken = m.taken; written = m.written; consumed = m.consumed; appended = m.appended; holds = (m.holds, refl) }
option-uncounted es terms w w' t old new (Ok None) m = (m, refl)
option-uncounted es terms w w' t old new (Err fault) m = (m, refl)
