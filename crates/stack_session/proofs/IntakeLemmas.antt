-- What a session has taken from its reader.
use Rattle.std.proofs.Common.{◌≡◌, ℕ, ◌+◌, ◌<◌, ◌≤◌, List, [], ◌++◌, length, take, refl, sym, ◌∙◌, append-nil, arith, subst, length-append, Option}
use Rattle.std.specs.Prelude.{Result, Ok, Err, IsErrOf}
use Rattle.std.specs.Io.KnownBytes.{Consumes, Keeps, IsAtEnd}
use Rattle.std.proofs.KnownBytes.{Consumes-nil, Consumes-trans, Consumes-kept}
use Rattle.program_io.specs.Counted.{CountedRecord, Grows}
use Rattle.stack_session.specs.declared.fault.SessionFault.{SessionFault}
use Rattle.stack_session.specs.declared.fault.SessionFault.TheVariants.{WriteFault, NoMemory}
use Rattle.stack_session.specs.Session.{Replying, IsOneLine, IsSession, IsSessionStopped, ServesFront, ServesWhole, Taking, WritesAll, WritesReply, WritesWholeLines}
use Rattle.program_io.specs.Streams.{Streams}
use Rattle.stack_session.proofs.FrontLemmas.{front-one, front-then, front-whole, grows-then}
use Rattle.stack_session.proofs.SessionLemmas.{serves_nothing, serves_more, serves_end}
use Rattle.program_io.proofs.lemmas.CountedLemmas.{Grows-kept}
use Rattle.std.proofs.lemmas.List.Elements.{All-nil}
use Rattle.std.proofs.lemmas.List.{take_all}
use Rattle.std.proofs.Math.Seq.{take-append-add}

-- what was taken was served, and left bytes may still come
pub record Intake (old new : Streams) (left : ℕ) (Served : List ℕ → List ℕ → Type 0) : Type 0 where
  pub taken : List ℕ
  pub consumed : Consumes old.input new.input taken
  pub counted : length taken + left ≡ 16777216
  pub whole : Grows old.output new.output (Served taken)

pub intake_starts : {S : Type 0} (replies : Replying S) (first : S) (at : Streams) → Intake at at 16777216 (λ taken. ServesWhole replies first taken first [])
intake_starts replies first at = record {
  taken = [];
  consumed = Consumes-nil at.input;
  counted = refl;
  whole = serves_nothing replies first [] at.output (All-nil _);
}

-- one more piece
pub intake_more : {S : Type 0} {replies : Replying S} {first now : S} {left : ℕ} {rest : List ℕ} {old mid : Streams} (new : Streams) (after : ℕ) (next : S) (tail piece : List ℕ)
    → Intake old mid left (λ taken. ServesWhole replies first taken now rest) → Consumes mid.input new.input piece → after + length piece ≡ left
    → Grows mid.output new.output (ServesWhole replies now (rest ++ piece) next tail) → Intake old new after (λ taken. ServesWhole replies first taken next tail)
intake_more {old = old} {mid = mid} new after next tail piece r c n w = record {
  taken = r.taken ++ piece;
  consumed = Consumes-trans old.input mid.input new.input r.taken piece r.consumed c;
  counted = omega (arith, length-append r.taken piece, r.counted);
  whole = serves_more piece r.whole w;
}

-- nothing is taken, and what is kept back is handed on
pub intake_kept : {left : ℕ} {Served : List ℕ → List ℕ → Type 0} {old mid : Streams} (new : Streams)
    → Intake old mid left Served → Keeps mid.input new.input → Keeps mid.output new.output → Intake old new left Served
intake_kept {old = old} {mid = mid} new r input output = record {
  taken = r.taken;
  consumed = Consumes-kept old.input mid.input new.input r.taken r.consumed input;
  counted = r.counted;
  whole = Grows-kept new.output r.whole output;
}

-- what was taken isn't past the limit
within : {old mid : Streams} {left : ℕ} {Served : List ℕ → List ℕ → Type 0} (r : Intake old mid left Served) → take 16777216 r.taken ≡ r.taken
within r = take_all 16777216 r.taken (omega (arith, r.counted))

-- nothing more came
none-more : (a b c : Option (List ℕ)) (bs : List ℕ) → Consumes a b bs → Consumes b c [] → Consumes a c bs
none-more a b c bs p q = subst (λ l. Consumes a c l) (append-nil bs) (Consumes-trans a b c bs [] p q)

-- the input's end, and the reply to the line that it ends
pub intake_ends : {S : Type 0} {replies : Replying S} {first now : S} {left : ℕ} {rest : List ℕ} {old mid : Streams} (new : Streams) (last : S)
    → Intake old mid left (λ taken. ServesWhole replies first taken now rest) → Consumes mid.input new.input [] → IsAtEnd new.input
    → Grows mid.output new.output (λ reply. replies now rest reply last) → Taking old new (WritesAll replies first last old new)
intake_ends {old = old} {mid = mid} new last r c e w = record {
  taken = r.taken;
  consumed = none-more old.input mid.input new.input r.taken r.consumed c;
  holds = record { small = omega (arith, r.counted); at_end = e; written = serves_end last new.output r.whole w };
}

-- what is taken with a piece, up to the limit
front-of : {S : Type 0} {replies : Replying S} {first now : S} {left : ℕ} {rest : List ℕ} {old mid : Streams} (piece : List ℕ)
    → (r : Intake old mid left (λ taken. ServesWhole replies first taken now rest)) → take 16777216 (r.taken ++ piece) ≡ r.taken ++ take left piece
front-of {left = left} piece r = subst (λ n. take n (r.taken ++ piece) ≡ r.taken ++ take left piece) r.counted (take-append-add r.taken piece left)

-- a piece that goes past the limit
pub intake_too_long : {S : Type 0} {replies : Replying S} {first now : S} {left : ℕ} {rest : List ℕ} {old mid : Streams} (new : Streams) (last : S) (tail piece : List ℕ)
    → Intake old mid left (λ taken. ServesWhole replies first taken now rest) → Consumes mid.input new.input piece → left < length piece
    → Grows mid.output new.output (ServesWhole replies now (rest ++ take left piece) last tail)
    → Taking old new (λ taken. (16777216 < length taken) × WritesWholeLines replies first (take 16777216 taken) last old new)
intake_too_long {replies = replies} {first = first} {left = left} {old = old} {mid = mid} new last tail piece r c more w = record {
  taken = r.taken ++ piece;
  consumed = Consumes-trans old.input mid.input new.input r.taken piece r.consumed c;
  holds = (
    omega (arith, length-append r.taken piece, r.counted),
    (tail, subst (λ t. Grows old.output new.output (ServesWhole replies first t last tail)) (sym (front-of piece r)) (serves_more (take left piece) r.whole w)),
  );
}

-- the reader failed, or was called too often
pub intake_fails : {S : Type 0} {replies : Replying S} {first now : S} {left : ℕ} {rest : List ℕ} {old new : Streams}
    → Intake old new left (λ taken. ServesWhole replies first taken now rest) → Taking old new (λ taken. (length taken ≤ 16777216) × WritesWholeLines replies first taken now old new)
intake_fails {rest = rest} r = record { taken = r.taken; consumed = r.consumed; holds = (omega (arith, r.counted), (rest, r.whole)) }

-- ---- the writer failed, or memory ran out

-- the front that was served, whatever was written
abbrev pub Front : {S : Type 0} → Replying S → S → S → List ℕ → Type 0
Front replies first last taken = (output : List ℕ) × ServesFront replies first (take 16777216 taken) last output

-- the replies to whole lines can't be handed on
pub intake_stuck : {S : Type 0} {replies : Replying S} {first now : S} {left : ℕ} {rest : List ℕ} {old mid : Streams} (new : Streams)
    → Intake old mid left (λ taken. ServesWhole replies first taken now rest) → Consumes mid.input new.input [] → Taking old new (Front replies first now)
intake_stuck {replies = replies} {first = first} {now = now} {old = old} {mid = mid} new r c = record {
  taken = r.taken;
  consumed = none-more old.input mid.input new.input r.taken r.consumed c;
  holds = (r.whole.text, subst (λ t. ServesFront replies first t now r.whole.text) (sym (within r)) (front-whole r.whole.holds));
}

-- the reply to the last line can't be written
pub intake_unwritten : {S : Type 0} {replies : Replying S} {first now : S} {left : ℕ} {rest : List ℕ} {old mid : Streams} (new : Streams) (last : S) (reply : List ℕ)
    → Intake old mid left (λ taken. ServesWhole replies first taken now rest) → Consumes mid.input new.input [] → replies now rest reply last → Taking old new (Front replies first last)
intake_unwritten {replies = replies} {first = first} {now = now} {rest = rest} {old = old} {mid = mid} new last reply r c is =
    let one = front-one replies now last (rest ++ []) reply (subst IsOneLine (sym (append-nil rest)) r.whole.holds.cut.open_end) (subst (λ l. replies now l reply last) (sym (append-nil rest)) is) in
    let front = front-then [] r.whole.holds one in
    record {
      taken = r.taken;
      consumed = none-more old.input mid.input new.input r.taken r.consumed c;
      holds = (r.whole.text ++ reply, subst (λ t. ServesFront replies first t last (r.whole.text ++ reply)) (append-nil r.taken ∙ sym (within r)) front);
    }

-- the writer failed in a piece
pub intake_write_fault : {S T : Type 0} {replies : Replying S} {first now : S} {left : ℕ} {rest : List ℕ} {old mid : Streams} {result : Result T SessionFault} (new : Streams) (last : S) (piece : List ℕ)
    → Intake old mid left (λ taken. ServesWhole replies first taken now rest) → Consumes mid.input new.input piece
    → IsSessionStopped mid.output new.output (ServesFront replies now (rest ++ take left piece) last) result → IsErrOf result WriteFault → Taking old new (Front replies first last)
intake_write_fault {replies = replies} {first = first} {left = left} {old = old} {mid = mid} new last piece r c s is =
    let p = s.write_fault is in
    record {
      taken = r.taken ++ piece;
      consumed = Consumes-trans old.input mid.input new.input r.taken piece r.consumed c;
      holds = (r.whole.text ++ p.0, subst (λ t. ServesFront replies first t last (r.whole.text ++ p.0)) (sym (front-of piece r)) (front-then (take left piece) r.whole.holds p.1));
    }

-- memory ran out there
pub intake_no_memory : {S T : Type 0} {replies : Replying S} {first now : S} {left : ℕ} {rest : List ℕ} {old mid : Streams} {result : Result T SessionFault} (new : Streams) (last : S) (piece : List ℕ)
    → Intake old mid left (λ taken. ServesWhole replies first taken now rest) → Consumes mid.input new.input piece
    → IsSessionStopped mid.output new.output (ServesFront replies now (rest ++ take left piece) last) result → IsErrOf result NoMemory
    → Taking old new (λ taken. Grows old.output new.output (ServesFront replies first (take 16777216 taken) last))
intake_no_memory {replies = replies} {first = first} {left = left} {old = old} {mid = mid} new last piece r c s is = record {
  taken = r.taken ++ piece;
  consumed = Consumes-trans old.input mid.input new.input r.taken piece r.consumed c;
  holds = subst (λ t. Grows old.output new.output (ServesFront replies first t last)) (sym (front-of piece r)) (grows-then (take left piece) r.whole (s.no_memory is));
}

-- the session that this ends
pub session-stuck : {S : Type 0} {replies : Replying S} {first last : S} {old new : Streams} → Taking old new (Front replies first last) → IsSession replies first last old new (Err WriteFault)
session-stuck t = record { ok = tt; too_long = λ is. (cc); read_fault = λ is. (cc); write_fault = λ is. t; no_memory = λ is. (cc) }

-- a reply that was written
pub reply-grows : {W : Type 0} {contents : W → Option (List ℕ)} {old new : CountedRecord W} {P : List ℕ → Type 0} {done : Unit} → WritesReply contents old new P (Ok done) → Grows (contents old.inner) (contents new.inner) P
reply-grows w = record { text = w.reply; holds = w.holds; written = w.writes.ok }
