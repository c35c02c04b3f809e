-- The first lines of an input, where a session stops within them or after them.
use Rattle.std.proofs.Common.{◌≡◌, ◌≤◌, ℕ, inr, List, [], ◌∷◌, ◌++◌, refl, ap, sym, ◌∙◌, append_assoc, append-nil, subst, Option}
use Rattle.std.specs.Prelude.{flat_map, Result, Ok, Err, OnErr, IsErrOf}
use Rattle.std.proofs.KnownBytes.{Appends-nil, Appends-trans}
use Rattle.std.proofs.lemmas.Grind.{flat_map-append}
use Rattle.std.proofs.lemmas.List.Elements.{All-append, All-nil, All-push}
use Rattle.allocation.specs.Refusal.{IsOutOfMemory}
use Rattle.program_io.specs.Counted.{Grows}
use Rattle.stack_rules.proofs.lemmas.PassingLemmas.{out_of_memory-more}
use Rattle.stack_session.specs.declared.fault.SessionFault.{SessionFault}
use Rattle.stack_session.specs.declared.fault.SessionFault.TheVariants.{WriteFault, NoMemory}
use Rattle.stack_session.specs.Session.{Replying, ended, IsOneLine, IsSessionStopped, IsStoppedIn, ServesFront, ServesWhole}
use Rattle.stack_session.proofs.SessionLemmas.{Feeding, ServesLines-append}

-- no line was served
pub front-none : {S : Type 0} (replies : Replying S) (first : S) (input : List ℕ) → ServesFront replies first input first []
front-none replies first input = record { lines = []; texts = []; left = ended input; cut = refl; each = All-nil _; run = refl; joined = refl }

-- one line was
pub front-one : {S : Type 0} (replies : Replying S) (first last : S) (line reply : List ℕ) → IsOneLine line → replies first line reply last → ServesFront replies first line last reply
front-one replies first last line reply one r = record {
  lines = line ∷ [];
  texts = reply ∷ [];
  left = [];
  cut = sym (append-nil (ended line)) ∙ sym (append-nil (ended line ++ []));
  each = All-push IsOneLine [] line (All-nil _) one;
  run = (last, r, refl);
  joined = sym (append-nil reply);
}

-- after the whole lines of an input, those of its rest and of what comes then
pub front-then : {S : Type 0} {replies : Replying S} {first now last : S} {input rest output tail : List ℕ} (more : List ℕ)
    → ServesWhole replies first input now rest output → ServesFront replies now (rest ++ more) last tail → ServesFront replies first (input ++ more) last (output ++ tail)
front-then {replies = replies} {first = first} {now = now} {last = last} {input = input} {rest = rest} {output = output} {tail = tail} more w f =
    let whole = flat_map ended w.whole in
    let lines = flat_map ended f.lines in
    record {
      lines = w.whole ++ f.lines;
      texts = w.texts ++ f.texts;
      left = f.left;
      cut = ap (λ t. ended (t ++ more)) w.cut.joined ∙ ap ended (append_assoc whole rest more) ∙ append_assoc whole (rest ++ more) (10 ∷ [])
          ∙ ap (λ t. whole ++ t) f.cut ∙ sym (append_assoc whole lines f.left) ∙ ap (λ t. t ++ f.left) (sym (flat_map-append ended w.whole f.lines));
      each = All-append IsOneLine w.whole f.lines w.cut.each f.each;
      run = ServesLines-append replies first now last w.whole f.lines w.texts f.texts w.run f.run;
      joined = ap (λ t. t ++ tail) w.joined ∙ ap (λ t. flat_map (λ r. r) w.texts ++ t) f.joined ∙ sym (flat_map-append (λ r. r) w.texts f.texts);
    }

-- the whole lines of an input
pub front-whole : {S : Type 0} {replies : Replying S} {first now : S} {input rest output : List ℕ} → ServesWhole replies first input now rest output → ServesFront replies first input now output
front-whole {replies = replies} {first = first} {now = now} {input = input} {rest = rest} {output = output} w =
    subst (λ t. ServesFront replies first t now output) (append-nil input)
    (subst (λ t. ServesFront replies first (input ++ []) now t) (append-nil output) (front-then [] w (front-none replies now (rest ++ []))))

-- what follows a newline changes nothing
pub front-longer : {S : Type 0} {replies : Replying S} {first last : S} {input output : List ℕ} (more : List ℕ) → ServesFront replies first input last output → ServesFront replies first (input ++ 10 ∷ more) last output
front-longer {input = input} more f = record {
  lines = f.lines;
  texts = f.texts;
  left = f.left ++ ended more;
  cut = append_assoc input (10 ∷ more) (10 ∷ []) ∙ sym (append_assoc input (10 ∷ []) (ended more)) ∙ ap (λ t. t ++ ended more) f.cut
      ∙ append_assoc (flat_map ended f.lines) f.left (ended more);
  each = f.each;
  run = f.run;
  joined = f.joined;
}

-- ---- what is written of them

-- the replies to the whole lines, and then to those of the front after them
pub grows-then : {S : Type 0} {replies : Replying S} {first now last : S} {input rest : List ℕ} {old mid new : Option (List ℕ)} (more : List ℕ)
    → Grows old mid (ServesWhole replies first input now rest) → Grows mid new (ServesFront replies now (rest ++ more) last) → Grows old new (ServesFront replies first (input ++ more) last)
grows-then {old = old} {mid = mid} {new = new} more f g = record {
  text = f.text ++ g.text;
  holds = front-then more f.holds g.holds;
  written = Appends-trans old mid new f.text g.text f.written g.written;
}

pub grows-longer : {S : Type 0} {replies : Replying S} {first last : S} {input : List ℕ} {old new : Option (List ℕ)} (more : List ℕ)
    → Grows old new (ServesFront replies first input last) → Grows old new (ServesFront replies first (input ++ 10 ∷ more) last)
grows-longer more g = record { text = g.text; holds = front-longer more g.holds; written = g.written }

pub grows-none : {S : Type 0} (replies : Replying S) (first : S) (input : List ℕ) (w : Option (List ℕ)) → Grows w w (ServesFront replies first input first)
grows-none replies first input w = record { text = []; holds = front-none replies first input; written = Appends-nil w }

-- a session that stops in a piece stops in all that was taken
pub stopped-then : {S T U : Type 0} {replies : Replying S} {first now last : S} {input rest : List ℕ} {old mid new : Option (List ℕ)} {result : Result T SessionFault} (more : List ℕ) (fault : SessionFault)
    → result ≡ Err fault → Grows old mid (ServesWhole replies first input now rest) → IsSessionStopped mid new (ServesFront replies now (rest ++ more) last) result
    → IsSessionStopped {T = U} old new (ServesFront replies first (input ++ more) last) (Err fault)
stopped-then {replies = replies} {first = first} {last = last} {input = input} {result = result} more fault ends f s = record {
  write_fault = λ is.
      let same : fault ≡ WriteFault = cc in
      let p = s.write_fault (ends ∙ ap Err same) in (f.text ++ p.0, front-then more f.holds p.1);
  no_memory = λ is.
      let same : fault ≡ NoMemory = cc in
      grows-then more f (s.no_memory (ends ∙ ap Err same));
}

-- ---- within a line

-- the reply to the line can't be written
pub stopped-line : {S T : Type 0} (replies : Replying S) (first last : S) (input line reply : List ℕ) (old new : Option (List ℕ)) → line ≡ input → IsOneLine input → replies first line reply last
    → IsSessionStopped {T = T} old new (ServesFront replies first input last) (Err WriteFault)
stopped-line replies first last input line reply old new same one is = record {
  write_fault = λ e. (reply, front-one replies first last input reply one (subst (λ l. replies first l reply last) same is));
  no_memory = λ e. (cc);
}

-- the line can't be kept
pub stopped-none : {S T U : Type 0} (replies : Replying S) (first : S) (input : List ℕ) (w : Option (List ℕ)) (fault : SessionFault) → IsErrOf {T = U} (Err fault) NoMemory
    → IsSessionStopped {T = T} w w (ServesFront replies first input first) (Err fault)
stopped-none replies first input w fault kind = record {
  write_fault = λ e. let same : fault ≡ NoMemory = cc in let clash : WriteFault ≡ NoMemory = cc in cc;
  no_memory = λ e. grows-none replies first input w;
}

-- the room for it was refused
pub stopped-keep : {T : Type 0} (n : ℕ) (result : Result T SessionFault) → n ≤ 16777216 → OnErr result (result ≡ Err NoMemory) → OnErr result (IsOutOfMemory n) → IsStoppedIn result
stopped-keep n (Ok value) few kind memory = tt
stopped-keep n (Err fault) few kind memory = inr (kind, out_of_memory-more n 16777216 few memory)

-- the replies to the whole lines can't be handed on
pub stopped-whole : {S T : Type 0} {replies : Replying S} {first now : S} {input rest : List ℕ} {old mid : Option (List ℕ)} (new : Option (List ℕ))
    → Grows old mid (ServesWhole replies first input now rest) → IsSessionStopped {T = T} old new (ServesFront replies first input now) (Err WriteFault)
stopped-whole new g = record { write_fault = λ e. (g.text, front-whole g.holds); no_memory = λ e. (cc) }

-- ---- within a piece

-- of a piece that was fed up to a line, and then stopped in that
pub feeding_stops : {S T U : Type 0} {replies : Replying S} {first now last : S} {piece left rest : List ℕ} {old mid new : Option (List ℕ)} {result : Result T SessionFault} (start head tail : List ℕ) (fault : SessionFault)
    → left ≡ head ++ 10 ∷ tail → result ≡ Err fault → Feeding piece left (λ done. Grows old mid (ServesWhole replies first (start ++ done) now rest))
    → IsSessionStopped mid new (ServesFront replies now (rest ++ head) last) result → IsSessionStopped {T = U} old new (ServesFront replies first (start ++ piece) last) (Err fault)
feeding_stops {replies = replies} {first = first} {last = last} {piece = piece} {old = old} {new = new} start head tail fault cut ends f s =
    let all : ((start ++ f.done) ++ head) ++ 10 ∷ tail ≡ start ++ piece =
    append_assoc (start ++ f.done) head (10 ∷ tail) ∙ append_assoc start f.done (head ++ 10 ∷ tail) ∙ ap (λ t. start ++ (f.done ++ t)) (sym cut) ∙ ap (λ t. start ++ t) (sym f.split) in
    record {
      write_fault = λ is.
          let same : fault ≡ WriteFault = cc in
          let p = s.write_fault (ends ∙ ap Err same) in
          (f.fed.text ++ p.0, subst (λ t. ServesFront replies first t last (f.fed.text ++ p.0)) all (front-longer tail (front-then head f.fed.holds p.1)));
      no_memory = λ is.
          let same : fault ≡ NoMemory = cc in
          subst (λ t. Grows old new (ServesFront replies first t last)) all (grows-longer tail (grows-then head f.fed (s.no_memory (ends ∙ ap Err same))));
    }

-- what is left of a piece can't be kept
pub feeding_full : {S T : Type 0} {replies : Replying S} {first now : S} {piece left rest : List ℕ} {old new : Option (List ℕ)} (start : List ℕ) (result : Result T SessionFault)
    → OnErr result (result ≡ Err NoMemory) → Feeding piece left (λ done. Grows old new (ServesWhole replies first (start ++ done) now rest)) → IsSessionStopped old new (ServesFront replies first (start ++ piece) now) result
feeding_full start (Ok value) kind f = record { write_fault = λ is. (cc); no_memory = λ is. (cc) }
feeding_full {replies = replies} {first = first} {now = now} {piece = piece} {left = left} {rest = rest} {old = old} {new = new} start (Err fault) kind f = record {
  write_fault = λ is. let clash : WriteFault ≡ NoMemory = cc in cc;
  no_memory = λ is.
      subst (λ t. Grows old new (ServesFront replies first t now)) (append_assoc start f.done left ∙ ap (λ t. start ++ t) (sym f.split))
      (grows-then left f.fed (grows-none replies now (rest ++ left) new));
}
