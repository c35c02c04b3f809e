-- Lines that are replied to in another way.
use Rattle.std.proofs.Common.{take, ℕ, List, [], ◌∷◌, ◌++◌, Result, Ok, Err, Option}
use Rattle.std.specs.Prelude.{OnOk}
use Rattle.stack_session.specs.declared.fault.SessionFault.{SessionFault}
use Rattle.program_io.specs.Counted.{Grows}
use Rattle.stack_session.specs.Session.{Replying, ServesLines, ServesWhole, ServesAll, ServesFront, Taking, WritesAll, WritesWholeLines, IsSession}
use Rattle.program_io.specs.Streams.{Streams}

-- each reply of one way is one of the other, and a fact about the states goes on
abbrev pub Follows : {S : Type 0} → Replying S → Replying S → (S → Type 0) → Type 0
Follows {S} r q P = (a : S) (line reply : List ℕ) (b : S) → P a → r a line reply b → q a line reply b × P b

pub ServesLines-as : {S : Type 0} (r q : Replying S) (P : S → Type 0) → Follows r q P → (a b : S) (xs rs : List (List ℕ)) → P a → ServesLines r a xs rs b → ServesLines q a xs rs b
ServesLines-as r q P f a b [] [] p run = run
ServesLines-as r q P f a b [] (x ∷ rs) p run = absurd run
ServesLines-as r q P f a b (x ∷ xs) [] p run = absurd run
ServesLines-as r q P f a b (x ∷ xs) (y ∷ rs) p run =
    let step : q a x y run.0 × P run.0 = f a x y run.0 p run.1 in
    (run.0, step.0, ServesLines-as r q P f run.0 b xs rs step.1 run.2)

ServesAll-as : {S : Type 0} (r q : Replying S) (P : S → Type 0) → Follows r q P
    → {a b : S} {input : List ℕ} {old new : Option (List ℕ)} → P a → Grows old new (ServesAll r a input b) → Grows old new (ServesAll q a input b)
ServesAll-as r q P f {a} {b} p w = record {
  text = w.text;
  holds = record {
    whole = w.holds.whole;
    rest = w.holds.rest;
    texts = w.holds.texts;
    cut = w.holds.cut;
    run = ServesLines-as r q P f a b (w.holds.whole ++ w.holds.rest ∷ []) w.holds.texts p w.holds.run;
    joined = w.holds.joined;
  };
  written = w.written;
}

ServesFront-as : {S : Type 0} (r q : Replying S) (P : S → Type 0) → Follows r q P
    → (a : S) (input : List ℕ) (b : S) (output : List ℕ) → P a → ServesFront r a input b output → ServesFront q a input b output
ServesFront-as r q P f a input b output p w = record {
  lines = w.lines;
  texts = w.texts;
  left = w.left;
  cut = w.cut;
  each = w.each;
  run = ServesLines-as r q P f a b w.lines w.texts p w.run;
  joined = w.joined;
}

WritesWhole-as : {S : Type 0} (r q : Replying S) (P : S → Type 0) → Follows r q P
    → (a : S) (input : List ℕ) (b : S) (old new : Streams) → P a → WritesWholeLines r a input b old new → WritesWholeLines q a input b old new
WritesWhole-as r q P f a input b old new p w =
    let grows : Grows old.output new.output (ServesWhole q a input b w.0) = record {
      text = w.1.text;
      holds = record {
        whole = w.1.holds.whole;
        texts = w.1.holds.texts;
        cut = w.1.holds.cut;
        run = ServesLines-as r q P f a b w.1.holds.whole w.1.holds.texts p w.1.holds.run;
        joined = w.1.holds.joined;
      };
      written = w.1.written;
    } in
    (w.0, grows)

taking-as : {old new : Streams} {P Q : List ℕ → Type 0} → ((taken : List ℕ) → P taken → Q taken) → Taking old new P → Taking old new Q
taking-as f t = record { taken = t.taken; consumed = t.consumed; holds = f t.taken t.holds }

ok-as : {S : Type 0} (r q : Replying S) (P : S → Type 0) → Follows r q P
    → (first last : S) (old new : Streams) (result : Result Unit SessionFault) → P first
    → OnOk result (Taking old new (WritesAll r first last old new)) → OnOk result (Taking old new (WritesAll q first last old new))
ok-as r q P f first last old new (Ok done) p h =
    let each : (taken : List ℕ) → WritesAll r first last old new taken → WritesAll q first last old new taken =
    λ taken k. record { small = k.small; at_end = k.at_end; written = ServesAll-as r q P f p k.written } in
    taking-as each h
ok-as r q P f first last old new (Err fault) p h = tt

-- a session whose replies hold in another way
pub IsSession-as : {S : Type 0} (r q : Replying S) (P : S → Type 0) → Follows r q P
    → (first last : S) (old new : Streams) (result : Result Unit SessionFault) → P first
    → IsSession r first last old new result → IsSession q first last old new result
IsSession-as r q P f first last old new result p s = record {
  ok = ok-as r q P f first last old new result p s.ok;
  too_long = λ is. taking-as (λ taken k. (k.0, WritesWhole-as r q P f first (take 16777216 taken) last old new p k.1)) (s.too_long is);
  read_fault = λ is. taking-as (λ taken k. (k.0, WritesWhole-as r q P f first taken last old new p k.1)) (s.read_fault is);
  write_fault = λ is. taking-as (λ taken k. (k.0, ServesFront-as r q P f first (take 16777216 taken) last k.0 p k.1)) (s.write_fault is);
  no_memory = λ is. taking-as (λ taken k.
      let grows : Grows old.output new.output (ServesFront q first (take 16777216 taken) last) =
      record { text = k.text; holds = ServesFront-as r q P f first (take 16777216 taken) last k.text p k.holds; written = k.written } in grows) (s.no_memory is);
}
