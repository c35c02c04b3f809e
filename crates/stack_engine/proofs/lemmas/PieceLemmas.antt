-- One piece as callers see it, and pieces one after another.
use Rattle.std.proofs.Common.{◌≡◌, ℕ, ◌+◌, ◌≤◌, List, [], ◌++◌, Option, Result, Ok, Err, refl, ap, ◌∙◌, arith}
use Rattle.std.proofs.lemmas.List.Elements.{Contains-append_left, Contains-append_right, All-nil}
use Rattle.block_device.specs.Device.{Device}
use Rattle.stack_rules.specs.declared.lower.Lower.{Lower}
use Rattle.stack_rules.specs.Records.{Configuration}
use Rattle.stack_rules.specs.Names.{mapped}
use Rattle.stack_meaning.specs.declared.fault.IoFault.{IoFault}
use Rattle.stack_meaning.specs.Found.{FoundRecord, AreDistinct}
use Rattle.stack_meaning.specs.Meaning.{said_at}
use Rattle.stack_meaning.specs.May.{MayRead, MayBe}
use Rattle.stack_meaning.specs.Leaves.{AreRead}
use Rattle.stack_meaning.specs.Places.{place_of, Expected, run_expected}
use Rattle.stack_meaning.specs.Reading.{Gets, MeetVerity, Reads}
use Rattle.stack_engine.specs.Stacks.{StackRecord, AnswerRecord, IsSound}
use Rattle.stack_lines.specs.Caches.{Capacity, StackCache, capacity_of}
use Rattle.verified_cache.specs.Cache.{CachedBlock}
use Rattle.stack_lines.specs.Touches.{AsksOnly, leaves_of}
use Rattle.stack_lines.proofs.lemmas.AskLemmas.{asks-touched}
use Rattle.stack_engine.specs.Healing.{HasNoParity}
use Rattle.stack_engine.specs.Pieces.{AnyPiece, EachPiece, stack_with}
use Rattle.stack_meaning.proofs.lemmas.LeafListLemmas.{AreRead-none, leaves_kept}
use Rattle.stack_meaning.proofs.lemmas.FoundLemmas.{HasMore, used-append, said_at-mono}
use Rattle.stack_meaning.proofs.lemmas.RunLemmas.{fault_passes, fill_ok, fill_err, fill_more}

-- stacks with the same parts
pub same-stack : (v w : StackRecord) → v.config ≡ w.config → v.leaves ≡ w.leaves → v.capacity ≡ w.capacity → (v.kept ≡ w.kept) × (v.last ≡ w.last) → v.restored ≡ w.restored → v ≡ w
same-stack v w config leaves capacity kept restored =
    ap (λ (c : Configuration). record v { config = c }) config
    ∙ ap (λ (l : List Device). record v { config = w.config; leaves = l }) leaves
    ∙ ap (λ (k : Capacity). record v { config = w.config; leaves = w.leaves; capacity = k }) capacity
    ∙ ap (λ (b : List CachedBlock). record v { config = w.config; leaves = w.leaves; capacity = w.capacity; kept = b }) kept.0
    ∙ ap (λ (b : Option CachedBlock). record v { config = w.config; leaves = w.leaves; capacity = w.capacity; kept = w.kept; last = b }) kept.1
    ∙ ap (λ (n : ℕ). record w { restored = n }) restored

pub piece-sound : (c : Configuration) {old new : List Device} {n : ℕ} → IsSound c old → AreRead old n new → IsSound c new
piece-sound c {old = old} {new = new} s a = record { loaded = s.loaded; serve = leaves_kept c.leaves old new a.moved.fixed s.serve }

-- what is expected of an answer that has chains, where bytes and chains are so
abbrev answer_expected : (AnswerRecord → Type 0) → Configuration → Lower → ℕ → ℕ → Expected AnswerRecord
answer_expected Is c lower first n = let run = run_expected (place_of c lower) [] first n in record { is = Is; faults = run.faults; bytes_of = λ answer. answer.bytes; means = run.means; cost = run.cost; leaves = run.leaves; agrees = run.agrees }

-- of the answer of `read_piece`
abbrev pub piece_expected : Configuration → Lower → ℕ → ℕ → Expected AnswerRecord
piece_expected c lower first n = answer_expected (λ answer. MayBe c lower first n answer.bytes answer.chains) c lower first n

-- of the answers of pieces one after another: their bytes and chains joined
abbrev pub pieces_expected : Configuration → Lower → ℕ → ℕ → Expected AnswerRecord
pieces_expected c lower first n = answer_expected (λ answer. MayRead c lower first n answer.bytes answer.chains) c lower first n

abbrev pub joined_answers : AnswerRecord → AnswerRecord → AnswerRecord
joined_answers a b = record { bytes = a.bytes ++ b.bytes; chains = a.chains ++ b.chains }

pub piece_ok : (c : Configuration) (lower : Lower) (first n : ℕ) {old new : List Device} {chains : List FoundRecord} {bytes : List ℕ}
    → Reads c lower first n (record { old = old; new = new; before = []; after = chains }) (Ok bytes) → (AreDistinct [] → AreDistinct chains)
    → Gets (piece_expected c lower first n) old new (Ok (record { bytes = bytes; chains = chains }))
piece_ok c lower first n p distinct = record {
  moved = p.got.moved;
  may = record {
    read = record { run = p.got.may; used = rw p.grown.is p.grown.used };
    distinct = distinct (λ i j d low high. absurd (omega (arith, high)));
  };
  exact = λ sure. p.got.exact (record { steady = sure.steady; agrees = sure.agrees });
}

-- a fault is the same under any answer with these faults and this meaning
fault_as : {A B : Type 0} {wanted : Expected A} (Is : B → Type 0) (bytes_of : B → List ℕ) {old new : List Device} (fault : IoFault)
    → Gets wanted old new (Err fault) → Gets (record { is = Is; faults = wanted.faults; bytes_of = bytes_of; means = wanted.means; cost = wanted.cost; leaves = wanted.leaves; agrees = wanted.agrees }) old new (Err fault)
fault_as Is bytes_of {old = old} fault p = fault_passes fault p (AreRead-none 0 old) (omega arith) (λ x h. h) (λ i h. h) (λ images h. h) (λ sure x is. is)

pub piece_err : (c : Configuration) (lower : Lower) (first n : ℕ) {old new : List Device} {chains : List FoundRecord} (fault : IoFault)
    → Reads c lower first n (record { old = old; new = new; before = []; after = chains }) (Err fault) → Gets (piece_expected c lower first n) old new (Err fault)
piece_err c lower first n fault p = fault_as (λ answer. MayBe c lower first n answer.bytes answer.chains) (λ answer. answer.bytes) fault p.got

-- ---- pieces one after another

pieces-of : (c : Configuration) (lower : Lower) (first n : ℕ) {old new : List Device} {answer : AnswerRecord} → Gets (piece_expected c lower first n) old new (Ok answer) → Gets (pieces_expected c lower first n) old new (Ok answer)
pieces-of c lower first n p = record { moved = p.moved; may = p.may.read; exact = λ sure. p.exact (record { steady = sure.steady; agrees = sure.agrees }) }

-- the bytes as those of a buffer that was filled, with those chains
filled-by : (c : Configuration) (lower : Lower) (first n : ℕ) {old new : List Device} {answer : AnswerRecord} (chains : List FoundRecord) → HasMore answer.chains chains
    → Gets (pieces_expected c lower first n) old new (Ok answer) → Gets (run_expected (place_of c lower) chains first n) old new (Ok answer.bytes)
filled-by c lower first n {answer = answer} chains more p =
    fill_more (place_of c lower) first n {u = answer.chains} {v = chains} (said_at-mono c lower) more (record { moved = p.moved; may = p.may.run; exact = λ sure. p.exact (record { steady = sure.steady; agrees = sure.agrees }) })

module _ (c : Configuration) (lower : Lower) (first a m : ℕ) {old mid new : List Device} {before : AnswerRecord} (p : Gets (pieces_expected c lower first a) old mid (Ok before)) where
  -- a piece after those before it
  pub more-pieces : {answer : AnswerRecord} → Gets (piece_expected c lower (first + a) m) mid new (Ok answer) → Gets (pieces_expected c lower first (a + m)) old new (Ok (joined_answers before answer))
  more-pieces {answer = answer} q =
      let chains : List FoundRecord = before.chains ++ answer.chains in
      let all = fill_ok (place_of c lower) chains first a m
      (filled-by c lower first a {answer = before} chains (Contains-append_left before.chains answer.chains) p)
      (filled-by c lower (first + a) m {answer = answer} chains (Contains-append_right before.chains answer.chains) (pieces-of c lower (first + a) m {answer = answer} q)) in
      record {
        moved = all.moved;
        may = record { run = all.may; used = used-append (λ s. (said_at c lower s).entries) first a m before.chains answer.chains p.may.used q.may.read.used };
        exact = λ sure. all.exact (record { steady = sure.steady; agrees = sure.agrees });
      }

  -- a piece that ends all n sectors by its fault
  pub fault-pieces : (n : ℕ) (fault : IoFault) → a + m ≤ n → Gets (piece_expected c lower (first + a) m) mid new (Err fault) → Gets (pieces_expected c lower first n) old new (Err fault)
  fault-pieces n fault h q =
      let run = run_expected (place_of c lower) before.chains (first + a) m in
      fault_as (λ answer. MayRead c lower first n answer.bytes answer.chains) (λ answer. answer.bytes) fault
      (fill_err (place_of c lower) before.chains first a m (filled-by c lower first a {answer = before} before.chains (λ x h. h) p) n fault h
      (fault_as run.is run.bytes_of fault q))

-- nothing was read yet
pub no-pieces : (c : Configuration) (lower : Lower) (first : ℕ) (leaves : List Device) → Gets (pieces_expected c lower first 0) leaves leaves (Ok (record { bytes = []; chains = [] }))
no-pieces c lower first leaves = record {
  moved = AreRead-none _ leaves;
  may = record { run = record { len = omega arith; sectors = λ j h. absurd (omega arith) }; used = All-nil _ };
  exact = λ sure. refl;
}

-- a piece as the stack's own record
pub each-piece : (c : Configuration) (d first n : ℕ) {old new : List Device} (answer : Result AnswerRecord IoFault) → Gets (piece_expected c (mapped d) first n) old new answer → AsksOnly (MeetVerity (said_at c (mapped d)) first n → HasNoParity c) (leaves_of c (mapped d)) old new answer
    → (before after : StackCache) {was is : ℕ} → capacity_of after ≡ capacity_of before → EachPiece (stack_with c old before was) d first n answer (stack_with c new after is)
each-piece c d first n answer p asks before after {was = was} {is = is} capacity =
    let any : AnyPiece (stack_with c _ before was) d first n answer (stack_with c _ after is) = record { config = refl; capacity = capacity; moved = p.moved; may = p.may; touches = asks-touched asks; fails = asks.ends } in
    record { any = any; steady = λ sure. record { any = any; exact = p.exact (record { steady = sure.steady; agrees = sure.agrees }) } }

-- and back
pub piece-got : {w w' : StackRecord} (d first n : ℕ) (answer : Result AnswerRecord IoFault) → EachPiece w d first n answer w' → Gets (piece_expected w.config (mapped d) first n) w.leaves w'.leaves answer
piece-got d first n answer p = record { moved = p.any.moved; may = p.any.may; exact = λ sure. (p.steady (record { steady = sure.steady; agrees = sure.agrees })).exact }
