use Rattle.std.proofs.Common.{◌≡◌, ◌+◌, ◌-◌, ◌*◌, ◌/◌, ℕ, List, Ok, Err, true, arith, refl, sym, ◌∙◌, ap, subst, length, take}
use Rattle.std.proofs.lemmas.Bool.{false≢true}
use Rattle.std.proofs.lemmas.List.{length-take-le}
use Rattle.std.specs.Prelude.{Result}
use Rattle.stack_rules.specs.Names.{mapped}
use Rattle.stack_rules.specs.Records.{Configuration}
use Rattle.stack_meaning.specs.declared.fault.IoFault.{IoFault}
use Rattle.stack_meaning.specs.declared.fault.IoFault.TheVariants.{Device, NoMemory, Stack}
use Rattle.stack_meaning.specs.declared.fault.Fault.TheVariants.{ErrorTarget, Mismatch}
use Rattle.stack_meaning.specs.Meaning.{said_at}
use Rattle.stack_meaning.specs.Reading.{MeetVerity}
use Rattle.stack_lines.specs.Budgets.{ReadsAtMost}
use Rattle.stack_engine.specs.Bytes.{EachBytes}
use Rattle.stack_engine.specs.Pieces.{piece_budget}
use Rattle.stack_recovery.specs.Alike.{AreAlike}
use Rattle.stack_recovery.specs.PieceLimits.{limit_after_bytes, limit_after_failure}
use Rattle.stack_recovery.specs.Pieces.{EndsAligned}
use Rattle.stack_recovery.specs.LostRuns.{is_same_fault}
use Rattle.transfer_commands.specs.Cats.{CatSide, cat_side}
use Rattle.transfer_commands.proofs.CatLemmas.{IsCatting, aligned-so, cat-stop, catting-again, catting-had, catting-none}
use Rattle.transfer_commands.proofs.output.cat_by.Goals as goal

abbrev ended : IoFault → Result Unit IoFault
ended fault = Err fault

only-memory : (fault : IoFault) → is_same_fault fault NoMemory ≡ true → fault ≡ NoMemory
only-memory NoMemory is = refl
only-memory (Stack ErrorTarget) is = absurd (false≢true is)
only-memory (Stack Mismatch) is = absurd (false≢true is)
only-memory (Device i) is = absurd (false≢true is)

pub pieces-init : goal.pieces-init
pieces-init g c =
    let old : CatSide = cat_side c.args.stack.now (g.W.Write.contents c.args.writer.now.inner) in
    let none : 0 ≡ c.args.range.first - c.args.range.first = omega arith in
    let begun : IsCatting c.args.d.0 c.args.range.first 0 (c.args.range.first + c.args.range.count) old old c.new-piece_limit.result =
    catting-none c.args.d.0 c.args.range.first (c.args.range.first + c.args.range.count) old c.new-piece_limit.result c.new-piece_limit.ensures.value in
    let here : IsCatting c.args.d.0 c.args.range.first (c.args.range.first - c.args.range.first) (c.args.range.first + c.args.range.count) old old c.new-piece_limit.result =
    subst (λ (k : ℕ). IsCatting c.args.d.0 c.args.range.first k (c.args.range.first + c.args.range.count) old old c.new-piece_limit.result) none begun in
    record {
      catting = here;
      from = omega arith;
      within = omega arith;
      piece_limit = c.new-piece_limit.ensures.piece_limit;
    }

pub pieces-preserved-in-Ok : goal.pieces-preserved-in-Ok
pieces-preserved-in-Ok g c =
    let before = c.pieces.invariant in
    let first : ℕ = c.args.range.first in
    let n : ℕ = c.piece_at-piece.result.count in
    let k : ℕ = c.pieces.at - first in
    let here : c.pieces.at ≡ first + k = omega (arith, before.from) in
    let wide : length (take (n * 512) c.pieces.room) ≡ n * 512 = length-take-le (n * 512) c.pieces.room (omega (arith, c.requires.buffer, c.pieces.auto.room, c.piece_at-piece.ensures.few)) in
    let number : length (take (n * 512) c.pieces.room) / 512 ≡ n = omega (arith, wide) in
    let bytes : List ℕ = c.read_bytes.new.out in
    let old : CatSide = cat_side c.args.stack.now (g.W.Write.contents c.args.writer.now.inner) in
    let now : CatSide = cat_side c.pieces.stack (g.W.Write.contents c.pieces.writer.inner) in
    let new : CatSide = cat_side c.read_bytes.new.self (g.W.Write.contents c.put.new.self.inner) in
    let counted = subst (λ (m : ℕ). EachBytes c.pieces.stack c.args.d.0 c.pieces.at m (Ok bytes) c.read_bytes.new.self) number (record { any = c.in-Ok.ensures.any; steady = c.in-Ok.ensures.steady }) in
    let piece = subst (λ (s : ℕ). EachBytes c.pieces.stack c.args.d.0 s n (Ok bytes) c.read_bytes.new.self) here counted in
    let spent_at = subst (λ (m : ℕ). ReadsAtMost (piece_budget c.pieces.stack c.args.d.0 c.pieces.at m) c.pieces.stack.leaves c.read_bytes.new.self.leaves) number c.in-Ok.ensures.spent in
    let spent = subst (λ (s : ℕ). ReadsAtMost (piece_budget c.pieces.stack c.args.d.0 s n) c.pieces.stack.leaves c.read_bytes.new.self.leaves) here spent_at in
    let aligned : EndsAligned c.pieces.stack.config c.args.d.0 (first + k) (c.args.range.first + c.args.range.count) c.pieces.piece_limit.most n =
    subst (λ (s : ℕ). EndsAligned c.pieces.stack.config c.args.d.0 s (c.args.range.first + c.args.range.count) c.pieces.piece_limit.most n) here
    (subst (λ (x : Configuration). EndsAligned x c.args.d.0 c.pieces.at (c.args.range.first + c.args.range.count) c.pieces.piece_limit.most n) c.config-in-pieces.ensures.value c.piece_at-piece.ensures.ends) in
    let behind : c.pieces.at + c.from-count.result ≡ first + k + n = omega (arith, here, c.from-count.ensures) in
    let grown = c.after_bytes-piece_limit.ensures.value ∙ ap (λ (m : ℕ). limit_after_bytes c.pieces.piece_limit n m) behind in
    let next : IsCatting c.args.d.0 first (k + n) (c.args.range.first + c.args.range.count) old new c.after_bytes-piece_limit.result =
    catting-had c.args.d.0 first k (c.args.range.first + c.args.range.count) old now c.pieces.piece_limit c.after_bytes-piece_limit.result before.catting n c.read_bytes.new.self aligned bytes (g.W.Write.contents c.put.new.self.inner)
    grown piece spent c.in_ok-put-in-Ok.ensures.writes.ok in
    let count = c.from-count.ensures in
    let sum : k + n ≡ c.pieces.at + c.from-count.result - first = omega (arith, before.from, count) in
    let summed : IsCatting c.args.d.0 first (c.pieces.at + c.from-count.result - first) (c.args.range.first + c.args.range.count) old new c.after_bytes-piece_limit.result =
    subst (λ (m : ℕ). IsCatting c.args.d.0 first m (c.args.range.first + c.args.range.count) old new c.after_bytes-piece_limit.result) sum next in
    record {
      catting = summed;
      from = omega (arith, before.from);
      within = omega (arith, c.piece_at-piece.ensures.inside, count);
      piece_limit = c.after_bytes-piece_limit.ensures.piece_limit;
    }

pub returns-then-piece-clause-err : goal.returns-then-piece-clause-err
returns-then-piece-clause-err g c =
    let before = c.pieces.invariant in
    let first : ℕ = c.args.range.first in
    let n : ℕ = c.piece_at-piece.result.count in
    let k : ℕ = c.pieces.at - first in
    let here : c.pieces.at ≡ first + k = omega (arith, before.from) in
    let wide : length (take (n * 512) c.pieces.room) ≡ n * 512 = length-take-le (n * 512) c.pieces.room (omega (arith, c.requires.buffer, c.pieces.auto.room, c.piece_at-piece.ensures.few)) in
    let number : length (take (n * 512) c.pieces.room) / 512 ≡ n = omega (arith, wide) in
    let old : CatSide = cat_side c.args.stack.now (g.W.Write.contents c.args.writer.now.inner) in
    let now : CatSide = cat_side c.pieces.stack (g.W.Write.contents c.pieces.writer.inner) in
    let counted = subst (λ (m : ℕ). EachBytes c.pieces.stack c.args.d.0 c.pieces.at m (Err c.in-Err.fault) c.read_bytes.new.self) number (record { any = c.in-Err.ensures.any; steady = c.in-Err.ensures.steady }) in
    let piece = subst (λ (s : ℕ). EachBytes c.pieces.stack c.args.d.0 s n (Err c.in-Err.fault) c.read_bytes.new.self) here counted in
    let alike : AreAlike c.pieces.stack.config c.args.d.0 c.pieces.at n = subst (λ (x : Configuration). AreAlike x c.args.d.0 c.pieces.at n) c.config-in-pieces.ensures.value (c.piece_at-piece.ensures.alike c.if-piece.true) in
    let same : AreAlike c.pieces.stack.config c.args.d.0 (first + k) n = subst (λ (s : ℕ). AreAlike c.pieces.stack.config c.args.d.0 s n) here alike in
    let aligned : EndsAligned c.pieces.stack.config c.args.d.0 (first + k) (c.args.range.first + c.args.range.count) c.pieces.piece_limit.most n =
    subst (λ (s : ℕ). EndsAligned c.pieces.stack.config c.args.d.0 s (c.args.range.first + c.args.range.count) c.pieces.piece_limit.most n) here
    (subst (λ (x : Configuration). EndsAligned x c.args.d.0 c.pieces.at (c.args.range.first + c.args.range.count) c.pieces.piece_limit.most n) c.config-in-pieces.ensures.value c.piece_at-piece.ensures.ends) in
    let other : c.in-Err.fault ≡ NoMemory → ⊥ = λ e. false≢true (sym c.if-is_same.false ∙ c.is_same.ensures ∙ ap (λ (f : IoFault). is_same_fault f NoMemory) e) in
    cat-stop c.args.d.0 first k c.args.range.count old now before.catting.so_far n c.read_bytes.new.self c.in-Err.fault
    (aligned-so c.args.d.0 first k (first + c.args.range.count) old now c.pieces.piece_limit c.pieces.piece_limit before.catting n c.read_bytes.new.self aligned)
    (omega (arith, here, c.piece_at-piece.ensures.inside)) c.piece_at-piece.ensures.some piece (λ is. absurd (other is)) (λ kind. same)

pub returns-then-is_same-clause-err : goal.returns-then-is_same-clause-err
returns-then-is_same-clause-err g c =
    let before = c.pieces.invariant in
    let first : ℕ = c.args.range.first in
    let n : ℕ = c.piece_at-piece.result.count in
    let k : ℕ = c.pieces.at - first in
    let here : c.pieces.at ≡ first + k = omega (arith, before.from) in
    let wide : length (take (n * 512) c.pieces.room) ≡ n * 512 = length-take-le (n * 512) c.pieces.room (omega (arith, c.requires.buffer, c.pieces.auto.room, c.piece_at-piece.ensures.few)) in
    let number : length (take (n * 512) c.pieces.room) / 512 ≡ n = omega (arith, wide) in
    let old : CatSide = cat_side c.args.stack.now (g.W.Write.contents c.args.writer.now.inner) in
    let now : CatSide = cat_side c.pieces.stack (g.W.Write.contents c.pieces.writer.inner) in
    let counted = subst (λ (m : ℕ). EachBytes c.pieces.stack c.args.d.0 c.pieces.at m (Err c.in-Err.fault) c.read_bytes.new.self) number (record { any = c.in-Err.ensures.any; steady = c.in-Err.ensures.steady }) in
    let piece = subst (λ (s : ℕ). EachBytes c.pieces.stack c.args.d.0 s n (Err c.in-Err.fault) c.read_bytes.new.self) here counted in
    let none : c.in-Err.fault ≡ NoMemory = only-memory c.in-Err.fault (sym c.is_same.ensures ∙ c.if-is_same.true) in
    let at_piece : MeetVerity (said_at c.pieces.stack.config (mapped c.args.d.0)) c.pieces.at n =
    subst (λ (m : ℕ). MeetVerity (said_at c.pieces.stack.config (mapped c.args.d.0)) c.pieces.at m) number (c.in-Err.ensures.memory (ap ended none)) in
    let aligned : EndsAligned c.pieces.stack.config c.args.d.0 (first + k) (c.args.range.first + c.args.range.count) c.pieces.piece_limit.most n =
    subst (λ (s : ℕ). EndsAligned c.pieces.stack.config c.args.d.0 s (c.args.range.first + c.args.range.count) c.pieces.piece_limit.most n) here
    (subst (λ (x : Configuration). EndsAligned x c.args.d.0 c.pieces.at (c.args.range.first + c.args.range.count) c.pieces.piece_limit.most n) c.config-in-pieces.ensures.value c.piece_at-piece.ensures.ends) in
    let memory : MeetVerity (said_at c.pieces.stack.config (mapped c.args.d.0)) (first + k) n = subst (λ (s : ℕ). MeetVerity (said_at c.pieces.stack.config (mapped c.args.d.0)) s n) here at_piece in
    cat-stop c.args.d.0 first k c.args.range.count old now before.catting.so_far n c.read_bytes.new.self c.in-Err.fault
    (aligned-so c.args.d.0 first k (first + c.args.range.count) old now c.pieces.piece_limit c.pieces.piece_limit before.catting n c.read_bytes.new.self aligned)
    (omega (arith, here, c.piece_at-piece.ensures.inside)) c.piece_at-piece.ensures.some piece (λ is. memory) (λ kind. absurd (kind none))

pub pieces-preserved : goal.pieces-preserved
pieces-preserved g c =
    let before = c.pieces.invariant in
    let first : ℕ = c.args.range.first in
    let n : ℕ = c.piece_at-piece.result.count in
    let k : ℕ = c.pieces.at - first in
    let here : c.pieces.at ≡ first + k = omega (arith, before.from) in
    let wide : length (take (n * 512) c.pieces.room) ≡ n * 512 = length-take-le (n * 512) c.pieces.room (omega (arith, c.requires.buffer, c.pieces.auto.room, c.piece_at-piece.ensures.few)) in
    let number : length (take (n * 512) c.pieces.room) / 512 ≡ n = omega (arith, wide) in
    let old : CatSide = cat_side c.args.stack.now (g.W.Write.contents c.args.writer.now.inner) in
    let now : CatSide = cat_side c.pieces.stack (g.W.Write.contents c.pieces.writer.inner) in
    let counted = subst (λ (m : ℕ). EachBytes c.pieces.stack c.args.d.0 c.pieces.at m (Err c.in-Err.fault) c.read_bytes.new.self) number (record { any = c.in-Err.ensures.any; steady = c.in-Err.ensures.steady }) in
    let piece = subst (λ (s : ℕ). EachBytes c.pieces.stack c.args.d.0 s n (Err c.in-Err.fault) c.read_bytes.new.self) here counted in
    let aligned : EndsAligned c.pieces.stack.config c.args.d.0 (first + k) (c.args.range.first + c.args.range.count) c.pieces.piece_limit.most n =
    subst (λ (s : ℕ). EndsAligned c.pieces.stack.config c.args.d.0 s (c.args.range.first + c.args.range.count) c.pieces.piece_limit.most n) here
    (subst (λ (x : Configuration). EndsAligned x c.args.d.0 c.pieces.at (c.args.range.first + c.args.range.count) c.pieces.piece_limit.most n) c.config-in-pieces.ensures.value c.piece_at-piece.ensures.ends) in
    let behind : c.pieces.at + c.from-count.result ≡ first + k + n = omega (arith, here, c.from-count.ensures) in
    let next : IsCatting c.args.d.0 first k (c.args.range.first + c.args.range.count) old (cat_side c.read_bytes.new.self now.written) c.after_failure-piece_limit.result =
    catting-again c.args.d.0 first k (c.args.range.first + c.args.range.count) old now c.pieces.piece_limit c.after_failure-piece_limit.result before.catting n c.read_bytes.new.self aligned c.in-Err.fault
    (c.after_failure-piece_limit.ensures.value ∙ ap (λ (m : ℕ). limit_after_failure n m) behind) piece in
    record {
      catting = next;
      from = before.from;
      within = before.within;
      piece_limit = c.after_failure-piece_limit.ensures.piece_limit;
    }
