-- How often the leaves fail in a pass in large pieces.
use Rattle.std.proofs.Common.{◌≡◌, ℕ, zero, suc, ◌+◌, ◌-◌, ◌≤◌, List, [], ◌∷◌, length, sum, sym, ap, subst, arith}
use Rattle.std.proofs.lemmas.List.Sums.{sum_by-cons}
use Rattle.block_device.specs.Device.{capped}
use Rattle.stack_lines.specs.Touches.{failed_once, failures_by, failures_of}
use Rattle.stack_meaning.specs.declared.fault.IoFault.{IoFault}
use Rattle.stack_meaning.specs.declared.fault.IoFault.TheVariants as io
use Rattle.stack_engine.specs.Healing.{HasNoParity}
use Rattle.stack_engine.specs.Stacks.{StackRecord}
use Rattle.stack_recovery.specs.PassLaws.{FailuresAreFew, failed_reads}
use Rattle.stack_recovery.specs.Skims.{marks_of}
use Rattle.stack_recovery.specs.Surveys.{AnswersFinding, Finding, again, copied, had, kept, lost, probed, trimmed}

found-config : (d first : ℕ) (w : StackRecord) (n : ℕ) (found : Finding) (w' : StackRecord) → AnswersFinding w d first n found w' → w'.config ≡ w.config
found-config d first w n (had bytes) w' a = a.any.config
found-config d first w n (lost fault) w' a = a.any.config
found-config d first w n (again fault) w' a = a.any.config
found-config d first w n (probed behind bytes) w' a = a.any.config
found-config d first w n (trimmed behind fault) w' a = a.any.config
found-config d first w n copied w' a = ap (λ (s : StackRecord). s.config) a
found-config d first w n kept w' a = ap (λ (s : StackRecord). s.config) a

one-more : (n : ℕ) → n ≤ n + 1
one-more n = omega arith

sum-cons : (n : ℕ) (more : List ℕ) → sum (n ∷ more) ≡ n + sum more
sum-cons n more = sum_by-cons (λ (x : ℕ). x) n more

first-more : (a n : ℕ) (more : List ℕ) → a ≤ n + 1 → sum (a ∷ more) ≤ sum (n ∷ more) + 1
first-more a n more few = omega (arith, few, sum-cons a more, sum-cons n more)

rest-more : (n : ℕ) (new old : List ℕ) → sum new ≤ sum old + 1 → sum (n ∷ new) ≤ sum (n ∷ old) + 1
rest-more n new old few = omega (arith, few, sum-cons n new, sum-cons n old)

capped-more : (n : ℕ) → capped (n + 1) ≤ n + 1
capped-more n = omega arith

once-few : (failures : List ℕ) (i : ℕ) → sum (failed_once i failures) ≤ sum failures + 1
once-few [] i = one-more 0
once-few (n ∷ more) zero = first-more (capped (n + 1)) n more (capped-more n)
once-few (n ∷ more) (suc i) = rest-more n (failed_once i more) more (once-few more i)

by-few : (fault : IoFault) (failures : List ℕ) → sum (failures_by fault failures) ≤ sum failures + 1
by-few (io.Stack fault) failures = one-more (sum failures)
by-few (io.Device i) failures = once-few failures (i - 1)
by-few io.NoMemory failures = one-more (sum failures)

piece-fails : (d first : ℕ) (w : StackRecord) (n : ℕ) (found : Finding) (w' : StackRecord) → HasNoParity w.config → AnswersFinding w d first n found w' → sum (failures_of w'.leaves) ≤ sum (failures_of w.leaves) + failed_reads found
piece-fails d first w n (had bytes) w' none a = omega (arith, ap sum (a.any.fails (λ met. none)))
piece-fails d first w n (lost fault) w' none a = omega (arith, ap sum (a.any.fails (λ met. none)), by-few fault (failures_of w.leaves))
piece-fails d first w n (again fault) w' none a = omega (arith, ap sum (a.any.fails (λ met. none)), by-few fault (failures_of w.leaves))
piece-fails d first w n (probed behind bytes) w' none a = omega (arith, ap sum (a.any.fails (λ met. none)))
piece-fails d first w n (trimmed behind fault) w' none a = omega (arith, ap sum (a.any.fails (λ met. none)), by-few fault (failures_of w.leaves))
piece-fails d first w n copied w' none a = omega (arith, ap (λ (s : StackRecord). sum (failures_of s.leaves)) a)
piece-fails d first w n kept w' none a = omega (arith, ap (λ (s : StackRecord). sum (failures_of s.leaves)) a)

pub failures-are-few : FailuresAreFew
failures-are-few marks d first w [] w' none h = omega (arith, ap (λ (s : StackRecord). sum (failures_of s.leaves)) h)
failures-are-few marks d first w (s ∷ more) w' none h =
    let later : HasNoParity s.piece.after.config = subst HasNoParity (sym (found-config d first w s.piece.count s.piece.found s.piece.after h.0.answered)) none in
    omega (arith, piece-fails d first w s.piece.count s.piece.found s.piece.after none h.0.answered, failures-are-few marks d (first + length (marks_of s)) s.piece.after more w' later h.1)
