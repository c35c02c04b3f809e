-- What parts of requests leave, whatever kind they are of.
use Rattle.std.proofs.Common.{◌≡◌, ℕ, ◌+◌, ◌*◌, ◌/◌, ◌≤◌, length, take, drop, map, arith, Result}
use Rattle.std.proofs.lemmas.List.{length-take}
use Rattle.std.proofs.Math.Nat.{mul-le-mul_right}
use Rattle.stack_rules.specs.Records.{Configuration}
use Rattle.stack_rules.specs.Names.{mapped}
use Rattle.stack_rules.specs.Descend.{read_cost, write_cost}
use Rattle.stack_meaning.specs.declared.fault.IoFault.{IoFault}
use Rattle.stack_meaning.specs.Agreement.{AgreesOn}
use Rattle.stack_meaning.specs.Leaves.{steady_images, AreSteady, fixed_part}
use Rattle.stack_lines.specs.Touches.{leaves_of}
use Rattle.stack_engine.specs.KeptBlocks.{AreChecked}
use Rattle.stack_engine.specs.Stacks.{StackRecord, AnswerRecord}
use Rattle.request_queue.specs.Flights.{WorkRecord, reads, writes, work_cost}
use Rattle.request_queue.specs.Parts.{Part, PartRelation, read_part, bytes_part, write_part, AnyAnswer, SteadyAnswer, EachAnswer, ServesPart, AnyPart, SteadyPart, EachPart, part_of_work}
use Rattle.request_queue.specs.Runs.{moved_of}

-- the most leaf sectors that it moves
abbrev pub part_cost : Configuration → ℕ → Part → ℕ
part_cost c d (read_part n) = n * read_cost c (mapped d)
part_cost c d (bytes_part n) = n * read_cost c (mapped d)
part_cost c d (write_part bytes) = length bytes / 512 * write_cost c (mapped d)

-- what it leaves of the stack, and what it moved
pub record Keeps (v : StackRecord) (d : ℕ) (part : Part) (v' : StackRecord) : Type 0 where
  pub config : v'.config ≡ v.config
  pub capacity : v'.capacity ≡ v.capacity
  pub fixed : map fixed_part v'.leaves ≡ map fixed_part v.leaves
  pub moved : moved_of v' ≤ moved_of v + part_cost v.config d part

pub any-keeps : (v : StackRecord) (d first : ℕ) (part : Part) (answer : Result AnswerRecord IoFault) (v' : StackRecord) → AnyPart v d first part answer v' → Keeps v d part v'
any-keeps v d first (read_part n) answer v' p = record {
  config = p.answered.config;
  capacity = p.answered.capacity;
  fixed = p.answered.moved.moved.fixed;
  moved = omega (arith, p.answered.moved.moved.reads.sum, p.answered.moved.moved.writes.sum);
}
any-keeps v d first (bytes_part n) answer v' p = record {
  config = p.answered.config;
  capacity = p.answered.capacity;
  fixed = p.answered.moved.moved.fixed;
  moved = omega (arith, p.answered.moved.moved.reads.sum, p.answered.moved.moved.writes.sum);
}
any-keeps v d first (write_part bytes) answer v' p = record {
  config = p.answered.config;
  capacity = p.answered.capacity;
  fixed = p.answered.moved.moved.fixed;
  moved = omega (arith, p.answered.moved.moved.reads.sum, p.answered.moved.moved.writes.sum, p.answered.moved.within);
}

-- what is kept after it was checked
pub part-checked : {answers : PartRelation} (v : StackRecord) (d first : ℕ) (part : Part) (answer : Result AnswerRecord IoFault) (v' : StackRecord) → ServesPart answers v d first part answer v' → AreChecked v'
part-checked v d first (read_part n) answer v' p = p.kept.checked
part-checked v d first (bytes_part n) answer v' p = p.kept.checked
part-checked v d first (write_part bytes) answer v' p = p.kept

each-any_answer : (v : StackRecord) (d first : ℕ) (part : Part) (answer : Result AnswerRecord IoFault) (v' : StackRecord) → EachAnswer v d first part answer v' → AnyAnswer v d first part answer v'
each-any_answer v d first (read_part n) answer v' p = p.any
each-any_answer v d first (bytes_part n) answer v' p = p.any
each-any_answer v d first (write_part bytes) answer v' p = p.any

pub each-any : (v : StackRecord) (d first : ℕ) (part : Part) (answer : Result AnswerRecord IoFault) (v' : StackRecord) → EachPart v d first part answer v' → AnyPart v d first part answer v'
each-any v d first part answer v' p = record { answered = each-any_answer v d first part answer v' p.answered; kept = p.kept }

each-steady_answer : (v : StackRecord) (d first : ℕ) (part : Part) (answer : Result AnswerRecord IoFault) (v' : StackRecord) → AreSteady (leaves_of v.config (mapped d)) v.leaves → AgreesOn v.config (leaves_of v.config (mapped d)) (steady_images v.leaves)
    → EachAnswer v d first part answer v' → SteadyAnswer v d first part answer v'
each-steady_answer v d first (read_part n) answer v' steady agrees p = p.steady (record { steady = steady; agrees = λ meets. agrees })
each-steady_answer v d first (bytes_part n) answer v' steady agrees p = p.steady (record { steady = steady; agrees = λ meets. agrees })
each-steady_answer v d first (write_part bytes) answer v' steady agrees p = p.steady steady

pub each-steady : (v : StackRecord) (d first : ℕ) (part : Part) (answer : Result AnswerRecord IoFault) (v' : StackRecord) → AreSteady (leaves_of v.config (mapped d)) v.leaves → AgreesOn v.config (leaves_of v.config (mapped d)) (steady_images v.leaves)
    → EachPart v d first part answer v' → SteadyPart v d first part answer v'
each-steady v d first part answer v' steady agrees p = record { answered = each-steady_answer v d first part answer v' steady agrees p.answered; kept = p.kept }

pub part_cost-work : (c : Configuration) (d : ℕ) (work : WorkRecord) (done n : ℕ) → part_cost c d (part_of_work work done n) ≤ n * work_cost c d work
part_cost-work c d (reads got) done n = omega arith
part_cost-work c d (writes bytes) done n =
    let most : length (take (512 * n) (drop (512 * done) bytes)) ≤ 512 * n = omega (arith, length-take (512 * n) (drop (512 * done) bytes)) in
    let few : length (take (512 * n) (drop (512 * done) bytes)) / 512 ≤ n = omega (arith, most) in
    mul-le-mul_right (write_cost c (mapped d)) few

steady-any_answer : (v : StackRecord) (d first : ℕ) (part : Part) (answer : Result AnswerRecord IoFault) (v' : StackRecord) → SteadyAnswer v d first part answer v' → AnyAnswer v d first part answer v'
steady-any_answer v d first (read_part n) answer v' p = p.any
steady-any_answer v d first (bytes_part n) answer v' p = p.any
steady-any_answer v d first (write_part bytes) answer v' p = p.any

pub steady-any-part : (v : StackRecord) (d first : ℕ) (part : Part) (answer : Result AnswerRecord IoFault) (v' : StackRecord) → SteadyPart v d first part answer v' → AnyPart v d first part answer v'
steady-any-part v d first part answer v' p = record { answered = steady-any_answer v d first part answer v' p.answered; kept = p.kept }
