use Rattle.std.proofs.Common.{subst}
use Rattle.stack_rules.specs.Names.{mapped}
use Rattle.stack_meaning.specs.Leaves.{steady_images}
use Rattle.stack_meaning.specs.Outcomes.{Outcome}
use Rattle.stack_meaning.specs.Reading.{Answers}
use Rattle.stack_meaning.proofs.lemmas.LeavesBeneathLemmas.{spans-alike}
use Rattle.stack_engine.specs.Stacks.{AnswerRecord}
use Rattle.stack_engine.proofs.laws.other_leaves_change_no_answer.Goals as goal

pub returns : goal.returns
returns c = λ w w' d first n answer each steady images same.
    subst (λ (o : Outcome). Answers {A = AnswerRecord} (λ got. got.bytes) o answer) (spans-alike (steady_images w.leaves) images w.config (mapped d) same first n) (each.steady steady).exact
