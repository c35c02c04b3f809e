use Rattle.std.proofs.Common.{◌≡◌, ◌∙◌, ℕ, List, sym, ap}
use Rattle.std.proofs.lemmas.Result.{err_from_is_err_and}
use Rattle.std.proofs.Math.Path.{fun_ext}
use Rattle.stack_rules.specs.declared.lower.Lower.{Lower}
use Rattle.linux_rules.specs.Blocks.{block_in, logical_block}
use Rattle.linux_rules.specs.Rules.{linux_refusal, stack_refusal}
use Rattle.linux_rules.proofs.rules.check_linux.Goals as goal

pub returns-in_err-blocks : goal.returns-in_err-blocks
returns-in_err-blocks c = let p = err_from_is_err_and c.from_residual.result c.from_residual.ensures.1 in rw (p.1, p.2) c.in_err-blocks.ensures.err

pub returns-in-Some : goal.returns-in-Some
unfolding linux_refusal
returns-in-Some c =
    let same : (x : Lower) → block_in c.in_ok-blocks.blocks.items x ≡ logical_block c.args.config.now x = c.in_ok-blocks.ensures.ok in
    let given = ap (λ (blocks : List ℕ). stack_refusal c.args.config.now (block_in blocks)) c.as_slice.ensures.value in
    sym (ap (stack_refusal c.args.config.now) (fun_ext same)) ∙ sym given ∙ sym c.in-Some.ensures

pub returns : goal.returns
unfolding linux_refusal
returns c =
    let same : (x : Lower) → block_in c.in_ok-blocks.blocks.items x ≡ logical_block c.args.config.now x = c.in_ok-blocks.ensures.ok in
    let given = ap (λ (blocks : List ℕ). stack_refusal c.args.config.now (block_in blocks)) c.as_slice.ensures.value in
    sym (ap (stack_refusal c.args.config.now) (fun_ext same)) ∙ sym given ∙ sym c.in-None.ensures
