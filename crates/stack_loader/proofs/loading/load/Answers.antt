use Rattle.std.proofs.Common.{◌≡◌, List, None, ap, subst, ◌∙◌}
use Rattle.std.proofs.lemmas.Result.{err_from_is_err_and}
use Rattle.dm_table.specs.declared.stack.Entry.{Entry}
use Rattle.stack_rules.specs.declared.refusal.LoadFault.{LoadFault}
use Rattle.stack_rules.specs.declared.refusal.LoadFault.TheVariants.{Refused, NoMemory}
use Rattle.stack_rules.specs.Records.{Configuration, configuration}
use Rattle.stack_loader.specs.Next.{IsNext}
use Rattle.stack_rules.specs.Passing.{IsFirst}
use Rattle.stack_rules.specs.Rules.{first, load_rules, first_refusal}
use Rattle.stack_rules.proofs.lemmas.ValidLineLemmas.{few}
use Rattle.stack_loader.proofs.LoadLemmas.{moved, kept-next, refused-first}
use Rattle.stack_loader.proofs.CycleRefusalLemmas.{refusal-of}
use Rattle.stack_rules.proofs.lemmas.PassingLemmas.{IsFirst-passed}
use Rattle.stack_loader.proofs.loading.load.Goals as goal

pub next_load-requires-clause-devices : goal.next_load-requires-clause-devices
next_load-requires-clause-devices c = rw c.devices.ensures.value (few c.args.config.now c.devices.ensures.loaded.valid)

pub next_load-requires-clause-leaves : goal.next_load-requires-clause-leaves
next_load-requires-clause-leaves c = rw c.leaves.ensures c.devices.ensures.loaded.leaves.count

pub next_load-requires-clause-names : goal.next_load-requires-clause-names
next_load-requires-clause-names c = rw c.devices.ensures.value c.devices.ensures.loaded.mapped

pub next_load-requires-clause-grammar : goal.next_load-requires-clause-grammar
next_load-requires-clause-grammar c = rw c.as_slice.ensures.value c.as_slice.ensures.grammar

pub put-requires : goal.put-requires
put-requires c =
    let old : Configuration = c.args.config.now in
    let P : Configuration → List Entry → Type 0 = λ c0 text. (first (load_rules c0 text) ≡ None) × IsNext c0 text c.in_ok-next.next in
    let is = moved P c.leaves.result.now old.leaves c.devices.result.now old.devices c.as_slice.result.now c.args.text.now c.leaves.ensures c.devices.ensures.value c.as_slice.ensures.value c.in_ok-next.ensures in
    kept-next old c.args.text.now c.in_ok-next.next c.devices.ensures.loaded c.as_slice.ensures.grammar is.1

pub returns : goal.returns
unfolding first_refusal
returns c =
    let old : Configuration = c.args.config.now in
    let P : Configuration → List Entry → Type 0 = λ c0 text. (first (load_rules c0 text) ≡ None) × IsNext c0 text c.in_ok-next.next in
    let is = moved P c.leaves.result.now old.leaves c.devices.result.now old.devices c.as_slice.result.now c.args.text.now c.leaves.ensures c.devices.ensures.value c.as_slice.ensures.value c.in_ok-next.ensures in
    record {
      ok = is.0;
      after = c.put.ensures ∙ ap (configuration old.leaves) is.1.devices;
      refused = λ r e. cc;
      memory = λ e. cc;
      same = tt;
    }

pub returns-in_err-next-clause-refused : goal.returns-in_err-next-clause-refused
unfolding first_refusal
returns-in_err-next-clause-refused c = λ r e.
    let old : Configuration = c.args.config.now in
    let p = err_from_is_err_and c.from_residual.result c.from_residual.ensures.1 in
    let fault : c.in_err-next.field-0.0 ≡ Refused r = cc in
    let P : Configuration → List Entry → Type 0 = λ c0 text. IsFirst c.in_err-next.field-0.0 (load_rules c0 text) in
    let given : Configuration = configuration c.leaves.result.now c.devices.result.now in
    let is = moved P c.leaves.result.now old.leaves c.devices.result.now old.devices c.as_slice.result.now c.args.text.now c.leaves.ensures c.devices.ensures.value c.as_slice.ensures.value
    (IsFirst-passed (IsNext given c.as_slice.result.now) c.in_err-next.field-0.0 (load_rules given c.as_slice.result.now) c.in_err-next.ensures) in
    refusal-of old c.args.text.now r (refused-first c.in_err-next.field-0.0 (load_rules old c.args.text.now) r fault is)

pub returns-in_err-next-clause-memory : goal.returns-in_err-next-clause-memory
returns-in_err-next-clause-memory c = λ e.
    let p = err_from_is_err_and c.from_residual.result c.from_residual.ensures.1 in
    let fault : c.in_err-next.field-0.0 ≡ NoMemory = cc in
    let given : Configuration = configuration c.leaves.result.now c.devices.result.now in
    let P : LoadFault → Type 0 = λ fault. IsFirst fault (load_rules given c.as_slice.result.now) in
    subst P fault (IsFirst-passed (IsNext given c.as_slice.result.now) c.in_err-next.field-0.0 (load_rules given c.as_slice.result.now) c.in_err-next.ensures)
