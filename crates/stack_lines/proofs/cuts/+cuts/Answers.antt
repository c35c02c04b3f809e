use Rattle.std.proofs.Common.{◌≡◌, ◌+◌, ◌-◌, ◌≤◌, ◌⊎◌, false, refl, inl, inr, sym, ap, ◌∙◌, subst, arith}
use Rattle.std.proofs.lemmas.Nat.{mod_below}
use Rattle.stack_rules.specs.declared.lower.Lower.{Lower}
use Rattle.stack_lines.specs.declared.source.Source.{Source}
use Rattle.stack_lines.specs.Cuts.{PutsInSteps}
use Rattle.stack_meaning.specs.Puts.{in_one_run, put_on}
use Rattle.stack_meaning.proofs.lemmas.LoadedLemmas.{size-small}
use Rattle.stack_lines.proofs.lemmas.SourceLemmas.{served-depth, served-holds}
use Rattle.stack_lines.proofs.lemmas.WriteSourceLemmas.{served-may_write}
use Rattle.stack_lines.proofs.CutLemmas.{leaf-cut, device-cut}
use Rattle.stack_lines.proofs.lemmas.EncryptLemmas.{units-some, unit_part-some, below-some, run-some}
use Rattle.stack_lines.specs.Sources.{source_said}
use Rattle.stack_lines.specs.Writing.{SomeEncrypt, SourceMayWrite}
use Rattle.stack_meaning.specs.Meaning.{said_at}
use Rattle.stack_rules.specs.Names.{mapped}
use Rattle.stack_lines.proofs.cuts.+cuts.Goals as goal

pub lower_cuts-returns-in-Leaf-clause-puts : goal.lower_cuts-returns-in-Leaf-clause-puts
lower_cuts-returns-in-Leaf-clause-puts t c sure =
    subst (λ (x : Lower). PutsInSteps (put_on c.args.config.now x) c.args.first c.args.count c.args.steps) (sym c.in-Leaf.is) (leaf-cut c.args.config.now c.in-Leaf.field-0 c.args.first c.args.count c.args.steps)

pub device_cuts-overflow_add-first : goal.device_cuts-overflow_add-first
device_cuts-overflow_add-first t c = let small = size-small c.args.config.now (mapped c.args.d.0) c.requires.loaded in omega (arith, small, c.requires.sectors.holds, c.loop-at-test.true)

pub device_cuts-overflow_add-skip : goal.device_cuts-overflow_add-skip
device_cuts-overflow_add-skip t c =
    let small = size-small c.args.config.now (mapped c.args.d.0) c.requires.loaded in omega (arith, small, c.requires.sectors.holds, c.loop-at-test.true, c.requires.sectors.steps.begins, c.requires.sectors.steps.few)

pub device_cuts-run_cuts-requires : goal.device_cuts-run_cuts-requires
device_cuts-run_cuts-requires t c =
    let config = c.args.config.now in
    let at = c.args.first + c.loop-at.at in
    let run = c.run_at-run.result in
    let some = c.run_at-run.ensures.some in
    let served = c.run_at-run.ensures.served in
    let deep = served-depth config c.args.d.0 at run.count run.source c.requires.loaded some served in (
      omega (arith, deep),
      (
        c.requires.loaded,
        record {
          allowed = served-may_write config c.args.d.0 at run.count run.source c.requires.loaded some c.requires.sectors.allowed served;
          holds = served-holds config c.args.d.0 at run.count run.source served;
          steps = record { begins = mod_below (c.args.steps.skip + c.loop-at.at) c.args.steps.size (omega (arith, c.requires.sectors.steps.begins)); few = c.requires.sectors.steps.few };
        },
      ),
    )

pub device_cuts-loop-at-preserved : goal.device_cuts-loop-at-preserved
device_cuts-loop-at-preserved t c =
    let config = c.args.config.now in
    let d = c.args.d.0 in
    let first = c.args.first in
    let at = c.loop-at.at in
    let run = c.run_at-run.result in
    let some = c.run_at-run.ensures.some in
    let served = c.run_at-run.ensures.served in
    let may = served-may_write config d (first + at) run.count run.source c.requires.loaded some c.requires.sectors.allowed served in
    let low = c.loop-at-test.true in
    let apart : (at ≡ 0) ⊎ (in_one_run config d (first + at - 1) ≡ false) = elim c.loop-at.invariant.apart [
      | inl none ↦ inl none
      | inr other ↦ elim other [
        | inl all ↦ absurd (omega (arith, all, low))
        | inr cut ↦ inr cut
      ]
    ] in
    record {
      within = omega (arith, c.run_at-run.ensures.most, low);
      apart = elim c.run_at-run.ensures.longest [
        | inl all ↦ inr (inl (omega (arith, all, low)))
        | inr cut ↦ let e : first + (at + run.count) - 1 ≡ first + at + run.count - 1 = omega arith in inr (inr (ap (in_one_run config d) e ∙ cut))
      ];
      so_far = device-cut config d first at run.count run.source c.args.steps c.requires.loaded (omega (arith, c.requires.sectors.steps.begins)) may apart c.loop-at.invariant.so_far served (c.if-not-run_cuts.ensures.puts refl);
    }

-- ---- where it isn't known, some sectors are encrypted

pub lower_cuts-returns-in-Device-clause-units : goal.lower_cuts-returns-in-Device-clause-units
lower_cuts-returns-in-Device-clause-units t c cut =
    subst (λ (x : Lower). SomeEncrypt (said_at c.args.config.now x) c.args.first c.args.count) (sym c.in-Device.is) (c.device_cuts.ensures.units cut)

pub run_cuts-returns-in-Below-clause-units : goal.run_cuts-returns-in-Below-clause-units
run_cuts-returns-in-Below-clause-units t c cut =
    let config = c.args.config.now in
    let run = c.in-Below in
    subst (λ (s : Source). SomeEncrypt (source_said config s) 0 c.args.count) (sym run.is) (below-some config run.lower run.first c.args.count (c.lower_cuts.ensures.units cut))

pub run_cuts-returns-in-Units-clause-units : goal.run_cuts-returns-in-Units-clause-units
run_cuts-returns-in-Units-clause-units t c cut =
    subst (λ (s : Source). SomeEncrypt (source_said c.args.config.now s) 0 c.args.count) (sym c.in-Units.is) (units-some c.args.config.now c.in-Units.part c.args.count (omega (arith, c.if-count-left.false)))

pub run_cuts-returns-in-UnitPart-clause-units : goal.run_cuts-returns-in-UnitPart-clause-units
run_cuts-returns-in-UnitPart-clause-units t c cut =
    subst (λ (s : Source). SomeEncrypt (source_said c.args.config.now s) 0 c.args.count) (sym c.in-UnitPart.is) (unit_part-some c.args.config.now c.in-UnitPart.field-0 c.args.count (omega (arith, c.if-count-left.false)))

pub run_cuts-returns-in-Block-clause-units : goal.run_cuts-returns-in-Block-clause-units
run_cuts-returns-in-Block-clause-units t c cut = absurd (subst (SourceMayWrite c.args.config.now) c.in-Block.is c.requires.sectors.allowed)

pub run_cuts-returns-in-Blocks-clause-units : goal.run_cuts-returns-in-Blocks-clause-units
run_cuts-returns-in-Blocks-clause-units t c cut = absurd (subst (SourceMayWrite c.args.config.now) c.in-Blocks.is c.requires.sectors.allowed)

pub device_cuts-returns-then-not-run_cuts-clause-units : goal.device_cuts-returns-then-not-run_cuts-clause-units
device_cuts-returns-then-not-run_cuts-clause-units t c cut =
    let run = c.run_at-run.result in
    let inside : c.loop-at.at + run.count ≤ c.args.count = omega (arith, c.run_at-run.ensures.most, c.loop-at-test.true) in
    run-some c.args.config.now c.args.d.0 c.args.first c.loop-at.at run.count run.source c.requires.loaded c.run_at-run.ensures.served run.count c.args.count (omega arith) inside (c.if-not-run_cuts.ensures.units refl)
