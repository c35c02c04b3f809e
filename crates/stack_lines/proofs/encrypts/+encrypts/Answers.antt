use Rattle.std.proofs.Common.{◌≡◌, ◌↔◌, ◌≤◌, ◌+◌, IsTrue, true, refl, sym, subst, arith}
use Rattle.stack_rules.specs.declared.lower.Lower.{Lower}
use Rattle.stack_rules.specs.Names.{mapped}
use Rattle.stack_lines.specs.declared.source.Source.{Source}
use Rattle.stack_meaning.specs.Meaning.{said_at}
use Rattle.stack_lines.specs.Sources.{source_said}
use Rattle.stack_lines.specs.Writing.{SomeEncrypt}
use Rattle.stack_meaning.proofs.lemmas.LoadedLemmas.{size-small}
use Rattle.stack_lines.proofs.lemmas.SourceLemmas.{served-depth, served-holds}
use Rattle.stack_lines.proofs.lemmas.EncryptLemmas.{leaf-encrypts, block-encrypts, blocks-encrypt, units-some, unit_part-some, below-some, some-below, run-some, none-more}
use Rattle.stack_lines.proofs.encrypts.+encrypts.Goals as goal

pub device_encrypts-overflow_add-first : goal.device_encrypts-overflow_add-first
device_encrypts-overflow_add-first t c = let small = size-small c.args.config.now (mapped c.args.d.0) c.requires.loaded in omega (arith, small, c.requires.inside)

pub device_encrypts-run_encrypts-requires : goal.device_encrypts-run_encrypts-requires
device_encrypts-run_encrypts-requires t c =
    let config = c.args.config.now in
    let at = c.args.first + c.loop-at.at in
    let run = c.run_at-run.result in
    let served = c.run_at-run.ensures.served in
    let deep = served-depth config c.args.d.0 at run.count run.source c.requires.loaded c.run_at-run.ensures.some served in
    (omega (arith, deep), (c.requires.loaded, (c.run_at-run.ensures.some, served-holds config c.args.d.0 at run.count run.source served)))

pub device_encrypts-returns-then-run_encrypts : goal.device_encrypts-returns-then-run_encrypts
device_encrypts-returns-then-run_encrypts t c =
    let run = c.run_at-run.result in
    let inside : c.loop-at.at + run.count ≤ c.args.count = omega (arith, c.run_at-run.ensures.most, c.loop-at-test.true) in (
      λ yes. run-some c.args.config.now c.args.d.0 c.args.first c.loop-at.at run.count run.source c.requires.loaded c.run_at-run.ensures.served run.count c.args.count (omega arith) inside (c.run_encrypts.ensures.0 c.if-run_encrypts.true),
      λ some. refl,
    )

pub device_encrypts-loop-at-preserved : goal.device_encrypts-loop-at-preserved
device_encrypts-loop-at-preserved t c =
    let run = c.run_at-run.result in
    record {
      within = omega (arith, c.run_at-run.ensures.most, c.loop-at-test.true);
      none = none-more c.args.config.now c.args.d.0 c.args.first c.loop-at.at run.count run.source c.requires.loaded c.run_at-run.ensures.served c.loop-at.invariant.none
          (λ some. let yes : c.run_encrypts.result ≡ true = c.run_encrypts.ensures.1 some in let no = c.if-run_encrypts.false in cc);
    }

pub lower_encrypts-returns-in-Leaf : goal.lower_encrypts-returns-in-Leaf
lower_encrypts-returns-in-Leaf t c =
    let encrypt : Lower → Type 0 = λ x. SomeEncrypt (said_at c.args.config.now x) c.args.first c.args.count in
    (λ yes. cc, λ some. absurd (leaf-encrypts c.args.config.now _ c.args.first c.args.count (subst encrypt c.in-Leaf.is some)))

pub lower_encrypts-returns-in-Device : goal.lower_encrypts-returns-in-Device
lower_encrypts-returns-in-Device t c =
    subst (λ (x : Lower). IsTrue c.device_encrypts.result ↔ SomeEncrypt (said_at c.args.config.now x) c.args.first c.args.count) (sym c.in-Device.is) c.device_encrypts.ensures

pub run_encrypts-returns-in-Below : goal.run_encrypts-returns-in-Below
run_encrypts-returns-in-Below t c =
    let config = c.args.config.now in
    let run = c.in-Below in
    subst (λ (s : Source). IsTrue c.lower_encrypts.result ↔ SomeEncrypt (source_said config s) 0 c.args.count) (sym run.is)
    (λ yes. below-some config run.lower run.first c.args.count (c.lower_encrypts.ensures.0 yes), λ some. c.lower_encrypts.ensures.1 (some-below config run.lower run.first c.args.count some))

pub run_encrypts-returns-in-Block : goal.run_encrypts-returns-in-Block
run_encrypts-returns-in-Block t c =
    let config = c.args.config.now in
    let none : SomeEncrypt (source_said config c.args.source) 0 c.args.count → ⊥ =
    subst (λ (s : Source). SomeEncrypt (source_said config s) 0 c.args.count → ⊥) (sym c.in-Block.is) (block-encrypts config c.in-Block.field-0 c.args.count) in
    (λ yes. cc, λ some. absurd (none some))

pub run_encrypts-returns-in-Blocks : goal.run_encrypts-returns-in-Blocks
run_encrypts-returns-in-Blocks t c =
    let config = c.args.config.now in
    let none : SomeEncrypt (source_said config c.args.source) 0 c.args.count → ⊥ =
    subst (λ (s : Source). SomeEncrypt (source_said config s) 0 c.args.count → ⊥) (sym c.in-Blocks.is) (blocks-encrypt config c.in-Blocks.field-0 c.args.count) in
    (λ yes. cc, λ some. absurd (none some))

pub run_encrypts-returns-in-Units : goal.run_encrypts-returns-in-Units
run_encrypts-returns-in-Units t c =
    let config = c.args.config.now in
    (λ yes. subst (λ (s : Source). SomeEncrypt (source_said config s) 0 c.args.count) (sym c.in-Units.is) (units-some config c.in-Units.field-0 c.args.count c.requires.some), λ some. refl)

pub run_encrypts-returns-in-UnitPart : goal.run_encrypts-returns-in-UnitPart
run_encrypts-returns-in-UnitPart t c =
    let config = c.args.config.now in
    (λ yes. subst (λ (s : Source). SomeEncrypt (source_said config s) 0 c.args.count) (sym c.in-UnitPart.is) (unit_part-some config c.in-UnitPart.field-0 c.args.count c.requires.some), λ some. refl)
