use Rattle.std.proofs.Common.{ℕ, List, ap, ◌∙◌, subst}
use Rattle.std.specs.Borrow.{Bor}
use Rattle.stack_rules.specs.Records.{Configuration}
use Rattle.stack_engine.specs.Stacks.{StackRecord}
use Rattle.nbd_protocol.specs.Exports.{HasNoExport, IsExport, export_record}
use Rattle.nbd_protocol.proofs.lemmas.ExportLemmas.{only-export}
use Rattle.volumes.proofs.service.serve_device.Goals as goal

pub returns-in_default-clause-none : goal.returns-in_default-clause-none
returns-in_default-clause-none g c =
    let at = c.config.ensures.value ∙ ap (λ (v : StackRecord). v.config) c.stack.ensures in
    subst (λ (x : Configuration). HasNoExport x c.args.name.now) at c.in_default.ensures.none

pub serve-requires : goal.serve-requires
serve-requires g c =
    let e = export_record c.in-Some.export in
    let at = c.config.ensures.value ∙ ap (λ (v : StackRecord). v.config) c.stack.ensures in
    only-export _ c.in-Some.export (subst (λ (x : Configuration). IsExport x e) at c.in-Some.ensures.some.0)

pub returns-clause-some : goal.returns-clause-some
returns-clause-some g c =
    let e = export_record c.in-Some.export in
    let at = c.config.ensures.value ∙ ap (λ (v : StackRecord). v.config) c.stack.ensures in
    record {
      export = e;
      named = ap (λ (b : Bor (List ℕ)). b.now) c.in-Some.ensures.some.1;
      is = subst (λ (x : Configuration). IsExport x e) at c.in-Some.ensures.some.0;
      log = c.serve.new.log;
      service = c.serve.ensures.service;
      reads = c.serve.ensures.reader;
      writes = c.serve.ensures.writer;
    }
