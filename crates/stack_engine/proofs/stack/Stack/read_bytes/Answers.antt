use Rattle.std.proofs.Common.{inr, refl, ◌/◌, ℕ, List, length, map, Result, ap, subst}
use Rattle.stack_engine.specs.Pieces.{PieceGives, ReadRestores}
use Rattle.stack_engine.proofs.lemmas.RestoredLemmas.{reads-grow}
use Rattle.stack_engine.proofs.LeafCallLemmas.{makes-as}
use Rattle.stack_meaning.specs.declared.fault.IoFault.{IoFault}
use Rattle.stack_rules.specs.Names.{mapped}
use Rattle.stack_lines.specs.Budgets.{ReadsAtMost, budget}
use Rattle.stack_meaning.specs.Meaning.{said_at}
use Rattle.stack_meaning.specs.Reading.{MeetVerity, buffer_answer}
use Rattle.stack_meaning.specs.Stops.{ReadStops}
use Rattle.stack_engine.specs.Stacks.{StackRecord}
use Rattle.stack_engine.specs.Pieces.{IsCertainPiece, stack_with}
use Rattle.stack_engine.specs.Bytes.{AnyBytes, SteadyBytes}
use Rattle.stack_engine.proofs.BytesLemmas.{each-bytes}
use Rattle.stack_engine.proofs.CachedLemmas.{cached-checked}
use Rattle.stack_lines.specs.Caches.{StackCache}
use Rattle.stack_engine.specs.KeptBlocks.{ReadKeeps}
use Rattle.stack_engine.proofs.lemmas.PieceLemmas.{piece-sound}
use Rattle.stack_engine.proofs.TouchedLemmas.{buffer-touched}
use Rattle.stack_engine.proofs.stack.Stack.read_bytes.Goals as goal

pub invariant_of-self : goal.invariant_of-self
invariant_of-self g c = record { sound = piece-sound c.self.inside.config c.self.invariant.sound c.read_device.ensures.reads.reads.got.moved; cached = c.read_device.ensures.step.cached.sound }

pub returns-clause-any : goal.returns-clause-any
returns-clause-any g c =
    let n : ℕ = length c.args.out.now / 512 in
    let answer : Result (List ℕ) IoFault = buffer_answer c.read_device.result c.read_device.new.out in
    let after : StackRecord = stack_with c.self.inside.config (map g.D.BlockDev.state c.read_device.new.backing.devices.items) c.read_device.new.backing.cache c.read_device.new.backing.restored in
    subst (λ (w : StackRecord). AnyBytes w c.args.d.0 c.args.first n answer after) c.self.view_is (each-bytes c.self.inside.config c.args.d.0 c.args.first n answer c.new-dropped.ensures.items c.read_device.ensures.reads (buffer-touched c.read_device.result c.read_device.new.out c.read_device.ensures.step.touches) c.self.inside.backing.cache c.read_device.new.backing.cache c.read_device.ensures.step.cached.capacity).any

pub returns-clause-steady : goal.returns-clause-steady
returns-clause-steady g c =
    let n : ℕ = length c.args.out.now / 512 in
    let answer : Result (List ℕ) IoFault = buffer_answer c.read_device.result c.read_device.new.out in
    let after : StackRecord = stack_with c.self.inside.config (map g.D.BlockDev.state c.read_device.new.backing.devices.items) c.read_device.new.backing.cache c.read_device.new.backing.restored in
    subst (λ (w : StackRecord). IsCertainPiece w c.args.d.0 c.args.first n → SteadyBytes w c.args.d.0 c.args.first n answer after) c.self.view_is
    (each-bytes c.self.inside.config c.args.d.0 c.args.first n answer c.new-dropped.ensures.items c.read_device.ensures.reads (buffer-touched c.read_device.result c.read_device.new.out c.read_device.ensures.step.touches) c.self.inside.backing.cache c.read_device.new.backing.cache c.read_device.ensures.step.cached.capacity).steady

pub returns-clause-stops : goal.returns-clause-stops
returns-clause-stops g c =
    let n : ℕ = length c.args.out.now / 512 in
    let new = map g.D.BlockDev.state c.read_device.new.backing.devices.items in
    subst (λ (w : StackRecord). (MeetVerity (said_at w.config (mapped c.args.d.0)) c.args.first n → ⊥) → ReadStops (said_at w.config (mapped c.args.d.0)) c.args.first n w.leaves new c.read_device.result) c.self.view_is
    c.read_device.ensures.step.plain.stops

pub returns-clause-spent : goal.returns-clause-spent
returns-clause-spent g c =
    subst (λ (w : StackRecord). ReadsAtMost (budget w.config (mapped c.args.d.0) c.args.first (length c.args.out.now / 512)) w.leaves (map g.D.BlockDev.state c.read_device.new.backing.devices.items)) c.self.view_is
    c.read_device.ensures.step.spent

pub returns-clause-kept : goal.returns-clause-kept
returns-clause-kept g c =
    let n : ℕ = length c.args.out.now / 512 in
    let after : StackRecord = stack_with c.self.inside.config (map g.D.BlockDev.state c.read_device.new.backing.devices.items) c.read_device.new.backing.cache c.read_device.new.backing.restored in
    subst (λ (w : StackRecord). ReadKeeps w c.args.d.0 c.args.first n after) c.self.view_is
    (record { same = λ none. ap (λ (k : StackCache). k.blocks.blocks) (c.read_device.ensures.step.same none); checked = cached-checked c.self.inside.config c.read_device.ensures.step.cached.sound })

pub returns-clause-given : goal.returns-clause-given
returns-clause-given g c =
    let state = g.D.BlockDev.state in
    let does = g.D.BlockDev.does in
    let n : ℕ = length c.args.out.now / 512 in
    let answer : Result (List ℕ) IoFault = buffer_answer c.read_device.result c.read_device.new.out in
    let devices = c.self.inside.backing.devices.items in
    let new = c.read_device.new.backing.devices.items in
    let after : StackRecord = stack_with c.self.inside.config (map state new) c.read_device.new.backing.cache c.read_device.new.backing.restored in
    subst (λ (w : StackRecord). PieceGives state does w (c.args.d.0, c.args.first) n answer after) c.self.view_is
    (record { before = devices; after = new; was = refl; is = refl; made = makes-as (λ calls a. inr a) c.read_device.ensures.given.made })

pub returns-clause-restored : goal.returns-clause-restored
returns-clause-restored g c =
    let n : ℕ = length c.args.out.now / 512 in
    let after : StackRecord = stack_with c.self.inside.config (map g.D.BlockDev.state c.read_device.new.backing.devices.items) c.read_device.new.backing.cache c.read_device.new.backing.restored in
    subst (λ (w : StackRecord). ReadRestores w c.args.d.0 c.args.first n after) c.self.view_is
    (record { grows = reads-grow c.read_device.ensures.given.made.are; same = c.read_device.ensures.step.uncounted })
