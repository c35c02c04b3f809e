use Rattle.std.proofs.Common.{inl, inr, ◌≡◌, ◌/◌, ℕ, List, [], length, map, Result, Ok, refl, sym, ap, ◌∙◌, subst, arith}
use Rattle.std.specs.Prelude.{IfErr}
use Rattle.std.proofs.lemmas.List.{with_items_is}
use Rattle.block_device.specs.Call.{DeviceDoes}
use Rattle.stack_rules.specs.Names.{mapped}
use Rattle.stack_lines.specs.declared.source.Source.TheVariants.{Below}
use Rattle.stack_engine.specs.SectorCalls.{Gives}
use Rattle.stack_engine.specs.Pieces.{PieceGives, ReadRestores, answer_bytes}
use Rattle.stack_engine.specs.Backings.{served}
use Rattle.stack_engine.proofs.lemmas.RestoredLemmas.{reads-grow}
use Rattle.stack_engine.proofs.LeafCallLemmas.{makes-none, makes-as}
use Rattle.stack_meaning.specs.declared.fault.IoFault.{IoFault}
use Rattle.stack_meaning.specs.Found.{FoundRecord}
use Rattle.stack_meaning.specs.Meaning.{Said, said_at}
use Rattle.stack_meaning.specs.Reading.{Gets, MeetVerity, IsPlain, buffer_answer}
use Rattle.stack_meaning.specs.Stops.{ReadStops}
use Rattle.stack_lines.specs.Touches.{NamesOneOf, failures_behind, leaves_of}
use Rattle.stack_lines.specs.Budgets.{ReadsAtMost, budget}
use Rattle.stack_lines.proofs.lemmas.AskLemmas.{EndAlike, asks-as, asks-less}
use Rattle.stack_engine.specs.Stacks.{StackRecord, AnswerRecord}
use Rattle.stack_engine.specs.Pieces.{EachPiece, stack_with}
use Rattle.stack_engine.proofs.CachedLemmas.{cached-checked}
use Rattle.stack_lines.specs.Caches.{StackCache}
use Rattle.stack_engine.specs.KeptBlocks.{AreChecked, ReadKeeps}
use Rattle.stack_engine.specs.declared.path.Chains.TheVariants.{Kept}
use Rattle.stack_engine.specs.Keeping.{ReadsAs}
use Rattle.stack_engine.proofs.KeepingLemmas.{kept-reads}
use Rattle.stack_engine.proofs.lemmas.PieceLemmas.{piece_expected, each-piece, piece-sound, piece_ok, piece_err}
use Rattle.stack_engine.proofs.stack.Stack.read_piece.Goals.{in-Err-read_device, in-Ok-read_device}
use Rattle.stack_engine.proofs.stack.Stack.read_piece.Given as given
use Rattle.stack_engine.proofs.stack.Stack.read_piece.Goals as goal

-- the buffer has n sectors
count : (g : given.Over) (c : goal.Joined-read_device g) → length c.as_mut_slice.result.now / 512 ≡ c.args.n
count g c =
    let len : length c.as_mut_slice.result.now ≡ length c.in-Ok.bytes.items = ap (λ l. length l) c.as_mut_slice.ensures.value in
    omega (arith, len, c.in-Ok.ensures.ok, c.in-Ok.bytes.ok.0)

-- what the read did, of the stack's own devices
reads : (g : given.Over) (c : goal.Joined-read_device g)
    → ReadsAs Kept c.self.inside.config (mapped c.args.d.0) c.args.first c.args.n
    (record { old = map g.D.BlockDev.state c.self.inside.backing.devices.items; new = map g.D.BlockDev.state c.read_device.new.backing.devices.items; before = []; after = c.read_device.new.found.items })
    (buffer_answer c.read_device.result c.read_device.new.out)
reads g c =
    let state = g.D.BlockDev.state in
    let R : ℕ → List FoundRecord → Type 0 = λ k u.
    ReadsAs Kept c.self.inside.config (mapped c.args.d.0) c.args.first k
    (record { old = map state c.self.inside.backing.devices.items; new = map state c.read_device.new.backing.devices.items; before = u; after = c.read_device.new.found.items })
    (buffer_answer c.read_device.result c.read_device.new.out) in
    subst (λ k. R k []) (count g c) (subst (R (length c.as_mut_slice.result.now / 512)) c.new-chains.ensures.items c.read_device.ensures.reads)

piece : (g : given.Over) (c : goal.Joined-read_device g)
    → EachPiece c.args.self.now c.args.d.0 c.args.first c.args.n c.match-read_device.result (stack_with c.self.inside.config (map g.D.BlockDev.state c.read_device.new.backing.devices.items) c.read_device.new.backing.cache c.read_device.new.backing.restored)
piece g c =
    let state = g.D.BlockDev.state in
    let config = c.self.inside.config in
    let old = map state c.self.inside.backing.devices.items in
    let new = map state c.read_device.new.backing.devices.items in
    let wanted = piece_expected config (mapped c.args.d.0) c.args.first c.args.n in
    let held : length c.read_device.new.out ≡ c.in-Ok.bytes.len = c.read_device.auto.out ∙ ap (λ (l : List ℕ). length l) c.as_mut_slice.ensures.value ∙ sym c.in-Ok.bytes.ok.0 in
    let Is : Result Unit IoFault → Type 0 = λ r.
    ReadsAs Kept config (mapped c.args.d.0) c.args.first c.args.n (record { old = old; new = new; before = []; after = c.read_device.new.found.items }) (buffer_answer r c.read_device.new.out) in
    let got : Gets wanted old new c.match-read_device.result = elim c.match-read_device.branch [
      | in-Err-read_device w ↦ subst (Gets wanted old new) (sym w.result-is)
          (piece_err config (mapped c.args.d.0) c.args.first c.args.n _ (kept-reads (subst Is w.in-Err-read_device.is (reads g c))))
      | in-Ok-read_device w ↦ subst (Gets wanted old new) (sym w.result-is)
          (subst (λ (b : List ℕ). Gets wanted old new (Ok (record { bytes = b; chains = c.read_device.new.found.items }))) (sym (with_items_is c.in-Ok.bytes c.read_device.new.out held))
          (piece_ok config (mapped c.args.d.0) c.args.first c.args.n (kept-reads (subst Is w.in-Ok-read_device.is (reads g c))) (reads g c).distinct))
    ] in
    let these = leaves_of config (mapped c.args.d.0) in
    let Names : Result AnswerRecord IoFault → Type 0 = λ r. IfErr r (NamesOneOf these) in
    let fault : Names c.match-read_device.result = elim c.match-read_device.branch [
      | in-Err-read_device w ↦ subst Names (sym w.result-is) (subst (λ (r : Result Unit IoFault). IfErr r (NamesOneOf these)) w.in-Err-read_device.is c.read_device.ensures.step.touches.fault)
      | in-Ok-read_device w ↦ subst Names (sym w.result-is) tt
    ] in
    let Alike : Result AnswerRecord IoFault → Type 0 = λ r. EndAlike r c.read_device.result in
    let alike : Alike c.match-read_device.result = elim c.match-read_device.branch [
      | in-Err-read_device w ↦ subst Alike (sym w.result-is) (λ failures. sym (ap (λ (r : Result Unit IoFault). failures_behind r failures) w.in-Err-read_device.is))
      | in-Ok-read_device w ↦ subst Alike (sym w.result-is) (λ failures. sym (ap (λ (r : Result Unit IoFault). failures_behind r failures) w.in-Ok-read_device.is))
    ] in
    subst (λ (w : StackRecord). EachPiece w c.args.d.0 c.args.first c.args.n c.match-read_device.result (stack_with config new c.read_device.new.backing.cache c.read_device.new.backing.restored)) c.self.view_is
    (each-piece config c.args.d.0 c.args.first c.args.n c.match-read_device.result got
    (asks-less (λ none met. none (subst (λ (k : ℕ). MeetVerity (said_at config (mapped c.args.d.0)) c.args.first k) (count g c) met)) (asks-as c.match-read_device.result fault alike c.read_device.ensures.step.touches)) c.self.inside.backing.cache c.read_device.new.backing.cache c.read_device.ensures.step.cached.capacity)

pub invariant_of-self : goal.invariant_of-self
invariant_of-self g c = record { sound = piece-sound c.self.inside.config c.self.invariant.sound (reads g c).reads.got.moved; cached = c.read_device.ensures.step.cached.sound }

pub returns-clause-any : goal.returns-clause-any
returns-clause-any g c = (piece g c).any

pub returns-clause-steady : goal.returns-clause-steady
returns-clause-steady g c = (piece g c).steady

pub returns-clause-stops : goal.returns-clause-stops
returns-clause-stops g c =
    let state = g.D.BlockDev.state in
    let old = map state c.self.inside.backing.devices.items in
    let new = map state c.read_device.new.backing.devices.items in
    let said : ℕ → Said = said_at c.self.inside.config (mapped c.args.d.0) in
    let plain = subst (λ (n : ℕ). IsPlain said c.args.first n old new c.read_device.result) (count g c) c.read_device.ensures.step.plain in
    let Stops : Result AnswerRecord IoFault → Type 0 = λ r. ReadStops said c.args.first c.args.n old new r in
    let stops : (MeetVerity said c.args.first c.args.n → ⊥) → Stops c.match-read_device.result = λ none. elim c.match-read_device.branch [
      | in-Err-read_device w ↦ subst Stops (sym w.result-is) (subst (λ (r : Result Unit IoFault). ReadStops said c.args.first c.args.n old new r) w.in-Err-read_device.is (plain.stops none))
      | in-Ok-read_device w ↦ subst Stops (sym w.result-is) tt
    ] in
    subst (λ (w : StackRecord). (MeetVerity (said_at w.config (mapped c.args.d.0)) c.args.first c.args.n → ⊥) → ReadStops (said_at w.config (mapped c.args.d.0)) c.args.first c.args.n w.leaves new c.match-read_device.result) c.self.view_is stops

pub returns-in-Err-clause-stops : goal.returns-in-Err-clause-stops
returns-in-Err-clause-stops g c = λ none counted. record { before = 0; failed = c.args.n; some = omega (arith, c.requires.some); inside = omega arith; by = c.in-Err.ensures.err; leaf = λ i d out. refl }

pub returns-clause-spent : goal.returns-clause-spent
returns-clause-spent g c =
    let new = map g.D.BlockDev.state c.read_device.new.backing.devices.items in
    let spent = subst (λ (n : ℕ). ReadsAtMost (budget c.self.inside.config (mapped c.args.d.0) c.args.first n) (map g.D.BlockDev.state c.self.inside.backing.devices.items) new) (count g c) c.read_device.ensures.step.spent in
    subst (λ (w : StackRecord). ReadsAtMost (budget w.config (mapped c.args.d.0) c.args.first c.args.n) w.leaves new) c.self.view_is spent

pub returns-in-Err-clause-spent : goal.returns-in-Err-clause-spent
returns-in-Err-clause-spent g c = omega arith

-- the blocks that are kept

pub returns-clause-kept : goal.returns-clause-kept
returns-clause-kept g c =
    let config = c.self.inside.config in
    let after : StackRecord = stack_with config (map g.D.BlockDev.state c.read_device.new.backing.devices.items) c.read_device.new.backing.cache c.read_device.new.backing.restored in
    let none_met = subst (λ (n : ℕ). (MeetVerity (said_at config (mapped c.args.d.0)) c.args.first n → ⊥) → c.read_device.new.backing.cache ≡ c.self.inside.backing.cache) (count g c) c.read_device.ensures.step.same in
    subst (λ (w : StackRecord). ReadKeeps w c.args.d.0 c.args.first c.args.n after) c.self.view_is
    (record { same = λ none. ap (λ (k : StackCache). k.blocks.blocks) (none_met none); checked = cached-checked config c.read_device.ensures.step.cached.sound })

pub returns-in-Err-clause-kept : goal.returns-in-Err-clause-kept
returns-in-Err-clause-kept g c = record { same = λ none. refl; checked = subst AreChecked c.self.view_is (cached-checked c.self.inside.config c.self.invariant.cached) }

-- which calls were made

pub returns-clause-given : goal.returns-clause-given
returns-clause-given g c =
    let state = g.D.BlockDev.state in
    let does = g.D.BlockDev.does in
    let config = c.self.inside.config in
    let devices = c.self.inside.backing.devices.items in
    let new = c.read_device.new.backing.devices.items in
    let after : StackRecord = stack_with config (map state new) c.read_device.new.backing.cache c.read_device.new.backing.restored in
    let made = subst (λ (n : ℕ). Gives (DeviceDoes state does) config (Below (mapped c.args.d.0) c.args.first) n (served c.self.inside.backing) (served c.read_device.new.backing) (buffer_answer c.read_device.result c.read_device.new.out)) (count g c) c.read_device.ensures.given in
    let held : length c.read_device.new.out ≡ c.in-Ok.bytes.len = c.read_device.auto.out ∙ ap (λ (l : List ℕ). length l) c.as_mut_slice.ensures.value ∙ sym c.in-Ok.bytes.ok.0 in
    let Same : Result AnswerRecord IoFault → Type 0 = λ r. buffer_answer c.read_device.result c.read_device.new.out ≡ answer_bytes r in
    let same : Same c.match-read_device.result = elim c.match-read_device.branch [
      | in-Err-read_device w ↦ subst Same (sym w.result-is) (ap (λ (r : Result Unit IoFault). buffer_answer r c.read_device.new.out) w.in-Err-read_device.is)
      | in-Ok-read_device w ↦ subst Same (sym w.result-is) (ap (λ (r : Result Unit IoFault). buffer_answer r c.read_device.new.out) w.in-Ok-read_device.is ∙ ap Ok (sym (with_items_is c.in-Ok.bytes c.read_device.new.out held)))
    ] in
    subst (λ (answer : Result (List ℕ) IoFault). PieceGives state does c.args.self.now (c.args.d.0, c.args.first) c.args.n answer after) same
    (subst (λ (w : StackRecord). PieceGives state does w (c.args.d.0, c.args.first) c.args.n (buffer_answer c.read_device.result c.read_device.new.out) after) c.self.view_is
    (record { before = devices; after = new; was = refl; is = refl; made = makes-as (λ calls a. inr a) made.made }))

pub returns-in-Err-clause-given : goal.returns-in-Err-clause-given
returns-in-Err-clause-given g c =
    let devices = c.self.inside.backing.devices.items in
    let same = ap (λ (w : StackRecord). w.leaves) c.self.view_is in
    record { before = devices; after = devices; was = same; is = same; made = makes-none (inl (refl, refl, refl)) }

-- how many blocks were restored

pub returns-clause-restored : goal.returns-clause-restored
returns-clause-restored g c =
    let config = c.self.inside.config in
    let after : StackRecord = stack_with config (map g.D.BlockDev.state c.read_device.new.backing.devices.items) c.read_device.new.backing.cache c.read_device.new.backing.restored in
    let none_met = subst (λ (n : ℕ). (MeetVerity (said_at config (mapped c.args.d.0)) c.args.first n → ⊥) → c.read_device.new.backing.restored ≡ c.self.inside.backing.restored) (count g c) c.read_device.ensures.step.uncounted in
    subst (λ (w : StackRecord). ReadRestores w c.args.d.0 c.args.first c.args.n after) c.self.view_is
    (record { grows = reads-grow c.read_device.ensures.given.made.are; same = none_met })

pub returns-in-Err-clause-restored : goal.returns-in-Err-clause-restored
returns-in-Err-clause-restored g c = record { grows = omega arith; same = λ none. refl }
