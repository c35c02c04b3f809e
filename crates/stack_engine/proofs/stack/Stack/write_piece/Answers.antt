use Rattle.std.proofs.Common.{◌≡◌, inl, inr, ℕ, ◌-◌, ◌/◌, List, ◌++◌, length, take, drop, map, refl, ap, ◌∙◌, subst, arith}
use Rattle.std.proofs.lemmas.List.{take_all, length-drop}
use Rattle.block_device.specs.Call.{DeviceDoes}
use Rattle.stack_rules.specs.Names.{mapped}
use Rattle.stack_lines.specs.declared.source.Source.TheVariants.{Below}
use Rattle.stack_engine.specs.SectorCalls.{Hands}
use Rattle.stack_engine.specs.WritePieces.{PieceHands}
use Rattle.stack_engine.proofs.LeafCallLemmas.{makes-none, makes-as}
use Rattle.stack_engine.specs.Stacks.{StackRecord}
use Rattle.stack_engine.specs.Pieces.{stack_with}
use Rattle.stack_meaning.specs.Changes.{NoneRead}
use Rattle.stack_engine.specs.Uncut.{CutsNone}
use Rattle.stack_lines.specs.WriteBudgets.{Counter, of_reads, of_writes, CountsAtMost, write_budget}
use Rattle.stack_engine.specs.WritePieces.{PaysPiece}
use Rattle.stack_lines.specs.Writing.{sectors_in, destination_of, WritesSectors}
use Rattle.stack_engine.specs.WritePieces.{EachWrite}
use Rattle.stack_engine.proofs.CachedLemmas.{cached-checked}
use Rattle.stack_engine.specs.KeptBlocks.{AreChecked}
use Rattle.stack_engine.proofs.lemmas.WritePieceLemmas.{each-write, none-written, write-sound}
use Rattle.stack_meaning.proofs.lemmas.LeafLemmas.{all-whole}
use Rattle.stack_engine.proofs.stack.Stack.write_piece.Given as given
use Rattle.stack_engine.proofs.stack.Stack.write_piece.Goals as goal

-- the bytes that were handed down are those of the piece
bytes_of : (g : given.Over) (c : goal.After-drop-buffer g) → take (length c.args.bytes.now - c.len.result) (drop c.len.result c.args.bytes.now) ++ c.as_mut_slice-copy.result.now ≡ c.args.bytes.now
bytes_of g c =
    let items = c.in-Ok.buffer.items in
    let count : c.len.result ≡ length items = c.len.ensures ∙ c.in-Ok.buffer.ok.0 in
    ap (λ (l : List ℕ). l ++ c.as_mut_slice-copy.result.now) (take_all (length c.args.bytes.now - c.len.result) (drop c.len.result c.args.bytes.now) (omega (arith, length-drop c.len.result c.args.bytes.now)))
    ∙ ap (λ (k : ℕ). drop k c.args.bytes.now ++ c.as_mut_slice-copy.result.now) count
    ∙ ap (λ (l : List ℕ). drop (length items) c.args.bytes.now ++ l) c.as_mut_slice-copy.ensures.value
    ∙ c.in-Ok.ensures.ok.same

-- what the write did, of the stack's own devices
piece : (g : given.Over) (c : goal.After-drop-buffer g)
    → EachWrite (stack_with c.self.inside.config (map g.D.BlockDev.state c.self.inside.backing.devices.items) c.self.inside.backing.cache c.self.inside.backing.restored) c.args.d.0 c.args.first c.args.bytes.now c.write_device.result
    (stack_with c.self.inside.config (map g.D.BlockDev.state c.write_device.new.backing.devices.items) c.write_device.new.backing.cache c.write_device.new.backing.restored)
piece g c =
    let state = g.D.BlockDev.state in
    let Is : List ℕ → Type 0 = λ b.
    WritesSectors (destination_of c.self.inside.config (mapped c.args.d.0)) c.args.first (sectors_in b) (map state c.self.inside.backing.devices.items) (map state c.write_device.new.backing.devices.items) c.write_device.result in
    each-write c.args.d.0 c.args.first c.args.bytes.now c.write_device.result c.requires.piece refl c.write_device.ensures.step.cached.capacity c.write_device.ensures.step.uncounted (λ was. all-whole state g.met.D.BlockDev.whole c.write_device.new.backing.devices.items) c.write_device.ensures.step.forgets c.write_device.ensures.step.drops (subst Is (bytes_of g c) c.write_device.ensures.writes)

-- of the stack as it was
whole : (g : given.Over) (c : goal.After-drop-buffer g)
    → EachWrite c.args.self.now c.args.d.0 c.args.first c.args.bytes.now c.write_device.result (stack_with c.self.inside.config (map g.D.BlockDev.state c.write_device.new.backing.devices.items) c.write_device.new.backing.cache c.write_device.new.backing.restored)
whole g c =
    subst (λ (w : StackRecord). EachWrite w c.args.d.0 c.args.first c.args.bytes.now c.write_device.result (stack_with c.self.inside.config (map g.D.BlockDev.state c.write_device.new.backing.devices.items) c.write_device.new.backing.cache c.write_device.new.backing.restored)) c.self.view_is (piece g c)

pub invariant_of-self : goal.invariant_of-self
invariant_of-self g c = record { sound = write-sound c.self.inside.config c.self.invariant.sound (piece g c); cached = c.write_device.ensures.step.cached.sound }

pub returns-clause-any : goal.returns-clause-any
returns-clause-any g c = (whole g c).any

pub returns-clause-steady : goal.returns-clause-steady
returns-clause-steady g c = (whole g c).steady

-- nothing was written, since memory ran out

pub returns-in-Err-clause-any : goal.returns-in-Err-clause-any
returns-in-Err-clause-any g c = (none-written c.args.self.now c.args.d.0 c.args.first c.args.bytes.now c.in-Err.ensures.err c.requires.piece (omega (arith, c.requires.piece.sectors.some, c.requires.piece.sectors.whole))).any

pub returns-in-Err-clause-steady : goal.returns-in-Err-clause-steady
returns-in-Err-clause-steady g c = (none-written c.args.self.now c.args.d.0 c.args.first c.args.bytes.now c.in-Err.ensures.err c.requires.piece (omega (arith, c.requires.piece.sectors.some, c.requires.piece.sectors.whole))).steady

-- where no unit is cut

pub returns-clause-uncut : goal.returns-clause-uncut
returns-clause-uncut g c =
    let state = g.D.BlockDev.state in
    let new = map state c.write_device.new.backing.devices.items in
    let own = subst (λ (b : List ℕ). CutsNone c.self.inside.config (mapped c.args.d.0) c.args.first (length b / 512) → NoneRead (map state c.self.inside.backing.devices.items) new) (bytes_of g c) c.write_device.ensures.step.uncut in
    subst (λ (w : StackRecord). CutsNone w.config (mapped c.args.d.0) c.args.first (length c.args.bytes.now / 512) → NoneRead w.leaves new) c.self.view_is own

pub returns-in-Err-clause-uncut : goal.returns-in-Err-clause-uncut
returns-in-Err-clause-uncut g c = λ cuts. refl

-- what is counted, of the stack as it was
pays : (g : given.Over) (c : goal.After-drop-buffer g) (k : Counter)
    → PaysPiece k c.args.self.now c.args.d.0 c.args.first (length c.args.bytes.now / 512) (stack_with c.self.inside.config (map g.D.BlockDev.state c.write_device.new.backing.devices.items) c.write_device.new.backing.cache c.write_device.new.backing.restored)
pays g c k =
    let state = g.D.BlockDev.state in
    let new = map state c.write_device.new.backing.devices.items in
    let own = subst (λ (b : List ℕ). CountsAtMost k (write_budget c.self.inside.config k (mapped c.args.d.0) c.args.first (length b / 512)) (map state c.self.inside.backing.devices.items) new) (bytes_of g c) (c.write_device.ensures.step.paid k) in
    subst (λ (w : StackRecord). CountsAtMost k (write_budget w.config k (mapped c.args.d.0) c.args.first (length c.args.bytes.now / 512)) w.leaves new) c.self.view_is own

pub returns-clause-wrote : goal.returns-clause-wrote
returns-clause-wrote g c = pays g c of_writes

pub returns-clause-needed : goal.returns-clause-needed
returns-clause-needed g c = pays g c of_reads

pub returns-in-Err-clause-wrote : goal.returns-in-Err-clause-wrote
returns-in-Err-clause-wrote g c = omega arith

pub returns-in-Err-clause-needed : goal.returns-in-Err-clause-needed
returns-in-Err-clause-needed g c = omega arith

-- the blocks that are kept

pub returns-clause-checked : goal.returns-clause-checked
returns-clause-checked g c = cached-checked c.self.inside.config c.write_device.ensures.step.cached.sound

pub returns-in-Err-clause-checked : goal.returns-in-Err-clause-checked
returns-in-Err-clause-checked g c = subst AreChecked c.self.view_is (cached-checked c.self.inside.config c.self.invariant.cached)

-- which calls were made

pub returns-clause-handed : goal.returns-clause-handed
returns-clause-handed g c =
    let state = g.D.BlockDev.state in
    let does = g.D.BlockDev.does in
    let devices = c.self.inside.backing.devices.items in
    let new = c.write_device.new.backing.devices.items in
    let after = stack_with c.self.inside.config (map state new) c.write_device.new.backing.cache c.write_device.new.backing.restored in
    let made = subst (λ (b : List ℕ). Hands (DeviceDoes state does) c.self.inside.config (Below (mapped c.args.d.0) c.args.first) b devices new c.write_device.result) (bytes_of g c) c.write_device.ensures.handed in
    subst (λ (w : StackRecord). PieceHands state does w (c.args.d.0, c.args.first) c.args.bytes.now c.write_device.result after) c.self.view_is
    (record { before = devices; after = new; was = refl; is = refl; made = makes-as (λ calls a. inr a) made })

pub returns-in-Err-clause-handed : goal.returns-in-Err-clause-handed
returns-in-Err-clause-handed g c =
    let state = g.D.BlockDev.state in
    let devices = c.self.inside.backing.devices.items in
    let same = ap (λ (w : StackRecord). w.leaves) c.self.view_is in
    record { before = devices; after = devices; was = same; is = same; made = makes-none (inl (refl, refl)) }
