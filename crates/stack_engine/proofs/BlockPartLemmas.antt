-- Sectors of one data block of a verity line of a configuration, read from its chain.
use Rattle.std.proofs.Common.{◌≡◌, ℕ, ◌+◌, ◌*◌, ◌/◌, ◌%◌, ◌<◌, ◌≤◌, IsTrue, List, [], ◌∷◌, ◌++◌, length, get_or, Contains, take, drop, Some, Ok, Err, inl, refl, sym, ap, ◌∙◌, subst, arith}
use Rattle.std.specs.Prelude.{slice_get}
use Rattle.std.proofs.lemmas.List.Elements.{Contains-push}
use Rattle.std.proofs.lemmas.List.{get_or_default}
use Rattle.std.proofs.Math.Nat.{mul-le-mul_right}
use Rattle.hash_tree.specs.Chain.{ChainRecord}
use Rattle.block_device.specs.Device.{Device}
use Rattle.dm_table.specs.declared.verity.Verity.{Verity}
use Rattle.dm_table.specs.declared.table.Line.{Line}
use Rattle.dm_table.specs.declared.table.Target.{Target}
use Rattle.dm_table.specs.declared.table.Target.TheVariants.{Verity as verity_target}
use Rattle.stack_rules.specs.Records.{Configuration}
use Rattle.stack_rules.specs.Names.{mapped, lines_of}
use Rattle.stack_rules.specs.Descend.{by_name, read_cost, line_read_cost}
use Rattle.stack_rules.specs.Rules.{IsLoaded}
use Rattle.stack_rules.specs.Trees.{block_sectors}
use Rattle.stack_config.proofs.lemmas.LoadedLineLemmas.{line-read-cost}
use Rattle.stack_meaning.specs.declared.fault.IoFault.{IoFault}
use Rattle.stack_meaning.specs.declared.fault.IoFault.TheVariants as io
use Rattle.stack_lines.specs.declared.source.VerityPart.{VerityPart}
use Rattle.stack_lines.specs.declared.source.Source.TheVariants.{Block}
use Rattle.stack_meaning.specs.Outcomes.{Images}
use Rattle.stack_meaning.specs.Found.{FoundRecord, Entry, found_entry}
use Rattle.stack_meaning.specs.Beneath.{below}
use Rattle.stack_meaning.specs.Meaning.{none_said, said_by_name}
use Rattle.stack_meaning.specs.Agreement.{AgreesOn}
use Rattle.stack_meaning.specs.Reading.{IsCertain, MeetVerity}
use Rattle.stack_meaning.specs.Kept.{AreCertain, target_leaves, verity_block, LineKeeps, IsOfVerity, IsKept, AllKept}
use Rattle.stack_meaning.specs.Leaves.{steady_images}
use Rattle.stack_lines.specs.Caches.{StackCache}
use Rattle.stack_lines.specs.Sources.{LieInBlock, source_said, source_place, ReadsSource}
use Rattle.stack_lines.specs.Walks.{AgreesAt, HasVerity, block_in, chain_expected, GetsChain}
use Rattle.stack_meaning.proofs.lemmas.LeafListLemmas.{AreRead-none, AreRead-more, AreSteady-kept, AreSteady-within, images-kept}
use Rattle.stack_lines.proofs.lemmas.BudgetLemmas.{chain-cost as priced}
use Rattle.stack_lines.proofs.lemmas.BlockAgreementLemmas.{block-agreed, line-agreed}
use Rattle.stack_lines.proofs.lemmas.TouchLemmas.{verity-leaves, verity-names}
use Rattle.stack_lines.specs.Touches.{leaves_of}
use Rattle.stack_meaning.proofs.lemmas.AgreementLemmas.{agrees-within}
use Rattle.stack_lines.proofs.lemmas.VerityLineLemmas.{IsWholeSectors, data-whole, part-index}
use Rattle.stack_meaning.proofs.lemmas.FoundLemmas.{Grown-none, kept-later}
use Rattle.stack_meaning.proofs.lemmas.RunLemmas.{Passes, pass}
use Rattle.stack_engine.specs.Premises.{CanRead}
use Rattle.stack_engine.proofs.lemmas.BlockLemmas.{block_place, chain_fills, block_fails, length-content, AllKept-push, Grown-push}
use Rattle.allocation.specs.Refusal.{IsOutOfMemory}
use Rattle.stack_meaning.specs.Memory.{largest_allocation}

-- what was found for an entry of a verity line
pub kept_for : (c : Configuration) (leaves : List Device) (d l i : ℕ) (v : Verity) (x : FoundRecord) → HasVerity c d l v → found_entry x ≡ (d, l, i) → IsKept c leaves x → IsOfVerity (below none_said (said_by_name c) (verity_target v)) (AreCertain c (verity_target v)) leaves v x.chain
kept_for c leaves d l i v x line at kept =
    let device : x.device ≡ d = ap (λ (e : Entry). e.0) at in
    let number : x.line ≡ l = ap (λ (e : Entry). e.1) at in
    let found : slice_get (lines_of c d) l ≡ Some kept.line = ap (λ (k : ℕ). slice_get (lines_of c k) l) (sym device) ∙ ap (slice_get (lines_of c x.device)) (sym number) ∙ kept.is in
    let both : Some kept.line ≡ Some line.line = sym found ∙ line.is in
    let lines : kept.line ≡ line.line = cc in
    let target : kept.line.target ≡ verity_target v = ap (λ (y : Line). y.target) lines ∙ line.has in
    subst (λ (t : Target). LineKeeps c leaves t x.chain) target kept.keeps

pub contains_at : (found : List FoundRecord) (k : ℕ) (x : FoundRecord) → k < length found → Contains found (get_or found k x)
contains_at found k x h = (k, h, get_or_default found k (get_or found k x) x h)

pub kept_at : (c : Configuration) (leaves : List Device) (found : List FoundRecord) (x : FoundRecord) → AllKept c leaves found → Contains found x → IsKept c leaves x
kept_at c leaves found x all given = subst (IsKept c leaves) given.2 (all given.0 x given.1)

pub kept_length : (c : Configuration) (leaves : List Device) (d l i : ℕ) (v : Verity) (found : List FoundRecord) (k : ℕ) (x : FoundRecord) → HasVerity c d l v → AllKept c leaves found → k < length found
    → found_entry (get_or found k x) ≡ (d, l, i) → length ((get_or found k x).chain.content) ≡ v.data_block
kept_length c leaves d l i v found k x line kept h here =
    length-content v (get_or found k x).chain (kept_for c leaves d l i v (get_or found k x) line here (kept_at c leaves found (get_or found k x) kept (contains_at found k x h))).good

-- a part of a block lies inside it
pub part-room : (v : Verity) (w sectors len : ℕ) → sectors ≡ block_sectors v → 512 * block_sectors v ≡ v.data_block → w % block_sectors v + len / 512 ≤ block_sectors v → len % 512 ≡ 0 → 512 * (w % sectors) + len ≤ v.data_block
part-room v w sectors len is whole within even = let same : w % sectors ≡ w % block_sectors v = ap (λ (k : ℕ). w % k) is in omega (arith, same, whole, within, even)

-- what is known of sectors of one data block
pub record BlockAt (c : Configuration) (p : VerityPart) (n : ℕ) : Type 0 where
  pub loaded : IsLoaded c
  pub line : HasVerity c p.device.0 p.line p.verity.now
  pub some : 0 < n
  pub within : p.first % block_sectors p.verity.now + n ≤ block_sectors p.verity.now
  pub size : IsWholeSectors p.verity.now.data_block
  pub there : p.first / block_sectors p.verity.now < p.verity.now.blocks

pub block-at : {c : Configuration} {p : VerityPart} {leaves : List Device} {cache : StackCache} {found : List FoundRecord} {out : List ℕ} → CanRead c leaves cache found (Block p) out → BlockAt c p (length out / 512)
block-at {c = c} {p = p} {out = out} can =
    let loaded = can.stack.sound.loaded in
    let lies : LieInBlock c p (length out / 512) = can.fits.holds in
    let some : 0 < length out / 512 = omega (arith, can.fits.sectors.some, can.fits.sectors.whole) in
    record {
      loaded = loaded;
      line = lies.of.is;
      some = some;
      within = lies.within;
      size = data-whole c p.device.0 p.line p.verity.now loaded lies.of.is;
      there = part-index c p (length out / 512) loaded lies some;
    }

module _ {c : Configuration} {p : VerityPart} {n : ℕ} (b : BlockAt c p n) where
  passes : Passes (block_place (block_in c p.verity.now (p.first / block_sectors p.verity.now)) (p.device.0, p.line) p.first (read_cost c (mapped p.device.0)) (AgreesOn c (leaves_of c (mapped p.device.0)))) (source_place c (Block p)) 0 0 n
  passes = record {
    said = λ j h.
        refl;
    cost = omega arith;
    leaves = λ i is. verity-names c p.device.0 p.line 0 p.verity.now b.loaded b.line i (subst IsTrue (sym (verity-leaves c p.verity.now 0 i)) is);
    agrees = λ images all. all;
  }

  -- what the leaves beneath the device agree on
  agreed : (images : Images) → AgreesOn c (leaves_of c (mapped p.device.0)) images → AgreesAt (block_in c p.verity.now (p.first / block_sectors p.verity.now)) images
  agreed images = block-agreed c p.device.0 p.line p.verity.now (p.first / block_sectors p.verity.now) b.line images b.loaded

  block-cost : (chain_expected (block_in c p.verity.now (p.first / block_sectors p.verity.now))).cost ≤ read_cost c (mapped p.device.0)
  block-cost =
      let line : line_read_cost (by_name c 0 (read_cost c)) (verity_target p.verity.now) ≤ read_cost c (mapped p.device.0) = subst (λ (t : Target). line_read_cost (by_name c 0 (read_cost c)) t ≤ read_cost c (mapped p.device.0)) b.line.has (line-read-cost c p.device.0 p.line b.line.line b.loaded.valid b.line.is) in
      omega (arith, line, priced c p.verity.now (p.first / block_sectors p.verity.now))

  -- from a chain that is there
  pub part_found : (leaves : List Device) (found : List FoundRecord) (x : FoundRecord) {bytes : List ℕ} → found_entry x ≡ (p.device.0, p.line, p.first / block_sectors p.verity.now) → Contains found x → AllKept c leaves found
      → bytes ≡ take (512 * n) (drop (512 * (p.first % block_sectors p.verity.now)) x.chain.content)
      → ReadsSource c (Block p) n (record { old = leaves; new = leaves; before = found; after = found }) (Ok bytes)
  part_found leaves found x here given kept is =
      let one = kept_for c leaves p.device.0 p.line (p.first / block_sectors p.verity.now) p.verity.now x b.line here (kept_at c leaves found x kept given) in
      let number : x.chain.index ≡ p.first / block_sectors p.verity.now = ap (λ (e : Entry). e.2) here in
      pass passes (record { old = leaves; new = leaves; before = found; after = found }) (Ok _) (record {
        got = chain_fills (block_in c p.verity.now (p.first / block_sectors p.verity.now)) (p.device.0, p.line) p.first n (read_cost c (mapped p.device.0)) (AgreesOn c (leaves_of c (mapped p.device.0))) agreed refl b.within b.size.whole found x b.some (AreRead-none _ leaves)
            (λ steady agrees. ap (verity_block c (steady_images leaves) p.verity.now) (sym number) ∙ one.exact (record {
              steady = AreSteady-within leaves (λ i is. subst IsTrue (verity-leaves c p.verity.now 0 i) is) steady;
              agrees = agrees-within c (steady_images leaves) (verity-names c p.device.0 p.line 0 p.verity.now b.loaded b.line) agrees;
            })) one.good here given is;
        grown = Grown-none _ 0 n found;
        kept = kept;
      })

  -- from a chain that was walked
  pub part_walked : {old new : List Device} (found : List FoundRecord) (chain : ChainRecord) {bytes : List ℕ} → AllKept c old found
      → GetsChain (block_in c p.verity.now (p.first / block_sectors p.verity.now)) old new (Ok chain)
      → bytes ≡ take (512 * n) (drop (512 * (p.first % block_sectors p.verity.now)) chain.content)
      → ReadsSource c (Block p) n (record { old = old; new = new; before = found; after = found ++ (record { device = p.device.0; line = p.line; chain = chain } ∷ []) }) (Ok bytes)
  part_walked {old = old} {new = new} found chain kept q is =
      let x : FoundRecord = record { device = p.device.0; line = p.line; chain = chain } in
      let here : found_entry x ≡ (p.device.0, p.line, p.first / block_sectors p.verity.now) = ap (λ (k : ℕ). (p.device.0, p.line, k)) q.may.0 in
      let one : IsOfVerity (below none_said (said_by_name c) (verity_target p.verity.now)) (AreCertain c (verity_target p.verity.now)) new p.verity.now chain = record {
        good = q.may.1;
        exact = λ sure.
            let before : IsCertain (chain_expected (block_in c p.verity.now (p.first / block_sectors p.verity.now))) old = record {
              steady = AreSteady-kept new old (sym q.moved.moved.fixed) (AreSteady-within new (λ i is. subst IsTrue (sym (verity-leaves c p.verity.now 0 i)) is) sure.steady);
              agrees = λ meets. line-agreed c p.device.0 p.line p.verity.now (p.first / block_sectors p.verity.now) b.line (steady_images old) (subst (AgreesOn c (target_leaves c (verity_target p.verity.now))) (images-kept q.moved) sure.agrees);
            } in
            ap (verity_block c (steady_images new) p.verity.now) q.may.0 ∙ ap (λ (m : Images). verity_block c m p.verity.now (p.first / block_sectors p.verity.now)) (images-kept q.moved) ∙ q.exact before;
      } in
      pass passes (record { old = old; new = new; before = found; after = found ++ (x ∷ []) }) (Ok _) (record {
        got = chain_fills (block_in c p.verity.now (p.first / block_sectors p.verity.now)) (p.device.0, p.line) p.first n (read_cost c (mapped p.device.0)) (AgreesOn c (leaves_of c (mapped p.device.0))) agreed refl b.within b.size.whole (found ++ (x ∷ [])) x b.some
            (AreRead-more (let most = mul-le-mul_right (read_cost c (mapped p.device.0)) b.some in omega (arith, most, block-cost)) q.moved) (λ steady agrees. q.exact (record { steady = steady; agrees = λ meets. agreed (steady_images old) agrees })) q.may.1 here (Contains-push found x) is;
        grown = Grown-push _ 0 n found x b.some (0, omega arith, (let e : p.first + 0 ≡ p.first = omega arith in ap (λ (k : ℕ). (p.device.0, p.line, k / block_sectors p.verity.now)) e ∙ sym here));
        kept = AllKept-push c new found x (kept-later c found q.moved kept) (record { line = b.line.line; is = b.line.is; keeps = subst (λ (t : Target). LineKeeps c new t chain) (sym b.line.has) one });
      })

  -- a walk that ended by a fault
  pub part_err : {old new : List Device} (found : List FoundRecord) (fault : IoFault) → AllKept c old found → GetsChain (block_in c p.verity.now (p.first / block_sectors p.verity.now)) old new (Err fault)
      → ReadsSource c (Block p) n (record { old = old; new = new; before = found; after = found }) (Err fault)
  part_err {old = old} {new = new} found fault kept q =
      pass passes (record { old = old; new = new; before = found; after = found }) (Err fault) (record {
        got = block_fails (block_in c p.verity.now (p.first / block_sectors p.verity.now)) (p.device.0, p.line) p.first n (read_cost c (mapped p.device.0)) (AgreesOn c (leaves_of c (mapped p.device.0))) agreed refl b.within b.size.whole found fault b.some block-cost q;
        grown = Grown-none _ 0 n found;
        kept = kept-later c found q.moved kept;
      })

  -- no memory for the chain
  pub part_full : IsOutOfMemory largest_allocation → {old new : List Device} (found : List FoundRecord) (chain : ChainRecord) → AllKept c old found → GetsChain (block_in c p.verity.now (p.first / block_sectors p.verity.now)) old new (Ok chain)
      → ReadsSource c (Block p) n (record { old = old; new = new; before = found; after = found }) (Err io.NoMemory)
  part_full refused {old = old} {new = new} found chain kept q = record {
    got = record {
      moved = AreRead-more (let most = mul-le-mul_right (read_cost c (mapped p.device.0)) b.some in omega (arith, most, block-cost)) q.moved;
      may = refused;
      exact = λ sure. tt;
    };
    grown = Grown-none _ 0 n found;
    kept = kept-later c found q.moved kept;
  }

-- a verity line is on the way
pub block-meets : (c : Configuration) (p : VerityPart) (n : ℕ) → 0 < n → MeetVerity (source_said c (Block p)) 0 n
block-meets c p n some = (0, some, inl refl)
