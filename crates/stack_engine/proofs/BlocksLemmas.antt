-- Whole data blocks of a verity line of a configuration, which are read at once.
use Rattle.std.proofs.Common.{◌≡◌, ℕ, ◌+◌, ◌*◌, ◌/◌, ◌%◌, ◌<◌, ◌≤◌, IsTrue, List, [], ◌∷◌, ◌++◌, length, get_or, take, drop, Vec, Global, Result, Ok, Err, inl, refl, sym, ap, ◌∙◌, subst, arith}
use Rattle.std.proofs.lemmas.List.{take_all, length-take-le, length-drop}
use Rattle.std.proofs.lemmas.List.Elements.{All-cons, All-nil, All-append, Contains-push}
use Rattle.std.proofs.lemmas.Nat.{div-add-mod', div-mul-add, mod-mul-add}
use Rattle.std.proofs.Math.Nat.{add-mul, mul-add, mul-le-mul_left, mul-le-mul_right}
use Rattle.hash_tree.specs.Chain.{ChainRecord}
use Rattle.block_device.specs.Device.{Device}
use Rattle.dm_table.specs.declared.table.Target.{Target}
use Rattle.dm_table.specs.declared.table.Target.TheVariants.{Verity as verity_target}
use Rattle.stack_rules.specs.Records.{Configuration}
use Rattle.stack_rules.specs.Names.{mapped}
use Rattle.stack_rules.specs.Descend.{by_name, read_cost, line_read_cost}
use Rattle.stack_rules.specs.Trees.{block_sectors}
use Rattle.stack_config.proofs.lemmas.LoadedLineLemmas.{line-read-cost}
use Rattle.stack_meaning.specs.declared.fault.IoFault.{IoFault}
use Rattle.stack_meaning.specs.declared.fault.IoFault.TheVariants as io
use Rattle.stack_lines.specs.declared.source.VerityPart.{VerityPart}
use Rattle.stack_lines.specs.declared.source.Source.TheVariants.{Blocks}
use Rattle.stack_meaning.specs.Outcomes.{Images, mismatch}
use Rattle.stack_meaning.specs.Found.{FoundRecord, Entry, found_entry}
use Rattle.stack_meaning.specs.Beneath.{below}
use Rattle.stack_meaning.specs.Meaning.{line_said, none_said, said_by_name}
use Rattle.stack_meaning.specs.Places.{place_of, run_expected, LeafRead}
use Rattle.stack_meaning.specs.Agreement.{AgreesOn}
use Rattle.stack_meaning.specs.Reading.{Gets, Finds, IsCertain, MeetVerity}
use Rattle.stack_meaning.specs.declared.fault.Fault.{Fault}
use Rattle.stack_engine.specs.Healing.{unhealed}
use Rattle.stack_meaning.specs.Kept.{AreCertain, target_leaves, verity_block, LineKeeps, IsOfVerity, AllKept}
use Rattle.stack_meaning.specs.Leaves.{steady_images, AreRead}
use Rattle.stack_lines.specs.AtOnce.{AreBefore}
use Rattle.stack_lines.specs.Sources.{source_said, ReadsSource}
use Rattle.stack_lines.proofs.lemmas.BlockAgreementLemmas.{block-agreed, line-agreed}
use Rattle.stack_lines.proofs.lemmas.BudgetLemmas.{chain-cost as priced}
use Rattle.stack_lines.proofs.lemmas.TouchLemmas.{verity-leaves, verity-names}
use Rattle.stack_lines.specs.Touches.{leaves_of}
use Rattle.stack_lines.specs.Walks.{AgreesAt, block_in, chain_expected, data_expected, settled_cost, spare_expected, GetsChain}
use Rattle.stack_meaning.proofs.lemmas.LeafListLemmas.{AreRead-none, AreRead-more, AreSteady-kept, AreSteady-within, images-kept, failed_later}
use Rattle.stack_meaning.proofs.lemmas.FoundLemmas.{Grown-none, kept-later}
use Rattle.stack_meaning.proofs.lemmas.RunLemmas.{Passes, pass, AllMono, run_ok, run_err}
use Rattle.stack_engine.proofs.lemmas.BlockLemmas.{block_place, chain_fills, block_fails, AllKept-push, Grown-push}
use Rattle.allocation.specs.Refusal.{IsOutOfMemory}
use Rattle.stack_meaning.specs.Memory.{largest_allocation}
use Rattle.stack_engine.proofs.lemmas.WalkLemmas.{chain-spent}
use Rattle.stack_engine.proofs.BlocksAtLemmas.{part_agrees, blocks_place, path_cost, read_cost_so_far, BlocksAt}

module _ {c : Configuration} {p : VerityPart} {n : ℕ} {found : List FoundRecord} (b : BlocksAt c p n found) where
  abbrev m : ℕ
  m = n / block_sectors p.verity.now

  abbrev pub index : ℕ
  index = p.first / block_sectors p.verity.now

  pub start : index * block_sectors p.verity.now ≡ p.first
  start = omega (arith, div-add-mod' p.first (block_sectors p.verity.now), b.aligned)

  -- block j begins where it does
  at-index : (j : ℕ) → (p.first + j * block_sectors p.verity.now) / block_sectors p.verity.now ≡ index + j
  at-index j =
      let e : p.first + j * block_sectors p.verity.now ≡ (index + j) * block_sectors p.verity.now + 0 = omega (arith, start, add-mul index j (block_sectors p.verity.now)) in
      ap (λ (k : ℕ). k / block_sectors p.verity.now) e ∙ div-mul-add (index + j) (block_sectors p.verity.now) 0 (omega (arith, b.size.some))

  at-begin : (j : ℕ) → (p.first + j * block_sectors p.verity.now) % block_sectors p.verity.now ≡ 0
  at-begin j =
      let e : p.first + j * block_sectors p.verity.now ≡ (index + j) * block_sectors p.verity.now + 0 = omega (arith, start, add-mul index j (block_sectors p.verity.now)) in
      ap (λ (k : ℕ). k % block_sectors p.verity.now) e ∙ mod-mul-add (index + j) (block_sectors p.verity.now) 0 (omega (arith, b.size.some))

  passes : (j k : ℕ) → Passes (block_place (block_in c p.verity.now (index + j)) (p.device.0, p.line) (p.first + j * block_sectors p.verity.now) k (part_agrees c p)) (record { said = source_said c (Blocks p); cost = k; leaves = leaves_of c (mapped p.device.0); agrees = part_agrees c p }) 0 (0 + j * block_sectors p.verity.now) (block_sectors p.verity.now)
  passes j k = record {
    said = λ t h.
        let e : p.first + (0 + j * block_sectors p.verity.now + t) ≡ p.first + j * block_sectors p.verity.now + (0 + t) = omega arith in
        sym (ap (λ (s : ℕ). line_said (said_by_name c) p.device.0 p.line (verity_target p.verity.now) s) e);
    cost = omega arith;
    leaves = λ i is. verity-names c p.device.0 p.line 0 p.verity.now b.loaded b.line i (subst IsTrue (sym (verity-leaves c p.verity.now 0 i)) is);
    agrees = λ images all. all;
  }

  -- what the leaves agree on, of one block
  block-agrees : (j : ℕ) → j < m → (images : Images) → part_agrees c p images → AgreesAt (block_in c p.verity.now (index + j)) images
  block-agrees j inside images = block-agreed c p.device.0 p.line p.verity.now (index + j) b.line images b.loaded

  fits : (j : ℕ) → j < m → j * block_sectors p.verity.now + block_sectors p.verity.now ≤ n
  fits j inside =
      let below : (j + 1) * block_sectors p.verity.now ≤ m * block_sectors p.verity.now = mul-le-mul_right (block_sectors p.verity.now) (omega (arith, inside)) in
      omega (arith, below, b.count, add-mul j 1 (block_sectors p.verity.now))

  pub block-length : (j : ℕ) (bytes : List ℕ) → j < m → length bytes ≡ 512 * n → length (take (512 * block_sectors p.verity.now) (drop (512 * (j * block_sectors p.verity.now)) bytes)) ≡ 512 * block_sectors p.verity.now
  block-length j bytes inside len = length-take-le (512 * block_sectors p.verity.now) (drop (512 * (j * block_sectors p.verity.now)) bytes) (omega (arith, fits j inside, len, length-drop (512 * (j * block_sectors p.verity.now)) bytes))

  mono : AllMono (blocks_place c p n)
  mono s = λ u w more b h. (h.0, record { given = more h.0 h.1.given; at = h.1.at; good = h.1.good }, h.2)

  -- ---- costs

  chain-cost : (i : ℕ) → (chain_expected (block_in c p.verity.now i)).cost ≤ read_cost c (mapped p.device.0)
  chain-cost i =
      let line : line_read_cost (by_name c 0 (read_cost c)) (verity_target p.verity.now) ≤ read_cost c (mapped p.device.0) = subst (λ (t : Target). line_read_cost (by_name c 0 (read_cost c)) t ≤ read_cost c (mapped p.device.0)) b.line.has (line-read-cost c p.device.0 p.line b.line.line b.loaded.valid b.line.is) in
      omega (arith, line, priced c p.verity.now i)

  pub total-cost : (r j s : ℕ) → r ≤ m → j ≤ m → s ≤ m → read_cost_so_far c p.verity.now (r * block_sectors p.verity.now) j s ≤ n * read_cost c (mapped p.device.0)
  total-cost r j s read most healed =
      let dc : ℕ = (block_in c p.verity.now 0).on_data.cost in
      let path : ℕ = path_cost c p.verity.now in
      let mend : ℕ = settled_cost (block_in c p.verity.now 0) in
      let one : block_sectors p.verity.now * dc + path + mend ≤ read_cost c (mapped p.device.0) = omega (arith, chain-cost 0, chain-spent (block_in c p.verity.now 0)) in
      let all : n * (block_sectors p.verity.now * dc + path + mend) ≤ n * read_cost c (mapped p.device.0) = mul-le-mul_left n one in
      let apart : n * (block_sectors p.verity.now * dc + path + mend) ≡ n * (block_sectors p.verity.now * dc) + n * path + n * mend = mul-add n (block_sectors p.verity.now * dc + path) mend ∙ ap (λ (k : ℕ). k + n * mend) (mul-add n (block_sectors p.verity.now * dc) path) in
      let once : 1 * dc ≤ block_sectors p.verity.now * dc = mul-le-mul_right dc b.size.some in
      let blocks_cost : n * dc ≤ n * (block_sectors p.verity.now * dc) = mul-le-mul_left n (omega (arith, once)) in
      let few : r * block_sectors p.verity.now ≤ m * block_sectors p.verity.now = mul-le-mul_right (block_sectors p.verity.now) read in
      let read_cost : r * block_sectors p.verity.now * dc ≤ n * dc = mul-le-mul_right dc (omega (arith, few, b.count)) in
      let each : m * 1 ≤ m * block_sectors p.verity.now = mul-le-mul_left m b.size.some in
      let ways : j * path ≤ n * path = mul-le-mul_right path (omega (arith, most, each, b.count)) in
      let spares : s * mend ≤ n * mend = mul-le-mul_right mend (omega (arith, healed, each, b.count)) in
      omega (arith, all, apart, blocks_cost, read_cost, ways, spares)

  -- ---- the read goes on

  pub none-more : (now : List FoundRecord) (j : ℕ) → AreBefore p.device.0 p.line (index + j) now → (k : ℕ) → k < length now → (y : FoundRecord) → found_entry (get_or now k y) ≡ (p.device.0, p.line, index + j) → ⊥
  none-more now j before k below y same =
      let number : (get_or now k y).chain.index ≡ index + j = ap (λ (e : Entry). e.2) same in
      omega (arith, number, before k y below (ap (λ (e : Entry). e.0) same) (ap (λ (e : Entry). e.1) same))

  pub before-more : (now : List FoundRecord) (j : ℕ) (content : List ℕ) (path : List (List ℕ)) → AreBefore p.device.0 p.line (index + j) now
      → AreBefore p.device.0 p.line (index + (j + 1)) (now ++ (record { device = p.device.0; line = p.line; chain = record { index = index + j; content = content; path = path } } ∷ []))
  before-more now j content path before =
      let Before : FoundRecord → Type 0 = λ x. x.device ≡ p.device.0 → x.line ≡ p.line → x.chain.index < index + (j + 1) in
      All-append Before now _ (λ k d below e f. let low = before k d below e f in omega (arith, low)) (All-cons Before _ [] (λ e f. omega arith) (All-nil Before))

  -- none of them yet
  pub none-read : {old : List Device} (w : List FoundRecord) → AllKept c old w → Finds (blocks_place c p n) c 0 (0 * block_sectors p.verity.now) (record { old = old; new = old; before = w; after = w }) (Ok [])
  none-read {old = old} w kept =
      let zero_is : 0 ≡ 0 * block_sectors p.verity.now = omega arith in
      subst (λ (k : ℕ). Finds (blocks_place c p n) c 0 k (record { old = old; new = old; before = w; after = w }) (Ok [])) zero_is (record {
        got = record {
          moved = AreRead-none _ old;
          may = record { len = refl; sectors = λ j h. absurd (omega (arith, h)) };
          exact = λ sure. refl;
        };
        grown = Grown-none _ 0 0 w;
        kept = kept;
      })

  module _ {old mid new : List Device} {u w : List FoundRecord} {k : ℕ} {x : List ℕ} (j : ℕ) (inside : j < m) (so_far : Finds (blocks_place c p n) c 0 (j * block_sectors p.verity.now) (record { old = old; new = mid; before = u; after = w }) (Ok x))
      (moved : AreRead mid k new) (few : k ≤ n * read_cost c (mapped p.device.0)) where
    step-cost : k ≤ block_sectors p.verity.now * (n * read_cost c (mapped p.device.0))
    step-cost = let once : 1 * (n * read_cost c (mapped p.device.0)) ≤ block_sectors p.verity.now * (n * read_cost c (mapped p.device.0)) = mul-le-mul_right (n * read_cost c (mapped p.device.0)) b.size.some in omega (arith, once, few)

    within : (p.first + j * block_sectors p.verity.now) % block_sectors p.verity.now + block_sectors p.verity.now ≤ block_sectors p.verity.now
    within = omega (arith, at-begin j)

    -- by one block
    pub blocks-more : (content : List ℕ) (path : List (List ℕ)) {now : List Device} → length content ≡ 512 * block_sectors p.verity.now
        → GetsChain (block_in c p.verity.now (index + j)) mid now (Ok (record { index = index + j; content = content; path = path }))
        → Finds (blocks_place c p n) c 0 (j * block_sectors p.verity.now + block_sectors p.verity.now)
        (record { old = old; new = new; before = u; after = w ++ (record { device = p.device.0; line = p.line; chain = record { index = index + j; content = content; path = path } } ∷ []) }) (Ok (x ++ content))
    blocks-more content path len got =
        let chain : ChainRecord = record { index = index + j; content = content; path = path } in
        let one : FoundRecord = record { device = p.device.0; line = p.line; chain = chain } in
        let whole : IsOfVerity (below none_said (said_by_name c) (verity_target p.verity.now)) (AreCertain c (verity_target p.verity.now)) new p.verity.now chain = record {
          good = got.may.1;
          exact = λ sure.
              let before : IsCertain (chain_expected (block_in c p.verity.now (index + j))) mid = record {
                steady = AreSteady-kept new mid (sym moved.moved.fixed) (AreSteady-within new (λ i is. subst IsTrue (sym (verity-leaves c p.verity.now 0 i)) is) sure.steady);
                agrees = λ meets. line-agreed c p.device.0 p.line p.verity.now (index + j) b.line (steady_images mid) (subst (AgreesOn c (target_leaves c (verity_target p.verity.now))) (images-kept moved) sure.agrees);
              } in
              ap (λ (i : Images). verity_block c i p.verity.now (index + j)) (images-kept moved) ∙ got.exact before;
        } in
        let is : content ≡ take (512 * block_sectors p.verity.now) (drop (512 * ((p.first + j * block_sectors p.verity.now) % block_sectors p.verity.now)) content) =
        sym (ap (λ (r : ℕ). take (512 * block_sectors p.verity.now) (drop (512 * r) content)) (at-begin j) ∙ take_all (512 * block_sectors p.verity.now) content (omega (arith, len))) in
        run_ok (blocks_place c p n) c mono 0 (j * block_sectors p.verity.now) (block_sectors p.verity.now) so_far
        (pass (passes j (n * read_cost c (mapped p.device.0))) (record { old = mid; new = new; before = w; after = w ++ (one ∷ []) }) (Ok content) (record {
          got = chain_fills (block_in c p.verity.now (index + j)) (p.device.0, p.line) (p.first + j * block_sectors p.verity.now) (block_sectors p.verity.now) (n * read_cost c (mapped p.device.0)) (part_agrees c p) (block-agrees j inside) (sym (at-index j)) within b.size.whole (w ++ (one ∷ [])) one b.size.some
              (AreRead-more step-cost moved) (λ steady agrees. got.exact (record { steady = steady; agrees = λ meets. block-agrees j inside (steady_images mid) agrees })) got.may.1 refl (Contains-push w one) is;
          grown = Grown-push _ 0 (block_sectors p.verity.now) w one b.size.some
              (0, omega arith, (let e : p.first + j * block_sectors p.verity.now + 0 ≡ p.first + j * block_sectors p.verity.now = omega arith in ap (λ (s : ℕ). (p.device.0, p.line, s / block_sectors p.verity.now)) e ∙ ap (λ (i : ℕ). (p.device.0, p.line, i)) (at-index j)));
          kept = AllKept-push c new w one (kept-later c w moved so_far.kept) (record { line = b.line.line; is = b.line.is; keeps = subst (λ (t : Target). LineKeeps c new t chain) (sym b.line.has) whole });
        }))

    -- to a fault of the next one
    stops : (fault : IoFault) → Gets (run_expected (block_place (block_in c p.verity.now (index + j)) (p.device.0, p.line) (p.first + j * block_sectors p.verity.now) (n * read_cost c (mapped p.device.0)) (part_agrees c p)) w 0 (block_sectors p.verity.now)) mid new (Err fault)
        → Finds (blocks_place c p n) c 0 n (record { old = old; new = new; before = u; after = w }) (Err fault)
    stops fault got =
        run_err (blocks_place c p n) c mono 0 (j * block_sectors p.verity.now) (block_sectors p.verity.now) so_far n fault (fits j inside)
        (pass (passes j (n * read_cost c (mapped p.device.0))) (record { old = mid; new = new; before = w; after = w }) (Err fault) (record { got = got; grown = Grown-none _ 0 (block_sectors p.verity.now) w; kept = kept-later c w moved so_far.kept }))

    block-stops : (fault : IoFault) {now : List Device} → GetsChain (block_in c p.verity.now (index + j)) mid now (Err fault)
        → Gets (run_expected (block_place (block_in c p.verity.now (index + j)) (p.device.0, p.line) (p.first + j * block_sectors p.verity.now) (n * read_cost c (mapped p.device.0)) (part_agrees c p)) w 0 (block_sectors p.verity.now)) mid now (Err fault)
    block-stops fault got =
        let one : 1 * read_cost c (mapped p.device.0) ≤ n * read_cost c (mapped p.device.0) = mul-le-mul_right (read_cost c (mapped p.device.0)) (omega (arith, fits j inside, b.size.some)) in
        block_fails (block_in c p.verity.now (index + j)) (p.device.0, p.line) (p.first + j * block_sectors p.verity.now) (block_sectors p.verity.now) (n * read_cost c (mapped p.device.0)) (part_agrees c p) (block-agrees j inside) (sym (at-index j)) within b.size.whole w fault b.size.some (omega (arith, chain-cost (index + j), one)) got

    pub blocks-stop : (fault : IoFault) → GetsChain (block_in c p.verity.now (index + j)) mid new (Err fault) → Finds (blocks_place c p n) c 0 n (record { old = old; new = new; before = u; after = w }) (Err fault)
    blocks-stop fault got = stops fault (block-stops fault got)

    -- of its digest
    pub blocks-differ : {now : List Device} → GetsChain (block_in c p.verity.now (index + j)) mid now (Err (io.Stack mismatch)) → Finds (blocks_place c p n) c 0 n (record { old = old; new = new; before = u; after = w }) (Err (io.Stack mismatch))
    blocks-differ got = let end = block-stops (io.Stack mismatch) got in stops (io.Stack mismatch) (record { moved = AreRead-more step-cost moved; may = end.may; exact = end.exact })

    -- of its digest, and its spare's
    pub heal-stops : {now at : List Device} {q : ℕ} (expected : List ℕ) (vain : IoFault) → ((fault : Fault) → vain ≡ io.Stack fault → GetsChain (block_in c p.verity.now (index + j)) mid now (Err (io.Stack mismatch))) → AreRead mid q at
        → Gets (spare_expected (λ (x : List ℕ). x) (block_in c p.verity.now (index + j)) expected) at new (Err vain) → Finds (blocks_place c p n) c 0 n (record { old = old; new = new; before = u; after = w }) (Err (unhealed (io.Stack mismatch) vain))
    heal-stops expected (io.Stack fault) other walked got = blocks-differ (other fault refl)
    heal-stops expected (io.Device i) other walked got = stops (io.Device i) (record { moved = AreRead-more step-cost moved; may = (got.may.0, failed_later walked.moved got.moved.moved got.may.1); exact = λ sure. tt })
    heal-stops expected io.NoMemory other walked got = stops io.NoMemory (record { moved = AreRead-more step-cost moved; may = got.may; exact = λ sure. tt })

    -- as it is read alone
    pub alone-stops : {now at : List Device} {q : ℕ} (expected : List ℕ) (fault : IoFault) → ((why : Fault) → fault ≡ io.Stack why → GetsChain (block_in c p.verity.now (index + j)) mid now (Err (io.Stack why))) → AreRead mid q at
        → Gets (data_expected (λ (x : Vec ℕ Global). x.items) (block_in c p.verity.now (index + j)) expected) at new (Err fault) → Finds (blocks_place c p n) c 0 n (record { old = old; new = new; before = u; after = w }) (Err fault)
    alone-stops expected (io.Stack why) other walked got = let end = block-stops (io.Stack why) (other why refl) in stops (io.Stack why) (record { moved = AreRead-more step-cost moved; may = end.may; exact = end.exact })
    alone-stops expected (io.Device i) other walked got = stops (io.Device i) (record { moved = AreRead-more step-cost moved; may = (got.may.0, failed_later walked.moved got.moved.moved got.may.1); exact = λ sure. tt })
    alone-stops expected io.NoMemory other walked got = stops io.NoMemory (record { moved = AreRead-more step-cost moved; may = got.may; exact = λ sure. tt })

    -- of the data, beneath which no fault of a line is met
    pub row-stops : {at : List Device} {q first rows : ℕ} (chains : List FoundRecord) (fault : IoFault) → AreRead mid q at
        → Gets (run_expected (place_of c p.data) chains first rows) at new (Err fault) → Finds (blocks_place c p n) c 0 n (record { old = old; new = new; before = u; after = w }) (Err fault)
    row-stops {first = first} chains (io.Stack fault) walked got = absurd (b.clear (first + got.may.0) fault got.may.2)
    row-stops chains (io.Device i) walked got = stops (io.Device i) (record { moved = AreRead-more step-cost moved; may = (got.may.0, failed_later walked.moved got.moved.moved got.may.1); exact = λ sure. tt })
    row-stops chains io.NoMemory walked got = stops io.NoMemory (record { moved = AreRead-more step-cost moved; may = got.may; exact = λ sure. tt })

    -- or where memory is short
    pub blocks-full : IsOutOfMemory largest_allocation → Finds (blocks_place c p n) c 0 n (record { old = old; new = new; before = u; after = w }) (Err io.NoMemory)
    blocks-full refused = stops io.NoMemory (record { moved = AreRead-more step-cost moved; may = refused; exact = λ sure. tt })

  -- ---- the whole read

  pub blocks-read : (did : LeafRead) (answer : Result (List ℕ) IoFault) (r j s : ℕ) → r ≤ m → j ≤ m → s ≤ m → AreRead did.old (read_cost_so_far c p.verity.now (r * block_sectors p.verity.now) j s) did.new → Finds (blocks_place c p n) c 0 n did answer → ReadsSource c (Blocks p) n did answer
  blocks-read did answer r j s read most healed moved found = record {
    got = record { moved = AreRead-more (total-cost r j s read most healed) moved; may = found.got.may; exact = λ sure. found.got.exact (record { steady = sure.steady; agrees = sure.agrees }) };
    grown = found.grown;
    kept = found.kept;
  }

-- a verity line is on the way
pub blocks-meet : (c : Configuration) (p : VerityPart) (n : ℕ) → 0 < n → MeetVerity (source_said c (Blocks p)) 0 n
blocks-meet c p n some = (0, some, inl refl)
