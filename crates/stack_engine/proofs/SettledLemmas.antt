-- A data block that was read together with others, and is settled: it is ignored, or has the digest, or its spare is in its place.
use Rattle.std.proofs.Common.{◌≡◌, ◌⊎◌, ℕ, ◌+◌, ◌-◌, ◌*◌, ◌/◌, ◌<◌, ◌≤◌, Bool, true, false, replicate, List, [], length, get_or, take, drop, IsTrue, Vec, Global, Result, Ok, Err, inl, inr, refl, sym, ap, ◌∙◌, subst, arith}
use Rattle.std.specs.Prelude.{is_some}
use borrow.Rule.Slice.PartMut.{put_mid}
use Rattle.tree_shape.specs.Digests.{digest}
use Rattle.block_device.specs.Call.{Call}
use Rattle.block_device.specs.Device.{Device}
use Rattle.dm_table.specs.declared.verity.Verity.{Verity}
use Rattle.stack_rules.specs.Records.{Configuration}
use Rattle.stack_rules.specs.Trees.{block_sectors}
use Rattle.stack_meaning.specs.declared.fault.IoFault.{IoFault}
use Rattle.stack_meaning.specs.declared.fault.IoFault.TheVariants as io
use Rattle.stack_meaning.specs.Blocks.{is_ignored}
use Rattle.stack_meaning.specs.Found.{FoundRecord}
use Rattle.stack_meaning.specs.Leaves.{AreRead}
use Rattle.stack_meaning.specs.Outcomes.{mismatch}
use Rattle.stack_meaning.specs.Places.{LeafRead}
use Rattle.stack_meaning.specs.Reading.{Gets}
use Rattle.stack_meaning.proofs.lemmas.LeafListLemmas.{AreRead-more, AreRead-none}
use Rattle.stack_lines.specs.declared.source.Source.TheVariants.{Blocks}
use Rattle.stack_lines.specs.declared.source.VerityPart.{VerityPart}
use Rattle.stack_lines.specs.declared.tree.Tree.{Tree}
use Rattle.stack_lines.specs.Sources.{ReadsSource}
use Rattle.stack_lines.specs.Walks.{block_in, settled_cost, GetsChain}
use Rattle.stack_engine.specs.declared.backing.Backing.{Backing}
use Rattle.stack_engine.specs.declared.rows.JudgedBlock.{JudgedBlock}
use Rattle.stack_engine.specs.Backings.{leaves_in, served}
use Rattle.stack_engine.specs.Healing.{healed_result, unhealed}
use Rattle.stack_engine.specs.Restored.{Served, after_spare}
use Rattle.stack_engine.specs.SectorCalls.{DataPlace, Gives, ReadsBy, data_of, one_block, place_at, place_in, spare_of}
use Rattle.stack_engine.specs.ReadSteps.{block_answer, data_wanted}
use Rattle.stack_engine.specs.Spares.{IsAnswered, SettlesBy, spare_wanted}
use Rattle.stack_engine.proofs.BlockCallLemmas.{BlocksUpTo, WayFrom, way-alone, way-plain}
use Rattle.stack_engine.proofs.NextCallLemmas.{alone-ended, alone-on, block-mended, block-settled, block-unhealed}
use Rattle.stack_engine.proofs.BlocksAtLemmas.{BlocksAt}
use Rattle.stack_engine.proofs.ReadBlockLemmas.{block-alone, block-had, block-healed, block-zeros}
use Rattle.stack_engine.proofs.lemmas.WalkLemmas.{alone-low, spare-low}
use Rattle.stack_engine.proofs.NextBlockLemmas.{IsAhead, IsNext, sub-same}
use Rattle.stack_engine.proofs.NextSettledLemmas.{alone-fails, block-fails, stood-len, was-read, width}

-- ---- answers

abbrev ok_bytes : Result (List ℕ) IoFault → List ℕ
ok_bytes (Ok x) = x
ok_bytes (Err fault) = []

abbrev err_fault : Result (List ℕ) IoFault → IoFault
err_fault (Ok x) = io.NoMemory
err_fault (Err fault) = fault

ok-same : {x y : List ℕ} {a : Result (List ℕ) IoFault} → a ≡ Ok x → a ≡ Ok y → x ≡ y
ok-same p q = ap ok_bytes (sym p ∙ q)

-- a spare that is answered was read
healed-ok : (spare : Result (List ℕ) IoFault) (x : List ℕ) → Ok x ≡ healed_result (io.Stack mismatch) spare → spare ≡ Ok x
healed-ok (Ok y) x e = sym e
healed-ok (Err vain) x e = let clash : Ok x ≡ Err (unhealed (io.Stack mismatch) vain) = e in absurd cc

-- the fault of one that wasn't
pub record IsVain (spare : Result (List ℕ) IoFault) (fault : IoFault) : Type 0 where
  pub vain : IoFault
  pub unread : spare ≡ Err vain
  pub is : fault ≡ unhealed (io.Stack mismatch) vain

healed-err : (spare : Result (List ℕ) IoFault) (fault : IoFault) → Err fault ≡ healed_result (io.Stack mismatch) spare → IsVain spare fault
healed-err (Ok y) fault e = let clash : Err fault ≡ Ok y = e in absurd cc
healed-err (Err vain) fault e = record { vain = vain; unread = refl; is = ap err_fault e }

err-ok : (fault : IoFault) (x : List ℕ) → Err fault ≡ Ok x → ⊥
err-ok fault x e = let clash : Err fault ≡ Ok x = e in absurd cc

-- a block that needs no spare has no fault
answered-err : (judged : JudgedBlock) (block : List ℕ) (fault : IoFault) (i : Bool) → judged.ignored ≡ i → IsAnswered judged block (Err fault) → ⊥
answered-err judged block fault true is answered = err-ok fault (replicate (length block) 0) (answered.zeros is)
answered-err judged block fault false is answered = err-ok fault block (answered.same is).1

-- one that is read alone was read, or wasn't
pub record IsAlone (own : Result (Vec ℕ Global) IoFault) (bytes : List ℕ) : Type 0 where
  pub block : Vec ℕ Global
  pub read : own ≡ Ok block
  pub is : block.items ≡ bytes

alone-ok : (own : Result (Vec ℕ Global) IoFault) (x : List ℕ) → Ok x ≡ block_answer own → IsAlone own x
alone-ok (Ok block) x e = record { block = block; read = refl; is = ap ok_bytes (sym e) }
alone-ok (Err fault) x e = let clash : Ok x ≡ Err fault = e in absurd cc

alone-err : (own : Result (Vec ℕ Global) IoFault) (fault : IoFault) → Err fault ≡ block_answer own → own ≡ Err fault
alone-err (Ok block) fault e = let clash : Err fault ≡ Ok block.items = e in absurd cc
alone-err (Err other) fault e = ap Err (ap err_fault (sym e))

-- ---- what it leaves of the leaves

pub record HealsOn (c : Configuration) (v : Verity) (judged : JudgedBlock) (at new : List Device) (answer : Result (List ℕ) IoFault) : Type 0 where
  pub together : judged.alone ≡ false
  pub used : judged.ignored ≡ false
  pub differs : judged.made ≡ judged.lost.digest → ⊥
  pub spare : Result (List ℕ) IoFault
  pub is : answer ≡ healed_result (io.Stack mismatch) spare
  pub got : Gets (spare_wanted c v judged.lost) at new spare

pub record AloneOn (c : Configuration) (v : Verity) (judged : JudgedBlock) (at new : List Device) (answer : Result (List ℕ) IoFault) : Type 0 where
  pub alone : judged.alone ≡ true
  pub own : Result (Vec ℕ Global) IoFault
  pub is : answer ≡ block_answer own
  pub got : Gets (data_wanted c v judged.lost.index judged.lost.digest) at new own

abbrev pub SettledOn : Configuration → Verity → JudgedBlock → List ℕ → List Device → List Device → Result (List ℕ) IoFault → Type 0
SettledOn c v judged block at new answer = ((new ≡ at) × IsAnswered judged block answer) ⊎ (HealsOn c v judged at new answer ⊎ AloneOn c v judged at new answer)

pub settled-on : {D : Type 0} (state : D → Device) {does : D → Call → D → Type 0} (c : Configuration) (p : DataPlace) (judged : JudgedBlock) {block : List ℕ} {old new : Backing D} {answer : Result (List ℕ) IoFault} → SettlesBy state does c p judged block old new answer
    → SettledOn c p.verity judged block (leaves_in state old) (leaves_in state new) answer
settled-on {D = D} state c p judged h = elim h [
  | inl kept ↦ inl (ap (λ (x : Backing D). leaves_in state x) kept.0, kept.1)
  | inr read ↦ elim read [
    | inl heals ↦ inr (inl (record { together = heals.together; used = heals.used; differs = heals.differs; spare = heals.spare; is = heals.is; got = heals.got }))
    | inr lone ↦ inr (inr (record { alone = lone.alone; own = lone.own; is = lone.is; got = lone.got }))
  ]
]

pub settled-moved : (c : Configuration) (v : Verity) (judged : JudgedBlock) {block : List ℕ} {at new : List Device} {answer : Result (List ℕ) IoFault} → (judged.alone ≡ true → IsTrue (is_some v.parity)) → SettledOn c v judged block at new answer → AreRead at (settled_cost (block_in c v 0)) new
settled-moved c v judged {at = at} some h = elim h [
  | inl kept ↦ subst (λ (l : List Device). AreRead at (settled_cost (block_in c v 0)) l) (sym kept.0) (AreRead-none _ at)
  | inr read ↦ elim read [
    | inl heals ↦ AreRead-more (spare-low (block_in c v 0)) heals.got.moved
    | inr lone ↦ AreRead-more (alone-low (block_in c v 0) (some lone.alone)) lone.got.moved
  ]
]

-- block `index`, by what is known of it
abbrev pub judged_block : ℕ → List ℕ → Bool → Bool → List ℕ → JudgedBlock
judged_block index expected ignored alone made = record { lost = record { index = index; digest = expected }; ignored = ignored; alone = alone; made = made }

-- by its place
pub settles-at : {D : Type 0} {state : D → Device} {does : D → Call → D → Type 0} {c : Configuration} (x : VerityPart) (tree : Tree) (i j : ℕ) (expected made : List ℕ) (ignored alone : Bool) {judged : JudgedBlock} {block : List ℕ} {old new : Backing D} {answer : Result (List ℕ) IoFault} → judged ≡ judged_block i expected ignored alone made
    → i ≡ x.first / block_sectors x.verity.now + j → place_in x.verity.now tree i ≡ place_at x (x.first / block_sectors x.verity.now + j) → SettlesBy state does c (place_in x.verity.now tree judged.lost.index) judged block old new answer
    → SettlesBy state does c (place_at x (x.first / block_sectors x.verity.now + j)) (judged_block (x.first / block_sectors x.verity.now + j) expected ignored alone made) block old new answer
settles-at {state = state} {does = does} {c = c} x tree i j expected made ignored alone {block = block} {old = old} {new = new} {answer = answer} is index same h =
    subst (λ (q : DataPlace). SettlesBy state does c q (judged_block (x.first / block_sectors x.verity.now + j) expected ignored alone made) block old new answer) same
    (subst (λ (k : ℕ). SettlesBy state does c (place_in x.verity.now tree i) (judged_block k expected ignored alone made) block old new answer) index
    (subst (λ (y : JudgedBlock). SettlesBy state does c (place_in x.verity.now tree y.lost.index) y block old new answer) is h))

module _ {c : Configuration} {p : VerityPart} {n : ℕ} {found : List FoundRecord} (b : BlocksAt c p n found) {r j : ℕ} {bytes expected : List ℕ} {path : List (List ℕ)} {did : LeafRead} (out : List ℕ) (inside : j < n / block_sectors p.verity.now) (read : r ≤ n / block_sectors p.verity.now)
    (next : IsNext c p n r j j bytes expected path did) (len : length out ≡ 512 * n) (end : j * p.verity.now.data_block + p.verity.now.data_block ≤ length out)
    {ignored : Bool} (made : List (List ℕ)) (x : List ℕ) (same : ignored ≡ is_ignored p.verity.now expected) {a : ℕ} {alone : Bool} (plain : alone ≡ false → a ≤ j) (heals : alone ≡ true → IsTrue (is_some p.verity.now.parity)) (kept : IsAhead c p r a j out made did.old) (within : ignored ≡ false → j < r) where
  abbrev stood : List ℕ
  stood = take (j * p.verity.now.data_block + p.verity.now.data_block - j * p.verity.now.data_block) (drop (j * p.verity.now.data_block) out)

  abbrev index : ℕ
  index = p.first / block_sectors p.verity.now + j

  abbrev judged : JudgedBlock
  judged = judged_block (p.first / block_sectors p.verity.now + j) expected ignored alone (get_or made j x)

  answered-got : (block : List ℕ) (i : Bool) → ignored ≡ i → IsAnswered judged stood (Ok block) → GetsChain (block_in c p.verity.now index) next.mid next.here (Ok (record { index = index; content = block; path = path }))
  answered-got block true is answered =
      block-zeros b j next.later next.walked block (get_or made j x) (sym same ∙ is) (ok-same refl (answered.zeros is) ∙ ap (λ (k : ℕ). replicate k 0) (stood-len b out inside read next len end ∙ sub-same (j * p.verity.now.data_block) p.verity.now.data_block)) (b.there j inside)
  answered-got block false is answered =
      let own = answered.same is in
      subst (λ (l : List ℕ). GetsChain (block_in c p.verity.now index) next.mid next.here (Ok (record { index = index; content = l; path = path }))) (ok-same own.1 refl)
      (block-had b j next.later next.walked stood (get_or made j x) (sym same ∙ is) (was-read b out inside read next len end made x (kept.ahead (plain answered.together)) (within is)) (stood-len b out inside read next len end ∙ width b out inside read next len end) (b.there j inside) own.0)

  -- its chain
  pub settled-got : {new : List Device} {block : List ℕ} → SettledOn c p.verity.now judged stood did.new new (Ok block) → GetsChain (block_in c p.verity.now index) next.mid next.here (Ok (record { index = index; content = block; path = path }))
  settled-got {new = new} {block = block} h = elim h [
    | inl own ↦ answered-got block ignored refl own.1
    | inr more ↦ elim more [
      | inl spare ↦
          block-healed b j next.later next.walked stood (get_or made j x) (sym same ∙ spare.used) (was-read b out inside read next len end made x (kept.ahead (plain spare.together)) (within spare.used)) spare.differs next.moved
          (subst (λ (y : Result (List ℕ) IoFault). Gets (spare_wanted c p.verity.now judged.lost) did.new new y) (healed-ok spare.spare block spare.is) spare.got) (b.there j inside)
      | inr lone ↦
          let got = alone-ok lone.own block lone.is in
          subst (λ (l : List ℕ). GetsChain (block_in c p.verity.now index) next.mid next.here (Ok (record { index = index; content = l; path = path }))) got.is
          (block-alone b j next.later next.walked next.moved got.block
          (subst (λ (y : Result (Vec ℕ Global) IoFault). Gets (data_wanted c p.verity.now index expected) did.new new y) got.read lone.got) (b.there j inside))
    ]
  ]

  -- or a fault
  pub unsettled : {new : List Device} (fault : IoFault) → SettledOn c p.verity.now judged stood did.new new (Err fault) → ReadsSource c (Blocks p) n (record { old = did.old; new = new; before = did.before; after = did.after }) (Err fault)
  unsettled {new = new} fault h = elim h [
    | inl own ↦ absurd (answered-err judged stood fault ignored refl own.1)
    | inr more ↦ elim more [
      | inl spare ↦
          let failed = healed-err spare.spare fault spare.is in
          subst (λ (y : IoFault). ReadsSource c (Blocks p) n (record { old = did.old; new = new; before = did.before; after = did.after }) (Err y)) (sym failed.is)
          (block-fails b out inside read next len end (settled-moved c p.verity.now judged {block = stood} heals (inr (inl spare))) made x same (kept.ahead (plain spare.together)) within spare.used spare.differs failed.vain
          (subst (λ (y : Result (List ℕ) IoFault). Gets (spare_wanted c p.verity.now judged.lost) did.new new y) failed.unread spare.got))
      | inr lone ↦
          alone-fails b out inside read next len end (settled-moved c p.verity.now judged {block = stood} heals (inr (inr lone))) fault
          (subst (λ (y : Result (Vec ℕ Global) IoFault). Gets (data_wanted c p.verity.now index expected) did.new new y) (alone-err lone.own fault lone.is) lone.got)
    ]
  ]

-- ---- its calls

module _ {D : Type 0} {state : D → Device} {does : D → Call → D → Type 0} {c : Configuration} {x : VerityPart} {n r a j : ℕ} {out expected last : List ℕ} {old : Served D} {at to : Backing D} (h : WayFrom does c x n r a j out (expected, last) old (served at)) (w : ℕ) (w_is : w ≡ x.verity.now.data_block)
    (more : j < n / block_sectors x.verity.now) (whole : x.verity.now.data_block ≡ 512 * block_sectors x.verity.now) (end : j * x.verity.now.data_block + x.verity.now.data_block ≤ length out)
    {ignored alone : Bool} (plain : alone ≡ false → a ≤ j) (lone : alone ≡ true → (j < a) × (r ≡ a)) (made : List ℕ) (same : ignored ≡ is_ignored x.verity.now expected) (within : ignored ≡ false → j < r) (of : a ≤ j → ignored ≡ false → made ≡ digest x.verity.now.salt (take w (drop (j * x.verity.now.data_block) out))) where
  pub settled-given : (block : List ℕ) → length block ≡ x.verity.now.data_block
      → SettlesBy state does c (place_at x (x.first / block_sectors x.verity.now + j)) (judged_block (x.first / block_sectors x.verity.now + j) expected ignored alone made) (take w (drop (j * x.verity.now.data_block) out)) at to (Ok block)
      → BlocksUpTo does c x n r a (j + 1) (put_mid (j * x.verity.now.data_block) w out block) old (served to)
  settled-given block wide settled = elim settled [
    | inl own ↦
        let low : a ≤ j = plain own.1.together in
        subst (λ (y : Backing D). BlocksUpTo does c x n r a (j + 1) (put_mid (j * x.verity.now.data_block) w out block) old (served y)) (sym own.0)
        (block-settled (way-plain low h) w w_is more whole end ignored block low same within (λ is. ok-same refl (own.1.zeros is)) (λ is. (sym (of low is) ∙ (own.1.same is).0, ok-same refl (own.1.same is).1)))
    | inr read ↦ elim read [
      | inl heals ↦
          let low : a ≤ j = plain heals.together in
          let spare = healed-ok heals.spare block heals.is in
          let counted = heals.counted ∙ ap (λ (y : Result (List ℕ) IoFault). after_spare y heals.read) spare in
          subst (λ (s : Served D). BlocksUpTo does c x n r a (j + 1) (put_mid (j * x.verity.now.data_block) w out block) old s) (sym counted)
          (block-mended (way-plain low h) w w_is more whole end low (sym same ∙ heals.used) (within heals.used) (λ good. heals.differs (of low heals.used ∙ good)) block wide
          (subst (λ (y : Result (List ℕ) IoFault). ReadsBy does c (spare_of (place_at x (x.first / block_sectors x.verity.now + j)) expected) (served at) heals.read y) spare heals.given))
      | inr own ↦
          let at_last = lone own.alone in
          let few : r ≤ a = omega (arith, at_last.1) in
          alone-on (way-alone few h) at_last.0 w w_is more end few block wide
          (subst (λ (y : Result (List ℕ) IoFault). ReadsBy does c (data_of (place_at x (x.first / block_sectors x.verity.now + j)) 0 expected last one_block) (served at) (served to) y) (sym own.is) (own.given last))
    ]
  ]

  pub unsettled-given : (fault : IoFault)
      → SettlesBy state does c (place_at x (x.first / block_sectors x.verity.now + j)) (judged_block (x.first / block_sectors x.verity.now + j) expected ignored alone made) (take w (drop (j * x.verity.now.data_block) out)) at to (Err fault)
      → Gives does c (Blocks x) n old (served to) (Err fault)
  unsettled-given fault settled = elim settled [
    | inl own ↦ absurd (answered-err (judged_block (x.first / block_sectors x.verity.now + j) expected ignored alone made) (take w (drop (j * x.verity.now.data_block) out)) fault ignored refl own.1)
    | inr read ↦ elim read [
      | inl heals ↦
          let low : a ≤ j = plain heals.together in
          let failed = healed-err heals.spare fault heals.is in
          let counted = heals.counted ∙ ap (λ (y : Result (List ℕ) IoFault). after_spare y heals.read) failed.unread in
          subst (λ (y : IoFault). Gives does c (Blocks x) n old (served to) (Err y)) (sym failed.is)
          (subst (λ (s : Served D). Gives does c (Blocks x) n old s (Err (unhealed (io.Stack mismatch) failed.vain))) (sym counted)
          (block-unhealed (way-plain low h) w w_is more whole end (sym same ∙ heals.used) (within heals.used) (λ good. heals.differs (of low heals.used ∙ good)) failed.vain
          (subst (λ (y : Result (List ℕ) IoFault). ReadsBy does c (spare_of (place_at x (x.first / block_sectors x.verity.now + j)) expected) (served at) heals.read y) failed.unread heals.given)))
      | inr own ↦
          let at_last = lone own.alone in
          alone-ended (way-alone (omega (arith, at_last.1)) h) at_last.0
          (subst (λ (y : Result (List ℕ) IoFault). ReadsBy does c (data_of (place_at x (x.first / block_sectors x.verity.now + j)) 0 expected last one_block) (served at) (served to) y) (sym own.is) (own.given last))
    ]
  ]
