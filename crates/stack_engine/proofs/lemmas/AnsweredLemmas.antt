-- The chains of an answer.
use Rattle.std.proofs.Common.{◌≡◌, ◌≢◌, ℕ, ◌+◌, ◌-◌, ◌/◌, ◌<◌, ◌≤◌, List, [], ◌++◌, get_or, Contains, Option, Some, None, sym, ap, ◌∙◌, subst, arith, inl, inr, true}
use Rattle.std.proofs.lemmas.List.{append_cancel_left, get_or_default}
use Rattle.std.proofs.lemmas.Bool.{cases_lt}
use Rattle.hash_tree.specs.declared.difference.Place.{Place}
use Rattle.hash_tree.specs.Chain.{ChainRecord, IsGood, formed}
use Rattle.hash_tree.specs.Difference.{IsTopmostDifference, IsCollision, chain_at as chain_block}
use Rattle.tree_shape.specs.Digests.{digest}
use Rattle.hash_tree.specs.Laws.{AreBlocks, ForgedBlocksCollide}
use Rattle.hash_tree.specs.Tree.{root}
use Rattle.dm_table.specs.declared.table.Line.{Line}
use Rattle.dm_table.specs.declared.table.Target.{Target}
use Rattle.dm_table.specs.declared.table.Target.TheVariants.{Verity as verity_target}
use Rattle.dm_table.specs.declared.verity.Verity.{Verity}
use Rattle.stack_rules.specs.declared.lower.Lower.{Lower}
use Rattle.stack_rules.specs.Lines.{IsLine}
use Rattle.stack_rules.specs.Names.{mapped}
use Rattle.stack_rules.specs.Records.{Configuration}
use Rattle.stack_rules.specs.Rules.{IsLoaded}
use Rattle.stack_rules.specs.Trees.{tree_of, block_sectors, zero_block}
use Rattle.stack_meaning.specs.Beneath.{beneath, below, said_or}
use Rattle.stack_meaning.specs.TargetMeaning.{Meant, handed, own, said_as}
use Rattle.stack_meaning.specs.MeaningOf.{meaning_of}
use Rattle.stack_meaning.specs.Blocks.{is_ignored}
use Rattle.stack_meaning.specs.Found.{FoundRecord, Entry, found_entry, AreDistinct}
use Rattle.stack_engine.specs.Bytes.{IsGoodChain}
use Rattle.stack_engine.specs.Laws.{verity_digests, IsSha256Collision, LiesInVerity, ForgedAnswersCollide, ForgedBytesCollide, ForgedSectorsCollide}
use Rattle.stack_meaning.specs.May.{MayBe}
use Rattle.stack_meaning.specs.Meaning.{Said, none_said, said_at, said_by_name, line_said, content_part, IsShown}
use Rattle.stack_meaning.specs.Outcomes.{part}
use Rattle.stack_lines.specs.Walks.{HasVerity}
use Rattle.stack_lines.proofs.lemmas.VerityLineLemmas.{line-facts}
use Rattle.stack_meaning.proofs.lemmas.EachLineLemmas.{IsHandedUpIn, said_at-each_in, line_at-is, line_at-end}
use Rattle.stack_meaning.proofs.lemmas.LineLemmas.{line-start}
use Rattle.stack_meaning.proofs.lemmas.SectorLemmas.{said_at-line}
use Rattle.stack_meaning.proofs.lemmas.MeaningLaws.{MeantLaws, Shows}
use Rattle.stack_meaning.proofs.lemmas.MeaningLawsOf.{meaning-laws}
use Rattle.stack_engine.proofs.lemmas.WalkLemmas.{ignored-digest}

-- ---- what is answered for an entry on a sector's way

-- a good chain of that entry's line
abbrev IsShownIn : Configuration → List FoundRecord → Entry → Type 0
IsShownIn c chains e = (x : FoundRecord) × (v : Verity) × HasVerity c e.0 e.1 v × IsShown chains e v x

-- what a sector may be shows a good chain for each entry on its way
abbrev ShowsEntries : Configuration → Said → Type 0
ShowsEntries c said = (chains : List FoundRecord) → Shows chains (IsShownIn c chains) said

or-shows : (c : Configuration) (at : List ℕ → ℕ → Said) → ((name : List ℕ) (s : ℕ) → ShowsEntries c (at name s)) → (o : Option (List ℕ × ℕ)) → ShowsEntries c (said_or none_said at o)
or-shows c at all None chains bytes e may there = absurd may
or-shows c at all (Some p) chains bytes e may there = all p.0 p.1 chains bytes e may there

line-shows : (c : Configuration) → IsHandedUpIn c (ShowsEntries c)
line-shows c at all d l line is s chains = go (meaning_of line.target).meant (meaning-laws line.target)
  where
    go : (m : Meant) → MeantLaws line.target m → Shows chains (IsShownIn c chains) (said_as m (said_or none_said at (beneath line.target s)) (below none_said at line.target) d l s)
    go handed laws = or-shows c at all (beneath line.target s) chains
    go (own m) laws =
        laws.shows chains (IsShownIn c chains) (below none_said at line.target) (λ i t. or-shows c at all _ chains) d l s
        (λ v x i has shown. (x, v, record { line = line; is = is; has = has; fits = omega arith }, shown))

at-shows : (c : Configuration) (lower : Lower) (s : ℕ) → ShowsEntries c (said_at c lower s)
at-shows c lower s = said_at-each_in c (ShowsEntries c) (λ chains bytes e may there. absurd may) (λ i s chains bytes e may there. absurd (omega (arith, there.1))) (line-shows c) lower s

-- ---- chains of an answer

-- no two chains have one entry
same-chain : (chains : List FoundRecord) (x y : FoundRecord) → AreDistinct chains → Contains chains x → Contains chains y → found_entry x ≡ found_entry y → x ≡ y
same-chain chains x y distinct a b e = elim (cases_lt a.0 b.0) [
  | inl low ↦
      let left : get_or chains a.0 x ≡ x = a.2 in
      let right : get_or chains b.0 x ≡ y = get_or_default chains b.0 x y b.1 ∙ b.2 in
      absurd (distinct a.0 b.0 x low b.1 (ap found_entry left ∙ e ∙ ap found_entry (sym right)))
  | inr high ↦ elim (cases_lt b.0 a.0) [
    | inl low ↦
        let left : get_or chains b.0 x ≡ y = get_or_default chains b.0 x y b.1 ∙ b.2 in
        absurd (distinct b.0 a.0 x low a.1 (ap found_entry left ∙ sym e ∙ ap found_entry (sym a.2)))
    | inr other ↦
        let same : a.0 ≡ b.0 = omega (arith, high, other) in
        sym a.2 ∙ ap (λ (k : ℕ). get_or chains k x) same ∙ get_or_default chains b.0 x y b.1 ∙ b.2
  ]
]

-- each is good for its line
pub answered-good : (c : Configuration) (lower : Lower) (first n : ℕ) (bytes : List ℕ) (chains : List FoundRecord) → MayBe c lower first n bytes chains
    → (x : FoundRecord) → Contains chains x → (v : Verity) × HasVerity c x.device x.line v × IsGood (tree_of v) v.salt v.root x.chain
answered-good c lower first n bytes chains may x there =
    let some = may.read.used there.0 x there.1 in
    let on_way : Contains (said_at c lower (first + some.0)).entries (found_entry x) = subst (λ (y : FoundRecord). Contains (said_at c lower (first + some.0)).entries (found_entry y)) there.2 some.2 in
    let shown = at-shows c lower (first + some.0) chains (part bytes some.0) (found_entry x) (may.read.run.sectors some.0 some.1) on_way in
    let same : shown.0 ≡ x = same-chain chains shown.0 x may.distinct shown.3.given there shown.3.at in
    (shown.1, shown.2, subst (λ (y : FoundRecord). IsGood (tree_of shown.1) shown.1.salt shown.1.root y.chain) same shown.3.good)

one-line : (c : Configuration) (d l : ℕ) (v w : Verity) → HasVerity c d l v → HasVerity c d l w → v ≡ w
one-line c d l v w a b = Rattle.stack_lines.proofs.lemmas.VerityLineLemmas.same-verity c d l 0 0 v w a b

-- a collision of blocks is one of SHA-256's inputs
sha-collision : (salt a b : List ℕ) → IsCollision salt a b → IsSha256Collision (salt ++ a) (salt ++ b)
unfolding digest
sha-collision salt a b same = record { differ = λ e. same.differ (append_cancel_left salt a b e); same = same.same }

-- a block that is taken for one of zeros
pub ignored-collide : (v : Verity) (block : List ℕ) → is_ignored v (digest v.salt block) ≡ true → block ≢ zero_block v → IsSha256Collision (v.salt ++ block) (v.salt ++ zero_block v)
unfolding digest
ignored-collide v block ignored differs = record { differ = λ e. differs (append_cancel_left v.salt block (zero_block v) e); same = sym (ignored-digest v (digest v.salt block) ignored) }

-- a good chain with another content than the block under the root
abbrev Collides : Verity → List (List ℕ) → ChainRecord → Type 0
Collides v blocks chain = (place : Place) × (IsTopmostDifference (formed (tree_of v) v.salt blocks chain.index) chain place
    × IsSha256Collision (v.salt ++ chain_block (formed (tree_of v) v.salt blocks chain.index) place) (v.salt ++ chain_block chain place))

good-collides : ForgedBlocksCollide → (c : Configuration) → IsLoaded c → (d l : ℕ) (chain : ChainRecord) (u : Verity) → HasVerity c d l u → IsGood (tree_of u) u.salt u.root chain → (v : Verity) → HasVerity c d l v
    → (blocks : List (List ℕ)) → AreBlocks v.blocks v.data_block blocks → v.root ≡ root v.hash_block v.salt (verity_digests v blocks) → chain.content ≢ get_or blocks chain.index [] → Collides v blocks chain
good-collides law c loaded d l chain u of whole v has blocks even is differs =
    let good : IsGood (tree_of v) v.salt v.root chain = subst (λ (w : Verity). IsGood (tree_of w) w.salt w.root chain) (one-line c d l u v of has) whole in
    let shape = (line-facts c d l v loaded has).2.shape in
    let found = law (tree_of v) shape v.salt blocks even chain (subst (λ (r : List ℕ). IsGood (tree_of v) v.salt r chain) is good) differs in
    (found.0, (found.1.0, sha-collision v.salt (chain_block (formed (tree_of v) v.salt blocks chain.index) found.0) (chain_block chain found.0) found.1.1))

pub forged-collide : ForgedBlocksCollide → ForgedAnswersCollide
forged-collide law c loaded lower first n bytes chains may x there v has blocks even is differs =
    let all = answered-good c lower first n bytes chains may x there in
    good-collides law c loaded x.device x.line x.chain all.0 all.1 all.2 v has blocks even is differs

-- ---- chains that aren't handed out

pub forged-bytes : ForgedBlocksCollide → ForgedBytesCollide
forged-bytes law c loaded lower first n bytes may x there v has blocks even is differs =
    let all : IsGoodChain c x = subst (IsGoodChain c) there.2 (may.good there.0 x there.1) in
    good-collides law c loaded x.device x.line x.chain all.0 all.1 all.2 v has blocks even is differs

-- what is said of a sector that lies in a verity line
line-said : (c : Configuration) → IsLoaded c → (d s l : ℕ) (line : Line) (v : Verity) → LiesInVerity c d s l line v
    → said_at c (mapped d) s ≡ line_said (said_by_name c) d l (verity_target v) (s - line.start)
line-said c loaded d s l line v lies =
    let start : line.start ≤ s = line-start c d s (l, line) loaded.valid lies.found in
    let end : s < line.start + line.length = line_at-end c d s (l, line) lies.found in
    let here : s ≡ s + 0 = omega arith in
    let within : s - line.start + 0 ≡ s - line.start = omega arith in
    ap (said_at c (mapped d)) here
    ∙ said_at-line c loaded.valid d s 0 l line lies.found start (omega (arith, end))
    ∙ ap (λ (t : Target). line_said (said_by_name c) d l t (s - line.start + 0)) lies.has
    ∙ ap (λ (k : ℕ). line_said (said_by_name c) d l (verity_target v) k) within

pub forged-sectors : ForgedBlocksCollide → ForgedSectorsCollide
forged-sectors law c loaded d first n bytes may j below l line v lies blocks even is differs =
    let s : ℕ = first + j in
    let w : ℕ = s - line.start in
    let shown = subst (λ (x : Said). x.may may.chains (part bytes j)) (line-said c loaded d s l line v lies) (may.read.run.sectors j below) in
    let chain : ChainRecord = shown.0.chain in
    let number : chain.index ≡ w / block_sectors v = ap (λ (e : Entry). e.2) shown.1.at in
    let line_is : IsLine c d l line = line_at-is c d s (l, line) lies.found in
    let has : HasVerity c d l v = record { line = line; is = line_is; has = lies.has; fits = omega arith } in
    let other : chain.content ≢ get_or blocks chain.index [] = λ e. differs (shown.2 ∙ ap (content_part v w) (e ∙ ap (λ (k : ℕ). get_or blocks k []) number)) in
    let found : Collides v blocks chain = good-collides law c loaded d l chain v has shown.1.good v has blocks even is other in
    let form : ℕ → ChainRecord = formed (tree_of v) v.salt blocks in
    record {
      chain = chain;
      number = number;
      place = found.0;
      topmost = subst (λ (k : ℕ). IsTopmostDifference (form k) chain found.0) number found.1.0;
      collision = subst (λ (k : ℕ). IsSha256Collision (v.salt ++ chain_block (form k) found.0) (v.salt ++ chain_block chain found.0)) number found.1.1;
    }
