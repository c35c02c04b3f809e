-- What a path that was read says of each chain under the same root.
use Rattle.std.proofs.Common.{◌≡◌, ◌≢◌, ◌≤◌, ◌<◌, ◌+◌, ◌-◌, ◌/◌, ◌%◌, ◌^◌, ℕ, zero, suc, Bool, true, false, List, [], ◌∷◌, length, refl, sym, ap, ◌∙◌, subst, arith, inl, inr, ◌⊎◌}
use Rattle.std.specs.Str.{bytes_eq}
use Rattle.std.proofs.lemmas.Bool.{false≢true}
use Rattle.std.proofs.lemmas.Slice.Eq.{bytes_eq-Decides}
use Rattle.tree_shape.specs.Digests.{digest, digest_in}
use Rattle.tree_shape.specs.Shape.{ShapeRecord, levels, slot, ancestor}
use Rattle.hash_tree.specs.Chain.{ChainRecord, HangsFrom, IsGood}
use Rattle.tree_path.specs.Laws.{Collide}
use Rattle.tree_path.specs.Path.{PathRecord, LeadsTo, block_of, digest_on}
use Rattle.tree_path.proofs.lemmas.PathLemmas.{digest_on-below, digest_on-top}

pub same-or : (xs ys : List ℕ) → (xs ≡ ys) ⊎ (xs ≢ ys)
same-or xs ys = go (bytes_eq xs ys) refl
  where
    go : (b : Bool) → bytes_eq xs ys ≡ b → (xs ≡ ys) ⊎ (xs ≢ ys)
    go true e = inl ((bytes_eq-Decides xs ys).0 e)
    go false e = inr (λ same. false≢true (sym e ∙ (bytes_eq-Decides xs ys).1 same))

-- two blocks of one digest are the same, or collide
pub blocks-one : (salt a b : List ℕ) → digest salt a ≡ digest salt b → (a ≡ b) ⊎ Collide salt
blocks-one salt a b same = elim (same-or a b) [
  | inl e ↦ inl e
  | inr ne ↦ inr (a, (b, record { differ = ne; same = same }))
]

-- the last k hash blocks of a chain, which hang with its content from the digest that is k levels above its data block
abbrev pub Ends : PathRecord → ℕ → ℕ → List ℕ → Type 0
Ends p i k content = (rest : List (List ℕ)) × ((length rest ≡ k) × HangsFrom p.shape p.salt i (digest_on p i k) rest content)

module _ (p : PathRecord) (i k : ℕ) (content : List ℕ) (leads : LeadsTo p i k) where
  follow : (d : ℕ) (path : List (List ℕ)) → length path ≡ k + d → k + d ≤ levels p.shape → HangsFrom p.shape p.salt i (digest_on p i (k + d)) path content → Ends p i k content ⊎ Collide p.salt
  follow zero path count few hangs =
      let none : k + 0 ≡ k = omega arith in
      inl (path, (count ∙ none, subst (λ (n : ℕ). HangsFrom p.shape p.salt i (digest_on p i n) path content) none hangs))
  follow (suc d) [] count few hangs = absurd (omega (arith, count))
  follow (suc d) (b ∷ path) count few hangs =
      let l : ℕ = k + d in
      let up : k + suc d ≡ l + 1 = omega arith in
      let rest : length path ≡ l = omega (arith, count) in
      let low : l < levels p.shape = omega (arith, few) in
      elim (blocks-one p.salt b (block_of p l) (hangs.1 ∙ ap (digest_on p i) up ∙ sym (leads.up l (omega arith) low))) [
        | inr clash ↦ inr clash
        | inl same ↦
            let stands : digest_in b (slot p.shape (ancestor p.shape (length path) i)) ≡ digest_on p i l =
            ap (λ (x : List ℕ). digest_in x (slot p.shape (ancestor p.shape (length path) i))) same
            ∙ ap (λ (n : ℕ). digest_in (block_of p l) (slot p.shape (ancestor p.shape n i))) rest
            ∙ sym (digest_on-below p i l low) in
            follow d path rest (omega (arith, few)) (subst (λ (e : List ℕ). HangsFrom p.shape p.salt i e path content) stands hangs.2)
      ]

-- a good chain's last hash blocks hang from what a path leads to, or two blocks collide
pub hangs-on : (p : PathRecord) (i k : ℕ) (chain : ChainRecord) → i ≡ chain.index → k ≤ levels p.shape → LeadsTo p i k → IsGood p.shape p.salt p.root chain
    → Ends p i k chain.content ⊎ Collide p.salt
hangs-on p i k chain at few leads good =
    let all : k + (levels p.shape - k) ≡ levels p.shape = omega (arith, few) in
    let top : p.root ≡ digest_on p i (k + (levels p.shape - k)) = sym (digest_on-top p i (k + (levels p.shape - k)) all) in
    follow p i k chain.content leads (levels p.shape - k) chain.path (good.path ∙ sym all) (omega (arith, all))
    (subst (λ (e : List ℕ). HangsFrom p.shape p.salt i e chain.path chain.content) top (subst (λ (n : ℕ). HangsFrom p.shape p.salt n p.root chain.path chain.content) (sym at) good.hangs))

slot-same : (s t : ShapeRecord) (m i : ℕ) → s.hash_block ≡ t.hash_block → slot s (ancestor s m i) ≡ slot t (ancestor t m i)
unfolding slot ancestor
slot-same s t m i same = ap (λ (h : ℕ). (i / (h / 32) ^ m) % (h / 32)) same

-- two chains that hang from one digest have one content, or two blocks collide
pub hang-together : (s t : ShapeRecord) (salt : List ℕ) (i : ℕ) → s.hash_block ≡ t.hash_block → (e : List ℕ) (path path' : List (List ℕ)) (content content' : List ℕ) → length path ≡ length path'
    → HangsFrom s salt i e path content → HangsFrom t salt i e path' content' → (content ≡ content') ⊎ Collide salt
hang-together s t salt i same e [] [] content content' count h h' = blocks-one salt content content' (h.1 ∙ sym h'.1)
hang-together s t salt i same e [] (b' ∷ path') content content' count h h' = absurd (omega (arith, count))
hang-together s t salt i same e (b ∷ path) [] content content' count h h' = absurd (omega (arith, count))
hang-together s t salt i same e (b ∷ path) (b' ∷ path') content content' count h h' =
    let rest : length path ≡ length path' = omega (arith, count) in
    elim (blocks-one salt b b' (h.1 ∙ sym h'.1)) [
      | inr clash ↦ inr clash
      | inl one ↦
          let next : digest_in b' (slot t (ancestor t (length path') i)) ≡ digest_in b (slot s (ancestor s (length path) i)) =
          ap (λ (x : List ℕ). digest_in x (slot t (ancestor t (length path') i))) (sym one)
          ∙ ap (λ (n : ℕ). digest_in b (slot t (ancestor t n i))) (sym rest)
          ∙ ap (digest_in b) (sym (slot-same s t (length path) i same)) in
          hang-together s t salt i same (digest_in b (slot s (ancestor s (length path) i))) path path' content content' rest h.2
          (subst (λ (x : List ℕ). HangsFrom t salt i x path' content') next h'.2)
    ]
