-- Parity that is read and compared, round after round.
use Rattle.std.proofs.Common.{◌≡◌, ◌∙◌, ◌+◌, ◌*◌, ◌<◌, ℕ, suc, true, false, List, [], ◌∷◌, ◌++◌, length, inl, inr, refl, sym, ap, subst, arith}
use Rattle.std.proofs.lemmas.List.{append-nil, length-append}
use Rattle.block_device.specs.Call.{Call, Calls, Read}
use Rattle.block_device.proofs.lemmas.CallLemmas.{calls-last}
use Rattle.fec_area.specs.declared.layout.Layout.{Layout}
use Rattle.fec_area.specs.Given.{GivesAll, GivesFirst, first_rounds, round_indices}
use Rattle.fec_area.specs.GivenParity.{ChecksPart, ChecksRounds, ChecksTo, parity_reads}
use Rattle.fec_area.specs.Handing.{AreParities, round_sectors}
use Rattle.fec_area.specs.Layouts.{IsParityOf, code_rounds}
use Rattle.fec_area.proofs.GivenLemmas.{all-none, all-then, first-then, gathered-next, gathered-none}
use Rattle.fec_area.proofs.HandingLemmas.{parities-last}

parity_reads-last : (s r : ℕ) (rounds : List (List ℕ)) (parity : List ℕ) → parity_reads s r (rounds ++ parity ∷ []) ≡ parity_reads s r rounds ++ Read ((r + length rounds) * s) parity true ∷ []
parity_reads-last s r [] parity = let same : r ≡ r + 0 = omega arith in ap (λ (n : ℕ). Read (n * s) parity true ∷ []) same
parity_reads-last s r (first ∷ more) parity =
    let same : r + 1 + length more ≡ r + suc (length more) = omega arith in
    ap (λ (calls : List Call). Read (r * s) first true ∷ calls) (parity_reads-last s (r + 1) more parity ∙ ap (λ (n : ℕ). parity_reads s (r + 1) more ++ Read (n * s) parity true ∷ []) same)

module _ {D H P : Type 0} (asks : D → Call → D → Type 0) (does : H → Call → H → Type 0) (reads : P → Call → P → Type 0) (l : Layout) where
  pub rounds-none : (d : D) (h : H) (p : P) → ChecksRounds asks does reads l 0 d h p d h p
  rounds-none d h p = record {
    stored = [];
    count = refl;
    of_parity = refl;
    blocks = all-none asks does l (first_rounds l 0) (gathered-none (round_indices l)) (λ x y. AreParities l x y 0 []) (λ x y. tt) d h;
  }

  module _ (n : ℕ) (d : D) (h : H) (p : P) (d' : D) (h' : H) (p' : P) (here : ChecksRounds asks does reads l n d h p d' h' p') (inside : n < code_rounds l) (d'' : D) (h'' : H) where
    -- all blocks of a round more
    module _ (parity : List ℕ) (blocks : GivesAll asks does l (round_indices l n) (λ x y. IsParityOf l x y n parity) d' h' d'' h'') where
      with-blocks : (K : List (List ℕ) → List (List ℕ) → Type 0) → ((x y : List (List ℕ)) → AreParities l x y 0 here.stored → IsParityOf l x y n parity → K x y) → GivesAll asks does l (first_rounds l (n + 1)) K d h d'' h''
      with-blocks K both =
          all-then asks does l (first_rounds l n) (round_indices l n) (first_rounds l (n + 1)) (gathered-next (round_indices l) n) (λ x y. AreParities l x y 0 here.stored) (λ x y. IsParityOf l x y n parity) K both d h d' h' d'' h'' here.blocks blocks

      at : n ≡ 0 + length here.stored
      at = omega (arith, here.count)

      with-parity : (s : ℕ) → s ≡ round_sectors l → (stored : List ℕ) (p'' : P) → reads p' (Read (n * s) stored true) p'' → Calls reads p (parity_reads (round_sectors l) 0 (here.stored ++ stored ∷ [])) p''
      with-parity s is stored p'' call =
          let placed : n * s ≡ (0 + length here.stored) * round_sectors l = ap (λ (m : ℕ). n * m) is ∙ ap (λ (m : ℕ). m * round_sectors l) at in
          subst (λ (calls : List Call). Calls reads p calls p'') (sym (parity_reads-last (round_sectors l) 0 here.stored stored))
          (calls-last reads p p' p'' (parity_reads (round_sectors l) 0 here.stored) (Read ((0 + length here.stored) * round_sectors l) stored true) here.of_parity
          (subst (λ (m : ℕ). reads p' (Read m stored true) p'') placed call))

      -- its parity is the one that was returned
      pub rounds-more : (s : ℕ) → s ≡ round_sectors l → (stored : List ℕ) (p'' : P) → reads p' (Read (n * s) stored true) p'' → parity ≡ stored → ChecksRounds asks does reads l (n + 1) d h p d'' h'' p''
      rounds-more s is stored p'' call same = record {
        stored = here.stored ++ stored ∷ [];
        count = omega (arith, length-append here.stored (stored ∷ []), here.count);
        of_parity = with-parity s is stored p'' call;
        blocks = with-blocks (λ x y. AreParities l x y 0 (here.stored ++ stored ∷ []))
            (λ x y before one. parities-last l x y 0 here.stored stored before (subst (λ (m : ℕ). IsParityOf l x y m stored) at (subst (λ (xs : List ℕ). IsParityOf l x y n xs) same one)));
      }

      -- or it isn't
      pub rounds-to : (s : ℕ) → s ≡ round_sectors l → (stored : List ℕ) (p'' : P) → reads p' (Read (n * s) stored true) p'' → ((x y : List (List ℕ)) → IsParityOf l x y n parity → IsParityOf l x y n stored → ⊥)
          → ChecksTo asks does reads l n d h p d'' h'' p''
      rounds-to s is stored p'' call other = record {
        before = here.stored;
        last = stored;
        inside = inside;
        count = here.count;
        of_parity = with-parity s is stored p'' call;
        blocks = with-blocks (λ x y. AreParities l x y 0 here.stored × (IsParityOf l x y n stored → ⊥)) (λ x y before one. (before, other x y one));
      }

      -- or the read of it failed
      pub rounds-failed : (s : ℕ) → s ≡ round_sectors l → (stored : List ℕ) (p'' : P) → reads p' (Read (n * s) stored false) p'' → ChecksPart asks does reads l d h p d'' h'' p''
      rounds-failed s is stored p'' call =
          let placed : n * s ≡ length here.stored * round_sectors l = ap (λ (m : ℕ). n * m) is ∙ ap (λ (m : ℕ). m * round_sectors l) (sym here.count) in
          record {
            before = here.stored;
            inside = omega (arith, here.count, inside);
            stopped = inr (
              stored,
              calls-last reads p p' p'' (parity_reads (round_sectors l) 0 here.stored) (Read (length here.stored * round_sectors l) stored false) here.of_parity (subst (λ (m : ℕ). reads p' (Read m stored false) p'') placed call),
              subst (λ (m : ℕ). GivesAll asks does l (first_rounds l (m + 1)) (λ x y. Unit {0}) d h d'' h'') (sym here.count) (with-blocks (λ x y. Unit {0}) (λ x y before one. tt)),
            );
          }

    -- the read of one of its blocks failed
    pub rounds-stopped : GivesFirst asks does l (round_indices l n) d' h' d'' h'' → ChecksPart asks does reads l d h p d'' h'' p'
    rounds-stopped first = record {
      before = here.stored;
      inside = omega (arith, here.count, inside);
      stopped = inl (
        here.of_parity,
        subst (λ (m : ℕ). GivesFirst asks does l (first_rounds l (m + 1)) d h d'' h'') (sym here.count)
            (first-then asks does l (first_rounds l n) (round_indices l n) (first_rounds l (n + 1)) [] (sym (gathered-next (round_indices l) n) ∙ sym (append-nil (first_rounds l n ++ round_indices l n))) (λ x y. AreParities l x y 0 here.stored) d h d' h' d'' h''
            here.blocks first),
      );
    }
