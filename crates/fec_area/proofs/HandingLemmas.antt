-- Rounds of parity that are handed over, one after another.
use Rattle.std.proofs.Common.{◌≡◌, ◌∙◌, ◌+◌, ◌*◌, ◌<◌, ◌≤◌, ℕ, suc, true, false, IsTrue, List, [], ◌∷◌, ◌++◌, length, inl, inr, refl, sym, ap, subst, arith}
use Rattle.std.proofs.lemmas.List.{append-nil, length-append}
use Rattle.block_device.specs.Call.{Call, Calls, Write}
use Rattle.block_device.specs.Device.{Device}
use Rattle.block_device.proofs.lemmas.CallLemmas.{calls-last}
use Rattle.fec_area.specs.declared.layout.Layout.{Layout}
use Rattle.fec_area.specs.Given.{GivesAll, GivesFirst, first_rounds, round_indices}
use Rattle.fec_area.specs.Handing.{AreParities, AreRoundsHanded, round_sectors, round_writes}
use Rattle.fec_area.specs.Layouts.{IsParityOf, code_rounds}
use Rattle.fec_area.proofs.GivenLemmas.{all-none, all-then, gathered-next, gathered-none}

-- one round more
round_writes-last : (s r : ℕ) (rounds : List (List ℕ)) (parity : List ℕ) → round_writes s r (rounds ++ parity ∷ []) ≡ round_writes s r rounds ++ Write ((r + length rounds) * s) parity true ∷ []
unfolding round_writes
round_writes-last s r [] parity = let same : r ≡ r + 0 = omega arith in ap (λ (n : ℕ). Write (n * s) parity true ∷ []) same
round_writes-last s r (first ∷ more) parity =
    let same : r + 1 + length more ≡ r + suc (length more) = omega arith in
    ap (λ (calls : List Call). Write (r * s) first true ∷ calls) (round_writes-last s (r + 1) more parity ∙ ap (λ (n : ℕ). round_writes s (r + 1) more ++ Write (n * s) parity true ∷ []) same)

pub parities-last : (l : Layout) (d h : List (List ℕ)) (r : ℕ) (rounds : List (List ℕ)) (parity : List ℕ) → AreParities l d h r rounds → IsParityOf l d h (r + length rounds) parity → AreParities l d h r (rounds ++ parity ∷ [])
parities-last l d h r [] parity before here = let same : r + 0 ≡ r = omega arith in (subst (λ (n : ℕ). IsParityOf l d h n parity) same here, tt)
parities-last l d h r (first ∷ more) parity before here =
    let same : r + suc (length more) ≡ r + 1 + length more = omega arith in
    (before.0, parities-last l d h (r + 1) more parity before.1 (subst (λ (n : ℕ). IsParityOf l d h n parity) same here))

-- the first n rounds were handed over
pub record AreHanded {D H P : Type 0} (asks : D → Call → D → Type 0) (does : H → Call → H → Type 0) (writes : P → Call → P → Type 0) (l : Layout) (data_dev hash_dev : Device) (d : D) (h : H) (p : P) (d' : D) (h' : H) (p' : P) (n : ℕ) : Type 0 where
  pub rounds : List (List ℕ)
  pub count : length rounds ≡ n
  pub made : Calls writes p (round_writes (round_sectors l) 0 rounds) p'
  pub blocks : GivesAll asks does l (first_rounds l n) (λ x y. AreParities l x y 0 rounds) d h d' h'
  pub sums : IsTrue data_dev.steady → IsTrue hash_dev.steady → AreParities l data_dev.image hash_dev.image 0 rounds

module _ {D H P : Type 0} (asks : D → Call → D → Type 0) (does : H → Call → H → Type 0) (writes : P → Call → P → Type 0) (l : Layout) where
  pub handed-none : (a b : Device) (d : D) (h : H) (p : P) → AreHanded asks does writes l a b d h p d h p 0
  unfolding round_writes
  handed-none a b d h p = record {
    rounds = [];
    count = refl;
    made = refl;
    blocks = all-none asks does l (first_rounds l 0) (gathered-none (round_indices l)) (λ x y. AreParities l x y 0 []) (λ x y. tt) d h;
    sums = λ one other. tt;
  }

  module _ (a b : Device) (d : D) (h : H) (p : P) (d' : D) (h' : H) (p' : P) (n : ℕ) (so_far : AreHanded asks does writes l a b d h p d' h' p' n) where
    made-here : Calls writes p (round_writes (round_sectors l) 0 so_far.rounds ++ []) p'
    made-here = subst (λ (calls : List Call). Calls writes p calls p') (sym (append-nil (round_writes (round_sectors l) 0 so_far.rounds))) so_far.made

    blocks-here : GivesAll asks does l (first_rounds l (length so_far.rounds)) (λ x y. AreParities l x y 0 so_far.rounds) d h d' h'
    blocks-here = subst (λ (m : ℕ). GivesAll asks does l (first_rounds l m) (λ x y. AreParities l x y 0 so_far.rounds) d h d' h') (sym so_far.count) so_far.blocks

    -- all rounds were
    pub handed-end : n ≡ code_rounds l → AreRoundsHanded asks does writes l a b d h p d' h' p' true
    handed-end all = record {
      rounds = so_far.rounds;
      last = [];
      made = made-here;
      ends = so_far.count ∙ all;
      given = record { data_then = d'; hash_then = h'; blocks = blocks-here; ends = (refl, refl) };
      sums = so_far.sums;
    }

    module _ (d'' : D) (h'' : H) where
      -- a block of the next round couldn't be read
      pub handed-stop : n ≤ code_rounds l → GivesFirst asks does l (round_indices l n) d' h' d'' h'' → AreRoundsHanded asks does writes l a b d h p d'' h'' p' false
      handed-stop few first = record {
        rounds = so_far.rounds;
        last = [];
        made = made-here;
        ends = omega (arith, so_far.count, few);
        given = record {
          data_then = d';
          hash_then = h';
          blocks = blocks-here;
          ends = inr (subst (λ (m : ℕ). GivesFirst asks does l (round_indices l m) d' h' d'' h'') (sym so_far.count) first);
        };
        sums = so_far.sums;
      }

      -- the blocks of the next round were read
      module _ (parity : List ℕ) (p'' : P) (at : ℕ) (place : at ≡ n * round_sectors l) (given : GivesAll asks does l (round_indices l n) (λ x y. IsParityOf l x y n parity) d' h' d'' h'') where
        blocks-more : GivesAll asks does l (first_rounds l (n + 1)) (λ x y. AreParities l x y 0 (so_far.rounds ++ parity ∷ [])) d h d'' h''
        blocks-more =
            let same : n ≡ 0 + length so_far.rounds = omega (arith, so_far.count) in
            all-then asks does l (first_rounds l n) (round_indices l n) (first_rounds l (n + 1)) (gathered-next (round_indices l) n) (λ x y. AreParities l x y 0 so_far.rounds) (λ x y. IsParityOf l x y n parity)
            (λ x y. AreParities l x y 0 (so_far.rounds ++ parity ∷ [])) (λ x y before one. parities-last l x y 0 so_far.rounds parity before (subst (λ (m : ℕ). IsParityOf l x y m parity) same one)) d h d' h' d'' h'' so_far.blocks given

        count-more : length (so_far.rounds ++ parity ∷ []) ≡ n + 1
        count-more = omega (arith, length-append so_far.rounds (parity ∷ []), so_far.count)

        -- and its parity was written
        pub handed-next : writes p' (Write at parity true) p'' → (IsTrue a.steady → IsTrue b.steady → IsParityOf l a.image b.image n parity) → AreHanded asks does writes l a b d h p d'' h'' p'' (n + 1)
        handed-next call sum = record {
          rounds = so_far.rounds ++ parity ∷ [];
          count = count-more;
          made =
              let same : n ≡ 0 + length so_far.rounds = omega (arith, so_far.count) in
              let here : at ≡ (0 + length so_far.rounds) * round_sectors l = place ∙ ap (λ (m : ℕ). m * round_sectors l) same in
              subst (λ (calls : List Call). Calls writes p calls p'') (sym (round_writes-last (round_sectors l) 0 so_far.rounds parity))
              (calls-last writes p p' p'' _ _ so_far.made (subst (λ (m : ℕ). writes p' (Write m parity true) p'') here call));
          blocks = blocks-more;
          sums = λ one other.
              let same : n ≡ 0 + length so_far.rounds = omega (arith, so_far.count) in
              parities-last l a.image b.image 0 so_far.rounds parity (so_far.sums one other) (subst (λ (m : ℕ). IsParityOf l a.image b.image m parity) same (sum one other));
        }

        -- and the write of its parity failed
        pub handed-failed : n < code_rounds l → writes p' (Write at parity false) p'' → AreRoundsHanded asks does writes l a b d h p d'' h'' p'' false
        handed-failed low call = record {
          rounds = so_far.rounds;
          last = Write at parity false ∷ [];
          made = calls-last writes p p' p'' _ _ so_far.made call;
          ends = (omega (arith, so_far.count, low), place ∙ ap (λ (m : ℕ). m * round_sectors l) (sym so_far.count));
          given = record {
            data_then = d'';
            hash_then = h'';
            blocks = subst (λ (m : ℕ). GivesAll asks does l (first_rounds l m) (λ x y. AreParities l x y 0 (so_far.rounds ++ parity ∷ [])) d h d'' h'') (sym count-more) blocks-more;
            ends = (refl, refl);
          };
          sums = so_far.sums;
        }

  -- no device was called
  pub hands-none : (a b : Device) (d : D) (h : H) (p : P) → AreRoundsHanded asks does writes l a b d h p d h p false
  hands-none a b d h p =
      let none = handed-none a b d h p in
      record {
        rounds = none.rounds;
        last = [];
        made = made-here a b d h p d h p 0 none;
        ends = omega (arith, none.count);
        given = record { data_then = d; hash_then = h; blocks = blocks-here a b d h p d h p 0 none; ends = inl (none.count, refl, refl) };
        sums = none.sums;
      }
