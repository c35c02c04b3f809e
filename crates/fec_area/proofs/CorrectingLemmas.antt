-- The reads that correct a block.
use Rattle.std.proofs.Common.{◌≡◌, ◌⊎◌, ℕ, ◌+◌, ◌-◌, ◌*◌, ◌/◌, ◌≤◌, ◌++◌, ◌∷◌, [], Bool, true, false, List, length, inl, inr, refl, sym, ap, ◌∙◌, arith}
use Rattle.std.proofs.lemmas.List.{append-nil}
use Rattle.block_device.specs.Call.{Call}
use Rattle.block_device.specs.Device.{Device, IsRead}
use Rattle.fec_area.specs.declared.layout.Layout.{Layout}
use Rattle.fec_area.specs.Asking.{AreAsked, AreReadWithin, sectors_on_data, sectors_on_hash}
use Rattle.fec_area.specs.Correcting.{AreReadToCorrect, ReadsRound}
use Rattle.fec_area.specs.Given.{GivesAll, GivesBlock, GivesFirst, round_indices}
use Rattle.fec_area.specs.Layouts.{IsLayout}
use Rattle.fec_area.proofs.GivenLemmas.{all-none, all-one, all-then, first-one, first-then}
use Rattle.fec_area.proofs.WithinLemmas.{within-least, within-more, within-none}

module _ {D H : Type 0} (asks : D → Call → D → Type 0) (does : H → Call → H → Type 0) (l : Layout) (round index : ℕ) (d : D) (h : H) (d' : D) (h' : H) where
  -- a read of the round failed
  pub round-stopped : GivesFirst asks does l (round_indices l round) d h d' h' → ReadsRound asks does l round index d h d' h' false
  round-stopped first =
      inr (first-then asks does l [] (round_indices l round) (round_indices l round ++ index ∷ []) (index ∷ []) refl (λ x y. Unit {0}) d h d h d' h'
      (all-none asks does l [] refl (λ x y. Unit {0}) (λ x y. tt) d h) first)

  -- after all blocks of the round the block itself was read, or its read failed
  pub round-then : (F : List (List ℕ) → List (List ℕ) → Type 0) (bytes : List ℕ) (d'' : D) (h'' : H) (ok : Bool) → GivesAll asks does l (round_indices l round) F d h d' h' → GivesBlock asks does l index bytes d' h' d'' h'' ok
      → ReadsRound asks does l round index d h d'' h'' ok
  round-then F bytes d'' h'' true all given =
      all-then asks does l (round_indices l round) (index ∷ []) (round_indices l round ++ index ∷ []) refl F (λ x y. Unit {0}) (λ x y. Unit {0}) (λ x y one other. tt) d h d' h' d'' h'' all
      (all-one asks does l (index ∷ []) index bytes refl (λ x y. Unit {0}) (λ x y at. tt) d' h' d'' h'' given)
  round-then F bytes d'' h'' false all given =
      inr (first-then asks does l (round_indices l round) (index ∷ []) (round_indices l round ++ index ∷ []) [] (sym (append-nil (round_indices l round ++ index ∷ []))) F d h d' h' d'' h'' all
      (first-one asks does l (index ∷ []) index bytes refl d' h' d'' h'' given))

-- ---- how many sectors

-- none
pub most-none : (l : Layout) (a b c : Device) → AreReadToCorrect l a b c a b c
most-none l a b c = record { image = within-none ((256 - l.roots) * (l.block / 512)) a b; parity = omega arith }

-- the parity alone
pub most-parity : {c c' : Device} {n : ℕ} {ok : Bool} (l : Layout) (a b : Device) → n ≡ l.roots * (l.block / 512) → IsRead c n ok c' → AreReadToCorrect l a b c a b c'
most-parity l a b is read = record { image = within-none ((256 - l.roots) * (l.block / 512)) a b; parity = omega (arith, read.reads, is) }

-- the blocks of the round too
pub most-round : {a b c a' b' c' : Device} {n : ℕ} {ok : Bool} (l : Layout) → n ≡ l.roots * (l.block / 512) → IsRead c n ok c' → AreReadWithin ((255 - l.roots) * (l.block / 512)) a b a' b'
    → AreReadToCorrect l a b c a' b' c'
most-round l is read within = record {
  image = within-least (255 - l.roots) (256 - l.roots) (l.block / 512) (omega arith) within;
  parity = omega (arith, read.reads, is);
}

-- and the block itself
pub most-block : {a b c a' b' c' a'' b'' : Device} {n : ℕ} {ok : Bool} (l : Layout) (j : ℕ) → IsLayout l → n ≡ l.roots * (l.block / 512) → IsRead c n ok c' → AreReadWithin ((255 - l.roots) * (l.block / 512)) a b a' b'
    → AreAsked (sectors_on_data l j) (sectors_on_hash l j) a' b' a'' b'' → AreReadToCorrect l a b c a'' b'' c'
most-block l j valid is read within asked = record {
  image = within-least (255 - l.roots + 1) (256 - l.roots) (l.block / 512) (omega (arith, valid.few)) (within-more l j (255 - l.roots) within asked);
  parity = omega (arith, read.reads, is);
}
