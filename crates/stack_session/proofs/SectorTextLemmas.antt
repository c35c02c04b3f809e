-- Sectors that are printed one after another.
use Rattle.std.proofs.Common.{◌≡◌, ℕ, zero, suc, ◌+◌, ◌-◌, ◌/◌, ◌<◌, ◌≤◌, List, [], ◌++◌, length, take, drop, refl, ap, sym, ◌∙◌, append_assoc, arith, length-drop}
use Rattle.std.specs.Prelude.{Option}
use Rattle.std.specs.Io.KnownBytes.{Appends}
use Rattle.std.proofs.KnownBytes.{Appends-nil, Appends-trans}
use Rattle.stack_session.specs.Texts.{sector_line, sector_lines}

-- the lines that were written so far, and what is left
pub record Saying (first : ℕ) (bytes : List ℕ) (number : ℕ) (rest : List ℕ) (old new : Option (List ℕ)) : Type 0 where
  pub done : List ℕ
  pub count : ℕ
  pub size : count ≡ length rest / 512
  pub numbered : number + count ≡ first + length bytes / 512
  pub written : Appends old new done
  pub joined : sector_lines (length bytes / 512) first bytes ≡ done ++ sector_lines count number rest

pub saying_starts : (first : ℕ) (bytes : List ℕ) (w : Option (List ℕ)) → Saying first bytes first bytes w w
saying_starts first bytes w = record {
  done = [];
  count = length bytes / 512;
  size = refl;
  numbered = refl;
  written = Appends-nil w;
  joined = refl;
}

lines_split : (count number : ℕ) (rest : List ℕ) → 0 < count → sector_lines count number rest ≡ sector_line number (take 512 rest) ++ sector_lines (count - 1) (number + 1) (drop 512 rest)
lines_split zero number rest some = let no : ⊥ = omega (arith, some) in absurd no
lines_split (suc count) number rest some = let same : suc count - 1 ≡ count = omega arith in rw same refl

-- the next sector
pub saying_more : {first number : ℕ} {bytes rest : List ℕ} {old mid : Option (List ℕ)} (new : Option (List ℕ)) → Saying first bytes number rest old mid → 512 ≤ length rest
    → Appends mid new (sector_line number (take 512 rest)) → Saying first bytes (number + 1) (drop 512 rest) old new
saying_more {first} {number} {bytes} {rest} {old} {mid} new s some line = record {
  done = s.done ++ sector_line number (take 512 rest);
  count = s.count - 1;
  size = omega (arith, length-drop 512 rest, s.size, some);
  numbered = omega (arith, s.numbered, s.size, some);
  written = Appends-trans old mid new s.done (sector_line number (take 512 rest)) s.written line;
  joined = let more : 0 < s.count = omega (arith, s.size, some) in
      s.joined ∙ ap (λ t. s.done ++ t) (lines_split s.count number rest more)
      ∙ sym (append_assoc s.done (sector_line number (take 512 rest)) (sector_lines (s.count - 1) (number + 1) (drop 512 rest)));
}
