-- The table line of a verity image.
use Rattle.std.proofs.Common.{◌≡◌, ℕ, ◌+◌, ◌^◌, ◌<◌, List, arith}
use Rattle.allocation.specs.Refusal.{IsOutOfMemory}
use Rattle.tree_shape.proofs.lemmas.ShapeFaultLemmas.{blocks-le}
use Rattle.dm_table.specs.Grammar.{IsLineOfGrammar}
use Rattle.table_text.proofs.lemmas.ReadBackLemmas.{line-reads-back}
use Rattle.verity_format.specs.declared.tree.VerityTree.{VerityTree}
use Rattle.verity_format.specs.Line.{AreLineParts, LineNames, TableLinesReadBack, image_line}

-- it keeps the grammar's limits
pub line-limits : (tree : VerityTree) (names : LineNames) (root : List ℕ) (start : ℕ) → AreLineParts tree names root → start < 2 ^ 64
    → IsLineOfGrammar (image_line tree names root start)
line-limits tree names root start p fits =
    let within = p.shape.data_fits in
    let few = blocks-le tree.shape p.shape in
    record {
      start = omega arith;
      sectors = omega (arith, within);
      target = record {
        devices = record { below = p.data_is; hash = p.hash_is };
        places = record { data_block = p.shape.data_size; hash_block = p.shape.hash_size; blocks = omega (arith, few.0); start = fits };
        root_size = p.root_size;
        root_bytes = p.root_bytes;
        salt_size = p.salt_size;
        salt_bytes = p.salt_bytes;
        parity = p.parity;
        signature_key = tt;
      };
    }

pub lines-read-back : TableLinesReadBack
lines-read-back tree names root start p fits = line-reads-back (image_line tree names root start) (line-limits tree names root start p fits)

-- room that was refused is at most a larger one
pub room-beside : (names text : ℕ) → IsOutOfMemory text → IsOutOfMemory (names + text)
room-beside names text out =
    let within = out.1 in
    (out.0, omega (arith, within), out.2)
