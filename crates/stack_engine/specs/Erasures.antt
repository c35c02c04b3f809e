-- The lost blocks of a round, as they are judged, and the sums that restore them.
use Rattle.std.specs.Prelude.{◌≡◌, ℕ, zero, suc, ◌+◌, ◌-◌, ◌*◌, ◌/◌, ◌%◌, Bool, ◌&&◌, List, [], ◌∷◌, ◌++◌, map, length, take, drop, slice_index, bit_xor, replicate, Option, None, Some, Result, Ok, Err, if◌then◌else◌}
use Rattle.std.specs.List.{list_all, range_with_len}
use Rattle.std.specs.Str.{bytes_eq}
use Rattle.reed_solomon.specs.Factors.{erasure_factor}
use Rattle.reed_solomon.specs.Field.{field_product}
use Rattle.reed_solomon.specs.Sums.{part_combination}
use Rattle.tree_shape.specs.Digests.{digest}
use Rattle.dm_table.specs.declared.parity.Parity.{Parity}
use Rattle.dm_table.specs.declared.verity.Verity.{Verity}
use Rattle.stack_meaning.specs.declared.fault.Fault.TheVariants as why
use Rattle.stack_meaning.specs.declared.fault.IoFault.{IoFault}
use Rattle.stack_meaning.specs.declared.fault.IoFault.TheVariants as io
use Rattle.stack_meaning.specs.Erasures.{PathEnd as VerifiedEnd, kept_block}
use Rattle.stack_meaning.specs.Outcomes.{Outcome, mismatch, then_outcome}
use Rattle.stack_meaning.specs.Spares.{BlockSources, round_parity}
use Rattle.stack_engine.specs.declared.losses.Judged.{Judged}
use Rattle.stack_engine.specs.declared.losses.Judged.TheVariants as is
use Rattle.stack_engine.specs.declared.losses.Losses.{Losses}
use Rattle.stack_engine.specs.declared.losses.Unread.{Unread}
use Rattle.stack_engine.specs.declared.path_end.PathEnd.{PathEnd}

-- a verified block
abbrev pub end_of : PathEnd → VerifiedEnd
end_of end = record { index = end.index; above = end.above }

-- ---- what is known of a block

-- by its digest, or the leaf that failed; and by the known digest, or what ended the read of the hash blocks on its path
abbrev pub judge_by : Result (List ℕ) ℕ → Result (List ℕ) IoFault → Result Judged IoFault
judge_by (Ok own) (Ok known) = Ok (if bytes_eq own known then is.Kept else is.Lost)
judge_by (Err leaf) (Ok known) = Ok (is.Unread leaf known)
judge_by (Ok own) (Err (io.Stack other)) = Ok is.Kept
judge_by (Err leaf) (Err (io.Stack other)) = Err (io.Device leaf)
judge_by own (Err (io.Device i)) = Err (io.Device i)
judge_by own (Err io.NoMemory) = Err io.NoMemory

-- ---- the lost blocks of a round

-- their positions; those whose leaf failed, and the first such leaf
pub record LossRecord : Type 0 where
  pub places : List ℕ
  pub unread : List Unread
  pub failed : Option ℕ

abbrev pub record_of : Losses → LossRecord
record_of l = record { places = l.places.items; unread = l.unread.items; failed = l.failed }

-- the block itself
abbrev pub own_loss : ℕ → LossRecord
own_loss place = record { places = place ∷ []; unread = []; failed = None }

abbrev pub first_failed : Option ℕ → ℕ → Option ℕ
first_failed None leaf = Some leaf
first_failed (Some first) leaf = Some first

-- after the block at a position was judged
abbrev pub noted : LossRecord → ℕ → Judged → LossRecord
noted l place is.Kept = l
noted l place is.Lost = record l { places = l.places ++ (place ∷ []) }
noted l place (is.Unread leaf known) = record {
  places = l.places ++ (place ∷ []);
  unread = l.unread ++ (record { column = length l.places; digest = known } ∷ []);
  failed = first_failed l.failed leaf;
}

pub record IsNoted (old new : Losses) (place : ℕ) (judged : Judged) : Type 0 where
  pub lost : new.lost ≡ old.lost
  pub is : record_of new ≡ noted (record_of old) place judged

-- the fault of an attempt in vain
abbrev pub vain_fault : Option ℕ → IoFault
vain_fault None = io.Stack why.Mismatch
vain_fault (Some leaf) = io.Device leaf

-- ---- sums: a block for each lost one, one after another

-- so many sums for each lost block, to which the bytes of the block at a position were added, each times the factor of that position
abbrev pub added_columns : ℕ → List ℕ → ℕ → List ℕ → List ℕ → List ℕ
added_columns size places place block sums =
    map (λ m. bit_xor (slice_index sums m) (field_product (erasure_factor places (slice_index places (m / size)) place) (slice_index block (m % size)))) (range_with_len 0 (length sums))

-- so many sums for each lost block, to which the parity was added, each byte times the factor of its position
abbrev pub added_parity : List ℕ → ℕ → ℕ → List ℕ → List ℕ → List ℕ
added_parity places roots size parity sums =
    map (λ m. bit_xor (slice_index sums m) (part_combination (λ k. erasure_factor places (slice_index places (m / size)) (255 - roots + k)) roots parity (m % size))) (range_with_len 0 (length sums))

abbrev pub AreColumnsOf : List ℕ → ℕ → List ℕ → List ℕ → List ℕ → Type 0
AreColumnsOf places place block old new = new ≡ added_columns (length block) places place block old

abbrev pub AreParityColumnsOf : List ℕ → ℕ → List ℕ → List ℕ → List ℕ → Type 0
AreParityColumnsOf places roots parity old new = new ≡ added_parity places roots (length parity / roots) parity old

-- the sums of a lost block
abbrev pub column : ℕ → List ℕ → ℕ → List ℕ
column size sums k = take size (drop (k * size) sums)

-- the sums of the lost blocks before a block is added
abbrev pub no_columns : ℕ → List ℕ → List ℕ
no_columns size places = replicate (length places * size) 0

-- the first one has the digest, and so has each whose leaf failed
abbrev pub are_whole : Verity → LossRecord → List ℕ → List ℕ → Bool
are_whole v l expected sums =
    bytes_eq (digest v.salt (column v.data_block sums 0)) expected
    && list_all (λ one. bytes_eq (digest v.salt (column v.data_block sums one.column)) one.digest) l.unread

-- that first one, if they have their digests
abbrev pub first_whole : Verity → LossRecord → List ℕ → List ℕ → Outcome
first_whole v l expected sums = if are_whole v l expected sums then Ok (column v.data_block sums 0) else Err mismatch

-- ---- what they mean

-- the sums of the blocks at the first m positions of round n that aren't lost, or the fault of the first of them that has one
unfoldable pub summed_columns : Verity → Parity → BlockSources → ℕ → List ℕ → ℕ → Outcome
summed_columns v p below n places zero = Ok (no_columns v.data_block places)
summed_columns v p below n places (suc m) =
    then_outcome (summed_columns v p below n places m) (λ sums. then_outcome (kept_block v p below n places m) (λ block. Ok (added_columns v.data_block places m block sums)))

-- all of them, and the parity
abbrev pub decoded_columns : Verity → Parity → BlockSources → ℕ → List ℕ → Outcome
decoded_columns v p below n places =
    then_outcome (summed_columns v p below n places (255 - p.roots))
    (λ sums. then_outcome (round_parity v p below n) (λ parity. Ok (added_parity places p.roots v.data_block parity sums)))
