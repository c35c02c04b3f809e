-- Devices that may be written stay so: after reads, after a superblock is cleared, and after moves.
use Rattle.std.proofs.Common.{◌≡◌, Bool, IsTrue, List, None, Option, ℕ, false, refl, subst, sym, true}
use Rattle.block_device.specs.Device.{Device, IsSameDevice}
use Rattle.std.proofs.lemmas.Bool.{true≢false}
use Rattle.program_io.specs.Counted.{CountedRecord}
use Rattle.image_commands.specs.Clearing.{IsCleared}
use Rattle.tree_repair.proofs.lemmas.SameLemmas.{repaired-same, unrepaired-same}
use Rattle.tree_repair.specs.declared.fault.RepairFault.{RepairFault}
use Rattle.tree_repair.specs.declared.fault.RepairFault.TheVariants.{Image, Write}
use Rattle.tree_repair.specs.declared.repair.Plan.{Plan}
use Rattle.tree_repair.specs.Moves.{MovesBlocks}
use Rattle.tree_repair.specs.Repairs.{IsAllowed}
use Rattle.tree_repair.specs.Runs.{IsWriterCause}
use Rattle.tree_repair.specs.Worlds.{RepairWorld}
use Rattle.verity_format.specs.Blocks.{IsOnlyRead}
use Rattle.update_commands.specs.Moving.{FailsToMove, MovesListed}
use Rattle.update_commands.specs.Updates.{is_unprinted}
use Rattle.update_commands.proofs.BeginningLemmas.{may_write-cleared}

pub allowed-read : (data_dev hash_dev looked : Device) → IsOnlyRead hash_dev looked → IsAllowed true data_dev hash_dev → IsAllowed true data_dev looked
allowed-read data_dev hash_dev looked read allowed = record {
  data_writable = allowed.data_writable;
  hash_writable = λ write. subst IsTrue (sym read.same.may_write) (allowed.hash_writable write);
}

pub allowed-cleared : (data_dev hash_dev cleared : Device) → IsCleared hash_dev cleared → IsAllowed true data_dev hash_dev → IsAllowed true data_dev cleared
allowed-cleared data_dev hash_dev cleared is allowed = record {
  data_writable = allowed.data_writable;
  hash_writable = λ write. subst IsTrue (sym (may_write-cleared hash_dev cleared is)) (allowed.hash_writable write);
}

allowed-same : (w w' : RepairWorld) → IsSameDevice w.data_dev w'.data_dev × IsSameDevice w.hash_dev w'.hash_dev → IsAllowed true w.data_dev w.hash_dev → IsAllowed true w'.data_dev w'.hash_dev
allowed-same w w' same allowed = record {
  data_writable = λ write. subst IsTrue (sym same.0.may_write) (allowed.data_writable write);
  hash_writable = λ write. subst IsTrue (sym same.1.may_write) (allowed.hash_writable write);
}

pub allowed-blocks : (plan : Plan) (w w' : RepairWorld) (old new : Option (List ℕ)) (count : ℕ) → MovesBlocks plan w w' old new count → IsAllowed true w.data_dev w.hash_dev → IsAllowed true w'.data_dev w'.hash_dev
allowed-blocks plan w w' old new count moves allowed =
    allowed-same moves.mid w' (repaired-same plan true moves.mid w' None None None moves.moved)
    (allowed-same w moves.mid (repaired-same plan true w moves.mid old moves.between None moves.tree) allowed)

pub allowed-moved : (json : Bool) (plan : Plan) (w w' : RepairWorld) (old new : Option (List ℕ)) (count : ℕ) → MovesListed json plan w w' old new count → IsAllowed true w.data_dev w.hash_dev → IsAllowed true w'.data_dev w'.hash_dev
allowed-moved true plan w w' old new count moves allowed = allowed-blocks plan w w' None None count moves.0 allowed
allowed-moved false plan w w' old new count moves allowed = allowed-blocks plan w w' old new count moves allowed

-- a fault of the writer
pub unprinted-is : (cause : RepairFault) → is_unprinted cause ≡ true → cause ≡ Write
unprinted-is Write unprinted = refl
unprinted-is (Image f) unprinted = absurd (true≢false (sym unprinted))

-- moves whose line couldn't be written
pub cut-told : {W : Type 0} (writer : CountedRecord W) (cause : RepairFault) → is_unprinted cause ≡ true → IsWriterCause writer cause → writer.failed ≡ true
cut-told writer Write unprinted told = told
cut-told writer (Image f) unprinted told = absurd (true≢false (sym unprinted))

-- after moves that ended early
pub allowed-unmoved : (plan : Plan) (w w' : RepairWorld) (fault : RepairFault) → FailsToMove plan w w' fault → IsAllowed true w.data_dev w.hash_dev → IsAllowed true w'.data_dev w'.hash_dev
allowed-unmoved plan w w' fault fails allowed = allowed-same w w' (unrepaired-same plan true w w' None None fault fails) allowed
