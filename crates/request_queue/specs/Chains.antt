-- The chains that answers hand out, and what holds of each whatever the leaves answered.
use Rattle.std.specs.Prelude.{◌≡◌, ◌≢◌, ℕ, List, [], ◌++◌, All, Result, Ok, Err}
use Rattle.std.specs.List.{slice_index_or}
use Rattle.hash_tree.specs.declared.difference.Place.{Place}
use Rattle.hash_tree.specs.Chain.{ChainRecord, IsGood, formed}
use Rattle.hash_tree.specs.Difference.{IsTopmostDifference, chain_at}
use Rattle.hash_tree.specs.Laws.{AreBlocks}
use Rattle.hash_tree.specs.Tree.{root}
use Rattle.dm_table.specs.declared.verity.Verity.{Verity}
use Rattle.stack_rules.specs.Names.{mapped}
use Rattle.stack_rules.specs.Records.{Configuration}
use Rattle.stack_rules.specs.Trees.{tree_of}
use Rattle.stack_meaning.specs.declared.fault.IoFault.{IoFault}
use Rattle.stack_meaning.specs.Found.{FoundRecord}
use Rattle.stack_meaning.specs.May.{MayRead}
use Rattle.stack_engine.specs.Laws.{verity_digests, IsSha256Collision}
use Rattle.stack_lines.specs.Walks.{HasVerity}
use Rattle.request_queue.specs.declared.reply.Progress.{Progress}
use Rattle.request_queue.specs.declared.reply.Progress.TheVariants.{More, Done}
use Rattle.request_queue.specs.declared.reply.Reply.{Reply}
use Rattle.request_queue.specs.declared.reply.Reply.TheVariants.{Sectors, Written}
use Rattle.request_queue.specs.World.{Event, submit, step, read_bytes, write_piece, load, remove_device, run, sync}

-- ---- the chains that are handed out

abbrev pub reply_chains : Reply → List FoundRecord
reply_chains (Sectors got) = got.chains
reply_chains Written = []

abbrev pub answer_chains : Result Reply IoFault → List FoundRecord
answer_chains (Ok reply) = reply_chains reply
answer_chains (Err fault) = []

abbrev pub progress_chains : Progress → List FoundRecord
progress_chains More = []
progress_chains (Done answer) = answer_chains answer

-- the chains that an event hands out: those of the request that it ends
abbrev pub chains_of : Event → List FoundRecord
chains_of (submit r reply) = []
chains_of (step t (Ok progress)) = progress_chains progress
chains_of (step t (Err none)) = []
chains_of (read_bytes d first bytes reply) = []
chains_of (write_piece d first bytes result) = []
chains_of (load text reply) = []
chains_of (remove_device name reply) = []
chains_of (run r (Ok answer)) = answer_chains answer
chains_of (run r (Err fault)) = []
chains_of (sync reply) = []

-- ---- what holds of each

-- At the topmost place where the two chains differ are blocks which, each after the salt, are two different inputs
-- of one SHA-256 digest.
pub record NamesCollision (salt : List ℕ) (expected got : ChainRecord) : Type 0 where
  pub place : Place
  pub topmost : IsTopmostDifference expected got place
  pub collision : IsSha256Collision (salt ++ chain_at expected place) (salt ++ chain_at got place)

-- These blocks are the data of a verity line: as many as it says and of that size, and their root is the line's.
pub record AreDataOf (v : Verity) (blocks : List (List ℕ)) : Type 0 where
  pub sized : AreBlocks v.blocks v.data_block blocks
  pub root_is : v.root ≡ root v.hash_block v.salt (verity_digests v blocks)

-- A chain is good for the verity line that it names. Where its content isn't the block of that number of the line's
-- data, it and the chain formed of that data name a collision.
pub record IsVerified (c : Configuration) (x : FoundRecord) : Type 0 where
  pub line : Verity
  pub has : HasVerity c x.device x.line line
  pub good : IsGood (tree_of line) line.salt line.root x.chain
  pub forged : (blocks : List (List ℕ)) → AreDataOf line blocks → x.chain.content ≢ slice_index_or blocks x.chain.index []
      → NamesCollision line.salt (formed (tree_of line) line.salt blocks x.chain.index) x.chain

-- n sectors of mapped device d from the first on may be these bytes by chains that are all so, and aren't handed out.
pub record AreVerified (c : Configuration) (d first n : ℕ) (bytes : List ℕ) : Type 0 where
  pub chains : List FoundRecord
  pub read : MayRead c (mapped d) first n bytes chains
  pub verified : All (IsVerified c) chains
