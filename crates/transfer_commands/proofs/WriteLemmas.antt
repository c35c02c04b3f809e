-- Bytes that are put.
use Rattle.std.proofs.Common.{◌≡◌, subst}
use Rattle.image_files.specs.declared.images.FileText.{FileText}
use Rattle.image_files.specs.Opener.{Calls}
use Rattle.request_queue.specs.declared.reply.Reply.{Reply}
use Rattle.request_queue.specs.World.{World}
use Rattle.stack_engine.specs.Stacks.{StackRecord}
use Rattle.stack_files.specs.declared.stack_file.OpenStack.{OpenStack}
use Rattle.stack_files.specs.OpenStacks.{OpensSource}
use Rattle.stack_files.specs.StacksOfTexts.{IsStackOf}
use Rattle.transfer_commands.specs.Requests.{HasReply, new_world}
use Rattle.transfer_commands.specs.Writes.{PutWords, Puts}

pub puts : {S D : Type 0} (w : Calls S D) (words : PutWords) (over : OpenStack D) (source : FileText) (stack : StackRecord) (queue after : World) (reply : Reply)
    → OpensSource w words.words words.source over source → IsStackOf w.state over words.cache stack → queue ≡ new_world stack → HasReply queue (words.put source.bytes.items) reply after → Puts w words after
puts w words over source stack queue after reply opened made is served = record {
  over = over;
  source = source;
  stack = stack;
  reply = reply;
  opened = opened;
  made = made;
  served = subst (λ (q : World). HasReply q (words.put source.bytes.items) reply after) is served;
}
