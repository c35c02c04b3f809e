use Rattle.std.proofs.Common.{◌≡◌, map, take, Some}
use Rattle.command_line.specs.Bindings.{binding_of, binding_record}
use Rattle.command_line.proofs.binding_words.bindings_of.Given as goal

-- the bindings so far are those of the words so far
abbrev pub invariant-words : goal.invariant-words
invariant-words l = map (λ binding. Some (binding_record binding)) l.bindings.items ≡ map (λ word. binding_of word.now) (take l.word-index l.words)
