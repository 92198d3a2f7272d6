-- `weld::send` meets its contract. The invariant: the words below the index are sent on. Assumes nothing.
use Rattle.weld.specs.Maps.{Sent}
use Rattle.weld.proofs.send.Given as goal

abbrev pub invariant-loop-word : goal.invariant-loop-word
invariant-loop-word l = Sent l.kept l.gone l.word-index l.initial.k l.k
