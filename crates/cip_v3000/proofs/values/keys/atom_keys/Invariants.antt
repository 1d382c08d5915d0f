use Rattle.std.proofs.Common.{◌≡◌, length}
use Rattle.cip_v3000.specs.Keys.{keys_from, AreKeys}
use Rattle.cip_v3000.specs.Words.{words_of}
use Rattle.cip_v3000.proofs.values.keys.atom_keys.Given as goal

abbrev pub invariant-loop-word : goal.invariant-loop-word
invariant-loop-word l = record {
  so_far : keys_from l.keys (words_of l.rest) ≡ keys_from l.fn.start (words_of l.fn.text);
  range : AreKeys l.keys;
}

abbrev pub decreases-loop-word : goal.decreases-loop-word
decreases-loop-word l = length l.rest
