use Rattle.std.proofs.Common.{◌≡◌, ◌<◌, ℕ, None, take, get_or}
use Rattle.cip_mol.specs.declared.graph.molecule.Bond.{Bond}
use Rattle.cip_mol.specs.Bonds.{cause_of}
use Rattle.cip_mol.proofs.soundness.push_sound.Given as goal

abbrev pub invariant-loop-place : goal.invariant-loop-place
invariant-loop-place l = record {
  listed : l.list ≡ record l.fn.list { bonds = take l.place l.bonds };
  before : (k : ℕ) → k < l.place → (d : Bond) → cause_of l.fn.list.atoms (take k l.bonds) (get_or l.bonds k d) ≡ None;
}
