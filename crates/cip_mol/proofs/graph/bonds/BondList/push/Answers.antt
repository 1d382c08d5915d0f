use Rattle.cip_mol.proofs.lemmas.SoundBonds.{sound_push}
use Rattle.cip_mol.proofs.lemmas.Tables.{free, length-with_bond, IsTable-with_bond}
use Rattle.cip_mol.proofs.graph.bonds.BondList.push.Goals as goal

pub join-requires : goal.join-requires
join-requires c = free _ _ _ _ c.self.invariant.0 (rw (← c.self.view_is) at c.requires)

pub invariant_of-self-2 : goal.invariant_of-self-2
invariant_of-self-2 c =
    let none = rw (← c.self.view_is) at c.requires in
    rw (c.join.ensures, c.in_ok-push.ensures.items, length-with_bond)
    (IsTable-with_bond _ _ _ _ c.self.invariant.0 none, sound_push _ _ _ c.self.invariant.1 none)
