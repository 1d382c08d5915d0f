use Rattle.std.proofs.Common.{[], ◌∷◌, refl, arith}
use Rattle.gate_tables.proofs.carbons.one_on.Goals as goal

pub renumber-requires-clause-atoms : goal.renumber-requires-clause-atoms
renumber-requires-clause-atoms c =
    rw c.requires.atoms
    (record {
      moves = (1, 2) ∷ (0, 2) ∷ [];
      below = (omega arith, omega arith, (omega arith, omega arith, tt));
      is = refl;
    })

pub renumber-requires-clause-bonds : goal.renumber-requires-clause-bonds
renumber-requires-clause-bonds c =
    rw c.requires.bonds (record { moves = (0, 1) ∷ []; below = (omega arith, omega arith, tt); is = refl })
