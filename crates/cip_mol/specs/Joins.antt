-- Bonds that join the same atoms. Own, after CTfile Formats: which end comes first matters for a mark alone.
use Rattle.std.specs.Prelude.{◌≡◌, ◌⊎◌, List, [], ◌∷◌}
use Rattle.cip_mol.specs.declared.graph.molecule.Bond.{Bond}

-- of the same order, in either direction
pub record JoinsAlike (one other : Bond) : Type 0 where
  pub order : other.order ≡ one.order
  pub ends : ((other.a ≡ one.a) × (other.b ≡ one.b)) ⊎ ((other.a ≡ one.b) × (other.b ≡ one.a))

-- as many bonds as others, each like the one at its place
abbrev pub JoinAlike : List Bond → List Bond → Type 0
JoinAlike [] [] = Unit {0}
JoinAlike [] (other ∷ others) = ⊥
JoinAlike (bond ∷ bonds) [] = ⊥
JoinAlike (bond ∷ bonds) (other ∷ others) = JoinsAlike bond other × JoinAlike bonds others
