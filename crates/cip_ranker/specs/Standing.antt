-- How the branches at each two neighbours of a root compare. Own.
use Rattle.std.specs.Prelude.{◌≡◌, ℕ, ◌==◌, ◌&&◌, Bool, true, false, cond, List, [], ◌∷◌, None}
use Rattle.std.specs.declared.option.Option.{Option}
use Rattle.cip_digraph.specs.declared.decisions.decision.Decision.{Decision}
use Rattle.cip_mol.specs.declared.labels.descriptor.Descriptor.{Descriptor}
use Rattle.cip_label.specs.BranchComparison.{reversed}
use Rattle.cip_constitution.specs.FollowedOut.{AreOrdered}
use Rattle.cip_constitution.specs.Following.{Trying}
use Rattle.cip_constitution.specs.declared.pairs.VertexPair.{VertexPair}
use Rattle.cip_digraph.specs.declared.decisions.branch_pair.BranchPair.{BranchPair}

-- what is decided between neighbours, by their vertices, with R first and with S first
pub record Standing : Type 0 where
  pub natural : List BranchPair
  pub turned : List BranchPair

-- the same with R first and with S first
abbrev pub both_as : List BranchPair → Standing
both_as noted = record { natural = noted; turned = noted }

abbrev pub is_between : ℕ → ℕ → BranchPair → Bool
is_between a b requested = (requested.first == a) && (requested.second == b)

-- what is noted of two, whichever of them was asked about first
abbrev pub found_of : ℕ → ℕ → List BranchPair → Option Decision
found_of a b [] = None
found_of a b (one ∷ requested) =
    cond (is_between a b one) one.decision (cond (is_between b a one) (reversed one.decision) (found_of a b requested))

abbrev pub asked_in : Standing → Bool → List BranchPair
asked_in standing true = standing.natural
asked_in standing false = standing.turned

-- a branch ties with itself
abbrev pub standing_of : Standing → Bool → ℕ → ℕ → Option Decision
standing_of standing r_first a b = cond (a == b) None (found_of a b (asked_in standing r_first))

-- what was noted of pairs by their branches, by their vertices
abbrev pub by_vertices : List VertexPair → List BranchPair → List BranchPair
by_vertices [] requested = []
by_vertices (pair ∷ pairs) [] = []
by_vertices (pair ∷ pairs) (one ∷ requested) =
    record { first = pair.a; second = pair.b; decision = one.decision } ∷ by_vertices pairs requested

-- pairs that constitution left open compare as all rules decide
pub record StandsOrdered (old : Trying) (descriptors : List (Option Descriptor)) (standing : Standing) : Type 0 where
  pub first : List BranchPair
  pub second : List BranchPair
  pub ordered : AreOrdered old descriptors first second
  pub natural : standing.natural ≡ by_vertices old.pairs first
  pub turned : standing.turned ≡ by_vertices old.pairs second
