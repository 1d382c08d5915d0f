-- Branches that are the same: a one-to-one match of their nodes that carries parents to parents and keeps all keys and
-- the class of the descriptor. IUPAC 2013, P-92.1: what no rule distinguishes. The classes are own: descriptors that no
-- rule distinguishes.
use Rattle.std.specs.Prelude.{◌≡◌, ℕ, zero, suc, List, [], None, Some}
use Rattle.std.specs.List.{AllByRecursion}
use Rattle.std.specs.declared.option.Option.{Option}
use Rattle.cip_rank.specs.Matching.{Matches}
use Rattle.cip_mol.specs.declared.labels.descriptor.Descriptor.{Descriptor}
use Rattle.cip_mol.specs.declared.labels.descriptor.Descriptor.TheVariants.{R, S, SmallR, SmallS, M, P, SmallM, SmallP, Z, E, SeqCis, SeqTrans}
use Rattle.cip_digraph.specs.rules.Orders.{Seen}

pub data Class : Type 0 where
  ClassR : Class
  ClassS : Class
  ClassSmallR : Class
  ClassSmallS : Class
  ClassZ : Class
  ClassE : Class
  NoDescriptor : Class

abbrev pub class_of : Option Descriptor → Class
class_of None = NoDescriptor
class_of (Some R) = ClassR
class_of (Some M) = ClassR
class_of (Some SeqCis) = ClassR
class_of (Some S) = ClassS
class_of (Some P) = ClassS
class_of (Some SeqTrans) = ClassS
class_of (Some SmallR) = ClassSmallR
class_of (Some SmallM) = ClassSmallR
class_of (Some SmallS) = ClassSmallS
class_of (Some SmallP) = ClassSmallS
class_of (Some Z) = ClassZ
class_of (Some E) = ClassE

pub record AreSameNodes {N : Type 0} (seen : Seen N) (a b : N) : Type 0 where
  pub atomic : seen.atomic a ≡ seen.atomic b
  pub distance : seen.distance a ≡ seen.distance b
  pub mass : seen.mass a ≡ seen.mass b
  pub class : class_of (seen.descriptor a) ≡ class_of (seen.descriptor b)

-- n spheres down
abbrev pub SameWithin : {N : Type 0} → Seen N → ℕ → N → N → Type 0
SameWithin seen zero a b = AreSameNodes seen a b
SameWithin seen (suc spheres) a b =
    AreSameNodes seen a b × Matches (SameWithin seen spheres) (seen.children a) (seen.children b)

abbrev pub SameBranch : {N : Type 0} → Seen N → N → N → Type 0
SameBranch seen = SameWithin seen seen.height

-- no node is more than n spheres below
abbrev pub EndsWithin : {N : Type 0} → (N → List N) → ℕ → N → Type 0
EndsWithin children zero node = children node ≡ []
EndsWithin children (suc spheres) node = AllByRecursion (EndsWithin children spheres) (children node)
