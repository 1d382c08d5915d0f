-- Keys of a small digraph's nodes: those of the lists are those of the nodes, also where a list has none.
use Rattle.std.proofs.Common.{◌≡◌, ℕ, zero, suc, pos, true, List, [], ◌∷◌, map, refl, subst}
use Rattle.std.specs.Prelude.{None}
use Rattle.std.specs.List.{slice_index_or}
use Rattle.cip_mol.specs.declared.labels.outcome.Rule.{Rule}
use Rattle.cip_mol.specs.declared.labels.outcome.Rule.TheVariants.{R1a, R1b, R2, R3, R4a, R4b, R4c, R5}
use Rattle.cip_rank.specs.Ranking.{key_at}
use Rattle.cip_rules.specs.Orders.{key_by, key_of_descriptor}
use Rattle.gate_branches.specs.Digraphs.{Columns, keys_by, seen_of}

pub at_map : {X Y : Type 0} (f : X → Y) (xs : List X) (i : ℕ) (d : X)
    → slice_index_or (map f xs) i (f d) ≡ f (slice_index_or xs i d)
at_map f [] i d = refl
at_map f (x ∷ xs) zero d = refl
at_map f (x ∷ xs) (suc i) d = at_map f xs i d

-- a key by a descriptor
pub key_described : (nodes : Columns) (rule : Rule) (node : ℕ) → key_of_descriptor true rule None ≡ pos 0
    → key_at (map (key_of_descriptor true rule) nodes.descriptors) node ≡ key_of_descriptor true rule (slice_index_or nodes.descriptors node None)
key_described nodes rule node none = subst (λ d. slice_index_or (map (key_of_descriptor true rule) nodes.descriptors) node d
    ≡ key_of_descriptor true rule (slice_index_or nodes.descriptors node None)) none (at_map (key_of_descriptor true rule) nodes.descriptors node None)

pub keys_are : (nodes : Columns) (rule : Rule) (node : ℕ)
    → key_at (keys_by nodes rule) node ≡ key_by (seen_of nodes) true rule node
keys_are nodes R1a node = refl
keys_are nodes R1b node = refl
keys_are nodes R2 node = refl
keys_are nodes R3 node = key_described nodes R3 node refl
keys_are nodes R4a node = key_described nodes R4a node refl
keys_are nodes R4b node = key_described nodes R4b node refl
keys_are nodes R4c node = key_described nodes R4c node refl
keys_are nodes R5 node = key_described nodes R5 node refl
