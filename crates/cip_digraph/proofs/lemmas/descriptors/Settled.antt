-- Where long paths have no letter, the descriptors don't depend on how many spheres of them are looked at.
use Rattle.std.proofs.Common.{◌≡◌, ℕ, zero, suc, ◌+◌, ◌<◌, ◌&&◌, Bool, true, false, List, [], ◌∷◌, length, refl, sym}
use Rattle.std.proofs.Common.{ap, arith, None, nat_lt, Option, ltb-true}
use Rattle.std.proofs.lemmas.Bool.{and_parts, lt-leb}
use Rattle.cip_rank.specs.declared.rules.Rules.{Rules}
use Rattle.cip_mol.specs.declared.labels.descriptor.Descriptor.{Descriptor}
use Rattle.cip_mol.specs.declared.site.Unit as units
use Rattle.cip_digraph.specs.graph.Graph.{Graph}
use Rattle.cip_digraph.specs.rules.Auxiliary.{first_letter, node_letter, inside, descriptors_within, auxiliary}
use Rattle.cip_digraph.specs.digraph.View.{is_end_of}

abbrev when : Bool → Option Descriptor → Option Descriptor
when b found = elim b as (λ _. Option Descriptor) [ true ↦ found | false ↦ None ]

when_same : (b : Bool) (one other : Option Descriptor) → (b ≡ true → one ≡ other) → when b one ≡ when b other
when_same true one other h = h refl
when_same false one other h = refl

module _ (letter_of : List ℕ → (List ℕ → Option Descriptor) → Option Descriptor) (most : ℕ)
    (none : (path : List ℕ) (descriptor : List ℕ → Option Descriptor) → most < length path → letter_of path descriptor ≡ None) where
  pub settled : (more : ℕ) (path : List ℕ) → most < more + length path
      → descriptors_within letter_of more path ≡ descriptors_within letter_of (suc more) path
  unfolding descriptors_within
  settled zero path h = sym (none path _ (omega arith))
  settled (suc more) path h =
      ap (letter_of path) (λ i inner.
      when_same (is_end_of path inner && nat_lt (length path) (length inner)) (descriptors_within letter_of more inner)
      (descriptors_within letter_of (suc more) inner)
      (λ e.
      let longer : length path < length inner =
      ltb-true (length path) (length inner)
      (and_parts (is_end_of path inner) (nat_lt (length path) (length inner)) e).1 in
      settled more inner (omega arith)) i)

-- a list that is longer than any path has no letter
no_letter : (rules : Rules) (graph : Graph) (positions : List (List ℕ)) (all : List units.Unit) (path : List ℕ)
    (descriptor : List ℕ → Option Descriptor)
    → length graph.vertices < length path → node_letter rules graph positions all path descriptor ≡ None
no_letter rules graph positions all [] descriptor h = refl
no_letter rules graph positions all (root ∷ []) descriptor h = refl
no_letter rules graph positions all (vertex ∷ next ∷ up) descriptor h =
    ap (λ b. when b (first_letter rules graph positions all vertex (next ∷ up) descriptor))
    (lt-leb (length (vertex ∷ next ∷ up)) (length graph.vertices) h)

module _ (rules : Rules) (graph : Graph) (positions : List (List ℕ)) (all : List units.Unit) where
  none_at_all : (more : ℕ) → descriptors_within (node_letter rules graph positions all) more [] ≡ None
  unfolding descriptors_within
  none_at_all zero = refl
  none_at_all (suc more) = refl

  pub descriptor_is_letter : (path : List ℕ) → auxiliary rules graph positions all path
      ≡ node_letter rules graph positions all path (inside (auxiliary rules graph positions all) path)
  unfolding descriptors_within
  descriptor_is_letter [] = none_at_all (length graph.vertices)
  descriptor_is_letter (vertex ∷ up) =
      settled (node_letter rules graph positions all) (length graph.vertices) (no_letter rules graph positions all)
      (length graph.vertices) (vertex ∷ up) (omega arith)
