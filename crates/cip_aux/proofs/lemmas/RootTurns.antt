-- The turns of a root's ligands by number are those of its ranks.
use Rattle.std.proofs.Common.{◌≡◌, ℕ, zero, suc, ◌<◌, Bool, true, false, cond, List, [], ◌∷◌, map, length, refl, sym, ap, ◌∙◌, arith, None, Some, IfSome}
use Rattle.std.specs.List.{AllByRecursion}
use Rattle.std.specs.declared.option.Option.{Option}
use Rattle.cip_mol.specs.declared.labels.descriptor.Descriptor.{Descriptor}
use Rattle.cip_mol.specs.declared.site.Ligand.{Ligand}
use Rattle.cip_mol.specs.declared.site.Ligand.TheVariants.{Vertex, LonePair}
use Rattle.cip_rank.specs.Tree.{children_of}
use Rattle.cip_rank.proofs.lemmas.Children.{IsChild, children_are}
use Rattle.cip_digraph.specs.rules.Auxiliary.{stands_for, ligand_node, root_at}
use Rattle.cip_digraph.specs.declared.decisions.decision.Decision.{Decision}
use Rattle.cip_digraph.specs.rules.Decisions.{order}
use Rattle.cip_digraph.specs.digraph.Digraph.{Node}
use Rattle.cip_digraph.specs.digraph.NodeList.{told_at, parents_of}
use Rattle.cip_digraph.specs.units.Ranked.{ligand_order}
use Rattle.cip_digraph.specs.digraph.Telling.{node_at}
use Rattle.cip_digraph.specs.digraph.View.{real_at, view_children, seen_from}
use Rattle.cip_digraph.proofs.lemmas.lists.Elements.{all_by, all_append}
use Rattle.cip_digraph.proofs.lemmas.orders.Whole.{order_total}
use Rattle.cip_digraph.specs.Sides.{found_side, Sides, number_side, pair_sides}
use Rattle.cip_digraph.specs.TurnsOf.{turns_of, root_turns}
use Rattle.cip_digraph.proofs.lemmas.PairTurns.{turns_are, two_mapped}
use Rattle.cip_aux.specs.Neighbours.{parent_of, neighbours_of, first_where, ligand_number, shape_at, ligand_at}
use Rattle.cip_aux.specs.Views.{DigraphView, Shows, SidesAre, path_at, IsReal}
use Rattle.cip_aux.proofs.lemmas.Paths.{earlier}
use Rattle.cip_aux.proofs.lemmas.RootView.{front, ligand_is}

pub first_same : (one other : ℕ → Bool) (P : ℕ → Type 0) → ((n : ℕ) → P n → one n ≡ other n) → (ns : List ℕ)
    → AllByRecursion P ns → first_where one ns ≡ first_where other ns
first_same one other P same [] all = refl
first_same one other P same (n ∷ ns) all = rw (same n all.0, first_same one other P same ns all.1) refl

pub first_within : (test : ℕ → Bool) (P : ℕ → Type 0) (ns : List ℕ) → AllByRecursion P ns
    → IfSome (first_where test ns) P
first_within test P [] all = tt
first_within test P (n ∷ ns) all = by (test n) (first_within test P ns all.1)
  where
    by : (b : Bool) → IfSome (first_where test ns) P → IfSome (cond b (Some n) (first_where test ns)) P
    by true rest = all.0
    by false rest = rest

fronts : (compare : Node → Node → Option Decision) (a b : List Node)
    → ligand_order compare (front a) (front b) ≡ ligand_order compare a b
fronts compare [] [] = refl
fronts compare [] (b ∷ bs) = refl
fronts compare (a ∷ aa) [] = refl
fronts compare (a ∷ aa) (b ∷ bs) = refl

module _ (sight : DigraphView) (s : Shows sight) where
  abbrev Within : Option ℕ → Type 0
  Within number = IfSome number (λ n. n < length sight.nodes)

  pub children_within : (n : ℕ) → AllByRecursion (λ k. k < length sight.nodes) (children_of (parents_of sight.node_data) n)
  children_within n =
      all_by (IsChild (parents_of sight.node_data) n) (λ k. k < length sight.nodes)
      (λ k child. let len = s.node_data.len in let below = child.below in omega arith)
      (children_of (parents_of sight.node_data) n) (children_are (parents_of sight.node_data) n)

  parent_within : (n : ℕ) → n < length sight.nodes
      → AllByRecursion (λ k. k < length sight.nodes) (parent_of (parents_of sight.node_data) n)
  parent_within zero lt = tt
  parent_within (suc before) lt =
      let less = earlier sight s (suc before) (omega arith) lt in
      (omega arith, tt)

  neighbours_within : (n : ℕ) → n < length sight.nodes
      → AllByRecursion (λ k. k < length sight.nodes) (neighbours_of (parents_of sight.node_data) n)
  neighbours_within n lt =
      all_append (λ k. k < length sight.nodes) (children_of (parents_of sight.node_data) n)
      (parent_of (parents_of sight.node_data) n) (children_within n) (parent_within n lt)

  shape_stands : (vertex k : ℕ) → k < length sight.nodes
      → stands_for vertex (shape_at sight.node_data k) ≡ stands_for vertex (node_at sight.nodes k)
  shape_stands vertex k lt =
      ap (λ kind. stands_for vertex (record { kind = kind; path = []; vertex = (told_at sight.node_data k).vertex }))
      (s.node_data.each k lt).kind
      ∙ ap (λ v. stands_for vertex (record { kind = (node_at sight.nodes k).kind; path = []; vertex = v }))
      (s.node_data.each k lt).vertex

  ligand_same : (n : ℕ) → n < length sight.nodes → (ligand : Ligand)
      → ligand_number (shape_at sight.node_data) (parents_of sight.node_data) n ligand
      ≡ ligand_number (node_at sight.nodes) (parents_of sight.node_data) n ligand
  ligand_same n lt LonePair = refl
  ligand_same n lt (Vertex vertex) =
      first_same (λ k. stands_for vertex (shape_at sight.node_data k)) (λ k. stands_for vertex (node_at sight.nodes k))
      (λ k. k < length sight.nodes) (shape_stands vertex) (neighbours_of (parents_of sight.node_data) n)
      (neighbours_within n lt)

  ligand_within : (n : ℕ) → n < length sight.nodes → (ligand : Ligand)
      → Within (ligand_number (shape_at sight.node_data) (parents_of sight.node_data) n ligand)
  ligand_within n lt LonePair = tt
  ligand_within n lt (Vertex vertex) =
      first_within (λ k. stands_for vertex (shape_at sight.node_data k)) (λ k. k < length sight.nodes)
      (neighbours_of (parents_of sight.node_data) n) (neighbours_within n lt)

  module _ (n : ℕ) (r : IsReal sight.nodes n) where
    abbrev number : Ligand → Option ℕ
    number = ligand_number (shape_at sight.node_data) (parents_of sight.node_data) n

    abbrev node : Ligand → List Node
    node = ligand_node
        (view_children sight.graph sight.positions (path_at sight.nodes n) (real_at (path_at sight.nodes n)))

    node_is : (ligand : Ligand) → ligand_at sight.nodes (number ligand) ≡ front (node ligand)
    node_is ligand = ap (ligand_at sight.nodes) (ligand_same n r.within ligand) ∙ sym (ligand_is sight s n r ligand)

    module _ (sides : Sides) (compare : Bool → Node → Node → Option Decision)
        (each : (r_first : Bool) (a b : ℕ) → a < length sight.nodes → b < length sight.nodes
        → sides r_first a b ≡ found_side (compare r_first (node_at sight.nodes a) (node_at sight.nodes b))) where
      number_is : (r_first : Bool) (a b : Option ℕ) → Within a → Within b
          → number_side (sides r_first) a b
          ≡ found_side (ligand_order (compare r_first) (ligand_at sight.nodes a) (ligand_at sight.nodes b))
      number_is r_first None None p q = refl
      number_is r_first None (Some b) p q = refl
      number_is r_first (Some a) None p q = refl
      number_is r_first (Some a) (Some b) p q = each r_first a b p q

      -- two ligands compare by their numbers as by their nodes
      alike : (r_first : Bool) (x y : Ligand)
          → number_side (sides r_first) (number x) (number y)
          ≡ found_side (ligand_order (compare r_first) (node x) (node y))
      alike r_first x y =
          number_is r_first (number x) (number y) (ligand_within n r.within x) (ligand_within n r.within y)
          ∙ (λ i. found_side (ligand_order (compare r_first) (node_is x i) (node_is y i)))
          ∙ ap found_side (fronts (compare r_first) (node x) (node y))

  -- the turns by number of a root in a view
  pub root_is : (descriptor : List ℕ → Option Descriptor) (sides : Sides) (n : ℕ) → IsReal sight.nodes n
      → SidesAre sight n descriptor sides → (ligands : List Ligand)
      → let numbers = map (ligand_number (shape_at sight.node_data) (parents_of sight.node_data) n) ligands in
      turns_of (pair_sides (sides true) numbers) (pair_sides (sides false) numbers)
      ≡ root_turns (root_at sight.rules sight.graph sight.positions descriptor (path_at sight.nodes n) ligands)
  root_is descriptor sides n r are ligands =
      let seen = seen_from sight.rules sight.graph sight.positions (path_at sight.nodes n) descriptor in
      let side = λ (r_first : Bool) (x y : Ligand). number_side (sides r_first) (number n r x) (number n r y) in
      (λ i. turns_of (two_mapped (number n r) (number_side (sides true)) ligands i)
      (two_mapped (number n r) (number_side (sides false)) ligands i))
      ∙ turns_are (node n r) ligands side (order seen) (λ r_first. order_total seen r_first)
      (alike n r sides (order seen) are.each)
