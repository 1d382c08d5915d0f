-- Where two ligands are settled as alike, they tie by all rules.
use Rattle.std.proofs.Common.{◌≡◌, ℕ, zero, suc, ◌+◌, ◌-◌, ◌<◌, ◌≤◌, List, [], ◌∷◌, length, map, refl, sym, ap, ◌∙◌}
use Rattle.std.proofs.Common.{subst, Bool, true, false, not, ◌&&◌, ◌||◌, arith, inl, inr, None, flat_map, Ordering}
use Rattle.std.proofs.Common.{Less, Equal, Greater, is_eq}
use Rattle.std.specs.List.{AllByRecursion, list_any}
use Rattle.std.specs.Cmp.Lexicographic.{slice_cmp}
use Rattle.std.proofs.lemmas.Bool.{or_parts, or_cases, or_left, or_right, and_parts, not-true, cases_lt}
use Rattle.std.proofs.lemmas.List.Folds.{list_any-append}
use Rattle.cip_rank.specs.declared.rules.Rules.{Rules}
use Rattle.cip_rank.proofs.lemmas.RestOnTies.{both_tie}
use Rattle.cip_mol.specs.declared.site.Ligand.{Ligand}
use Rattle.cip_mol.specs.declared.site.Ligand.TheVariants.{Vertex, LonePair}
use Rattle.cip_mol.specs.declared.site.Unit as units
use Rattle.cip_digraph.specs.rules.Auxiliary.{stands_for, ligand_node, auxiliary}
use Rattle.cip_digraph.specs.outcome.Deciding.{is_empty, nodes_below, nodes_within, are_alike, ends_with_sphere}
use Rattle.cip_digraph.specs.outcome.Deciding.{holds_unit}
use Rattle.cip_digraph.specs.rules.Decisions.{order}
use Rattle.cip_digraph.specs.digraph.Digraph.{Node, real_node}
use Rattle.cip_digraph.specs.units.Ends.{End}
use Rattle.cip_digraph.specs.graph.Graph.{Graph}
use Rattle.cip_digraph.specs.rules.Orders.{Seen, rule_2}
use Rattle.cip_digraph.specs.outcome.Outcomes.{is_in_unit, end_root}
use Rattle.cip_digraph.specs.units.Ranked.{is_tie, ligand_order, some_pair, has_tie}
use Rattle.cip_digraph.specs.digraph.SameBranch.{EndsWithin}
use Rattle.cip_digraph.specs.graph.SoundGraphs.{IsSound}
use Rattle.cip_digraph.specs.digraph.View.{view_children, seen_from}
use Rattle.cip_digraph.proofs.lemmas.tree.Branches.{ligands_end}
use Rattle.cip_digraph.proofs.lemmas.ties.Early.{HasNoDescriptor, no_descriptor_below, tie_without_descriptors}
use Rattle.cip_digraph.proofs.lemmas.lists.Elements.{all_by, all_flat, all_filtered, all_both}
use Rattle.cip_digraph.proofs.lemmas.descriptors.UnitFree.{HasVertex, view_has, unit_free}

pub none_left : {X : Type 0} (xs : List X) → is_empty xs ≡ true → xs ≡ []
none_left [] e = refl
none_left (x ∷ xs) e = let bad : false ≡ true = e in cc

pub none_pass : {X : Type 0} (test : X → Bool) (xs : List X) → list_any test xs ≡ false
    → AllByRecursion (λ x. test x ≡ false) xs
none_pass test [] e = tt
none_pass test (x ∷ xs) e = let t = or_parts (test x) (list_any test xs) e in (t.0, none_pass test xs t.1)

module _ {N : Type 0} (below : N → List N) where
  within_pass : (test : N → Bool) (sphere number : ℕ) (nodes : List N) → list_any test (nodes_within below sphere nodes)
      ≡ false → number < sphere
      → AllByRecursion (λ node. test node ≡ false) (nodes_below below number nodes)
  within_pass test zero number nodes e lt = absurd (omega arith)
  within_pass test (suc sphere) number nodes e lt =
      let split = or_parts (list_any test (nodes_within below sphere nodes))
      (list_any test (nodes_below below sphere nodes))
      (sym (list_any-append test (nodes_within below sphere nodes) (nodes_below below sphere nodes)) ∙ e) in
      elim (cases_lt number sphere) [
        | inl inner ↦ within_pass test sphere number nodes split.0 inner
        | inr last ↦
            let here : sphere ≡ number = omega arith in
            subst (λ k. AllByRecursion (λ node. test node ≡ false) (nodes_below below k nodes)) here
            (none_pass test (nodes_below below sphere nodes) split.1)
      ]

  pub ended_below : (more sphere : ℕ) (nodes : List N) → nodes_below below sphere nodes ≡ []
      → nodes_below below (more + sphere) nodes ≡ []
  ended_below zero sphere nodes e = let same : 0 + sphere ≡ sphere = omega arith in ap (λ k. nodes_below below k nodes)
      same ∙ e
  ended_below (suc more) sphere nodes e =
      let next : suc more + sphere ≡ suc (more + sphere) = omega arith in
      ap (λ k. nodes_below below k nodes) next ∙ ap (flat_map below) (ended_below more sphere nodes e)

  pub ended_behind : (sphere number : ℕ) (nodes : List N) → nodes_below below sphere nodes ≡ [] → sphere ≤ number
      → nodes_below below number nodes ≡ []
  ended_behind sphere number nodes e le =
      let sum : number ≡ (number - sphere) + sphere = omega arith in
      ap (λ k. nodes_below below k nodes) sum ∙ ended_below (number - sphere) sphere nodes e

  -- what holds of all children holds of all nodes below
  pub all_below : (P : N → Type 0) → ((node : N) → AllByRecursion P (below node)) → (number : ℕ) (nodes : List N)
      → AllByRecursion P nodes → AllByRecursion P (nodes_below below number nodes)
  all_below P each zero nodes all = all
  all_below P each (suc number) nodes all =
      all_flat P P below (λ node _. each node) (nodes_below below number nodes) (all_below P each number nodes all)

some_by : {X : Type 0} (P : X → Type 0) (p q : X → Bool) → ((x : X) → P x → p x ≡ true → q x ≡ true) → (xs : List X)
    → AllByRecursion P xs → list_any p xs ≡ true → list_any q xs ≡ true
some_by P p q f [] all e = e
some_by P p q f (x ∷ xs) all e = elim (or_cases (p x) (list_any p xs) e) [
  | inl here ↦ or_left (q x) (list_any q xs) (f x all.0 here)
  | inr later ↦ or_right (q x) (list_any q xs) (some_by P p q f xs all.1 later)
]

some_pair_by : {X : Type 0} (P : X → Type 0) (p q : X → X → Bool) → ((x y : X) → P x → P y → p x y ≡ true
    → q x y ≡ true)
    → (xs : List X) → AllByRecursion P xs → some_pair p xs ≡ true → some_pair q xs ≡ true
some_pair_by P p q f [] all e = e
some_pair_by P p q f (x ∷ xs) all e = elim (or_cases (list_any (p x) xs) (some_pair p xs) e) [
  | inl here ↦ or_left (list_any (q x) xs) (some_pair q xs) (some_by P (p x) (q x) (λ y. f x y all.0) xs all.1 here)
  | inr later ↦ or_right (list_any (q x) xs) (some_pair q xs) (some_pair_by P p q f xs all.1 later)
]

is_equal : (r : Ordering) → is_eq r ≡ true → r ≡ Equal
is_equal Equal e = refl
is_equal Less e = let bad : false ≡ true = e in cc
is_equal Greater e = let bad : false ≡ true = e in cc

-- what two alike ligands have
record Alike {N : Type 0} (seen : Seen N) (is_in_unit : N → Bool) (sphere : ℕ) (a b : List N) : Type 0 where
  ends_a : nodes_below seen.children sphere a ≡ []
  ends_b : nodes_below seen.children sphere b ≡ []
  tie : slice_cmp (rule_2 seen seen.height) a b ≡ Equal
  free_a : list_any is_in_unit (nodes_within seen.children sphere a) ≡ false
  free_b : list_any is_in_unit (nodes_within seen.children sphere b) ≡ false

module _ {N : Type 0} (seen : Seen N) (root : N) (ligands : List (List N)) (is_in_unit : N → Bool) (sphere : ℕ)
    (a b : List N) where
  abbrev test_of : Bool → Bool → Bool
  test_of ended alike = elim ended as (λ _. Bool) [ true ↦ alike | false ↦ false ]

  abbrev alike_test : Bool
  alike_test =
      is_eq (slice_cmp (rule_2 seen seen.height) a b)
      && not (holds_unit seen root ligands is_in_unit sphere a || holds_unit seen root ligands is_in_unit sphere b)

  both_true : (ended alike : Bool) → test_of ended alike ≡ true → (ended ≡ true) × (alike ≡ true)
  both_true true alike e = (refl, e)
  both_true false alike e = let bad : false ≡ true = e in cc

  alike_has : are_alike seen root ligands is_in_unit sphere a b ≡ true → Alike seen is_in_unit sphere a b
  alike_has e =
      let ends_first = ends_with_sphere seen root ligands is_in_unit sphere a in
      let ends_second = ends_with_sphere seen root ligands is_in_unit sphere b in
      let t = both_true (ends_first && ends_second) alike_test e in
      let ends = and_parts ends_first ends_second t.0 in
      let rest = and_parts (is_eq (slice_cmp (rule_2 seen seen.height) a b))
      (not (holds_unit seen root ligands is_in_unit sphere a || holds_unit seen root ligands is_in_unit sphere b))
      t.1 in
      let free = or_parts (holds_unit seen root ligands is_in_unit sphere a) (holds_unit seen root ligands is_in_unit
      sphere b)
      (not-true (holds_unit seen root ligands is_in_unit sphere a || holds_unit seen root ligands is_in_unit sphere b)
      rest.1) in
      record {
        ends_a = none_left (nodes_below seen.children sphere a) ends.0;
        ends_b = none_left (nodes_below seen.children sphere b) ends.1;
        tie = is_equal (slice_cmp (rule_2 seen seen.height) a b) rest.0;
        free_a = free.0;
        free_b = free.1;
      }

module _ (rules : Rules) (graph : Graph) (positions : List (List ℕ)) (all : List units.Unit) (at : ℕ) where
  abbrev seen : Seen Node
  seen = seen_from rules graph positions (at ∷ []) (auxiliary rules graph positions all)

  abbrev in_unit : Node → Bool
  in_unit = is_in_unit rules graph positions all

  record IsLigandNode (node : Node) : Type 0 where
    vertex : HasVertex node
    ends : EndsWithin seen.children seen.height node

  no_descriptor_at : (sphere : ℕ) (ligand : List Node) → AllByRecursion HasVertex ligand → nodes_below seen.children sphere
      ligand ≡ []
      → list_any in_unit (nodes_within seen.children sphere ligand) ≡ false
      → (number : ℕ) → AllByRecursion (λ node. seen.descriptor node ≡ None) (nodes_below seen.children number ligand)
  no_descriptor_at sphere ligand has ends free number = elim (cases_lt number sphere) [
    | inl inner ↦
        all_by (λ node. HasVertex node × (in_unit node ≡ false)) (λ node. seen.descriptor node ≡ None)
        (λ node h. unit_free rules graph positions all (at ∷ []) node h.0 h.1)
        (nodes_below seen.children number ligand)
        (all_both HasVertex (λ node. in_unit node ≡ false) (nodes_below seen.children number ligand)
        (all_below seen.children HasVertex (λ node. view_has graph positions (at ∷ []) node) number ligand has)
        (within_pass seen.children in_unit sphere number ligand free inner))
    | inr behind ↦ subst (AllByRecursion (λ node. seen.descriptor node ≡ None))
        (sym (ended_behind seen.children sphere number ligand ends behind)) tt
  ]

  ligand_without_descriptor : (sphere : ℕ) (ligand : List Node) → AllByRecursion HasVertex ligand → nodes_below seen.children
      sphere ligand ≡ []
      → list_any in_unit (nodes_within seen.children sphere ligand) ≡ false
      → AllByRecursion (HasNoDescriptor seen seen.height) ligand
  ligand_without_descriptor sphere ligand has ends free = no_descriptor_below seen seen.height ligand (no_descriptor_at sphere ligand has
      ends free)

  vertices : (ligand : List Node) → AllByRecursion IsLigandNode ligand → AllByRecursion HasVertex ligand
  vertices ligand h = all_by IsLigandNode HasVertex (λ node n. n.vertex) ligand h

  pair_ties : (sphere : ℕ) (a b : List Node) → AllByRecursion IsLigandNode a → AllByRecursion IsLigandNode b
      → Alike seen in_unit sphere a b
      → is_tie (ligand_order (order seen true) a b) ≡ true
  pair_ties sphere [] [] p q h = refl
  pair_ties sphere [] (b ∷ bs) p q h = let bad : Less ≡ Equal = h.tie in cc
  pair_ties sphere (a ∷ aa) [] p q h = let bad : Greater ≡ Equal = h.tie in cc
  pair_ties sphere (a ∷ aa) (b ∷ bs) p q h =
      ap is_tie (tie_without_descriptors seen a b p.0.ends q.0.ends
      (ligand_without_descriptor sphere (a ∷ aa) (vertices (a ∷ aa) p) h.ends_a h.free_a).0
      (ligand_without_descriptor sphere (b ∷ bs) (vertices (b ∷ bs) q) h.ends_b h.free_b).0
      (both_tie (rule_2 seen seen.height a b) (slice_cmp (rule_2 seen seen.height) aa bs) h.tie).0)

module _ (rules : Rules) (graph : Graph) (positions : List (List ℕ)) (all : List units.Unit) (end : End)
    (sound : IsSound graph) (lt : end.at < length graph.vertices) where
  abbrev around : List Node
  around = view_children graph positions (end.at ∷ []) (real_node end.at [])

  around_are : AllByRecursion (IsLigandNode rules graph positions all end.at) around
  around_are =
      all_by (λ node. HasVertex node × EndsWithin (seen rules graph positions all end.at).children
      (seen rules graph positions all end.at).height node)
      (IsLigandNode rules graph positions all end.at) (λ node h. record { vertex = h.0; ends = h.1 }) around
      (all_both HasVertex (EndsWithin (seen rules graph positions all end.at).children (seen rules graph positions all
      end.at).height) around
      (view_has graph positions (end.at ∷ []) (real_node end.at []))
      (ligands_end graph positions end.at sound lt rules (auxiliary rules graph positions all)))

  node_is : (ligand : Ligand) → AllByRecursion (IsLigandNode rules graph positions all end.at)
      (ligand_node around ligand)
  node_is LonePair = tt
  node_is (Vertex vertex) = all_filtered (IsLigandNode rules graph positions all end.at) (stands_for vertex) around
      around_are

  each_is : (ligands : List Ligand) → AllByRecursion (AllByRecursion (IsLigandNode rules graph positions all end.at))
      (map (ligand_node around) ligands)
  each_is [] = tt
  each_is (ligand ∷ ligands) = (node_is ligand, each_is ligands)

  pub settled_tie : (sphere : ℕ)
      → some_pair (are_alike (seen rules graph positions all end.at) (real_node end.at [])
      (end_root rules graph positions all end).ligands (in_unit rules graph positions all end.at) sphere)
      (end_root rules graph positions all end).ligands ≡ true
      → has_tie (end_root rules graph positions all end) ≡ true
  settled_tie sphere e =
      let ligands = (end_root rules graph positions all end).ligands in
      some_pair_by (AllByRecursion (IsLigandNode rules graph positions all end.at))
      (are_alike (seen rules graph positions all end.at) (real_node end.at []) ligands (in_unit rules graph positions
      all end.at) sphere)
      (λ a b. is_tie (ligand_order (order (seen rules graph positions all end.at) true) a b))
      (λ a b p q h. pair_ties rules graph positions all end.at sphere a b p q
      (alike_has (seen rules graph positions all end.at) (real_node end.at []) ligands (in_unit rules graph positions
      all end.at) sphere a b h))
      ligands (each_is end.ligands) e
