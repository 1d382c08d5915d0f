-- Reflection exchanges the letter of a unit, where descriptors inside the digraph are exchanged.
use Rattle.std.proofs.Common.{◌≡◌, ℕ, List, [], ◌∷◌, map, refl, sym, ap, ◌∙◌, Bool, true, false, not, cond, None, Some}
use Rattle.std.proofs.Common.{◌++◌, Option}
use Rattle.std.specs.List.{AllByRecursion, list_any, list_all}
use Rattle.cip_rank.specs.declared.rules.Rules.{Rules}
use Rattle.cip_mol.specs.declared.labels.descriptor.Descriptor.{Descriptor}
use Rattle.cip_mol.specs.declared.labels.descriptor.Sense.{Sense}
use Rattle.cip_mol.specs.declared.labels.descriptor.Sense.TheVariants.{Plus, Minus}
use Rattle.cip_mol.specs.declared.site.Ligand.{Ligand}
use Rattle.cip_mol.specs.declared.site.Site.{Site}
use Rattle.cip_mol.specs.declared.site.Site.TheVariants.{Centre, Bond, Axis}
use Rattle.cip_digraph.specs.rings.Alternating.{is_in}
use Rattle.cip_digraph.specs.rules.Auxiliary.{root_at, roots_at, letter_at}
use Rattle.cip_digraph.specs.rules.Decisions.{order}
use Rattle.cip_mol.specs.FlatCentres.{inversions}
use Rattle.cip_digraph.specs.units.Descriptors.{is_odd, opposite, turned_if, sense_in_rank, letter_by, letter}
use Rattle.cip_digraph.specs.digraph.Digraph.{Node, is_real}
use Rattle.cip_digraph.specs.units.Ends.{End}
use Rattle.cip_digraph.specs.rules.Exchange.{exchanged, exchanged_descriptor, with_exchanged, reflected_sense}
use Rattle.cip_digraph.specs.graph.Graph.{Graph}
use Rattle.cip_digraph.specs.units.Ranked.{Root, ligand_order, ranks, turned_ranks, is_tie, some_pair, has_tie}
use Rattle.cip_digraph.specs.digraph.View.{seen_from}
use Rattle.cip_digraph.proofs.lemmas.orders.Exchanged.{order_turned}
use Rattle.cip_digraph.proofs.lemmas.ties.Turned.{tie_turned}

-- a root with both orders in each other's place
abbrev pub swapped : {N : Type 0} → Root N → Root N
swapped root = record { order = root.turned; turned = root.order; ligands = root.ligands }

-- what ties by the one order ties by the other
abbrev pub TieAlike : {N : Type 0} → Root N → Type 0
TieAlike {N} root = (a b : N) → is_tie (root.order a b) ≡ is_tie (root.turned a b)

module _ {N : Type 0} where
  ligands_tie : (root : Root N) → TieAlike root → (a b : List N)
      → is_tie (ligand_order root.turned a b) ≡ is_tie (ligand_order root.order a b)
  ligands_tie root alike [] [] = refl
  ligands_tie root alike [] (b ∷ bs) = refl
  ligands_tie root alike (a ∷ aa) [] = refl
  ligands_tie root alike (a ∷ aa) (b ∷ bs) = sym (alike a b)

  tie_swapped : (root : Root N) → TieAlike root → has_tie (swapped root) ≡ has_tie root
  tie_swapped root alike = ap (λ test. some_pair test root.ligands) (λ i a b. ligands_tie root alike a b i)

  pub ties_swapped : (roots : List (Root N)) → AllByRecursion TieAlike roots
      → list_any has_tie (map swapped roots) ≡ list_any has_tie roots
  ties_swapped [] all = refl
  ties_swapped (root ∷ roots) all =
      rw (tie_swapped root all.0, ties_swapped roots all.1) refl

  ranks_swapped : (roots : List (Root N)) → map ranks (map swapped roots) ≡ map turned_ranks roots
  ranks_swapped [] = refl
  ranks_swapped (root ∷ roots) = ap (λ others. turned_ranks root ∷ others) (ranks_swapped roots)

  turned_ranks_swapped : (roots : List (Root N)) → map turned_ranks (map swapped roots) ≡ map ranks roots
  turned_ranks_swapped [] = refl
  turned_ranks_swapped (root ∷ roots) = ap (λ others. ranks root ∷ others) (turned_ranks_swapped roots)

turned_opposite : (b : Bool) (sense : Sense) → turned_if b (opposite sense) ≡ opposite (turned_if b sense)
turned_opposite true sense = refl
turned_opposite false sense = refl

pub opposite_in_rank : (sense : Sense) (places : List (List ℕ))
    → sense_in_rank (opposite sense) places ≡ opposite (sense_in_rank sense places)
opposite_in_rank sense [] = refl
opposite_in_rank sense (first ∷ places) =
    rw (opposite_in_rank sense places)
    (turned_opposite (is_odd (inversions first)) (sense_in_rank sense places))

reflected_in_rank : (site : Site) (sense : Sense) (places : List (List ℕ))
    → sense_in_rank (reflected_sense site sense) places ≡ reflected_sense site (sense_in_rank sense places)
reflected_in_rank (Centre at ligands) sense places = opposite_in_rank sense places
reflected_in_rank (Bond a b first second) sense places = refl
reflected_in_rank (Axis a middle b first second) sense places = opposite_in_rank sense places

letter_reflected : (site : Site) (sense turned : Sense)
    → letter_by site (reflected_sense site turned) (reflected_sense site sense)
    ≡ exchanged (letter_by site sense turned)
letter_reflected (Centre at ligands) Plus Plus = refl
letter_reflected (Centre at ligands) Minus Plus = refl
letter_reflected (Bond a b first second) Plus Plus = refl
letter_reflected (Bond a b first second) Minus Plus = refl
letter_reflected (Axis a middle b first second) Plus Plus = refl
letter_reflected (Axis a middle b first second) Minus Plus = refl
letter_reflected site sense turned = refl

pub letter_exchanged : {N : Type 0} (site : Site) (sense : Sense) (roots : List (Root N))
    → letter site (reflected_sense site sense) (map swapped roots) ≡ exchanged (letter site sense roots)
letter_exchanged site sense roots =
    rw (
      ranks_swapped roots,
      turned_ranks_swapped roots,
      reflected_in_rank site sense (map turned_ranks roots),
      reflected_in_rank site sense (map ranks roots),
    )
    (letter_reflected site (sense_in_rank sense (map ranks roots)) (sense_in_rank sense (map turned_ranks roots)))

descriptor_if_real : (b : Bool) (descriptor : Option Descriptor)
    → cond b (exchanged_descriptor descriptor) None ≡ exchanged_descriptor (cond b descriptor None)
descriptor_if_real true descriptor = refl
descriptor_if_real false descriptor = refl

abbrev pub exchanged_descriptors : (List ℕ → Option Descriptor) → List ℕ → Option Descriptor
exchanged_descriptors descriptor path = exchanged_descriptor (descriptor path)

module _ (rules : Rules) (graph : Graph) (positions : List (List ℕ)) (descriptor : List ℕ → Option Descriptor) where
  seen_exchanged : (path : List ℕ)
      → seen_from rules graph positions path (exchanged_descriptors descriptor)
      ≡ with_exchanged (seen_from rules graph positions path descriptor)
  seen_exchanged path =
      ap (λ descriptors. record (seen_from rules graph positions path descriptor) { descriptor = descriptors })
      (λ i node. descriptor_if_real (is_real node.kind) (descriptor node.path) i)

  order_exchanged : (path : List ℕ) (r_first : Bool)
      → order (seen_from rules graph positions path (exchanged_descriptors descriptor)) r_first
      ≡ order (seen_from rules graph positions path descriptor) (not r_first)
  order_exchanged path r_first =
      ap (λ seen. order seen r_first) (seen_exchanged path)
      ∙ (λ i a b. order_turned (seen_from rules graph positions path descriptor) r_first a b i)

  pub root_exchanged : (path : List ℕ) (ligands : List Ligand)
      → root_at rules graph positions (exchanged_descriptors descriptor) path ligands
      ≡ swapped (root_at rules graph positions descriptor path ligands)
  root_exchanged path ligands = rw (order_exchanged path true, order_exchanged path false) refl

  pub root_alike : (path : List ℕ) (ligands : List Ligand) → TieAlike (root_at rules graph positions descriptor path ligands)
  root_alike path ligands a b = tie_turned (seen_from rules graph positions path descriptor) a b

  abbrev if_new : Bool → List (Root Node) → List (Root Node)
  if_new b roots = elim b as (λ _. List (Root Node)) [ true ↦ roots | false ↦ [] ]

  map_if_new : (b : Bool) (roots : List (Root Node)) → map swapped (if_new b roots) ≡ if_new b (map swapped roots)
  map_if_new true roots = refl
  map_if_new false roots = refl

  all_if_new : (b : Bool) (roots : List (Root Node)) → AllByRecursion TieAlike roots
      → AllByRecursion TieAlike (if_new b roots)
  all_if_new true roots all = all
  all_if_new false roots all = tt

  abbrev new_ends : List ℕ → List ℕ → End → Bool
  new_ends path between far = list_all (λ vertex. not (is_in vertex path)) (far.at ∷ between)

  pub roots_exchanged : (path between : List ℕ) (ends : List End)
      → roots_at rules graph positions (exchanged_descriptors descriptor) path between ends
      ≡ map swapped (roots_at rules graph positions descriptor path between ends)
  roots_exchanged path between [] = refl
  roots_exchanged path between (nearer ∷ []) =
      ap {B = List (Root Node)} (λ root. root ∷ []) (root_exchanged path nearer.ligands)
  roots_exchanged path between (nearer ∷ far ∷ ends) =
      let beyond = far.at ∷ (between ++ path) in
      let one = root_at rules graph positions descriptor path nearer.ligands in
      let other = root_at rules graph positions descriptor beyond far.ligands in
      ap {B = List (Root Node)}
      (λ root. if_new (new_ends path between far)
      (root ∷ root_at rules graph positions (exchanged_descriptors descriptor) beyond far.ligands ∷ []))
      (root_exchanged path nearer.ligands)
      ∙ ap {B = List (Root Node)} (λ root. if_new (new_ends path between far) (swapped one ∷ root ∷ []))
      (root_exchanged beyond far.ligands)
      ∙ sym (map_if_new (new_ends path between far) (one ∷ other ∷ []))

  pub roots_alike : (path between : List ℕ) (ends : List End)
      → AllByRecursion TieAlike (roots_at rules graph positions descriptor path between ends)
  roots_alike path between [] = tt
  roots_alike path between (nearer ∷ []) = (root_alike path nearer.ligands, tt)
  roots_alike path between (nearer ∷ far ∷ ends) =
      all_if_new (new_ends path between far) _
      (root_alike path nearer.ligands, (root_alike (far.at ∷ (between ++ path)) far.ligands, tt))

  abbrev if_tied : Bool → Option Descriptor → Option Descriptor
  if_tied b found = elim b as (λ _. Option Descriptor) [ true ↦ None | false ↦ found ]

  if_tied_exchanged : (b : Bool) (descriptor : Descriptor)
      → if_tied b (Some (exchanged descriptor)) ≡ exchanged_descriptor (if_tied b (Some descriptor))
  if_tied_exchanged true descriptor = refl
  if_tied_exchanged false descriptor = refl

  pub letter_at_exchanged : (site : Site) (sense : Sense) (roots : List (Root Node)) → AllByRecursion TieAlike roots
      → letter_at rules graph positions site (reflected_sense site sense) (map swapped roots)
      ≡ exchanged_descriptor (letter_at rules graph positions site sense roots)
  letter_at_exchanged site sense [] all = refl
  letter_at_exchanged site sense (root ∷ roots) all =
      ap (λ b. if_tied b (Some (letter site (reflected_sense site sense) (map swapped (root ∷ roots)))))
      (ties_swapped (root ∷ roots) all)
      ∙ ap (λ found. if_tied (list_any has_tie (root ∷ roots)) (Some found))
      (letter_exchanged site sense (root ∷ roots))
      ∙ if_tied_exchanged (list_any has_tie (root ∷ roots)) (letter site sense (root ∷ roots))
