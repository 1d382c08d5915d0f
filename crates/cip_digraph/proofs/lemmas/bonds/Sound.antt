-- The graph of a drawing without a fault is sound.
use Rattle.std.proofs.Common.{◌≡◌, ◌≢◌, ◌<◌, ◌≤◌, ◌+◌, ℕ, zero, suc, Bool, true, false, ◌&&◌, ◌||◌, ◌==◌, List, [], ◌∷◌}
use Rattle.std.proofs.Common.{map, length, length-append, replicate, refl, ap, arith}
use Rattle.std.specs.List.{AllByRecursion, range_with_len}
use Rattle.std.proofs.lemmas.Bool.{ne_eqb}
use Rattle.std.proofs.lemmas.List.{length-map}
use Rattle.std.proofs.lemmas.List.Elements.{All-from_recursion}
use Rattle.std.proofs.lemmas.List.FromFn.{length-range_with_len}
use Rattle.cip_mol.specs.Bonds.{joins_same}
use Rattle.cip_mol.specs.Bonds as bonds
use Rattle.cip_mol.specs.Drawing.{Drawing}
use Rattle.cip_mol.proofs.lemmas.SimpleBonds.{AreSimple, simple_from_sound}
use Rattle.cip_digraph.specs.graph.DrawnGraph.{bond_edge, atom_vertex, hydrogen, carriers, hydrogen_edges, graph_of}
use Rattle.cip_digraph.specs.declared.drawing.graph.Edge.{Edge}
use Rattle.cip_digraph.specs.graph.Hydrogens.{hydrogens_of}
use Rattle.cip_digraph.specs.graph.SoundGraphs.{JoinsBelow, join_same, IsSound}
use Rattle.cip_digraph.proofs.lemmas.lists.Elements.{all_by, all_append, all_mapped, all_flat, all_replicate, by_recursion}
use Rattle.cip_digraph.proofs.lemmas.lists.Elements.{Pairwise, pairwise_append, pairwise_mapped, pairwise_from_pairs}
use Rattle.cip_digraph.proofs.lemmas.lists.Elements.{pairs_from_pairwise}

module _ (drawing : Drawing) (sound : bonds.IsSound (length drawing.atoms) drawing.bonds) where
  abbrev atoms : ℕ
  atoms = length drawing.atoms

  simple : AreSimple atoms drawing.bonds
  simple = simple_from_sound atoms drawing.bonds sound

  -- an edge of a bond, and one of a hydrogen that is numbered from a vertex on
  record IsBondEdge (edge : Edge) : Type 0 where
    a : edge.a < atoms
    b : edge.b < atoms
    differ : edge.a ≢ edge.b

  record IsHydrogenEdge (from past : ℕ) (edge : Edge) : Type 0 where
    a : edge.a < atoms
    b : from ≤ edge.b
    below : edge.b < past

  bond_edges : AllByRecursion IsBondEdge (map (bond_edge drawing) drawing.bonds)
  bond_edges =
      all_mapped IsBondEdge (bond_edge drawing) drawing.bonds
      (by_recursion (λ bond. IsBondEdge (bond_edge drawing bond)) drawing.bonds
      (λ k d lt. let f = simple.joins k d lt in record { a = f.a; b = f.b; differ = f.differ }))

  hydrogens_from : (from : ℕ) (carried : List ℕ) → atoms ≤ from → AllByRecursion (λ atom. atom < atoms) carried
      → AllByRecursion (IsHydrogenEdge from (from + length carried)) (hydrogen_edges from carried)
  hydrogens_from from [] le all = tt
  hydrogens_from from (atom ∷ carried) le all = (
    record { a = all.0; b = omega arith; below = omega arith },
    all_by (IsHydrogenEdge (from + 1) (from + 1 + length carried))
        (IsHydrogenEdge from (from + length (atom ∷ carried)))
        (λ edge h. let low = h.b in let high = h.below in record { a = h.a; b = omega arith; below = omega arith })
        (hydrogen_edges (from + 1) carried) (hydrogens_from (from + 1) carried (omega arith) all.1),
  )

  neither : (p q r s : Bool) → q ≡ false → r ≡ false → ((p && q) || (r && s)) ≡ false
  neither true q r s e f = rw (e, f) refl
  neither false q r s e f = rw f refl

  apart : (one other : Edge) → one.b ≢ other.b → one.a ≢ other.b → join_same one other ≡ false
  apart one other e f =
      neither (one.a == other.a) (one.b == other.b) (one.a == other.b) (one.b == other.a) (ne_eqb one.b other.b e)
      (ne_eqb one.a other.b f)

  hydrogens_once : (from : ℕ) (carried : List ℕ) → atoms ≤ from → AllByRecursion (λ atom. atom < atoms) carried
      → Pairwise (λ one other. join_same one other ≡ false) (hydrogen_edges from carried)
  hydrogens_once from [] le all = tt
  hydrogens_once from (atom ∷ carried) le all = (
    all_by (IsHydrogenEdge (from + 1) (from + 1 + length carried))
        (λ other. join_same (record { a = atom; b = from; order = 1; counted = false }) other ≡ false)
        (λ other h.
        let low = h.b in
        let below = all.0 in
        apart (record { a = atom; b = from; order = 1; counted = false }) other
        (λ e. let same : from ≡ other.b = e in omega arith) (λ e. let same : atom ≡ other.b = e in omega arith))
        (hydrogen_edges (from + 1) carried) (hydrogens_from (from + 1) carried (omega arith) all.1),
    hydrogens_once (from + 1) carried (omega arith) all.1,
  )

  range_below : (from count past : ℕ) → from + count ≤ past
      → AllByRecursion (λ atom. atom < past) (range_with_len from count)
  range_below from zero past le = tt
  range_below from (suc count) past le = (omega arith, range_below (from + 1) count past (omega arith))

  carriers_below : AllByRecursion (λ atom. atom < atoms) (carriers drawing)
  carriers_below =
      all_flat (λ atom. atom < atoms) (λ atom. atom < atoms) (λ atom. replicate (hydrogens_of drawing atom) atom)
      (λ atom lt. all_replicate (λ other. other < atoms) (hydrogens_of drawing atom) atom lt)
      (range_with_len 0 atoms) (range_below 0 atoms atoms (omega arith))

  vertices_counted : length (graph_of drawing).vertices ≡ atoms + length (carriers drawing)
  unfolding graph_of
  vertices_counted =
      rw (
        length-append (map (atom_vertex drawing) (range_with_len 0 atoms)) (map (λ _. hydrogen) (carriers drawing)),
        length-map (range_with_len 0 atoms) (atom_vertex drawing),
        length-range_with_len 0 atoms,
      )
      (ap (λ n. atoms + n) (length-map (carriers drawing) (λ _. hydrogen)))

  edges_join : AllByRecursion (JoinsBelow (atoms + length (carriers drawing))) (graph_of drawing).edges
  unfolding graph_of
  edges_join =
      all_append (JoinsBelow (atoms + length (carriers drawing))) (map (bond_edge drawing) drawing.bonds)
      (hydrogen_edges atoms (carriers drawing))
      (all_by IsBondEdge (JoinsBelow (atoms + length (carriers drawing)))
      (λ edge h. let a = h.a in let b = h.b in record { a = omega arith; b = omega arith; differ = h.differ })
      (map (bond_edge drawing) drawing.bonds) bond_edges)
      (all_by (IsHydrogenEdge atoms (atoms + length (carriers drawing)))
      (JoinsBelow (atoms + length (carriers drawing)))
      (λ edge h. let a = h.a in let b = h.b in
      record { a = omega arith; b = h.below; differ = λ e. let same : edge.a ≡ edge.b = e in omega arith })
      (hydrogen_edges atoms (carriers drawing)) (hydrogens_from atoms (carriers drawing) (omega arith) carriers_below))

  edges_once : Pairwise (λ one other. join_same one other ≡ false) (graph_of drawing).edges
  unfolding graph_of
  edges_once =
      let hydrogens = hydrogen_edges atoms (carriers drawing) in
      pairwise_append (λ one other. join_same one other ≡ false) (map (bond_edge drawing) drawing.bonds) hydrogens
      (pairwise_mapped (λ one other. join_same one other ≡ false) (bond_edge drawing) drawing.bonds
      (pairwise_from_pairs (λ one other. joins_same one other ≡ false) drawing.bonds simple.once))
      (hydrogens_once atoms (carriers drawing) (omega arith) carriers_below)
      (all_by IsBondEdge (λ one. AllByRecursion (λ other. join_same one other ≡ false) hydrogens)
      (λ one h. all_by (IsHydrogenEdge atoms (atoms + length (carriers drawing))) (λ other. join_same one other ≡ false)
      (λ other k.
      let a = h.a in
      let b = h.b in
      let low = k.b in
      apart one other (λ e. let same : one.b ≡ other.b = e in omega arith)
      (λ e. let same : one.a ≡ other.b = e in omega arith))
      hydrogens (hydrogens_from atoms (carriers drawing) (omega arith) carriers_below))
      (map (bond_edge drawing) drawing.bonds) bond_edges)

  pub drawn_sound : IsSound (graph_of drawing)
  unfolding graph_of
  drawn_sound = record {
    drawn = omega (arith, vertices_counted);
    edges = rw vertices_counted
        (All-from_recursion (JoinsBelow (atoms + length (carriers drawing))) (graph_of drawing).edges edges_join);
    once = pairs_from_pairwise (λ one other. join_same one other ≡ false) (graph_of drawing).edges edges_once;
  }
