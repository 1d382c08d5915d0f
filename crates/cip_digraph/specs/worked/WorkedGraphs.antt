-- Graphs and units of small molecules, found by hand. Own.
use Rattle.std.specs.Prelude.{◌≡◌, pos, true, false, List, [], ◌∷◌, length}
use Rattle.cip_mol.specs.Drawing.{Drawing}
use Rattle.cip_mol.specs.declared.site.Ligand.TheVariants.{Vertex, LonePair}
use Rattle.cip_mol.specs.declared.site.Site.{Site}
use Rattle.cip_mol.specs.declared.site.Site.TheVariants.{Centre, Bond, Axis}
use Rattle.cip_digraph.specs.graph.DrawnGraph.{graph_of}
use Rattle.cip_digraph.specs.graph.Hydrogens.{hydrogens}
use Rattle.cip_digraph.specs.graph.LonePairs.{lone_pair_of}
use Rattle.cip_digraph.specs.graph.Neglected.{is_counted}
use Rattle.cip_digraph.specs.rings.Positions.{positions_of}
use Rattle.cip_digraph.specs.units.Units.{sites_of}
use Rattle.cip_digraph.specs.worked.Molecules.{carbon, nitrogen, sulfur, double, glyceraldehyde, phenyl_pyridinyl_methanol, heptadienol, ethyl_methyl_sulfone, ethyl_methyl_sulfoxide, dichloropropadiene, cyclohexene, cyclooctene, ethyl_methyl_propyl_amine}

abbrev pub sites : Drawing → List Site
sites drawing = sites_of (graph_of drawing) (positions_of (graph_of drawing))

pub record AreDrawn : Type 0 where
  -- hydrogens fill the least valence that is enough, and a radical takes some of it
  pub carbon_fills : hydrogens carbon 1 ≡ 3
  pub radical_takes : hydrogens (record carbon { radical = 2 }) 1 ≡ 2
  pub mark_states : hydrogens (record carbon { valence_mark = 3 }) 1 ≡ 2
  pub mark_says_none : hydrogens (record carbon { valence_mark = 15 }) 1 ≡ 0
  pub next_valence_serves : hydrogens nitrogen 4 ≡ 1
  pub none_serves : hydrogens nitrogen 6 ≡ 0
  pub sulfur_fills : hydrogens sulfur 3 ≡ 1
  pub glyceraldehyde_vertices : length (graph_of glyceraldehyde).vertices ≡ 12
  -- the sulfur of a sulfoxide has a lone pair, that of a sulfone has none; at both bonds to oxygen are neglected
  pub sulfoxide_has_a_lone_pair : lone_pair_of ethyl_methyl_sulfoxide 0 ≡ true
  pub sulfone_has_none : lone_pair_of ethyl_methyl_sulfone 0 ≡ false
  pub sulfoxide_neglects : is_counted ethyl_methyl_sulfoxide (double 0 1) ≡ false
  pub sulfone_neglects : is_counted ethyl_methyl_sulfone (double 0 1) ≡ false
  pub aldehyde_counts : is_counted glyceraldehyde (double 1 2) ≡ true

pub record HaveUnits : Type 0 where
  pub glyceraldehyde : sites glyceraldehyde ≡ Centre 0 (Vertex 1 ∷ Vertex 3 ∷ Vertex 4 ∷ Vertex 6 ∷ []) ∷ []
  pub sulfoxide : sites ethyl_methyl_sulfoxide ≡ Centre 0 (Vertex 1 ∷ Vertex 2 ∷ Vertex 3 ∷ LonePair ∷ []) ∷ []
  pub sulfone : sites ethyl_methyl_sulfone ≡ Centre 0 (Vertex 1 ∷ Vertex 2 ∷ Vertex 3 ∷ Vertex 5 ∷ []) ∷ []
  pub ammonium : sites (ethyl_methyl_propyl_amine (pos 1))
      ≡ Centre 0 (Vertex 1 ∷ Vertex 2 ∷ Vertex 4 ∷ Vertex 7 ∷ []) ∷ []
  pub amine : sites (ethyl_methyl_propyl_amine (pos 0)) ≡ []
  -- centres before bonds
  pub heptadienol : sites heptadienol
      ≡ Centre 0 (Vertex 1 ∷ Vertex 2 ∷ Vertex 5 ∷ Vertex 8 ∷ [])
      ∷ Bond 2 3 (Vertex 0 ∷ Vertex 10 ∷ []) (Vertex 4 ∷ Vertex 11 ∷ [])
      ∷ Bond 5 6 (Vertex 0 ∷ Vertex 15 ∷ []) (Vertex 7 ∷ Vertex 16 ∷ []) ∷ []
  pub allene : sites dichloropropadiene ≡ Axis 0 1 2 (Vertex 3 ∷ Vertex 5 ∷ []) (Vertex 4 ∷ Vertex 6 ∷ []) ∷ []
  -- bonds of small and of alternating rings are none
  pub cyclohexene : sites cyclohexene ≡ []
  pub cyclooctene : sites cyclooctene ≡ Bond 0 1 (Vertex 7 ∷ Vertex 8 ∷ []) (Vertex 2 ∷ Vertex 9 ∷ []) ∷ []
  pub arenes : sites phenyl_pyridinyl_methanol ≡ Centre 0 (Vertex 1 ∷ Vertex 2 ∷ Vertex 8 ∷ Vertex 14 ∷ []) ∷ []
