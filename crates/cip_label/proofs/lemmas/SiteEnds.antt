-- The ends of a site as they are lent, and that they are fit.
use Rattle.std.proofs.Common.{◌≡◌, ◌≤◌, ◌+◌, ◌∷◌, ◌++◌, ◌∙◌, [], List, ap, arith, length, subst, flat_map, All}
use Rattle.std.proofs.Common.{append-nil, length-append}
use Rattle.std.proofs.lemmas.List.Elements.{All-head, All-tail}
use Rattle.cip_mol.specs.Ends.{as_site}
use Rattle.cip_mol.specs.declared.ends.End as lent
use Rattle.cip_mol.specs.declared.ends.TwoEnds.{TwoEnds}
use Rattle.cip_mol.specs.declared.ends.Shape.{Shape}
use Rattle.cip_mol.specs.declared.ends.Ends.{Ends}
use Rattle.cip_mol.specs.declared.ends.Ends.TheVariants.{One, Two}
use Rattle.cip_mol.specs.declared.site.Site.{Site}
use Rattle.cip_digraph.specs.units.Ends.{End, ends_of}
use Rattle.cip_digraph.specs.LentEnds.{as_end, ends_in}
use Rattle.cip_digraph.proofs.lemmas.LentEnds.{ends_are}
use Rattle.cip_digraph.specs.graph.Graph.{Graph}
use Rattle.cip_label.specs.Fitting.{IsFit, IsFitSite}

pub one_end : (ends : Ends) (end : lent.End) → ends ≡ One end → ends_of (as_site ends) ≡ as_end end ∷ []
one_end ends end is = ends_are ends ∙ ap ends_in is

pub two_ends : (ends : Ends) (shape : Shape) (two : TwoEnds) → ends ≡ Two shape two
    → ends_of (as_site ends) ≡ as_end two.nearer ∷ as_end two.far ∷ []
two_ends ends shape two is = ends_are ends ∙ ap ends_in is

module _ (graph : Graph) (site : Site) (fit : IsFitSite graph site) where
  abbrev Fit : End → Type 0
  Fit end = IsFit graph end.at end.ligands

  pub first_fit : (one : End) (others : List End) → ends_of site ≡ one ∷ others → IsFit graph one.at one.ligands
  first_fit one others e = All-head Fit one others (subst (All Fit) e fit.ends)

  pub second_fit : (one other : End) (others : List End) → ends_of site ≡ one ∷ other ∷ others →
      IsFit graph other.at other.ligands
  second_fit one other others e = All-head Fit other others
      (All-tail Fit one (other ∷ others) (subst (All Fit) e fit.ends))

  pub few_together : (one other : End) → ends_of site ≡ one ∷ other ∷ [] → length one.ligands + length other.ligands ≤ 4
  few_together one other e =
      let counted : length (one.ligands ++ (other.ligands ++ [])) ≡ length one.ligands + length other.ligands =
      length-append one.ligands (other.ligands ++ [])
      ∙ ap (λ ls. length one.ligands + length ls) (append-nil other.ligands) in
      let few : length (one.ligands ++ (other.ligands ++ [])) ≤ 4 =
      subst (λ ends. length (flat_map (λ end. end.ligands) ends) ≤ 4) e fit.four in
      omega (arith, counted, few)
