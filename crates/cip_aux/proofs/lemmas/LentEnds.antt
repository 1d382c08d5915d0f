-- The ends of a site are joined as they are lent.
use Rattle.std.proofs.Common.{◌≡◌, ℕ, [], ◌∷◌, ◌∙◌, ap, subst, sym, None, Some}
use Rattle.std.specs.Prelude.{option_to_list, unwrap_or}
use Rattle.std.specs.declared.option.Option.{Option}
use Rattle.cip_mol.specs.Ends.{as_site, between_in, between_of}
use Rattle.cip_mol.specs.declared.ends.Ends.{Ends}
use Rattle.cip_mol.specs.declared.ends.Ends.TheVariants.{One, Two}
use Rattle.cip_mol.specs.declared.ends.Shape.TheVariants.{Flat, Crossed}
use Rattle.cip_mol.specs.declared.site.Site.{Site}
use Rattle.cip_digraph.specs.graph.Graph.{Graph}
use Rattle.cip_aux.specs.Joining.{AreJoined, EndsJoin, Joins}

abbrev BothJoin : Graph → ℕ → ℕ → Option ℕ → Type 0
BothJoin graph a b between = Joins graph a between b × Joins graph b between a

flat_joined : (graph : Graph) (a b : ℕ) (between : Option ℕ) → option_to_list between ≡ [] → BothJoin graph a b None
    → BothJoin graph a b between
flat_joined graph a b None e j = j
flat_joined graph a b (Some middle) e j = let bad : middle ∷ [] ≡ [] = e in cc

crossed_joined : (graph : Graph) (a b : ℕ) (between : Option ℕ) → option_to_list between ≡ unwrap_or between a ∷ []
    → BothJoin graph a b (Some (unwrap_or between a)) → BothJoin graph a b between
crossed_joined graph a b None e j = let bad : a ∷ [] ≡ [] = sym e in cc
crossed_joined graph a b (Some middle) e j = j

pub lent_joined : (graph : Graph) (ends : Ends) (site : Site) → as_site ends ≡ site → between_in ends ≡ between_of site
    → EndsJoin graph site → AreJoined graph ends
lent_joined graph ends site e between j =
    by ends (between ∙ ap between_of (sym e)) (subst (EndsJoin graph) (sym e) j)
  where
    by : (ends : Ends) → between_in ends ≡ between_of (as_site ends) → EndsJoin graph (as_site ends)
        → AreJoined graph ends
    by (One end) f j = tt
    by (Two Flat two) f j = flat_joined graph two.nearer.at two.far.at two.between f j
    by (Two Crossed two) f j = crossed_joined graph two.nearer.at two.far.at two.between f j
