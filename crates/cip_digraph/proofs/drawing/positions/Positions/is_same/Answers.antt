use Rattle.std.proofs.Common.{rules, map, sym, ap, ◌∙◌}
use Rattle.std.proofs.lemmas.Slice.Eq.{slice_eq-Decides}
use Rattle.cip_digraph.specs.rings.PositionLists.{listed}
use Rattle.cip_digraph.proofs.drawing.positions.Positions.is_same.Goals as goal

pub returns : goal.returns
returns c same =
    let is = (slice_eq-Decides (λ a b. search rules) _ _ _ c.eq.ensures).0 same in
    sym c.self.view_is ∙ ap (map listed) (sym c.as_slice.ensures.value ∙ is ∙ c.as_slice-2.ensures.value)
    ∙ c.other.view_is
