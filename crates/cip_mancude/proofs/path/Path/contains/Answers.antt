use Rattle.std.proofs.Common.{◌==◌, ◌∙◌, reverse}
use Rattle.std.proofs.lemmas.List.Sorted.{list_any-IsPermutation, IsPermutation-reverse}
use Rattle.cip_mancude.proofs.path.Path.contains.Goals as goal

pub returns : goal.returns
returns c =
    rw (← c.self.view_is)
    (rw c.as_slice.ensures at c.contains.ensures.value
    ∙ list_any-IsPermutation (λ atom. atom == c.args.atom) c.self.inside.atoms.items
    (reverse c.self.inside.atoms.items) (IsPermutation-reverse c.self.inside.atoms.items))
