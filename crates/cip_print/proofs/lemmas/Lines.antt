-- Lines of units, one after the other.
use Rattle.std.proofs.Common.{◌≡◌, ◌+◌, ◌++◌, ◌∷◌, [], List, ℕ, Some, ap, sym, ◌∙◌, drop, append_assoc, slice_get}
use Rattle.std.proofs.lemmas.List.Elements.{filter_map-append}
use Rattle.std.specs.List.{filter_map}
use Rattle.cip_mol.proofs.lemmas.Rests.{rest_at}
use Rattle.cip_print.specs.declared.answer.UnitAnswer.{UnitAnswer}
use Rattle.cip_print.specs.Values.{unit_line}

pub one_more : (units : List UnitAnswer) (place : ℕ) (unit : UnitAnswer) (before now all : List (List ℕ)) →
    slice_get units place ≡ Some unit → now ≡ before ++ filter_map unit_line (unit ∷ []) →
    before ++ filter_map unit_line (drop place units) ≡ all → now ++ filter_map unit_line (drop (place + 1) units) ≡ all
one_more units place unit before now all at added so_far =
    ap (λ lines. lines ++ filter_map unit_line (drop (place + 1) units)) added
    ∙ append_assoc before (filter_map unit_line (unit ∷ [])) (filter_map unit_line (drop (place + 1) units))
    ∙ ap (λ lines. before ++ lines) (sym (filter_map-append unit_line (unit ∷ []) (drop (place + 1) units)))
    ∙ ap (λ rest. before ++ filter_map unit_line rest) (sym (rest_at units place unit at))
    ∙ so_far
