-- Branches as lists that give them back. Own.
use Rattle.std.specs.Prelude.{◌≡◌, ℕ, List, [], ◌∷◌, None, Some, refl}
use Rattle.std.specs.declared.option.Option.{Option}
use Rattle.std.specs.Coded.{Coded, code_by, coded×, coded_ℕ, coded_list, coded_option}
use Rattle.std.proofs.Common.{ap, ◌∙◌}
use Rattle.cip_tree.specs.Branches.{Label, Branches, none, more, Branch}
use Rattle.cip_tree.specs.FlatTree.{Placed}

-- a label for each branch, with what is below it and then what is after it, and nothing where branches end
abbrev pub written : Branches → List (Option Label) → List (Option Label)
written none rest = None ∷ rest
written (more label below others) rest = Some label ∷ written below (written others rest)

abbrev pub joined : Label → List Branches → List Branches
joined label [] = []
joined label (below ∷ []) = []
joined label (below ∷ others ∷ rest) = more label below others ∷ rest

abbrev pub read : List (Option Label) → List Branches
read [] = []
read (None ∷ others) = none ∷ read others
read (Some label ∷ others) = joined label (read others)

abbrev pub first : List Branches → Branches
first [] = none
first (branches ∷ others) = branches

pub read_written : (branches : Branches) (rest : List (Option Label)) → read (written branches rest) ≡ branches ∷ read rest
read_written none rest = refl
read_written (more label below others) rest =
    ap (joined label) (read_written below (written others rest) ∙ ap (λ bs. below ∷ bs) (read_written others rest))

abbrev pub branch_code : Coded Label → Coded Branch
branch_code label_code =
    code_by (Label × List (Option Label)) (coded× label_code (coded_list (coded_option label_code)))
    (λ branch. (branch.label, written branch.below []))
    (λ both. record { label = both.0; below = first (read both.1) })
    (λ branch. ap (λ bs. record { label = branch.label; below = first bs }) (read_written branch.below []))

abbrev pub placed_code : Coded Label → Coded Placed
placed_code label_code =
    code_by (ℕ × Branch) (coded× coded_ℕ (branch_code label_code)) (λ node. (node.parent, node.branch))
    (λ pair. record { parent = pair.0; branch = pair.1 }) (λ _. refl)
