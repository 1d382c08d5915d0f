-- What words of a generator put on a chain of carbon atoms. Own.
use Rattle.std.specs.Prelude.{ℕ, List, [], ◌∷◌, ◌+◌, ◌/◌, ◌%◌, ◌==◌, Some, None, if◌then◌else◌}
use Rattle.std.specs.declared.option.Option.{Option}
use Rattle.std.specs.Option.{option_map}
use Rattle.cip_make.specs.declared.chain.Branch.{Branch}
use Rattle.cip_make.specs.declared.chain.Element.{Element}
use Rattle.cip_make.specs.declared.chain.Element.TheVariants.{Oxygen, Nitrogen, Chlorine, Bromine, Fluorine}
use Rattle.cip_make.specs.declared.chain.Stereo.{Stereo}
use Rattle.cip_make.specs.declared.chain.Stereo.TheVariants.{Plain, Up, Down}

abbrev pub element_of : ℕ → Option Element
element_of kind =
    if kind == 1 then Some Oxygen
    else if kind == 2 then Some Nitrogen
    else if kind == 3 then Some Chlorine
    else if kind == 4 then Some Bromine
    else if kind == 5 then Some Fluorine
    else None

abbrev pub stereo_of : ℕ → Stereo
stereo_of mark = if mark == 1 then Up else if mark == 2 then Down else Plain

-- what a word puts on a chain atom
abbrev pub branch_of : ℕ → ℕ → Option Branch
branch_of at word =
    option_map (λ element. record { at = at; element = element; stereo = stereo_of (word / 6 % 3) })
    (element_of (word % 6))

abbrev pub with_branch : Option Branch → List Branch → List Branch
with_branch None branches = branches
with_branch (Some branch) branches = branch ∷ branches

-- what words put on the chain atoms from one on, a word for each
abbrev pub branches : ℕ → List ℕ → List Branch
branches at [] = []
branches at (word ∷ words) = with_branch (branch_of at word) (branches (at + 1) words)
