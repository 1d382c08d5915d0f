-- Made records: chains of carbon atoms in a zigzag, with a substituent at some inner atoms. Own; the words are those of
-- a generator of the PCG family.
use Rattle.std.specs.Prelude.{ℕ, zero, suc, ℤ, pos, negsuc, Bool, List, [], ◌∷◌, ◌++◌, ◌+◌, ◌-◌, ◌*◌, ◌%◌, ◌==◌, codes, decimal, length, if◌then◌else◌}
use Rattle.rand_core.specs.Steps.{first_words}
use Rattle.rand_pcg.specs.Lcg.{Lcg, started, increment_of}
use Rattle.rand_pcg.specs.Pcg.{multiplier_64, pcg32}
use Rattle.cip_make.specs.declared.chain.Branch.{Branch}
use Rattle.cip_make.specs.declared.chain.Element.TheVariants.{Carbon}
use Rattle.cip_make.specs.declared.chain.Stereo.TheVariants.{Plain}
use Rattle.cip_make.specs.Chains.{branches}
use Rattle.cip_make.specs.Lines.{counts_line, atom_line, bond_line}

-- where a chain atom is from left to right, in ten-thousandths of an ångström
unfoldable pub across : ℕ → ℤ
across atom = pos (8660 * atom)

abbrev pub is_upper : ℕ → Bool
is_upper atom = atom % 2 == 0

-- the chain

abbrev pub chain_height : ℕ → ℤ
chain_height atom = if is_upper atom then pos 5000 else pos 0

unfoldable pub chain_atom : ℕ → List ℕ
chain_atom atom = atom_line (across atom) (chain_height atom) Carbon

abbrev pub chain_atoms : ℕ → List ℕ
chain_atoms zero = []
chain_atoms (suc before) = chain_atoms before ++ chain_atom (before + 1)

-- n bonds of the chain, from its first atom on
abbrev pub chain_bonds : ℕ → List ℕ
chain_bonds zero = []
chain_bonds (suc before) = chain_bonds before ++ bond_line (before + 1) (before + 2) Plain

-- what is on it

abbrev pub branch_height : ℕ → ℤ
branch_height at = if is_upper at then pos 15000 else negsuc 9999

unfoldable pub branch_atom : Branch → List ℕ
branch_atom branch = atom_line (across branch.at) (branch_height branch.at) branch.element

abbrev pub branch_atoms : List Branch → List ℕ
branch_atoms [] = []
branch_atoms (branch ∷ branches) = branch_atom branch ++ branch_atoms branches

-- the bonds to substituents that are numbered from an atom on
abbrev pub branch_bonds : ℕ → List Branch → List ℕ
branch_bonds number [] = []
branch_bonds number (branch ∷ branches) =
    bond_line branch.at number branch.stereo ++ branch_bonds (number + 1) branches

-- the record

abbrev pub name_lines : ℕ → ℕ → List ℕ
name_lines start number = codes "make " ++ (decimal start ++ (codes " " ++ (decimal number ++ codes "\n\n\n")))

abbrev pub record_text : List ℕ → ℕ → List Branch → List ℕ
record_text name chain branches =
    name ++ counts_line (chain + length branches) (chain + length branches - 1)
    ++ chain_atoms chain ++ branch_atoms branches
    ++ chain_bonds (chain - 1) ++ branch_bonds (chain + 1) branches ++ codes "M  END\n$$$$\n"

-- the generator of a record: each number in a series has a stream of its own
abbrev pub generator : ℕ → ℕ → Lcg
generator start number = started 64 multiplier_64 start (increment_of 64 number)

-- a first word says how long the chain is, and one more of each inner atom what it carries
abbrev pub record_of : List ℕ → ℕ → Lcg → List ℕ
record_of name chain generator = record_text name chain (branches 2 (first_words pcg32 (chain - 2) generator))

abbrev pub chain_length : ℕ → ℕ
chain_length word = 4 + word % 17

-- the made record of this number from 1, in the series that starts at a number
unfoldable pub made : ℕ → ℕ → List ℕ
made start number =
    record_of (name_lines start number) (chain_length (pcg32 (generator start number)).0)
    (pcg32 (generator start number)).1
