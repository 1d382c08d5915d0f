-- Records of worked molecules, up to their `M  END`, without what follows the symbols of their atom lines. Own.
use Rattle.std.specs.Prelude.{ℕ, List, [], ◌∷◌, ◌++◌, codes, flat_map}
use Rattle.cip_answer.specs.Worked.{ended}

-- a molfile by its numbers of atoms and bonds, and its atom, bond and property lines
abbrev pub molfile : List ℕ → List (List ℕ) → List ℕ
molfile numbers lines =
    ended [] ++ ended [] ++ ended [] ++ ended (numbers ++ codes "  0  0  0  0  0  0  0  0999 V2000")
    ++ flat_map ended lines ++ ended (codes "M  END")

abbrev pub glyceraldehyde : List ℕ
glyceraldehyde =
    molfile (codes "  6  5") (
    codes "    0.0000    0.0000    0.0000 C" ∷
    codes "    0.0000    1.0000    0.0000 C" ∷
    codes "    0.8660    1.5000    0.0000 O" ∷
    codes "    0.8660   -0.5000    0.0000 O" ∷
    codes "   -0.8660   -0.5000    0.0000 C" ∷
    codes "   -1.7320    0.0000    0.0000 O" ∷
    codes "  1  2  1  0" ∷ codes "  2  3  2  0" ∷ codes "  1  4  1  1" ∷ codes "  1  5  1  0" ∷
    codes "  5  6  1  0" ∷ [])

abbrev pub phenylpyridinylmethanol : List ℕ
phenylpyridinylmethanol =
    molfile (codes " 14 15") (
    codes "    0.0000    0.0000    0.0000 C" ∷
    codes "    0.0000    1.0000    0.0000 O" ∷
    codes "    0.8660   -0.5000    0.0000 C" ∷
    codes "    0.8660   -1.5000    0.0000 C" ∷
    codes "    1.7320   -2.0000    0.0000 N" ∷
    codes "    2.5980   -1.5000    0.0000 C" ∷
    codes "    2.5980   -0.5000    0.0000 C" ∷
    codes "    1.7320    0.0000    0.0000 C" ∷
    codes "   -0.8660   -0.5000    0.0000 C" ∷
    codes "   -0.8660   -1.5000    0.0000 C" ∷
    codes "   -1.7320   -2.0000    0.0000 C" ∷
    codes "   -2.5980   -1.5000    0.0000 C" ∷
    codes "   -2.5980   -0.5000    0.0000 C" ∷
    codes "   -1.7320    0.0000    0.0000 C" ∷
    codes "  1  2  1  1" ∷ codes "  1  3  1  0" ∷ codes "  1  9  1  0" ∷ codes "  3  4  2  0" ∷
    codes "  4  5  1  0" ∷ codes "  5  6  2  0" ∷ codes "  6  7  1  0" ∷ codes "  7  8  2  0" ∷
    codes "  3  8  1  0" ∷ codes "  9 10  2  0" ∷ codes " 10 11  1  0" ∷ codes " 11 12  2  0" ∷
    codes " 12 13  1  0" ∷ codes " 13 14  2  0" ∷ codes "  9 14  1  0" ∷ [])

abbrev pub isotopic_chloromethane : List ℕ
isotopic_chloromethane =
    molfile (codes "  5  4") (
    codes "    0.0000    0.0000    0.0000 C" ∷
    codes "    0.0000    1.0000    0.0000 Cl" ∷
    codes "    1.0000    0.0000    0.0000 T" ∷
    codes "    0.0000   -1.0000    0.0000 D" ∷
    codes "   -1.0000    0.0000    0.0000 H" ∷
    codes "  1  2  1  0" ∷ codes "  1  3  1  0" ∷ codes "  1  4  1  1" ∷ codes "  1  5  1  0" ∷ [])

-- with the last atom line, and the stereo field of the double bond
abbrev pub but_2_ene : List ℕ → List ℕ → List ℕ
but_2_ene last stereo =
    molfile (codes "  4  3") (
    codes "   -1.0000    0.8660    0.0000 C" ∷
    codes "   -0.5000    0.0000    0.0000 C" ∷
    codes "    0.5000    0.0000    0.0000 C" ∷
    last ∷ codes "  1  2  1  0" ∷ (codes "  2  3  2" ++ stereo) ∷ codes "  3  4  1  0" ∷ [])

abbrev pub but_2_ene_z : List ℕ
but_2_ene_z = but_2_ene (codes "    1.0000    0.8660    0.0000 C") (codes "  0")

abbrev pub but_2_ene_e : List ℕ
but_2_ene_e = but_2_ene (codes "    1.0000   -0.8660    0.0000 C") (codes "  0")

abbrev pub but_2_ene_undecided : List ℕ
but_2_ene_undecided = but_2_ene (codes "    1.0000    0.8660    0.0000 C") (codes "  3")

abbrev pub cyclooctene : List ℕ
cyclooctene =
    molfile (codes "  8  8") (
    codes "   -0.3827    0.9239    0.0000 C" ∷
    codes "    0.3827    0.9239    0.0000 C" ∷
    codes "    0.9239    0.3827    0.0000 C" ∷
    codes "    0.9239   -0.3827    0.0000 C" ∷
    codes "    0.3827   -0.9239    0.0000 C" ∷
    codes "   -0.3827   -0.9239    0.0000 C" ∷
    codes "   -0.9239   -0.3827    0.0000 C" ∷
    codes "   -0.9239    0.3827    0.0000 C" ∷
    codes "  1  2  2  0" ∷ codes "  2  3  1  0" ∷ codes "  3  4  1  0" ∷ codes "  4  5  1  0" ∷
    codes "  5  6  1  0" ∷ codes "  6  7  1  0" ∷ codes "  7  8  1  0" ∷ codes "  1  8  1  0" ∷ [])

abbrev pub cyclohexene : List ℕ
cyclohexene =
    molfile (codes "  6  6") (
    codes "   -0.3827    0.9239    0.0000 C" ∷
    codes "    0.3827    0.9239    0.0000 C" ∷
    codes "    0.9239    0.3827    0.0000 C" ∷
    codes "   -0.3827   -0.9239    0.0000 C" ∷
    codes "   -0.9239   -0.3827    0.0000 C" ∷
    codes "   -0.9239    0.3827    0.0000 C" ∷
    codes "  1  2  2  0" ∷ codes "  2  3  1  0" ∷ codes "  3  4  1  0" ∷ codes "  4  5  1  0" ∷
    codes "  5  6  1  0" ∷ codes "  1  6  1  0" ∷ [])

-- with the stereo field of the bond to the first chlorine
abbrev pub dichloropropadiene_marked : List ℕ → List ℕ
dichloropropadiene_marked stereo =
    molfile (codes "  5  4") (
    codes "   -1.0000    0.0000    0.0000 C" ∷
    codes "    0.0000    0.0000    0.0000 C" ∷
    codes "    1.0000    0.0000    0.0000 C" ∷
    codes "   -1.5000    0.8660    0.0000 Cl" ∷
    codes "    1.5000    0.8660    0.0000 Cl" ∷
    codes "  1  2  2  0" ∷ codes "  2  3  2  0" ∷ (codes "  1  4  1" ++ stereo) ∷ codes "  3  5  1  0" ∷ [])

abbrev pub dichloropropadiene : List ℕ
dichloropropadiene = dichloropropadiene_marked (codes "  1")

abbrev pub dichloropropadiene_mirrored : List ℕ
dichloropropadiene_mirrored = dichloropropadiene_marked (codes "  6")

abbrev pub trihydroxyglutaric_acid : List ℕ
trihydroxyglutaric_acid =
    molfile (codes " 12 11") (
    codes "   -1.7320    0.5000    0.0000 C" ∷
    codes "   -0.8660    0.0000    0.0000 C" ∷
    codes "    0.0000    0.5000    0.0000 C" ∷
    codes "    0.8660    0.0000    0.0000 C" ∷
    codes "    1.7320    0.5000    0.0000 C" ∷
    codes "   -0.8660   -1.0000    0.0000 O" ∷
    codes "    0.0000    1.5000    0.0000 O" ∷
    codes "    0.8660   -1.0000    0.0000 O" ∷
    codes "   -1.7320    1.5000    0.0000 O" ∷
    codes "   -2.5980    0.0000    0.0000 O" ∷
    codes "    1.7320    1.5000    0.0000 O" ∷
    codes "    2.5980    0.0000    0.0000 O" ∷
    codes "  1  2  1  0" ∷ codes "  2  3  1  0" ∷ codes "  3  4  1  0" ∷ codes "  4  5  1  0" ∷
    codes "  2  6  1  1" ∷ codes "  3  7  1  1" ∷ codes "  4  8  1  1" ∷ codes "  1  9  2  0" ∷
    codes "  1 10  1  0" ∷ codes "  5 11  2  0" ∷ codes "  5 12  1  0" ∷ [])

abbrev pub ethyl_methyl_sulfoxide : List ℕ
ethyl_methyl_sulfoxide =
    molfile (codes "  5  4") (
    codes "    0.0000    0.0000    0.0000 S" ∷
    codes "    0.0000    1.0000    0.0000 O" ∷
    codes "    0.8660   -0.5000    0.0000 C" ∷
    codes "   -0.8660   -0.5000    0.0000 C" ∷
    codes "   -1.7320    0.0000    0.0000 C" ∷
    codes "  1  2  2  0" ∷ codes "  1  3  1  1" ∷ codes "  1  4  1  0" ∷ codes "  4  5  1  0" ∷ [])

abbrev pub ethyl_methyl_sulfone : List ℕ
ethyl_methyl_sulfone =
    molfile (codes "  6  5") (
    codes "    0.0000    0.0000    0.0000 S" ∷
    codes "    0.0000    1.0000    0.0000 O" ∷
    codes "    0.8660   -0.5000    0.0000 C" ∷
    codes "   -0.8660   -0.5000    0.0000 C" ∷
    codes "   -1.7320    0.0000    0.0000 C" ∷
    codes "    1.0000    0.5000    0.0000 O" ∷
    codes "  1  2  2  0" ∷ codes "  1  3  1  1" ∷ codes "  1  4  1  0" ∷ codes "  4  5  1  0" ∷
    codes "  1  6  2  0" ∷ [])

abbrev pub heptadienol : List ℕ
heptadienol =
    molfile (codes "  8  7") (
    codes "    0.0000    0.0000    0.0000 C" ∷
    codes "    0.0000    1.0000    0.0000 O" ∷
    codes "   -0.8660   -0.5000    0.0000 C" ∷
    codes "   -1.7320    0.0000    0.0000 C" ∷
    codes "   -1.7320    1.0000    0.0000 C" ∷
    codes "    0.8660   -0.5000    0.0000 C" ∷
    codes "    1.7320    0.0000    0.0000 C" ∷
    codes "    2.5980   -0.5000    0.0000 C" ∷
    codes "  1  2  1  1" ∷ codes "  1  3  1  0" ∷ codes "  3  4  2  0" ∷ codes "  4  5  1  0" ∷
    codes "  1  6  1  0" ∷ codes "  6  7  2  0" ∷ codes "  7  8  1  0" ∷ [])

abbrev pub tetrachloroheptanol : List ℕ
tetrachloroheptanol =
    molfile (codes " 12 11") (
    codes "    0.0000    0.0000    0.0000 C" ∷
    codes "    0.0000    1.0000    0.0000 O" ∷
    codes "   -0.8660   -0.5000    0.0000 C" ∷
    codes "   -0.8660   -1.5000    0.0000 Cl" ∷
    codes "   -1.7320    0.0000    0.0000 C" ∷
    codes "   -1.7320    1.0000    0.0000 Cl" ∷
    codes "   -2.5980   -0.5000    0.0000 C" ∷
    codes "    0.8660   -0.5000    0.0000 C" ∷
    codes "    0.8660   -1.5000    0.0000 Cl" ∷
    codes "    1.7320    0.0000    0.0000 C" ∷
    codes "    1.7320    1.0000    0.0000 Cl" ∷
    codes "    2.5980   -0.5000    0.0000 C" ∷
    codes "  1  2  1  1" ∷ codes "  1  3  1  0" ∷ codes "  3  4  1  1" ∷ codes "  3  5  1  0" ∷
    codes "  5  6  1  1" ∷ codes "  5  7  1  0" ∷ codes "  1  8  1  0" ∷ codes "  8  9  1  6" ∷
    codes "  8 10  1  0" ∷ codes " 10 11  1  1" ∷ codes " 10 12  1  0" ∷ [])

abbrev pub ammonium : List ℕ
ammonium =
    molfile (codes "  7  6") (
    codes "    0.0000    0.0000    0.0000 N" ∷
    codes "    0.0000    1.0000    0.0000 C" ∷
    codes "    0.8660   -0.5000    0.0000 C" ∷
    codes "    1.7320    0.0000    0.0000 C" ∷
    codes "   -0.8660   -0.5000    0.0000 C" ∷
    codes "   -1.7320    0.0000    0.0000 C" ∷
    codes "   -2.5980   -0.5000    0.0000 C" ∷
    codes "  1  2  1  1" ∷ codes "  1  3  1  0" ∷ codes "  3  4  1  0" ∷ codes "  1  5  1  0" ∷
    codes "  5  6  1  0" ∷ codes "  6  7  1  0" ∷ codes "M  CHG  1   1   1" ∷ [])

abbrev pub oxirane_carbaldehyde_anion : List ℕ
oxirane_carbaldehyde_anion =
    molfile (codes "  6  6") (
    codes "    0.0000    0.0000    0.0000 C" ∷
    codes "    0.5000    0.8660    0.0000 O" ∷
    codes "   -0.5000    0.8660    0.0000 C" ∷
    codes "   -1.3660    1.3660    0.0000 O" ∷
    codes "    0.0000   -1.0000    0.0000 C" ∷
    codes "    0.8660   -1.5000    0.0000 O" ∷
    codes "  1  2  1  0" ∷ codes "  1  3  1  0" ∷ codes "  2  3  1  0" ∷ codes "  3  4  1  0" ∷
    codes "  1  5  1  1" ∷ codes "  5  6  2  0" ∷ codes "M  CHG  1   4  -1" ∷ [])

-- 1,5-dichloro-2,4-bis(chlorofluoromethyl)-1,3,5-trifluoropentane with the stereo field of the last group on the right;
-- the groups on the left are R and S
abbrev pub pentane : List ℕ → List ℕ
pentane stereo =
    molfile (codes " 16 15") (
    codes "    0.0000    0.0000    0.0000 C" ∷
    codes "    0.0000    1.0000    0.0000 F" ∷
    codes "   -0.8660   -0.5000    0.0000 C" ∷
    codes "   -1.7320    0.0000    0.0000 C" ∷
    codes "   -1.7320    1.0000    0.0000 F" ∷
    codes "   -2.5980   -0.5000    0.0000 Cl" ∷
    codes "   -0.8660   -1.5000    0.0000 C" ∷
    codes "   -1.3660   -2.3660    0.0000 F" ∷
    codes "   -0.3660   -2.3660    0.0000 Cl" ∷
    codes "    0.8660   -0.5000    0.0000 C" ∷
    codes "    0.8660   -1.5000    0.0000 C" ∷
    codes "    0.3660   -2.3660    0.0000 F" ∷
    codes "    1.3660   -2.3660    0.0000 Cl" ∷
    codes "    1.7320    0.0000    0.0000 C" ∷
    codes "    2.5980   -0.5000    0.0000 F" ∷
    codes "    1.7320    1.0000    0.0000 Cl" ∷
    codes "  1  2  1  6" ∷ codes "  1  3  1  0" ∷ codes "  1 10  1  0" ∷ codes "  3  4  1  6" ∷
    codes "  3  7  1  0" ∷ codes "  4  5  1  1" ∷ codes "  4  6  1  0" ∷ codes "  7  8  1  6" ∷
    codes "  7  9  1  0" ∷ codes " 10 11  1  1" ∷ codes " 10 14  1  0" ∷ codes " 11 12  1  1" ∷
    codes " 11 13  1  0" ∷ (codes " 14 15  1" ++ stereo) ∷ codes " 14 16  1  0" ∷ [])

-- the groups on the right are both R
abbrev pub pentane_with_one_like_branch : List ℕ
pentane_with_one_like_branch = pentane (codes "  1")

-- they are R and S
abbrev pub pentane_with_unlike_branches : List ℕ
pentane_with_unlike_branches = pentane (codes "  6")

-- two pairs of groups that are R and S, with the stereo fields of bonds that come out of the plane and go behind it
abbrev pub two_pairs_marked : List ℕ → List ℕ → List ℕ
two_pairs_marked front behind =
    molfile (codes " 13 12") (
    codes "    0.0000    0.0000    0.0000 C" ∷
    codes "    0.0000    1.0000    0.0000 C" ∷
    codes "    1.0000    0.0000    0.0000 C" ∷
    codes "    0.0000   -1.0000    0.0000 C" ∷
    codes "   -1.0000    0.0000    0.0000 C" ∷
    codes "    0.8660    1.5000    0.0000 Br" ∷
    codes "   -0.8660    1.5000    0.0000 F" ∷
    codes "    1.5000   -0.8660    0.0000 Br" ∷
    codes "    1.5000    0.8660    0.0000 F" ∷
    codes "   -0.8660   -1.5000    0.0000 Cl" ∷
    codes "    0.8660   -1.5000    0.0000 F" ∷
    codes "   -1.5000    0.8660    0.0000 Cl" ∷
    codes "   -1.5000   -0.8660    0.0000 F" ∷
    (codes "  1  2  1" ++ front) ∷ codes "  1  3  1  0" ∷ codes "  1  4  1  0" ∷ codes "  1  5  1  0" ∷
    (codes "  2  6  1" ++ behind) ∷ codes "  2  7  1  0" ∷ (codes "  3  8  1" ++ front) ∷
    codes "  3  9  1  0" ∷ (codes "  4 10  1" ++ behind) ∷ codes "  4 11  1  0" ∷
    (codes "  5 12  1" ++ front) ∷ codes "  5 13  1  0" ∷ [])

abbrev pub two_pairs : List ℕ
two_pairs = two_pairs_marked (codes "  1") (codes "  6")

abbrev pub two_pairs_mirrored : List ℕ
two_pairs_mirrored = two_pairs_marked (codes "  6") (codes "  1")

abbrev pub menthol : List ℕ
menthol =
    molfile (codes " 11 11") (
    codes "    0.0000    1.0000    0.0000 C" ∷
    codes "    0.8660    0.5000    0.0000 C" ∷
    codes "    0.8660   -0.5000    0.0000 C" ∷
    codes "    0.0000   -1.0000    0.0000 C" ∷
    codes "   -0.8660   -0.5000    0.0000 C" ∷
    codes "   -0.8660    0.5000    0.0000 C" ∷
    codes "    0.0000    2.0000    0.0000 O" ∷
    codes "    1.7320    1.0000    0.0000 C" ∷
    codes "    1.7320    2.0000    0.0000 C" ∷
    codes "    2.5980    0.5000    0.0000 C" ∷
    codes "   -1.7320   -1.0000    0.0000 C" ∷
    codes "  1  2  1  0" ∷ codes "  2  3  1  0" ∷ codes "  3  4  1  0" ∷ codes "  4  5  1  0" ∷
    codes "  5  6  1  0" ∷ codes "  1  6  1  0" ∷ codes "  1  7  1  1" ∷ codes "  2  8  1  6" ∷
    codes "  8  9  1  0" ∷ codes "  8 10  1  0" ∷ codes "  5 11  1  1" ∷ [])
