-- How long made records are.
use Rattle.std.proofs.Common.{◌≡◌, ◌≤◌, ◌<◌, ◌+◌, ◌-◌, ◌*◌, ◌/◌, ◌%◌, ◌^◌, ℕ, ℤ, zero, suc, pos, negsuc, Bool, true, false, List, [], ◌∷◌, ◌++◌, Some, None, codes, length, replicate, refl, ap, sym, ◌∙◌, subst, arith}
use Rattle.std.specs.Prelude.{decimal, unsigned_abs, IfSome, if◌then◌else◌}
use Rattle.std.specs.declared.option.Option.{Option}
use Rattle.std.specs.Int.{is_negative}
use Rattle.std.specs.Option.{option_map}
use Rattle.std.proofs.lemmas.Fmt.{length-decimal-le}
use Rattle.std.proofs.lemmas.List.{length-append, length-replicate}
use Rattle.rand_core.specs.Steps.{first_words}
use Rattle.rand_pcg.specs.Lcg.{Lcg}
use Rattle.rand_pcg.specs.Pcg.{pcg32}
use Rattle.cip_make.specs.declared.chain.Branch.{Branch}
use Rattle.cip_make.specs.declared.chain.Element.{Element}
use Rattle.cip_make.specs.declared.chain.Element.TheVariants.{Carbon, Oxygen, Nitrogen, Chlorine, Bromine, Fluorine}
use Rattle.cip_make.specs.declared.chain.Stereo.{Stereo}
use Rattle.cip_make.specs.declared.chain.Stereo.TheVariants.{Plain, Up, Down}
use Rattle.cip_make.specs.Chains.{branch_of, branches, element_of, stereo_of, with_branch}
use Rattle.cip_text.specs.Writing.{right, coordinate, four_digits}
use Rattle.cip_make.specs.Lines.{number_field, symbol, stereo_number, counts_line, atom_line, bond_line}
use Rattle.cip_make.specs.Made.{across, is_upper, chain_height, branch_height, chain_atom, chain_atoms, branch_atom, branch_atoms, chain_bonds, branch_bonds, name_lines, record_text, made, generator, chain_length}
use Rattle.cip_make.proofs.lemmas.Words.{first_word, no_word}

-- columns

right_short : (width most : ℕ) (text : List ℕ) → length text ≤ most → length (right width text) ≤ width + most
unfolding right
right_short width most text few =
    omega (arith, length-append (replicate (width - length text) 32) text, length-replicate {A = ℕ} (width - length text) 32, few)

number_short : (n : ℕ) → n < 2 ^ 64 → length (decimal n) ≤ 20
number_short n few = length-decimal-le 20 n (omega arith) (omega (arith, few)) few

field_short : (n : ℕ) → n < 2 ^ 64 → length (number_field n) ≤ 23
field_short n few = right_short 3 20 (decimal n) (number_short n few)

four_short : (a b c d : List ℕ) → length a ≤ 20 → length b ≤ 20 → length c ≤ 20 → length d ≤ 20
    → length (a ++ (b ++ (c ++ d))) ≤ 80
four_short a b c d p q r s =
    omega (arith, length-append a (b ++ (c ++ d)), length-append b (c ++ d), length-append c d, p, q, r, s)

digits_short : (size : ℕ) → length (four_digits size) ≤ 80
digits_short size =
    four_short (decimal (size / 1000 % 10)) (decimal (size / 100 % 10)) (decimal (size / 10 % 10)) (decimal (size % 10))
    (number_short (size / 1000 % 10) (omega arith)) (number_short (size / 100 % 10) (omega arith))
    (number_short (size / 10 % 10) (omega arith)) (number_short (size % 10) (omega arith))

sign_short : (negative : Bool) → length (if negative then codes "-" else []) ≤ 1
sign_short true = omega arith
sign_short false = omega arith

coordinate_short : (z : ℤ) → unsigned_abs z < 2 ^ 64 → length (coordinate z) ≤ 102
unfolding coordinate
coordinate_short z few =
    let sign = if is_negative z then codes "-" else [] in
    let whole = decimal (unsigned_abs z / 10000) in
    let rest = four_digits (unsigned_abs z) in
    omega (
      arith,
      length-append sign (whole ++ (codes "." ++ rest)),
      length-append whole (codes "." ++ rest),
      length-append (codes ".") rest,
      sign_short (is_negative z),
      number_short (unsigned_abs z / 10000) (omega (arith, few)),
      digits_short (unsigned_abs z),
    )

-- lines

five_short : (a b c d e : List ℕ) → length a ≤ 112 → length b ≤ 112 → length c ≤ 112 → length d ≤ 23 → length e ≤ 37
    → length (a ++ b ++ c ++ d ++ e) ≤ 400
five_short a b c d e p q r s t =
    omega (
      arith,
      length-append (a ++ b ++ c ++ d) e,
      length-append (a ++ b ++ c) d,
      length-append (a ++ b) c,
      length-append a b,
      p,
      q,
      r,
      s,
      t,
    )

symbol_short : (element : Element) → length (symbol element) ≤ 23
symbol_short Carbon = omega arith
symbol_short Oxygen = omega arith
symbol_short Nitrogen = omega arith
symbol_short Chlorine = omega arith
symbol_short Bromine = omega arith
symbol_short Fluorine = omega arith

atom_line_short : (x y : ℤ) (element : Element) → unsigned_abs x < 2 ^ 64 → unsigned_abs y < 2 ^ 64
    → length (atom_line x y element) ≤ 400
unfolding atom_line
atom_line_short x y element p q =
    five_short (right 10 (coordinate x)) (right 10 (coordinate y)) (right 10 (coordinate (pos 0))) (symbol element)
    (codes " 0  0  0  0  0  0  0  0  0  0  0  0\n")
    (right_short 10 102 (coordinate x) (coordinate_short x p)) (right_short 10 102 (coordinate y) (coordinate_short y q))
    (right_short 10 102 (coordinate (pos 0)) (coordinate_short (pos 0) (omega arith))) (symbol_short element) (omega arith)

stereo_short : (stereo : Stereo) → length (number_field (stereo_number stereo)) ≤ 23
stereo_short Plain = field_short 0 (omega arith)
stereo_short Up = field_short 1 (omega arith)
stereo_short Down = field_short 6 (omega arith)

bond_line_short : (first second : ℕ) (stereo : Stereo) → first < 2 ^ 64 → second < 2 ^ 64
    → length (bond_line first second stereo) ≤ 400
unfolding bond_line
bond_line_short first second stereo p q =
    let a = number_field first in
    let b = number_field second in
    let c = number_field 1 in
    let d = number_field (stereo_number stereo) in
    omega (
      arith,
      length-append (a ++ b ++ c ++ d) (10 ∷ []),
      length-append (a ++ b ++ c) d,
      length-append (a ++ b) c,
      length-append a b,
      field_short first p,
      field_short second q,
      field_short 1 (omega arith),
      stereo_short stereo,
    )

-- the chain

across_small : (atom : ℕ) → atom < 2 ^ 32 → unsigned_abs (across atom) < 2 ^ 64
unfolding across
across_small atom few = omega (arith, few)

chain_height_small : (upper : Bool) → unsigned_abs (if upper then pos 5000 else pos 0) < 2 ^ 64
chain_height_small true = omega arith
chain_height_small false = omega arith

branch_height_small : (upper : Bool) → unsigned_abs (if upper then pos 15000 else negsuc 9999) < 2 ^ 64
branch_height_small true = omega arith
branch_height_small false = omega arith

chain_atom_short : (atom : ℕ) → atom < 2 ^ 32 → length (chain_atom atom) ≤ 400
unfolding chain_atom
chain_atom_short atom few =
    atom_line_short (across atom) (chain_height atom) Carbon (across_small atom few) (chain_height_small (is_upper atom))

chain_atoms_short : (atoms : ℕ) → atoms < 2 ^ 32 → length (chain_atoms atoms) ≤ 400 * atoms
chain_atoms_short zero few = omega arith
chain_atoms_short (suc before) few =
    omega (
      arith,
      length-append (chain_atoms before) (chain_atom (before + 1)),
      chain_atoms_short before (omega (arith, few)),
      chain_atom_short (before + 1) (omega (arith, few)),
    )

chain_bonds_short : (bonds : ℕ) → bonds < 2 ^ 32 → length (chain_bonds bonds) ≤ 400 * bonds
chain_bonds_short zero few = omega arith
chain_bonds_short (suc before) few =
    omega (
      arith,
      length-append (chain_bonds before) (bond_line (before + 1) (before + 2) Plain),
      chain_bonds_short before (omega (arith, few)),
      bond_line_short (before + 1) (before + 2) Plain (omega (arith, few)) (omega (arith, few)),
    )

-- what is on it, by words

at_place : (at word : ℕ) (element : Option Element)
    → IfSome (option_map (λ element. record { at = at; element = element; stereo = stereo_of (word / 6 % 3) }) element)
    (λ (branch : Branch). branch.at ≡ at)
at_place at word None = tt
at_place at word (Some element) = refl

pub words_many : (count : ℕ) (generator : Lcg) → length (first_words pcg32 count generator) ≡ count
words_many zero generator = ap length (no_word generator)
words_many (suc count) generator =
    ap length (first_word count generator) ∙ ap suc (words_many count (pcg32 generator).1)

branch_atom_short : (branch : Branch) → branch.at < 2 ^ 32 → length (branch_atom branch) ≤ 400
unfolding branch_atom
branch_atom_short branch few =
    atom_line_short (across branch.at) (branch_height branch.at) branch.element (across_small branch.at few)
    (branch_height_small (is_upper branch.at))

one_atom_short : (at most : ℕ) (branch : Option Branch) (rest : List Branch) → at < 2 ^ 32
    → IfSome branch (λ branch. branch.at ≡ at) → length (branch_atoms rest) ≤ most
    → length (branch_atoms (with_branch branch rest)) ≤ 400 + most
one_atom_short at most None rest few here short = omega (arith, short)
one_atom_short at most (Some branch) rest few here short =
    omega (
      arith,
      length-append (branch_atom branch) (branch_atoms rest),
      branch_atom_short branch (subst (λ place. place < 2 ^ 32) (sym here) few),
      short,
    )

branch_atoms_short : (at : ℕ) (words : List ℕ) → at + length words < 2 ^ 32
    → length (branch_atoms (branches at words)) ≤ 400 * length words
branch_atoms_short at [] few = omega arith
branch_atoms_short at (word ∷ words) few =
    omega (
      arith,
      one_atom_short at (400 * length words) (branch_of at word) (branches (at + 1) words) (omega (arith, few))
          (at_place at word (element_of (word % 6))) (branch_atoms_short (at + 1) words (omega (arith, few))),
    )

one_bond_short : (at number most : ℕ) (branch : Option Branch) (rest : List Branch) → at < 2 ^ 32 → number < 2 ^ 33
    → IfSome branch (λ branch. branch.at ≡ at)
    → ((next : ℕ) → next ≤ number + 1 → length (branch_bonds next rest) ≤ most)
    → length (branch_bonds number (with_branch branch rest)) ≤ 400 + most
one_bond_short at number most None rest few small here short = omega (arith, short number (omega arith))
one_bond_short at number most (Some branch) rest few small here short =
    omega (
      arith,
      length-append (bond_line branch.at number branch.stereo) (branch_bonds (number + 1) rest),
      bond_line_short branch.at number branch.stereo (subst (λ place. place < 2 ^ 64) (sym here) (omega (arith, few)))
          (omega (arith, small)),
      short (number + 1) (omega arith),
    )

branch_bonds_short : (at number : ℕ) (words : List ℕ) → at + length words < 2 ^ 32 → number + length words < 2 ^ 33
    → length (branch_bonds number (branches at words)) ≤ 400 * length words
branch_bonds_short at number [] few small = omega arith
branch_bonds_short at number (word ∷ words) few small =
    omega (
      arith,
      one_bond_short at number (400 * length words) (branch_of at word) (branches (at + 1) words) (omega (arith, few))
          (omega (arith, small)) (at_place at word (element_of (word % 6)))
          (λ next nearer. branch_bonds_short (at + 1) next words (omega (arith, few)) (omega (arith, small, nearer))),
    )

one_more : (branch : Option Branch) (rest : List Branch) → length (with_branch branch rest) ≤ suc (length rest)
one_more None rest = omega arith
one_more (Some branch) rest = omega arith

branches_few : (at : ℕ) (words : List ℕ) → length (branches at words) ≤ length words
branches_few at [] = omega arith
branches_few at (word ∷ words) =
    omega (arith, one_more (branch_of at word) (branches (at + 1) words), branches_few (at + 1) words)

-- the record

counts_line_short : (atoms bonds : ℕ) → atoms < 2 ^ 64 → bonds < 2 ^ 64 → length (counts_line atoms bonds) ≤ 400
unfolding counts_line
counts_line_short atoms bonds p q =
    omega (
      arith,
      length-append (number_field atoms ++ number_field bonds) (codes "  0  0  0  0  0  0  0  0999 V2000\n"),
      length-append (number_field atoms) (number_field bonds),
      field_short atoms p,
      field_short bonds q,
    )

name_lines_short : (start number : ℕ) → start < 2 ^ 64 → number < 2 ^ 64 → length (name_lines start number) ≤ 400
name_lines_short start number p q =
    omega (
      arith,
      length-append (codes "make ") (decimal start ++ (codes " " ++ (decimal number ++ codes "\n\n\n"))),
      length-append (decimal start) (codes " " ++ (decimal number ++ codes "\n\n\n")),
      length-append (codes " ") (decimal number ++ codes "\n\n\n"),
      length-append (decimal number) (codes "\n\n\n"),
      number_short start p,
      number_short number q,
    )

seven_short : (most : ℕ) (a b c d e f g : List ℕ) → length a ≤ most → length b ≤ most → length c ≤ most
    → length d ≤ most → length e ≤ most → length f ≤ most → length g ≤ most
    → length (a ++ b ++ c ++ d ++ e ++ f ++ g) ≤ 7 * most
seven_short most a b c d e f g p q r s t u v =
    omega (
      arith,
      length-append (a ++ b ++ c ++ d ++ e ++ f) g,
      length-append (a ++ b ++ c ++ d ++ e) f,
      length-append (a ++ b ++ c ++ d) e,
      length-append (a ++ b ++ c) d,
      length-append (a ++ b) c,
      length-append a b,
      p,
      q,
      r,
      s,
      t,
      u,
      v,
    )

record_short : (name : List ℕ) (chain : ℕ) (words : List ℕ) → length name ≤ 400 → chain ≤ 20
    → length words ≤ 20 → length (record_text name chain (branches 2 words)) ≤ 56000
record_short name chain words short few many =
    let found = branches 2 words in
    let most : length found ≤ 20 = omega (arith, branches_few 2 words, many) in
    seven_short 8000 name (counts_line (chain + length found) (chain + length found - 1)) (chain_atoms chain)
    (branch_atoms found) (chain_bonds (chain - 1)) (branch_bonds (chain + 1) found) (codes "M  END\n$$$$\n")
    (omega (arith, short))
    (omega (
      arith,
      counts_line_short (chain + length found) (chain + length found - 1) (omega (arith, few, most))
          (omega (arith, few, most)),
    ))
    (omega (arith, chain_atoms_short chain (omega (arith, few)), few))
    (omega (arith, branch_atoms_short 2 words (omega (arith, many)), many))
    (omega (arith, chain_bonds_short (chain - 1) (omega (arith, few)), few))
    (omega (arith, branch_bonds_short 2 (chain + 1) words (omega (arith, many)) (omega (arith, few, many)), many))
    (omega arith)

-- A made record is short.
pub made_short : (start number : ℕ) → start < 2 ^ 64 → number < 2 ^ 64 → length (made start number) ≤ 56000
unfolding made
made_short start number p q =
    let word = (pcg32 (generator start number)).0 in
    let chain = chain_length word in
    let few : chain ≤ 20 = omega arith in
    let words = first_words pcg32 (chain - 2) (pcg32 (generator start number)).1 in
    record_short (name_lines start number) chain words (name_lines_short start number p q) few
    (omega (arith, few, words_many (chain - 2) (pcg32 (generator start number)).1))
