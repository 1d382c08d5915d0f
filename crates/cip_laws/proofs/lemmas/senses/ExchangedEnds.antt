-- Exchanging the ends of a bond or an axis keeps its sense.
use Rattle.std.proofs.Common.{◌≡◌, ℕ, arith, refl, sym, ◌∙◌, ap, List, [], ◌∷◌, length, map, Bool, true, false}
use Rattle.std.specs.Prelude.{ℤ, neg_ℤ, not, ◌&&◌, ◌||◌, ◌==◌, if◌then◌else◌}
use Rattle.std.specs.List.{list_any}
use Rattle.cip_num.specs.declared.plane.Sign.{Sign}
use Rattle.cip_num.specs.declared.plane.Sign.TheVariants.{Plus}
use Rattle.cip_num.specs.declared.plane.Vec3.{Vec3}
use Rattle.cip_num.specs.Signs.{sign_of, opposite, is_zero, are_alike}
use Rattle.cip_num.specs.Space.{determinant, negated}
use Rattle.cip_num.proofs.lemmas.Signs.{sign_of-neg, is_zero-opposite, are_alike-opposite}
use Rattle.cip_num.proofs.lemmas.Ring.{neg_neg}
use Rattle.cip_laws.proofs.lemmas.senses.Exchanges.{or_back, or_exchanged}
use Rattle.cip_laws.proofs.lemmas.senses.Determinants.{facing-negated, facing-exchanged, determinant-negated_first, determinant-negated_second, determinant-exchanged_last}
use Rattle.cip_mol.specs.declared.graph.molecule.Atom.{Atom}
use Rattle.cip_mol.specs.declared.graph.molecule.Bond.{Bond}
use Rattle.cip_mol.specs.declared.site.Cause.TheVariants.{Either, Coincident, Contradictory, NoMark}
use Rattle.cip_mol.specs.declared.site.Geometry.{Geometry}
use Rattle.cip_mol.specs.declared.site.Geometry.TheVariants.{Unknown}
use Rattle.cip_mol.specs.DrawnLigands.{drawn}
use Rattle.cip_mol.specs.Senses.{shown_by}
use Rattle.cip_mol.specs.Points.{point, step, steps, is_nought, is_spatial}
use Rattle.cip_mol.specs.Marks.{has_either, has_mark, is_crossed, mark_to}
use Rattle.cip_mol.specs.Pairs.{ligand_at, are_two_alike, has_flat_pair, keeps_sign, by_pairs}
use Rattle.cip_mol.specs.FlatAxes.{upright, lead, flank, has_no_length, repeats_mark, lies_on_line, lies_on_one_side, is_coincident, is_contradictory, by_marks}
use Rattle.cip_mol.specs.Geometry.{sides, twist, of_bond, of_axis}
use Rattle.cip_mol.specs.GeometryLaws.{ExchangedEndsKeepBonds, ExchangedEndsKeepAxes}
use Rattle.cip_laws.proofs.lemmas.senses.ExchangedInSpace.{step_back}

-- which pair is some pair, whichever end is gone through first
module _ {X Y : Type 0} (p : X → Y → Bool) where
  with_one : (y : Y) (xs : List X) (ys : List Y) → (list_any (λ x. p x y) xs || list_any (λ x. list_any (λ z. p x z) ys) xs) ≡ list_any (λ x. p x y || list_any (λ z. p x z) ys) xs
  with_one y [] ys = refl
  with_one y (x ∷ xs) ys = between (p x y) (list_any (λ x. p x y) xs) (list_any (λ z. p x z) ys) (list_any (λ x. list_any (λ z. p x z) ys) xs) ∙ ap (λ rest. (p x y || list_any (λ z. p x z) ys) || rest) (with_one y xs ys)
    where
      between : (a b c d : Bool) → ((a || b) || (c || d)) ≡ ((a || c) || (b || d))
      between a b c d = grind arith

  no_pair : (xs : List X) → list_any (λ x. list_any (λ y. p x y) []) xs ≡ false
  no_pair [] = refl
  no_pair (x ∷ xs) = no_pair xs

  any_pair : (xs : List X) (ys : List Y) → list_any (λ y. list_any (λ x. p x y) xs) ys ≡ list_any (λ x. list_any (λ y. p x y) ys) xs
  any_pair xs [] = sym (no_pair xs)
  any_pair xs (y ∷ ys) = ap (λ rest. list_any (λ x. p x y) xs || rest) (any_pair xs ys) ∙ with_one y xs ys

module _ (sign other : Vec3 → Vec3 → Sign) (is : (v w : Vec3) → other w v ≡ sign v w) (firsts seconds : List Vec3) where
  flat_pair_back : has_flat_pair other seconds firsts ≡ has_flat_pair sign firsts seconds
  flat_pair_back = simp is (any_pair (λ v w. is_zero (sign v w)) firsts seconds)

  keeps_back : keeps_sign other seconds firsts ≡ keeps_sign sign firsts seconds
  keeps_back = simp is (or_back (list_any (λ v. are_two_alike (λ w. sign v w) seconds) firsts) (list_any (λ w. are_two_alike (λ v. sign v w) firsts) seconds))

  by_pairs_back : by_pairs other seconds firsts ≡ by_pairs sign firsts seconds
  by_pairs_back = rw (flat_pair_back, keeps_back, is (ligand_at firsts 0) (ligand_at seconds 0))

sides_back : (u v w : Vec3) → sides (negated u) w v ≡ sides u v w
sides_back u v w = ap sign_of (facing-negated u w v ∙ facing-exchanged u v w)

twist_back : (u v w : Vec3) → twist (negated u) w v ≡ twist u v w
twist_back u v w = ap sign_of (determinant-negated_first u w v ∙ ap neg_ℤ (determinant-exchanged_last u v w) ∙ neg_neg (determinant u v w))

is_crossed-back : (a b : ℕ) (bonds : List Bond) → is_crossed b a bonds ≡ is_crossed a b bonds
is_crossed-back a b [] = refl
is_crossed-back a b (bond ∷ bonds) = rw (or_back ((bond.a == a) && (bond.b == b)) ((bond.a == b) && (bond.b == a)), is_crossed-back a b bonds)

pub exchanged_ends_keep_bonds : ExchangedEndsKeepBonds
exchanged_ends_keep_bonds drawing a b first second = of_bond_back drawing.atoms drawing.bonds (drawn (length drawing.atoms) first) (drawn (length drawing.atoms) second)
  where
    of_bond_back : (atoms : List Atom) (bonds : List Bond) (firsts seconds : List ℕ) → of_bond atoms bonds b a seconds firsts ≡ of_bond atoms bonds a b firsts seconds
    of_bond_back atoms bonds firsts seconds =
        rw (is_crossed-back a b bonds, or_exchanged (has_either a bonds) (has_either b bonds) (is_crossed a b bonds))
        (ap (λ shown. if has_either a bonds || (has_either b bonds || is_crossed a b bonds) then Unknown Either else shown)
        (ap (λ u. by_pairs (sides u) (steps atoms b seconds) (steps atoms a firsts)) (step_back (point atoms b) (point atoms a))
        ∙ by_pairs_back (sides (step (point atoms a) (point atoms b))) (sides (negated (step (point atoms a) (point atoms b)))) (sides_back (step (point atoms a) (point atoms b))) (steps atoms a firsts) (steps atoms b seconds)))

is_nought-neg : (d : ℤ) → is_nought (neg_ℤ d) ≡ is_nought d
is_nought-neg d = ap is_zero (sign_of-neg d) ∙ is_zero-opposite (sign_of d)

has_no_length-negated : (u : Vec3) → has_no_length (negated u) ≡ has_no_length u
has_no_length-negated u = rw (is_nought-neg u.x, is_nought-neg u.y, is_nought-neg u.z)

flank-negated : (u ligand : Vec3) → flank (negated u) ligand ≡ opposite (flank u ligand)
flank-negated u ligand = ap sign_of (determinant-negated_second (upright Plus) u ligand) ∙ sign_of-neg (determinant (upright Plus) u ligand)

on_line_negated : (u : Vec3) (ligands : List Vec3) → list_any (λ ligand. is_zero (flank (negated u) ligand)) ligands ≡ list_any (λ ligand. is_zero (flank u ligand)) ligands
on_line_negated u [] = refl
on_line_negated u (ligand ∷ ligands) =
    ap (λ here. here || list_any (λ other. is_zero (flank (negated u) other)) ligands) (ap is_zero (flank-negated u ligand) ∙ is_zero-opposite (flank u ligand))
    ∙ ap (λ rest. is_zero (flank u ligand) || rest) (on_line_negated u ligands)

one_side_negated : (u : Vec3) (ligands : List Vec3) → are_two_alike (flank (negated u)) ligands ≡ are_two_alike (flank u) ligands
one_side_negated u ligands =
    ap (λ s. (length ligands == 2) && are_alike s (flank (negated u) (ligand_at ligands 1))) (flank-negated u (ligand_at ligands 0))
    ∙ ap (λ s. (length ligands == 2) && are_alike (opposite (flank u (ligand_at ligands 0))) s) (flank-negated u (ligand_at ligands 1))
    ∙ ap (λ t. (length ligands == 2) && t) (are_alike-opposite (flank u (ligand_at ligands 0)) (flank u (ligand_at ligands 1)))

-- what is shown, by the two causes, by whether either end is marked, and by what either mark shows
abbrev pub shows : Bool → Bool → Bool → Bool → Geometry → Geometry → Geometry
shows n c p q g h = if n then Unknown Coincident else if c then Unknown Contradictory else if p then g else if q then h else Unknown NoMark

one_marked : (n p q r : Bool) (g h : Geometry) → shows n ((p && q) || r) q p h g ≡ shows n ((p && q) || r) p q g h
one_marked true p q r g h = refl
one_marked false true true r g h = refl
one_marked false true false true g h = refl
one_marked false true false false g h = refl
one_marked false false q true g h = refl
one_marked false false true false g h = refl
one_marked false false false false g h = refl

and_back : (a b : Bool) → (b && a) ≡ (a && b)
and_back a b = grind arith

module _ (u : Vec3) (marks other_marks : List Sign) (firsts seconds : List Vec3) where
  is_coincident-back : is_coincident (negated u) other_marks marks seconds firsts ≡ is_coincident u marks other_marks firsts seconds
  is_coincident-back =
      ap (λ l. l || (lies_on_line (negated u) other_marks seconds || lies_on_line (negated u) marks firsts)) (has_no_length-negated u)
      ∙ ap (λ t. has_no_length u || ((not (has_mark other_marks) && t) || lies_on_line (negated u) marks firsts)) (on_line_negated u seconds)
      ∙ ap (λ t. has_no_length u || (lies_on_line u other_marks seconds || (not (has_mark marks) && t))) (on_line_negated u firsts)
      ∙ ap (λ t. has_no_length u || t) (or_back (lies_on_line u marks firsts) (lies_on_line u other_marks seconds))

  is_contradictory-back : is_contradictory (negated u) other_marks marks seconds firsts ≡ is_contradictory u marks other_marks firsts seconds
  is_contradictory-back =
      ap (λ t. (has_mark other_marks && has_mark marks) || (repeats_mark other_marks || (repeats_mark marks || ((not (has_mark other_marks) && t) || lies_on_one_side (negated u) marks firsts)))) (one_side_negated u seconds)
      ∙ ap (λ t. (has_mark other_marks && has_mark marks) || (repeats_mark other_marks || (repeats_mark marks || (lies_on_one_side u other_marks seconds || (not (has_mark marks) && t))))) (one_side_negated u firsts)
      ∙ ap (λ t. t || (repeats_mark other_marks || (repeats_mark marks || (lies_on_one_side u other_marks seconds || lies_on_one_side u marks firsts)))) (and_back (has_mark marks) (has_mark other_marks))
      ∙ ap (λ t. (has_mark marks && has_mark other_marks) || (repeats_mark other_marks || (repeats_mark marks || t))) (or_back (lies_on_one_side u marks firsts) (lies_on_one_side u other_marks seconds))
      ∙ ap (λ t. (has_mark marks && has_mark other_marks) || t) (or_exchanged (repeats_mark marks) (repeats_mark other_marks) (lies_on_one_side u marks firsts || lies_on_one_side u other_marks seconds))

  by_marks-back : by_marks (negated u) other_marks marks seconds firsts ≡ by_marks u marks other_marks firsts seconds
  by_marks-back =
      ap (λ t. shows t (is_contradictory (negated u) other_marks marks seconds firsts) (has_mark other_marks) (has_mark marks) (shown_by (twist (negated u) (upright (lead other_marks)) (ligand_at firsts 0))) (shown_by (twist (negated u) (ligand_at seconds 0) (upright (lead marks))))) is_coincident-back
      ∙ ap (λ t. shows (is_coincident u marks other_marks firsts seconds) t (has_mark other_marks) (has_mark marks) (shown_by (twist (negated u) (upright (lead other_marks)) (ligand_at firsts 0))) (shown_by (twist (negated u) (ligand_at seconds 0) (upright (lead marks))))) is_contradictory-back
      ∙ ap (λ s. shows (is_coincident u marks other_marks firsts seconds) (is_contradictory u marks other_marks firsts seconds) (has_mark other_marks) (has_mark marks) (shown_by s) (shown_by (twist (negated u) (ligand_at seconds 0) (upright (lead marks))))) (twist_back u (ligand_at firsts 0) (upright (lead other_marks)))
      ∙ ap (λ s. shows (is_coincident u marks other_marks firsts seconds) (is_contradictory u marks other_marks firsts seconds) (has_mark other_marks) (has_mark marks) (shown_by (twist u (ligand_at firsts 0) (upright (lead other_marks)))) (shown_by s)) (twist_back u (upright (lead marks)) (ligand_at seconds 0))
      ∙ one_marked (is_coincident u marks other_marks firsts seconds) (has_mark marks) (has_mark other_marks) (repeats_mark marks || (repeats_mark other_marks || (lies_on_one_side u marks firsts || lies_on_one_side u other_marks seconds))) _ _

pub exchanged_ends_keep_axes : ExchangedEndsKeepAxes
exchanged_ends_keep_axes drawing a b first second = of_axis_back drawing.atoms drawing.bonds (drawn (length drawing.atoms) first) (drawn (length drawing.atoms) second)
  where
    of_axis_back : (atoms : List Atom) (bonds : List Bond) (firsts seconds : List ℕ) → of_axis atoms bonds b a seconds firsts ≡ of_axis atoms bonds a b firsts seconds
    of_axis_back atoms bonds firsts seconds =
        rw (or_back (has_either a bonds) (has_either b bonds))
        (ap (λ shown. if has_either a bonds || has_either b bonds then Unknown Either else shown) (by (is_spatial atoms)))
      where
        by : (spatial : Bool) → (if spatial then by_pairs (twist (step (point atoms b) (point atoms a))) (steps atoms b seconds) (steps atoms a firsts) else by_marks (step (point atoms b) (point atoms a)) (map (mark_to b bonds) seconds) (map (mark_to a bonds) firsts) (steps atoms b seconds) (steps atoms a firsts))
            ≡ (if spatial then by_pairs (twist (step (point atoms a) (point atoms b))) (steps atoms a firsts) (steps atoms b seconds) else by_marks (step (point atoms a) (point atoms b)) (map (mark_to a bonds) firsts) (map (mark_to b bonds) seconds) (steps atoms a firsts) (steps atoms b seconds))
        by true =
            ap (λ u. by_pairs (twist u) (steps atoms b seconds) (steps atoms a firsts)) (step_back (point atoms b) (point atoms a))
            ∙ by_pairs_back (twist (step (point atoms a) (point atoms b))) (twist (negated (step (point atoms a) (point atoms b)))) (twist_back (step (point atoms a) (point atoms b))) (steps atoms a firsts) (steps atoms b seconds)
        by false =
            ap (λ u. by_marks u (map (mark_to b bonds) seconds) (map (mark_to a bonds) firsts) (steps atoms b seconds) (steps atoms a firsts)) (step_back (point atoms b) (point atoms a))
            ∙ by_marks-back (step (point atoms a) (point atoms b)) (map (mark_to a bonds) firsts) (map (mark_to b bonds) seconds) (steps atoms a firsts) (steps atoms b seconds)
