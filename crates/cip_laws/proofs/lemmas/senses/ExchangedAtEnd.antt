-- Exchanging the two ligands of an end turns the sense of a bond or an axis.
use Rattle.std.proofs.Common.{◌≡◌, ◌≤◌, ℕ, arith, refl, sym, ◌∙◌, ap, List, [], ◌∷◌, length, map, Bool, true, false}
use Rattle.std.specs.Prelude.{neg_ℤ, not, ◌&&◌, ◌||◌, if◌then◌else◌}
use Rattle.std.specs.List.{list_any, swap}
use Rattle.cip_num.specs.declared.plane.Sign.{Sign}
use Rattle.cip_num.specs.declared.plane.Sign.TheVariants.{Minus, Zero, Plus}
use Rattle.cip_num.specs.declared.plane.Vec3.{Vec3}
use Rattle.cip_num.specs.Signs.{sign_of, opposite, is_zero, are_alike}
use Rattle.cip_num.specs.Space.{determinant}
use Rattle.cip_num.proofs.lemmas.Signs.{sign_of-neg}
use Rattle.cip_laws.proofs.lemmas.senses.Determinants.{determinant-negated_second, determinant-negated_third, determinant-exchanged_first, determinant-exchanged_last}
use Rattle.cip_num.proofs.lemmas.Ring.{neg_neg}
use Rattle.cip_laws.proofs.lemmas.senses.Exchanges.{list_any-exchanged}
use Rattle.cip_mol.specs.declared.graph.molecule.Atom.{Atom}
use Rattle.cip_mol.specs.declared.graph.molecule.Bond.{Bond}
use Rattle.cip_mol.specs.declared.site.Cause.TheVariants.{Either, Coincident, Contradictory}
use Rattle.cip_mol.specs.declared.site.Geometry.{Geometry}
use Rattle.cip_mol.specs.declared.site.Geometry.TheVariants.{Unknown}
use Rattle.cip_mol.specs.DrawnLigands.{drawn}
use Rattle.cip_mol.specs.Senses.{shown_by, other_way}
use Rattle.cip_mol.specs.Points.{point, step, steps, is_spatial}
use Rattle.cip_mol.specs.Marks.{has_either, has_mark, is_crossed, mark_to}
use Rattle.cip_mol.specs.Pairs.{ligand_at, are_two_alike, has_flat_pair, keeps_sign, by_pairs}
use Rattle.cip_mol.specs.FlatAxes.{upright, lead, flank, has_no_length, repeats_mark, lies_on_line, lies_on_one_side, is_coincident, is_contradictory, by_marks}
use Rattle.cip_mol.specs.Geometry.{sides, twist, of_bond, of_axis}
use Rattle.cip_mol.specs.GeometryLaws.{ExchangeTurnsBonds, ExchangeTurnsAxes}
use Rattle.cip_laws.proofs.lemmas.senses.ReflectedCentres.{shown_by-opposite}
use Rattle.cip_laws.proofs.lemmas.senses.ReflectedAxes.{upright-opposite}
use Rattle.cip_laws.proofs.lemmas.senses.ExchangedEnds.{shows}

are_alike-back : (s t : Sign) → are_alike t s ≡ are_alike s t
are_alike-back Plus Plus = refl
are_alike-back Plus Minus = refl
are_alike-back Plus Zero = refl
are_alike-back Minus Plus = refl
are_alike-back Minus Minus = refl
are_alike-back Minus Zero = refl
are_alike-back Zero Plus = refl
are_alike-back Zero Minus = refl
are_alike-back Zero Zero = refl

unlike : (s t : Sign) → is_zero s ≡ false → is_zero t ≡ false → are_alike s t ≡ false → t ≡ opposite s
unlike Plus Plus p q r = absurd cc
unlike Plus Minus p q r = refl
unlike Plus Zero p q r = absurd cc
unlike Minus Plus p q r = refl
unlike Minus Minus p q r = absurd cc
unlike Minus Zero p q r = absurd cc
unlike Zero t p q r = absurd cc

any_same : {X : Type 0} (p q : X → Bool) (xs : List X) → ((x : X) → p x ≡ q x) → list_any p xs ≡ list_any q xs
any_same p q [] h = refl
any_same p q (x ∷ xs) h = ap (λ here. here || list_any p xs) (h x) ∙ ap (λ rest. q x || rest) (any_same p q xs h)

no_zero : (a r b t : Bool) → ((a || r) || ((b || t) || false)) ≡ false → (a ≡ false) × (b ≡ false)
no_zero a r b t e = (first a r b t e, second a r b t e)
  where
    first : (a r b t : Bool) → ((a || r) || ((b || t) || false)) ≡ false → a ≡ false
    first a r b t e = grind arith

    second : (a r b t : Bool) → ((a || r) || ((b || t) || false)) ≡ false → b ≡ false
    second a r b t e = grind arith

not_second : (a b r : Bool) → (a || (b || r)) ≡ false → b ≡ false
not_second a b r e = grind arith

module _ (sign : Vec3 → Vec3 → Sign) (x y w : Vec3) (ws : List Vec3) where
  keeps_exchanged : keeps_sign sign (y ∷ x ∷ []) (w ∷ ws) ≡ keeps_sign sign (x ∷ y ∷ []) (w ∷ ws)
  keeps_exchanged =
      ap (λ t. t || list_any (λ second. are_two_alike (λ first. sign first second) (y ∷ x ∷ [])) (w ∷ ws)) (list_any-exchanged (λ first. are_two_alike (λ second. sign first second) (w ∷ ws)) x y [])
      ∙ ap (λ t. list_any (λ first. are_two_alike (λ second. sign first second) (w ∷ ws)) (x ∷ y ∷ []) || t)
      (any_same (λ second. are_two_alike (λ first. sign first second) (y ∷ x ∷ [])) (λ second. are_two_alike (λ first. sign first second) (x ∷ y ∷ [])) (w ∷ ws) (λ second. are_alike-back (sign x second) (sign y second)))

  turns_sign : has_flat_pair sign (x ∷ y ∷ []) (w ∷ ws) ≡ false → keeps_sign sign (x ∷ y ∷ []) (w ∷ ws) ≡ false → sign y w ≡ opposite (sign x w)
  turns_sign flat keeps =
      let zero : (is_zero (sign x w) ≡ false) × (is_zero (sign y w) ≡ false) = no_zero (is_zero (sign x w)) (list_any (λ second. is_zero (sign x second)) ws) (is_zero (sign y w)) (list_any (λ second. is_zero (sign y second)) ws) flat in
      unlike (sign x w) (sign y w) zero.0 zero.1
      (not_second (list_any (λ first. are_two_alike (λ second. sign first second) (w ∷ ws)) (x ∷ y ∷ [])) (are_alike (sign x w) (sign y w)) (list_any (λ second. are_two_alike (λ first. sign first second) (x ∷ y ∷ [])) ws) keeps)

  by_pairs_turned : by_pairs sign (y ∷ x ∷ []) (w ∷ ws) ≡ other_way (by_pairs sign (x ∷ y ∷ []) (w ∷ ws))
  by_pairs_turned =
      ap (λ t. if t then Unknown Coincident else if keeps_sign sign (y ∷ x ∷ []) (w ∷ ws) then Unknown Contradictory else shown_by (sign y w)) (list_any-exchanged (λ first. list_any (λ second. is_zero (sign first second)) (w ∷ ws)) x y [])
      ∙ ap (λ t. if has_flat_pair sign (x ∷ y ∷ []) (w ∷ ws) then Unknown Coincident else if t then Unknown Contradictory else shown_by (sign y w)) keeps_exchanged
      ∙ by (has_flat_pair sign (x ∷ y ∷ []) (w ∷ ws)) (keeps_sign sign (x ∷ y ∷ []) (w ∷ ws)) (sign x w) (sign y w) turns_sign
    where
      by : (n k : Bool) (s t : Sign) → (n ≡ false → k ≡ false → t ≡ opposite s) → (if n then Unknown Coincident else if k then Unknown Contradictory else shown_by t) ≡ other_way (if n then Unknown Coincident else if k then Unknown Contradictory else shown_by s)
      by true k s t h = refl
      by false true s t h = refl
      by false false s t h = ap shown_by (h refl refl) ∙ shown_by-opposite s

repeats_mark-exchanged : (m n : Sign) → repeats_mark (n ∷ m ∷ []) ≡ repeats_mark (m ∷ n ∷ [])
repeats_mark-exchanged Plus Plus = refl
repeats_mark-exchanged Plus Minus = refl
repeats_mark-exchanged Plus Zero = refl
repeats_mark-exchanged Minus Plus = refl
repeats_mark-exchanged Minus Minus = refl
repeats_mark-exchanged Minus Zero = refl
repeats_mark-exchanged Zero Plus = refl
repeats_mark-exchanged Zero Minus = refl
repeats_mark-exchanged Zero Zero = refl

lead-exchanged : (m n : Sign) → repeats_mark (m ∷ n ∷ []) ≡ false → lead (n ∷ m ∷ []) ≡ opposite (lead (m ∷ n ∷ []))
lead-exchanged Plus Plus e = absurd cc
lead-exchanged Plus Minus e = refl
lead-exchanged Plus Zero e = refl
lead-exchanged Minus Plus e = refl
lead-exchanged Minus Minus e = absurd cc
lead-exchanged Minus Zero e = refl
lead-exchanged Zero Plus e = refl
lead-exchanged Zero Minus e = refl
lead-exchanged Zero Zero e = refl

upright_turned : (u v : Vec3) (s t : Sign) → t ≡ opposite s → shown_by (twist u (upright t) v) ≡ other_way (shown_by (twist u (upright s) v))
upright_turned u v s t is =
    ap (λ r. shown_by (twist u r v)) (ap upright is ∙ upright-opposite s)
    ∙ ap (λ d. shown_by (sign_of d)) (determinant-negated_second u (upright s) v)
    ∙ ap shown_by (sign_of-neg (determinant u (upright s) v))
    ∙ shown_by-opposite (twist u (upright s) v)

-- a ligand against an upright one is seen as from above, or from below
seen_by : Sign → Sign → Sign
seen_by Plus t = t
seen_by Minus t = opposite t
seen_by Zero t = Zero

seen_by-opposite : (s t : Sign) → seen_by s (opposite t) ≡ opposite (seen_by s t)
unfolding seen_by
seen_by-opposite Plus t = refl
seen_by-opposite Minus t = refl
seen_by-opposite Zero t = refl

its_own_opposite : (s : Sign) → s ≡ opposite s → s ≡ Zero
its_own_opposite Plus e = absurd cc
its_own_opposite Minus e = absurd cc
its_own_opposite Zero e = refl

from_above : (u v : Vec3) → twist u v (upright Plus) ≡ flank u v
from_above u v = ap sign_of (determinant-exchanged_last u (upright Plus) v ∙ ap neg_ℤ (determinant-exchanged_first (upright Plus) u v) ∙ neg_neg (determinant (upright Plus) u v))

twist-opposite : (u v : Vec3) (s : Sign) → twist u v (upright (opposite s)) ≡ opposite (twist u v (upright s))
twist-opposite u v s = ap (λ r. twist u v r) (upright-opposite s) ∙ ap sign_of (determinant-negated_third u v (upright s)) ∙ sign_of-neg (determinant u v (upright s))

twist_is : (u v : Vec3) (s : Sign) → twist u v (upright s) ≡ seen_by s (flank u v)
unfolding seen_by
twist_is u v Plus = from_above u v
twist_is u v Minus = twist-opposite u v Plus ∙ ap opposite (from_above u v)
twist_is u v Zero = its_own_opposite (twist u v (upright Zero)) (twist-opposite u v Zero)

ligand_turned : (u x y : Vec3) (s : Sign) → flank u y ≡ opposite (flank u x) → shown_by (twist u y (upright s)) ≡ other_way (shown_by (twist u x (upright s)))
ligand_turned u x y s is =
    ap shown_by (twist_is u y s ∙ ap (seen_by s) is ∙ seen_by-opposite s (flank u x) ∙ ap opposite (sym (twist_is u x s)))
    ∙ shown_by-opposite (twist u x (upright s))

shows-turned : (n c p q : Bool) (g g' h h' : Geometry) → (c ≡ false → g' ≡ other_way g) → (n ≡ false → c ≡ false → p ≡ false → h' ≡ other_way h) → shows n c p q g' h' ≡ other_way (shows n c p q g h)
shows-turned true c p q g g' h h' k l = refl
shows-turned false true p q g g' h h' k l = refl
shows-turned false false true q g g' h h' k l = k refl
shows-turned false false false true g g' h h' k l = l refl refl refl
shows-turned false false false false g g' h h' k l = refl

module _ (u : Vec3) (m n : Sign) (other_marks : List Sign) (x y : Vec3) (seconds : List Vec3) where
  coincident_exchanged : is_coincident u (n ∷ m ∷ []) other_marks (y ∷ x ∷ []) seconds ≡ is_coincident u (m ∷ n ∷ []) other_marks (x ∷ y ∷ []) seconds
  coincident_exchanged =
      ap (λ t. has_no_length u || ((not t && list_any (λ l. is_zero (flank u l)) (y ∷ x ∷ [])) || lies_on_line u other_marks seconds)) (list_any-exchanged (λ mark. not (is_zero mark)) m n [])
      ∙ ap (λ t. has_no_length u || ((not (has_mark (m ∷ n ∷ [])) && t) || lies_on_line u other_marks seconds)) (list_any-exchanged (λ l. is_zero (flank u l)) x y [])

  contradictory_exchanged : is_contradictory u (n ∷ m ∷ []) other_marks (y ∷ x ∷ []) seconds ≡ is_contradictory u (m ∷ n ∷ []) other_marks (x ∷ y ∷ []) seconds
  contradictory_exchanged =
      ap (λ t. (t && has_mark other_marks) || (repeats_mark (n ∷ m ∷ []) || (repeats_mark other_marks || ((not t && are_alike (flank u y) (flank u x)) || lies_on_one_side u other_marks seconds)))) (list_any-exchanged (λ mark. not (is_zero mark)) m n [])
      ∙ ap (λ t. (has_mark (m ∷ n ∷ []) && has_mark other_marks) || (t || (repeats_mark other_marks || ((not (has_mark (m ∷ n ∷ [])) && are_alike (flank u y) (flank u x)) || lies_on_one_side u other_marks seconds)))) (repeats_mark-exchanged m n)
      ∙ ap (λ t. (has_mark (m ∷ n ∷ []) && has_mark other_marks) || (repeats_mark (m ∷ n ∷ []) || (repeats_mark other_marks || ((not (has_mark (m ∷ n ∷ [])) && t) || lies_on_one_side u other_marks seconds)))) (are_alike-back (flank u x) (flank u y))

  turns_flank : is_coincident u (m ∷ n ∷ []) other_marks (x ∷ y ∷ []) seconds ≡ false → is_contradictory u (m ∷ n ∷ []) other_marks (x ∷ y ∷ []) seconds ≡ false → has_mark (m ∷ n ∷ []) ≡ false → flank u y ≡ opposite (flank u x)
  turns_flank coincident contradictory unmarked =
      let line : ((is_zero (flank u x)) ≡ false) × ((is_zero (flank u y)) ≡ false) = off (has_no_length u) (has_mark (m ∷ n ∷ [])) (is_zero (flank u x)) (is_zero (flank u y)) (lies_on_line u other_marks seconds) unmarked coincident in
      unlike (flank u x) (flank u y) line.0 line.1
      (aside (has_mark (m ∷ n ∷ []) && has_mark other_marks) (repeats_mark (m ∷ n ∷ [])) (repeats_mark other_marks) (has_mark (m ∷ n ∷ [])) (are_alike (flank u x) (flank u y)) (lies_on_one_side u other_marks seconds) unmarked contradictory)
    where
      left : (z p a b r : Bool) → p ≡ false → (z || ((not p && (a || (b || false))) || r)) ≡ false → a ≡ false
      left z p a b r e f = grind arith

      right : (z p a b r : Bool) → p ≡ false → (z || ((not p && (a || (b || false))) || r)) ≡ false → b ≡ false
      right z p a b r e f = grind arith

      off : (z p a b r : Bool) → p ≡ false → (z || ((not p && (a || (b || false))) || r)) ≡ false → (a ≡ false) × (b ≡ false)
      off z p a b r e f = (left z p a b r e f, right z p a b r e f)

      aside : (z a b p s r : Bool) → p ≡ false → (z || (a || (b || ((not p && s) || r)))) ≡ false → s ≡ false
      aside z a b p s r e f = grind arith

  by_marks_turned : by_marks u (n ∷ m ∷ []) other_marks (y ∷ x ∷ []) seconds ≡ other_way (by_marks u (m ∷ n ∷ []) other_marks (x ∷ y ∷ []) seconds)
  by_marks_turned =
      ap (λ t. shows t (is_contradictory u (n ∷ m ∷ []) other_marks (y ∷ x ∷ []) seconds) (has_mark (n ∷ m ∷ [])) (has_mark other_marks) (shown_by (twist u (upright (lead (n ∷ m ∷ []))) (ligand_at seconds 0))) (shown_by (twist u y (upright (lead other_marks))))) coincident_exchanged
      ∙ ap (λ t. shows (is_coincident u (m ∷ n ∷ []) other_marks (x ∷ y ∷ []) seconds) t (has_mark (n ∷ m ∷ [])) (has_mark other_marks) (shown_by (twist u (upright (lead (n ∷ m ∷ []))) (ligand_at seconds 0))) (shown_by (twist u y (upright (lead other_marks))))) contradictory_exchanged
      ∙ ap (λ t. shows (is_coincident u (m ∷ n ∷ []) other_marks (x ∷ y ∷ []) seconds) (is_contradictory u (m ∷ n ∷ []) other_marks (x ∷ y ∷ []) seconds) t (has_mark other_marks) (shown_by (twist u (upright (lead (n ∷ m ∷ []))) (ligand_at seconds 0))) (shown_by (twist u y (upright (lead other_marks))))) (list_any-exchanged (λ mark. not (is_zero mark)) m n [])
      ∙ shows-turned (is_coincident u (m ∷ n ∷ []) other_marks (x ∷ y ∷ []) seconds) (is_contradictory u (m ∷ n ∷ []) other_marks (x ∷ y ∷ []) seconds) (has_mark (m ∷ n ∷ [])) (has_mark other_marks) _ _ _ _
      (λ clear. upright_turned u (ligand_at seconds 0) (lead (m ∷ n ∷ [])) (lead (n ∷ m ∷ [])) (lead-exchanged m n (not_second (has_mark (m ∷ n ∷ []) && has_mark other_marks) (repeats_mark (m ∷ n ∷ [])) _ clear)))
      (λ coincident contradictory unmarked. ligand_turned u x y (lead other_marks) (turns_flank coincident contradictory unmarked))

module _ (atoms : List Atom) (bonds : List Bond) (a b : ℕ) where
  of_bond_turned : (firsts seconds : List ℕ) → length firsts ≡ 2 → 1 ≤ length seconds → of_bond atoms bonds a b (swap firsts 0 1) seconds ≡ other_way (of_bond atoms bonds a b firsts seconds)
  of_bond_turned [] seconds two one = absurd (omega arith)
  of_bond_turned (v ∷ []) seconds two one = absurd (omega arith)
  of_bond_turned (v ∷ w ∷ []) [] two one = absurd (omega arith)
  of_bond_turned (v ∷ w ∷ []) (s ∷ seconds) two one = by (has_either a bonds || (has_either b bonds || is_crossed a b bonds))
    where
      by : (either : Bool) → (if either then Unknown Either else by_pairs (sides (step (point atoms a) (point atoms b))) (steps atoms a (w ∷ v ∷ [])) (steps atoms b (s ∷ seconds))) ≡ other_way (if either then Unknown Either else by_pairs (sides (step (point atoms a) (point atoms b))) (steps atoms a (v ∷ w ∷ [])) (steps atoms b (s ∷ seconds)))
      by true = refl
      by false = by_pairs_turned (sides (step (point atoms a) (point atoms b))) (step (point atoms a) (point atoms v)) (step (point atoms a) (point atoms w)) (step (point atoms b) (point atoms s)) (steps atoms b seconds)
  of_bond_turned (v ∷ w ∷ x ∷ firsts) seconds two one = absurd (omega arith)

  of_axis_turned : (firsts seconds : List ℕ) → length firsts ≡ 2 → 1 ≤ length seconds → of_axis atoms bonds a b (swap firsts 0 1) seconds ≡ other_way (of_axis atoms bonds a b firsts seconds)
  of_axis_turned [] seconds two one = absurd (omega arith)
  of_axis_turned (v ∷ []) seconds two one = absurd (omega arith)
  of_axis_turned (v ∷ w ∷ []) [] two one = absurd (omega arith)
  of_axis_turned (v ∷ w ∷ []) (s ∷ seconds) two one = by (has_either a bonds || has_either b bonds) (is_spatial atoms)
    where
      space : List ℕ → Geometry
      space firsts = by_pairs (twist (step (point atoms a) (point atoms b))) (steps atoms a firsts) (steps atoms b (s ∷ seconds))

      plane : List ℕ → Geometry
      plane firsts = by_marks (step (point atoms a) (point atoms b)) (map (mark_to a bonds) firsts) (map (mark_to b bonds) (s ∷ seconds)) (steps atoms a firsts) (steps atoms b (s ∷ seconds))

      by : (either spatial : Bool) → (if either then Unknown Either else if spatial then space (w ∷ v ∷ []) else plane (w ∷ v ∷ [])) ≡ other_way (if either then Unknown Either else if spatial then space (v ∷ w ∷ []) else plane (v ∷ w ∷ []))
      by true spatial = refl
      by false true = by_pairs_turned (twist (step (point atoms a) (point atoms b))) (step (point atoms a) (point atoms v)) (step (point atoms a) (point atoms w)) (step (point atoms b) (point atoms s)) (steps atoms b seconds)
      by false false = by_marks_turned (step (point atoms a) (point atoms b)) (mark_to a bonds v) (mark_to a bonds w) (map (mark_to b bonds) (s ∷ seconds)) (step (point atoms a) (point atoms v)) (step (point atoms a) (point atoms w)) (steps atoms b (s ∷ seconds))
  of_axis_turned (v ∷ w ∷ x ∷ firsts) seconds two one = absurd (omega arith)

pub exchange_turns_bonds : ExchangeTurnsBonds
exchange_turns_bonds drawing a b first other second two one is =
    ap (λ firsts. of_bond drawing.atoms drawing.bonds a b firsts (drawn (length drawing.atoms) second)) is
    ∙ of_bond_turned drawing.atoms drawing.bonds a b (drawn (length drawing.atoms) first) (drawn (length drawing.atoms) second) two one

pub exchange_turns_axes : ExchangeTurnsAxes
exchange_turns_axes drawing a b first other second two one is =
    ap (λ firsts. of_axis drawing.atoms drawing.bonds a b firsts (drawn (length drawing.atoms) second)) is
    ∙ of_axis_turned drawing.atoms drawing.bonds a b (drawn (length drawing.atoms) first) (drawn (length drawing.atoms) second) two one
