-- One mark at a centre: what each ligand's bond says, and what it shows.
use Rattle.std.proofs.Common.{◌≡◌, ◌≢◌, inl, inr, ℕ, zero, suc, ◌%◌, List, [], ◌∷◌, map, length, refl, sym, ap, ◌∙◌, Bool, true, false, cond, not, ◌==◌, ◌||◌, ◌&&◌, eqb-true, eq-eqb, arith}
use Rattle.std.specs.Prelude.{if◌then◌else◌}
use Rattle.std.specs.List.{AllByRecursion, list_any}
use Rattle.std.proofs.lemmas.Bool.{and_parts, cases_eq, ne_eqb}
use Rattle.cip_num.specs.declared.plane.Sign.{Sign}
use Rattle.cip_num.specs.declared.plane.Sign.TheVariants.{Minus, Zero, Plus}
use Rattle.cip_num.specs.declared.plane.Vec2.{Vec2}
use Rattle.cip_num.specs.Signs.{is_zero, is_plus, is_minus, opposite}
use Rattle.cip_num.specs.Around.{direction_at}
use Rattle.cip_mol.specs.FlatCentres.{turned, turned_by_place, votes, has_plus, has_minus, lies_between, is_reentrant, inversions, by_votes}
use Rattle.cip_mol.specs.Marks.{is_narrow_at, is_either, has_either, joins, mark_sign, mark_at, mark_to}
use Rattle.cip_mol.specs.Senses.{sense_of}
use Rattle.cip_mol.specs.declared.graph.molecule.Bond.{Bond}
use Rattle.cip_mol.specs.declared.graph.molecule.Mark.{Mark}
use Rattle.cip_mol.specs.declared.graph.molecule.Mark.TheVariants.{Plain}
use Rattle.cip_mol.specs.declared.site.Cause.TheVariants.{Contradictory, Reentrant, NoMark}
use Rattle.cip_mol.specs.declared.site.Geometry.{Geometry}
use Rattle.cip_mol.specs.declared.site.Geometry.TheVariants.{Known, Unknown}
use Rattle.cip_digraph.specs.rings.Alternating.{is_in}
use Rattle.cip_digraph.specs.units.Descriptors as senses
use Rattle.cip_digraph.proofs.lemmas.lists.Elements.{Pairwise}
use Rattle.cip_edit.specs.Marking.{without_mark, bare_bonds, marked_to, is_plain, can_be_marked}

pub and_off : (a b : Bool) → b ≡ false → (a && b) ≡ false
and_off true b e = e
and_off false b e = refl

or_off : (a b : Bool) → b ≡ false → (a || b) ≡ a
or_off true b e = refl
or_off false b e = e

-- a bond that has no mark at the atom
abbrev pub IsBare : ℕ → Bond → Type 0
IsBare atom bond = is_narrow_at atom bond ≡ true → bond.mark ≡ Plain

bare_bond : (atom : ℕ) (bond : Bond) → IsBare atom (without_mark atom bond)
bare_bond atom bond = by (is_narrow_at atom bond) refl
  where
    by : (b : Bool) → is_narrow_at atom bond ≡ b → IsBare atom (cond b (record bond { mark = Plain }) bond)
    by true is = λ _. refl
    by false is = λ on. let bad : false ≡ true = sym is ∙ on in cc

pub all_bare : (atom : ℕ) (bonds : List Bond) → AllByRecursion (IsBare atom) (bare_bonds atom bonds)
all_bare atom [] = tt
all_bare atom (bond ∷ bonds) = (bare_bond atom bond, all_bare atom bonds)

-- what a mark at one ligand alone says at each
abbrev pub lone_mark : Sign → ℕ → ℕ → Sign
lone_mark sign neighbour number = cond (number == neighbour) sign Zero

module _ (atom neighbour : ℕ) (mark : Mark) where
  abbrev one_set : Bond → Bond
  one_set bond = record { a = atom; b = neighbour; order = bond.order; mark = mark }

  abbrev all_set : List Bond → List Bond
  all_set bonds = map (marked_to atom neighbour mark) bonds

  zero_or : (c : Bool) (rest : Sign) → rest ≡ Zero → (if c then Zero else rest) ≡ Zero
  zero_or true rest e = refl
  zero_or false rest e = e

  none_beside : (bonds : List Bond) → AllByRecursion (IsBare atom) bonds → (n : ℕ) → n ≢ neighbour
      → mark_to atom (all_set bonds) n ≡ Zero
  none_beside [] all n other = refl
  none_beside (bond ∷ bonds) all n other = by (can_be_marked atom neighbour bond) (none_beside bonds all.1 n other)
    where
      plain : (b : Bool) → is_narrow_at atom bond ≡ b → mark_to atom (all_set bonds) n ≡ Zero
          → (if b && (bond.b == n) then mark_sign bond.mark else mark_to atom (all_set bonds) n) ≡ Zero
      plain true is e =
          ap (λ m. if bond.b == n then mark_sign m else mark_to atom (all_set bonds) n) (all.0 is)
          ∙ zero_or (bond.b == n) (mark_to atom (all_set bonds) n) e
      plain false is e = e

      by : (j : Bool) → mark_to atom (all_set bonds) n ≡ Zero
          → (if is_narrow_at atom (cond j (one_set bond) bond) && ((cond j (one_set bond) bond).b == n)
          then mark_sign (cond j (one_set bond) bond).mark else mark_to atom (all_set bonds) n)
          ≡ Zero
      by true e =
          ap (λ c. if c then mark_sign mark else mark_to atom (all_set bonds) n)
          (and_off (is_narrow_at atom (one_set bond)) (neighbour == n) (ne_eqb neighbour n (λ f. other (sym f))))
          ∙ e
      by false e = plain (is_narrow_at atom bond) refl e

  -- a bond without a mark that doesn't lead there in this direction
  not_there : (bond : Bond) → IsBare atom bond → can_be_marked atom neighbour bond ≡ false
      → (is_narrow_at atom bond && (bond.b == neighbour)) ≡ false
  not_there bond bare none = by (bond.a == atom) refl (bond.order == 1) refl (bond.b == neighbour) refl
    where
      free : (bond.a == atom) ≡ true → (bond.order == 1) ≡ true → (bond.b == neighbour) ≡ true
          → can_be_marked atom neighbour bond ≡ true
      free e f g =
          let plain : bond.mark ≡ Plain = bare (λ i. e i && f i) in
          λ i. ((e i && g i) || ((bond.a == neighbour) && (bond.b == atom))) && (f i && is_plain (plain i))

      by : (s : Bool) → (bond.a == atom) ≡ s → (t : Bool) → (bond.order == 1) ≡ t → (u : Bool)
          → (bond.b == neighbour) ≡ u → ((s && t) && u) ≡ false
      by true e true f true g = let bad : true ≡ false = sym (free e f g) ∙ none in bad
      by true e true f false g = refl
      by true e false f u g = refl
      by false e t f u g = refl

  set_here : (bonds : List Bond) → AllByRecursion (IsBare atom) bonds
      → list_any (can_be_marked atom neighbour) bonds ≡ true → mark_to atom (all_set bonds) neighbour ≡ mark_sign mark
  set_here [] all some = let bad : false ≡ true = some in cc
  set_here (bond ∷ bonds) all some =
      by (can_be_marked atom neighbour bond) refl some (λ e. set_here bonds all.1 e)
    where
      single : can_be_marked atom neighbour bond ≡ true → (bond.order == 1) ≡ true
      single e =
          (and_parts (bond.order == 1) (is_plain bond.mark)
          (and_parts (joins atom neighbour bond) ((bond.order == 1) && is_plain bond.mark) e).1).0

      by : (j : Bool) → can_be_marked atom neighbour bond ≡ j
          → (j || list_any (can_be_marked atom neighbour) bonds) ≡ true
          → (list_any (can_be_marked atom neighbour) bonds ≡ true → mark_to atom (all_set bonds) neighbour ≡ mark_sign mark)
          → (if is_narrow_at atom (cond j (one_set bond) bond) && ((cond j (one_set bond) bond).b == neighbour)
          then mark_sign (cond j (one_set bond) bond).mark else mark_to atom (all_set bonds) neighbour)
          ≡ mark_sign mark
      by true is h rest =
          λ i. if ((eq-eqb atom atom refl i) && single is i) && eq-eqb neighbour neighbour refl i
          then mark_sign mark else mark_to atom (all_set bonds) neighbour
      by false is h rest =
          ap (λ c. if c then mark_sign bond.mark else mark_to atom (all_set bonds) neighbour)
          (not_there bond all.0 is)
          ∙ rest h

  -- what each bond says
  pub marks_set : (bonds : List Bond) → AllByRecursion (IsBare atom) bonds
      → list_any (can_be_marked atom neighbour) bonds ≡ true → (n : ℕ)
      → mark_to atom (all_set bonds) n ≡ lone_mark (mark_sign mark) neighbour n
  marks_set bonds all some n =
      elim (cases_eq n neighbour) [
        | inl same ↦
            ap (mark_to atom (all_set bonds)) same ∙ set_here bonds all some
            ∙ ap (λ b. cond b (mark_sign mark) Zero) (sym (eq-eqb n neighbour same))
        | inr other ↦
            none_beside bonds all n other ∙ ap (λ b. cond b (mark_sign mark) Zero) (sym (ne_eqb n neighbour other))
      ]

  pub none_either : is_either mark ≡ false → (bonds : List Bond) → AllByRecursion (IsBare atom) bonds
      → has_either atom (all_set bonds) ≡ false
  none_either plain [] all = refl
  none_either plain (bond ∷ bonds) all = by (can_be_marked atom neighbour bond) (none_either plain bonds all.1)
    where
      bare : (b : Bool) → is_narrow_at atom bond ≡ b → (b && is_either bond.mark) ≡ false
      bare true is = ap is_either (all.0 is)
      bare false is = refl

      by : (j : Bool) → has_either atom (all_set bonds) ≡ false
          → (is_narrow_at atom (cond j (one_set bond) bond) && is_either (cond j (one_set bond) bond).mark
          || has_either atom (all_set bonds))
          ≡ false
      by true e =
          ap (λ c. c || has_either atom (all_set bonds))
          (and_off (is_narrow_at atom (one_set bond)) (is_either mark) plain) ∙ e
      by false e = ap (λ c. c || has_either atom (all_set bonds)) (bare (is_narrow_at atom bond) refl) ∙ e

-- votes that say what one sign says
pub record SayOne (all : List Sign) (sign : Sign) : Type 0 where
  pub plus : has_plus all ≡ is_plus sign
  pub minus : has_minus all ≡ is_minus sign

-- and so for each sign, turned n times
pub record SayTurned (all : Sign → List Sign) : Type 0 where
  pub times : ℕ
  pub say : (sign : Sign) → SayOne (all sign) (turned times sign)

zero_turned : (times : ℕ) → turned times Zero ≡ Zero
zero_turned times = by (times % 2 == 0)
  where
    by : (even : Bool) → (if even then Zero else opposite Zero) ≡ Zero
    by true = refl
    by false = refl

module _ (neighbour : ℕ) where
  abbrev lone : Sign → List ℕ → List Sign
  lone sign numbers = map (lone_mark sign neighbour) numbers

  -- a test that zero doesn't pass
  any_lone : (test : Sign → Bool) → test Zero ≡ false → (sign : Sign) (numbers : List ℕ)
      → is_in neighbour numbers ≡ true → list_any test (lone sign numbers) ≡ test sign
  any_lone test none sign [] here = let bad : false ≡ true = here in cc
  any_lone test none sign (n ∷ numbers) here =
      by (n == neighbour) here (test sign) refl (λ e. any_lone test none sign numbers e) (stays sign numbers)
    where
      stays : (s : Sign) (ns : List ℕ) → test s ≡ false → list_any test (lone s ns) ≡ false
      stays s [] e = refl
      stays s (m ∷ ns) e = inner (m == neighbour) (stays s ns e)
        where
          inner : (b : Bool) → list_any test (lone s ns) ≡ false
              → (test (cond b s Zero) || list_any test (lone s ns)) ≡ false
          inner true f = ap (λ t. t || list_any test (lone s ns)) e ∙ f
          inner false f = ap (λ t. t || list_any test (lone s ns)) none ∙ f

      by : (b : Bool) → (b || is_in neighbour numbers) ≡ true → (t : Bool) → test sign ≡ t
          → (is_in neighbour numbers ≡ true → list_any test (lone sign numbers) ≡ test sign)
          → (test sign ≡ false → list_any test (lone sign numbers) ≡ false)
          → (test (cond b sign Zero) || list_any test (lone sign numbers)) ≡ test sign
      by true h true e rest off = ap (λ t. t || list_any test (lone sign numbers)) e ∙ sym e
      by true h false e rest off = or_off (test sign) (list_any test (lone sign numbers)) (off e)
      by false h t e rest off = ap (λ t. t || list_any test (lone sign numbers)) none ∙ rest h

  -- of three
  pub lone_votes : (numbers : List ℕ) → is_in neighbour numbers ≡ true → SayTurned (λ sign. lone sign numbers)
  lone_votes numbers here = record {
    times = 0;
    say = λ sign. record {
      plus = any_lone is_plus refl sign numbers here;
      minus = any_lone is_minus refl sign numbers here;
    };
  }

  none_turned : (test : Sign → Bool) → test Zero ≡ false → (sign : Sign) (places numbers : List ℕ)
      → is_in neighbour numbers ≡ false → list_any test (turned_by_place places (lone sign numbers)) ≡ false
  none_turned test none sign [] numbers off = refl
  none_turned test none sign (p ∷ places) [] off = refl
  none_turned test none sign (p ∷ places) (n ∷ numbers) off =
      by (n == neighbour) off (λ e. none_turned test none sign places numbers e)
    where
      by : (b : Bool) → (b || is_in neighbour numbers) ≡ false
          → (is_in neighbour numbers ≡ false
          → list_any test (turned_by_place places (lone sign numbers)) ≡ false)
          → (test (turned p (cond b sign Zero)) || list_any test (turned_by_place places (lone sign numbers))) ≡ false
      by true h rest = let bad : true ≡ false = h in cc
      by false h rest =
          ap (λ s. test s || list_any test (turned_by_place places (lone sign numbers))) (zero_turned p)
          ∙ ap (λ t. t || list_any test (turned_by_place places (lone sign numbers))) none
          ∙ rest h

  off_list : (n : ℕ) (numbers : List ℕ) → n ≡ neighbour → AllByRecursion (λ m. n ≢ m) numbers
      → is_in neighbour numbers ≡ false
  off_list n [] e all = refl
  off_list n (m ∷ numbers) e all =
      ap (λ b. b || is_in neighbour numbers) (ne_eqb m neighbour (λ f. all.0 (e ∙ sym f)))
      ∙ off_list n numbers e all.1

  -- of four, in counterclockwise order
  pub turned_votes : (places numbers : List ℕ) → length places ≡ length numbers → Pairwise ◌≢◌ numbers
      → is_in neighbour numbers ≡ true → SayTurned (λ sign. turned_by_place places (lone sign numbers))
  turned_votes places [] long differ here = let bad : false ≡ true = here in cc
  turned_votes [] (n ∷ numbers) long differ here = absurd (omega (arith, long))
  turned_votes (p ∷ places) (n ∷ numbers) long differ here =
      by (n == neighbour) refl here
      (λ e. turned_votes places numbers (omega (arith, long)) differ.1 e)
    where
      by : (b : Bool) → (n == neighbour) ≡ b → (b || is_in neighbour numbers) ≡ true
          → (is_in neighbour numbers ≡ true → SayTurned (λ sign. turned_by_place places (lone sign numbers)))
          → SayTurned (λ sign. turned p (cond b sign Zero) ∷ turned_by_place places (lone sign numbers))
      by true is h rest =
          let off = off_list n numbers (eqb-true n neighbour is) differ.0 in
          record {
            times = p;
            say = λ sign. record {
              plus = or_off (is_plus (turned p sign)) (has_plus (turned_by_place places (lone sign numbers)))
                  (none_turned is_plus refl sign places numbers off);
              minus = or_off (is_minus (turned p sign)) (has_minus (turned_by_place places (lone sign numbers)))
                  (none_turned is_minus refl sign places numbers off);
            };
          }
      by false is h rest =
          let later = rest h in
          record {
            times = later.times;
            say = λ sign. record {
              plus =
                  ap (λ s. is_plus s || has_plus (turned_by_place places (lone sign numbers))) (zero_turned p)
                  ∙ (later.say sign).plus;
              minus =
                  ap (λ s. is_minus s || has_minus (turned_by_place places (lone sign numbers))) (zero_turned p)
                  ∙ (later.say sign).minus;
            };
          }

  pub either_votes : (places numbers : List ℕ) → length places ≡ length numbers → Pairwise ◌≢◌ numbers
      → is_in neighbour numbers ≡ true → SayTurned (λ sign. votes places (lone sign numbers))
  either_votes places numbers long differ here = by (length places == 4)
    where
      by : (four : Bool)
          → SayTurned (λ sign. if four then turned_by_place places (lone sign numbers) else lone sign numbers)
      by true = turned_votes places numbers long differ here
      by false = lone_votes numbers here

  -- whichever the mark, it lies between the others or it doesn't
  same_nought : (one other : Sign) → is_zero one ≡ is_zero other → (numbers : List ℕ) (place : ℕ)
      → is_zero (mark_at (lone one numbers) place) ≡ is_zero (mark_at (lone other numbers) place)
  same_nought one other e [] zero = refl
  same_nought one other e [] (suc place) = refl
  same_nought one other e (n ∷ numbers) zero = by (n == neighbour)
    where
      by : (b : Bool) → is_zero (cond b one Zero) ≡ is_zero (cond b other Zero)
      by true = e
      by false = refl
  same_nought one other e (n ∷ numbers) (suc place) = same_nought one other e numbers place

  pub same_reentrant : (one other : Sign) → is_zero one ≡ is_zero other → (directions : List Vec2)
      (numbers : List ℕ)
      → is_reentrant directions (lone one numbers) ≡ is_reentrant directions (lone other numbers)
  same_reentrant one other e ds numbers =
      let z = same_nought one other e numbers in
      let at = direction_at ds in
      λ i. (length ds == 3)
      && ((not (z 0 i) && (lies_between (at 1) (at 0) (at 2) || lies_between (at 2) (at 0) (at 1)))
      || ((not (z 1 i) && (lies_between (at 0) (at 1) (at 2) || lies_between (at 2) (at 1) (at 0)))
      || (not (z 2 i) && (lies_between (at 0) (at 2) (at 1) || lies_between (at 1) (at 2) (at 0)))))

-- by whether some vote is Plus and some is Minus
abbrev tested : Bool → ℕ → Bool → Bool → Geometry
tested reentrant times plus minus =
    if plus && minus then Unknown Contradictory
    else if reentrant then Unknown Reentrant
    else if not (plus || minus) then Unknown NoMark
    else Known (sense_of (turned times (if plus then Plus else Minus)))

pub one_shows : (places : List ℕ) (all : List Sign) (sign : Sign) → is_zero sign ≡ false → SayOne all sign
    → by_votes false places all ≡ Known (sense_of (turned (inversions places) sign))
one_shows places all sign some say = by sign some say.plus say.minus
  where
    by : (s : Sign) → is_zero s ≡ false → has_plus all ≡ is_plus s → has_minus all ≡ is_minus s
        → by_votes false places all ≡ Known (sense_of (turned (inversions places) s))
    by Plus z e f = λ i. tested false (inversions places) (e i) (f i)
    by Minus z e f = λ i. tested false (inversions places) (e i) (f i)
    by Zero z e f = let bad : true ≡ false = z in cc

pub one_reentrant : (places : List ℕ) (all : List Sign) (sign : Sign) → is_zero sign ≡ false → SayOne all sign
    → by_votes true places all ≡ Unknown Reentrant
one_reentrant places all sign some say = by sign some say.plus say.minus
  where
    by : (s : Sign) → is_zero s ≡ false → has_plus all ≡ is_plus s → has_minus all ≡ is_minus s
        → by_votes true places all ≡ Unknown Reentrant
    by Plus z e f = λ i. tested true (inversions places) (e i) (f i)
    by Minus z e f = λ i. tested true (inversions places) (e i) (f i)
    by Zero z e f = let bad : true ≡ false = z in cc

-- the other mark, the other sense
pub other_sense : (one two : ℕ)
    → sense_of (turned one (turned two Minus)) ≡ senses.opposite (sense_of (turned one (turned two Plus)))
other_sense one two = by (one % 2 == 0) (two % 2 == 0)
  where
    by : (a b : Bool) → sense_of (if a then (if b then Minus else opposite Minus) else opposite
        (if b then Minus else opposite Minus))
        ≡ senses.opposite (sense_of (if a then (if b then Plus else opposite Plus) else opposite
        (if b then Plus else opposite Plus)))
    by true true = refl
    by true false = refl
    by false true = refl
    by false false = refl

pub turned_some : (times : ℕ) (sign : Sign) → is_zero (turned times sign) ≡ is_zero sign
turned_some times sign = by (times % 2 == 0) sign
  where
    by : (even : Bool) (s : Sign) → is_zero (if even then s else opposite s) ≡ is_zero s
    by true s = refl
    by false Plus = refl
    by false Minus = refl
    by false Zero = refl
