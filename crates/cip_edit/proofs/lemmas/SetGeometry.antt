-- What a drawing shows of a centre at which a mark is set: a sense, and with the other mark the other one.
use Rattle.std.proofs.Common.{◌≡◌, ◌≢◌, ℕ, List, [], ◌∷◌, ◌++◌, map, length, refl, sym, ap, subst, ◌∙◌, Bool, true, false, cond, ◌==◌, ◌||◌, nat_lt, eq-eqb}
use Rattle.std.specs.Prelude.{if◌then◌else◌, Some, None, filter}
use Rattle.std.specs.List.{list_any, cons_option}
use Rattle.std.proofs.lemmas.List.{length-map}
use Rattle.cip_num.specs.declared.plane.Sign.{Sign}
use Rattle.cip_num.specs.declared.plane.Sign.TheVariants.{Plus}
use Rattle.cip_num.specs.declared.plane.Vec2.{Vec2}
use Rattle.cip_num.specs.Signs.{is_zero}
use Rattle.cip_num.specs.Around.{has_coincident, place, places}
use Rattle.cip_mol.specs.DrawnLigands.{drawn}
use Rattle.cip_mol.specs.FlatCentres.{turned, votes, is_reentrant, inversions, by_votes, in_plane}
use Rattle.cip_mol.specs.Geometry.{of_centre}
use Rattle.cip_mol.specs.Marks.{is_either, mark_sign, mark_to}
use Rattle.cip_mol.specs.Points.{point, flat_step, flat_steps, is_spatial}
use Rattle.cip_mol.specs.Senses.{sense_of}
use Rattle.cip_mol.specs.SpatialCentres.{in_space}
use Rattle.cip_mol.specs.declared.labels.descriptor.Sense.{Sense}
use Rattle.cip_mol.specs.declared.graph.molecule.Atom.{Atom}
use Rattle.cip_mol.specs.declared.graph.molecule.Bond.{Bond}
use Rattle.cip_mol.specs.declared.graph.molecule.Mark.{Mark}
use Rattle.cip_mol.specs.declared.graph.molecule.Mark.TheVariants.{Up, Down}
use Rattle.cip_mol.specs.declared.site.Cause.TheVariants.{Either, Coincident, Reentrant}
use Rattle.cip_mol.specs.declared.site.Geometry.{Geometry}
use Rattle.cip_mol.specs.declared.site.Geometry.TheVariants.{Known, Unknown}
use Rattle.cip_mol.specs.declared.site.Ligand.{Ligand}
use Rattle.cip_mol.specs.declared.site.Ligand.TheVariants as ligands
use Rattle.cip_digraph.specs.graph.Graph.{Graph, neighbours}
use Rattle.cip_digraph.specs.graph.SoundGraphs.{IsSound}
use Rattle.cip_digraph.specs.rings.Alternating.{is_in}
use Rattle.cip_digraph.specs.units.Centres.{centre_ligands}
use Rattle.cip_digraph.specs.units.Descriptors.{opposite}
use Rattle.cip_digraph.proofs.lemmas.lists.Elements.{Pairwise, pairwise_filtered}
use Rattle.cip_digraph.proofs.lemmas.bonds.Neighbours.{neighbours_differ}
use Rattle.cip_edit.specs.Marking.{bare_bonds, marked_to, can_be_marked, first_where, shows_reentrant}
use Rattle.cip_edit.proofs.lemmas.RootPaths.{or_right}
use Rattle.cip_edit.proofs.lemmas.LoneMarks.{all_bare, lone_mark, marks_set, none_either, SayTurned, either_votes, same_reentrant, one_shows, one_reentrant, other_sense, turned_some}

-- the drawn ones of a centre's neighbours
drawn_vertices : (atoms : ℕ) (nearer : List ℕ) (rest : List Ligand) → drawn atoms rest ≡ []
    → drawn atoms (map ligands.Vertex nearer ++ rest) ≡ filter (λ n. nat_lt n atoms) nearer
drawn_vertices atoms [] rest none = none
drawn_vertices atoms (n ∷ nearer) rest none = by (nat_lt n atoms) (drawn_vertices atoms nearer rest none)
  where
    by : (b : Bool) → drawn atoms (map ligands.Vertex nearer ++ rest) ≡ filter (λ m. nat_lt m atoms) nearer
        → cons_option (if b then Some n else None) (drawn atoms (map ligands.Vertex nearer ++ rest))
        ≡ cond b (n ∷ filter (λ m. nat_lt m atoms) nearer) (filter (λ m. nat_lt m atoms) nearer)
    by true e = ap (λ ns. n ∷ ns) e
    by false e = e

pub ligands_differ : (graph : Graph) → IsSound graph → (atoms v : ℕ)
    → Pairwise ◌≢◌ (drawn atoms (centre_ligands graph v))
ligands_differ graph sound atoms v =
    subst (Pairwise ◌≢◌) (sym (drawn_vertices atoms (neighbours graph v) _ (none (length (neighbours graph v) == 3))))
    (pairwise_filtered ◌≢◌ (λ n. nat_lt n atoms) (neighbours graph v) (neighbours_differ graph sound v))
  where
    none : (b : Bool) → drawn atoms (cond b (ligands.LonePair ∷ []) []) ≡ []
    none true = refl
    none false = refl

-- what is found first is in the list and passes the test
pub record FoundFirst (test : ℕ → Bool) (numbers : List ℕ) (found : ℕ) : Type 0 where
  pub passes : test found ≡ true
  pub here : is_in found numbers ≡ true

pub found_first : (test : ℕ → Bool) (numbers : List ℕ) (found : ℕ) → first_where test numbers ≡ Some found
    → FoundFirst test numbers found
found_first test [] found e = let bad : None ≡ Some found = e in cc
found_first test (n ∷ numbers) found e = by (test n) refl e (λ f. found_first test numbers found f)
  where
    same : (m k : ℕ) → Some m ≡ Some k → m ≡ k
    same m k f = cc

    by : (b : Bool) → test n ≡ b → cond b (Some n) (first_where test numbers) ≡ Some found
        → (first_where test numbers ≡ Some found → FoundFirst test numbers found)
        → FoundFirst test (n ∷ numbers) found
    by true is f rest =
        let here : n ≡ found = same n found f in
        record {
          passes = ap test (sym here) ∙ is;
          here = ap (λ b. b || is_in found numbers) (eq-eqb n found here);
        }
    by false is f rest =
        let later = rest f in
        record { passes = later.passes; here = or_right (n == found) (is_in found numbers) later.here }

module _ (atoms : List Atom) (bonds : List Bond) (at neighbour : ℕ) (numbers : List ℕ)
    (flat : is_spatial atoms ≡ false) (clear : has_coincident (flat_steps atoms at numbers) ≡ false)
    (differ : Pairwise ◌≢◌ numbers) (here : is_in neighbour numbers ≡ true)
    (free : list_any (can_be_marked at neighbour) (bare_bonds at bonds) ≡ true) where
  abbrev ds : List Vec2
  ds = flat_steps atoms at numbers

  abbrev lone : Sign → List Sign
  lone sign = map (lone_mark sign neighbour) numbers

  as_many : length (places ds) ≡ length numbers
  as_many = length-map ds (place ds) ∙ length-map numbers (λ n. flat_step (point atoms at) (point atoms n))

  pub say : SayTurned (λ sign. votes (places ds) (lone sign))
  say = either_votes neighbour (places ds) numbers as_many differ here

  abbrev shown_with : Mark → Geometry
  shown_with mark = of_centre atoms (map (marked_to at neighbour mark) (bare_bonds at bonds)) at numbers

  by_one : (mark : Mark) → is_either mark ≡ false
      → shown_with mark
      ≡ by_votes (is_reentrant ds (lone (mark_sign mark))) (places ds) (votes (places ds) (lone (mark_sign mark)))
  by_one mark known =
      let set = map (marked_to at neighbour mark) (bare_bonds at bonds) in
      ap
      (λ c. if c then Unknown Either
      else if is_spatial atoms then in_space (point atoms at) (map (point atoms) numbers)
      else in_plane ds (map (mark_to at set) numbers))
      (none_either at neighbour mark known (bare_bonds at bonds) (all_bare at bonds))
      ∙ ap
      (λ c. if c then in_space (point atoms at) (map (point atoms) numbers)
      else in_plane ds (map (mark_to at set) numbers)) flat
      ∙ ap (λ (f : ℕ → Sign). in_plane ds (map f numbers))
      (λ i n. marks_set at neighbour mark (bare_bonds at bonds) (all_bare at bonds) free n i)
      ∙ ap
      (λ c. if c then Unknown Coincident
      else by_votes (is_reentrant ds (lone (mark_sign mark))) (places ds)
      (votes (places ds) (lone (mark_sign mark)))) clear

  -- where a mark there isn't reentrant
  module _ (calm : shows_reentrant (shown_with Up) ≡ false) where
    lies_outside : is_reentrant ds (lone Plus) ≡ false
    lies_outside = by (is_reentrant ds (lone Plus)) refl
      where
        by : (b : Bool) → is_reentrant ds (lone Plus) ≡ b → b ≡ false
        by true e =
            let shown : shown_with Up ≡ Unknown Reentrant =
            by_one Up refl ∙ ap (λ r. by_votes r (places ds) (votes (places ds) (lone Plus))) e
            ∙ one_reentrant (places ds) (votes (places ds) (lone Plus)) (turned say.times Plus)
            (turned_some say.times Plus) (say.say Plus) in
            sym (ap shows_reentrant shown) ∙ calm
        by false e = refl

    shown : (mark : Mark) → is_either mark ≡ false → is_zero (mark_sign mark) ≡ false
        → shown_with mark ≡ Known (sense_of (turned (inversions (places ds)) (turned say.times (mark_sign mark))))
    shown mark known some =
        by_one mark known
        ∙ ap (λ r. by_votes r (places ds) (votes (places ds) (lone (mark_sign mark))))
        (same_reentrant neighbour (mark_sign mark) Plus some ds numbers ∙ lies_outside)
        ∙ one_shows (places ds) (votes (places ds) (lone (mark_sign mark))) (turned say.times (mark_sign mark))
        (turned_some say.times (mark_sign mark) ∙ some) (say.say (mark_sign mark))

    abbrev pub up_sense : Sense
    up_sense = sense_of (turned (inversions (places ds)) (turned say.times Plus))

    pub up_shows : shown_with Up ≡ Known up_sense
    up_shows = shown Up refl refl

    pub down_shows : shown_with Down ≡ Known (opposite up_sense)
    down_shows = shown Down refl refl ∙ ap Known (other_sense (inversions (places ds)) say.times)
