-- Lists of sites, an atom or a bond at a time.
use Rattle.std.proofs.Common.{◌≡◌, ◌+◌, ℕ, Bool, true, false, cond, List, [], ◌∷◌, ◌++◌, ◌<◌, length, drop, get_or, map, refl, sym, ap, ◌∙◌, append_assoc, arith}
use Rattle.std.specs.Prelude.{filter, flat_map}
use Rattle.std.specs.List.{range_with_len}
use Rattle.std.proofs.lemmas.List.{flat_map_more, map-append, map-id, drop_more}
use Rattle.std.proofs.lemmas.List.FromFn.{map-range_with_len_more}
use Rattle.cip_mol.specs.Drawing.{Drawing}
use Rattle.cip_mol.specs.declared.site.Geometry.{Geometry}
use Rattle.cip_mol.specs.declared.site.Site.{Site}
use Rattle.cip_mol.specs.declared.site.Unit as units
use Rattle.cip_mol.specs.Geometry.{geometry_of}
use Rattle.cip_digraph.specs.units.Allenes.{axis_sites}
use Rattle.cip_digraph.specs.units.Centres.{is_centre}
use Rattle.cip_digraph.specs.units.DoubleBonds.{bond_sites}
use Rattle.cip_digraph.specs.graph.Graph.{Graph, other_end}
use Rattle.cip_digraph.specs.units.Units.{centre_site, sites_of, units_of}
use Rattle.cip_digraph.specs.declared.drawing.graph.Edge.{Edge}
use Rattle.cip_unit.specs.Sites.{centre_sites, units_at, with_axes, with_bonds}

kept_by : {X Y : Type 0} (f : X → Y) (b : Bool) (x : X) (ys zs : List Y) → ys ≡ zs
    → cond b (f x ∷ ys) ys ≡ cond b (f x ∷ []) [] ++ zs
kept_by f true x ys zs e = ap (λ rest. f x ∷ rest) e
kept_by f false x ys zs e = e

map_kept : {X Y : Type 0} (f : X → Y) (b : Bool) (x : X) (xs : List X)
    → map f (cond b (x ∷ xs) xs) ≡ cond b (f x ∷ map f xs) (map f xs)
map_kept f true x xs = refl
map_kept f false x xs = refl

-- what passes a test, one at a time
pub kept_each : {X Y : Type 0} (f : X → Y) (test : X → Bool) (xs : List X)
    → map f (filter test xs) ≡ flat_map (λ x. cond (test x) (f x ∷ []) []) xs
kept_each f test [] = refl
kept_each f test (x ∷ xs) = map_kept f (test x) x (filter test xs) ∙ kept_by f (test x) x _ _ (kept_each f test xs)

pub range_more : (n : ℕ) → range_with_len 0 (n + 1) ≡ range_with_len 0 n ++ n ∷ []
range_more n =
    sym (map-id (range_with_len 0 (n + 1))) ∙ map-range_with_len_more (λ (k : ℕ). k) 0 n n (omega arith)
    ∙ ap (λ ns. ns ++ n ∷ []) (map-id (range_with_len 0 n))

pub flat_more : {Y : Type 0} (f : ℕ → List Y) (n : ℕ)
    → flat_map f (range_with_len 0 (n + 1)) ≡ flat_map f (range_with_len 0 n) ++ f n
flat_more f n = ap (flat_map f) (range_more n) ∙ sym (flat_map_more f [] (range_with_len 0 n) n)

pub units_more : (drawing : Drawing) (sites : ℕ → List Site) (atom : ℕ) (old now more : List units.Unit)
    → now ≡ old ++ units_at drawing (flat_map sites (range_with_len 0 atom))
    → more ≡ now ++ units_at drawing (sites atom)
    → more ≡ old ++ units_at drawing (flat_map sites (range_with_len 0 (atom + 1)))
units_more drawing sites atom old now more before is =
    is ∙ ap (λ us. us ++ units_at drawing (sites atom)) before
    ∙ append_assoc old (units_at drawing (flat_map sites (range_with_len 0 atom))) (units_at drawing (sites atom))
    ∙ ap (λ us. old ++ us)
    (sym (map-append _ (flat_map sites (range_with_len 0 atom)) (sites atom))
    ∙ ap (units_at drawing) (sym (flat_more sites atom)))

pub one_is : {X : Type 0} (b : Bool) (x : X) → b ≡ true → x ∷ [] ≡ cond b (x ∷ []) []
one_is b x e = rw e refl

count_by : (test : ℕ → Bool) (n : ℕ) (ns : List ℕ) (b : Bool) → test n ≡ b
    → cond b 1 0 + length (filter test ns) ≡ length (filter test (n ∷ ns))
count_by test n ns true e = rw e (omega arith)
count_by test n ns false e = rw e (omega arith)

pub count_next : (test : ℕ → Bool) (vertex : ℕ) (items edges : List Edge) (k : ℕ) (d : Edge) (count step total : ℕ)
    → items ≡ edges → k < length items
    → count + length (filter test (map (other_end vertex) (drop k edges))) ≡ total
    → step ≡ cond (test (other_end vertex (get_or items k d))) 1 0
    → (count + step) + length (filter test (map (other_end vertex) (drop (k + 1) edges))) ≡ total
count_next test vertex items edges k d count step total same lt before is =
    let within : k < length edges = rw (← same) lt in
    let here : drop k edges ≡ get_or edges k d ∷ drop (k + 1) edges = drop_more edges k d within in
    let n = other_end vertex (get_or edges k d) in
    let there : step ≡ cond (test n) 1 0 = is ∙ ap (λ es. cond (test (other_end vertex (get_or es k d))) 1 0) same in
    let sum = count_by test n (map (other_end vertex) (drop (k + 1) edges)) (test n) refl in
    let all = ap (λ es. length (filter test (map (other_end vertex) es))) here in
    omega (arith, before, there, sum, all)

pub units_are : (drawing : Drawing) (graph : Graph) (positions : List (List ℕ)) (count : ℕ)
    (none first all : List units.Unit) → count ≡ graph.drawn → none ≡ []
    → first ≡ none ++ units_at drawing (flat_map (centre_sites graph) (range_with_len 0 count))
    → all ≡ with_axes drawing graph count (with_bonds drawing graph positions count first)
    → all ≡ units_of (geometry_of drawing) graph positions
unfolding sites_of
units_are drawing graph positions count none first all same e f g =
    let atoms = range_with_len 0 graph.drawn in
    let centres = map (centre_site graph) (filter (is_centre graph) atoms) in
    let bonds = flat_map (bond_sites graph positions) atoms in
    let axes = flat_map (axis_sites graph) atoms in
    let unit : Site → units.Unit = λ site. record { site = site; geometry = geometry_of drawing site } in
    let begun : first ≡ units_at drawing centres = f
    ∙ rw (e, same) (ap (units_at drawing) (sym (kept_each (centre_site graph) (is_centre graph) atoms))) in
    let more : with_bonds drawing graph positions count first ≡ units_at drawing (centres ++ bonds) =
    rw (begun, same) (sym (map-append unit centres bonds)) in
    g ∙ rw (more, same) (sym (map-append unit (centres ++ bonds) axes))

-- the sites of units are those of which they were made
abbrev pub unit_of : (Site → Geometry) → Site → units.Unit
unit_of geometry site = record { site = site; geometry = geometry site }

pub sites_kept : (geometry : Site → Geometry) (sites : List Site) →
    map (λ unit. unit.site) (map (unit_of geometry) sites) ≡ sites
sites_kept geometry [] = refl
sites_kept geometry (site ∷ sites) = ap (λ rest. site ∷ rest) (sites_kept geometry sites)
