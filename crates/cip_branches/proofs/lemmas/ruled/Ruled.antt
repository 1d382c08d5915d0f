-- A rule whose earlier order ties throughout, taken with each sphere that is walked.
use Rattle.std.proofs.Common.{◌≡◌, ◌<◌, ◌≤◌, ◌-◌, ℕ, ℤ, suc, Bool, List, [], ◌∷◌, map, length, slice_index, refl, sym, ap, ◌∙◌, subst, arith, inl, inr}
use Rattle.std.specs.declared.cmp.Ordering.{Ordering}
use Rattle.std.specs.declared.cmp.Ordering.TheVariants.{Equal}
use Rattle.std.specs.Cmp.{IsTotalOrder}
use Rattle.std.specs.List.{AllByRecursion}
use Rattle.std.specs.List.Sorted.{IsPermutation}
use Rattle.std.specs.Ordering.{nat_cmp, int_cmp, ordering_then}
use Rattle.std.proofs.lemmas.Bool.{cases_lt}
use Rattle.std.proofs.lemmas.List.Sorted.{IsPermutation-refl}
use Rattle.std.proofs.lemmas.Cmp.{tied_itself, nat_cmp_total}
use Rattle.cip_rank.specs.Comparison.{comparison}
use Rattle.cip_rank.specs.Ranking.{by_number, key_at}
use Rattle.cip_rank.proofs.lemmas.Descending.{all_by}
use Rattle.cip_branches.specs.Following.{AreRanked, Begins as TopsBegin}
use Rattle.cip_partition.specs.Kids.{kids_of}
use Rattle.cip_branches.specs.SphereColumns.{SphereColumns, with_sphere}
use Rattle.cip_partition.specs.Parting.{has_flag}
use Rattle.cip_branches.specs.Passing.{Passes}
use Rattle.cip_partition.specs.Keys.{AreKeyed, key_of}
use Rattle.cip_partition.specs.Ranked.{Ranked}
use Rattle.cip_branches.specs.Refining.{Refines}
use Rattle.cip_branches.specs.Ruled.{IsWanted, IsBelow, WantsFewer, node_of, IsRuled, Names}
use Rattle.cip_branches.specs.Turning.{in_sphere, SamePlaces}
use Rattle.cip_branches.specs.Views.{IsView, Reaches, AreAhead, Begins}
use Rattle.cip_branches.specs.Walking.{LastPlaces, Walks, MayWalk}
use Rattle.cip_branches.proofs.lemmas.refined.Further.{begun}
use Rattle.std.proofs.lemmas.Simd.{map-map}
use Rattle.cip_partition.proofs.lemmas.Cases.{both, holds_among}
use Rattle.cip_branches.proofs.lemmas.refined.Inwards.{reaches_next}
use Rattle.cip_branches.proofs.lemmas.walked.Next.{old_at, at_old, is_known, at_new, which, told_at, up_at}

pub map_same : {N : Type 0} (f g : ℕ → N) (places : List ℕ) → AllByRecursion (λ p. f p ≡ g p) places
    → map f places ≡ map g places
map_same f g [] same = refl
map_same f g (p ∷ places) same = ap (λ n. n ∷ map f places) same.0 ∙ ap (λ ns. g p ∷ ns) (map_same f g places same.1)

module _ {N : Type 0} (children : N → List N) (earlier : N → N → Ordering) (o : IsTotalOrder earlier)
    (ties : (a b : N) → earlier a b ≡ Equal) (key : N → ℤ) (named : ℕ → N)
    (begin : SphereColumns) (first last size : ℕ) (kids_at : ℕ → List ℕ) (unresolved : List Bool) (keys : List ℤ)
    (may : MayWalk size kids_at unresolved first last begin)
    (below : (k : ℕ) → k < length begin.ranked.rows → slice_index begin.ranked.rows k < length begin.place_tree.place_parents)
    (walked : SphereColumns) (walks : Walks begin first size kids_at unresolved (length begin.place_tree.place_parents) walked)
    (ruled : IsRuled children earlier key named begin unresolved last)
    (names : Names children earlier key named begin unresolved last size kids_at keys)
    (keyed : AreKeyed size begin.place_tree) where
  abbrev mid : SphereColumns
  mid = with_sphere walked

  abbrev At : ℕ → ℕ → Type 0
  At = IsWanted mid unresolved

  abbrev node : ℕ → N
  node = node_of children earlier key named mid

  was_at : (t place : ℕ) → t ≤ last → At t place → IsWanted begin unresolved t place
  was_at t place le p =
      let at = at_old begin first last size kids_at unresolved may below walked walks t place le p.at in
      record {
        at = at;
        chosen = ap (has_flag unresolved)
            (sym (walks.grows.branch place (is_known begin first last size kids_at unresolved may below
            walked walks t place le at))) ∙ p.chosen;
      }

  known : (t place : ℕ) → t ≤ last → At t place → place < length begin.place_tree.place_parents
  known t place le p = is_known begin first last size kids_at unresolved may below walked walks t place le
      (was_at t place le p).at

  same_node : (t place : ℕ) → t ≤ last → At t place → node place ≡ node_of children earlier key named begin place
  same_node t place le p = ap named (walks.grows.node place (known t place le p))

  kids_same : (t place : ℕ) → t < last → At t place → kids_of mid.place_tree place ≡ kids_of begin.place_tree place
  kids_same t place lt p = walks.untouched place (known t place (omega (arith, lt)) p) (inl (may.places.inner t place lt
      (was_at t place (omega (arith, lt)) p).at))

  -- the children of a place of the last sphere of before are new
  kids_new : (place : ℕ) → At last place → AllByRecursion (λ kid. (length begin.place_tree.place_parents ≤ kid)
      × (kid < length mid.place_tree.place_parents) × (slice_index mid.place_tree.place_parents kid ≡ place)) (kids_of mid.place_tree place)
  kids_new place p =
      let was = was_at last place (omega arith) p in
      walks.done place (may.places.low place was.at) (may.places.high place was.at)

  kid_known : (t place : ℕ) → t < last → At t place → AllByRecursion (λ kid. kid < length begin.place_tree.place_parents)
      (kids_of begin.place_tree place)
  kid_known t place lt p =
      all_by (λ kid h. is_known begin first last size kids_at unresolved may below walked walks (suc t) kid
      (omega (arith, lt)) h.at) (kids_of begin.place_tree place) (ruled.view.next t place lt
      (was_at t place (omega (arith, lt)) p))

  inherits : (t place : ℕ) → t < suc last → At t place
      → AllByRecursion (λ kid. slice_index mid.place_tree.branches kid ≡ slice_index mid.place_tree.branches place)
      (kids_of mid.place_tree place)
  inherits t place lt p = elim (cases_lt t last) [
    | inl inner ↦
        let was = was_at t place (omega (arith, inner)) p in
        let here = walks.grows.branch place (known t place (omega (arith, inner)) p) in
        rw (kids_same t place inner p)
        (all_by (λ kid h. walks.grows.branch kid h.0 ∙ h.1 ∙ sym here) (kids_of begin.place_tree place)
        (both (λ kid. kid < length begin.place_tree.place_parents) (λ kid. slice_index begin.place_tree.branches kid
        ≡ slice_index begin.place_tree.branches place) (kids_of begin.place_tree place) (kid_known t place inner p)
        (ruled.inherits t place inner was)))
    | inr outer ↦
        let here : t ≡ last = omega (arith, lt, outer) in
        let at = subst (λ u. At u place) here p in
        all_by (λ kid h. walks.new_branch kid h.0 h.1 ∙ ap (slice_index begin.place_tree.branches) h.2
        ∙ sym (walks.grows.branch place (known last place (omega arith) at))) (kids_of mid.place_tree place)
        (kids_new place at)
  ]

  above : (t place : ℕ) → t < suc last → At (suc t) place → IsBelow mid unresolved t place
  above t place lt p = elim (cases_lt t last) [
    | inl inner ↦
        let was = was_at (suc t) place (omega (arith, inner)) p in
        let old = ruled.above t place inner was in
        let parent_place = slice_index begin.place_tree.place_parents place in
        let here : IsWanted mid unresolved t parent_place = record {
          at = old_at begin first last size kids_at unresolved may below walked walks t parent_place (omega (arith, inner)) old.parent_place.at;
          chosen = ap (has_flag unresolved) (walks.grows.branch parent_place (is_known begin first last size kids_at unresolved may below
              walked walks t parent_place (omega (arith, inner)) old.parent_place.at)) ∙ old.parent_place.chosen;
        } in
        let same = sym (walks.grows.parent_place place (known (suc t) place (omega (arith, inner)) p)) in
        record {
          parent_place = subst (At t) same here;
          kid = rw (sym same, kids_same t parent_place inner here) old.kid;
        }
    | inr outer ↦
        let at : t ≡ last = omega (arith, lt, outer) in
        let new = at_new begin first last size kids_at unresolved may below walked walks place
        (subst (λ u. in_sphere mid.ranked.rows mid.starts (suc u) place) at p.at) in
        let parent_place = slice_index mid.place_tree.place_parents place in
        record {
          parent_place = record {
            at = up_at begin first last size kids_at unresolved may below walked walks t place lt p.at;
            chosen = ap (has_flag unresolved) (walks.grows.branch parent_place (walks.new_high place new.0 new.1))
                ∙ walks.wanted_above place new.0 new.1;
          };
          kid = walks.new_kid place new.0 new.1;
        }
  ]

  node_data : (t place : ℕ) → t < suc last → At t place → IsPermutation (map node (kids_of mid.place_tree place))
      (children (node place))
  node_data t place lt p = elim (cases_lt t last) [
    | inl inner ↦
        let was = was_at t place (omega (arith, inner)) p in
        let old = node_of children earlier key named begin in
        let nodes : map node (kids_of mid.place_tree place) ≡ map old (kids_of begin.place_tree place) =
        ap (map node) (kids_same t place inner p)
        ∙ map_same node old (kids_of begin.place_tree place) (all_by (λ kid lt. ap named (walks.grows.node kid lt))
        (kids_of begin.place_tree place) (kid_known t place inner p)) in
        rw (nodes, same_node t place (omega (arith, inner)) p) (ruled.view.node_data t place inner was)
    | inr outer ↦
        let here : t ≡ last = omega (arith, lt, outer) in
        let at = subst (λ u. At u place) here p in
        let was = was_at last place (omega arith) at in
        let nodes : map node (kids_of mid.place_tree place) ≡ children (node place) =
        sym (map-map named (slice_index mid.place_tree.nodes) (kids_of mid.place_tree place))
        ∙ ap (map named) (walks.node_data place (may.places.low place was.at) (may.places.high place was.at) was.chosen)
        ∙ names.node_data place was ∙ ap children (sym (same_node last place (omega arith) at)) in
        subst (IsPermutation (map node (kids_of mid.place_tree place))) nodes
        (IsPermutation-refl (map node (kids_of mid.place_tree place)))
  ]

  view : IsView children node (kids_of mid.place_tree) At (suc last)
  view = record {
    within = λ t place p. elim (which begin first last size kids_at unresolved may below walked walks t p.at.row p.at.low
        p.at.high) [
          | inl inner ↦ omega (arith, inner)
          | inr at ↦ omega (arith, at)
        ];
    next = λ t place lt p. all_by (λ kid h. record {
      at = h.0.0;
      chosen = ap (has_flag unresolved) h.1 ∙ p.chosen;
    }) (kids_of mid.place_tree place) (both (λ kid. in_sphere mid.ranked.rows mid.starts (suc t) kid
        × (slice_index mid.place_tree.place_parents kid ≡ place)) (λ kid. slice_index mid.place_tree.branches kid
        ≡ slice_index mid.place_tree.branches place) (kids_of mid.place_tree place)
        (told_at begin first last size kids_at unresolved may below walked walks t place lt p.at) (inherits t place lt p));
    node_data = node_data;
  }

  reaches : Reaches children earlier key node At last mid.ranked.numbers
  reaches = record {
    each = λ t le. record {
      each = λ a b p q.
          let old = node_of children earlier key named begin in
          let rule = comparison children earlier key (last - t) in
          ap (λ n. nat_cmp n (slice_index mid.ranked.numbers b)) (walks.grows.number a (known t a le p))
          ∙ ap (nat_cmp (slice_index begin.ranked.numbers a)) (walks.grows.number b (known t b le q))
          ∙ (ruled.reaches.each t le).each a b (was_at t a le p) (was_at t b le q)
          ∙ ap (λ n. rule n (old b)) (sym (same_node t a le p))
          ∙ ap (rule (node a)) (sym (same_node t b le q));
    };
  }

  is_new : (t place : ℕ) → last < t → At t place → (length begin.place_tree.place_parents ≤ place) × (place < length mid.place_tree.place_parents)
  is_new t place lt p =
      elim (which begin first last size kids_at unresolved may below walked walks t p.at.row p.at.low p.at.high) [
        | inl inner ↦ absurd (omega (arith, lt, inner))
        | inr at ↦ at_new begin first last size kids_at unresolved may below walked walks place (subst (λ u. in_sphere
            mid.ranked.rows mid.starts u place) at p.at)
      ]

  ahead : AreAhead children earlier key node At last mid.ranked.numbers
  ahead = record {
    each = λ t lt. record {
      each = λ a b p q.
          let new_a = is_new t a lt p in
          let new_b = is_new t b lt q in
          ap (λ n. nat_cmp n (slice_index mid.ranked.numbers b)) (walks.grows.new_number a new_a.0 new_a.1)
          ∙ ap (nat_cmp (length begin.ranked.rows)) (walks.grows.new_number b new_b.0 new_b.1)
          ∙ tied_itself nat_cmp_total (length begin.ranked.rows) ∙ sym (ties (node a) (node b));
    };
  }

  module _ (ranked : Ranked) (before : List ℕ) (places : SamePlaces mid.ranked.rows ranked.rows mid.starts)
      (passed : Passes (kids_of mid.place_tree) (in_sphere mid.ranked.rows mid.starts) last (key_of keys mid.place_tree)
      mid.ranked.numbers ranked.numbers) where
    key_is : (place : ℕ) → At (suc last) place → key_of keys mid.place_tree place ≡ key (node place)
    key_is place p =
        let new = is_new (suc last) place (omega arith) p in
        names.same_key (slice_index mid.place_tree.nodes place) (walks.new_node place new.0 new.1)

    begins : Begins children earlier key node At last mid.ranked.numbers passed.start
    begins = begun children earlier key node At last mid.ranked.numbers passed.start ahead (record {
      each = λ a b p q. passed.split.each a b p.at q.at
          ∙ ap (λ z. ordering_then (by_number mid.ranked.numbers a b) (int_cmp z (key_of keys mid.place_tree b))) (key_is a p)
          ∙ ap (λ z. ordering_then (by_number mid.ranked.numbers a b) (int_cmp (key (node a)) z)) (key_is b q);
    }) (λ t place differ p. passed.others t place differ p.at)

    refines : Refines (kids_of mid.place_tree) At last 0 passed.start ranked.numbers
    refines = record {
      ordered = λ t low high. record {
        each = λ a b p q. (passed.refines.ordered t low high).each a b p.at q.at;
      };
      inside = λ t place lt p. passed.refines.inside t place lt p.at;
      outside = λ t place lt p. passed.refines.outside t place lt p.at;
    }

    reached : Reaches children earlier key node At (suc last) ranked.numbers
    reached = reaches_next children node (kids_of mid.place_tree) At (suc last) view earlier o key last (omega arith)
        mid.ranked.numbers reaches passed.start ranked.numbers begins refines

    there : (t place : ℕ) → IsWanted (record mid { ranked = ranked; before = before }) unresolved t place → At t place
    there t place p = record { at = places.there t place p.at; chosen = p.chosen }

    back : (t place : ℕ) → At t place → IsWanted (record mid { ranked = ranked; before = before }) unresolved t place
    back t place p = record { at = places.here t place p.at; chosen = p.chosen }

    -- the rule is taken with one sphere more
    pub ruled_next : IsRuled children earlier key named (record mid { ranked = ranked; before = before }) unresolved
        (suc last)
    ruled_next = record {
      inherits = λ t place lt p. inherits t place lt (there t place p);
      above = λ t place lt p.
          let is = above t place lt (there (suc t) place p) in
          record { parent_place = back t (slice_index mid.place_tree.place_parents place) is.parent_place; kid = is.kid };
      view = record {
        within = λ t place p. view.within t place (there t place p);
        next = λ t place lt p. all_by (λ kid h. back (suc t) kid h) (kids_of mid.place_tree place)
            (view.next t place lt (there t place p));
        node_data = λ t place lt p. view.node_data t place lt (there t place p);
      };
      reaches = record {
        each = λ t le. record {
          each = λ a b p q. (reached.each t le).each a b (there t a p) (there t b q);
        };
      };
    }

-- fewer unresolved branches are ruled too
pub ruled_fewer : {N : Type 0} (children : N → List N) (earlier : N → N → Ordering) (key : N → ℤ) (named : ℕ → N)
    (now : SphereColumns) (unresolved fewer : List Bool) (last : ℕ) → WantsFewer unresolved fewer
    → IsRuled children earlier key named now unresolved last → IsRuled children earlier key named now fewer last
ruled_fewer children earlier key named now unresolved fewer last less ruled = record {
  inherits = λ t place lt p. ruled.inherits t place lt (was t place p);
  above = λ t place lt p.
      let is = ruled.above t place lt (was (suc t) place p) in
      let parent_place = slice_index now.place_tree.place_parents place in
      record {
        parent_place = record {
          at = is.parent_place.at;
          chosen = ap (has_flag fewer) (sym (holds_among (λ kid. slice_index now.place_tree.branches kid
              ≡ slice_index now.place_tree.branches parent_place) (kids_of now.place_tree parent_place) place (ruled.inherits t parent_place lt is.parent_place) is.kid))
              ∙ p.chosen;
        };
        kid = is.kid;
      };
  view = record {
    within = λ t place p. ruled.view.within t place (was t place p);
    next = λ t place lt p. all_by (λ kid h. record {
      at = h.0.at;
      chosen = ap (has_flag fewer) h.1 ∙ p.chosen;
    }) (kids_of now.place_tree place) (both (IsWanted now unresolved (suc t)) (λ kid. slice_index now.place_tree.branches kid
        ≡ slice_index now.place_tree.branches place) (kids_of now.place_tree place) (ruled.view.next t place lt (was t place p))
        (ruled.inherits t place lt (was t place p)));
    node_data = λ t place lt p. ruled.view.node_data t place lt (was t place p);
  };
  reaches = record {
    each = λ t le. record { each = λ a b p q. (ruled.reaches.each t le).each a b (was t a p) (was t b q) };
  };
}
  where
    was : (t place : ℕ) → IsWanted now fewer t place → IsWanted now unresolved t place
    was t place p = record { at = p.at; chosen = less.each (slice_index now.place_tree.branches place) p.chosen }

-- a first sphere that was ranked by keys is ruled
pub ruled_first : {N : Type 0} (children : N → List N) (earlier : N → N → Ordering)
    → ((a b : N) → earlier a b ≡ Equal) → (key : N → ℤ) (named : ℕ → N) (now : SphereColumns) (tops : List ℕ) (keys : List ℤ)
    → TopsBegin tops keys now → AreRanked now 0 → (unresolved : List Bool) → LastPlaces now unresolved 0 0
    → ((k : ℕ) → k < length tops → key_at keys (slice_index tops k) ≡ key (named (slice_index tops k)))
    → IsRuled children earlier key named now unresolved 0
unfolding comparison
ruled_first children earlier ties key named now tops keys begins ranked unresolved places same = record {
  inherits = λ t place lt p. absurd (omega (arith, lt));
  above = λ t place lt p. absurd (omega (arith, lt));
  view = record {
    within = λ t place p. ranked.spheres.ends t p.at.row p.at.low p.at.high;
    next = λ t place lt p. absurd (omega (arith, lt));
    node_data = λ t place lt p. absurd (omega (arith, lt));
  };
  reaches = record {
    each = λ t le.
        let at : 0 ≡ t = omega (arith, le) in
        rw (sym at) (record {
          each = λ a b p q.
              let la = within a p in
              let lb = within b q in
              begins.ordered a b la lb
              ∙ ap (λ z. int_cmp z (key_of keys now.place_tree b)) (key_is a la)
              ∙ ap (int_cmp (key (node_of children earlier key named now a))) (key_is b lb)
              ∙ ap (λ r. ordering_then r (int_cmp (key (node_of children earlier key named now a))
              (key (node_of children earlier key named now b)))) (sym (ties (node_of children earlier key named now a)
              (node_of children earlier key named now b)));
        });
  };
}
  where
    within : (place : ℕ) → IsWanted now unresolved 0 place → place < length tops
    within place p = let high = places.high place p.at in let count = begins.count in omega (arith, high, count)

    key_is : (place : ℕ) → place < length tops → key_of keys now.place_tree place
        ≡ key (node_of children earlier key named now place)
    key_is place lt =
        let node = ap (λ (ns : List ℕ). slice_index ns place) begins.nodes in
        ap (key_at keys) node ∙ same place lt ∙ ap (λ n. key (named n)) (sym node)

-- the numbers of two tops compare as their branches do by the rule, within the spheres so far
pub tops_told : {N : Type 0} (children : N → List N) (earlier : N → N → Ordering) (key : N → ℤ) (named : ℕ → N)
    (now : SphereColumns) (unresolved : List Bool) (last : ℕ) → IsRuled children earlier key named now unresolved last → (a b : ℕ)
    → IsWanted now unresolved 0 a → IsWanted now unresolved 0 b
    → by_number now.ranked.numbers a b ≡ comparison children earlier key last (named (slice_index now.place_tree.nodes a))
    (named (slice_index now.place_tree.nodes b))
tops_told children earlier key named now unresolved last ruled a b p q =
    let all : last - 0 ≡ last = omega arith in
    (ruled.reaches.each 0 (omega arith)).each a b p q
    ∙ ap (λ d. comparison children earlier key d (named (slice_index now.place_tree.nodes a))
    (named (slice_index now.place_tree.nodes b))) all
