-- What a rule finds between some branches is what its definition finds between their nodes.
use Rattle.std.proofs.Common.{◌≡◌, ◌≤◌, ◌+◌, ◌-◌, ℕ, ℤ, zero, suc, List, length, map, slice_index, sym, ap, ◌∙◌, subst, arith, inl, inr}
use Rattle.std.specs.declared.option.Option.{Option}
use Rattle.std.specs.declared.cmp.Ordering.{Ordering}
use Rattle.std.specs.Cmp.{IsTotalOrder}
use Rattle.std.specs.List.{AllByRecursion}
use Rattle.std.proofs.lemmas.Bool.{cases_lt}
use Rattle.cip_rank.specs.Comparison.{comparison}
use Rattle.cip_rank.specs.Ranking.{by_number, key_at}
use Rattle.cip_mol.specs.declared.labels.outcome.Rule.{Rule}
use Rattle.cip_digraph.specs.declared.decisions.decision.Decision.{Decision}
use Rattle.cip_digraph.specs.rules.Decisions.{first_difference}
use Rattle.cip_branches.specs.Among.{StandsAmong, IsTakenAmong}
use Rattle.cip_branches.specs.Deciding.{Branched}
use Rattle.cip_partition.specs.PlaceTree.{PlaceTree}
use Rattle.cip_branches.specs.Standing.{node_in, WantedIn, AreKeysOf}
use Rattle.cip_branches.specs.Views.{IsEnded}
use Rattle.cip_branches.proofs.lemmas.taken.Among.{was_wanted, ends_now, rule_begun, rule_deeper, rule_stands}
use Rattle.cip_digraph.specs.declared.decisions.branch_pair.BranchPair.{BranchPair}
use Rattle.cip_digraph.specs.Asking.{decided, kept_or, with_found, differing, found_between}
use Rattle.cip_rules.proofs.lemmas.FoundWithin.{first_split, decided_else, one_more, with_both, all_stay, no_more, same_found}
use Rattle.cip_rules.specs.Orders.{found_below}
use Rattle.cip_rules.specs.Taking.{TakenTo, TakesRule}

-- with the difference at the next depth
pub found_more : (rule : Rule) (f : ℕ → Ordering) (depth : ℕ)
    → kept_or (decided rule (first_difference f 0 depth)) (decided rule (differing depth (f depth)))
    ≡ decided rule (first_difference f 0 (depth + 1))
found_more rule f depth =
    let none : 0 + depth ≡ depth = omega arith in
    ap (λ found. kept_or (decided rule (first_difference f 0 depth)) (decided rule found))
    (sym (one_more depth (f depth)))
    ∙ ap (λ d. kept_or (decided rule (first_difference f 0 depth)) (decided rule (first_difference f d 1))) (sym none)
    ∙ sym (decided_else rule (first_difference f 0 depth) (first_difference f (0 + depth) 1))
    ∙ sym (ap (decided rule) (first_split f depth 1 0))

-- at some depths and then at others
found_on : (rule : Rule) (f : ℕ → Ordering) (j k : ℕ)
    → kept_or (decided rule (first_difference f 0 j)) (decided rule (first_difference f j k))
    ≡ decided rule (first_difference f 0 (j + k))
found_on rule f j k =
    let none : 0 + j ≡ j = omega arith in
    ap (λ d. kept_or (decided rule (first_difference f 0 j)) (decided rule (first_difference f d k))) (sym none)
    ∙ sym (decided_else rule (first_difference f 0 j) (first_difference f (0 + j) k))
    ∙ sym (ap (decided rule) (first_split f j k 0))

-- where nothing changes from a depth on, no more is found
pub found_rest : (rule : Rule) (f : ℕ → Ordering) (far height : ℕ) → far ≤ height
    → ((m : ℕ) → far + 1 ≤ m → f m ≡ f (far + 1 - 1))
    → decided rule (first_difference f 0 (far + 1)) ≡ decided rule (first_difference f 0 (height + 1))
found_rest rule f far height le steady =
    let rest : far + 1 + (height - far) ≡ height + 1 = omega (arith, le) in
    sym (no_more rule f (far + 1) (height - far) (omega arith) steady)
    ∙ found_on rule f (far + 1) (height - far)
    ∙ ap (λ depths. decided rule (first_difference f 0 depths)) rest

-- it asks about two of these branches
abbrev pub AsksAmong : (ℕ → Type 0) → BranchPair → Type 0
AsksAmong Among pairs = Among pairs.first × Among pairs.second

module _ (Among : ℕ → Type 0) {N : Type 0} (children : N → List N) (named : ℕ → N) (earlier : N → N → Ordering)
    (o : IsTotalOrder earlier) (key : N → ℤ) (begin : Branched)
    (stands : StandsAmong Among children named earlier begin)
    (ends : IsEnded children (node_in named begin) (WantedIn begin) begin.last)
    (keys : List ℤ) (same : AreKeysOf named key keys begin) (rule : Rule) where
  abbrev compare : ℕ → N → N → Ordering
  compare depth = comparison children earlier key depth

  abbrev node : ℕ → N
  node = node_in named begin

  abbrev found_to : ℕ → ℕ → ℕ → Option Decision
  found_to = found_below rule compare node

  record IsFound (far : ℕ) (now : Branched) (found : ℕ → ℕ → Option Decision) : Type 0 where
    taken : IsTakenAmong Among children named earlier key far now
    unresolved : (t place : ℕ) → WantedIn now t place → WantedIn begin t place
    ended : IsEnded children (node_in named now) (WantedIn now) now.last
    place_tree : now.layers.place_tree ≡ begin.layers.place_tree
    count : length now.unresolved ≡ length begin.unresolved
    end : now.last ≡ begin.last
    node_data : (a b : ℕ) → Among a → Among b → found a b ≡ found_to (far + 1) a b

  same_node : (now : Branched) → now.layers.place_tree ≡ begin.layers.place_tree → (a : ℕ) → node_in named now a ≡ node a
  same_node now place_tree a = ap (λ (k : PlaceTree). named (slice_index k.nodes a)) place_tree

  -- keys of the nodes at more places are keys of those
  keys_of : (now : Branched) → now.layers.place_tree ≡ begin.layers.place_tree
      → ((t place : ℕ) → WantedIn now t place → WantedIn begin t place) → (other : N → ℤ) (others : List ℤ)
      → AreKeysOf named other others begin → AreKeysOf named other others now
  keys_of now place_tree unresolved other others keyed = record {
    each = λ t place p. ap (λ (k : PlaceTree). key_at others (slice_index k.nodes place)) place_tree
        ∙ keyed.each t place (unresolved t place p) ∙ ap other (sym (same_node now place_tree place));
  }

  -- numbers of tops give the next depth
  tells : (far : ℕ) (now : Branched) → IsTakenAmong Among children named earlier key far now
      → ((a : ℕ) → node_in named now a ≡ node a) → (a b : ℕ)
      → Among a → Among b
      → kept_or (found_to far a b) (found_between now.layers.ranked.numbers rule far a b) ≡ found_to (far + 1) a b
  tells far now taken nodes a b la lb =
      ap (λ r. kept_or (found_to far a b) (decided rule (differing far r)))
      (taken.tops.node_data a b la lb
      ∙ ap (λ n. compare far n (node_in named now b)) (nodes a) ∙ ap (compare far (node a)) (nodes b))
      ∙ found_more rule (λ depth. compare depth (node a) (node b)) far

  is_found : (far : ℕ) (now : Branched) (found : ℕ → ℕ → Option Decision) → TakenTo begin keys rule far now found
      → IsFound far now found
  is_found zero now found begins =
      let kept = begins.splits.kept in
      let taken = rule_begun Among children named earlier o key begin now keys same begins.chosen begins.end stands
      begins.splits in
      record {
        taken = taken;
        unresolved = λ t place p. was_wanted children named begin now kept begins.chosen begins.end t place p;
        ended = ends_now children named begin now kept begins.chosen begins.end ends;
        place_tree = kept.place_tree;
        count = begins.chosen.len;
        end = begins.end;
        node_data = λ a b la lb. begins.here a b ∙ tells 0 now taken (same_node now kept.place_tree) a b la lb;
      }
  is_found (suc far) now found steps =
      let old = steps.0 in
      let goes = steps.3 in
      let so_far = is_found far old steps.1 steps.2 in
      let kept = goes.deeper.kept in
      let taken = rule_deeper Among children named earlier o key old now keys (keys_of old so_far.place_tree so_far.unresolved
      key keys same) goes.chosen goes.end far goes.within
      so_far.taken goes.deeper in
      let place_tree : now.layers.place_tree ≡ begin.layers.place_tree = kept.place_tree ∙ so_far.place_tree in
      let count : length now.unresolved ≡ length begin.unresolved = goes.chosen.len ∙ so_far.count in
      let more : far + 1 ≡ suc far = omega arith in
      record {
        taken = taken;
        unresolved = λ t place p. so_far.unresolved t place (was_wanted children named old now kept goes.chosen goes.end t place
            p);
        ended = ends_now children named old now kept goes.chosen goes.end so_far.ended;
        place_tree = place_tree;
        count = count;
        end = goes.end ∙ so_far.end;
        node_data = λ a b la lb. goes.here a b
            ∙ ap (λ f. kept_or f (found_between now.layers.ranked.numbers rule (suc far) a b))
            (so_far.node_data a b la lb ∙ ap (λ depths. found_to depths a b) more)
            ∙ tells (suc far) now taken (same_node now place_tree) a b la lb;
      }

  module _ (pairs new : List BranchPair) (now : Branched) (takes : TakesRule begin keys rule pairs now new) (height : ℕ)
      (tall : begin.last ≤ height) where
    abbrev is : IsFound takes.far now takes.so_far.found
    is = is_found takes.far now takes.so_far.found takes.so_far.taken

    -- the same branches of the same nodes, to the same end
    pub same_nodes : (a : ℕ) → node_in named now a ≡ node a
    same_nodes = same_node now is.place_tree

    -- keys of other rules too are those of the nodes at places that are still unresolved
    pub keys_after : (other : N → ℤ) (others : List ℤ) → AreKeysOf named other others begin
        → AreKeysOf named other others now
    keys_after other others keyed = keys_of now is.place_tree is.unresolved other others keyed

    pub same_count : length now.unresolved ≡ length begin.unresolved
    same_count = is.count

    pub same_end : now.last ≡ begin.last
    same_end = is.end

    pub ends_after : IsEnded children (node_in named now) (WantedIn now) now.last
    ends_after = is.ended

    -- where the last sphere was reached, the numbers are ordered by the whole rule
    pub stands_after : takes.far ≡ begin.last → StandsAmong Among children named (compare height) now
    stands_after reached =
        let end = is.end in
        rule_stands Among children named earlier o key now is.ended
        (subst (λ far. IsTakenAmong Among children named earlier key far now) (reached ∙ sym end) is.taken) height
        (omega (arith, tall, end))

    -- and no more is found
    found_all : takes.far ≡ begin.last → (a b : ℕ) → Among a → Among b
        → takes.so_far.found a b ≡ found_to (height + 1) a b
    found_all reached a b la lb =
        is.node_data a b la lb ∙ found_rest rule (λ depth. compare depth (node a) (node b)) takes.far height
        (omega (arith, tall, reached)) steady
      where
        at_depth : (depth : ℕ) → begin.last ≤ depth
            → by_number now.layers.ranked.numbers a b ≡ compare depth (node a) (node b)
        at_depth depth le =
            let end = is.end in
            let deep = rule_stands Among children named earlier o key now is.ended
            (subst (λ far. IsTakenAmong Among children named earlier key far now) (reached ∙ sym end) is.taken) depth
            (omega (arith, le, end)) in
            deep.tops.node_data a b la lb
            ∙ ap (λ n. compare depth n (node_in named now b)) (same_node now is.place_tree a)
            ∙ ap (compare depth (node a)) (same_node now is.place_tree b)

        steady : (m : ℕ) → takes.far + 1 ≤ m
            → compare m (node a) (node b) ≡ compare (takes.far + 1 - 1) (node a) (node b)
        steady m le = sym (at_depth m (omega (arith, le, reached)))
            ∙ at_depth (takes.far + 1 - 1) (omega (arith, reached))

    -- pairs are decided as by the definition
    pub rule_found : AllByRecursion (AsksAmong Among) pairs
        → new ≡ map (with_found (found_to (height + 1))) pairs
    rule_found within = elim (cases_lt takes.far begin.last) [
      | inl early ↦
          let f : ℕ → ℕ → ℕ → Ordering = λ a b depth. compare depth (node a) (node b) in
          let rest = height - takes.far in
          let sum : takes.far + 1 + rest ≡ height + 1 = omega (arith, early, tall) in
          let later : ℕ → ℕ → Option Decision =
          λ a b. decided rule (first_difference (f a b) (takes.far + 1) rest) in
          sym (all_stay later new (takes.early early))
          ∙ ap (map (with_found later)) takes.so_far.noted
          ∙ with_both takes.so_far.found later (found_to (height + 1)) (AsksAmong Among)
          (λ one w. ap (λ found. kept_or found (later one.first one.second)) (is.node_data one.first one.second w.0 w.1)
          ∙ found_on rule (f one.first one.second) (takes.far + 1) rest
          ∙ ap (λ depths. found_to depths one.first one.second) sum) pairs within
      | inr done ↦
          let in_it = takes.within in
          takes.so_far.noted ∙ same_found takes.so_far.found (found_to (height + 1)) (AsksAmong Among)
          (λ one w. found_all (omega (arith, done, in_it)) one.first one.second w.0 w.1) pairs within
    ]
