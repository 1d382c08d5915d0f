-- Pairs that are asked about by the branches of open pairs alone give the same.
use Rattle.std.proofs.Common.{◌≡◌, ◌<◌, ◌==◌, ◌&&◌, ◌||◌, ◌+◌, ℕ, zero, suc, Bool, true, false, not, List, [], ◌∷◌, ◌++◌, filter, map, length, take, get_or, slice_index, slice_index_or, refl, sym, ap, ◌∙◌, subst, arith, None, Some, All, Contains, IfSome, eq-eqb}
use Rattle.std.specs.List.{AllByRecursion, list_all, list_any}
use Rattle.std.specs.declared.option.Option.{Option}
use Rattle.std.proofs.lemmas.Bool.{or_left, or_right}
use Rattle.std.proofs.lemmas.List.{get_or_default, map-append, take_more}
use Rattle.std.proofs.lemmas.List.Elements.{All-contains, All-contains_itself, All-filter, All-from_recursion, Contains-get_or, filter-append}
use Rattle.cip_branches.specs.Deciding.{Branched}
use Rattle.cip_rank.specs.Tree.{children_of}
use Rattle.cip_rank.specs.View.{parent_list}
use Rattle.cip_mol.specs.declared.labels.descriptor.Descriptor.{Descriptor}
use Rattle.cip_mol.specs.declared.labels.outcome.Rule.TheVariants.{R1a, R1b, R2, R3, R4a, R4b, R4c, R5}
use Rattle.cip_digraph.specs.declared.decisions.decision.Decision.{Decision}
use Rattle.cip_digraph.specs.digraph.Digraph.{Node}
use Rattle.cip_digraph.specs.digraph.NodeList.{parents_of}
use Rattle.cip_digraph.specs.digraph.Telling.{node_at}
use Rattle.cip_digraph.specs.rules.Decisions.{difference_by, first_decision, order}
use Rattle.cip_digraph.specs.Sides.{found_side}
use Rattle.cip_digraph.specs.declared.decisions.branch_pair.BranchPair.{BranchPair}
use Rattle.cip_digraph.specs.Asking.{AreWithin, is_decided, kept_or, with_found}
use Rattle.cip_rules.specs.Orders.{decided_in_turn}
use Rattle.cip_rules.proofs.lemmas.FoundWithin.{all_within}
use Rattle.cip_rules.proofs.lemmas.RulesGoOn.{order_told}
use Rattle.cip_rules.proofs.lemmas.BranchesWithoutDescriptors.{kept_both}
use Rattle.cip_aux.specs.Neighbours.{neighbours_of}
use Rattle.cip_aux.specs.Views.{DigraphView}
use Rattle.cip_aux.specs.Turning.{side_at}
use Rattle.cip_aux_rank.specs.Asking.{asked_between, asked_pairs, branch_at}
use Rattle.cip_aux_rank.specs.Narrowing.{LeavesOpen, is_open_top, is_top_of, moved, unresolved_tops}
use Rattle.cip_aux_rank.specs.LigandBranches.{AreConstituted, asked_tops, is_ligand, seen_at, top_node}
use Rattle.cip_aux_rank.proofs.lemmas.AskedSides.{branch_low, branch_top, kept_in, pairs_found, pairs_within, tops_of}

-- a node's ligands as they are asked about first
pub first_left : (sight : DigraphView) (node : ℕ) (ligands : List (Option ℕ))
    → All (λ ligand. IfSome ligand (Contains (neighbours_of (parents_of sight.node_data) node))) ligands
    → (tops : List ℕ) → tops ≡ asked_tops (parents_of sight.node_data) ligands node → 0 < length tops
    → (now : Branched) (pairs : List BranchPair) → AreConstituted sight node tops now (asked_pairs tops ligands) pairs
    → list_all is_decided pairs ≡ false → LeavesOpen sight node tops now pairs ligands
first_left sight node ligands next tops are some now pairs is undone = record {
  requested = asked_pairs tops ligands;
  within = pairs_within tops some ligands;
  tell = record {
    each = λ descriptor r_first. pairs_found tops (node_at sight.nodes) (seen_at sight node descriptor) r_first ligands
        (subst (λ (ns : List ℕ). AllByRecursion (λ ligand. IfSome ligand (Contains ns)) ligands) (sym are)
        (tops_of (parents_of sight.node_data) node ligands next));
  };
  constituted = is;
  undone = undone;
}

-- the same as they are
pub left_again : (sight : DigraphView) (node : ℕ) (tops others : List ℕ) (now then : Branched) (pairs requested : List BranchPair)
    (ligands : List (Option ℕ)) → LeavesOpen sight node tops now pairs ligands → others ≡ tops → then ≡ now
    → requested ≡ pairs → LeavesOpen sight node others then requested ligands
left_again sight node tops others now then pairs requested ligands left e f g =
    subst (λ (ns : List ℕ). LeavesOpen sight node ns then requested ligands) (sym e)
    (subst (λ (b : Branched). LeavesOpen sight node tops b requested ligands) (sym f)
    (subst (λ (ps : List BranchPair). LeavesOpen sight node tops now ps ligands) (sym g) left))

-- a node's ligands as they were asked about and constituted
pub constituted_left : (sight : DigraphView) (node : ℕ) (ligands : List (Option ℕ))
    → All (λ ligand. IfSome ligand (Contains (neighbours_of (parents_of sight.node_data) node))) ligands
    → (tops still : List ℕ) → tops ≡ asked_tops (parents_of sight.node_data) ligands node → still ≡ tops
    → 0 < length tops → (now : Branched) (requested pairs : List BranchPair) → requested ≡ asked_pairs tops ligands
    → AreConstituted sight node still now requested pairs → list_all is_decided pairs ≡ false
    → LeavesOpen sight node still now pairs ligands
constituted_left sight node ligands next tops still are same some now requested pairs e is undone =
    left_again sight node tops still now now pairs pairs ligands
    (first_left sight node ligands next tops are some now pairs
    (subst (λ (ps : List BranchPair). AreConstituted sight node tops now ps pairs) e
    (subst (λ (ns : List ℕ). AreConstituted sight node ns now requested pairs) same is)) undone) same refl refl

-- tops

-- one top more
pub more_open : (test : ℕ → Bool) (tops : List ℕ) (i d : ℕ) → i < length tops
    → map Some (filter test (take (i + 1) tops))
    ≡ map Some (filter test (take i tops)) ++ map Some (filter test (get_or tops i d ∷ []))
more_open test tops i d lt =
    ap (map Some) (ap (filter test) (take_more tops i d lt)
    ∙ filter-append test (take i tops) (get_or tops i d ∷ []))
    ∙ map-append Some (filter test (take i tops)) (filter test (get_or tops i d ∷ []))

in_filter : (test : ℕ → Bool) (xs : List ℕ) (n : ℕ) → Contains (filter test xs) n → Contains xs n
in_filter test xs n is = All-contains (Contains xs) (filter test xs) n
    (All-filter test (Contains xs) xs (All-contains_itself xs)) is

any_some : (xs : List ℕ) (top : ℕ) → Contains xs top → list_any (is_ligand top) (map Some xs) ≡ true
any_some [] top is = let lt = is.1 in absurd (omega (arith, lt))
any_some (x ∷ xs) top is = by is.0 is.1 is.2 (any_some xs top)
  where
    by : (k : ℕ) → k < length (x ∷ xs) → slice_index_or (x ∷ xs) k top ≡ top
        → (Contains xs top → list_any (is_ligand top) (map Some xs) ≡ true)
        → list_any (is_ligand top) (map Some (x ∷ xs)) ≡ true
    by zero lt e rest = or_left _ _ (eq-eqb x top e)
    by (suc k) lt e rest = or_right _ _ (rest (k, omega (arith, lt), e))

weaker : (P Q : BranchPair → Type 0) (xs : List BranchPair) → ((x : BranchPair) → P x → Q x) → AllByRecursion P xs
    → AllByRecursion Q xs
weaker P Q [] f all = tt
weaker P Q (x ∷ xs) f all = (f x all.0, weaker P Q xs f all.1)

-- each pair is one of them
any_one : (test : ℕ → BranchPair → Bool) (all : List BranchPair)
    → AllByRecursion (λ pair. (top : ℕ) → test top pair ≡ true → list_any (test top) all ≡ true) all
any_one test [] = tt
any_one test (pair ∷ rest) = (
  (λ top e. or_left _ _ e),
  weaker (λ other. (top : ℕ) → test top other ≡ true → list_any (test top) rest ≡ true)
      (λ other. (top : ℕ) → test top other ≡ true → list_any (test top) (pair ∷ rest) ≡ true) rest
      (λ other f top e. or_right _ _ (f top e)) (any_one test rest),
)

module _ (parents : List ℕ) (node : ℕ) (tops : List ℕ) (ligands : List (Option ℕ))
    (are : tops ≡ asked_tops parents ligands node) (pairs : List BranchPair) where
  -- a top of an open pair is still one
  open_top : (branch : ℕ) → branch < length tops → is_open_top tops pairs (slice_index tops branch) ≡ true
      → Contains (asked_tops parents (unresolved_tops tops pairs) node) (slice_index tops branch)
  open_top branch lt is_open =
      let top = slice_index tops branch in
      let next : Contains (children_of parents node ++ parent_list parents node) top =
      in_filter (λ other. list_any (is_ligand other) ligands) (children_of parents node ++ parent_list parents node) top
      (subst (λ (ns : List ℕ). Contains ns top) are (Contains-get_or tops branch 0 lt)) in
      kept_in (λ other. list_any (is_ligand other) (unresolved_tops tops pairs))
      (children_of parents node ++ parent_list parents node) top next.0 next.1 next.2
      (any_some (filter (is_open_top tops pairs) tops) top
      (kept_in (is_open_top tops pairs) tops top branch lt (get_or_default tops branch top 0 lt) is_open))

  abbrev HasTops : BranchPair → Type 0
  HasTops pair =
      is_decided pair ≡ false
      → Contains (asked_tops parents (unresolved_tops tops pairs) node) (slice_index tops pair.first)
      × Contains (asked_tops parents (unresolved_tops tops pairs) node) (slice_index tops pair.second)

  one_has : (pair : BranchPair) → AreWithin (length tops) pair
      → ((top : ℕ) → is_top_of tops top pair ≡ true → is_open_top tops pairs top ≡ true) → HasTops pair
  one_has pair within some undone = (
    open_top pair.first within.0 (some (slice_index tops pair.first)
        (ap (λ b. not b && ((slice_index tops pair.first == slice_index tops pair.first)
        || (slice_index tops pair.second == slice_index tops pair.first))) undone
        ∙ or_left _ _ (eq-eqb (slice_index tops pair.first) (slice_index tops pair.first) refl))),
    open_top pair.second within.1 (some (slice_index tops pair.second)
        (ap (λ b. not b && ((slice_index tops pair.first == slice_index tops pair.second)
        || (slice_index tops pair.second == slice_index tops pair.second))) undone
        ∙ or_right _ _ (eq-eqb (slice_index tops pair.second) (slice_index tops pair.second) refl))),
  )

  have_by : (rest : List BranchPair) → AllByRecursion (AreWithin (length tops)) rest
      → AllByRecursion (λ pair. (top : ℕ) → is_top_of tops top pair ≡ true → is_open_top tops pairs top ≡ true) rest
      → AllByRecursion HasTops rest
  have_by [] within some = tt
  have_by (pair ∷ rest) within some = (one_has pair within.0 some.0, have_by rest within.1 some.1)

  have_tops : AllByRecursion (AreWithin (length tops)) pairs → AllByRecursion HasTops pairs
  have_tops within = have_by pairs within (any_one (is_top_of tops) pairs)

  -- an open pair has one
  some_top : (rest : List BranchPair) → list_all is_decided rest ≡ false → AllByRecursion HasTops rest
      → 0 < length (asked_tops parents (unresolved_tops tops pairs) node)
  some_top [] undone has = let bad : true ≡ false = undone in cc
  some_top (pair ∷ rest) undone has =
      by (is_decided pair) refl undone (λ left. some_top rest left has.1)
    where
      by : (b : Bool) → is_decided pair ≡ b → (b && list_all is_decided rest) ≡ false
          → (list_all is_decided rest ≡ false → 0 < length (asked_tops parents (unresolved_tops tops pairs) node))
          → 0 < length (asked_tops parents (unresolved_tops tops pairs) node)
      by true e left others = others left
      by false e left others = let lt = (has.0 e).0.1 in omega (arith, lt)

-- pairs

module _ (sight : DigraphView) (node : ℕ) (tops others : List ℕ) (descriptor : List ℕ → Option Descriptor) where
  abbrev named : ℕ → Node
  named = node_at sight.nodes

  abbrev decide : List ℕ → ℕ → ℕ → Option Decision
  decide ns = decided_in_turn (seen_at sight node descriptor) true (R1a ∷ R1b ∷ R2 ∷ []) (top_node sight ns)

  abbrev ordered : Bool → List ℕ → ℕ → ℕ → Option Decision
  ordered r_first ns a b = order (seen_at sight node descriptor) r_first (top_node sight ns a) (top_node sight ns b)

  -- by the nodes at their tops
  abbrev Stays : (List ℕ → ℕ → ℕ → Option Decision) → BranchPair → Type 0
  Stays find requested = find others (branch_at others (slice_index tops requested.first))
      (branch_at others (slice_index tops requested.second)) ≡ find tops requested.first requested.second

  abbrev HasBoth : BranchPair → Type 0
  HasBoth requested = Contains others (slice_index tops requested.first) × Contains others (slice_index tops requested.second)

  decide_stays : (requested : BranchPair) → HasBoth requested → Stays decide requested
  decide_stays requested has = λ i. first_decision
      (difference_by (seen_at sight node descriptor) true
      (named (branch_top others (slice_index tops requested.first) has.0 i))
      (named (branch_top others (slice_index tops requested.second) has.1 i))) (R1a ∷ R1b ∷ R2 ∷ [])

  ordered_stays : (r_first : Bool) (requested : BranchPair) → HasBoth requested → Stays (ordered r_first) requested
  ordered_stays r_first requested has = λ i. order (seen_at sight node descriptor) r_first
      (named (branch_top others (slice_index tops requested.first) has.0 i))
      (named (branch_top others (slice_index tops requested.second) has.1 i))

  -- what constitution decides, all rules decide
  node_data : (r_first : Bool) (requested : BranchPair) → AreWithin (length tops) requested → (found : Decision)
      → kept_or requested.decision (decide tops requested.first requested.second) ≡ Some found
      → kept_or requested.decision (ordered r_first tops requested.first requested.second) ≡ Some found
  node_data r_first requested within found e =
      let same = order_told (seen_at sight node descriptor) r_first (node_at sight.nodes) (top_node sight tops) (length tops)
      (requested ∷ []) (within, tt) (R1a ∷ R1b ∷ R2 ∷ []) (R3 ∷ R4a ∷ R4b ∷ R4c ∷ R5 ∷ []) refl
      (with_found (decide tops) requested ∷ []) refl
      (ap (λ (d : Option Decision). is_decided (asked_between requested.first requested.second d) && true) e) in
      sym (ap (λ (ones : List BranchPair). (slice_index_or ones 0 requested).decision) same) ∙ e

  moved_side : (r_first : Bool) (requested : BranchPair) → AreWithin (length tops) requested
      → (is_decided (with_found (decide tops) requested) ≡ false → HasBoth requested)
      → side_at (with_found (ordered r_first others) (moved tops others (with_found (decide tops) requested)))
      ≡ side_at (with_found (ordered r_first tops) requested)
  moved_side r_first requested within has =
      by (kept_or requested.decision (decide tops requested.first requested.second)) refl
    where
      by : (d : Option Decision) → kept_or requested.decision (decide tops requested.first requested.second) ≡ d
          → side_at (with_found (ordered r_first others) (moved tops others (asked_between requested.first requested.second d)))
          ≡ side_at (with_found (ordered r_first tops) requested)
      by (Some found) e = sym (ap found_side (node_data r_first requested within found e))
      by None e =
          let none = kept_both requested.decision (decide tops requested.first requested.second) e in
          ap found_side (ordered_stays r_first requested
          (has (ap (λ (d : Option Decision). is_decided (asked_between requested.first requested.second d)) e)))
          ∙ ap (λ (d : Option Decision). found_side (kept_or d (ordered r_first tops requested.first requested.second)))
          (sym none.0)

  moved_open : (requested : BranchPair) → (is_decided (with_found (decide tops) requested) ≡ false → HasBoth requested)
      → is_decided (with_found (decide others) (moved tops others (with_found (decide tops) requested)))
      ≡ is_decided (with_found (decide tops) requested)
  moved_open requested has = by (kept_or requested.decision (decide tops requested.first requested.second)) refl
    where
      by : (d : Option Decision) → kept_or requested.decision (decide tops requested.first requested.second) ≡ d
          → is_decided (with_found (decide others) (moved tops others (asked_between requested.first requested.second d)))
          ≡ is_decided (asked_between requested.first requested.second d)
      by (Some found) e = refl
      by None e =
          let none = kept_both requested.decision (decide tops requested.first requested.second) e in
          ap (λ (d : Option Decision). is_decided (asked_between 0 0 d))
          (decide_stays requested (has (ap (λ (d : Option Decision). is_decided (asked_between requested.first requested.second d))
          e)) ∙ none.1)

  abbrev Has : BranchPair → Type 0
  Has requested = is_decided (with_found (decide tops) requested) ≡ false → HasBoth requested

  all_sides : (r_first : Bool) (requested : List BranchPair) → AllByRecursion (AreWithin (length tops)) requested
      → AllByRecursion Has requested
      → map side_at (map (with_found (ordered r_first others))
      (map (moved tops others) (map (with_found (decide tops)) requested)))
      ≡ map side_at (map (with_found (ordered r_first tops)) requested)
  all_sides r_first [] within has = refl
  all_sides r_first (one ∷ requested) within has =
      λ i. moved_side r_first one within.0 has.0 i ∷ all_sides r_first requested within.1 has.1 i

  all_open : (requested : List BranchPair) → AllByRecursion Has requested
      → list_all is_decided (map (with_found (decide others))
      (map (moved tops others) (map (with_found (decide tops)) requested)))
      ≡ list_all is_decided (map (with_found (decide tops)) requested)
  all_open [] has = refl
  all_open (one ∷ requested) has = λ i. moved_open one has.0 i && all_open requested has.1 i

  moved_one : 0 < length others → (requested : BranchPair) → AreWithin (length others) (moved tops others requested)
  moved_one some requested = by requested.decision
    where
      by : (d : Option Decision)
          → AreWithin (length others) (moved tops others (asked_between requested.first requested.second d))
      by (Some found) = (some, some)
      by None = (
        branch_low others some (slice_index tops requested.first),
        branch_low others some
            (slice_index tops requested.second),
      )

  moved_within : 0 < length others → (pairs : List BranchPair)
      → AllByRecursion (AreWithin (length others)) (map (moved tops others) pairs)
  moved_within some [] = tt
  moved_within some (pair ∷ pairs) = (moved_one some pair, moved_within some pairs)

-- pairs that were decided as far as constitution goes have their tops among these
under_found : (find : ℕ → ℕ → Option Decision) (P : BranchPair → Type 0) (requested : List BranchPair)
    → AllByRecursion P (map (with_found find) requested) → AllByRecursion (λ one. P (with_found find one)) requested
under_found find P [] all = tt
under_found find P (one ∷ requested) all = (all.0, under_found find P requested all.1)

module _ (sight : DigraphView) (node : ℕ) (tops : List ℕ) (asked_for : List (Option ℕ))
    (are : tops ≡ asked_tops (parents_of sight.node_data) asked_for node) (before : Branched) (pairs : List BranchPair)
    (ligands : List (Option ℕ)) (left : LeavesOpen sight node tops before pairs ligands) where
  abbrev others : List ℕ
  others = asked_tops (parents_of sight.node_data) (unresolved_tops tops pairs) node

  no_descriptor : List ℕ → Option Descriptor
  no_descriptor path = None

  pub pairs_are_within : AllByRecursion (AreWithin (length tops)) pairs
  pairs_are_within = subst (AllByRecursion (AreWithin (length tops))) (sym (left.constituted.noted no_descriptor))
      (all_within (decide sight node tops others no_descriptor tops) (length tops) left.requested left.within)

  pairs_have : AllByRecursion (HasTops (parents_of sight.node_data) node tops asked_for are pairs) pairs
  pairs_have = have_tops (parents_of sight.node_data) node tops asked_for are pairs pairs_are_within

  have : (descriptor : List ℕ → Option Descriptor) → AllByRecursion (Has sight node tops others descriptor) left.requested
  have descriptor = under_found (decide sight node tops others descriptor tops)
      (HasTops (parents_of sight.node_data) node tops asked_for are pairs) left.requested
      (subst (AllByRecursion (HasTops (parents_of sight.node_data) node tops asked_for are pairs))
      (left.constituted.noted descriptor) pairs_have)

  pub some_left : 0 < length others
  some_left = some_top (parents_of sight.node_data) node tops asked_for are pairs pairs left.undone pairs_have

  pub all_moved : AllByRecursion (AreWithin (length others)) (map (moved tops others) pairs)
  all_moved = moved_within sight node tops others no_descriptor some_left pairs

  -- asked about once more they give the same
  pub narrowed_left : (now : Branched) (found : List BranchPair)
      → AreConstituted sight node others now (map (moved tops others) pairs) found
      → LeavesOpen sight node others now found ligands
  narrowed_left now found is = record {
    requested = map (moved tops others) pairs;
    within = all_moved;
    tell = record {
      each = λ descriptor r_first.
          ap (λ (ps : List BranchPair). map side_at (map (with_found (ordered sight node tops others descriptor r_first others))
          (map (moved tops others) ps))) (left.constituted.noted descriptor)
          ∙ all_sides sight node tops others descriptor r_first left.requested left.within (have descriptor)
          ∙ left.tell.each descriptor r_first;
    };
    constituted = is;
    undone = ap (list_all is_decided) (is.noted no_descriptor)
        ∙ ap (λ (ps : List BranchPair). list_all is_decided (map (with_found (decide sight node tops others no_descriptor others))
        (map (moved tops others) ps))) (left.constituted.noted no_descriptor)
        ∙ all_open sight node tops others no_descriptor left.requested (have no_descriptor)
        ∙ sym (ap (list_all is_decided) (left.constituted.noted no_descriptor)) ∙ left.undone;
  }

  -- by the tops as they are then
  module _ (ones now : List ℕ) (requested : List BranchPair) (are_tops : ones ≡ tops) (is_now : now ≡ others)
      (is_asked : requested ≡ map (moved ones now) pairs) where
    asked_is : requested ≡ map (moved tops others) pairs
    asked_is = is_asked ∙ (λ i. map (moved (are_tops i) (is_now i)) pairs)

    pub narrowed_within : All (AreWithin (length now)) requested
    narrowed_within = subst (λ (ns : List ℕ). All (AreWithin (length ns)) requested) (sym is_now)
        (subst (All (AreWithin (length others))) (sym asked_is)
        (All-from_recursion (AreWithin (length others)) (map (moved tops others) pairs) all_moved))

    pub narrowed_open : (still : List ℕ) (then : Branched) (found : List BranchPair) → still ≡ now
        → AreConstituted sight node still then requested found → LeavesOpen sight node still then found ligands
    narrowed_open still then found e constituted =
        left_again sight node others still then then found found ligands
        (narrowed_left then found
        (subst (λ (ps : List BranchPair). AreConstituted sight node others then ps found) asked_is
        (subst (λ (ns : List ℕ). AreConstituted sight node ns then requested found) (e ∙ is_now) constituted)))
        (e ∙ is_now) refl refl
