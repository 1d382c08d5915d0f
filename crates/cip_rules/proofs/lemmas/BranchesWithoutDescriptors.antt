-- Where no descriptor is in branches that are unresolved, Rules 3 to 5 find nothing between them.
use Rattle.std.proofs.Common.{◌≡◌, ◌<◌, ◌≤◌, ◌+◌, ◌∷◌, [], ℕ, zero, suc, Bool, true, false, List, length, map, slice_index, refl, sym, ap, ◌∙◌, subst, arith, inl, inr}
use Rattle.std.specs.Prelude.{None, Some}
use Rattle.std.specs.declared.option.Option.{Option}
use Rattle.std.specs.declared.cmp.Ordering.{Ordering}
use Rattle.std.specs.declared.cmp.Ordering.TheVariants.{Less, Equal, Greater}
use Rattle.std.specs.List.{AllByRecursion}
use Rattle.std.proofs.lemmas.Bool.{cases_lt, cases_order}
use Rattle.cip_rank.proofs.lemmas.NumberedNodes.{equal_is}
use Rattle.cip_mol.specs.declared.labels.descriptor.Descriptor.{Descriptor}
use Rattle.cip_mol.specs.declared.labels.outcome.Rule.{Rule}
use Rattle.cip_mol.specs.declared.labels.outcome.Rule.TheVariants.{R1a, R1b, R2, R3, R4a, R4b, R4c, R5}
use Rattle.cip_digraph.specs.declared.decisions.decision.Decision.{Decision}
use Rattle.cip_digraph.specs.digraph.SameBranch.{EndsWithin}
use Rattle.cip_digraph.specs.rules.Decisions.{Difference, first_difference, difference_by, first_decision, order}
use Rattle.cip_digraph.specs.rules.Orders.{Seen, rule_2}
use Rattle.cip_digraph.specs.units.Ranked.{is_tie}
use Rattle.cip_digraph.proofs.lemmas.orders.Early.{itself}
use Rattle.cip_digraph.proofs.lemmas.ties.Early.{HasNoDescriptor, tie_without_descriptors}
use Rattle.cip_digraph.proofs.lemmas.orders.Exchanged.{found_at}
use Rattle.cip_digraph.proofs.lemmas.ties.Turned.{tie_turned}
use Rattle.cip_digraph.proofs.lemmas.lists.Elements.{all_arranged}
use Rattle.cip_branches.specs.Deciding.{Branched}
use Rattle.cip_partition.specs.Kids.{kids_of}
use Rattle.cip_partition.specs.Parting.{has_flag}
use Rattle.cip_branches.specs.Standing.{node_in, WantedIn, AreShown}
use Rattle.cip_branches.specs.Views.{IsEnded}
use Rattle.cip_partition.proofs.lemmas.Cases.{cases_same}
use Rattle.cip_digraph.specs.declared.decisions.branch_pair.BranchPair.{BranchPair}
use Rattle.cip_digraph.specs.Asking.{AreWithin, decided, kept_or, with_found}
use Rattle.cip_rules.specs.Deciding.{AreDecidedBy}
use Rattle.cip_rules.specs.DescriptorMap.{AreDescriptorsOf, HaveNoDescriptors}
use Rattle.cip_rules.specs.Orders.{decided_in_turn, order_before, rules_before}
use Rattle.cip_rules.proofs.lemmas.FoundWithin.{same_found}
use Rattle.cip_rules.proofs.lemmas.RulesGoOn.{order_is}
use Rattle.cip_rules.proofs.lemmas.RulesInTurn.{first_by, turn_both}

-- where no difference is found, all depths tie
tie_by : (s : ℕ) (later : Option Difference) (r : Ordering) → found_at s later r ≡ None → (r ≡ Equal) × (later ≡ None)
tie_by s later Less e = let bad : Some (record { side = Less; depth = s }) ≡ None = e in cc
tie_by s later Equal e = (refl, e)
tie_by s later Greater e = let bad : Some (record { side = Greater; depth = s }) ≡ None = e in cc

ties_before : (f : ℕ → Ordering) (m s d : ℕ) → first_difference f s m ≡ None → s ≤ d → d < s + m → f d ≡ Equal
ties_before f zero s d e low high = absurd (omega arith)
ties_before f (suc m) s d e low high =
    let t = tie_by s (first_difference f (s + 1) m) (f s) e in
    elim (cases_order d s) [
      | inl same ↦ ap f same ∙ t.0
      | inr (inl less) ↦ absurd (omega arith)
      | inr (inr more) ↦ ties_before f m (s + 1) d t.1 (omega arith) (omega arith)
    ]

decided_none : (rule : Rule) (found : Option Difference) → decided rule found ≡ None → found ≡ None
decided_none rule None e = refl
decided_none rule (Some found) e =
    let bad : Some (record { side = found.side; rule = rule; sphere = found.depth + 1 }) ≡ None = e in cc

pub kept_both : (one other : Option Decision) → kept_or one other ≡ None → (one ≡ None) × (other ≡ None)
kept_both None other e = (refl, e)
kept_both (Some found) other e = let bad : Some found ≡ None = e in cc

none_by_tie : (decision : Option Decision) → is_tie decision ≡ true → decision ≡ None
none_by_tie None e = refl
none_by_tie (Some decision) e = let bad : false ≡ true = e in cc

kept_some : (early whole later : Option Decision) → kept_or early later ≡ whole → (early ≡ None → whole ≡ None)
    → early ≡ whole
kept_some None whole later e none = sym (none refl)
kept_some (Some found) whole later e none = e

all_of : {X Y : Type 0} (P : Y → Type 0) (Q : X → Type 0) (f : X → Y) → ((x : X) → Q x → P (f x)) → (xs : List X)
    → AllByRecursion Q xs → AllByRecursion P (map f xs)
all_of P Q f each [] all = tt
all_of P Q f each (x ∷ xs) all = (each x all.0, all_of P Q f each xs all.1)

module _ {N : Type 0} (seen : Seen N) where
  -- Rule 2 ties where the first three rules find nothing
  tie_by_constitution : (r_first : Bool) (a b : N)
      → first_decision (difference_by seen r_first a b) (R1a ∷ R1b ∷ R2 ∷ []) ≡ None
      → rule_2 seen seen.height a b ≡ Equal
  tie_by_constitution r_first a b e =
      let find = difference_by seen r_first a b in
      let after_1a = kept_both (decided R1a (find R1a)) (first_decision find (R1b ∷ R2 ∷ []))
      (sym (first_by R1a (find R1a) (first_decision find (R1b ∷ R2 ∷ []))) ∙ e) in
      let after_1b = kept_both (decided R1b (find R1b)) (first_decision find (R2 ∷ []))
      (sym (first_by R1b (find R1b) (first_decision find (R2 ∷ []))) ∙ after_1a.1) in
      let by_2 = kept_both (decided R2 (find R2)) None (sym (first_by R2 (find R2) None) ∙ after_1b.1) in
      ties_before (λ depth. rule_2 seen depth a b) (seen.height + 1) 0 seen.height (decided_none R2 (find R2) by_2.0)
      (omega arith) (omega arith)

  -- either way
  tie_either : (r_first : Bool) (a b : N) → order seen true a b ≡ None → order seen r_first a b ≡ None
  tie_either true a b tie = tie
  tie_either false a b tie = none_by_tie (order seen false a b) (sym (tie_turned seen a b) ∙ ap is_tie tie)

module _ {N : Type 0} (seen : Seen N) (named : ℕ → N) (now : Branched) (shown : AreShown seen.children named now)
    (ends : IsEnded seen.children (node_in named now) (WantedIn now) now.last)
    (none : (t place : ℕ) → WantedIn now t place → seen.descriptor (node_in named now place) ≡ None) where
  abbrev at : ℕ → N
  at = node_in named now

  -- what holds at places of the next sphere holds of the children
  each_child : (P : N → Type 0) (t place : ℕ) → WantedIn now t place
      → ((kid : ℕ) → WantedIn now (suc t) kid → P (at kid)) → AllByRecursion P (seen.children (at place))
  each_child P t place p each = elim (cases_lt t now.last) [
    | inl lt ↦ all_arranged P (map at (kids_of now.layers.place_tree place)) (seen.children (at place))
        (shown.view.node_data t place lt p)
        (all_of P (WantedIn now (suc t)) at each (kids_of now.layers.place_tree place) (shown.view.next t place lt p))
    | inr done ↦
        let le = shown.view.within t place p in
        let last : t ≡ now.last = omega (arith, done, le) in
        subst (AllByRecursion P) (sym (ends.none place (subst (λ u. WantedIn now u place) last p))) tt
  ]

  no_descriptor_at : (spheres t place : ℕ) → WantedIn now t place → HasNoDescriptor seen spheres (at place)
  no_descriptor_at zero t place p = none t place p
  no_descriptor_at (suc spheres) t place p =
      (none t place p, each_child (HasNoDescriptor seen spheres) t place p (λ kid q. no_descriptor_at spheres (suc t) kid q))

  ends_at : (spheres t place : ℕ) → now.last ≤ t + spheres → WantedIn now t place
      → EndsWithin seen.children spheres (at place)
  ends_at zero t place far p =
      let le = shown.view.within t place p in
      let last : t ≡ now.last = omega (arith, far, le) in
      ends.none place (subst (λ u. WantedIn now u place) last p)
  ends_at (suc spheres) t place far p = each_child (EndsWithin seen.children spheres) t place p
      (λ kid q. ends_at spheres (suc t) kid (omega (arith, far)) q)

  top_at : (k : ℕ) → k < length now.unresolved → has_flag now.unresolved k ≡ true → WantedIn now 0 k
  top_at k lt flag = record {
    at = shown.top k lt;
    chosen = ap (has_flag now.unresolved) (shown.branch k lt) ∙ flag;
  }

  -- two branches that are still unresolved tie by all rules where they tie by Rule 2
  pub tied_without_descriptors : now.last ≤ seen.height → (r_first : Bool) (a b : ℕ) → a < length now.unresolved
      → b < length now.unresolved → has_flag now.unresolved a ≡ true → has_flag now.unresolved b ≡ true
      → rule_2 seen seen.height (at a) (at b) ≡ Equal → order seen r_first (at a) (at b) ≡ None
  tied_without_descriptors tall r_first a b la lb of_a of_b tie =
      tie_either seen r_first (at a) (at b)
      (tie_without_descriptors seen (at a) (at b) (ends_at seen.height 0 a (omega (arith, tall)) (top_at a la of_a))
      (ends_at seen.height 0 b (omega (arith, tall)) (top_at b lb of_b))
      (no_descriptor_at seen.height 0 a (top_at a la of_a)) (no_descriptor_at seen.height 0 b (top_at b lb of_b)) tie)

module _ {N : Type 0} (seen : Seen N) (named node : ℕ → N) (count : ℕ) (begin : List BranchPair)
    (within : AllByRecursion (AreWithin count) begin) (now : Branched) (pairs : List BranchPair)
    (before : AreDecidedBy seen true named node count begin (rules_before R3) (order_before seen true R3) now pairs)
    (descriptors : List (Option Descriptor)) (known : AreDescriptorsOf named seen.descriptor descriptors now) (bare : HaveNoDescriptors descriptors now)
  where
    tie_rest : (r_first : Bool) (a b : ℕ) → a < count → b < count
        → decided_in_turn seen true (rules_before R3) node a b ≡ None → order seen r_first (node a) (node b) ≡ None
    tie_rest r_first a b la lb e = elim (cases_same a b) [
      | inl same ↦ subst (λ c. order seen r_first (node a) (node c) ≡ None) same (itself seen r_first (node a))
      | inr differ ↦
          let tops = before.tops in
          let in_a : a < length now.unresolved = omega (arith, la, tops) in
          let in_b : b < length now.unresolved = omega (arith, lb, tops) in
          let at = node_in named now in
          let tie : rule_2 seen seen.height (at a) (at b) ≡ Equal =
          ap (λ n. rule_2 seen seen.height n (at b)) (before.nodes a)
          ∙ ap (rule_2 seen seen.height (node a)) (before.nodes b)
          ∙ tie_by_constitution seen true (node a) (node b) e in
          let numbers = now.layers.ranked.numbers in
          let same : slice_index numbers a ≡ slice_index numbers b = equal_is (slice_index numbers a)
          (slice_index numbers b) (before.stands.tops.node_data a b in_a in_b ∙ tie) in
          subst (λ n. order seen r_first n (node b) ≡ None) (before.nodes a)
          (subst (λ n. order seen r_first (at a) n ≡ None) (before.nodes b)
          (tied_without_descriptors seen named now before.stands.shown before.ended
          (λ t place p. sym (known.each t place p) ∙ bare.each t place p) before.tall r_first a b in_a in_b
          (before.stands.tops.tie a b in_a in_b differ same)
          (before.stands.tops.tie b a in_b in_a (λ q. differ (sym q)) (sym same)) tie))
    ]

    -- what constitution decides of pairs is then their order by all rules
    pub order_without_descriptors : (r_first : Bool) → pairs ≡ map (with_found (λ a b. order seen r_first (node a) (node b))) begin
    order_without_descriptors r_first =
        before.noted
        ∙ same_found (decided_in_turn seen true (rules_before R3) node) (λ a b. order seen r_first (node a) (node b))
        (AreWithin count) (λ one w. kept_some (decided_in_turn seen true (rules_before R3) node one.first one.second)
        (order seen r_first (node one.first) (node one.second))
        (decided_in_turn seen r_first (R3 ∷ R4a ∷ R4b ∷ R4c ∷ R5 ∷ []) node one.first one.second)
        (sym (turn_both (difference_by seen r_first (node one.first) (node one.second)) (rules_before R3)
        (R3 ∷ R4a ∷ R4b ∷ R4c ∷ R5 ∷ []))
        ∙ order_is seen r_first named node count begin within one.first one.second)
        (tie_rest r_first one.first one.second w.0 w.1)) begin within
