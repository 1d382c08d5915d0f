-- Where the places of the last sphere say how far branches go.
use Rattle.std.proofs.Common.{◌≡◌, ◌≢◌, ◌<◌, ◌+◌, ℕ, ℤ, zero, suc, Bool, List, [], ◌∷◌, map, slice_index, refl}
use Rattle.std.proofs.Common.{sym, ◌∙◌, subst, arith}
use Rattle.std.proofs.lemmas.List.{nil_from_length}
use Rattle.std.specs.declared.cmp.Ordering.{Ordering}
use Rattle.std.specs.List.{AllByRecursion}
use Rattle.std.specs.List.Sorted.{IsPermutation}
use Rattle.std.proofs.lemmas.List.Sorted.{length_permutation, IsPermutation-sym}
use Rattle.cip_partition.specs.Kids.{kids_of}
use Rattle.cip_branches.specs.SphereColumns.{SphereColumns}
use Rattle.cip_branches.specs.Ruled.{IsWanted, IsRuled}
use Rattle.cip_partition.proofs.lemmas.Cases.{both, holds_among}
use Rattle.cip_digraph.specs.digraph.SameBranch.{EndsWithin}
use Rattle.cip_digraph.proofs.lemmas.lists.Elements.{all_by, all_mapped, all_arranged, all_unmapped}

none_of : (ns : List ℕ) → AllByRecursion (λ n. ⊥) ns → ns ≡ []
none_of [] all = refl
none_of (n ∷ ns) all = absurd all.0

module _ {N : Type 0} (children : N → List N) (earlier : N → N → Ordering) (key : N → ℤ) (named : ℕ → N) (now : SphereColumns)
    (unresolved : List Bool) (last : ℕ) (ruled : IsRuled children earlier key named now unresolved last) (branch : ℕ) where
  abbrev node : ℕ → N
  node place = named (slice_index now.place_tree.nodes place)

  abbrev branch_at : ℕ → ℕ
  branch_at = slice_index now.place_tree.branches

  -- where no place of the last sphere is in a branch, it ends before
  pub ends_before : ((place : ℕ) → IsWanted now unresolved last place → branch_at place ≢ branch) → (k t place : ℕ)
      → suc t + k ≡ last → IsWanted now unresolved t place → branch_at place ≡ branch → EndsWithin children k (node place)
  ends_before none zero t place e p here =
      let lt : t < last = omega (arith, e) in
      let next : suc t ≡ last = omega (arith, e) in
      let kids = kids_of now.place_tree place in
      let all = both (IsWanted now unresolved (suc t)) (λ kid. branch_at kid ≡ branch_at place) kids
      (ruled.view.next t place lt p) (ruled.inherits t place lt p) in
      let empty : kids ≡ [] = none_of kids (all_by (λ kid. IsWanted now unresolved (suc t) kid
      × (branch_at kid ≡ branch_at place)) (λ kid. ⊥)
      (λ kid h. none kid (subst (λ u. IsWanted now unresolved u kid) next h.0) (h.1 ∙ here)) kids all) in
      let node_data = subst (λ (ns : List ℕ). IsPermutation (map node ns) (children (node place))) empty
      (ruled.view.node_data t place lt p) in
      nil_from_length (children (node place)) (length_permutation [] (children (node place)) node_data)
  ends_before none (suc k) t place e p here =
      let lt : t < last = omega (arith, e) in
      let kids = kids_of now.place_tree place in
      all_arranged (EndsWithin children k) (map node kids) (children (node place)) (ruled.view.node_data t place lt p)
      (all_mapped (EndsWithin children k) node kids (all_by (λ kid. IsWanted now unresolved (suc t) kid
      × (branch_at kid ≡ branch_at place)) (λ kid. EndsWithin children k (node kid)) (λ kid h.
      ends_before none k (suc t) kid (omega (arith, e)) h.0 (h.1 ∙ here)) kids
      (both (IsWanted now unresolved (suc t)) (λ kid. branch_at kid ≡ branch_at place) kids (ruled.view.next t place lt p)
      (ruled.inherits t place lt p))))

  -- where the branch of a top ends, so do those of all places in it
  pub ends_below : (top : ℕ) → ((place : ℕ) → IsWanted now unresolved 0 place → branch_at place ≡ branch → place ≡ top)
      → EndsWithin children last (node top) → (t k place : ℕ) → t + k ≡ last → IsWanted now unresolved t place
      → branch_at place ≡ branch → EndsWithin children k (node place)
  ends_below top only ends zero k place e p here =
      let all : last ≡ k = omega (arith, e) in
      subst (λ q. EndsWithin children k (node q)) (sym (only place p here))
      (subst (λ d. EndsWithin children d (node top)) all ends)
  ends_below top only ends (suc t) k place e p here =
      let lt : t < last = omega (arith, e) in
      let is = ruled.above t place lt p in
      let parent_place = slice_index now.place_tree.place_parents place in
      let kids = kids_of now.place_tree parent_place in
      let same = holds_among (λ kid. branch_at kid ≡ branch_at parent_place) kids place (ruled.inherits t parent_place lt is.parent_place) is.kid in
      let above = ends_below top only ends t (suc k) parent_place (omega (arith, e)) is.parent_place (sym same ∙ here) in
      holds_among (λ kid. EndsWithin children k (node kid)) kids place
      (all_unmapped (EndsWithin children k) node kids
      (all_arranged (EndsWithin children k) (children (node parent_place)) (map node kids)
      (IsPermutation-sym (map node kids) (children (node parent_place)) (ruled.view.node_data t parent_place lt is.parent_place)) above)) is.kid
