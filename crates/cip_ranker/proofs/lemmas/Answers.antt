-- The answers of branches are what is asked of the pairs of their vertices.
use Rattle.std.proofs.Common.{◌≡◌, ◌==◌, ◌++◌, ◌∙◌, ℕ, Bool, true, false, cond, List, [], ◌∷◌, flat_map, map, refl, sym, ap}
use Rattle.std.proofs.lemmas.List.{map-append}
use Rattle.std.proofs.lemmas.Simd.{map-map}
use Rattle.cip_mol.specs.declared.site.Ligand.{Ligand}
use Rattle.cip_mol.specs.declared.site.Ligand.TheVariants.{Vertex, LonePair}
use Rattle.cip_label.specs.Settings.{LabelContext}
use Rattle.cip_constitution.specs.Noting.{asked_by}
use Rattle.cip_constitution.specs.Pairs.{pair, pair_with, pairs_at, pairs_of}
use Rattle.cip_constitution.specs.declared.pairs.VertexPair.{VertexPair}
use Rattle.cip_digraph.specs.Asking.{with_found}
use Rattle.cip_digraph.specs.declared.decisions.branch_pair.BranchPair.{BranchPair}
use Rattle.cip_ranker.specs.RootDecisions.{Branch, answer_between, answers_at, answers_of, branch_at, branch_if, branches_of}
use Rattle.cip_ranker.specs.ToldEarly.{found_early, noted_early}
use Rattle.cip_ranker.proofs.lemmas.Counted.{flat_append}
use Rattle.cip_ranker.proofs.lemmas.ToldBranches.{told_is}

flat_flat : {X Y Z : Type 0} (f : Y → List Z) (g : X → List Y) (xs : List X)
    → flat_map f (flat_map g xs) ≡ flat_map (λ x. flat_map f (g x)) xs
flat_flat f g [] = refl
flat_flat f g (x ∷ xs) =
    flat_append f (g x) (flat_map g xs) ∙ ap (λ zs. flat_map f (g x) ++ zs) (flat_flat f g xs)

map_flat : {X Y Z : Type 0} (f : Y → Z) (g : X → List Y) (xs : List X)
    → map f (flat_map g xs) ≡ flat_map (λ x. map f (g x)) xs
map_flat f g [] = refl
map_flat f g (x ∷ xs) = map-append f (g x) (flat_map g xs) ∙ ap (λ zs. map f (g x) ++ zs) (map_flat f g xs)

flat_alike : {X Y : Type 0} (f g : X → List Y) → ((x : X) → f x ≡ g x) → (xs : List X) → flat_map f xs ≡ flat_map g xs
flat_alike f g same xs = ap (λ h. flat_map h xs) (λ i x. same x i)

module _ (setting : LabelContext) (root : ℕ) where
  abbrev show : Ligand → List Branch
  show = branch_if setting.graph setting.positions root

  abbrev branch : ℕ → Branch
  branch = branch_at setting.graph setting.positions root

  abbrev answer : VertexPair → BranchPair
  answer one = with_found (found_early setting root) (asked_by (λ vertex. vertex) one)

  answer_by : (a b : ℕ) (same : Bool) → cond same []
      (record { first = a; second = b; decision = found_early setting root a b } ∷ []) ++ []
      ≡ map answer (cond same [] (pair a b ∷ []))
  answer_by a b true = refl
  answer_by a b false = refl

  one_answer : (a : ℕ) (ligand : Ligand)
      → flat_map (answer_between (branch a)) (show ligand) ≡ map answer (pair_with a ligand)
  one_answer a LonePair = refl
  one_answer a (Vertex b) =
      ap (λ decision. cond (a == b) [] (record { first = a; second = b; decision = decision } ∷ []) ++ [])
      (told_is setting.graph setting.positions root a b)
      ∙ answer_by a b (a == b)

  answers_with : (ligands : List Ligand) (a : ℕ)
      → answers_at (branches_of setting.graph setting.positions root ligands) (branch a)
      ≡ map answer (pairs_at ligands (Vertex a))
  answers_with ligands a =
      flat_flat (answer_between (branch a)) show ligands
      ∙ flat_alike (λ ligand. flat_map (answer_between (branch a)) (show ligand))
      (λ ligand. map answer (pair_with a ligand)) (one_answer a) ligands
      ∙ sym (map_flat answer (pair_with a) ligands)

  each_answer : (ligands : List Ligand)
      → answers_of (branches_of setting.graph setting.positions root ligands) ≡ map answer (pairs_of ligands)
  each_answer [] = refl
  each_answer (LonePair ∷ ligands) = each_answer ligands
  each_answer (Vertex a ∷ ligands) =
      (λ k. answers_with ligands a k ++ each_answer ligands k)
      ∙ sym (map-append answer (pairs_at ligands (Vertex a)) (pairs_of ligands))

  pub answers_are : (ligands : List Ligand)
      → answers_of (branches_of setting.graph setting.positions root ligands) ≡ noted_early setting root ligands
  answers_are ligands =
      each_answer ligands
      ∙ sym (map-map (with_found (found_early setting root)) (asked_by (λ vertex. vertex)) (pairs_of ligands))
