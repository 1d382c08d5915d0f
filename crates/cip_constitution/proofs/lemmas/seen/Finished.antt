-- Beyond the end of both branches a comparison doesn't change.
use Rattle.std.proofs.Common.{◌≡◌, ℕ, zero, suc, ◌+◌, ℤ, List, [], map, sym, ap, ◌∙◌, add-zero, add-suc}
use Rattle.std.proofs.Common.{subst}
use Rattle.std.proofs.lemmas.List.{map-id}
use Rattle.std.specs.declared.cmp.Ordering.{Ordering}
use Rattle.std.specs.declared.cmp.Ordering.TheVariants.{Equal}
use Rattle.std.specs.List.{AllByRecursion}
use Rattle.std.specs.Ordering.{ordering_then}
use Rattle.std.specs.Cmp.Lexicographic.{slice_cmp}
use Rattle.cip_rank.specs.Comparison.{sorted_down, sets, comparison}
use Rattle.cip_rank.proofs.lemmas.Carried.{sets_carried}
use Rattle.cip_rank.proofs.lemmas.ExtendedOrder.{then_equal}
use Rattle.cip_digraph.specs.digraph.SameBranch.{EndsWithin}
use Rattle.cip_digraph.proofs.lemmas.lists.Elements.{all_by}
use Rattle.cip_branches.proofs.lemmas.taken.Ended.{twice}

module _ {N : Type 0} (kids : N → List N) (prior : N → N → Ordering) (key : N → ℤ) where
  sets_same : (cmp other : N → N → Ordering) (P : N → Type 0) → ((x y : N) → P x → P y → other x y ≡ cmp x y)
      → (a b : N) → AllByRecursion P (kids a) → AllByRecursion P (kids b) → sets kids other a b ≡ sets kids cmp a b
  unfolding sets
  sets_same cmp other P same a b pa pb =
      ap (λ xs. slice_cmp other (sorted_down other xs) (sorted_down other (kids b))) (sym (map-id (kids a)))
      ∙ ap (λ ys. slice_cmp other (sorted_down other (map (λ x. x) (kids a))) (sorted_down other ys))
      (sym (map-id (kids b)))
      ∙ sets_carried P (λ x. x) cmp other same (kids a) (kids b) pa pb

  no_sets : (cmp : N → N → Ordering) (a b : N) → kids a ≡ [] → kids b ≡ [] → sets kids cmp a b ≡ Equal
  unfolding sets
  no_sets cmp a b ea eb = ap (λ xs. slice_cmp cmp (sorted_down cmp xs) (sorted_down cmp (kids b))) ea
      ∙ ap (λ ys. slice_cmp cmp (sorted_down cmp []) (sorted_down cmp ys)) eb

  pub finished : (d : ℕ) (a b : N) → EndsWithin kids d a → EndsWithin kids d b → comparison kids prior key (suc d) a
      b ≡ comparison kids prior key d a b
  unfolding comparison
  finished zero a b ea eb = ap (ordering_then (comparison kids prior key zero a b))
      (no_sets (comparison kids prior key zero) a b ea eb) ∙ then_equal (comparison kids prior key zero a b)
  finished (suc d) a b ea eb =
      let c = comparison kids prior key d in
      ap (ordering_then (comparison kids prior key (suc d) a b)) (sets_same c (comparison kids prior key (suc d))
      (EndsWithin kids d) (λ x y px py. finished d x y px py) a b ea eb)
      ∙ twice (c a b) (sets kids c a b)

  pub ends_more : (d : ℕ) (n : N) → EndsWithin kids d n → EndsWithin kids (suc d) n
  ends_more zero n e = subst (AllByRecursion (EndsWithin kids zero)) (sym e) tt
  ends_more (suc d) n e = all_by (EndsWithin kids d) (EndsWithin kids (suc d)) (λ x h. ends_more d x h) (kids n) e

  -- from the end on, at every depth
  pub stays_finished : (e d : ℕ) (a b : N) → EndsWithin kids d a → EndsWithin kids d b → comparison kids prior key
      (d + e) a b ≡ comparison kids prior key d a b
  stays_finished zero d a b ea eb = ap (λ k. comparison kids prior key k a b) (add-zero d)
  stays_finished (suc e) d a b ea eb =
      ap (λ k. comparison kids prior key k a b) (add-suc d e)
      ∙ finished (d + e) a b (go e d a ea) (go e d b eb)
      ∙ stays_finished e d a b ea eb
    where
      go : (e d : ℕ) (n : N) → EndsWithin kids d n → EndsWithin kids (d + e) n
      go zero d n h = subst (λ k. EndsWithin kids k n) (sym (add-zero d)) h
      go (suc e) d n h = subst (λ k. EndsWithin kids k n) (sym (add-suc d e)) (ends_more (d + e) n (go e d n h))
