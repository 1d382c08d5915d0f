-- What follows the first element of a list.
use Rattle.std.proofs.Common.{◌≡◌, suc, ◌-◌, ◌≤◌, List, [], ◌∷◌, length, take, drop, sym, ap, ◌∙◌, subst, arith, All}
use Rattle.std.proofs.lemmas.List.{take_all}
use Rattle.std.proofs.lemmas.List.Elements.{All-tail}

module _ {X : Type 0} where
  pub rest_is : (x : X) (xs : List X) → take (length (x ∷ xs) - 1) (drop 1 (x ∷ xs)) ≡ xs
  rest_is x xs =
      let less : suc (length xs) - 1 ≡ length xs = omega arith in ap (λ n. take n xs) less
      ∙ take_all (length xs) xs (omega arith)

  pub all_rest : (P : X → Type 0) (xs : List X) → 1 ≤ length xs → All P xs → All P (take (length xs - 1) (drop 1 xs))
  all_rest P [] some all = absurd (omega arith)
  all_rest P (x ∷ xs) some all = subst (All P) (sym (rest_is x xs)) (All-tail P x xs all)
