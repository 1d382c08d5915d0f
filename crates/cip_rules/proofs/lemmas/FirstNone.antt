-- Where a comparison ties at all depths, no difference is found.
use Rattle.std.proofs.Common.{◌≡◌, ℕ, zero, suc, ◌+◌, ◌<◌, ◌≤◌, refl, ap, ◌∙◌, arith}
use Rattle.std.specs.Prelude.{None}
use Rattle.std.specs.declared.cmp.Ordering.{Ordering}
use Rattle.std.specs.declared.cmp.Ordering.TheVariants.{Equal}
use Rattle.cip_digraph.specs.rules.Decisions.{first_difference}
use Rattle.cip_digraph.proofs.lemmas.orders.Exchanged.{found_at}

pub none_at : (f : ℕ → Ordering) (m s : ℕ) → ((d : ℕ) → s ≤ d → d < s + m → f d ≡ Equal) → first_difference f s m ≡ None
none_at f zero s ties = refl
none_at f (suc m) s ties =
    ap (found_at s (first_difference f (s + 1) m)) (ties s (omega arith) (omega arith))
    ∙ none_at f m (s + 1) (λ d low high. ties d (omega arith) (omega arith))
