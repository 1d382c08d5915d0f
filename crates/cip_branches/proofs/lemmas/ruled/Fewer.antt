-- Numbers that order places order fewer of them: what may go when a branch is closed, and what a new sphere leaves.
use Rattle.std.proofs.Common.{◌≡◌, ◌<◌, ◌≤◌, ◌-◌, ℕ, ℤ, List, ap, ◌∙◌, sym}
use Rattle.std.specs.declared.cmp.Ordering.{Ordering}
use Rattle.cip_rank.specs.Comparison.{comparison}
use Rattle.cip_rank.specs.Ranking.{by_number}
use Rattle.cip_branches.specs.Views.{Reaches, AreAhead}

module _ {N : Type 0} (children : N → List N) (earlier : N → N → Ordering) (key : N → ℤ) (node others : ℕ → N)
    (At Less : ℕ → ℕ → Type 0) (old new : List ℕ) where
  -- fewer places, in whichever numbers that compare alike
  pub fewer_reach : (far : ℕ) → ((t place : ℕ) → t ≤ far → Less t place → At t place)
      → ((t place : ℕ) → t ≤ far → Less t place → others place ≡ node place)
      → ((t a b : ℕ) → t ≤ far → Less t a → Less t b → by_number new a b ≡ by_number old a b)
      → Reaches children earlier key node At far old → Reaches children earlier key others Less far new
  fewer_reach far less same alike reaches = record {
    each = λ t le. record {
      each = λ a b p q.
          alike t a b le p q ∙ (reaches.each t le).each a b (less t a le p) (less t b le q)
          ∙ ap (λ n. comparison children earlier key (far - t) n (node b)) (sym (same t a le p))
          ∙ ap (comparison children earlier key (far - t) (others a)) (sym (same t b le q));
    };
  }

  pub fewer_ahead : (far : ℕ) → ((t place : ℕ) → Less t place → At t place)
      → ((t place : ℕ) → Less t place → others place ≡ node place)
      → ((t a b : ℕ) → far < t → Less t a → Less t b → by_number new a b ≡ by_number old a b)
      → AreAhead children earlier key node At far old → AreAhead children earlier key others Less far new
  fewer_ahead far less same alike ahead = record {
    each = λ t lt. record {
      each = λ a b p q.
          alike t a b lt p q ∙ (ahead.each t lt).each a b (less t a p) (less t b q)
          ∙ ap (λ n. earlier n (node b)) (sym (same t a p))
          ∙ ap (earlier (others a)) (sym (same t b q));
    };
  }
