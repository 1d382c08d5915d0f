-- The first number that passes a test is found.
use Rattle.std.proofs.Common.{◌≡◌, ◌≢◌, ◌<◌, ◌≤◌, ◌+◌, ℕ, zero, suc, Bool, true, false, List, [], ◌∷◌, refl, ap, ◌∙◌}
use Rattle.std.proofs.Common.{arith, inl, inr}
use Rattle.std.proofs.lemmas.Bool.{cases_order}
use Rattle.cip_digraph.specs.outcome.Deciding.{least_from, is_settled, deciding_sphere}
use Rattle.cip_digraph.specs.digraph.Digraph.{Node}
use Rattle.cip_digraph.specs.rules.Orders.{Seen}

abbrev pub here_or : ℕ → ℕ → Bool → ℕ
here_or number later b = elim b as (λ _. ℕ) [ true ↦ number | false ↦ later ]

least_found : (test : ℕ → Bool) (more from number : ℕ) → from ≤ number → number ≤ from + more
    → ((before : ℕ) → from ≤ before → before < number → test before ≡ false) → test number ≡ true
    → least_from test from more ≡ number
least_found test zero from number low high none here = omega arith
least_found test (suc more) from number low high none here =
    elim (cases_order from number) [
      | inl same ↦ ap (here_or from (least_from test (from + 1) more)) (ap test same ∙ here) ∙ same
      | inr (inl below) ↦
          ap (here_or from (least_from test (from + 1) more)) (none from (omega arith) below)
          ∙ least_found test more (from + 1) number (omega arith) (omega arith)
          (λ before low high. none before (omega arith) high) here
      | inr (inr above) ↦ absurd (omega arith)
    ]

pub if_any : (nodes : List Node) (least : ℕ) → nodes ≢ []
    → elim nodes as (λ _. ℕ) [ [] ↦ 0 | node ∷ others ↦ least ] ≡ least
if_any [] least some = absurd (some refl)
if_any (node ∷ others) least some = refl

pub least_decides : (seen : Seen Node) (root : Node) (ligands : List (List Node)) (is_in_unit : Node → Bool)
    (number : ℕ)
    → seen.children root ≢ [] → 1 ≤ number → number ≤ seen.height
    → is_settled seen root ligands is_in_unit number ≡ true
    → ((before : ℕ) → 1 ≤ before → before < number → is_settled seen root ligands is_in_unit before ≡ false)
    → deciding_sphere seen root ligands is_in_unit ≡ number
least_decides seen root ligands is_in_unit number some low high here none =
    if_any (seen.children root) (least_from (is_settled seen root ligands is_in_unit) 1 seen.height) some
    ∙ least_found (is_settled seen root ligands is_in_unit) seen.height 1 number low (omega arith) none here
