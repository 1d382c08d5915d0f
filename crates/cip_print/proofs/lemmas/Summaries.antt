-- The line of counts, written at once.
use Rattle.std.proofs.Common.{◌≡◌, ◌++◌, ◌∙◌, List, ℕ, ap, append_assoc, sym}
use Rattle.std.specs.Prelude.{codes, decimal}
use Rattle.cip_print.specs.Tallies.{Counts, records_part, summary_line, units_part}

regrouped : (a b c d rest : List ℕ) → a ++ (b ++ (c ++ (d ++ rest))) ≡ (a ++ (b ++ (c ++ d))) ++ rest
regrouped a b c d rest =
    ap (λ more. a ++ (b ++ more)) (sym (append_assoc c d rest))
    ∙ ap (λ more. a ++ more) (sym (append_assoc b (c ++ d) rest))
    ∙ sym (append_assoc a (b ++ (c ++ d)) rest)

pub summed : (counts : Counts)
    → codes "records " ++ (decimal counts.records ++ (codes " refused " ++ (decimal counts.refused ++ units_part counts)))
    ≡ summary_line counts
unfolding records_part
summed counts =
    regrouped (codes "records ") (decimal counts.records) (codes " refused ") (decimal counts.refused) (units_part counts)
