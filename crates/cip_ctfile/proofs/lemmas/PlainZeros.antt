-- A zero with four places after four spaces.
use Rattle.std.proofs.Common.{◌≡◌, ℕ, pos, List, true, codes, ◌∙◌, Ok, refl, ap}
use Rattle.std.specs.Str.{bytes_eq}
use Rattle.std.proofs.lemmas.Slice.Eq.{bytes_eq-Decides}
use Rattle.cip_text.specs.Numbers.{decimal4_of}
use Rattle.cip_ctfile.specs.Usual.{trimmed}

zero : decimal4_of (trimmed (codes "    0.0000")) ≡ Ok (pos 0)
unfolding decimal4_of
zero = refl

pub zero_read : (columns : List ℕ) → bytes_eq columns (codes "    0.0000") ≡ true
    → decimal4_of (trimmed columns) ≡ Ok (pos 0)
zero_read columns same =
    ap (λ text. decimal4_of (trimmed text)) ((bytes_eq-Decides columns (codes "    0.0000")).0 same) ∙ zero
