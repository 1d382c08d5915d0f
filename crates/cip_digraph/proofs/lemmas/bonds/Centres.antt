-- How many bonds a centre has, and how many an end of a double bond.
use Rattle.std.proofs.Common.{◌≡◌, ◌⊎◌, inl, inr, ℕ, ℤ, pos, ap, Bool, true, false, ◌==◌, ◌||◌, ◌&&◌, nat_le, is_some}
use Rattle.std.proofs.Common.{eqb-true, int_eq}
use Rattle.std.proofs.lemmas.Bool.{and_parts, or_cases}
use Rattle.cip_elem.specs.Electrons.{outer_of}
use Rattle.cip_digraph.specs.units.Centres.{is_quadriligant, is_centre_by}
use Rattle.cip_digraph.specs.units.DoubleBonds.{is_double_end}

pub centre_parts : (z : ℕ) (charge : ℤ) (edges shown : ℕ) (lone : Bool) → is_centre_by z charge edges shown lone ≡ true
    → (edges ≡ 4) ⊎ ((edges ≡ 3) × (is_some (outer_of z) ≡ true))
centre_parts z charge edges shown lone e =
    elim (or_cases ((edges == 4) && is_quadriligant z charge) ((edges == 3) && is_some (outer_of z) && lone)
    (and_parts (nat_le 3 shown)
    (((edges == 4) && is_quadriligant z charge) || ((edges == 3) && is_some (outer_of z) && lone)) e).1) [
      | inl four ↦ inl (eqb-true edges 4 (and_parts (edges == 4) (is_quadriligant z charge) four).0)
      | inr three ↦
          let most = and_parts ((edges == 3) && is_some (outer_of z)) lone three in
          let first = and_parts (edges == 3) (is_some (outer_of z)) most.0 in
          inr (eqb-true edges 3 first.0, first.1)
    ]

pub no_outer : (z : ℕ) → ((z ≡ 6) ⊎ (z ≡ 14)) ⊎ ((z ≡ 32) ⊎ (z ≡ 7)) → is_some (outer_of z) ≡ false
no_outer z (inl (inl e)) = ap (λ n. is_some (outer_of n)) e
no_outer z (inl (inr e)) = ap (λ n. is_some (outer_of n)) e
no_outer z (inr (inl e)) = ap (λ n. is_some (outer_of n)) e
no_outer z (inr (inr e)) = ap (λ n. is_some (outer_of n)) e

pub double_parts : (z : ℕ) (charge : ℤ) (edges : ℕ) → is_double_end z charge edges ≡ true
    → ((edges ≡ 3) × (is_some (outer_of z) ≡ false)) ⊎ ((edges ≡ 2) × (z ≡ 7))
double_parts z charge edges e =
    let elements = (z == 6) || (z == 14) || (z == 32) || ((z == 7) && int_eq charge (pos 1)) in
    elim (or_cases ((edges == 3) && elements) ((edges == 2) && (z == 7) && int_eq charge (pos 0)) e) [
      | inl three ↦
          let parts = and_parts (edges == 3) elements three in
          inl (
            eqb-true edges 3 parts.0,
            no_outer z
                (elim (or_cases ((z == 6) || (z == 14) || (z == 32)) ((z == 7) && int_eq charge (pos 1)) parts.1) [
                  | inl more ↦ elim (or_cases ((z == 6) || (z == 14)) (z == 32) more) [
                    | inl fewer ↦
                        elim (or_cases (z == 6) (z == 14) fewer)
                        [ inl six ↦ inl (inl (eqb-true z 6 six)) | inr fourteen ↦ inl (inr (eqb-true z 14 fourteen)) ]
                    | inr thirty ↦ inr (inl (eqb-true z 32 thirty))
                  ]
                  | inr seven ↦ inr (inr (eqb-true z 7 (and_parts (z == 7) (int_eq charge (pos 1)) seven).0))
                ]),
          )
      | inr two ↦
          let parts = and_parts ((edges == 2) && (z == 7)) (int_eq charge (pos 0)) two in
          let first = and_parts (edges == 2) (z == 7) parts.0 in
          inr (eqb-true edges 2 first.0, eqb-true z 7 first.1)
    ]
