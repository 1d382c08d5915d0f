-- A mark that is given to a centre at a bond drawn from it is another mark with its narrow end there.
use Rattle.std.proofs.Common.{◌≡◌, ◌∙◌, ap, ℕ, List, [], ◌∷◌, Bool, true, false, cond, inl, inr, map, refl, sym, ◌==◌, ◌&&◌, eq-eqb, eqb-true}
use Rattle.std.specs.List.{AllByRecursion}
use Rattle.std.proofs.lemmas.List.Elements.{recursion_from_All}
use Rattle.std.proofs.lemmas.Bool.{and_parts, or_cases}
use Rattle.cip_mol.specs.Marks.{is_narrow_at, joins}
use Rattle.cip_mol.specs.declared.graph.molecule.Bond.{Bond}
use Rattle.cip_mol.specs.declared.graph.molecule.Mark.{Mark}
use Rattle.cip_mol.specs.declared.graph.molecule.Mark.TheVariants.{Plain}
use Rattle.cip_edit.specs.Marking.{bare_bonds, can_be_marked, is_plain, marked_to, with_mark, without_mark}
use Rattle.cip_edit.specs.Remarked.{AreRemarked, IsRemarked}
use Rattle.cip_laws.specs.Marks.{GivenMarksKeepOrders, IsDrawnFrom}
use Rattle.cip_laws.proofs.lemmas.marked.KeptMarks.{marks_keep}

module _ (atom neighbour : ℕ) (mark : Mark) where
  other_end : (w : Bond) → joins atom neighbour w ≡ true → w.a ≡ atom → neighbour ≡ w.b
  other_end w joined from =
      elim (or_cases ((w.a == atom) && (w.b == neighbour)) ((w.a == neighbour) && (w.b == atom)) joined) [
        | inl e ↦ sym (eqb-true w.b neighbour (and_parts (w.a == atom) (w.b == neighbour) e).1)
        | inr e ↦
            (let both = and_parts (w.a == neighbour) (w.b == atom) e in
            sym (eqb-true w.a neighbour both.0) ∙ from ∙ sym (eqb-true w.b atom both.1))
      ]

  turned : (w v : Bond) → v.a ≡ w.a → v.b ≡ w.b → v.order ≡ w.order → IsDrawnFrom atom neighbour v
      → can_be_marked atom neighbour v ≡ true
      → IsRemarked atom w (record { a = atom; b = neighbour; order = v.order; mark = mark })
  turned w v a b order drawn free =
      let parts = and_parts (joins atom neighbour v) ((v.order == 1) && is_plain v.mark) free in
      let from : v.a ≡ atom = drawn parts.0 in
      let single = (and_parts (v.order == 1) (is_plain v.mark) parts.1).0 in
      record {
        a = sym from ∙ a;
        b = other_end v parts.0 from ∙ b;
        order = order;
        mark = inr (λ i. eq-eqb w.a atom (sym a ∙ from) i && (ap (λ n. n == 1) (sym order) ∙ single) i);
      }

  one_remarked : (w : Bond) → IsDrawnFrom atom neighbour w
      → IsRemarked atom w (marked_to atom neighbour mark (without_mark atom w))
  one_remarked w drawn = by (is_narrow_at atom w) refl
    where
      free_by : (v : Bond) → IsRemarked atom w v → v.a ≡ w.a → v.b ≡ w.b → v.order ≡ w.order
          → IsDrawnFrom atom neighbour v → (f : Bool) → can_be_marked atom neighbour v ≡ f
          → IsRemarked atom w (cond f (record { a = atom; b = neighbour; order = v.order; mark = mark }) v)
      free_by v same a b order from true e = turned w v a b order from e
      free_by v same a b order from false e = same

      by : (n : Bool) → is_narrow_at atom w ≡ n
          → IsRemarked atom w (marked_to atom neighbour mark (cond n (record w { mark = Plain }) w))
      by true e =
          let v : Bond = record w { mark = Plain } in
          free_by v (record { a = refl; b = refl; order = refl; mark = inr e }) refl refl refl drawn
          (can_be_marked atom neighbour v) refl
      by false e =
          free_by w (record { a = refl; b = refl; order = refl; mark = inl refl }) refl refl refl drawn
          (can_be_marked atom neighbour w) refl

  all_remarked : (bonds : List Bond) → AllByRecursion (IsDrawnFrom atom neighbour) bonds
      → AreRemarked atom bonds (map (marked_to atom neighbour mark) (bare_bonds atom bonds))
  all_remarked [] drawn = tt
  all_remarked (w ∷ bonds) drawn = (one_remarked w drawn.0, all_remarked bonds drawn.1)

pub given_keep : GivenMarksKeepOrders
given_keep rules nodes drawing atom neighbour mark sense centre drawn shown =
    marks_keep rules nodes drawing (with_mark drawing atom neighbour mark).bonds atom sense
    (and_parts _ _ centre).1
    (all_remarked atom neighbour mark drawing.bonds (recursion_from_All (IsDrawnFrom atom neighbour) drawing.bonds drawn))
    shown
