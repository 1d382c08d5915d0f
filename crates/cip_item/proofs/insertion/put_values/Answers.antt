use Rattle.std.proofs.Common.{arith, ◌≡◌, ◌≤◌, ◌++◌, ◌∙◌, ℕ, List, ap, append-nil, drop, length, sym}
use Rattle.std.proofs.lemmas.List.{drop_all}
use Rattle.std.proofs.lemmas.Grind.{common_steps}
use Rattle.std.specs.List.{flat_map}
use Rattle.cip_item.proofs.insertion.put_values.Goals as goal

-- where none is left all are put
all_put : (text before end : List ℕ) (given values : List (List ℕ)) (k : ℕ) → given ≡ values → length given ≤ k
    → text ++ flat_map (λ value. value ++ end) (drop k given) ≡ before ++ flat_map (λ value. value ++ end) given
    → text ≡ before ++ flat_map (λ value. value ++ end) values
all_put text before end given values k same over so_far =
    sym (append-nil text)
    ∙ ap (λ rest. text ++ flat_map (λ value. value ++ end) rest) (sym (drop_all k given over))
    ∙ so_far ∙ ap (λ all. before ++ flat_map (λ value. value ++ end) all) same

pub loop-value-preserved : goal.loop-value-preserved
loop-value-preserved c = grind (arith, common_steps)

pub returns : goal.returns
returns c =
    all_put c.loop-value.text.items c.args.text.now.items c.args.end.now c.as_slice-values.result.now c.args.values.now
    c.loop-value.value-index c.as_slice-values.ensures c.loop-value-test.false c.loop-value.invariant
