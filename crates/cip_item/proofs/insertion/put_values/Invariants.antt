use Rattle.std.proofs.Common.{◌≡◌, ◌++◌, drop}
use Rattle.std.specs.List.{flat_map}
use Rattle.cip_item.proofs.insertion.put_values.Given as goal

abbrev pub invariant-loop-value : goal.invariant-loop-value
invariant-loop-value l =
    l.text.items ++ flat_map (λ value. value ++ l.end) (drop l.value-index l.values)
    ≡ l.initial.text.items ++ flat_map (λ value. value ++ l.end) l.values
