-- Order, rule and sphere don't depend on which sense is shown.
use Rattle.std.proofs.Common.{◌≡◌, Bool, true, false, map, nat_lt, refl}
use Rattle.std.specs.List.{list_any}
use Rattle.cip_mol.specs.declared.labels.descriptor.Descriptor.{Descriptor}
use Rattle.cip_mol.specs.declared.labels.descriptor.Sense.TheVariants.{Plus}
use Rattle.cip_mol.specs.declared.labels.outcome.Label as labels
use Rattle.cip_mol.specs.declared.labels.outcome.Outcome.{Outcome}
use Rattle.cip_mol.specs.declared.labels.outcome.Outcome.TheVariants.{Label, Tie, Over}
use Rattle.cip_digraph.specs.units.Descriptors.{letter, reason_needed, all_ranks}
use Rattle.cip_digraph.specs.units.Ends.{ends_of}
use Rattle.cip_digraph.specs.units.Ranked.{has_tie}
use Rattle.cip_label.specs.Settings.{cost_in, root_in}
use Rattle.cip_undefined.specs.Laws.{SensesKeepOrders, lettered}

abbrev found_by : Bool → Bool → labels.Label → Outcome
found_by over tie label =
    elim over as (λ _. Outcome) [
      | true ↦ Over
      | false ↦ elim tie as (λ _. Outcome) [ true ↦ Tie | false ↦ Label label ]
    ]

alike_by : (over tie : Bool) (label : labels.Label) (other : Descriptor)
    → lettered (found_by over tie label) ≡ lettered (found_by over tie (record label { letter = other }))
alike_by true tie label other = refl
alike_by false true label other = refl
alike_by false false label other = refl

pub senses_keep : SensesKeepOrders
senses_keep setting nodes site sense =
    let roots = map (root_in setting) (ends_of site) in
    let needed = reason_needed roots in
    alike_by (list_any (λ end. nat_lt nodes (cost_in setting end)) (ends_of site)) (list_any has_tie roots)
    (record { letter = letter site sense roots; rule = needed.rule; sphere = needed.sphere; order = all_ranks roots })
    (letter site Plus roots)
