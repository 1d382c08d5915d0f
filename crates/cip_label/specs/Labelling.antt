-- The ranked ligands of a root, and the outcome of a unit by its ranked roots. Own.
use Rattle.std.specs.Prelude.{◌≤◌, ◌+◌, length, ℕ, Bool, true, false, List, [], ◌∷◌, ◌++◌, Some, nat_lt, if◌then◌else◌}
use Rattle.std.specs.declared.cmp.Ordering.TheVariants.{Equal}
use Rattle.cip_mol.specs.declared.labels.descriptor.Sense.{Sense}
use Rattle.cip_mol.specs.declared.labels.outcome.Outcome.{Outcome}
use Rattle.cip_mol.specs.declared.labels.outcome.Outcome.TheVariants as outcomes
use Rattle.cip_mol.specs.declared.site.Site.{Site}
use Rattle.cip_digraph.specs.units.Descriptors.{reason_needed}
use Rattle.cip_digraph.specs.units.Ends.{End}
use Rattle.cip_digraph.specs.units.Ranked as digraphs
use Rattle.cip_digraph.specs.units.Ranked.{Root, has_tie, later_reason, ranks, turned_ranks}
use Rattle.cip_digraph.specs.declared.decisions.parity.Parity.{Parity}
use Rattle.cip_digraph.specs.Lettered.{letter_in}
use Rattle.cip_digraph.specs.TurnsOf.{places_turns, together}
use Rattle.cip_label.specs.declared.reason.Reason.{Reason}
use Rattle.cip_label.specs.declared.ranked_root.Ranked.{Ranked}
use Rattle.cip_label.specs.declared.ranked_root.Ranked.TheVariants.{Ordered, Tie, Over}
use Rattle.cip_label.specs.Settings.{LabelContext, root_in, cost_in}

-- the code's reason as the definitions' one
abbrev pub as_reason : Reason → digraphs.Reason
as_reason reason = record { rule = reason.rule; sphere = reason.sphere }

abbrev pub ranked_by : {N : Type 0} → Root N → Ranked
ranked_by root =
    let needed = reason_needed (root ∷ []) in
    let ordered = Ordered (ranks root) (turned_ranks root) needed.rule needed.sphere in
    elim (has_tie root) as (λ _. Ranked) [ true ↦ Tie | false ↦ ordered ]

-- the bound goes before a tie
abbrev pub ranked_root : LabelContext → ℕ → End → Ranked
ranked_root setting bound end =
    let within = ranked_by (root_in setting end) in
    elim (nat_lt bound (cost_in setting end)) as (λ _. Ranked) [ true ↦ Over | false ↦ within ]

abbrev pub labelled : Site → Sense → Parity → digraphs.Reason → List ℕ → Outcome
labelled site sense parities reason order =
    outcomes.Label (record {
      letter = letter_in site sense parities;
      rule = reason.rule;
      sphere = reason.sphere;
      order = order;
    })

abbrev pub of_one : Site → Sense → Ranked → Outcome
of_one site sense Over = outcomes.Over
of_one site sense Tie = outcomes.Tie
of_one site sense (Ordered places turned rule sphere) =
    labelled site sense (places_turns places turned) (record { rule = rule; sphere = sphere }) places

abbrev pub of_two : Site → Sense → Ranked → Ranked → Outcome
of_two site sense Over other = outcomes.Over
of_two site sense Tie Over = outcomes.Over
of_two site sense Tie Tie = outcomes.Tie
of_two site sense Tie (Ordered places turned rule sphere) = outcomes.Tie
of_two site sense (Ordered places turned rule sphere) Over = outcomes.Over
of_two site sense (Ordered places turned rule sphere) Tie = outcomes.Tie
of_two site sense (Ordered places turned rule sphere) (Ordered more more_turned other_rule other_sphere) =
    let first : digraphs.Reason = record { rule = rule; sphere = sphere } in
    let last = later_reason first (Some (record { side = Equal; rule = other_rule; sphere = other_sphere })) in
    labelled site sense (together (places_turns places turned) (places_turns more more_turned)) last (places ++ more)

-- the label has room for the places of both ends
abbrev pub FitTogether : Ranked → Ranked → Type 0
FitTogether (Ordered places turned rule sphere) (Ordered more more_turned other_rule other_sphere) =
    length places + length more ≤ 4
FitTogether one other = Unit {0}

abbrev pub is_over : Ranked → Bool
is_over Over = true
is_over Tie = false
is_over (Ordered places turned rule sphere) = false

-- what is found of a second end, which isn't ranked where the first one is over the bound
abbrev pub ranked_behind : Ranked → Ranked → Ranked
ranked_behind one other = if is_over one then Over else other
