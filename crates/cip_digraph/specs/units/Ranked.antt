-- The ligands of a root in rank order, and what was needed for it. IUPAC 2013, P-92.1; that a lone pair is below all
-- ligands is P-93.2, and that Rule 1a decides it in the first sphere is own.
use Rattle.std.specs.Prelude.{ℕ, ◌==◌, ◌&&◌, ◌||◌, Bool, true, false, List, [], ◌∷◌, length, None, Some, nat_lt, slice_index_or, if◌then◌else◌}
use Rattle.std.specs.List.{range_with_len, list_any, list_all, fold}
use Rattle.std.specs.declared.option.Option.{Option}
use Rattle.std.specs.declared.cmp.Ordering.{Ordering}
use Rattle.std.specs.declared.cmp.Ordering.TheVariants.{Less, Equal, Greater}
use Rattle.cip_rank.specs.Comparison.{sorted_down}
use Rattle.cip_mol.specs.declared.labels.outcome.Rule.{Rule}
use Rattle.cip_mol.specs.declared.labels.outcome.Rule.TheVariants.{R1a, R1b, R2, R3, R4a, R4b, R4c, R5}
use Rattle.cip_digraph.specs.declared.decisions.decision.Decision.{Decision}

-- a root as it is in a digraph: how branches compare there, by all rules and with the last one turned, and its
-- ligands, of which each is a node, or none for a lone pair
pub record Root (N : Type 0) : Type 0 where
  pub order : N → N → Option Decision
  pub turned : N → N → Option Decision
  pub ligands : List (List N)

abbrev pub against_lone_pair : Ordering → Option Decision
against_lone_pair side = Some (record { side = side; rule = R1a; sphere = 1 })

abbrev pub ligand_order : {N : Type 0} → (N → N → Option Decision) → List N → List N → Option Decision
ligand_order order [] [] = None
ligand_order order [] (b ∷ bs) = against_lone_pair Less
ligand_order order (a ∷ aa) [] = against_lone_pair Greater
ligand_order order (a ∷ aa) (b ∷ bs) = order a b

-- two ligands by their places
abbrev pub place_order : {N : Type 0} → (N → N → Option Decision) → List (List N) → ℕ → ℕ → Option Decision
place_order order ligands i j = ligand_order order (slice_index_or ligands i []) (slice_index_or ligands j [])

abbrev pub side_of : Option Decision → Ordering
side_of None = Equal
side_of (Some decision) = decision.side

-- the places of the ligands, highest first
abbrev pub ranked_places : {N : Type 0} → (N → N → Option Decision) → List (List N) → List ℕ
ranked_places order ligands =
    sorted_down (λ i j. side_of (place_order order ligands i j)) (range_with_len 0 (length ligands))

-- what is between neighbours in rank order
abbrev pub decisions_behind : {N : Type 0} → (N → N → Option Decision) → List (List N) → ℕ → List ℕ
    → List (Option Decision)
decisions_behind order ligands place [] = []
decisions_behind order ligands place (next ∷ places) =
    place_order order ligands place next ∷ decisions_behind order ligands next places

abbrev pub decisions_along : {N : Type 0} → (N → N → Option Decision) → List (List N) → List ℕ → List (Option Decision)
decisions_along order ligands [] = []
decisions_along order ligands (place ∷ places) = decisions_behind order ligands place places

abbrev pub ranks : {N : Type 0} → Root N → List ℕ
ranks root = ranked_places root.order root.ligands

abbrev pub turned_ranks : {N : Type 0} → Root N → List ℕ
turned_ranks root = ranked_places root.turned root.ligands

abbrev pub decisions : {N : Type 0} → Root N → List (Option Decision)
decisions root = decisions_along root.order root.ligands (ranks root)

abbrev pub is_tie : Option Decision → Bool
is_tie None = true
is_tie (Some decision) = false

-- of each two elements, and of some two of them
abbrev pub every_pair : {X : Type 0} → (X → X → Bool) → List X → Bool
every_pair test [] = true
every_pair test (x ∷ xs) = list_all (test x) xs && every_pair test xs

abbrev pub some_pair : {X : Type 0} → (X → X → Bool) → List X → Bool
some_pair test [] = false
some_pair test (x ∷ xs) = list_any (test x) xs || some_pair test xs

-- two of the ligands tie by all rules
abbrev pub has_tie : {N : Type 0} → Root N → Bool
has_tie root = some_pair (λ a b. is_tie (ligand_order root.order a b)) root.ligands

abbrev pub turn_of : Rule → ℕ
turn_of R1a = 0
turn_of R1b = 1
turn_of R2 = 2
turn_of R3 = 3
turn_of R4a = 4
turn_of R4b = 5
turn_of R4c = 6
turn_of R5 = 7

-- a rule and a sphere in which it decided
pub record Reason : Type 0 where
  pub rule : Rule
  pub sphere : ℕ

abbrev pub reason_of : Option Decision → Option Reason
reason_of None = None
reason_of (Some decision) = Some (record { rule = decision.rule; sphere = decision.sphere })

-- of two the one by the later rule, and by the same rule the one further out
abbrev pub is_later : Reason → Decision → Bool
is_later reason decision =
    nat_lt (turn_of reason.rule) (turn_of decision.rule)
    || ((turn_of reason.rule == turn_of decision.rule) && nat_lt reason.sphere decision.sphere)

abbrev pub later_reason : Reason → Option Decision → Reason
later_reason reason None = reason
later_reason reason (Some decision) =
    if is_later reason decision then record { rule = decision.rule; sphere = decision.sphere } else reason

-- the last rule that was needed, and the greatest sphere in which it was
abbrev pub last_reason : List (Option Decision) → Reason
last_reason all = fold later_reason (record { rule = R1a; sphere = 0 }) all
