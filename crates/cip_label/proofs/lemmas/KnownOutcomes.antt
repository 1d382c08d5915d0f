-- The outcome of a unit is that of its ranked roots.
use Rattle.std.proofs.Common.{◌≡◌, ◌≤◌, ◌+◌, ◌++◌, ◌∷◌, ◌∙◌, [], ℕ, suc, Bool, true, false, cond, ◌||◌, List, refl, subst, sym}
use Rattle.std.proofs.Common.{ap, map, length, nat_lt, is_lt, Ordering, append-nil}
use Rattle.std.specs.List.{list_any, range_with_len}
use Rattle.std.proofs.lemmas.List.{length-map}
use Rattle.std.proofs.lemmas.List.FromFn.{length-range_with_len}
use Rattle.cip_rank.specs.Comparison.{insert_down, sorted_down}
use Rattle.cip_mol.specs.declared.labels.descriptor.Sense.{Sense}
use Rattle.cip_mol.specs.declared.labels.outcome.Outcome.{Outcome}
use Rattle.cip_mol.specs.declared.labels.outcome.Outcome.TheVariants as outcomes
use Rattle.cip_mol.specs.declared.site.Site.{Site}
use Rattle.cip_digraph.specs.units.Descriptors.{reason_needed}
use Rattle.cip_digraph.specs.digraph.Digraph.{Node}
use Rattle.cip_digraph.specs.units.Ends.{End, ends_of}
use Rattle.cip_digraph.specs.outcome.Outcomes.{label_of}
use Rattle.cip_digraph.specs.units.Ranked.{Root, Reason, decisions, has_tie, last_reason, place_order, ranks, side_of}
use Rattle.cip_digraph.specs.units.Ranked.{turned_ranks}
use Rattle.cip_digraph.specs.declared.decisions.parity.Parity.{Parity}
use Rattle.cip_digraph.specs.TurnsOf.{places_turns, together}
use Rattle.cip_digraph.proofs.lemmas.LettersTurn.{letter_of_both}
use Rattle.cip_label.specs.declared.ranked_root.Ranked.{Ranked}
use Rattle.cip_label.specs.declared.ranked_root.Ranked.TheVariants as rankeds
use Rattle.cip_label.specs.Settings.{LabelContext, cost_in, known_in, root_in}
use Rattle.cip_label.specs.Labelling.{FitTogether, ranked_behind, ranked_root, labelled, of_one, of_two}
use Rattle.cip_label.proofs.lemmas.LastReason.{last_of_two, later_of}

abbrev with_label : Bool → Bool → Outcome → Outcome
with_label over tie labelled =
    let within = elim tie as (λ _. Outcome) [ true ↦ outcomes.Tie | false ↦ labelled ] in
    elim over as (λ _. Outcome) [ true ↦ outcomes.Over | false ↦ within ]

abbrev with_ranks : Bool → Bool → Ranked → Ranked
with_ranks over tie ordered =
    let within = elim tie as (λ _. Ranked) [ true ↦ rankeds.Tie | false ↦ ordered ] in
    elim over as (λ _. Ranked) [ true ↦ rankeds.Over | false ↦ within ]

one_by : (site : Site) (sense : Sense) (ordered : Ranked) (label : Outcome) → of_one site sense ordered ≡ label →
    (over tie : Bool) → of_one site sense (with_ranks over tie ordered) ≡ with_label (over || false) (tie || false)
    label
one_by site sense ordered label same true tie = refl
one_by site sense ordered label same false true = refl
one_by site sense ordered label same false false = same

two_by : (site : Site) (sense : Sense) (p p-turned q q-turned : List ℕ) (one other : Reason) (label : Outcome) →
    labelled site sense (together (places_turns p p-turned) (places_turns q q-turned)) (later_of one other) (p ++ q)
    ≡ label →
    (over tie more_over more_tie : Bool) →
    of_two site sense (with_ranks over tie (rankeds.Ordered p p-turned one.rule one.sphere))
    (with_ranks more_over more_tie (rankeds.Ordered q q-turned other.rule other.sphere))
    ≡ with_label (over || (more_over || false)) (tie || (more_tie || false)) label
two_by site sense p p-turned q q-turned one other label same false false false false = same
two_by site sense p p-turned q q-turned one other label same false true false false = refl
two_by site sense p p-turned q q-turned one other label same over tie more_over more_tie = refl

-- where the first end is larger than the bound, the other one doesn't matter
two_behind : (site : Site) (sense : Sense) (one other : Ranked) →
    of_two site sense one (ranked_behind one other) ≡ of_two site sense one other
two_behind site sense rankeds.Over other = refl
two_behind site sense rankeds.Tie other = refl
two_behind site sense (rankeds.Ordered places turned rule sphere) other = refl

-- both ends as they are ranked, one after the other
pub record AreRanked (setting : LabelContext) (bound : ℕ) (one other : End) (nearer far : Ranked) : Type 0 where
  pub first : nearer ≡ ranked_root setting bound one
  pub second : far ≡ ranked_behind nearer (ranked_root setting bound other)

pub are_ranked : (setting : LabelContext) (bound bound_then : ℕ) (one other : End) (nearer far : Ranked) →
    bound_then ≡ bound → nearer ≡ ranked_root setting bound one →
    far ≡ ranked_behind nearer (ranked_root setting bound_then other) → AreRanked setting bound one other nearer far
are_ranked setting bound bound_then one other nearer far kept first second = record {
  first = first;
  second = second ∙ ap (λ b. ranked_behind nearer (ranked_root setting b other)) kept;
}

module _ (setting : LabelContext) (bound : ℕ) (site : Site) (sense : Sense) where
  abbrev root : End → Root Node
  root end = root_in setting end

  abbrev is_larger : End → Bool
  is_larger end = nat_lt bound (cost_in setting end)

  -- the outcome by the ends of the site
  abbrev by_ends : List End → Outcome
  by_ends ends = with_label (list_any is_larger ends) (list_any has_tie (map root ends))
      (outcomes.Label (label_of setting.rules setting.graph setting.positions setting.units site sense (map root ends)))

  by_site : by_ends (ends_of site) ≡ known_in setting bound site sense
  by_site = refl

  abbrev needed : End → Reason
  needed end = reason_needed (root end ∷ [])

  abbrev parities : End → Parity
  parities end = places_turns (ranks (root end)) (turned_ranks (root end))

  one_end : (end : End) → of_one site sense (ranked_root setting bound end) ≡ by_ends (end ∷ [])
  one_end end =
      one_by site sense (rankeds.Ordered (ranks (root end)) (turned_ranks (root end)) (needed end).rule
      (needed end).sphere) (outcomes.Label (label_of setting.rules setting.graph setting.positions setting.units site
      sense (root end ∷ [])))
      (ap (labelled site sense (parities end) (needed end)) (sym (append-nil (ranks (root end)))))
      (is_larger end) (has_tie (root end))

  needed_of_two : (one other : End) → later_of (needed one) (needed other) ≡ reason_needed (root one ∷ root other ∷ [])
  needed_of_two one other =
      ap (λ ds. later_of (last_reason ds) (needed other)) (append-nil (decisions (root one)))
      ∙ sym (last_of_two (decisions (root one)) (decisions (root other) ++ []))

  two_ends : (one other : End) → of_two site sense (ranked_root setting bound one) (ranked_root setting bound other)
      ≡ by_ends (one ∷ other ∷ [])
  two_ends one other =
      two_by site sense (ranks (root one)) (turned_ranks (root one)) (ranks (root other)) (turned_ranks (root other))
      (needed one) (needed other)
      (outcomes.Label (label_of setting.rules setting.graph setting.positions setting.units site sense
      (root one ∷ root other ∷ [])))
      (λ k. outcomes.Label (record {
        letter = sym (letter_of_both site sense (parities one) (parities other)) k;
        rule = (needed_of_two one other k).rule;
        sphere = (needed_of_two one other k).sphere;
        order = ranks (root one) ++ sym (append-nil (ranks (root other))) k;
      }))
      (is_larger one) (has_tie (root one)) (is_larger other) (has_tie (root other))

  pub known_by_one : (end : End) → ends_of site ≡ end ∷ [] →
      of_one site sense (ranked_root setting bound end) ≡ known_in setting bound site sense
  known_by_one end e = one_end end ∙ ap by_ends (sym e)

  pub known_by_two : (one other : End) (nearer far : Ranked) → ends_of site ≡ one ∷ other ∷ [] →
      AreRanked setting bound one other nearer far → of_two site sense nearer far ≡ known_in setting bound site sense
  known_by_two one other nearer far e are =
      let last = ranked_root setting bound other in
      ap (of_two site sense nearer) are.second ∙ two_behind site sense nearer last
      ∙ ap (λ root. of_two site sense root last) are.first ∙ two_ends one other ∙ ap by_ends (sym e)

-- ranked roots have as many places as ligands
sorted_length : {N : Type 0} (compare : N → N → Ordering) (ns : List N) → length (sorted_down compare ns) ≡ length ns
sorted_length compare [] = refl
sorted_length {N = N} compare (n ∷ ns) = inserted (sorted_down compare ns) ∙ ap suc (sorted_length compare ns)
  where
    if_longer : (b : Bool) (m : N) (ms rest : List N) → length rest ≡ suc (length ms) →
        length (cond b (m ∷ rest) (n ∷ m ∷ ms)) ≡ suc (suc (length ms))
    if_longer true m ms rest e = ap suc e
    if_longer false m ms rest e = refl

    inserted : (ms : List N) → length (insert_down compare n ms) ≡ suc (length ms)
    inserted [] = refl
    inserted (m ∷ ms) = if_longer (is_lt (compare n m)) m ms (insert_down compare n ms) (inserted ms)

fit_behind : (one other : Ranked) → FitTogether one other → FitTogether one (ranked_behind one other)
fit_behind rankeds.Over other fit = tt
fit_behind rankeds.Tie other fit = tt
fit_behind (rankeds.Ordered places turned rule sphere) other fit = fit

module _ (setting : LabelContext) (bound : ℕ) where
  ranks_length : (end : End) → length (ranks (root_in setting end)) ≡ length end.ligands
  ranks_length end =
      let found = root_in setting end in
      sorted_length (λ i j. side_of (place_order found.order found.ligands i j))
      (range_with_len 0 (length found.ligands))
      ∙ length-range_with_len 0 (length found.ligands) ∙ length-map end.ligands _

  together_by : (p p-turned q q-turned : List ℕ) (one other : Reason) → length p + length q ≤ 4 →
      (over tie more_over more_tie : Bool) →
      FitTogether (with_ranks over tie (rankeds.Ordered p p-turned one.rule one.sphere))
      (with_ranks more_over more_tie (rankeds.Ordered q q-turned other.rule other.sphere))
  together_by p p-turned q q-turned one other few true tie more_over more_tie = tt
  together_by p p-turned q q-turned one other few false true more_over more_tie = tt
  together_by p p-turned q q-turned one other few false false true more_tie = tt
  together_by p p-turned q q-turned one other few false false false true = tt
  together_by p p-turned q q-turned one other few false false false false = few

  pub fit_together : (one other : End) (nearer far : Ranked) → length one.ligands + length other.ligands ≤ 4 →
      AreRanked setting bound one other nearer far → FitTogether nearer far
  fit_together one other nearer far few are =
      let first = root_in setting one in
      let second = root_in setting other in
      subst (FitTogether nearer) (sym are.second) (fit_behind nearer (ranked_root setting bound other)
      (subst (λ root. FitTogether root (ranked_root setting bound other)) (sym are.first)
      (together_by (ranks first) (turned_ranks first) (ranks second) (turned_ranks second) (reason_needed (first ∷ []))
      (reason_needed (second ∷ []))
      (rw (ranks_length one, ranks_length other) few)
      (nat_lt bound (cost_in setting one)) (has_tie first) (nat_lt bound (cost_in setting other)) (has_tie second))))
