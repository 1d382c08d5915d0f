-- A letter by the turns of its roots.
use Rattle.std.proofs.Common.{◌≡◌, ◌≤◌, arith, length, ℕ, Bool, true, false, ◌||◌, List, [], ◌∷◌, refl, sym, ap, None, Some}
use Rattle.std.specs.declared.option.Option.{Option}
use Rattle.cip_rank.specs.declared.rules.Rules.{Rules}
use Rattle.cip_mol.specs.declared.labels.descriptor.Descriptor.{Descriptor}
use Rattle.cip_mol.specs.declared.labels.descriptor.Sense.{Sense}
use Rattle.cip_mol.specs.declared.labels.descriptor.Sense.TheVariants.{Plus, Minus}
use Rattle.cip_mol.specs.declared.site.Site.{Site}
use Rattle.cip_digraph.specs.rules.Auxiliary.{letter_at}
use Rattle.cip_digraph.specs.units.Descriptors.{turned_if, letter_by, letter}
use Rattle.cip_digraph.specs.digraph.Digraph.{Node}
use Rattle.cip_digraph.specs.graph.Graph.{Graph}
use Rattle.cip_digraph.specs.units.Ranked.{Root, has_tie, ranks, turned_ranks}
use Rattle.cip_digraph.specs.declared.decisions.parity.Parity.{Parity}
use Rattle.cip_digraph.specs.Falls.{differ}
use Rattle.cip_digraph.specs.Lettered.{letter_in, turned_letter}
use Rattle.cip_digraph.specs.TurnsOf.{both_turns, places_turns, roots_turns, together}

turned_twice : (a b : Bool) (sense : Sense) → turned_if (differ a b) sense ≡ turned_if a (turned_if b sense)
turned_twice true true Plus = refl
turned_twice true true Minus = refl
turned_twice true false sense = refl
turned_twice false b sense = refl

-- the turns of both ends one after the other
pub letter_of_both : (site : Site) (sense : Sense) (one other : Parity)
    → letter_by site (turned_if one.natural (turned_if other.natural sense))
    (turned_if one.turned (turned_if other.turned sense))
    ≡ letter_in site sense (together one other)
letter_of_both site sense one other =
    λ i. letter_by site (sym (turned_twice one.natural other.natural sense) i)
    (sym (turned_twice one.turned other.turned sense) i)

abbrev when : Bool → Parity → Option Parity
when tie parities = elim tie as (λ _. Option Parity) [ true ↦ None | false ↦ Some parities ]

abbrev unless : Bool → Descriptor → Option Descriptor
unless tie named = elim tie as (λ _. Option Descriptor) [ true ↦ None | false ↦ Some named ]

module _ {N : Type 0} where
  -- the turns of a root, tie or not
  abbrev found : Root N → Parity
  found root = places_turns (ranks root) (turned_ranks root)

  one_by : (site : Site) (sense : Sense) (root : Root N) (tie : Bool)
      → unless (tie || false) (letter site sense (root ∷ [])) ≡ turned_letter site sense (when tie (found root))
  one_by site sense root true = refl
  one_by site sense root false = refl

  two_by : (site : Site) (sense : Sense) (root other : Root N) (tie also : Bool)
      → unless (tie || (also || false)) (letter site sense (root ∷ other ∷ []))
      ≡ turned_letter site sense (both_turns (when tie (found root)) (when also (found other)))
  two_by site sense root other true also = refl
  two_by site sense root other false true = refl
  two_by site sense root other false false = ap Some (letter_of_both site sense (found root) (found other))

module _ (rules : Rules) (graph : Graph) (positions : List (List ℕ)) where
  -- the letter of roots is that of their turns
  pub letter_is : (site : Site) (sense : Sense) (roots : List (Root Node)) → length roots ≤ 2
      → letter_at rules graph positions site sense roots ≡ turned_letter site sense (roots_turns roots)
  letter_is site sense [] few = refl
  letter_is site sense (root ∷ []) few = one_by site sense root (has_tie root)
  letter_is site sense (root ∷ other ∷ []) few = two_by site sense root other (has_tie root) (has_tie other)
  letter_is site sense (root ∷ other ∷ more ∷ roots) few = absurd (omega arith)
