-- What the search for a ring through a bond finds.
use Rattle.std.proofs.Common.{◌≡◌, ℕ, Bool, true, false, cond, ◌==◌, ◌&&◌, Some, None, List, [], ◌∷◌, refl, ap, ◌∙◌}
use Rattle.std.specs.declared.option.Option.{Option}
use Rattle.std.proofs.lemmas.Bool.{eq-eqb, or_left, or_right}
use Rattle.cip_digraph.specs.rings.Alternating.{closes_ring, is_alternating, is_in, partner, reaches}
use Rattle.cip_digraph.specs.graph.Graph.{Graph}
use Rattle.cip_mancude.specs.Partners.{alternating_partner, can_close}
use Rattle.cip_mancude.specs.SharedRings.{reaches_by}
use Rattle.cip_mancude.proofs.lemmas.WaySteps.{by_any}

the_partner : (b : Bool) (partner next : ℕ) → ◌≡◌ {A = Option ℕ} (Some next) (cond b (Some partner) None)
    → next ≡ partner
the_partner true partner next e = cc
the_partner false partner next e = cc

pub partner_of : (graph : Graph) (vertex next : ℕ) → ◌≡◌ {A = Option ℕ} (Some next) (alternating_partner graph vertex)
    → next ≡ partner graph vertex
partner_of graph vertex next e = the_partner (is_alternating graph vertex) (partner graph vertex) next e

-- a way that begins with two atoms meets the first of them
pub begun_with : (graph : Graph) (vertex next target most : ℕ) (path : List ℕ) → path ≡ next ∷ vertex ∷ []
    → reaches_by graph vertex target most path next ≡ reaches graph target most (next ∷ vertex ∷ []) next
begun_with graph vertex next target most path is =
    let begun : is_in vertex (next ∷ vertex ∷ []) ≡ true =
    or_right (next == vertex) _ (or_left (vertex == vertex) _ (eq-eqb vertex vertex refl)) in
    ap (λ met. reaches_by graph vertex target most met next) is
    ∙ by_any graph vertex target most (next ∷ vertex ∷ []) next begun

and_true : (a b : Bool) → true ≡ a → b ≡ (a && b)
and_true true b e = refl
and_true false b e = let bad : true ≡ false = e in cc

pub closes_is : (graph : Graph) (vertex other next : ℕ) (found : Bool)
    → ◌≡◌ {A = Option ℕ} (Some next) (alternating_partner graph vertex)
    → true ≡ can_close graph vertex other → found ≡ reaches graph other 11 (next ∷ vertex ∷ []) next
    → found ≡ closes_ring graph vertex other
closes_is graph vertex other next found e can is =
    is ∙ ap (λ n. reaches graph other 11 (n ∷ vertex ∷ []) n) (partner_of graph vertex next e)
    ∙ and_true (can_close graph vertex other)
    (reaches graph other 11 (partner graph vertex ∷ vertex ∷ []) (partner graph vertex)) can
