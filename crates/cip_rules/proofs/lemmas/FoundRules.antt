-- What a rule finds between branches is what its definition finds between their nodes.
use Rattle.std.proofs.Common.{◌≡◌, ◌<◌, ◌≤◌, ◌+◌, ℕ, ℤ, List, length, map, ap, ◌∙◌}
use Rattle.std.specs.declared.cmp.Ordering.{Ordering}
use Rattle.std.specs.Cmp.{IsTotalOrder}
use Rattle.std.specs.List.{AllByRecursion}
use Rattle.cip_rank.specs.Comparison.{comparison}
use Rattle.cip_rank.specs.Ranking.{by_number}
use Rattle.cip_mol.specs.declared.labels.outcome.Rule.{Rule}
use Rattle.cip_branches.specs.Among.{StandsAmong}
use Rattle.cip_branches.specs.Deciding.{Branched}
use Rattle.cip_branches.specs.Standing.{node_in, WantedIn, AreKeysOf, StandsBy}
use Rattle.cip_branches.specs.Views.{IsEnded}
use Rattle.cip_branches.proofs.lemmas.taken.Rules.{AllOf, stand_all, stand_back}
use Rattle.cip_digraph.specs.declared.decisions.branch_pair.BranchPair.{BranchPair}
use Rattle.cip_digraph.specs.Asking.{AreWithin, decided, kept_or, with_found, differing, found_between}
use Rattle.cip_rules.specs.Orders.{found_below}
use Rattle.cip_rules.specs.Taking.{TakesRule}
use Rattle.cip_rules.proofs.lemmas.FoundAmong as among
use Rattle.cip_rules.proofs.lemmas.FoundWithin.{with_both}

-- what was noted below a depth, and what the numbers say there
pub noted_next : {N : Type 0} (rule : Rule) (compare : ℕ → N → N → Ordering) (node : ℕ → N) (numbers : List ℕ)
    (count depth : ℕ)
    → ((a b : ℕ) → a < count → b < count → by_number numbers a b ≡ compare depth (node a) (node b))
    → (begin pairs new : List BranchPair) → AllByRecursion (AreWithin count) begin
    → pairs ≡ map (with_found (found_below rule compare node depth)) begin
    → new ≡ map (with_found (found_between numbers rule depth)) pairs
    → new ≡ map (with_found (found_below rule compare node (depth + 1))) begin
noted_next rule compare node numbers count depth node_data begin pairs new within before noted =
    noted ∙ ap (map (with_found (found_between numbers rule depth))) before
    ∙ with_both (found_below rule compare node depth) (found_between numbers rule depth)
    (found_below rule compare node (depth + 1)) (AreWithin count)
    (λ one w. ap (λ r. kept_or (found_below rule compare node depth one.first one.second)
    (decided rule (differing depth r))) (node_data one.first one.second w.0 w.1)
    ∙ among.found_more rule (λ d. compare d (node one.first) (node one.second)) depth) begin within

module _ {N : Type 0} (children : N → List N) (named : ℕ → N) (earlier : N → N → Ordering)
    (o : IsTotalOrder earlier) (key : N → ℤ) (begin : Branched) (stands : StandsBy children named earlier begin)
    (ends : IsEnded children (node_in named begin) (WantedIn begin) begin.last)
    (keys : List ℤ) (same : AreKeysOf named key keys begin) (rule : Rule)
    (pairs new : List BranchPair) (now : Branched) (takes : TakesRule begin keys rule pairs now new) (height : ℕ)
    (tall : begin.last ≤ height) where
  abbrev Tops : ℕ → Type 0
  Tops = AllOf (length begin.unresolved)

  stand : StandsAmong Tops children named earlier begin
  stand = stand_all children named earlier begin stands

  -- the same branches of the same nodes, to the same end
  pub same_nodes : (a : ℕ) → node_in named now a ≡ node_in named begin a
  same_nodes = among.same_nodes Tops children named earlier o key begin stand ends keys same rule pairs new now takes
      height tall

  -- keys of other rules too are those of the nodes at places that are still unresolved
  pub keys_after : (other : N → ℤ) (others : List ℤ) → AreKeysOf named other others begin
      → AreKeysOf named other others now
  keys_after = among.keys_after Tops children named earlier o key begin stand ends keys same rule pairs new now takes
      height tall

  pub same_count : length now.unresolved ≡ length begin.unresolved
  same_count = among.same_count Tops children named earlier o key begin stand ends keys same rule pairs new now takes
      height tall

  pub same_end : now.last ≡ begin.last
  same_end = among.same_end Tops children named earlier o key begin stand ends keys same rule pairs new now takes
      height tall

  pub ends_after : IsEnded children (node_in named now) (WantedIn now) now.last
  ends_after = among.ends_after Tops children named earlier o key begin stand ends keys same rule pairs new now takes
      height tall

  -- where the last sphere was reached, the numbers are ordered by the whole rule
  pub stands_after : takes.far ≡ begin.last → StandsBy children named (comparison children earlier key height) now
  stands_after reached = stand_back children named (comparison children earlier key height) now (length begin.unresolved)
      same_count (among.stands_after Tops children named earlier o key begin stand ends keys same rule pairs new now
      takes height tall reached)

  -- pairs are decided as by the definition
  pub rule_found : AllByRecursion (AreWithin (length begin.unresolved)) pairs
      → new ≡ map (with_found (found_below rule (comparison children earlier key) (node_in named begin) (height + 1)))
      pairs
  rule_found within = among.rule_found Tops children named earlier o key begin stand ends keys same rule pairs new now
      takes height tall within
