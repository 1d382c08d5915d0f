use Rattle.std.proofs.Common.{◌≡◌, true, subst, arith}
use Rattle.std.proofs.lemmas.Bool.{false_from_ne_true, false≢true}
use Rattle.std.proofs.lemmas.List.{drop_all}
use Rattle.cip_digraph.specs.rings.Alternating.{is_in}
use Rattle.std.proofs.lemmas.Grind.{common_steps}
use Rattle.cip_ring.proofs.vertex_set.clear_flags.Goals as goal

pub returns : goal.returns
returns c =
    let none = drop_all c.loop-vertex.vertex-index c.args.vertices.now (omega (arith, c.loop-vertex-test.false)) in
    record {
      each = λ vertex lt d. false_from_ne_true _ (λ e. false≢true
          (subst (λ vertices. is_in vertex vertices ≡ true) none (c.loop-vertex.invariant.each vertex lt d e)));
    }

pub loop-vertex-preserved : goal.loop-vertex-preserved
loop-vertex-preserved c = grind (arith, common_steps)
