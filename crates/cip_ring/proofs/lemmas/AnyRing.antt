-- A ring goes through a bond exactly where the other end is reached aside of it.
use Rattle.std.proofs.Common.{◌≤◌, length, arith}
use Rattle.cip_digraph.proofs.lemmas.ways.Reached.{ring_finds, ring_found}
use Rattle.cip_ring.specs.AnyRings.{RingsAreFound}
use Rattle.cip_ring.proofs.lemmas.Smallest.{ring_short}

pub rings_are_found : RingsAreFound
rings_are_found graph sound a b lt differ = record {
  found = λ e. let ring = ring_found graph a b (length graph.vertices) differ e in (ring.0, ring.1.0);
  finds = λ others ring.
      let short = ring_short graph sound a b lt others ring in
      let few : length others ≤ length graph.vertices = omega (arith, short) in
      ring_finds graph a b (length graph.vertices) (others, (ring, few));
}
