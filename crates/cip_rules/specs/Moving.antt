-- A digraph as it is seen, found in another one: a map of nodes that keeps children, keys and descriptors. Own.
use Rattle.std.specs.Prelude.{◌≡◌, map}
use Rattle.std.specs.List.{AllByRecursion}
use Rattle.cip_digraph.specs.rules.Orders.{Seen}

-- Only of nodes that are known is there anything said.
pub record Moves {N M : Type 0} (image : N → M) (IsTold : N → Type 0) (seen : Seen N) (their : Seen M) : Type 0 where
  pub moved : (n : N) → IsTold n → map image (seen.children n) ≡ their.children (image n)
  pub below : (n : N) → IsTold n → AllByRecursion IsTold (seen.children n)
  pub height : their.height ≡ seen.height
  pub atomic : (n : N) → IsTold n → their.atomic (image n) ≡ seen.atomic n
  pub distance : (n : N) → IsTold n → their.distance (image n) ≡ seen.distance n
  pub mass : (n : N) → IsTold n → their.mass (image n) ≡ seen.mass n
  pub descriptor : (n : N) → IsTold n → their.descriptor (image n) ≡ seen.descriptor n
