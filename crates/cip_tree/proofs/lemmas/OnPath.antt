-- The part of a path from a vertex on.
use Rattle.std.proofs.Common.{◌≡◌, ◌<◌, ◌≤◌, ◌==◌, ◌||◌, ℕ, Bool, true, false, cond, List, [], ◌∷◌, length, arith}
use Rattle.cip_digraph.specs.rings.Alternating.{is_in}
use Rattle.cip_digraph.specs.rules.Keys.{path_from}

met_by : (vertex first : ℕ) (path : List ℕ) (same : Bool) → (is_in vertex path ≡ true → 0 < length (path_from vertex path))
    → (same || is_in vertex path) ≡ true
    → 0 < length (cond same (first ∷ path) (path_from vertex path))
met_by vertex first path true further on = omega arith
met_by vertex first path false further on = further on

-- it begins with that vertex, where the path meets it
pub met : (vertex : ℕ) (path : List ℕ) → is_in vertex path ≡ true → 0 < length (path_from vertex path)
met vertex [] on = cc
met vertex (first ∷ path) on = met_by vertex first path (first == vertex) (met vertex path) on

no_longer_by : (vertex first : ℕ) (path : List ℕ) (same : Bool) → length (path_from vertex path) ≤ length path
    → length (cond same (first ∷ path) (path_from vertex path)) ≤ length (first ∷ path)
no_longer_by vertex first path true further = omega arith
no_longer_by vertex first path false further = omega (arith, further)

pub no_longer : (vertex : ℕ) (path : List ℕ) → length (path_from vertex path) ≤ length path
no_longer vertex [] = omega arith
no_longer vertex (first ∷ path) = no_longer_by vertex first path (first == vertex) (no_longer vertex path)
