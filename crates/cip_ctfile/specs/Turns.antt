-- Items that are read in turn. Own.
use Rattle.std.specs.Prelude.{List, [], ◌∷◌, Result, Ok}
use Rattle.cip_ctfile.specs.Reading.{◌>>=◌}

-- each item changes what was read before it, up to the first that is refused
unfoldable pub over : {A X E : Type 0} → (A → X → Result A E) → A → List X → Result A E
over read before [] = Ok before
over read before (x ∷ xs) = do
  now ← read before x
  over read now xs
