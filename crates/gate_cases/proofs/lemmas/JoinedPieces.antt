-- The bytes of pieces, joined.
use Rattle.std.proofs.Common.{◌≡◌, ◌<◌, ◌+◌, ℕ, List, [], ◌∷◌, ◌++◌, Vec, Global, length, take, drop, get_or, sym, ◌∙◌, ap, append-nil, false}
use Rattle.std.specs.List.{flat_map, take_while}
use Rattle.std.proofs.lemmas.Grind.{flat_map-append}
use Rattle.std.proofs.lemmas.List.{take_more, take-append-drop}
use Rattle.cip_frame.specs.Records.{cut_of}
use Rattle.cip_frame.specs.Framing.{Framing, Passed, all_fit, fits}
use Rattle.cip_frame.proofs.lemmas.Limits.{stopped}

abbrev bytes : Vec ℕ Global → List ℕ
bytes piece = piece.items

abbrev pub joined : List (Vec ℕ Global) → List ℕ
joined pieces = flat_map bytes pieces

pub one_more : (pieces : List (Vec ℕ Global)) (k : ℕ) (piece : Vec ℕ Global) → k < length pieces
    → piece ≡ get_or pieces k piece → joined (take (k + 1) pieces) ≡ joined (take k pieces) ++ piece.items
one_more pieces k piece within here =
    ap joined (take_more pieces k piece within)
    ∙ flat_map-append bytes (take k pieces) (get_or pieces k piece ∷ [])
    ∙ ap (λ xs. joined (take k pieces) ++ xs) (append-nil (bytes (get_or pieces k piece)) ∙ ap bytes (sym here))

fronts_and_rest : (pieces : List (Vec ℕ Global)) (k : ℕ)
    → joined (take k pieces) ++ joined (drop k pieces) ≡ joined pieces
fronts_and_rest pieces k = sym (flat_map-append bytes (take k pieces) (drop k pieces))
    ∙ ap joined (take-append-drop k pieces)

-- where a part of the first pieces is too long, further ones change nothing
pub passed_by_all : (pieces : List (Vec ℕ Global)) (k : ℕ) (given : List (List ℕ)) (fed : List ℕ) (framer : Framing)
    → joined (take k pieces) ≡ fed → Passed given fed framer
    → (all_fit framer.limit (cut_of (joined pieces)) ≡ false)
    × (take_while (fits framer.limit) (cut_of fed).whole
    ≡ take_while (fits framer.limit) (cut_of (joined pieces)).whole)
passed_by_all pieces k given fed framer e p =
    let s = stopped framer.limit fed (joined (drop k pieces)) p.passed in
    let all : fed ++ joined (drop k pieces) ≡ joined pieces = ap (λ xs. xs ++ joined (drop k pieces)) (sym e)
    ∙ fronts_and_rest pieces k in (
      ap (λ xs. all_fit framer.limit (cut_of xs)) (sym all) ∙ s.passed,
      sym s.records
          ∙ ap (λ xs. take_while (fits framer.limit) (cut_of xs).whole) all,
    )
