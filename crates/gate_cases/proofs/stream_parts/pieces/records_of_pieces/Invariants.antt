use Rattle.std.proofs.Common.{◌≡◌, [], take}
use Rattle.std.specs.List.{flat_map}
use Rattle.cip_frame.specs.Framing.{Holds}
use Rattle.gate_cases.proofs.stream_parts.pieces.records_of_pieces.Given as goal

abbrev pub invariant-loop-piece : goal.invariant-loop-piece
invariant-loop-piece l =
    Holds l.records.items (flat_map (λ piece. piece.items) (take l.piece-index l.pieces)) l.framer
    × (l.framer.waiting ≡ [])
    × (l.framer.limit ≡ l.limit)
