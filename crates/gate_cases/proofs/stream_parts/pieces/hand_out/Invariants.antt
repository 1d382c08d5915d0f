use Rattle.std.proofs.Common.{◌≡◌, List, ℕ, length}
use Rattle.cip_frame.specs.Framing.{Holds, Passed}
use Rattle.gate_cases.proofs.stream_parts.pieces.hand_out.Given as goal

abbrev pub invariant-loop-record : goal.invariant-loop-record
invariant-loop-record l =
    ((fed : List ℕ) → Holds l.initial.records.items fed l.initial.framer → Holds l.records.items fed l.framer)
    × ((fed : List ℕ) → Passed l.initial.records.items fed l.initial.framer → Passed l.records.items fed l.framer)
    × (l.framer.limit ≡ l.initial.framer.limit)

abbrev pub decreases-loop-record : goal.decreases-loop-record
decreases-loop-record l = length l.framer.waiting
