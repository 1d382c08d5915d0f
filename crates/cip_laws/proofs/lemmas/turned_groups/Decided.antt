-- The first line with a cause decides.
use Rattle.std.proofs.Common.{◌≡◌, List, [], ◌∷◌, ◌++◌, Result, Ok, Err, Bool, true, false, cond}
use Rattle.cip_ctfile.specs.Reading.{◌>>=◌}
use Rattle.cip_v3000.specs.declared.lines.block_lines.BlockLine.TheVariants.{EndTable}
use Rattle.cip_v3000.specs.Frames.{is_frame}
use Rattle.cip_v3000.specs.Grammar.{words_in}
use Rattle.cip_stereogroups.specs.declared.collection_blocks.GroupBuilder.{GroupBuilder}
use Rattle.cip_stereogroups.specs.declared.faults.GroupFault.{GroupFault}
use Rattle.cip_stereogroups.specs.declared.groups.Group.{Group}
use Rattle.cip_stereogroups.specs.Collections.{with_joined, ended, groups_from}
use Rattle.cip_stereogroups.specs.Laws.{FirstCausesDecide}

abbrev given : List Group → Result (List Group) GroupFault
given groups = Ok groups

no_cause : (groups : List Group) (fault : GroupFault) → given groups ≡ Err fault → ⊥
no_cause groups fault e = absurd cc

pub first_causes_decide : FirstCausesDecide
first_causes_decide indices found [] more fault e = absurd (no_cause found.groups fault e)
first_causes_decide indices found (line ∷ lines) more fault e =
    by (is_frame EndTable (words_in line)) (with_joined indices line.number found (words_in line))
    (λ now. first_causes_decide indices now lines more fault) e
  where
    by : (ends : Bool) (read : Result GroupBuilder GroupFault)
        → ((now : GroupBuilder) → groups_from indices now lines ≡ Err fault
        → groups_from indices now (lines ++ more) ≡ Err fault)
        → cond ends (ended line.number found) (read >>= λ now. groups_from indices now lines) ≡ Err fault
        → cond ends (ended line.number found) (read >>= λ now. groups_from indices now (lines ++ more)) ≡ Err fault
    by true read rest is = is
    by false (Ok now) rest is = rest now is
    by false (Err other) rest is = is
