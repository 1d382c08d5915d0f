-- The groups of a table are those of its group lines, put together.
use Rattle.std.proofs.Common.{◌≡◌, ℕ, List, [], ◌∷◌, ◌++◌, Bool, true, false, Result, Ok, Err, Option, Some, None, cond, refl, sym, ap, ◌∙◌}
use Rattle.std.specs.List.{cons_option}
use Rattle.std.proofs.lemmas.List.{append_assoc}
use Rattle.cip_ctfile.specs.Reading.{◌>>=◌}
use Rattle.cip_ctfile.proofs.lemmas.Given.{given_of}
use Rattle.cip_v3000.specs.declared.lines.block_lines.BlockLine.TheVariants.{EndTable}
use Rattle.cip_v3000.specs.Frames.{is_frame}
use Rattle.cip_v3000.specs.Grammar.{words_in}
use Rattle.cip_v3000.specs.JoinedLines.{LogicalLine}
use Rattle.cip_stereogroups.specs.declared.collection_blocks.GroupBuilder.{GroupBuilder}
use Rattle.cip_stereogroups.specs.declared.faults.GroupCause.TheVariants.{Frame}
use Rattle.cip_stereogroups.specs.declared.faults.GroupFault.{GroupFault}
use Rattle.cip_stereogroups.specs.declared.groups.Group.{Group}
use Rattle.cip_stereogroups.specs.Collections.{nothing, with_joined, ended, groups_from, groups_of}
use Rattle.cip_stereogroups.specs.Grouping.{kinds_of}
use Rattle.cip_laws.specs.GroupLaws.{is_named, holds, are_different, GroupsAreOfLines}
use Rattle.cip_laws.specs.GroupLines.{stands_in, opens, collected, line_group, group_lines, lines_of, atoms_in, repeats}
use Rattle.cip_laws.proofs.lemmas.lines.JoinedGroups.{joined, joined_more, named_joined, held_joined, different_joined}
use Rattle.cip_laws.proofs.lemmas.lines.TakenAtoms.{repeats_behind, taken_once}
use Rattle.cip_laws.proofs.lemmas.lines.LineSteps.{said, step_of}

pub atoms_both : (groups more : List Group) → atoms_in (groups ++ more) ≡ atoms_in groups ++ atoms_in more
atoms_both [] more = refl
atoms_both (group ∷ groups) more =
    ap (λ atoms. group.atoms ++ atoms) (atoms_both groups more)
    ∙ sym (append_assoc group.atoms (atoms_in groups) (atoms_in more))

one_before : (one : Option Group) (more : List Group) → cons_option one more ≡ cons_option one [] ++ more
one_before None more = refl
one_before (Some group) more = refl

-- what a line says before the lines after it
pub said_before : (indices : List ℕ) (inside : Bool) (line : LogicalLine) (lines : List LogicalLine)
    → group_lines indices (cond (stands_in inside (words_in line)) (line ∷ lines) lines)
    ≡ said indices inside line.number (words_in line) ++ group_lines indices lines
said_before indices inside line lines = by (stands_in inside (words_in line))
  where
    by : (stands : Bool)
        → group_lines indices (cond stands (line ∷ lines) lines)
        ≡ cond stands (cons_option (line_group indices line.number (words_in line)) []) [] ++ group_lines indices lines
    by true = one_before (line_group indices line.number (words_in line)) (group_lines indices lines)
    by false = refl

-- the groups that lines leave after what was found
pub record AreJoined (indices : List ℕ) (found : GroupBuilder) (lines : List LogicalLine) (groups : List Group) : Type 0 where
  pub all : groups ≡ joined found.groups (group_lines indices (collected found.inside lines))
  pub once : repeats found.taken (atoms_in (group_lines indices (collected found.inside lines))) ≡ false

module _ (indices : List ℕ) where
  -- what a line leaves of the groups before it
  abbrev pub read_line : GroupBuilder → LogicalLine → Result GroupBuilder GroupFault
  read_line found line = with_joined indices line.number found (words_in line)

  -- the group that it says
  abbrev pub line_says : GroupBuilder → LogicalLine → List Group
  line_says found line = said indices found.inside line.number (words_in line)

  -- the lines of collections after it
  abbrev pub lines_behind : GroupBuilder → LogicalLine → List LogicalLine → List LogicalLine
  lines_behind found line lines = collected (opens found.inside (words_in line)) lines

  -- and with it, where it counts
  abbrev pub lines_from : GroupBuilder → LogicalLine → List LogicalLine → List LogicalLine
  lines_from found line lines =
      cond (stands_in found.inside (words_in line)) (line ∷ lines_behind found line lines) (lines_behind found line lines)

module _ (indices : List ℕ) (groups : List Group) where
  at_end : (number : ℕ) (found : GroupBuilder) (open_still : Bool) → found.inside ≡ open_still → ended number found ≡ Ok groups
      → groups ≡ found.groups
  at_end number found true is e =
      absurd (let no : Err (record { line = number; cause = Frame }) ≡ Ok groups = rw is at e in cc)
  at_end number found false is e = let same : Ok found.groups ≡ Ok groups = rw is at e in cc

  line_joins : (line : LogicalLine) (lines : List LogicalLine) (found now : GroupBuilder) → read_line indices found line ≡ Ok now
      → AreJoined indices now lines groups
      → (groups ≡ joined found.groups (group_lines indices (lines_from indices found line lines)))
      × (repeats found.taken (atoms_in (group_lines indices (lines_from indices found line lines))) ≡ false)
  line_joins line lines found now is later =
      let one : List Group = line_says indices found line in
      let behind : List Group = group_lines indices (lines_behind indices found line lines) in
      let step = step_of indices line.number found now (words_in line) is in
      let taken = taken_once found.taken (atoms_in one) now.taken step.taken in
      let split : group_lines indices (lines_from indices found line lines) ≡ one ++ behind =
      said_before indices found.inside line (lines_behind indices found line lines) in (
        later.all
            ∙ ap (λ inside. joined now.groups (group_lines indices (collected inside lines))) step.inside_is
            ∙ ap (λ all. joined all behind) step.groups
            ∙ joined_more found.groups one behind
            ∙ ap (joined found.groups) (sym split),
        ap (λ all. repeats found.taken (atoms_in all)) split
            ∙ ap (repeats found.taken) (atoms_both one behind)
            ∙ repeats_behind found.taken (atoms_in one) (atoms_in behind) taken.free
            ∙ ap (λ all. repeats all (atoms_in behind)) (sym taken.all)
            ∙ ap (λ inside. repeats now.taken (atoms_in (group_lines indices (collected inside lines))))
            (sym step.inside_is)
            ∙ later.once,
      )

  pub lines_join : (lines : List LogicalLine) (found : GroupBuilder) → groups_from indices found lines ≡ Ok groups
      → AreJoined indices found lines groups
  lines_join [] found e = record { all = (let same : found.groups ≡ groups = cc in sym same); once = refl }
  lines_join (line ∷ lines) found e =
      let both = by (is_frame EndTable (words_in line)) e (λ now. lines_join lines now) in
      record { all = both.0; once = both.1 }
    where
      by : (ends : Bool)
          → cond ends (ended line.number found) (read_line indices found line >>= λ now. groups_from indices now lines)
          ≡ Ok groups
          → ((now : GroupBuilder) → groups_from indices now lines ≡ Ok groups → AreJoined indices now lines groups)
          → (groups ≡ joined found.groups (group_lines indices (cond ends [] (lines_from indices found line lines))))
          × (repeats found.taken (atoms_in (group_lines indices (cond ends [] (lines_from indices found line lines))))
          ≡ false)
      by true e rest = (at_end line.number found found.inside refl e, refl)
      by false e rest =
          let first = given_of (read_line indices found line) (λ now. groups_from indices now lines) groups e in
          line_joins line lines found first.was first.read_as (rest first.was first.gives)

pub groups_are_of_lines : GroupsAreOfLines
unfolding groups_of
groups_are_of_lines table groups e =
    let all = lines_join table.indices groups table.rest nothing e in
    record {
      names = λ kind. ap (is_named kind) all.all ∙ named_joined kind [] (lines_of table);
      members = λ kind atom. ap (holds kind atom) all.all ∙ held_joined kind atom [] (lines_of table);
      different = ap (λ groups. are_different (kinds_of groups)) all.all ∙ different_joined [] (lines_of table) refl;
      once = all.once;
    }
