-- The line at which an atom that is named twice is reported.
use Rattle.std.proofs.Common.{◌≡◌, inl, inr, ℕ, List, [], ◌∷◌, ◌++◌, Bool, true, false, Ok, Err, cond, refl, sym, ap, ◌∙◌}
use Rattle.cip_ctfile.specs.Reading.{◌>>=◌}
use Rattle.cip_v3000.specs.declared.lines.block_lines.BlockLine.TheVariants.{EndTable}
use Rattle.cip_v3000.specs.Frames.{is_frame}
use Rattle.cip_v3000.specs.Grammar.{words_in}
use Rattle.cip_v3000.specs.JoinedLines.{LogicalLine}
use Rattle.cip_stereogroups.specs.declared.collection_blocks.GroupBuilder.{GroupBuilder}
use Rattle.cip_stereogroups.specs.declared.groups.Group.{Group}
use Rattle.cip_stereogroups.specs.Collections.{nothing, ended, groups_from, groups_of}
use Rattle.cip_laws.specs.GroupLaws.{RepeatsAt, RepeatedIsNamedTwice}
use Rattle.cip_laws.specs.GroupLines.{stands_in, collected, group_lines, atoms_in, repeats}
use Rattle.cip_laws.proofs.lemmas.lines.LineSteps.{step_of}
use Rattle.cip_laws.proofs.lemmas.lines.LinesJoined.{atoms_both, said_before, read_line, line_says, lines_behind, lines_from}
use Rattle.cip_laws.proofs.lemmas.lines.OtherCauses.{refused_of}
use Rattle.cip_laws.proofs.lemmas.lines.Repeating.{repeated_at, frame_not_told, NamesAgain, names_again}
use Rattle.cip_laws.proofs.lemmas.lines.TakenAtoms.{repeats_behind, taken_once}

-- a line before others, where it counts
abbrev put : Bool → LogicalLine → List LogicalLine → List LogicalLine
put counts line lines = cond counts (line ∷ lines) lines

put_more : (counts : Bool) (line : LogicalLine) (lines more : List LogicalLine)
    → put counts line (lines ++ more) ≡ put counts line lines ++ more
put_more true line lines more = refl
put_more false line lines more = refl

module _ (indices : List ℕ) (number : ℕ) where
  at_end : (line : ℕ) (found : GroupBuilder) (open_still : Bool) → found.inside ≡ open_still
      → ended line found ≡ Err (repeated_at number) → ⊥
  at_end line found true is e = frame_not_told line number (rw is at e)
  at_end line found false is e = absurd (let no : Ok found.groups ≡ Err (repeated_at number) = rw is at e in cc)

  here : (line : LogicalLine) (lines : List LogicalLine) (found : GroupBuilder)
      → NamesAgain indices found line.number number (words_in line)
      → RepeatsAt indices found.taken (lines_from indices found line lines) number
  here line lines found again = record {
    front = [];
    line = line;
    behind = lines_behind indices found line lines;
    parts = ap (λ counts. put counts line (lines_behind indices found line lines)) again.stands;
    at = again.at;
    free = refl;
    named = again.named;
  }

  -- what repeats after a line that is read repeats with it
  with_one : (line : LogicalLine) (found now : GroupBuilder) (more : List LogicalLine) → read_line indices found line ≡ Ok now
      → repeats found.taken (atoms_in (group_lines indices (put (stands_in found.inside (words_in line)) line more)))
      ≡ repeats now.taken (atoms_in (group_lines indices more))
  with_one line found now more is =
      let one : List Group = line_says indices found line in
      let step = step_of indices line.number found now (words_in line) is in
      let taken = taken_once found.taken (atoms_in one) now.taken step.taken in
      ap (λ all. repeats found.taken (atoms_in all)) (said_before indices found.inside line more)
      ∙ ap (repeats found.taken) (atoms_both one (group_lines indices more))
      ∙ repeats_behind found.taken (atoms_in one) (atoms_in (group_lines indices more)) taken.free
      ∙ ap (λ all. repeats all (atoms_in (group_lines indices more))) (sym taken.all)

  further : (line : LogicalLine) (lines : List LogicalLine) (found now : GroupBuilder) → read_line indices found line ≡ Ok now
      → RepeatsAt indices now.taken (collected now.inside lines) number
      → RepeatsAt indices found.taken (lines_from indices found line lines) number
  further line lines found now is rest =
      let counts : Bool = stands_in found.inside (words_in line) in
      let step = step_of indices line.number found now (words_in line) is in
      record {
        front = put counts line rest.front;
        line = rest.line;
        behind = rest.behind;
        parts = ap (put counts line) (ap (λ inside. collected inside lines) (sym step.inside_is) ∙ rest.parts)
            ∙ put_more counts line rest.front (rest.line ∷ rest.behind);
        at = rest.at;
        free = with_one line found now rest.front is ∙ rest.free;
        named = ap (λ all. repeats found.taken (atoms_in (group_lines indices all)))
            (sym (put_more counts line rest.front (rest.line ∷ [])))
            ∙ with_one line found now (rest.front ++ rest.line ∷ []) is
            ∙ rest.named;
      }

  pub repeats_at : (lines : List LogicalLine) (found : GroupBuilder) → groups_from indices found lines ≡ Err (repeated_at number)
      → RepeatsAt indices found.taken (collected found.inside lines) number
  repeats_at [] found e = absurd cc
  repeats_at (line ∷ lines) found e = by (is_frame EndTable (words_in line)) e (λ now. repeats_at lines now)
    where
      by : (ends : Bool)
          → cond ends (ended line.number found) (read_line indices found line >>= λ now. groups_from indices now lines)
          ≡ Err (repeated_at number)
          → ((now : GroupBuilder) → groups_from indices now lines ≡ Err (repeated_at number)
          → RepeatsAt indices now.taken (collected now.inside lines) number)
          → RepeatsAt indices found.taken (cond ends [] (lines_from indices found line lines)) number
      by true e rest = absurd (at_end line.number found found.inside refl e)
      by false e rest =
          elim (refused_of (read_line indices found line) (λ now. groups_from indices now lines) (repeated_at number) e) [
            | inl first ↦ here line lines found (names_again indices line.number number found (words_in line) first)
            | inr later ↦ further line lines found later.0 later.1 (rest later.0 later.2)
          ]

pub repeated_is_named_twice : RepeatedIsNamedTwice
unfolding groups_of
repeated_is_named_twice table number e = repeats_at table.indices number table.rest nothing e
