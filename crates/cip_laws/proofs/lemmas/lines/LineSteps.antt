-- What one line leaves of the groups before it.
use Rattle.std.proofs.Common.{◌≡◌, ℕ, List, [], ◌∷◌, Bool, true, false, not, Ok, Option, Some, None, cond, refl, sym, ap, ◌∙◌, subst}
use Rattle.std.specs.List.{cons_option}
use Rattle.std.proofs.lemmas.List.{append-nil}
use Rattle.cip_ctfile.specs.Reading.{◌>>=◌}
use Rattle.cip_ctfile.specs.Turns.{over}
use Rattle.cip_ctfile.proofs.lemmas.Given.{given_of}
use Rattle.cip_v3000.specs.declared.lines.block_lines.BlockLine.TheVariants.{BeginCollection, EndCollection}
use Rattle.cip_v3000.specs.Frames.{is_frame}
use Rattle.cip_stereogroups.specs.declared.collection_blocks.GroupBuilder.{GroupBuilder}
use Rattle.cip_stereogroups.specs.declared.groups.Group.{Group}
use Rattle.cip_stereogroups.specs.declared.kinds.GroupKind.{GroupKind}
use Rattle.cip_stereogroups.specs.AtomLists.{names_of, atoms_of, all_taken}
use Rattle.cip_stereogroups.specs.Collections.{with_kind, with_words, with_joined}
use Rattle.cip_stereogroups.specs.Grouping.{with_line}
use Rattle.cip_stereogroups.specs.Names.{kind_of}
use Rattle.cip_stereogroups.specs.Reading.{told_at}
use Rattle.cip_stereogroups.proofs.lemmas.LineBuilder.{read_from_told}
use Rattle.cip_laws.specs.GroupLines.{stands_in, opens, listed, group_by, line_group, atoms_in}
use Rattle.cip_laws.proofs.lemmas.lines.JoinedGroups.{joined}

-- the group that a line says of these words
abbrev pub said : List ℕ → Bool → ℕ → List (List ℕ) → List Group
said indices inside number words = cond (stands_in inside words) (cons_option (line_group indices number words) []) []

-- what was found and what a line says, and what is found then
pub record IsStep (found now : GroupBuilder) (inside : Bool) (lines : List Group) : Type 0 where
  pub inside_is : now.inside ≡ inside
  pub groups : now.groups ≡ joined found.groups lines
  pub taken : all_taken found.taken (atoms_in lines) ≡ Ok now.taken

module _ (indices : List ℕ) (number : ℕ) where
  still : (found now : GroupBuilder) (inside : Bool) → now ≡ record found { inside = inside } → IsStep found now inside []
  unfolding over
  still found now inside e =
      subst (λ other. IsStep found other inside []) (sym e) (record { inside_is = refl; groups = refl; taken = refl })

  -- a group line that is read
  grouped : (found now : GroupBuilder) (words : List (List ℕ)) (kind : GroupKind)
      → with_kind indices number found words (Some kind) ≡ Ok now
      → IsStep found now found.inside (cons_option (group_by number (Ok (Some kind)) (listed indices words)) [])
  grouped found now words kind e =
      let names = given_of (told_at number (names_of words)) _ now e in
      let atoms = given_of (told_at number (atoms_of indices names.was)) _ now names.gives in
      let taken = given_of (told_at number (all_taken found.taken atoms.was)) _ now atoms.gives in
      let names_are : names_of words ≡ Ok names.was = sym (read_from_told number (names_of words) names.was names.read_as) in
      let atoms_are : atoms_of indices names.was ≡ Ok atoms.was =
      sym (read_from_told number (atoms_of indices names.was) atoms.was atoms.read_as) in
      let lists : listed indices words ≡ Ok atoms.was =
      ap (λ read. read >>= λ names. atoms_of indices names) names_are ∙ atoms_are in
      let found_is : record {
        inside = found.inside;
        taken = taken.was;
        groups = with_line kind number atoms.was found.groups;
      } ≡ now = cc in
      subst
      (λ read. IsStep found now found.inside (cons_option (group_by number (Ok (Some kind)) read) []))
      (sym lists)
      (subst (λ other. IsStep found other found.inside (record { kind = kind; line = number; atoms = atoms.was } ∷ []))
      found_is
      (record {
        inside_is = refl;
        groups = refl;
        taken = ap (all_taken found.taken) (append-nil atoms.was)
            ∙ sym (read_from_told number (all_taken found.taken atoms.was) taken.was taken.read_as);
      }))

  named : (found now : GroupBuilder) (words : List (List ℕ)) (kind : Option GroupKind)
      → with_kind indices number found words kind ≡ Ok now
      → IsStep found now found.inside (cons_option (group_by number (Ok kind) (listed indices words)) [])
  named found now words None e = still found now found.inside (let same : found ≡ now = cc in sym same)
  named found now words (Some kind) e = grouped found now words kind e

  in_collection : (found now : GroupBuilder) (words : List (List ℕ)) → with_words indices number found words ≡ Ok now
      → IsStep found now found.inside (cons_option (line_group indices number words) [])
  in_collection found now [] e = still found now found.inside (let same : found ≡ now = cc in sym same)
  in_collection found now (name ∷ words) e =
      let kind = given_of (told_at number (kind_of name)) (with_kind indices number found words) now e in
      rw (← read_from_told number (kind_of name) kind.was kind.read_as) (named found now words kind.was kind.gives)

  -- by whether a collection is open, and whether the line ends one
  pub reads_as : (found : GroupBuilder) (words : List (List ℕ)) (inside ends : Bool) → found.inside ≡ inside
      → is_frame EndCollection words ≡ ends
      → with_joined indices number found words
      ≡ cond (not inside) (Ok (record found { inside = is_frame BeginCollection words }))
      (cond ends (Ok (record found { inside = false })) (with_words indices number found words))
  unfolding with_joined
  reads_as found words inside ends is at =
      ap
      (λ b. cond (not b) (Ok (record found { inside = is_frame BeginCollection words }))
      (cond (is_frame EndCollection words) (Ok (record found { inside = false }))
      (with_words indices number found words))) is
      ∙ ap
      (λ b. cond (not inside) (Ok (record found { inside = is_frame BeginCollection words }))
      (cond b (Ok (record found { inside = false })) (with_words indices number found words))) at

  step_by : (found now : GroupBuilder) (words : List (List ℕ)) (inside ends : Bool) → found.inside ≡ inside
      → is_frame EndCollection words ≡ ends
      → cond (not inside) (Ok (record found { inside = is_frame BeginCollection words }))
      (cond ends (Ok (record found { inside = false })) (with_words indices number found words)) ≡ Ok now
      → IsStep found now (opens inside words) (said indices inside number words)
  step_by found now words false ends is at e =
      still found now (is_frame BeginCollection words)
      (let same : record found { inside = is_frame BeginCollection words } ≡ now = cc in sym same)
  step_by found now words true true is at e =
      rw at (still found now false (let same : record found { inside = false } ≡ now = cc in sym same))
  step_by found now words true false is at e =
      rw at (subst (λ inside. IsStep found now inside (cons_option (line_group indices number words) [])) is
      (in_collection found now words e))

  pub step_of : (found now : GroupBuilder) (words : List (List ℕ)) → with_joined indices number found words ≡ Ok now
      → IsStep found now (opens found.inside words) (said indices found.inside number words)
  step_of found now words e =
      step_by found now words found.inside (is_frame EndCollection words) refl refl
      (sym (reads_as found words found.inside (is_frame EndCollection words) refl refl) ∙ e)
