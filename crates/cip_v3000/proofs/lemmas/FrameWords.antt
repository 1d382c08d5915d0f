-- Lines that frame a part, by their first three words.
use Rattle.std.proofs.Common.{◌≡◌, ℕ, List, [], ◌∷◌, false, refl}
use Rattle.cip_v3000.specs.declared.lines.block_lines.BlockLine.{BlockLine}
use Rattle.cip_v3000.specs.declared.lines.block_lines.BlockLine.TheVariants.{BeginTable, BeginAtoms, EndAtoms, BeginBonds, EndBonds, BeginCollection, EndCollection, EndTable}
use Rattle.cip_v3000.specs.Frames.{is_frame}

pub further_words : (line : BlockLine) (a b c : List ℕ) (words : List (List ℕ))
    → is_frame line (a ∷ b ∷ c ∷ words) ≡ is_frame line (a ∷ b ∷ c ∷ [])
unfolding is_frame
further_words BeginTable a b c words = refl
further_words BeginAtoms a b c words = refl
further_words EndAtoms a b c words = refl
further_words BeginBonds a b c words = refl
further_words EndBonds a b c words = refl
further_words BeginCollection a b c words = refl
further_words EndCollection a b c words = refl
further_words EndTable a b c words = refl

pub without_words : (line : BlockLine) → is_frame line [] ≡ false
unfolding is_frame
without_words BeginTable = refl
without_words BeginAtoms = refl
without_words EndAtoms = refl
without_words BeginBonds = refl
without_words EndBonds = refl
without_words BeginCollection = refl
without_words EndCollection = refl
without_words EndTable = refl

pub one_word : (line : BlockLine) (a : List ℕ) → is_frame line (a ∷ []) ≡ false
unfolding is_frame
one_word BeginTable a = refl
one_word BeginAtoms a = refl
one_word EndAtoms a = refl
one_word BeginBonds a = refl
one_word EndBonds a = refl
one_word BeginCollection a = refl
one_word EndCollection a = refl
one_word EndTable a = refl
