-- Copies of branches whose ranks are set aside: put back they are as they were, whatever rule was taken over them.
use Rattle.std.proofs.Common.{◌≡◌, ◌<◌, ◌+◌, ◌^◌, ℕ, length, refl, sym, ap, ◌∙◌, subst}
use Rattle.cip_branches.specs.Deciding.{Branched, AreFollowed}
use Rattle.cip_branches.specs.Saving.{Checkpoint, saved_of, restored}
use Rattle.cip_branches.specs.Twins.{twins_of}
use Rattle.cip_branches.proofs.lemmas.taken.Checkpoint.{put_back}
use Rattle.cip_partition.specs.Keys.{AreKeyed}
use Rattle.cip_partition.specs.PlaceTree.{PlaceTree}
use Rattle.cip_partition.proofs.lemmas.TwinLists.{halves_length}
use Rattle.cip_partition.proofs.lemmas.TwinPlaces.{twins_keyed}
use Rattle.cip_rules.specs.Rule4bWorkspace.{AreTwinsAside, IsAside}
use Rattle.cip_rules.specs.Taking.{AreSame}
use Rattle.cip_rules.proofs.lemmas.TakenSteps.{same_still}

-- copies that were just made
module _ (from : Branched) (few : length from.layers.place_tree.place_parents + length from.layers.place_tree.place_parents < 2 ^ 32) (room kept : ℕ)
    (saved : Checkpoint) where
  first_aside : AreFollowed (twins_of room from)
      → length (twins_of room from).layers.ranked.numbers ≡ length (twins_of room from).layers.place_tree.place_parents
      → saved ≡ saved_of kept (twins_of room from) → AreTwinsAside from saved (twins_of room from)
  first_aside followed len are =
      let begin = twins_of room from in
      let same = same_still begin in
      record {
        few = few;
        aside = record {
          followed = followed;
          numbers_len = len;
          saved_are = are ∙ ap (λ r. saved_of r begin) (sym (ap (λ (s : Checkpoint). s.room) are));
          kept = same.kept;
          front = refl;
          end = refl;
          count = refl;
        };
      }

  pub begun_aside : (now : Branched) → now ≡ twins_of room from → AreFollowed now
      → length now.layers.ranked.numbers ≡ length now.layers.place_tree.place_parents → saved ≡ saved_of kept now
      → AreTwinsAside from saved now
  begun_aside now is =
      subst (λ (t : Branched). AreFollowed t → length t.layers.ranked.numbers ≡ length t.layers.place_tree.place_parents
      → saved ≡ saved_of kept t → AreTwinsAside from saved t) (sym is) first_aside

-- there are twice as many places
pub twice_long : (from now : Branched) (room : ℕ) → now ≡ twins_of room from
    → length now.layers.place_tree.place_parents ≡ length from.layers.place_tree.place_parents + length from.layers.place_tree.place_parents
twice_long from now room is =
    ap (λ (t : Branched). length t.layers.place_tree.place_parents) is ∙ halves_length (length from.layers.place_tree.place_parents) from.layers.place_tree.place_parents

pub made_keyed : (from now : Branched) (room : ℕ) → now ≡ twins_of room from
    → AreKeyed (length from.layers.place_tree.place_parents + length from.layers.place_tree.place_parents) now.layers.place_tree
made_keyed from now room is =
    subst (λ (t : Branched). AreKeyed (length from.layers.place_tree.place_parents + length from.layers.place_tree.place_parents) t.layers.place_tree) (sym is)
    (twins_keyed room from.layers.place_tree)

-- put back they are as at first
pub back_aside : (from now : Branched) (saved : Checkpoint) → AreTwinsAside from saved now
    → restored saved now ≡ twins_of now.layers.place_tree.room from
back_aside from now saved twins =
    let aside = twins.aside in
    ap (λ (s : Checkpoint). restored s now) aside.saved_are
    ∙ put_back (twins_of now.layers.place_tree.room from) now saved.room aside.followed aside.kept aside.front aside.end

-- and they are aside still, where a rule was taken over them
pub still_aside : (from old now : Branched) (saved : Checkpoint) → AreTwinsAside from saved old
    → now.layers.place_tree ≡ old.layers.place_tree → AreSame (twins_of old.layers.place_tree.room from) now → AreTwinsAside from saved now
still_aside from old now saved twins place_tree same =
    let aside = twins.aside in
    record {
      few = twins.few;
      aside = subst (λ r. IsAside (twins_of r from) saved now) (sym (ap (λ (k : PlaceTree). k.room) place_tree)) (record {
        followed = aside.followed;
        numbers_len = aside.numbers_len;
        saved_are = aside.saved_are;
        kept = same.kept;
        front = same.front;
        end = same.end;
        count = same.count;
      });
    }
