-- A sphere walked and ranked: what comes after it.
use Rattle.std.proofs.Common.{◌≡◌, ◌<◌, ◌≤◌, ◌+◌, ℕ, ℤ, suc, Bool, List, length, slice_index, sym, ap, ◌∙◌, subst, arith}
use Rattle.std.specs.declared.cmp.Ordering.TheVariants.{Equal}
use Rattle.std.specs.Ordering.{nat_cmp}
use Rattle.std.specs.Cmp.Lexicographic.{slice_cmp}
use Rattle.std.proofs.lemmas.Cmp.{tied_itself, nat_cmp_total}
use Rattle.cip_rank.specs.Ranking.{by_number}
use Rattle.cip_rank.proofs.lemmas.RestOnTies.{both_tie}
use Rattle.cip_rank.proofs.lemmas.SortedDown.{numbers_equal}
use Rattle.cip_branches.specs.Following.{AreRanked, Follows}
use Rattle.cip_partition.specs.Kids.{kid_set, kids_of}
use Rattle.cip_branches.specs.SphereColumns.{SphereColumns, with_sphere}
use Rattle.cip_branches.specs.Passing.{AreNotedBut, AreSteadyButNew, Passes}
use Rattle.cip_partition.specs.Keys.{AreKeyed}
use Rattle.cip_partition.specs.Ranked.{Ranked}
use Rattle.cip_branches.specs.Turning.{in_sphere, AreSpheres, SamePlaces}
use Rattle.cip_branches.specs.Walking.{IsWalked, LastPlaces, MayWalk}
use Rattle.cip_branches.proofs.lemmas.walked.Grown.{one_more, is_last, was_there}
use Rattle.cip_branches.proofs.lemmas.walked.Next.{noted_walked, steady_walked, nodes_walked}

-- what a sphere that was walked gives the pass that ranks it: there is one start more, after all rows
pub record Ready (begin mid : SphereColumns) (last size : ℕ) : Type 0 where
  pub count : length mid.starts ≡ last + 3
  pub ends : slice_index mid.starts (suc (suc last)) ≡ length mid.ranked.rows
  pub noted : AreNotedBut mid.ranked.rows (slice_index mid.starts (suc last)) (slice_index mid.starts (suc (suc last)))
      mid.before mid.ranked.numbers
  pub steady : AreSteadyButNew (kids_of mid.place_tree) (in_sphere mid.ranked.rows mid.starts) last mid.place_tree.room mid.before
  pub keyed : (count : ℕ) → size ≤ count → AreKeyed count begin.place_tree → AreKeyed count mid.place_tree

module _ (begin : SphereColumns) (first last size : ℕ) (kids_at : ℕ → List ℕ) (unresolved : List Bool)
    (may : MayWalk size kids_at unresolved first last begin) (mid : SphereColumns)
    (walked : IsWalked begin first size kids_at unresolved mid) where
  before_it : length walked.walked.starts ≡ last + 2
  before_it = ap (λ (ns : List ℕ). length ns) walked.walks.grows.starts ∙ may.count

  starts_more : length mid.starts ≡ last + 3
  starts_more =
      let one = one_more walked.walked.starts (length walked.walked.ranked.rows) in
      let is = ap (λ (s : SphereColumns). length s.starts) walked.ended in
      omega (arith, before_it, one, is)

  ends_behind : slice_index mid.starts (suc (suc last)) ≡ length mid.ranked.rows
  ends_behind = ap (λ (s : SphereColumns). slice_index s.starts (suc (suc last))) walked.ended
      ∙ is_last walked.walked.starts (length walked.walked.ranked.rows) (suc (suc last)) (omega (arith, before_it))
      ∙ ap (λ (s : SphereColumns). length s.ranked.rows) (sym walked.ended)

  pub ready : AreRanked begin last → Ready begin mid last size
  ready ranked = record {
    count = starts_more;
    ends = ends_behind;
    noted = rw walked.ended
        (noted_walked begin first last size kids_at unresolved may walked.below walked.walked walked.walks ranked.before);
    steady = rw walked.ended (steady_walked begin first last size kids_at unresolved may walked.below walked.walked
        walked.walks ranked.before ranked.steady);
    keyed = λ count le keyed. rw walked.ended
        (nodes_walked begin first last size kids_at unresolved may walked.below walked.walked walked.walks count le keyed);
  }

module _ (mid : SphereColumns) (ranked : Ranked) (before : List ℕ)
    (places : SamePlaces mid.ranked.rows ranked.rows mid.starts) where
  abbrev now : SphereColumns
  now = record mid { ranked = ranked; before = before }

  pub ranked_after : (last : ℕ) (key : ℕ → ℤ) → length mid.starts ≡ last + 3
      → slice_index mid.starts (suc (suc last)) ≡ length mid.ranked.rows
      → Passes (kids_of mid.place_tree) (in_sphere mid.ranked.rows mid.starts) last key mid.ranked.numbers ranked.numbers
      → AreSpheres (kids_of mid.place_tree) mid.place_tree.place_parents ranked.rows mid.starts (suc last) ranked.numbers
      → before ≡ ranked.numbers → AreRanked now (suc last)
  ranked_after last key count ends passed spheres noted = record {
    spheres = spheres;
    count = omega (arith, count);
    ends = ends ∙ sym places.len;
    before = noted;
    steady = λ t a b lt p q tie.
        let kids = kids_of mid.place_tree in
        let equal : by_number ranked.numbers a b ≡ Equal = ap (λ n. nat_cmp n (slice_index ranked.numbers b)) tie
        ∙ tied_itself nat_cmp_total (slice_index ranked.numbers b) in
        let order = (passed.refines.ordered t (omega arith) (omega (arith, lt))).each a b (places.there t a p)
        (places.there t b q) in
        numbers_equal (kid_set kids ranked.numbers a) (kid_set kids ranked.numbers b)
        (both_tie (by_number passed.start a b) (slice_cmp nat_cmp (kid_set kids ranked.numbers a)
        (kid_set kids ranked.numbers b)) (sym order ∙ equal)).1;
  }

  pub last_after : (unresolved : List Bool) (first last : ℕ) → LastPlaces mid unresolved first last
      → LastPlaces now unresolved first last
  last_after unresolved first last lasts = record {
    low = λ p at. lasts.low p (places.there last p at);
    high = λ p at. lasts.high p (places.there last p at);
    back = λ p low high is. places.here last p (lasts.back p low high is);
    inner = λ t p lt at. lasts.inner t p lt (places.there t p at);
    bare = lasts.bare;
  }

-- places of the first sphere are in it
pub first_stays : (begin now : SphereColumns) (first last size : ℕ) (kids_at : ℕ → List ℕ) (unresolved : List Bool)
    (keys : List ℤ) → AreRanked begin last → Follows begin first last size kids_at unresolved keys now → (place : ℕ)
    → in_sphere begin.ranked.rows begin.starts 0 place → in_sphere now.ranked.rows now.starts 0 place
first_stays begin now first last size kids_at unresolved keys ranked follows place p =
    let walked = follows.walked.walked in
    let grows = follows.walked.walks.grows in
    let len = ap (λ (ns : List ℕ). length ns) grows.starts in
    let start_at : (t : ℕ) → t ≤ 1 → slice_index (with_sphere walked).starts t ≡ slice_index begin.starts t =
    λ t le. was_there walked.starts (length walked.ranked.rows) t (omega (arith, le, ranked.count, len))
    ∙ ap (λ (ns : List ℕ). slice_index ns t) grows.starts in
    let within = ranked.spheres.within 0 (omega arith) in
    let at : in_sphere (with_sphere walked).ranked.rows (with_sphere walked).starts 0 place = record {
      row = p.row;
      low = subst (λ n. n ≤ p.row) (sym (start_at 0 (omega arith))) p.low;
      high = subst (λ n. p.row < n) (sym (start_at 1 (omega arith))) p.high;
      here = grows.row p.row (omega (arith, p.high, within)) ∙ p.here;
    } in
    subst (λ ss. in_sphere now.ranked.rows ss 0 place) (sym follows.starts) (follows.places.here 0 place
    (subst (λ (s : SphereColumns). in_sphere s.ranked.rows s.starts 0 place) (sym follows.walked.ended) at))
