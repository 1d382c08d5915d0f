-- Looks that are kept: they are again as constitution left them, and each is one of this digraph.
use Rattle.std.proofs.Common.{◌≡◌, ◌∙◌, ◌<◌, ◌==◌, ◌++◌, ◌+◌, ℕ, true, false, List, [], ◌∷◌, None, Some, Ok, Err, OnOk, OnErr, Result, All, length, length-append, map, get_or, slice_get, refl, sym, ap, subst, arith}
use Rattle.std.specs.Bool.{Decides}
use Rattle.std.specs.Cmp.{unsigned_Decides}
use Rattle.std.specs.Option.{option_eq, option_map}
use Rattle.std.specs.declared.alloc.AllocError.{AllocError}
use Rattle.std.proofs.Math.Seq.{get_or-append_seam}
use Rattle.std.proofs.lemmas.List.Elements.{All-push}
use Rattle.std.specs.declared.option.Option.{Option}
use Rattle.std.proofs.lemmas.List.{length-map}
use Rattle.std.proofs.lemmas.Option.{get_or_from_slice_get, slice_get-get_or, same_Some, slice_get-map, slice_get_within}
use Rattle.cip_aux.specs.Views.{DigraphView}
use Rattle.cip_branches.specs.Deciding.{Branched}
use Rattle.cip_branches.specs.Saving.{Checkpoint, restored, saved_of}
use Rattle.cip_digraph.specs.digraph.NodeList.{parents_of}
use Rattle.cip_digraph.specs.declared.decisions.branch_pair.BranchPair.{BranchPair}
use Rattle.cip_rules.specs.Taking.{AreSame}
use Rattle.cip_rules.proofs.lemmas.TakenSteps.{same_still, stands_back}
use Rattle.cip_aux_rank.specs.Narrowing.{LeavesOpen}
use Rattle.cip_aux_rank.specs.LigandBranches.{LigandBranches, asked_tops}
use Rattle.cip_aux_rank.specs.RankingCache.{AreOpen, Asks, IsOpen, LigandQuery, looked_at}
use Rattle.cip_aux_rank.proofs.lemmas.Narrowed.{left_again}

pub stood : (bound : ℕ) (sight : DigraphView) (entry : LigandQuery) (is : IsOpen bound sight entry)
    → restored entry.ranks entry.branched ≡ is.begin
stood bound sight entry is =
    ap (λ (s : Checkpoint). restored s entry.branched) is.ranks
    ∙ stands_back is.begin entry.branched entry.ranks.room is.left.constituted.placed.followed is.same

-- the branches of a ranking that is restored leave the same pairs open
pub stands_open : (bound : ℕ) (sight : DigraphView) (entry : LigandQuery) (is : IsOpen bound sight entry) (ligand_branches : LigandBranches)
    → ligand_branches ≡ record { bound = bound; tops = looked_at sight entry; now = restored entry.ranks entry.branched }
    → (pairs : List BranchPair) → pairs ≡ entry.pairs
    → LeavesOpen sight entry.node ligand_branches.tops ligand_branches.now pairs entry.ligands
stands_open bound sight entry is ligand_branches e pairs are =
    left_again sight entry.node (looked_at sight entry) ligand_branches.tops is.begin ligand_branches.now entry.pairs pairs entry.ligands is.left
    (ap (λ (n : LigandBranches). n.tops) e) (ap (λ (n : LigandBranches). n.now) e ∙ stood bound sight entry is) are

-- branches that were begun and swapped are as their ranks were set aside
pub stood_again : (old begun swapped again : LigandBranches) (tops : List ℕ) (branches : Branched) (ranks : Checkpoint)
    → begun ≡ record old { tops = tops } → swapped ≡ record begun { now = branches }
    → again ≡ record swapped { now = restored ranks swapped.now }
    → again ≡ record { bound = old.bound; tops = tops; now = restored ranks branches }
stood_again old begun swapped again tops branches ranks e f g =
    g ∙ (λ i. record (f i) { now = restored ranks (f i).now }) ∙ (λ i. record (e i) { now = restored ranks branches })

-- and a ranking whose branches have other ranks since is open still
pub open_still : (bound : ℕ) (sight : DigraphView) (entry later : LigandQuery) → IsOpen bound sight entry → (now then : Branched)
    → now ≡ restored entry.ranks entry.branched → AreSame now then → then.layers.place_tree.room ≡ bound
    → later ≡ record entry { branched = then } → IsOpen bound sight later
open_still bound sight entry later is now then e same room f = subst (IsOpen bound sight) (sym f) (record {
  begin = is.begin;
  left = is.left;
  ranks = is.ranks;
  numbers = is.numbers;
  same = subst (λ (b : Branched). AreSame b then) (e ∙ stood bound sight entry is) same;
  room = room;
})

-- one ranking more
pub pushed_open : (bound : ℕ) (sight : DigraphView) (result : Result Unit AllocError) (before now : List LigandQuery) (entry : LigandQuery)
    → OnOk result (now ≡ before ++ entry ∷ []) → OnErr result (now ≡ before) → AreOpen bound sight before
    → IsOpen bound sight entry → AreOpen bound sight now
pushed_open bound sight (Ok done) before now entry added refused are is = record {
  room = are.room;
  each = subst (All (IsOpen bound sight)) (sym added) (All-push (IsOpen bound sight) before entry are.each is);
}
pushed_open bound sight (Err cause) before now entry added refused are is =
    subst (AreOpen bound sight) (sym refused) are

pub one_longer : (result : Result Unit AllocError) (before now : List LigandQuery) (entry : LigandQuery)
    → OnOk result (now ≡ before ++ entry ∷ []) → OnOk result (length now ≡ length before + 1)
one_longer (Ok done) before now entry added =
    ap (λ (ls : List LigandQuery). length ls) added ∙ length-append before (entry ∷ [])
one_longer (Err cause) before now entry added = tt

pub last_is : (result : Result Unit AllocError) (before now : List LigandQuery) (entry : LigandQuery) (node : ℕ)
    (ligands : List (Option ℕ)) → OnOk result (now ≡ before ++ entry ∷ []) → entry.node ≡ node → entry.ligands ≡ ligands
    → OnOk result ((l : LigandQuery) → slice_get now (length before) ≡ Some l → Asks l node ligands)
last_is (Ok done) before now entry node ligands added e f = λ l at.
    let same : l ≡ entry =
    sym (get_or_from_slice_get now (length before) l entry at)
    ∙ ap (λ (ls : List LigandQuery). get_or ls (length before) entry) added ∙ get_or-append_seam before entry [] entry in
    (ap (λ (k : LigandQuery). k.node) same ∙ e, ap (λ (k : LigandQuery). k.ligands) same ∙ f)
last_is (Err cause) before now entry node ligands added e f = tt

-- one of them
pub at_place : {X : Type 0} (P : X → Type 0) (xs : List X) (place : ℕ) (x : X) → All P xs → slice_get xs place ≡ Some x
    → P x
at_place P xs place x all at =
    subst P (get_or_from_slice_get xs place x x at) (all place x (slice_get_within xs place x at))

-- there is one at each place
pub some_at : {X : Type 0} (xs : List X) (place : ℕ) → place < length xs → (x : X) × (slice_get xs place ≡ Some x)
some_at [] place within = absurd (omega (arith, within))
some_at (x ∷ xs) place within = (get_or (x ∷ xs) place x, slice_get-get_or (x ∷ xs) place x within)

-- one of them, by what they are made of
pub made_at : {X Y : Type 0} (f : X → Y) (xs : List X) (ys : List Y) → map f xs ≡ ys → (place : ℕ) (x : X)
    → place < length ys → x ≡ get_or xs place x → slice_get ys place ≡ Some (f x)
made_at {Y = Y} f xs ys made place x within value =
    subst (λ (zs : List Y). slice_get zs place ≡ Some (f x)) made
    (slice_get-map f xs place
    ∙ ap (option_map f)
    (slice_get-get_or xs place x
    (subst (λ n. place < n) (sym (ap (λ (zs : List Y). length zs) made) ∙ length-map xs f) within)
    ∙ ap Some (sym value)))

-- as constitution has just left it
pub opened : (bound : ℕ) (sight : DigraphView) (entry : LigandQuery) (node : ℕ) (ligands requested : List (Option ℕ)) (tops : List ℕ)
    (begin : Branched) (pairs : List BranchPair) → entry.node ≡ node → entry.ligands ≡ ligands → entry.tops ≡ requested
    → entry.pairs ≡ pairs → entry.branched ≡ begin → entry.ranks ≡ saved_of entry.ranks.room begin
    → length begin.layers.ranked.numbers ≡ length begin.layers.place_tree.place_parents → entry.branched.layers.place_tree.room ≡ bound
    → tops ≡ asked_tops (parents_of sight.node_data) requested node → LeavesOpen sight node tops begin pairs ligands
    → IsOpen bound sight entry
opened bound sight entry node ligands requested tops begin pairs e f g h k ranks numbers room are left = record {
  begin = begin;
  left = subst (λ (n : ℕ). LeavesOpen sight n (looked_at sight entry) begin entry.pairs entry.ligands) (sym e)
      (subst (λ (ls : List (Option ℕ)). LeavesOpen sight node (looked_at sight entry) begin entry.pairs ls) (sym f)
      (left_again sight node tops (looked_at sight entry) begin begin pairs entry.pairs ligands left
      ((λ i. asked_tops (parents_of sight.node_data) (g i) (e i)) ∙ sym are) refl h));
  ranks = ranks;
  numbers = numbers;
  same = subst (AreSame begin) (sym k) (same_still begin);
  room = room;
}

-- ligands that compare as the same are the same
pub same_ligand : (a b : Option ℕ) → Decides (option_eq (λ x y. x == y) a b) (a ≡ b)
same_ligand None None = (λ e. refl, λ e. refl)
same_ligand None (Some b) = (
  λ e. let bad : true ≡ false = sym e in cc,
  λ e. let bad : None ≡ Some b = e in cc,
)
same_ligand (Some a) None = (
  λ e. let bad : true ≡ false = sym e in cc,
  λ e. let bad : Some a ≡ None = e in cc,
)
same_ligand (Some a) (Some b) =
    (λ e. ap Some ((unsigned_Decides a b).0 e), λ e. (unsigned_Decides a b).1 (same_Some a b e))
