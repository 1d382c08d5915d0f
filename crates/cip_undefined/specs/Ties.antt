-- A tie is firm where two ligands tie whose branches hold no end of another undefined unit, unless that unit's tie is
-- firm itself. A unit whose tie isn't firm is dependent: drawing the other unit might distinguish its ligands. Own.
use Rattle.std.specs.Prelude.{ℕ, zero, suc, ◌&&◌, Bool, true, false, cond, not, List, [], ◌∷◌, filter, length, map}
use Rattle.std.specs.List.{flat_map, list_any}
use Rattle.cip_mol.specs.declared.site.Site.{Site}
use Rattle.cip_label.specs.declared.ranked_root.Ranked.{Ranked}
use Rattle.cip_label.specs.declared.ranked_root.Ranked.TheVariants as ranked
use Rattle.cip_label.specs.Labelling.{ranked_root}
use Rattle.cip_label.specs.Settings.{LabelContext}
use Rattle.cip_undefined.specs.Branches.{do_hold, ends_at, free_atoms}
use Rattle.cip_undefined.specs.Pairs.{end_of, pairs_of}
use Rattle.cip_undefined.specs.declared.pairs.Pair.{Pair}
use Rattle.cip_undefined.specs.declared.unit.State.{State}
use Rattle.cip_undefined.specs.declared.unit.State.TheVariants.{Open, Dependent, Tie, Over}
use Rattle.cip_undefined.specs.declared.unit.UndefinedUnit.{UndefinedUnit}

abbrev pub is_tie : Ranked → Bool
is_tie ranked.Tie = true
is_tie ranked.Over = false
is_tie (ranked.Ordered places turned rule sphere) = false

abbrev pub ties : State → Bool
ties Tie = true
ties (Open rule sphere order) = false
ties Dependent = false
ties Over = false

-- the atoms at which units end whose ligands don't tie
abbrev pub other_ends : List UndefinedUnit → List ℕ
other_ends found = flat_map (λ unit. cond (ties unit.state) [] (ends_at unit.site)) found

abbrev pub tied_sites : List UndefinedUnit → List Site
tied_sites found = flat_map (λ unit. cond (ties unit.state) (unit.site ∷ []) []) found

module _ (setting : LabelContext) (nodes : ℕ) where
  -- two ligands tie by all rules, within the bound
  abbrev pub is_tied : Pair → Bool
  is_tied two = is_tie (ranked_root setting nodes (end_of two))

  -- two ligands of a site tie, and their branches hold none of some atoms
  abbrev pub is_firm_pair : List ℕ → Site → Pair → Bool
  is_firm_pair free site two = not (do_hold setting.graph free site two) && is_tied two

  abbrev pub is_firm : List ℕ → Site → Bool
  is_firm free site = list_any (is_firm_pair free site) (pairs_of site)

  -- the sites whose ties aren't firm where some atoms are free
  abbrev pub loose : List ℕ → List Site → List Site
  loose free sites = filter (λ site. not (is_firm free site)) sites

  -- The same again and again: firm ties make further ones firm. n times at most something changes as there are
  -- sites.
  abbrev pub loose_after : ℕ → List ℕ → List Site → List Site
  loose_after zero others sites = sites
  loose_after (suc rounds) others sites =
      let left = loose_after rounds others sites in loose (free_atoms others left) left

  -- the atoms at which undefined units end whose ties aren't firm
  abbrev pub free_among : List UndefinedUnit → List ℕ
  free_among found =
      let others = other_ends found in
      let tied = tied_sites found in
      free_atoms others (loose_after (length tied) others tied)

  abbrev pub told_unit : List ℕ → UndefinedUnit → UndefinedUnit
  told_unit free unit =
      cond (ties unit.state && not (is_firm free unit.site)) (record unit { state = Dependent }) unit

  -- undefined units, with those that are dependent
  abbrev pub told_units : List UndefinedUnit → List UndefinedUnit
  told_units found = map (told_unit (free_among found)) found
