-- Places doubled: after all of them is the copy of each, and in the rows next to it. Own.
use Rattle.std.specs.Prelude.{◌+◌, ◌-◌, ◌++◌, ◌∷◌, ℕ, Bool, false, if◌then◌else◌, List, [], length, map, nat_lt, replicate}
use Rattle.std.specs.List.{range_with_len}
use Rattle.cip_partition.specs.PlaceTree.{PlaceTree}
use Rattle.cip_partition.specs.Ranked.{Ranked}
use Rattle.cip_partition.specs.declared.places.place.Place.{Place}

-- a number below a count, moved on; any other one after all
abbrev pub moved_on : ℕ → ℕ → ℕ → ℕ
moved_on by count number = if nat_lt number count then by + number else count + count

-- A place moved on, which is its own node.
abbrev pub twin_place : ℕ → ℕ → ℕ → Place → Place
twin_place node by count place = record {
  node = node;
  branch = moved_on by count place.branch;
  parent_place = moved_on by count place.parent_place;
  first = moved_on by count place.first;
  count = place.count;
}

-- places moved on, of which the first one stands for a node, and each other one for the next
abbrev pub twins_from : ℕ → ℕ → ℕ → List Place → List Place
twins_from node by count [] = []
twins_from node by count (place ∷ places) = twin_place node by count place ∷ twins_from (node + 1) by count places

-- numbers as they are, and moved on by the count
abbrev pub halves : ℕ → List ℕ → List ℕ
halves count numbers = map (moved_on 0 count) numbers ++ map (moved_on count count) numbers

abbrev pub twice : ℕ → ℕ → ℕ
twice count number = if nat_lt number count then number + number else count + count

-- each place, and its copy after n places
abbrev pub pairs : ℕ → List ℕ → List ℕ
pairs count [] = []
pairs count (place ∷ places) = place ∷ (count + place) ∷ pairs count places

-- each place is its own node
abbrev pub twin_kin : ℕ → PlaceTree → PlaceTree
twin_kin room place_tree = record {
  room = room;
  nodes = range_with_len 0 (length place_tree.place_parents + length place_tree.place_parents);
  branches = halves (length place_tree.place_parents) place_tree.branches;
  place_parents = halves (length place_tree.place_parents) place_tree.place_parents;
  firsts = halves (length place_tree.place_parents) place_tree.firsts;
  counts = place_tree.counts ++ place_tree.counts;
}

abbrev pub twin_ranked : ℕ → ℕ → Ranked → Ranked
twin_ranked room count ranked = record {
  room = room;
  rows = pairs count ranked.rows;
  numbers = map (twice count) ranked.numbers ++ map (twice count) ranked.numbers;
}

-- the copy of a branch is as far after it as the copies of places are
abbrev pub twin_wanted : ℕ → List Bool → List Bool
twin_wanted count unresolved = unresolved ++ replicate (count - length unresolved) false ++ unresolved
