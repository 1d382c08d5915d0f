-- Keys of readings, and what is asked of branches, by number.
use Rattle.std.proofs.Common.{◌≡◌, ◌<◌, ◌+◌, ◌++◌, ◌∷◌, [], ℕ, ℤ, pos, List, length, map, slice_index, sym, ap, ◌∙◌, arith}
use Rattle.std.specs.declared.option.Option.{Option}
use Rattle.std.specs.List.{range_with_len}
use Rattle.std.proofs.lemmas.List.{get_or-map, map-append}
use Rattle.std.proofs.lemmas.List.FromFn.{get_or-map-range_with_len}
use Rattle.cip_rank.specs.Ranking.{key_at}
use Rattle.cip_rank.proofs.lemmas.Ranges.{range_more}
use Rattle.cip_mol.specs.declared.labels.descriptor.Descriptor.{Descriptor}
use Rattle.cip_branches.specs.Deciding.{Branched}
use Rattle.cip_rules.specs.Rule4bWorkspace.{reading_key, reading_keys}

pub key_here : (descriptors : List (Option Descriptor)) (from : Branched) (place : ℕ)
    → place < length from.layers.place_tree.place_parents + length from.layers.place_tree.place_parents
    → key_at (reading_keys descriptors from) place
    ≡ reading_key descriptors from.layers.place_tree.nodes (length from.layers.place_tree.place_parents) place
key_here descriptors from place lt =
    get_or-map-range_with_len (reading_key descriptors from.layers.place_tree.nodes (length from.layers.place_tree.place_parents)) 0
    (length from.layers.place_tree.place_parents + length from.layers.place_tree.place_parents) place place (pos 0) lt (omega arith)

pub mapped_place : {X : Type 0} (f : ℕ → X) (count : ℕ)
    → map f (range_with_len 0 (count + 1)) ≡ map f (range_with_len 0 count) ++ f count ∷ []
mapped_place f count = ap (map f) (range_more 0 count count (omega arith))
    ∙ map-append f (range_with_len 0 count) (count ∷ [])

-- a value that was put down is the key
pub value_here : (values : List ℕ) (keys : List ℤ) → map pos values ≡ keys → (place : ℕ) → place < length values
    → pos (slice_index values place) ≡ key_at keys place
value_here values keys node_data place lt = sym (get_or-map pos values place 0 (pos 0) lt)
    ∙ ap (λ (ks : List ℤ). key_at ks place) node_data

-- and one more of them
pub values_more : (key : ℕ → ℤ) (values : List ℕ) (count value : ℕ) → map pos values ≡ map key (range_with_len 0 count)
    → pos value ≡ key count → map pos (values ++ value ∷ []) ≡ map key (range_with_len 0 (count + 1))
values_more key values count value before is =
    map-append pos values (value ∷ []) ∙ ap (λ ks. ks ++ pos value ∷ []) before
    ∙ ap (λ k. map key (range_with_len 0 count) ++ k ∷ []) is ∙ sym (mapped_place key count)
