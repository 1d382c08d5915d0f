-- A node added at the end.
use Rattle.std.proofs.Common.{◌≡◌, ◌<◌, ◌≤◌, ◌+◌, ℕ, List, [], ◌∷◌, ◌++◌, length, sym, ap, ◌∙◌, subst}
use Rattle.std.proofs.Common.{arith, inl, inr, length-append, append_assoc, replicate}
use Rattle.std.proofs.lemmas.Bool.{cases_lt}
use Rattle.std.proofs.Math.Seq.{get_or-append_seam}
use Rattle.std.proofs.lemmas.List.{get_or_append_left, map-append, replicate-append-replicate}
use Rattle.cip_rank.specs.Tree.{last_parent}
use Rattle.cip_rank.proofs.lemmas.Pushed.{last_pushed}
use Rattle.cip_digraph.specs.declared.nodes.NodeData.{NodeData}
use Rattle.cip_digraph.specs.digraph.NodeList.{nothing_told, told_at, parents_of}
use Rattle.cip_arena.specs.Walk.{IsEarlier, Keeps}

pub parents_added : (ts : List NodeData) (t : NodeData) → parents_of (ts ++ t ∷ []) ≡ parents_of ts ++ t.parent ∷ []
parents_added ts t = map-append (λ (n : NodeData). n.parent) ts (t ∷ [])

pub last_added : (ts : List NodeData) (t : NodeData) → last_parent (parents_of (ts ++ t ∷ [])) ≡ t.parent
last_added ts t = ap last_parent (parents_added ts t) ∙ last_pushed (parents_of ts) t.parent

pub told_left : (ts us : List NodeData) (k : ℕ) → k < length ts → told_at (ts ++ us) k ≡ told_at ts k
told_left ts us k lt = get_or_append_left ts us nothing_told k lt

pub each_added : (P : ℕ → NodeData → Type 0) (ts : List NodeData) (t : NodeData) → ((k : ℕ) → k < length ts → P k (told_at ts k))
    → P (length ts) t → (k : ℕ) → k < length (ts ++ t ∷ []) → P k (told_at (ts ++ t ∷ []) k)
each_added P ts t h new k lt =
    let more : length (ts ++ t ∷ []) ≡ length ts + 1 = length-append ts (t ∷ []) in
    elim (cases_lt k (length ts)) [
      | inl old ↦ subst (P k) (sym (told_left ts (t ∷ []) k old)) (h k old)
      | inr past ↦ let here : length ts ≡ k = omega (arith, lt, more) in
          subst (λ j. P j (told_at (ts ++ t ∷ []) j)) here
          (subst (P (length ts)) (sym (get_or-append_seam ts t [] nothing_told)) new)
    ]

pub earlier_added : (ts : List NodeData) (t : NodeData) → IsEarlier ts → t.parent < length ts → IsEarlier (ts ++ t ∷ [])
earlier_added ts t e lt = record {
  earlier = λ k some h. each_added (λ k (t : NodeData). 0 < k → t.parent < k) ts t
      (λ k l some. e.earlier k some l) (λ _. lt) k h some;
}

pub near_added : (ts : List NodeData) (t : NodeData) → ((k : ℕ) → k < length ts → (told_at ts k).as_printed ≤ k)
    → t.as_printed ≤ length ts → (k : ℕ) → k < length (ts ++ t ∷ []) → (told_at (ts ++ t ∷ []) k).as_printed ≤ k
near_added ts t h new k lt = each_added (λ k (t : NodeData). t.as_printed ≤ k) ts t h new k lt

pub keeps_append : (ts us : List NodeData) → Keeps ts (ts ++ us)
keeps_append ts us = record { longer = omega (arith, length-append ts us); same = λ k lt. told_left ts us k lt }

pub keeps_then : (ts us vs : List NodeData) → Keeps ts us → Keeps us vs → Keeps ts vs
keeps_then ts us vs a b = record {
  longer = omega (arith, a.longer, b.longer);
  same = λ k lt. b.same k
      (omega (arith, a.longer)) ∙ a.same k lt;
}

pub copies_more : (ts : List NodeData) (n : ℕ) (t : NodeData) → (ts ++ replicate n t) ++ t ∷ [] ≡ ts ++ replicate (n + 1) t
copies_more ts n t = append_assoc ts (replicate n t) (t ∷ []) ∙ ap (λ xs. ts ++ xs) (replicate-append-replicate n 1 t)

pub keeps_more : (ts us ns : List NodeData) → us ≡ ts ++ ns → Keeps ts us
keeps_more ts us ns e = rw e (keeps_append ts ns)

pub keeps_twice : (ts us vs ns more : List NodeData) → us ≡ ts ++ ns → vs ≡ us ++ more → Keeps ts vs
keeps_twice ts us vs ns more first next = keeps_then ts us vs (keeps_more ts us ns first) (keeps_more us vs more next)
