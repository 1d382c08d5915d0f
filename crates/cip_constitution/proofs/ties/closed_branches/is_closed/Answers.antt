use Rattle.std.proofs.Common.{◌≡◌, ◌<◌, ◌+◌, ℕ, Bool, true, false, [], ◌∷◌, ◌++◌, length, sym, ap, ◌∙◌, arith}
use Rattle.std.proofs.lemmas.Grind.{common_steps}
use Rattle.std.proofs.Common.{subst, arith, inl, inr, length-append}
use Rattle.std.proofs.Math.Seq.{get_or-append_seam}
use Rattle.std.specs.Prelude.{slice_index_or}
use Rattle.std.proofs.lemmas.Bool.{and_parts, and_cases, cases_lt}
use Rattle.std.proofs.lemmas.List.{get_or_append_left}
use Rattle.cip_constitution.specs.Closing.{is_under}
use Rattle.cip_constitution.specs.Trials.{node_data, is_open_in}
use Rattle.cip_digraph.specs.digraph.NodeList.{parents_of}
use Rattle.cip_constitution.proofs.ties.closed_branches.is_closed.Goals as goal

true_false : true ≡ false → ⊥
true_false e = cc

-- what holds below a number holds below the next one
below_next : (P : ℕ → Type 0) (n : ℕ) → ((k : ℕ) → k < n → P k) → P n → (k : ℕ) → k < n + 1 → P k
below_next P n h here k lt = elim (cases_lt k n) [
  | inl inner ↦ h k inner
  | inr last ↦ let same : n ≡ k = omega (arith, lt, last) in subst P same here
]

pub returns-then-is_open-clause-opened : goal.returns-then-is_open-clause-opened
returns-then-is_open-clause-opened c e =
    let a = c.args.arena.now in
    let node = c.loop-node.node in
    let both = and_parts c.is_under_by-is_below.result (is_open_in (node_data c.args.setting.now) a
    node) (sym c.is_open.ensures ∙ c.if-is_open.true) in (
      node,
      (
        omega (arith, c.loop-node-test.true, c.len-node-end.ensures.len),
        (
          subst (λ ps. is_under ps c.args.top node ≡ true) c.table.ensures (sym c.is_under_by-is_below.ensures
              ∙ both.0),
          both.1,
        ),
      ),
    )

pub loop-node-preserved : goal.loop-node-preserved
loop-node-preserved c =
    let a = c.args.arena.now in
    let node = c.loop-node.node in
    let inv = c.loop-node.invariant in
    let items = c.push_reserved.ensures.items in
    let flag = c.is_under_by-is_below.result in
    let is : flag ≡ is_under (parents_of a.nodes) c.args.top node = c.is_under_by-is_below.ensures
    ∙ ap (λ ps. is_under ps c.args.top node) c.table.ensures in
    record {
      len = ap (length {A = Bool}) items ∙ length-append c.loop-node.under.items (flag ∷ []) ∙ ap (λ n. n + 1) inv.len;
      room = omega (arith, inv.room, c.push_reserved.ensures.capacity);
      under = below_next (λ k. slice_index_or c.push_reserved.new.self.items k false ≡ is_under (parents_of a.nodes)
          c.args.top k) node
          (λ k lt. ap (λ xs. slice_index_or xs k false) items ∙ get_or_append_left c.loop-node.under.items (flag ∷ [])
          false k (omega (arith, lt, inv.len)) ∙ inv.under k lt)
          (ap (λ xs. slice_index_or xs node false) items
          ∙ ap (λ n. slice_index_or (c.loop-node.under.items ++ flag ∷ []) n false) (sym inv.len)
          ∙ get_or-append_seam c.loop-node.under.items flag [] false ∙ is);
      none = below_next (λ k. is_under (parents_of a.nodes) c.args.top k ≡ true
          → is_open_in (node_data c.args.setting.now) a k ≡ false) node
          inv.none
          (λ under. elim (and_cases flag (is_open_in (node_data c.args.setting.now) a node) (sym c.is_open.ensures
          ∙ c.if-is_open.false)) [
            | inl off ↦ absurd (true_false (sym under ∙ sym is ∙ off))
            | inr shut ↦ shut
          ]);
    }

pub returns-clause-closed : goal.returns-clause-closed
returns-clause-closed c e node lt under = c.loop-node.invariant.none node
    (omega (arith, lt, c.loop-node-test.false, c.len-node-end.ensures.len)) under

pub is_under_by-is_below-requires-clause-within : goal.is_under_by-is_below-requires-clause-within
is_under_by-is_below-requires-clause-within c = grind (arith, common_steps)
