use Rattle.std.proofs.Common.{◌≡◌, ◌<◌, ◌⊎◌, ◌∙◌, ℕ, List, Bool, true, if◌then◌else◌, length, slice_index, sym, ap, subst, arith, inl, inr}
use Rattle.std.specs.List.{slice_set}
use Rattle.std.proofs.lemmas.Bool.{cases_Bool, cases_eq, cases_order}
use Rattle.cip_aux.specs.DescriptorsInside.{flag_at}
use Rattle.cip_aux.proofs.lemmas.FlaggedNodes.{set_stays, set_there, set_others, set_len}
use Rattle.cip_aux.proofs.units.subtree_flags.flag_subtrees.Goals as goal

pub loop-node-preserved : goal.loop-node-preserved
loop-node-preserved c =
    let old = c.loop-node.flags in
    let ps = c.args.table.now.parents in
    let node = c.loop-node.node in
    let b = c.is_below_flagged.result in
    let len = c.loop-node.invariant.len in
    let lt = c.loop-node-test.true in
    let many = c.requires.len in
    let count = c.len-node-end.ensures.len in
    let within : node < length old = omega (arith, lt, len, many, count) in
    let tree = c.len-node-end.ensures.tree in
    record {
      below = λ n some less up.
          let here = subst (λ (flags : List Bool). flag_at flags (slice_index ps n) ≡ true) c.set_if.ensures up in
          let behind = tree.behind n some (omega (arith, less, lt, count)) in
          let same = set_others old node (slice_index ps n) b (λ e. absurd (omega (arith, e, behind, less))) in
          let before : flag_at old (slice_index ps n) ≡ true = sym same ∙ here in
          subst (λ (flags : List Bool). flag_at flags n ≡ true) (sym c.set_if.ensures)
          (elim (cases_order n node) [
            | inl is ↦
                subst (λ k. flag_at (if b then slice_set old node true else old) k ≡ true) (sym is)
                (set_there old node b within
                (c.is_below_flagged.ensures.below (omega (arith, some, is))
                ∙ ap (λ k. flag_at old (slice_index ps k)) (sym is) ∙ before))
            | inr (inl earlier) ↦ set_stays old node n b within (c.loop-node.invariant.below n some earlier before)
            | inr (inr later) ↦ absurd (omega (arith, less, later))
          ]);
      kept = λ n e. subst (λ (flags : List Bool). flag_at flags n ≡ true) (sym c.set_if.ensures)
          (set_stays old node n b within (c.loop-node.invariant.kept n e));
      only = λ n e.
          let new = c.set_if.new.flags in
          let stays : (k : ℕ) → flag_at old k ≡ true → flag_at new k ≡ true = λ k f.
          subst (λ (flags : List Bool). flag_at flags k ≡ true) (sym c.set_if.ensures)
          (set_stays old node k b within f) in
          let here : flag_at (if b then slice_set old node true else old) n ≡ true =
          subst (λ (flags : List Bool). flag_at flags n ≡ true) c.set_if.ensures e in
          let before : flag_at old n ≡ true → (flag_at c.args.flags.now n ≡ true)
          ⊎ ((0 < n) × (flag_at new (slice_index ps n) ≡ true)) = λ f. elim (c.loop-node.invariant.only n f) [
            | inl was ↦ inl was
            | inr up ↦ inr (up.0, stays (slice_index ps n) up.1)
          ] in
          elim (cases_eq n node) [
            | inr differ ↦ before (sym (set_others old node n b differ) ∙ here)
            | inl same ↦ elim (cases_Bool b) [
              | inl set ↦
                  let some = c.is_below_flagged.ensures.root set in
                  inr (
                    omega (arith, some, same),
                    stays (slice_index ps n) (ap (λ k. flag_at old (slice_index ps k)) same
                        ∙ sym (c.is_below_flagged.ensures.below some) ∙ set),
                  )
              | inr unset ↦
                  before (sym (ap (λ (by : Bool). flag_at (if by then slice_set old node true else old) n) unset)
                  ∙ here)
            ]
          ];
      len = ap (λ (flags : List Bool). length flags) c.set_if.ensures ∙ set_len old node b ∙ len;
    }
