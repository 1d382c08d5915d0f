use Rattle.std.proofs.Common.{◌≡◌, ◌∙◌, ◌≤◌, List, All, add-one, ap, arith, length, not, subst, sym}
use Rattle.std.proofs.lemmas.List.Elements.{All-filter}
use Rattle.cip_mol.specs.declared.site.Site.{Site}
use Rattle.cip_label.specs.Fitting.{IsFitSite}
use Rattle.cip_undefined.specs.Branches.{FreeAtoms, free_atoms}
use Rattle.cip_undefined.specs.Ties.{is_firm, loose, loose_after}
use Rattle.cip_undefined.proofs.lemmas.Rounds.{settled}
use Rattle.cip_undefined.proofs.ties.settle.Goals as goal

pub returns-then-len-clause-free : goal.returns-then-len-clause-free
returns-then-len-clause-free g c =
    let setting = c.args.setting.now in
    let nodes = c.args.labeller.now in
    let others = c.args.others.now in
    let sites = c.args.sites.items in
    let left = c.loop.left.items in
    let few : c.loop.counter ≤ length sites =
    omega (arith, c.loop-test.true, c.len-most.ensures, c.args.sites.ok.0) in
    let found : length c.in_ok-loose.loose.items ≡ length (loose setting nodes (free_atoms others left) left) =
    ap length
    (c.in_ok-loose.ensures.loose
    ∙ ap (λ n. loose setting n c.loop.free.free c.deref-in-loop.result.now) c.loop.invariant.kept
    ∙ ap (λ (atoms : FreeAtoms). loose setting nodes atoms.free c.deref-in-loop.result.now) c.loop.invariant.free
    ∙ ap (loose setting nodes (free_atoms others left)) c.deref-in-loop.ensures.value) in
    let same : length (loose setting nodes (free_atoms others left) left) ≡ length left =
    omega (arith, found, c.if-len.true, c.in_ok-loose.loose.ok.0, c.loop.left.ok.0) in
    c.in_ok-loose.ensures.still ∙ c.loop.invariant.free
    ∙ ap {A = List Site} {B = FreeAtoms} (λ some. record { graph = setting.graph; free = free_atoms others some })
    (settled setting nodes others sites c.loop.counter (length sites) left few c.loop.invariant.left same)

pub loop-preserved : goal.loop-preserved
loop-preserved g c =
    let setting = c.args.setting.now in
    let nodes = c.args.labeller.now in
    let others = c.args.others.now in
    let sites = c.args.sites.items in
    let left = c.loop.left.items in
    record {
      left = c.in_ok-loose.ensures.loose
          ∙ ap (λ n. loose setting n c.loop.free.free c.deref-in-loop.result.now) c.loop.invariant.kept
          ∙ ap (λ (atoms : FreeAtoms). loose setting nodes atoms.free c.deref-in-loop.result.now) c.loop.invariant.free
          ∙ ap (loose setting nodes (free_atoms others left)) c.deref-in-loop.ensures.value
          ∙ ap (λ some. loose setting nodes (free_atoms others some) some) c.loop.invariant.left
          ∙ sym (ap (λ n. loose_after setting nodes n others sites) (add-one c.loop.counter));
      free = c.in_ok-fill-2.ensures
          ∙ ap (λ (atoms : FreeAtoms). record atoms { free = free_atoms others c.deref-in-loop-2.result.now })
          (c.in_ok-loose.ensures.still ∙ c.loop.invariant.free)
          ∙ ap {A = List Site} {B = FreeAtoms}
          (λ some. record { graph = setting.graph; free = free_atoms others some }) c.deref-in-loop-2.ensures.value;
      fit = subst (All (IsFitSite setting.graph)) (sym c.in_ok-loose.ensures.loose)
          (All-filter (λ site. not (is_firm setting c.loop.labeller c.loop.free.free site)) (IsFitSite setting.graph)
          c.deref-in-loop.result.now
          (subst (All (IsFitSite setting.graph)) (sym c.deref-in-loop.ensures.value) c.loop.invariant.fit));
      kept = c.in_ok-loose.ensures.kept ∙ c.loop.invariant.kept;
    }
