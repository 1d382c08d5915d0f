-- `cip_explain` meets its contract, a walk of its MIR by hand: it hands what C passed on to `write_at`.
use Rattle.std.proofs.Common.{[], ◌∷◌, refl, w64}
use Rattle.std.proofs.raw_atomic.Walks.{proved}
use contract.Running.{tables}
use types.Kit.{raw, ◌$◌, ◌∵◌, !, qed, done, drop, join, suffices, group}
use types.Run.{enter, lit, no_more, and_then, returns}
use types.ByLocal.{alloc_all, pass_all, free_all, look_at, get, sets, lands_as}
use types.Part.{agg}
use denote.Builtin.{usize}
use denote.Enum.Laws.{lawful, owes}
use denote.Exit.{yes}
use denote.Plain.{uint_vals, uint_Tells}
use denote.Signed.{sint_Lawful}
use denote.RawPtr.{RawPtr, rawptr_vals, rawptr_Tells, rawptr_Lawful}
use denote.Signature.{plain}
use denote.Steps.{nothing}
use denote.Triple.Call.{calls_at}
use denote.Triple.Table.{framed}
use denote.Triple.Entry.{on_entry}
use denote.Triple.Walked.{Stays, walk_of, stay_dropped, Goes-dropped, ends_at}
use Rattle.cip_c.specs.contracts.text_kinds.Text.{the_type}
use Rattle.cip_c.specs.declared.text_kinds.Text.TheVariants.{Explained}
use Rattle.cip_c.specs.contracts.exports.cip_explain as f
use Rattle.cip_c.proofs.lemmas.Asking.{Handed, Fit, G, Had, at_hand, hands_on, comes_back}
use Rattle.cip_c.proofs.exports.write_at.Met.{met}
use Rattle.cip_c.proofs.text_kinds.Text.TheLaws.{the_laws}
use Rattle.cip_c.proofs.exports.cip_explain.Statement.{statement}
use Rattle.cip_c.proofs.exports.cip_explain.Code as code

abbrev stayed : Stays f.ended.signature.params f.ended.kept
stayed = (
  stay_dropped _ yes,
  (
    stay_dropped _ yes,
    (stay_dropped _ yes, (stay_dropped _ yes, (stay_dropped _ yes, (stay_dropped _ yes, tt)))),
  ),
)

pub cip_explain_spec : {M : Type 1} → statement M
cip_explain_spec 𝓤 𝓛 𝓜 𝓡 wired =
    let c = f.clauses 𝓛 𝓜.mem 𝓡.returns in let W = walk_of 𝓛 f.ended stayed c in
    let at = Goes-dropped 𝓛 0 (plain (λ _. RawPtr)) yes (λ κs x w. refl) in
    let count = Goes-dropped 𝓛 0 (plain (λ _. usize)) yes (λ κs x w. refl) in
    proved 𝓛 f.ended stayed c 𝓜 𝓡 (at, (count, (at, (count, (at, (count, tt))))))
    f.Key.name code.function (code.unfolded 𝓤 𝓛.H 𝓜 𝓡 wired)
    (λ κs. (rawptr_vals, (uint_vals w64, (rawptr_vals, (uint_vals w64, (rawptr_vals, (uint_vals w64, tt)))))))
    (λ κs. (rawptr_Tells, (uint_Tells w64, (rawptr_Tells, (uint_Tells w64, (rawptr_Tells, (uint_Tells w64, tt)))))))
    (λ κs qs bounds a g are.
    let h : Handed = record {
      requested = Explained a.1.0;
      labeller = a.0;
      bytes = a.1.1.0;
      length = a.1.1.1.0;
      text = a.1.1.1.1.0;
      room = a.1.1.1.1.1.0;
      passed = g;
    } in
    let fit : Fit h = record {
      requested = owes the_type the_laws h.requested ((refl, are.1.0.1), tt);
      length = are.1.1.1.0.1;
      room = are.1.1.1.1.1.0.1;
    } in
    let y : W.Ghost = (
      (
        κs,
        qs,
        bounds,
        a,
        (
          rawptr_vals h.labeller,
          (
            uint_vals w64 a.1.0,
            (
              rawptr_vals h.bytes,
              (uint_vals w64 h.length, (rawptr_vals h.text, (uint_vals w64 h.room, tt))),
            ),
          ),
        ),
      ),
      g,
    ) in
    qed 𝓛 (raw (on_entry 𝓛 f.signature κs qs a y.0.4) ∷ raw (Had 𝓛 h) ∷ []) ∵ drop ! $
    enter ! _ _ _ _ _ $ alloc_all ! (λ l. pass_all ! refl (
      ((rawptr_Lawful 𝓛).typed h.labeller _ refl).0,
      (
        (tt, record { fits = are.1.0.1 }),
        (
          ((rawptr_Lawful 𝓛).typed h.bytes _ refl).0,
          (
            (tt, record { fits = fit.length }),
            (((rawptr_Lawful 𝓛).typed h.text _ refl).0, ((tt, record { fits = fit.room }), tt)),
          ),
        ),
      ),
    ) $
    sets ! (agg ! (and_then ! (lit ! tt) (and_then ! (get ! refl) (no_more !)))) refl
    ((lawful the_type the_laws 𝓛 tt).typed h.requested _ fit.requested).0 $
    hands_on 𝓜 𝓡 h ! fit $
    calls_at ! (framed 𝓤 𝓛.H 𝓜 (tables 𝓤 𝓛.H 𝓜 𝓡 𝓡.env)) (G 𝓛 𝓜 𝓡)
    (met 𝓤 𝓛 𝓜 𝓡 (code.calls-cip_c::exports::write_at 𝓡.env wired)) (at_hand 𝓛 𝓜 𝓡 h)
    (and_then ! (get ! refl) (and_then ! (get ! refl) (and_then ! (get ! refl) (and_then ! (get ! refl)
    (and_then ! (get ! refl) (and_then ! (get ! refl) (no_more !))))))) (λ v. comes_back 𝓜 𝓡 h ! tt v (λ u is.
    lands_as ! refl refl ((sint_Lawful 𝓛 w64).typed u _ is).0 $ returns ! (look_at ! 0 refl) $ free_all ! refl $
    suffices ! _ (ends_at 𝓛 f.ended stayed c y v u (tt, (tt, (tt, (tt, (tt, (tt, tt))))))
    (tt, (tt, (tt, (tt, (tt, (tt, tt))))))) $
    nothing ! $ nothing ! $ join ! $ nothing ! $ join ! $ nothing ! $ join ! $ nothing ! $ join ! $ nothing ! $
    join ! $ nothing ! $ join ! $ nothing ! $ group ! 3 $ done !))))
