-- `cip_release` meets its contract: a walk of its MIR by hand. What is at the pointer is lent for the call.
use Rattle.std.proofs.Common.{◌≡◌, ℕ, ℤ, pos, negsuc, ◌^◌, ◌-◌, List, [], ◌∷◌, refl, ap, lit<, w64}
use Rattle.std.specs.Prelude.{None, Option}
use Rattle.std.proofs.raw_atomic.Walks.{proved}
use seplogic.Ra.Ura.{Ura}
use mir.Syntax.{named}
use mir.Val.{Val, vint, vptr}
use base.Fraction.{full_share}
use base.Logic.{SProp, ent, emp, id⊢}
use base.Fml.{ftrue, flft, flent, fres}
use prog.Wp.{WpFn}
use prog.Wired.{Wired}
use prog.Model.{Model}
use types.Logic.{Logic}
use contract.Running.{Running, MachineTables, tables}
use contract.Monad.{fact, fact_i}
use types.Kit.{Item, ⋆, ‵, raw, ◌⊛◌, some, later, prop, at_ret, Sq, ◌$◌, ◌∵◌, !, qed, by, done, move, keep, drop, use0}
use types.Kit.{use1, use2, use3, split, join, fsplit, fjoin, feq_l, flt_l, flt_i, pick, await, rewrite, suffices, group}
use types.Run.{enter, of_opd, lit, neg_lit, bin, addr, first, branches, skips, exec, stop, no_more, and_then, returns}
use types.Run.{returns_within}
use types.ByLocal.{alloc_all, pass_all, free_all, look_at, get, through, sets, lands_as, env}
use types.SemTy.{Body}
use types.Tokens.{lft_new, lft_end}
use denote.Builtin.{i64, unit}
use denote.Exit.{yes}
use denote.Lend.{lends_ref, ref_back}
use denote.Memory.{part_at, mem}
use denote.Ref.{MutRef}
use denote.Signed.{sint_Makes}
use denote.RawPtr.{Ptr, RawPtr, block_ptr, null_ptr, rawptr_vals, rawptr_Tells, rawptr_Lawful, ptr_val, tests_null}
use denote.Signature.{plain}
use denote.Steps.{nothing, owned, heard, only}
use denote.Triple.Call.{calls_at}
use denote.Triple.Clauses.{Clauses, Lasts, lasts}
use denote.Triple.Entry.{on_entry}
use denote.Triple.Spec.{triple_of}
use denote.Triple.Statement.{Contract}
use denote.Triple.Table.{framed}
use denote.Triple.Walked.{Stays, walk_of, stay_dropped, Goes-dropped, ends_at}
use Rattle.cip_c.specs.Pointers.{given, unless_null}
use Rattle.cip_c.specs.declared.settings.Settings.{Settings}
use Rattle.cip_c.specs.contracts.labeller_slot.Slot.{the_row}
use Rattle.cip_c.specs.contracts.exports.cip_release as f
use Rattle.cip_c.specs.contracts.labeller_slot.release as of
use Rattle.cip_c.proofs.labeller_slot.release.Met.{met}
use Rattle.cip_c.proofs.exports.cip_release.Statement.{statement}
use Rattle.cip_c.proofs.exports.cip_release.Code as code

abbrev stayed : Stays f.ended.signature.params f.ended.kept
stayed = (stay_dropped _ yes, tt)

module _ {M : Type 1} {𝓤 : Ura M} (𝓛 : Logic 𝓤) (𝓜 : Model 𝓤 𝓛.H) (𝓡 : Running 𝓤 𝓛.H 𝓜) (wired : Wired 𝓡.env code.code)
    (x : Option Settings) where
  abbrev c : Clauses 𝓤 f.ended
  c = f.clauses 𝓛 𝓜.mem 𝓡.returns

  abbrev W : Contract 𝓤
  W = walk_of 𝓛 f.ended stayed c

  abbrev 𝓣 : MachineTables 𝓤 𝓛.H 𝓜
  𝓣 = tables 𝓤 𝓛.H 𝓜 𝓡 𝓡.env

  abbrev y : Ptr → W.Ghost
  y p = ((tt, tt, tt, (p, tt), (rawptr_vals p, tt)), x)

  abbrev Ran : Ptr → SProp 𝓤
  Ran p = WpFn 𝓤 𝓛.H 𝓣.C 𝓣.Λ code.function (ptr_val p ∷ []) (W.post (y p))

  abbrev Had : Ptr → List (Item 𝓤)
  Had p = ‵ (given the_row p x) ∷ []

  abbrev Yields : Ptr → ℤ → Type 0
  Yields p u = unless_null p (u ≡ pos 0) u

  abbrev nowhere : Val
  nowhere = vint w64 (2 ^ 64 - 2)

  -- the end: what is at the pointer, and what is returned
  ends_told : (p : Ptr) (v : Val) (u : ℤ) → Yields p u → Sq 𝓛 (‵ (i64.own_val u (v ∷ [])) ∷ ‵ (given the_row p None) ∷ [])
      (prop (W.post (y p) v))
  ends_told p v u e =
      suffices ! _ (ends_at 𝓛 f.ended stayed c (y p) v u (tt, tt) (tt, tt)) $
      use0 𝓛 (raw (fact 𝓤 (Yields p u))) (fact_i 𝓤 (Yields p u) (emp 𝓤) e) $ move ! (1 ∷ 2 ∷ 0 ∷ []) $
      nothing ! $ nothing ! $ join ! $ nothing ! $ group ! 3 $ done !

  at_null : ent 𝓤 (⋆ 𝓛 (Had null_ptr)) (Ran null_ptr)
  at_null =
      qed 𝓛 (Had null_ptr) ∵ enter ! _ _ _ _ _ $
      alloc_all ! (λ l. pass_all ! refl (((rawptr_Lawful 𝓛).typed null_ptr _ refl).0, tt) $
      sets ! (bin ! (get ! refl) (lit ! tt) (tests_null null_ptr (lit< tt))) refl (tt, tt) $ first ! $
      branches ! (get ! refl)
      (λ _. sets ! (of_opd ! (neg_lit ! tt)) refl (tt, record { fits = lit< tt }) $
      returns_within ! (W.post (y null_ptr)) refl (look_at ! 0 refl) $ free_all ! refl $
      owned ! i64 _ (sint_Makes 𝓛 w64) (negsuc 1) (nowhere ∷ []) (refl, lit< tt) $
      ends_told null_ptr nowhere (negsuc 1) refl)
      (λ wrong. absurd wrong))

  at_block : (b o : ℕ) → ent 𝓤 (⋆ 𝓛 (Had (block_ptr b o))) (Ran (block_ptr b o))
  at_block b o =
      let p = block_ptr b o in
      qed 𝓛 (Had p) ∵ fsplit ! $ flt_l ! (λ low. enter ! _ _ _ _ _ $
      alloc_all ! (λ l. pass_all ! refl ((tt, tt), tt) $
      sets ! (bin ! (get ! refl) (lit ! tt) (tests_null p low)) refl (tt, tt) $ first ! $
      branches ! (get ! refl) (λ wrong. absurd wrong) (λ _.
      skips ! $ exec ! 𝓣.C 𝓣.Λ (env code.Mir.locals l) code.Mir.t-3 (at_ret (env code.Mir.locals l) (W.post (y p))) $
      sets ! (of_opd ! (get ! refl)) refl (tt, tt) $
      sets ! (addr ! (through ! refl (stop !))) refl (tt, tt) $
      lft_new ! tt (λ α. let κ = α ∷ [] in move ! (1 ∷ []) $
      use1 𝓛
      (later
      (some (λ (γ : ℕ). ‵ ((MutRef (named 0) κ the_row).own_val (record { ref_ptr = (b, o); ghost_name = γ; now = x })
      (vptr b o ∷ [])) ⊛ ‵ (flent κ (Body (mem the_row) b o γ)))))
      (lends_ref 𝓛 the_row (named 0) κ x b o) $ await ! tt $ pick ! (λ γ. split ! $
      -- [the labeller, lent; what is had for it; its token]
      let G = triple_of 𝓛 of.signature (of.spec 𝓛 𝓜.mem 𝓡.returns) in
      let z : G.Ghost = (
        (
          (κ, tt),
          (full_share, tt),
          tt,
          (record { ref_ptr = (b, o); ghost_name = γ; now = x }, tt),
          (vptr b o ∷ [], tt),
        ),
        tt,
      ) in
      nothing ! $ move ! (1 ∷ 0 ∷ []) $ join ! $ nothing ! $ move ! (3 ∷ 0 ∷ []) $ join ! $ join ! $
      nothing ! $ move ! (1 ∷ 0 ∷ []) $ use2 𝓛 (raw (G.pre z)) (id⊢ 𝓤 _) $
      calls_at ! (framed 𝓤 𝓛.H 𝓜 𝓣) G (met 𝓤 𝓛 𝓜 𝓡 (code.calls-cip_c::labeller_slot::release 𝓡.env wired)) z
      (and_then ! (get ! refl) (no_more !)) (λ v.
      use1 𝓛 (later (some (λ (u : Unit {0}). ((‵ (flft κ full_share) ⊛ ‵ ftrue) ⊛ ‵ (unit.own_val u (v ∷ []))) ⊛
      some (λ (ends : Lasts of.ended z.0.0 z.0.3). ‵ (lasts of.ended z.0.0 z.0.3 ends) ⊛
      raw (fact 𝓤 (ends.0 ≡ None)))))) (id⊢ 𝓤 _) $
      await ! tt $ pick ! (λ u. split ! $ split ! $ split ! $ lft_end ! tt $ move ! (2 ∷ []) $ feq_l ! (λ is_unit.
      lands_as ! (ap only is_unit) refl (tt, tt) $
      move ! (2 ∷ []) $ pick ! (λ ends. split ! $ move ! (1 ∷ []) $ heard ! _ (λ gone. fsplit ! $ fsplit ! $
      rewrite ! 0 (λ (m : Option Settings). ‵ (fres γ (the_row.coded.code m))) gone refl $
      -- [the last value; its borrow; nothing; the ended lifetime; nothing; what is had for the labeller]
      move ! (3 ∷ 5 ∷ 0 ∷ []) $ use3 𝓛 (later (‵ (part_at the_row full_share None b o)))
      (ref_back 𝓛 the_row κ γ None b o) $ await ! tt $
      flt_i ! o (2 ^ 63) low $ fjoin ! $
      sets ! (of_opd ! (lit ! tt)) refl (tt, record { fits = lit< tt }) $
      returns ! (look_at ! 0 refl) $ free_all ! refl $ keep ! (0 ∷ []) $
      owned ! i64 _ (sint_Makes 𝓛 w64) (pos 0) (vint w64 0 ∷ []) (refl, lit< tt) $
      ends_told p (vint w64 0) (pos 0) refl))))))))))

  at_each : (p : Ptr) → ent 𝓤 (⋆ 𝓛 (Had p)) (Ran p)
  at_each null_ptr = at_null
  at_each (block_ptr b o) = at_block b o

pub cip_release_spec : {M : Type 1} → statement M
cip_release_spec 𝓤 𝓛 𝓜 𝓡 wired =
    proved 𝓛 f.ended stayed (f.clauses 𝓛 𝓜.mem 𝓡.returns) 𝓜 𝓡
    (Goes-dropped 𝓛 0 (plain (λ _. RawPtr)) yes (λ κs x w. refl), tt)
    f.Key.name code.function (code.unfolded 𝓤 𝓛.H 𝓜 𝓡 wired)
    (λ κs. (rawptr_vals, tt)) (λ κs. (rawptr_Tells, tt)) (λ κs qs bounds a held are.
    qed 𝓛 (raw (on_entry 𝓛 f.signature κs qs a (rawptr_vals a.0, tt)) ∷ ‵ (given the_row a.0 held) ∷ []) ∵ drop ! $
    by ! (at_each 𝓛 𝓜 𝓡 wired held a.0))
