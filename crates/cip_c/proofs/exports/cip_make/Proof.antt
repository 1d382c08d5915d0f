-- `cip_make` meets its contract: a walk of its MIR by hand. The room at the pointer is written, and lent for the
-- call.
use Rattle.std.proofs.Common.{◌≡◌, ℕ, ℤ, negsuc, ◌<◌, ◌^◌, ◌-◌, List, [], ◌∷◌, ◌++◌, refl, sym, subst, lit<, w32, w64}
use Rattle.std.specs.Prelude.{Option, None}
use Rattle.std.proofs.raw_atomic.Walks.{proved_at}
use Rattle.std.proofs.alloc.Calls.{Al, Fits, Goes-blank, handle_tells}
use seplogic.Ra.Ura.{Ura}
use mir.Syntax.{named}
use mir.Val.{Val, vint, vptr}
use base.Fraction.{full_share}
use base.Logic.{SProp, ent, emp, id⊢}
use base.Fml.{ftrue, flft, flent, fres}
use prog.Wp.{WpFn}
use prog.Wired.{Wired}
use prog.Model.{Model}
use types.Logic.{Logic}
use contract.Running.{Running, MachineTables, tables}
use contract.Monad.{fact, fact_i}
use types.Kit.{Item, ⋆, ‵, raw, ◌⊛◌, some, later, prop, at_ret, Sq, ◌$◌, ◌∵◌, !, qed, by, done, move, keep, drop, use0}
use types.Kit.{use1, use2, use3, split, join, fsplit, fjoin, flt_l, flt_i, pick, await, rewrite, suffices, group}
use types.Run.{enter, of_opd, lit, neg_lit, bin, addr, first, branches, skips, exec, init, stop, no_more, and_then}
use types.Run.{returns, returns_within}
use types.ByLocal.{alloc_all, pass_all, free_all, look_at, get, through, sets, lands_as, env}
use types.Run.{assigns}
use types.SemTy.{Body}
use types.Tokens.{lft_new, lft_end}
use borrow.Table.OneValue.{part_in}
use denote.Builtin.{u32, i64}
use denote.Exit.{yes}
use denote.RattleType.{owns}
use denote.Laws.{Is, shows}
use denote.Lend.{lends_ref, ref_back}
use denote.Memory.{part_at, mem}
use denote.Plain.{uint_Makes}
use denote.Ref.{MutRef}
use denote.Signed.{sint_Makes, sint_Lawful}
use denote.RawPtr.{Ptr, RawPtr, block_ptr, null_ptr, rawptr_Lawful, ptr_val, tests_null}
use denote.Signature.{plain, types_at}
use denote.Steps.{nothing, owned, heard, peeks}
use denote.Triple.Call.{calls_at}
use denote.Triple.Clauses.{Clauses, Lasts, lasts}
use denote.Triple.Spec.{triple_of}
use denote.Triple.Statement.{Contract}
use denote.Triple.Table.{framed}
use denote.Triple.Walked.{Stays, walk_of, stay_dropped, Goes-dropped, ends_at}
use Rattle.std.specs.contracts.alloc.Global as heap
use Rattle.std.proofs.alloc.Global.TheLaws as heap_laws
use Rattle.std.specs.contracts.impls.GlobalAllocator.TheImpl.{ghosts, dict}
use Rattle.cip_c.specs.Making.{IsMade, made, settings_of}
use Rattle.cip_c.specs.declared.settings.Settings.{Settings}
use Rattle.cip_c.specs.Pointers.{given, given_room, unless_null}
use Rattle.cip_c.specs.contracts.labeller_slot.Slot.{the_row}
use Rattle.cip_c.proofs.labeller_slot.Slot.TheLaws.{the_row_laws}
use Rattle.cip_c.specs.contracts.exports.cip_make as f
use Rattle.cip_c.specs.contracts.labeller_slot.Slot.empty as none
use Rattle.cip_c.proofs.labeller_slot.Slot.empty.Met as none-thm
use Rattle.cip_c.specs.contracts.labeller_slot.make as of
use Rattle.cip_c.proofs.labeller_slot.make.Met.{met}
use Rattle.cip_c.proofs.exports.cip_make.Statement.{statement}
use Rattle.cip_c.proofs.exports.cip_make.Code as code

abbrev stayed : Stays f.ended.signature.params f.ended.kept
stayed = (stay_dropped _ yes, (stay_dropped _ yes, (stay_dropped _ yes, (stay_dropped _ yes, tt))))

abbrev E : Al
E = record { row = heap.the_row; laws = heap_laws.the_row_laws; g = ghosts; d = dict; drops = dict }

module _ {M : Type 1} {𝓤 : Ura M} (𝓛 : Logic 𝓤) (𝓜 : Model 𝓤 𝓛.H) (𝓡 : Running 𝓤 𝓛.H 𝓜) (wired : Wired 𝓡.env code.code)
    (al : heap.the_row.Denot) (n k : ℕ) (small : n < 2 ^ 32) (dated : k < 2 ^ 32) (h : Val) (fits : Fits E h)
    (us vs ws zs : List Val) where
  abbrev c : Clauses 𝓤 f.ended
  c = f.clauses 𝓛 𝓜.mem 𝓡.returns

  abbrev W : Contract 𝓤
  W = walk_of 𝓛 f.ended stayed c

  abbrev 𝓣 : MachineTables 𝓤 𝓛.H 𝓜
  𝓣 = tables 𝓤 𝓛.H 𝓜 𝓡 𝓡.env

  abbrev y : Ptr → W.Ghost
  y p = ((tt, tt, tt, (al, (p, (n, (k, tt)))), (us, (vs, (ws, (zs, tt))))), tt)

  abbrev Ran : Ptr → SProp 𝓤
  Ran p = WpFn 𝓤 𝓛.H 𝓣.C 𝓣.Λ code.function (h ∷ ptr_val p ∷ vint w32 n ∷ vint w32 k ∷ []) (W.post (y p))

  abbrev Had : Ptr → List (Item 𝓤)
  Had p = ‵ (E.row.own_val al (h ∷ [])) ∷ ‵ (given_room the_row p) ∷ []

  abbrev Yields : Ptr → ℤ → Type 0
  Yields p u = unless_null p (IsMade (settings_of n k) u) u

  abbrev nowhere : Val
  nowhere = vint w64 (2 ^ 64 - 2)

  -- the end: what is at the pointer, and what is returned
  ends_told : (p : Ptr) (v : Val) (u : ℤ) → Yields p u → Sq 𝓛 (‵ (i64.own_val u (v ∷ [])) ∷
      ‵ (given the_row p (made u (settings_of n k))) ∷ []) (prop (W.post (y p) v))
  ends_told p v u e =
      suffices ! _ (ends_at 𝓛 f.ended stayed c (y p) v u (tt, (tt, (tt, (tt, tt)))) (tt, (tt, (tt, (tt, tt))))) $
      use0 𝓛 (raw (fact 𝓤 (Yields p u))) (fact_i 𝓤 (Yields p u) (emp 𝓤) e) $ move ! (1 ∷ 2 ∷ 0 ∷ []) $
      nothing ! $ nothing ! $ join ! $ nothing ! $ join ! $ nothing ! $ join ! $ nothing ! $ join ! $ nothing ! $
      group ! 3 $ done !

  at_null : ent 𝓤 (⋆ 𝓛 (Had null_ptr)) (Ran null_ptr)
  at_null =
      qed 𝓛 (Had null_ptr) ∵ drop ! $ enter ! _ _ _ _ _ $
      alloc_all ! (λ l. pass_all ! refl (
        fits,
        (
          ((rawptr_Lawful 𝓛).typed null_ptr _ refl).0,
          ((tt, record { fits = small }), ((tt, record { fits = dated }), tt)),
        ),
      ) $
      sets ! (bin ! (get ! refl) (lit ! tt) (tests_null null_ptr (lit< tt))) refl (tt, tt) $ first ! $
      branches ! (get ! refl)
      (λ _. sets ! (of_opd ! (neg_lit ! tt)) refl (tt, record { fits = lit< tt }) $
      returns_within ! (W.post (y null_ptr)) refl (look_at ! 0 refl) $ free_all ! refl $
      owned ! i64 _ (sint_Makes 𝓛 w64) (negsuc 1) (nowhere ∷ []) (refl, lit< tt) $
      ends_told null_ptr nowhere (negsuc 1) refl)
      (λ wrong. absurd wrong))

  at_block : (b o : ℕ) → ent 𝓤 (⋆ 𝓛 (Had (block_ptr b o))) (Ran (block_ptr b o))
  at_block b o =
      let p = block_ptr b o in
      qed 𝓛 (Had p) ∵ move ! (1 ∷ []) $ fsplit ! $ flt_l ! (λ low. enter ! _ _ _ _ _ $
      alloc_all ! (λ l.
      pass_all ! refl (fits, ((tt, tt), ((tt, record { fits = small }), ((tt, record { fits = dated }), tt)))) $
      sets ! (bin ! (get ! refl) (lit ! tt) (tests_null p low)) refl (tt, tt) $ first ! $
      branches ! (get ! refl) (λ wrong. absurd wrong) (λ _.
      skips ! $ exec ! 𝓣.C 𝓣.Λ (env code.Mir.locals l) code.Mir.t-3 (at_ret (env code.Mir.locals l) (W.post (y p))) $
      sets ! (of_opd ! (get ! refl)) refl (tt, tt) $
      -- [the room; what the allocator owns]
      let N = triple_of 𝓛 none.signature (none.spec 𝓛 𝓜.mem 𝓡.returns) in
      let y₀ : N.Ghost = ((tt, tt, tt, tt, tt), tt) in
      nothing ! $ nothing ! $ join ! $ nothing ! $ move ! (1 ∷ 0 ∷ []) $ use2 𝓛 (raw (N.pre y₀)) (id⊢ 𝓤 _) $
      calls_at ! (framed 𝓤 𝓛.H 𝓜 𝓣) N (none-thm.met 𝓤 𝓛 𝓜 𝓡 (code.calls-cip_c::labeller_slot::Slot::empty 𝓡.env wired)) y₀
      (no_more !) (λ v.
      use1 𝓛 (later (some (λ (s : Option Settings). (‵ ftrue ⊛ ‵ (the_row.own_val s (v ∷ []))) ⊛
      some (λ (ls : Lasts none.ended tt tt). ‵ (lasts none.ended tt tt ls) ⊛ raw (fact 𝓤 (s ≡ None)))))) (id⊢ 𝓤 _) $
      await ! tt $ pick ! (λ s. split ! $ move ! (1 ∷ []) $ pick ! (λ ls. split ! $ drop ! $
      heard ! (s ≡ None) (λ _. split ! $ drop ! $
      peeks ! the_row (Is the_row) (shows 𝓛 the_row) s (v ∷ [])
      (λ is. let typed = ((the_row_laws.lawful 𝓛).typed s (v ∷ []) is).0 in
      lands_as ! refl refl typed $
      assigns ! (of_opd ! (get ! refl)) (through ! refl (stop !)) (init ! 1 refl typed) $
      move ! (1 ∷ 0 ∷ []) $ use2 𝓛 (‵ (part_at the_row full_share s b o)) (part_in 𝓛 the_row refl full_share s b o v) $
      sets ! (addr ! (through ! refl (stop !))) refl (tt, tt) $
      lft_new ! tt (λ α. let κ = α ∷ [] in move ! (1 ∷ []) $
      use1 𝓛
      (later
      (some (λ (γ : ℕ). ‵ ((MutRef (named 0) κ the_row).own_val (record { ref_ptr = (b, o); ghost_name = γ; now = s })
      (vptr b o ∷ [])) ⊛ ‵ (flent κ (Body (mem the_row) b o γ)))))
      (lends_ref 𝓛 the_row (named 0) κ s b o) $ await ! tt $ pick ! (λ γ. split ! $
      -- [the labeller, lent; what is had for it; its token; what the allocator owns]
      let G = triple_of 𝓛 of.signature (of.spec 𝓛 𝓜.mem 𝓡.returns) in
      let z : G.Ghost = (
        (
          (κ, tt),
          (full_share, tt),
          tt,
          (
            al,
            (
              record { ref_ptr = (b, o); ghost_name = γ; now = s },
              (n, (k, tt)),
            ),
          ),
          (h ∷ [], (vptr b o ∷ [], (vint w32 n ∷ [], (vint w32 k ∷ [], tt)))),
        ),
        tt,
      ) in
      nothing ! $ owned ! u32 _ (uint_Makes 𝓛 w32) k _ (refl, dated) $ join ! $
      owned ! u32 _ (uint_Makes 𝓛 w32) n _ (refl, small) $ join ! $ move ! (1 ∷ 0 ∷ []) $ join ! $ move ! (3 ∷ 0 ∷ []) $
      join ! $
      nothing ! $ move ! (3 ∷ 0 ∷ []) $ join ! $ join ! $ nothing ! $ move ! (1 ∷ 0 ∷ []) $
      use2 𝓛 (raw (G.pre z)) (id⊢ 𝓤 _) $
      calls_at ! (framed 𝓤 𝓛.H 𝓜 𝓣) G (met 𝓤 𝓛 𝓜 𝓡 (code.calls-cip_c::labeller_slot::make 𝓡.env wired)) z
      (and_then ! (get ! refl) (and_then ! (get ! refl) (and_then ! (get ! refl)
      (and_then ! (get ! refl) (no_more !))))) (λ v'.
      use1 𝓛 (later (some (λ (u : ℤ). ((‵ (flft κ full_share) ⊛ ‵ ftrue) ⊛ ‵ (i64.own_val u (v' ∷ []))) ⊛
      some (λ (ends : Lasts of.ended z.0.0 z.0.3). ‵ (lasts of.ended z.0.0 z.0.3 ends) ⊛
      (raw (fact 𝓤 (IsMade (settings_of n k) u)) ⊛ raw (fact 𝓤 (ends.1.0 ≡ made u (settings_of n k)))))))) (id⊢ 𝓤 _) $
      await ! tt $ pick ! (λ u. split ! $ move ! (1 ∷ []) $ pick ! (λ ends. split ! $ move ! (1 ∷ []) $ split ! $
      heard ! _ (λ output. heard ! _ (λ done_so.
      -- [the last values; the token with the result; what is had for the labeller]
      fsplit ! $ drop ! $ fsplit ! $ fsplit ! $ rewrite ! 0 (λ (x : Option Settings). ‵ (fres γ (the_row.coded.code x)))
      done_so refl $
      move ! (3 ∷ 0 ∷ 4 ∷ []) $ split ! $ split ! $ lft_end ! tt $ move ! (0 ∷ 4 ∷ 3 ∷ []) $
      use3 𝓛 (later (‵ (part_at the_row full_share (made u (settings_of n k)) b o)))
      (ref_back 𝓛 the_row κ γ (made u (settings_of n k)) b o) $ await ! tt $
      flt_i ! o (2 ^ 63) low $ fjoin ! $ move ! (2 ∷ 0 ∷ []) $
      peeks ! i64 (Is i64) (shows 𝓛 i64) u (v' ∷ []) (λ is'.
      lands_as ! refl refl ((sint_Lawful 𝓛 w64).typed u _ is').0 $
      returns ! (look_at ! 0 refl) $ free_all ! refl $ keep ! (0 ∷ 1 ∷ []) $ ends_told p v' u output))))))))))))))))

  at_each : (p : Ptr) → ent 𝓤 (⋆ 𝓛 (Had p)) (Ran p)
  at_each null_ptr = at_null
  at_each (block_ptr b o) = at_block b o

pub cip_make_spec : {M : Type 1} → statement M
cip_make_spec 𝓤 𝓛 𝓜 𝓡 wired =
    let c = f.clauses 𝓛 𝓜.mem 𝓡.returns in let W = walk_of 𝓛 f.ended stayed c in let 𝓣 = tables 𝓤 𝓛.H 𝓜 𝓡 𝓡.env in
    let year = Goes-dropped 𝓛 0 (plain (λ _. u32)) yes (λ κs x w. refl) in
    proved_at 𝓛 f.ended stayed c 𝓜 𝓡 (
      Goes-blank 𝓛 0 (plain (λ _. heap.the_row)) yes (λ κs x w. tt),
      (Goes-dropped 𝓛 0 (plain (λ _. RawPtr)) yes (λ κs x w. refl), (year, (year, tt))),
    )
    f.Key.name code.function (code.unfolded 𝓤 𝓛.H 𝓜 𝓡 wired)
    (λ z are. let p = z.0.3.1.0 in let n = z.0.3.1.1.0 in let k = z.0.3.1.1.1.0 in
    qed 𝓛 ((‵ ftrue ⊛ ‵ (owns (types_at f.ended.signature.params tt) z.0.3 z.0.4)) ∷ ‵ (given_room the_row p) ∷
    []) ∵ split ! $ drop ! $ fsplit ! $ move ! (1 ∷ []) $ drop ! $
    handle_tells E ! z.0.3.0 z.0.4.0 (λ h eh fits.
    let Run : List Val → SProp 𝓤 = λ us. WpFn 𝓤 𝓛.H 𝓣.C 𝓣.Λ code.function us (W.post z) in
    let passed = h ∷ ptr_val p ∷ vint w32 n ∷ vint w32 k ∷ [] in
    suffices ! (Run passed) (subst (λ (us : List Val). ent 𝓤 (Run passed) (Run us))
    (sym (λ i. eh i ++ (are.1.0 i ++ (are.1.1.0.0 i ++ (are.1.1.1.0.0 i ++ []))))) (id⊢ 𝓤 (Run passed))) $
    by ! (at_each 𝓛 𝓜 𝓡 wired z.0.3.0 n k are.1.1.0.1 are.1.1.1.0.1 h fits z.0.4.0 z.0.4.1.0 z.0.4.1.1.0 z.0.4.1.1.1.0
    p)))
