-- `write_at` meets its contract: a walk of its MIR by hand. What is at the pointers is lent for the call.
use Rattle.std.proofs.Common.{◌≡◌, ℕ, ℤ, negsuc, ◌<◌, ◌^◌, ◌-◌, List, [], ◌∷◌, refl, lit<, w64}
use Rattle.std.specs.Prelude.{Option, Result}
use Rattle.std.proofs.raw_atomic.Walks.{proved}
use seplogic.Ra.Ura.{Ura}
use mir.Val.{Val, vint, vptr}
use base.Fraction.{full_share}
use base.Logic.{SProp, ent, emp, id⊢}
use base.Fml.{ftrue, flft, fres}
use prog.Wp.{WpFn}
use prog.Wired.{Wired}
use prog.Model.{Model}
use types.Logic.{Logic}
use contract.Running.{Running, MachineTables, tables}
use contract.Monad.{fact, fact_i}
use types.Kit.{Item, ⋆, ‵, raw, ◌⊛◌, some, later, prop, at_ret, Sq, ◌$◌, ◌∵◌, !, qed, by, done, move, keep, drop, use0}
use types.Kit.{use1, use2, split, join, fsplit, fjoin, flt_l, flt_i, pick, await, rewrite, suffices, group}
use types.Run.{enter, of_opd, lit, neg_lit, bin, addr, first, branches, skips, exec, stop, no_more, and_then, returns}
use types.Run.{returns_within}
use types.ByLocal.{alloc_all, pass_all, free_all, look_at, get, through, sets, lands_as, env}
use types.Part.{agg}
use denote.Builtin.{usize, i64}
use denote.Exit.{yes}
use denote.Laws.{Is, shows}
use denote.Enum.Laws.{lawful, makes}
use denote.Plain.{uint_vals, uint_Tells}
use denote.Signed.{sint_Makes, sint_Lawful}
use denote.RawPtr.{Ptr, RawPtr, block_ptr, null_ptr, rawptr_vals, rawptr_Tells, rawptr_Lawful, ptr_val, tests_null}
use denote.Signature.{plain}
use denote.Steps.{nothing, owned, heard, peeks}
use denote.Slice.{slice_val}
use denote.Triple.Call.{calls_at}
use denote.Triple.Clauses.{Clauses, Lasts, lasts}
use denote.Triple.Spec.{triple_of}
use denote.Triple.Table.{framed}
use denote.Triple.Statement.{Contract}
use denote.Triple.Entry.{on_entry}
use denote.Triple.Walked.{Stays, walk_of, stay_dropped, Goes-dropped, ends_at}
use Rattle.cip_c.specs.Texts.{text_of}
use Rattle.cip_c.specs.Writing.{IsTold, due, written}
use Rattle.cip_c.specs.Pointers.{Passed, given, given_bytes, unless_null}
use Rattle.cip_c.specs.declared.settings.Settings.{Settings}
use Rattle.cip_c.specs.contracts.labeller_slot.Slot.{the_row}
use Rattle.cip_c.specs.contracts.text_kinds.Text.{the_type, the_row as text_row}
use Rattle.cip_c.specs.declared.text_kinds.Text.{Text}
use Rattle.cip_c.specs.contracts.exports.write_at as f
use Rattle.cip_c.specs.contracts.copy_out.write as of
use Rattle.cip_c.proofs.copy_out.write.Met.{met}
use Rattle.cip_c.proofs.lemmas.Lending.{Places, tells, lends, comes_back}
use Rattle.cip_c.proofs.text_kinds.Text.TheLaws.{lowered, lowers, the_laws, the_plain}
use Rattle.cip_c.proofs.exports.write_at.Statement.{statement}
use Rattle.cip_c.proofs.exports.write_at.Code as code

abbrev stayed : Stays f.ended.signature.params f.ended.kept
stayed = (
  stay_dropped _ yes,
  (
    stay_dropped _ yes,
    (
      stay_dropped _ yes,
      (stay_dropped _ yes, (stay_dropped _ yes, (stay_dropped _ yes, tt))),
    ),
  ),
)

module _ {M : Type 1} {𝓤 : Ura M} (𝓛 : Logic 𝓤) (𝓜 : Model 𝓤 𝓛.H) (𝓡 : Running 𝓤 𝓛.H 𝓜) (wired : Wired 𝓡.env code.code)
    (g : Passed (Option Settings)) (k : Text) (n m : ℕ) (fits : Is text_row k (lowered k ∷ [])) (counted : n < 2 ^ 64)
    (roomy : m < 2 ^ 64) where
  abbrev expected : Result (List ℕ) ℤ
  expected = due (text_of k) g.labeller g.bytes

  abbrev c : Clauses 𝓤 f.ended
  c = f.clauses 𝓛 𝓜.mem 𝓡.returns

  abbrev W : Contract 𝓤
  W = walk_of 𝓛 f.ended stayed c

  abbrev 𝓣 : MachineTables 𝓤 𝓛.H 𝓜
  𝓣 = tables 𝓤 𝓛.H 𝓜 𝓡 𝓡.env

  abbrev y : Ptr → Ptr → Ptr → W.Ghost
  y p r t = (
    (
      tt,
      tt,
      tt,
      (p, (k, (r, (n, (t, (m, tt)))))),
      (
        rawptr_vals p,
        (lowered k ∷ [], (rawptr_vals r, (uint_vals w64 n, (rawptr_vals t, (uint_vals w64 m, tt))))),
      ),
    ),
    g,
  )

  abbrev Ran : Ptr → Ptr → Ptr → SProp 𝓤
  Ran p r t = WpFn 𝓤 𝓛.H 𝓣.C 𝓣.Λ code.function (ptr_val p ∷ lowered k ∷ ptr_val r ∷ vint w64 n ∷ ptr_val t ∷
      vint w64 m ∷ []) (W.post (y p r t))

  abbrev Had : Ptr → Ptr → Ptr → List (Item 𝓤)
  Had p r t = ‵ (given the_row p g.labeller) ∷ ‵ (given_bytes n r g.bytes) ∷ ‵ (given_bytes m t g.text) ∷ []

  abbrev nowhere : Val
  nowhere = vint w64 (2 ^ 64 - 2)

  abbrev Left : Ptr → Ptr → Ptr → ℤ → List (Item 𝓤)
  Left p r t u = ‵ (given the_row p g.labeller) ∷ ‵ (given_bytes n r g.bytes) ∷
      ‵ (given_bytes m t (written u expected g.text)) ∷ []

  abbrev Yields : Ptr → Ptr → Ptr → ℤ → Type 0
  Yields p r t u = unless_null p (unless_null r (unless_null t (IsTold expected u) u) u) u

  -- the end: what is at the pointers, and what is returned
  ends_told : (p r t : Ptr) (v : Val) (u : ℤ) → Yields p r t u →
      Sq 𝓛 (‵ (i64.own_val u (v ∷ [])) ∷ Left p r t u) (prop (W.post (y p r t) v))
  ends_told p r t v u e =
      suffices ! _ (ends_at 𝓛 f.ended stayed c (y p r t) v u (tt, (tt, (tt, (tt, (tt, (tt, tt))))))
      (tt, (tt, (tt, (tt, (tt, (tt, tt))))))) $
      use0 𝓛 (raw (fact 𝓤 (Yields p r t u))) (fact_i 𝓤 (Yields p r t u) (emp 𝓤) e) $ move ! (1 ∷ 2 ∷ 3 ∷ 4 ∷ 0 ∷ []) $
      nothing ! $ nothing ! $ join ! $ nothing ! $ join ! $ nothing ! $ join ! $ nothing ! $ join ! $ nothing ! $
      join ! $ nothing ! $ join ! $ nothing ! $ group ! 3 $ done !

  -- the same at a null pointer: nothing has changed
  ends_null : (p r t : Ptr) → Yields p r t (negsuc 1) → Sq 𝓛 (Had p r t) (prop (W.post (y p r t) nowhere))
  ends_null p r t e = owned ! i64 _ (sint_Makes 𝓛 w64) (negsuc 1) (nowhere ∷ []) (refl, lit< tt) $
      ends_told p r t nowhere (negsuc 1) e

  at_null : (r t : Ptr) → ent 𝓤 (⋆ 𝓛 (Had null_ptr r t)) (Ran null_ptr r t)
  at_null r t =
      qed 𝓛 (Had null_ptr r t) ∵ enter ! _ _ _ _ _ $
      alloc_all ! (λ l. pass_all ! refl (
        ((rawptr_Lawful 𝓛).typed null_ptr _ refl).0,
        (
          ((lawful the_type the_laws 𝓛 tt).typed k _ fits).0,
          (
            ((rawptr_Lawful 𝓛).typed r _ refl).0,
            (
              (tt, record { fits = counted }),
              (
                ((rawptr_Lawful 𝓛).typed t _ refl).0,
                ((tt, record { fits = roomy }), tt),
              ),
            ),
          ),
        ),
      ) $
      sets ! (bin ! (get ! refl) (lit ! tt) (tests_null null_ptr (lit< tt))) refl (tt, tt) $ first ! $
      branches ! (get ! refl)
      (λ _. sets ! (of_opd ! (neg_lit ! tt)) refl (tt, record { fits = lit< tt }) $
      returns_within ! (W.post (y null_ptr r t)) refl (look_at ! 0 refl) $ free_all ! refl $
      ends_null null_ptr r t refl)
      (λ wrong. absurd wrong))

  at_null_bytes : (b o : ℕ) (t : Ptr) → ent 𝓤 (⋆ 𝓛 (Had (block_ptr b o) null_ptr t)) (Ran (block_ptr b o) null_ptr t)
  at_null_bytes b o t =
      qed 𝓛 (Had (block_ptr b o) null_ptr t) ∵ fsplit ! $ flt_l ! (λ low. flt_i ! o (2 ^ 63) low $ fjoin ! $
      enter ! _ _ _ _ _ $
      alloc_all ! (λ l. pass_all ! refl (
        (tt, tt),
        (
          ((lawful the_type the_laws 𝓛 tt).typed k _ fits).0,
          (
            ((rawptr_Lawful 𝓛).typed null_ptr _ refl).0,
            (
              (tt, record { fits = counted }),
              (((rawptr_Lawful 𝓛).typed t _ refl).0, ((tt, record { fits = roomy }), tt)),
            ),
          ),
        ),
      ) $
      sets ! (bin ! (get ! refl) (lit ! tt) (tests_null (block_ptr b o) low)) refl (tt, tt) $ first ! $
      branches ! (get ! refl) (λ wrong. absurd wrong) (λ _.
      skips ! $ exec ! 𝓣.C 𝓣.Λ (env code.Mir.locals l) code.Mir.t-3
      (at_ret (env code.Mir.locals l) (W.post (y (block_ptr b o) null_ptr t))) $
      sets ! (bin ! (get ! refl) (lit ! tt) (tests_null null_ptr (lit< tt))) refl (tt, tt) $ first ! $
      branches ! (get ! refl)
      (λ _. sets ! (of_opd ! (neg_lit ! tt)) refl (tt, record { fits = lit< tt }) $
      returns_within ! (W.post (y (block_ptr b o) null_ptr t)) refl (look_at ! 0 refl) $ free_all ! refl $
      ends_null (block_ptr b o) null_ptr t refl)
      (λ wrong. absurd wrong))))

  at_null_text : (b o b' o' : ℕ) → ent 𝓤 (⋆ 𝓛 (Had (block_ptr b o) (block_ptr b' o') null_ptr))
      (Ran (block_ptr b o) (block_ptr b' o') null_ptr)
  at_null_text b o b' o' =
      let p = block_ptr b o in let r = block_ptr b' o' in
      qed 𝓛 (Had p r null_ptr) ∵ fsplit ! $ flt_l ! (λ low. flt_i ! o (2 ^ 63) low $ fjoin ! $
      move ! (1 ∷ []) $ fsplit ! $ fsplit ! $ flt_l ! (λ low'. flt_i ! o' (2 ^ 63) low' $ fjoin ! $ fjoin ! $
      move ! (1 ∷ []) $ enter ! _ _ _ _ _ $
      alloc_all ! (λ l. pass_all ! refl (
        (tt, tt),
        (
          ((lawful the_type the_laws 𝓛 tt).typed k _ fits).0,
          (
            (tt, tt),
            (
              (tt, record { fits = counted }),
              (
                ((rawptr_Lawful 𝓛).typed null_ptr _ refl).0,
                ((tt, record { fits = roomy }), tt),
              ),
            ),
          ),
        ),
      ) $
      sets ! (bin ! (get ! refl) (lit ! tt) (tests_null p low)) refl (tt, tt) $ first ! $
      branches ! (get ! refl) (λ wrong. absurd wrong) (λ _.
      skips ! $ exec ! 𝓣.C 𝓣.Λ (env code.Mir.locals l) code.Mir.t-3
      (at_ret (env code.Mir.locals l) (W.post (y p r null_ptr))) $
      sets ! (bin ! (get ! refl) (lit ! tt) (tests_null r low')) refl (tt, tt) $ first ! $
      branches ! (get ! refl) (λ wrong. absurd wrong) (λ _.
      skips ! $ exec ! 𝓣.C 𝓣.Λ (env code.Mir.locals l) code.Mir.t-5
      (at_ret (env code.Mir.locals l) (W.post (y p r null_ptr))) $
      sets ! (bin ! (get ! refl) (lit ! tt) (tests_null null_ptr (lit< tt))) refl (tt, tt) $ first ! $
      branches ! (get ! refl)
      (λ _. sets ! (of_opd ! (neg_lit ! tt)) refl (tt, record { fits = lit< tt }) $
      returns_within ! (W.post (y p r null_ptr)) refl (look_at ! 0 refl) $ free_all ! refl $
      ends_null p r null_ptr refl)
      (λ wrong. absurd wrong))))))

  at_blocks : (b o b' o' b'' o'' : ℕ) → ent 𝓤 (⋆ 𝓛 (Had (block_ptr b o) (block_ptr b' o') (block_ptr b'' o'')))
      (Ran (block_ptr b o) (block_ptr b' o') (block_ptr b'' o''))
  at_blocks b o b' o' b'' o'' =
      let p = block_ptr b o in let r = block_ptr b' o' in let t = block_ptr b'' o'' in let x = g.labeller in
      let xs = g.bytes in let old = g.text in
      let at : Places = record { b = b; o = o; b' = b'; o' = o'; b'' = b''; o'' = o''; n = n; m = m } in
      qed 𝓛 (Had p r t) ∵ tells at x xs ! old (λ low. enter ! _ _ _ _ _ $
      alloc_all ! (λ l. pass_all ! refl (
        (tt, tt),
        (
          ((lawful the_type the_laws 𝓛 tt).typed k _ fits).0,
          ((tt, tt), ((tt, record { fits = counted }), ((tt, tt), ((tt, record { fits = roomy }), tt)))),
        ),
      ) $
      sets ! (bin ! (get ! refl) (lit ! tt) (tests_null p low.labeller)) refl (tt, tt) $ first ! $
      branches ! (get ! refl) (λ wrong. absurd wrong) (λ _.
      skips ! $ exec ! 𝓣.C 𝓣.Λ (env code.Mir.locals l) code.Mir.t-3
      (at_ret (env code.Mir.locals l) (W.post (y p r t))) $
      sets ! (bin ! (get ! refl) (lit ! tt) (tests_null r low.bytes)) refl (tt, tt) $ first ! $
      branches ! (get ! refl) (λ wrong. absurd wrong) (λ _.
      skips ! $ exec ! 𝓣.C 𝓣.Λ (env code.Mir.locals l) code.Mir.t-5
      (at_ret (env code.Mir.locals l) (W.post (y p r t))) $
      sets ! (bin ! (get ! refl) (lit ! tt) (tests_null t low.text)) refl (tt, tt) $ first ! $
      branches ! (get ! refl) (λ wrong. absurd wrong) (λ _.
      skips ! $ exec ! 𝓣.C 𝓣.Λ (env code.Mir.locals l) code.Mir.t-7
      (at_ret (env code.Mir.locals l) (W.post (y p r t))) $
      sets ! (of_opd ! (get ! refl)) refl (tt, tt) $
      sets ! (addr ! (through ! refl (stop !))) refl (tt, tt) $
      sets ! (agg ! (and_then ! (get ! refl) (and_then ! (get ! refl) (no_more !)))) refl
      (tt, (tt, (record { fits = counted }, tt))) $
      sets ! (agg ! (and_then ! (get ! refl) (and_then ! (get ! refl) (no_more !)))) refl
      (tt, (tt, (record { fits = roomy }, tt))) $
      lends at x xs ! tt old low (λ long wide k'.
      let κ = k'.α ∷ [] in let λ' = k'.β ∷ [] in let μ = k'.δ ∷ [] in
      -- [what is lent: the labeller, the record, the text; their tokens; what is had for the text, the record, the
      -- labeller]
      let G = triple_of 𝓛 of.signature (of.spec 𝓛 𝓜.mem 𝓡.returns) in
      let z : G.Ghost = (
        (
          (κ, (λ', (μ, tt))),
          (full_share, (full_share, (full_share, tt))),
          tt,
          (
            record { ref_ptr = (b, o); ghost_name = k'.γ; now = x },
            (
              k,
              (
                record { ref_ptr = (b', o'); now = xs },
                (
                  record { ref_ptr = (b'', o''); ghost_name = k'.ν; now = old },
                  tt,
                ),
              ),
            ),
          ),
          (vptr b o ∷ [], (lowered k ∷ [], (slice_val (b', o') n ∷ [], (slice_val (b'', o'') m ∷ [], tt)))),
        ),
        tt,
      ) in
      nothing ! $ move ! (3 ∷ 0 ∷ []) $ join ! $ move ! (2 ∷ 0 ∷ []) $ join ! $
      owned ! text_row _ (makes the_type the_plain 𝓛) k _ fits $ join ! $ move ! (1 ∷ 0 ∷ []) $ join ! $
      nothing ! $ move ! (4 ∷ 0 ∷ []) $ join ! $ move ! (3 ∷ 0 ∷ []) $ join ! $ move ! (2 ∷ 0 ∷ []) $ join ! $ join ! $
      nothing ! $ move ! (1 ∷ 0 ∷ []) $ use2 𝓛 (raw (G.pre z)) (id⊢ 𝓤 _) $
      calls_at ! (framed 𝓤 𝓛.H 𝓜 𝓣) G (met 𝓤 𝓛 𝓜 𝓡 (code.calls-cip_c::copy_out::write 𝓡.env wired)) z
      (and_then ! (get ! refl) (and_then ! (get ! refl) (and_then ! (get ! refl)
      (and_then ! (get ! refl) (no_more !))))) (λ v.
      use1 𝓛
      (later (some (λ (u : ℤ). ((‵ (flft κ full_share) ⊛ (‵ (flft λ' full_share) ⊛ (‵ (flft μ full_share) ⊛ ‵ ftrue))) ⊛
      ‵ (i64.own_val u (v ∷ []))) ⊛
      some (λ (ws : Lasts of.ended z.0.0 z.0.3). ‵ (lasts of.ended z.0.0 z.0.3 ws) ⊛
      (raw (fact 𝓤 (ws.0 ≡ x)) ⊛ (raw (fact 𝓤 (IsTold expected u)) ⊛
      raw (fact 𝓤 (ws.1.1.1.0 ≡ written u expected old)))))))) (id⊢ 𝓤 _) $
      await ! tt $ pick ! (λ u. split ! $ move ! (1 ∷ []) $ pick ! (λ ws. split ! $ move ! (1 ∷ []) $ split ! $
      heard ! _ (λ kept. split ! $ heard ! _ (λ output. heard ! _ (λ new.
      -- [the last values; the tokens with the result; what is had for the text, the record, the labeller]
      let now : List ℕ = ws.1.1.1.0 in
      fsplit ! $ fsplit ! $ rewrite ! 0 (λ (h : the_row.Denot). ‵ (fres k'.γ (the_row.coded.code h))) kept refl $
      move ! (2 ∷ []) $ fsplit ! $ drop ! $ fsplit ! $ drop ! $ fsplit ! $ fsplit ! $ fsplit ! $
      move ! (6 ∷ 4 ∷ 0 ∷ 7 ∷ 8 ∷ 9 ∷ []) $
      -- [the tokens with the result; the last values of the labeller and the text; what is had for the text, the
      -- record, the labeller]
      split ! $ split ! $ move ! (1 ∷ []) $ split ! $ move ! (1 ∷ []) $ split ! $
      move ! (3 ∷ 2 ∷ 0 ∷ 5 ∷ 6 ∷ 7 ∷ 8 ∷ 9 ∷ []) $
      comes_back at x xs ! tt old now (written u expected old) new low long wide k' (move ! (4 ∷ []) $
      peeks ! i64 (Is i64) (shows 𝓛 i64) u (v ∷ []) (λ is. lands_as ! refl refl ((sint_Lawful 𝓛 w64).typed u _ is).0 $
      returns ! (look_at ! 0 refl) $ free_all ! refl $ keep ! (0 ∷ 1 ∷ 2 ∷ 3 ∷ []) $
      ends_told p r t v u output))))))))))))))

  at_each : (p r t : Ptr) → ent 𝓤 (⋆ 𝓛 (Had p r t)) (Ran p r t)
  at_each null_ptr r t = at_null r t
  at_each (block_ptr b o) null_ptr t = at_null_bytes b o t
  at_each (block_ptr b o) (block_ptr b' o') null_ptr = at_null_text b o b' o'
  at_each (block_ptr b o) (block_ptr b' o') (block_ptr b'' o'') = at_blocks b o b' o' b'' o''

pub write_at_spec : {M : Type 1} → statement M
write_at_spec 𝓤 𝓛 𝓜 𝓡 wired =
    let c = f.clauses 𝓛 𝓜.mem 𝓡.returns in
    let at = Goes-dropped 𝓛 0 (plain (λ _. RawPtr)) yes (λ κs x w. refl) in
    let requested = Goes-dropped 𝓛 0 (plain (λ _. text_row)) yes (λ κs x w. refl) in
    let count = Goes-dropped 𝓛 0 (plain (λ _. usize)) yes (λ κs x w. refl) in
    proved 𝓛 f.ended stayed c 𝓜 𝓡 (at, (requested, (at, (count, (at, (count, tt))))))
    f.Key.name code.function (code.unfolded 𝓤 𝓛.H 𝓜 𝓡 wired)
    (λ κs. (rawptr_vals, ((λ k. lowered k ∷ []), (rawptr_vals, (uint_vals w64, (rawptr_vals, (uint_vals w64, tt)))))))
    (λ κs. (rawptr_Tells, (lowers.val_is, (rawptr_Tells, (uint_Tells w64, (rawptr_Tells, (uint_Tells w64, tt)))))))
    (λ κs qs bounds a g are.
    let p = a.0 in let r = a.1.1.0 in let t = a.1.1.1.1.0 in
    qed 𝓛
    (raw (on_entry 𝓛 f.signature κs qs a (y 𝓛 𝓜 𝓡 wired g a.1.0 a.1.1.1.0 a.1.1.1.1.1.0 are.1.0 are.1.1.1.0.1
    are.1.1.1.1.1.0.1 p r t).0.4) ∷
    raw (⋆ 𝓛 (Had 𝓛 𝓜 𝓡 wired g a.1.0 a.1.1.1.0 a.1.1.1.1.1.0 are.1.0 are.1.1.1.0.1 are.1.1.1.1.1.0.1 p r t)) ∷
    []) ∵ drop ! $
    by ! (at_each 𝓛 𝓜 𝓡 wired g a.1.0 a.1.1.1.0 a.1.1.1.1.1.0 are.1.0 are.1.1.1.0.1 are.1.1.1.1.1.0.1 p r t))
