-- What is at the three pointers of a call: lent for the call, and taken back after it.
use Rattle.std.proofs.Common.{◌≡◌, ℕ, ◌<◌, ◌^◌, ◌*◌, List, [], ◌∷◌, length, refl, arith, w8, ◌∙◌}
use Rattle.std.specs.Prelude.{Option}
use seplogic.Ra.Ura.{Ura}
use mir.Syntax.{named}
use mir.Val.{vptr}
use base.Fml.{Incl-refl, feq, flent, flft, fres, fsep}
use base.Fraction.{full_share}
use types.Kit.{Goal, Item, Seq, Soaks, ‵, ◌⊛◌, some, later, ◌$◌, move, drop, use1, use2, use3, split, fsplit, fjoin}
use types.Kit.{feq_i, feq_l, flt_l, flt_i, pick, await, rewrite}
use types.Logic.{Logic}
use types.SemTy.{Arr, Body, cells}
use types.Tokens.{lft_new, lft_end, lent_back}
use denote.Array.{Array}
use denote.Builtin.{u8}
use denote.Copied.{uint_Copied}
use denote.Lend.{Held, lends_ref, ref_back, lends_slice, slice_back, lends_shr_slice}
use denote.Memory.{part_at, mem}
use denote.RawPtr.{block_ptr}
use denote.RawPtr.Bytes.{bytes, bytes_apart, bytes_whole}
use denote.Ref.{MutRef}
use denote.Slice.{MutSlice, ShrSlice, slice_val, finally}
use Rattle.cip_c.specs.Pointers.{given, given_bytes}
use Rattle.cip_c.specs.declared.settings.Settings.{Settings}
use Rattle.cip_c.specs.contracts.labeller_slot.Slot.{the_row}
use Rattle.cip_c.proofs.lemmas.Bytes.{bytes_to_cells, cells_to_bytes}

-- the places of labeller, record and text, and the counts of bytes
pub record Places : Type 0 where
  pub b : ℕ
  pub o : ℕ
  pub b' : ℕ
  pub o' : ℕ
  pub b'' : ℕ
  pub o'' : ℕ
  pub n : ℕ
  pub m : ℕ

pub record AreLow (at : Places) : Type 0 where
  pub labeller : at.o < 2 ^ 63
  pub bytes : at.o' < 2 ^ 63
  pub length : at.n < 2 ^ 63
  pub text : at.o'' < 2 ^ 63
  pub room : at.m < 2 ^ 63

-- the lifetimes and the names of a loan
pub record Names : Type 0 where
  pub α : ℕ
  pub β : ℕ
  pub δ : ℕ
  pub γ : ℕ
  pub ν : ℕ

module _ {M : Type 1} {𝓤 : Ura M} (Γ : List (Item 𝓤)) (at : Places) (x : Option Settings) (xs : List ℕ) where
  abbrev all_given : List ℕ → List (Item 𝓤)
  all_given text = ‵ (given the_row (block_ptr at.b at.o) x) ∷ ‵ (given_bytes at.n (block_ptr at.b' at.o') xs) ∷
      ‵ (given_bytes at.m (block_ptr at.b'' at.o'') text) ∷ Γ

  abbrev owed : List ℕ → Names → List (Item 𝓤)
  owed old k =
      ‵ (flent (k.δ ∷ []) (Held u8 (length old) at.b'' at.o'' k.ν)) ∷
      ‵ (flent (k.β ∷ []) (fsep (feq ℕ (length xs) (length xs)) (bytes full_share xs at.b' at.o'))) ∷
      ‵ (flent (k.α ∷ []) (Body (mem the_row) at.b at.o k.γ)) ∷ Γ

  abbrev lent : List ℕ → Names → List (Item 𝓤)
  lent old k =
      ‵ ((MutRef (named 0) (k.α ∷ []) the_row).own_val (record { ref_ptr = (at.b, at.o); ghost_name = k.γ; now = x })
      (vptr at.b at.o ∷ [])) ∷
      ‵ ((ShrSlice (named 1) (k.β ∷ []) u8).own_val (record { ref_ptr = (at.b', at.o'); now = xs })
      (slice_val (at.b', at.o') at.n ∷ [])) ∷
      ‵ ((MutSlice (named 2) (k.δ ∷ []) u8).own_val (record { ref_ptr = (at.b'', at.o''); ghost_name = k.ν; now = old })
      (slice_val (at.b'', at.o'') at.m ∷ [])) ∷
      ‵ (flft (k.α ∷ []) full_share) ∷ ‵ (flft (k.β ∷ []) full_share) ∷ ‵ (flft (k.δ ∷ []) full_share) ∷ owed old k

  abbrev back : List ℕ → List ℕ → Names → List (Item 𝓤)
  back old now k =
      ‵ (flft (k.α ∷ []) full_share) ∷ ‵ (flft (k.β ∷ []) full_share) ∷ ‵ (flft (k.δ ∷ []) full_share) ∷
      ‵ (fres k.γ (the_row.coded.code x)) ∷ ‵ (finally u8 k.ν now) ∷ owed old k

module _ {M : Type 1} {𝓤 : Ura M} {𝓛 : Logic 𝓤} {K : Type 0} {Γ : List (Item 𝓤)} {G : Goal 𝓤 𝓛.H} (at : Places)
    (x : Option Settings) (xs : List ℕ) where
  -- addresses and counts are those of memory
  pub tells : K → (old : List ℕ) → (AreLow at → Seq K 𝓛 (all_given Γ at x xs old) G) →
      Seq K 𝓛 (all_given Γ at x xs old) G
  tells t old k =
      fsplit t $ flt_l t (λ low. flt_i t at.o (2 ^ 63) low $ fjoin t $ move t (1 ∷ []) $
      fsplit t $ fsplit t $ flt_l t (λ low'. flt_l t (λ small. flt_i t at.n (2 ^ 63) small $
      flt_i t at.o' (2 ^ 63) low' $ fjoin t $ fjoin t $ move t (2 ∷ []) $
      fsplit t $ fsplit t $ flt_l t (λ low''. flt_l t (λ narrow. flt_i t at.m (2 ^ 63) narrow $
      flt_i t at.o'' (2 ^ 63) low'' $ fjoin t $ fjoin t $ move t (2 ∷ 1 ∷ []) $
      k (record { labeller = low; bytes = low'; length = small; text = low''; room = narrow }))))))

  pub lends : K → Soaks G → (old : List ℕ) → AreLow at → (length xs ≡ at.n → length old ≡ at.m → (k : Names) →
      Seq K 𝓛 (lent Γ at x xs old k) G) → Seq K 𝓛 (all_given Γ at x xs old) G
  lends t a old low k =
      let small = low.length in let narrow = low.room in
      fsplit t $ flt_l t (λ _. lft_new t a (λ α. let κ = α ∷ [] in move t (1 ∷ []) $
      use1 𝓛
      (later
      (some (λ (γ : ℕ). ‵ ((MutRef (named 0) κ the_row).own_val
      (record { ref_ptr = (at.b, at.o); ghost_name = γ; now = x }) (vptr at.b at.o ∷ [])) ⊛
      ‵ (flent κ (Body (mem the_row) at.b at.o γ)))))
      (lends_ref 𝓛 the_row (named 0) κ x at.b at.o) $ await t a $ pick t (λ γ. split t $
      -- [the labeller, lent; what is owed for it; its token; the record; the text]
      lft_new t a (λ β. let λ' = β ∷ [] in move t (4 ∷ []) $ fsplit t $ drop t $
      use1 𝓛 (‵ (fsep (feq ℕ (length xs) at.n) (bytes full_share xs at.b' at.o')))
      (bytes_apart 𝓛 full_share at.n xs at.b' at.o') $ fsplit t $
      feq_l t (λ long. feq_i t ℕ (length xs) (length xs) refl $ fjoin t $
      let fits : (length xs < 2 ^ 64) × (length xs * 1 < 2 ^ 63) = (
        omega (arith, long, small),
        omega (arith, long, small),
      ) in
      use2 𝓛
      (later
      ((‵ ((ShrSlice (named 1) λ' u8).own_val (record { ref_ptr = (at.b', at.o'); now = xs })
      (slice_val (at.b', at.o') (length xs) ∷ [])) ⊛ ‵ (flent λ'
      (fsep (feq ℕ (length xs) (length xs)) (bytes full_share xs at.b' at.o')))) ⊛ ‵ (flft λ' full_share)))
      (lends_shr_slice 𝓛 u8 (named 1) λ' full_share xs at.b' at.o' fits λ' ((uint_Copied 𝓛 w8).shares full_share λ')
      ((λ', full_share) ∷ []) (Incl-refl λ') (Incl-refl λ')) $ await t a $ split t $ split t $
      rewrite t 0 (λ (k : ℕ). ‵ ((ShrSlice (named 1) λ' u8).own_val (record { ref_ptr = (at.b', at.o'); now = xs })
      (slice_val (at.b', at.o') k ∷ []))) long refl $
      -- [the record, lent; what is owed for it; its token; the same of the labeller; the text]
      lft_new t a (λ δ. let μ = δ ∷ [] in move t (7 ∷ []) $ fsplit t $ drop t $
      use1 𝓛 (‵ (fsep (feq ℕ (length old) at.m) (bytes full_share old at.b'' at.o'')))
      (bytes_apart 𝓛 full_share at.m old at.b'' at.o'') $ fsplit t $ feq_l t (λ wide.
      let fits' : (length old < 2 ^ 64) × (length old * 1 < 2 ^ 63) = (
        omega (arith, wide, narrow),
        omega (arith, wide, narrow),
      ) in
      use1 𝓛 (‵ (cells (mem u8) old at.b'' at.o'')) (bytes_to_cells 𝓛 old at.b'' at.o'') $
      use1 𝓛
      (later
      (some (λ (ν : ℕ). ‵ ((MutSlice (named 2) μ u8).own_val
      (record { ref_ptr = (at.b'', at.o''); ghost_name = ν; now = old }) (slice_val (at.b'', at.o'') (length old) ∷ []))
      ⊛ ‵ (flent μ (Held u8 (length old) at.b'' at.o'' ν)))))
      (lends_slice 𝓛 u8 (named 2) μ old at.b'' at.o'' fits') $ await t a $ pick t (λ ν. split t $
      rewrite t 0 (λ (k : ℕ). ‵ ((MutSlice (named 2) μ u8).own_val
      (record { ref_ptr = (at.b'', at.o''); ghost_name = ν; now = old }) (slice_val (at.b'', at.o'') k ∷ []))) wide
      refl $
      move t (6 ∷ 3 ∷ 0 ∷ 8 ∷ 5 ∷ 2 ∷ []) $ k long wide (record { α = α; β = β; δ = δ; γ = γ; ν = ν })))))))))

  pub comes_back : K → Soaks G → (old now new : List ℕ) → now ≡ new → AreLow at → length xs ≡ at.n → length old ≡ at.m →
      (k : Names) → Seq K 𝓛 (all_given Γ at x xs new) G → Seq K 𝓛 (back Γ at x xs old now k) G
  comes_back t a old now new is_new low long wide k rest =
      lft_end t a $ move t (1 ∷ []) $ lft_end t a $ move t (2 ∷ []) $ lft_end t a $
      -- [the ended lifetimes: the text's, the record's, the labeller's; the last values; what is owed]
      move t (2 ∷ 7 ∷ 3 ∷ []) $ use3 𝓛 (later (‵ (part_at the_row full_share x at.b at.o)))
      (ref_back 𝓛 the_row (k.α ∷ []) k.γ x at.b at.o) $ await t a $ flt_i t at.o (2 ^ 63) low.labeller $ fjoin t $
      -- [the labeller; the ended lifetimes of text and record; the text's last value; what is owed for text and record]
      move t (2 ∷ 5 ∷ []) $ lent_back t a $ fsplit t $ drop t $ feq_i t ℕ (length xs) at.n long $ fjoin t $
      use1 𝓛 (‵ (part_at (Array u8 at.n) full_share xs at.b' at.o')) (bytes_whole 𝓛 full_share at.n xs at.b' at.o') $
      flt_i t at.n (2 ^ 63) low.length $ flt_i t at.o' (2 ^ 63) low.bytes $ fjoin t $ fjoin t $
      -- [the record; the labeller; the ended lifetime of the text; its last value; what is owed for it]
      move t (2 ∷ 4 ∷ 3 ∷ []) $ use3 𝓛 (later (‵ ((Arr (mem u8) (length old)).own_at now at.b'' at.o'')))
      (slice_back 𝓛 u8 (k.δ ∷ []) k.ν now (length old) at.b'' at.o'') $ await t a $
      fsplit t $ feq_l t (λ same. use1 𝓛 (‵ (bytes full_share now at.b'' at.o'')) (cells_to_bytes 𝓛 now at.b'' at.o'') $
      feq_i t ℕ (length now) at.m (same ∙ wide) $ fjoin t $
      use1 𝓛 (‵ (part_at (Array u8 at.m) full_share now at.b'' at.o''))
      (bytes_whole 𝓛 full_share at.m now at.b'' at.o'') $ rewrite t 0
      (λ (zs : List ℕ). ‵ (part_at (Array u8 at.m) full_share zs at.b'' at.o'')) is_new refl $
      flt_i t at.m (2 ^ 63) low.room $ flt_i t at.o'' (2 ^ 63) low.text $ fjoin t $ fjoin t $ move t (2 ∷ 1 ∷ []) $
      rest)
