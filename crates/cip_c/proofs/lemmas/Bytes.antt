-- Bytes that lie side by side, as what is lent of them.
use Rattle.std.proofs.Common.{ℕ, List, [], ◌∷◌, ◌+◌}
use seplogic.Ra.Ura.{Ura}
use base.Fraction.{full_share}
use base.Logic.{ent, id⊢, emp, mono_r}
use types.Logic.{Logic, sem}
use types.SemTy.{cells}
use denote.Memory.{part_at, mem}
use denote.Builtin.{u8}
use denote.RawPtr.Bytes.{bytes}

module _ {M : Type 1} {𝓤 : Ura M} (𝓛 : Logic 𝓤) where
  pub bytes_to_cells : (xs : List ℕ) (b o : ℕ) → ent 𝓤 (sem 𝓛 (bytes full_share xs b o)) (sem 𝓛 (cells (mem u8) xs b o))
  bytes_to_cells [] b o = id⊢ 𝓤 (emp 𝓤)
  bytes_to_cells (x ∷ xs) b o = mono_r 𝓤 (sem 𝓛 (part_at u8 full_share x b o)) (bytes_to_cells xs b (o + 1))

  pub cells_to_bytes : (xs : List ℕ) (b o : ℕ) → ent 𝓤 (sem 𝓛 (cells (mem u8) xs b o)) (sem 𝓛 (bytes full_share xs b o))
  cells_to_bytes [] b o = id⊢ 𝓤 (emp 𝓤)
  cells_to_bytes (x ∷ xs) b o = mono_r 𝓤 (sem 𝓛 (part_at u8 full_share x b o)) (cells_to_bytes xs b (o + 1))
