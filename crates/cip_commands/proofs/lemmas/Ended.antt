-- Where a write fails, by commands that make records.
use Rattle.std.proofs.Common.{◌≡◌, ℕ, List, Bool, Err, refl, arith}
use Rattle.std.specs.Result.{IsErrOf}
use Rattle.cip_io.specs.Faults.{Rose}
use Rattle.cip_print.specs.declared.answer.Answer.{Answer}
use Rattle.cip_batch.specs.declared.error.StreamError.{StreamError}
use Rattle.cip_batch.specs.declared.error.StreamError.TheVariants as stops
use Rattle.cip_commands.specs.ExitStatuses.{WRITE_FAULT}
use Rattle.cip_commands.specs.Making.{Makes}
use Rattle.cip_commands.specs.Statuses.{MeansOfMaking, MeansOfTrying, Stream}
use Rattle.cip_commands.specs.Trying.{Sums}

module _ (answers : List Answer) (old new : Stream) where
  pub trying_broke_off : (stop : StreamError) → stop ≡ stops.WriteFault → Sums answers (Err stop) old.bytes new.bytes
      → (IsErrOf {T = Bool} (Err stop) stops.WriteFault → Rose old.faults new.faults)
      → MeansOfTrying answers WRITE_FAULT old new
  trying_broke_off stops.WriteFault is sums fault = record {
    comes = (2, omega arith, refl);
    done = λ e. absurd (omega (arith, e));
    flagged = λ e. absurd (omega (arith, e));
    write_fault = λ e. record { cause = fault refl; written = sums };
    out_of_memory = λ e. absurd (omega (arith, e));
  }
  trying_broke_off stops.Memory is sums fault = absurd (cc)
  trying_broke_off stops.ReadFault is sums fault = absurd sums
  trying_broke_off stops.Limit is sums fault = absurd sums

module _ (start records : ℕ) (old new : Stream) where
  pub making_broke_off : (stop : StreamError) → stop ≡ stops.WriteFault
      → Makes {A = Unit {0}} start records (Err stop) old.bytes new.bytes
      → (IsErrOf {T = Unit {0}} (Err stop) stops.WriteFault → Rose old.faults new.faults)
      → MeansOfMaking start records WRITE_FAULT old new
  making_broke_off stops.WriteFault is makes fault = record {
    comes = (1, omega arith, refl);
    done = λ e. absurd (omega (arith, e));
    write_fault = λ e. record { cause = fault refl; written = makes };
    out_of_memory = λ e. absurd (omega (arith, e));
  }
  making_broke_off stops.Memory is makes fault = absurd (cc)
  making_broke_off stops.ReadFault is makes fault = absurd makes
  making_broke_off stops.Limit is makes fault = absurd makes
