-- A run's state as it is at first shows where a run begins. Assumes nothing.
use Rattle.std.specs.Prelude.{ℕ, zero, suc, ◌<◌, ◌≡◌, refl, List, [], ℤ, pos, length, set, replicate}
use Rattle.std.proofs.Math.Path.{sym}
use Rattle.std.proofs.Common.{◌∙◌, subst, arith}
use Rattle.std.proofs.Math.ListN.{get_or, take, length-replicate, get_or-replicate}
use Rattle.std.proofs.lemmas.List.{take-replicate}
use Rattle.table.specs.Table.{Table, table_of, routine}
use Rattle.table.specs.Extents.{first_handles}
use Rattle.table.specs.Accepted.{Accepted}
use Rattle.table.specs.declared.Arguments.{Arguments}
use Rattle.machine.specs.State.{thread, start}
use Rattle.machine.proofs.FrameLaws.{start_bounded}
use Rattle.run_state.specs.LockWordLaws.{all_free}
use Rattle.run_state.specs.declared.State as Run
use Rattle.run_state.specs.Lists.{cleared}
use Rattle.run_state.specs.Shown.{Arrays, arrays, Shows, ListsShow, Entered}
use Rattle.run_state.specs.ShownLaws.{ThreadIn, opened_shown}
use Rattle.run_state.specs.TableLaws.{LookedUp, looked_up}

-- nothing is passed to routine 0
abbrev pub nothing_passed : Arguments
nothing_passed = record { first = 0; second = 0; third = 0; fourth = 0 }

-- what the lists hold at first, with these values
abbrev first_arrays : Table → List ℕ → Arrays
first_arrays t values =
    arrays 1 (replicate 512 0) values (set (replicate 16 0) 0 1) (replicate 16 (pos 0)) (replicate t.locks 0) (replicate t.cells (pos 0))

module _ (numbers : List ℤ) (accepted : Accepted (table_of numbers)) where
  looked : LookedUp numbers 0
  looked = looked_up numbers accepted 0 (omega (arith, accepted.routines_some))

  module _ (values new : List ℕ) (long : length values ≡ 4096)
      (e : Entered (table_of numbers) values new 0 1 (get_or (first_handles numbers) 0 0) (get_or (first_handles numbers) 1 0) nothing_passed) where
    shown : Shows (table_of numbers) (first_arrays (table_of numbers) new) (start (table_of numbers))
    unfolding start
    shown =
        record {
          lengths = record { nexts = length-replicate {A = ℕ} 512 0; values = e.long ∙ long; counts = refl; accumulators = refl; cells = length-replicate (table_of numbers).cells (pos 0) };
          started_is = refl;
          most = omega arith;
          cells_are = refl;
          locks_are = all_free (table_of numbers).locks;
          thread_is = λ m l. only m l;
        }
      where
        frame_there : get_or (replicate 512 0) 0 0 ≡ (routine (table_of numbers) 0).first
        frame_there = get_or-replicate 512 0 0 0 (omega arith) ∙ sym accepted.first_first

        only : (m : ℕ) → m < 1 → ThreadIn (table_of numbers) (first_arrays (table_of numbers) new) m (thread (start (table_of numbers)) m)
        only zero l =
            record {
              count_is = refl;
              few = omega arith;
              accumulator_is = refl;
              frames = (
                opened_shown (table_of numbers) accepted (replicate 512 0) values new [] 0 1 0 nothing_passed (omega (arith, accepted.routines_some)) frame_there
                    (subst (λ (i : ℕ). Entered (table_of numbers) values new 0 1 (routine (table_of numbers) 0).handle i nothing_passed) looked.end_is
                    (subst (λ (i : ℕ). Entered (table_of numbers) values new 0 1 i (get_or (first_handles numbers) 1 0) nothing_passed) looked.from_is e))
                    (λ k b. absurd (omega (arith, accepted.first_parameters))),
                tt,
              );
            }
        only (suc m) l = absurd (omega arith)

    -- all cleared, with one frame of one thread
    pub begun : (b : Run.State) → b ≡ cleared → ListsShow (table_of numbers) (record b { started = 1; counts = set b.counts 0 1; values = new }) (start (table_of numbers))
    begun b q =
        let t = table_of numbers in
        let locks : take {A = ℕ} t.locks (replicate 16 0) ≡ replicate t.locks 0 = take-replicate t.locks 16 0 accepted.locks_most in
        let cells : take t.cells (replicate 64 (pos 0)) ≡ replicate t.cells (pos 0) = take-replicate t.cells 64 (pos 0) accepted.cells_most in
        rw q (record { shows = rw (locks, cells) shown; bounded = start_bounded accepted })
