-- C-13 by example: accesses before the first START, and which of them are left out of the common locks. Assumes nothing.
use Rattle.std.specs.Prelude.{◌≡◌, refl, List, [], ◌∷◌}
use Rattle.report.specs.Cases.{Case, row, as_computed, as_given}

-- set-up in main: it WRITEs, STARTs a routine that READs under the lock, and WRITEs again under the lock. Both WRITEs are counted in line 51
abbrev pub in_main : Case
in_main = record {
  lines =
      row 1 1 1 4 2 10 0 0
      ∷ row 2 0 1 1 0 0 0 0
      ∷ row 2 0 2 1 0 0 0 0
      ∷ row 2 1 1 1 0 0 0 0
      ∷ row 2 1 2 1 0 0 0 0
      ∷ row 3 6 0 0 0 0 0 0
      ∷ row 3 4 0 0 0 0 0 0
      ∷ row 4 2 0 0 0 0 0 0
      ∷ row 4 9 1 0 0 0 0 0
      ∷ row 4 5 1 0 0 0 0 0
      ∷ row 4 2 0 0 0 0 0 0
      ∷ row 4 6 1 0 0 0 0 0
      ∷ row 4 12 0 0 0 0 0 0
      ∷ row 4 5 3 0 0 0 0 0
      ∷ row 4 1 2 0 0 0 0 0
      ∷ row 4 6 3 0 0 0 0 0
      ∷ row 4 12 0 0 0 0 0 0
      ∷ [];
  report = row 51 0 1 2 1 1 0 0 ∷ row 59 0 0 0 0 0 0 0 ∷ [];
}

-- set-up in a helper that is CALLed before the first START alone
abbrev pub in_helper : Case
in_helper = record {
  lines =
      row 1 1 1 5 3 12 0 0
      ∷ row 2 0 1 1 0 0 0 0
      ∷ row 2 0 2 1 0 0 0 0
      ∷ row 2 1 1 1 0 0 0 0
      ∷ row 2 2 1 1 0 0 0 0
      ∷ row 2 2 2 1 0 0 0 0
      ∷ row 3 6 0 0 0 0 0 0
      ∷ row 3 2 0 0 0 0 0 0
      ∷ row 3 4 0 0 0 0 0 0
      ∷ row 4 8 1 0 0 0 0 0
      ∷ row 4 9 2 0 0 0 0 0
      ∷ row 4 5 1 0 0 0 0 0
      ∷ row 4 2 0 0 0 0 0 0
      ∷ row 4 6 1 0 0 0 0 0
      ∷ row 4 12 0 0 0 0 0 0
      ∷ row 4 2 2 0 0 0 0 0
      ∷ row 4 12 0 0 0 0 0 0
      ∷ row 4 5 4 0 0 0 0 0
      ∷ row 4 1 3 0 0 0 0 0
      ∷ row 4 6 4 0 0 0 0 0
      ∷ row 4 12 0 0 0 0 0 0
      ∷ [];
  report = row 51 0 1 2 1 1 0 0 ∷ row 59 0 0 0 0 0 0 0 ∷ [];
}

-- the helper is CALLed behind the START too: a START can precede that CALL, so its WRITE counts
abbrev pub before_and_after : Case
before_and_after = record {
  lines =
      row 1 1 1 3 3 10 0 0
      ∷ row 2 1 1 1 0 0 0 0
      ∷ row 2 2 1 1 0 0 0 0
      ∷ row 2 2 2 1 0 0 0 0
      ∷ row 3 4 0 0 0 0 0 0
      ∷ row 3 2 0 0 0 0 0 0
      ∷ row 3 4 0 0 0 0 0 0
      ∷ row 4 8 1 0 0 0 0 0
      ∷ row 4 9 2 0 0 0 0 0
      ∷ row 4 8 1 0 0 0 0 0
      ∷ row 4 12 0 0 0 0 0 0
      ∷ row 4 2 0 0 0 0 0 0
      ∷ row 4 12 0 0 0 0 0 0
      ∷ row 4 5 2 0 0 0 0 0
      ∷ row 4 1 1 0 0 0 0 0
      ∷ row 4 6 2 0 0 0 0 0
      ∷ row 4 12 0 0 0 0 0 0
      ∷ [];
  report = row 51 0 1 1 1 0 1 0 ∷ row 59 1 0 0 0 0 0 0 ∷ [];
}

-- a helper that itself STARTs: what it WRITEs before is left out (cell 0), what main WRITEs behind the CALL counts (cell 1)
abbrev pub helper_starts : Case
helper_starts = record {
  lines =
      row 1 2 1 5 3 11 0 0
      ∷ row 2 0 1 1 1 0 0 0
      ∷ row 2 1 1 1 0 0 0 0
      ∷ row 2 2 1 1 0 0 0 0
      ∷ row 2 2 1 1 1 0 0 0
      ∷ row 2 2 2 1 0 0 0 0
      ∷ row 3 3 0 0 0 0 0 0
      ∷ row 3 3 0 0 0 0 0 0
      ∷ row 3 5 0 0 0 0 0 0
      ∷ row 4 8 1 0 0 0 0 0
      ∷ row 4 2 0 0 0 0 0 0
      ∷ row 4 12 0 0 0 0 0 0
      ∷ row 4 2 1 0 0 0 0 0
      ∷ row 4 9 2 0 0 0 0 0
      ∷ row 4 12 0 0 0 0 0 0
      ∷ row 4 5 4 0 0 0 0 0
      ∷ row 4 1 2 0 0 0 0 0
      ∷ row 4 1 3 0 0 0 0 0
      ∷ row 4 6 4 0 0 0 0 0
      ∷ row 4 12 0 0 0 0 0 0
      ∷ [];
  report = row 51 0 1 1 0 1 0 0 ∷ row 51 1 1 1 1 0 1 0 ∷ row 59 1 0 0 0 0 0 0 ∷ [];
}

-- a loop: the WRITE in front of the START may follow it
abbrev pub round_a_loop : Case
round_a_loop = record {
  lines =
      row 1 1 1 3 2 7 0 0
      ∷ row 2 0 1 1 0 0 0 0
      ∷ row 2 1 1 1 0 0 0 0
      ∷ row 2 1 2 1 0 0 0 0
      ∷ row 3 3 0 0 0 0 0 0
      ∷ row 3 4 0 0 0 0 0 0
      ∷ row 4 2 0 0 0 0 0 0
      ∷ row 4 9 1 0 0 0 0 0
      ∷ row 4 10 0 0 0 0 0 0
      ∷ row 4 5 2 0 0 0 0 0
      ∷ row 4 1 1 0 0 0 0 0
      ∷ row 4 6 2 0 0 0 0 0
      ∷ row 4 12 0 0 0 0 0 0
      ∷ [];
  report = row 51 0 1 1 1 0 1 0 ∷ row 59 1 0 0 0 0 0 0 ∷ [];
}

-- the START stands two CALLs down, and so does the WRITE behind it
abbrev pub two_calls_down : Case
two_calls_down = record {
  lines =
      row 1 1 1 3 6 15 0 0
      ∷ row 2 4 1 1 0 0 0 0
      ∷ row 2 5 1 1 0 0 0 0
      ∷ row 2 5 2 1 0 0 0 0
      ∷ row 3 3 0 0 0 0 0 0
      ∷ row 3 2 0 0 0 0 0 0
      ∷ row 3 2 0 0 0 0 0 0
      ∷ row 3 2 0 0 0 0 0 0
      ∷ row 3 2 0 0 0 0 0 0
      ∷ row 3 4 0 0 0 0 0 0
      ∷ row 4 8 1 0 0 0 0 0
      ∷ row 4 8 3 0 0 0 0 0
      ∷ row 4 12 0 0 0 0 0 0
      ∷ row 4 8 2 0 0 0 0 0
      ∷ row 4 12 0 0 0 0 0 0
      ∷ row 4 9 5 0 0 0 0 0
      ∷ row 4 12 0 0 0 0 0 0
      ∷ row 4 8 4 0 0 0 0 0
      ∷ row 4 12 0 0 0 0 0 0
      ∷ row 4 2 0 0 0 0 0 0
      ∷ row 4 12 0 0 0 0 0 0
      ∷ row 4 5 2 0 0 0 0 0
      ∷ row 4 1 1 0 0 0 0 0
      ∷ row 4 6 2 0 0 0 0 0
      ∷ row 4 12 0 0 0 0 0 0
      ∷ [];
  report = row 51 0 1 1 1 0 1 0 ∷ row 59 1 0 0 0 0 0 0 ∷ [];
}

-- what a routine that is STARTed WRITEs in a helper counts: a START precedes all of it
abbrev pub in_started : Case
in_started = record {
  lines =
      row 1 1 1 1 3 6 0 0
      ∷ row 2 2 1 1 0 0 0 0
      ∷ row 3 2 0 0 0 0 0 0
      ∷ row 3 2 0 0 0 0 0 0
      ∷ row 3 2 0 0 0 0 0 0
      ∷ row 4 9 1 0 0 0 0 0
      ∷ row 4 12 0 0 0 0 0 0
      ∷ row 4 8 2 0 0 0 0 0
      ∷ row 4 12 0 0 0 0 0 0
      ∷ row 4 2 0 0 0 0 0 0
      ∷ row 4 12 0 0 0 0 0 0
      ∷ [];
  report = row 51 0 0 1 0 0 0 0 ∷ row 59 0 0 0 0 0 0 0 ∷ [];
}

abbrev pub set_up : List Case
set_up = in_main ∷ in_helper ∷ before_and_after ∷ helper_starts ∷ round_a_loop ∷ two_calls_down ∷ in_started ∷ []

pub set_up_holds : as_computed set_up ≡ as_given set_up
unfolding as_computed
set_up_holds = refl
