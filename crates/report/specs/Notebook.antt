-- The trainer's notebook: tables and the reports that they have, under one statement of the definitions; and the traps that document 01 names.
-- Assumes nothing.
use Rattle.std.specs.Prelude.{ℕ, ◌≡◌, refl, List, [], ◌∷◌}
use Rattle.report.specs.Cases.{Case, row, as_computed, as_given, walk_of}

-- ---- the starred entries

-- "The table above": main WRITEs after START of a routine that READs
abbrev pub the_table : Case
the_table = record {
  lines =
      row 1 1 1 2 2 5 0 0
      ∷ row 2 0 1 1 0 0 0 0
      ∷ row 2 1 1 1 0 0 0 0
      ∷ row 3 3 0 0 0 0 0 0
      ∷ row 3 2 0 0 0 0 0 0
      ∷ row 4 9 1 0 0 0 0 0
      ∷ row 4 2 0 0 0 0 0 0
      ∷ row 4 12 0 0 0 0 0 0
      ∷ row 4 1 1 0 0 0 0 0
      ∷ row 4 12 0 0 0 0 0 0
      ∷ [];
  report = row 51 0 1 1 1 0 1 0 ∷ row 59 1 0 0 0 0 0 0 ∷ [];
}

-- "Main READs instead: shared 0, unguarded 0"
abbrev pub main_reads : Case
main_reads = record {
  lines =
      row 1 1 1 2 2 5 0 0
      ∷ row 2 0 1 1 0 0 0 0
      ∷ row 2 1 1 1 0 0 0 0
      ∷ row 3 3 0 0 0 0 0 0
      ∷ row 3 2 0 0 0 0 0 0
      ∷ row 4 9 1 0 0 0 0 0
      ∷ row 4 1 0 0 0 0 0 0
      ∷ row 4 12 0 0 0 0 0 0
      ∷ row 4 1 1 0 0 0 0 0
      ∷ row 4 12 0 0 0 0 0 0
      ∷ [];
  report = row 51 0 2 0 0 0 0 0 ∷ row 59 0 0 0 0 0 0 0 ∷ [];
}

-- "Main WRITEs only before START: shared 0"
abbrev pub writes_before : Case
writes_before = record {
  lines =
      row 1 1 1 2 2 5 0 0
      ∷ row 2 0 1 1 0 0 0 0
      ∷ row 2 1 1 1 0 0 0 0
      ∷ row 3 3 0 0 0 0 0 0
      ∷ row 3 2 0 0 0 0 0 0
      ∷ row 4 2 0 0 0 0 0 0
      ∷ row 4 9 1 0 0 0 0 0
      ∷ row 4 12 0 0 0 0 0 0
      ∷ row 4 1 1 0 0 0 0 0
      ∷ row 4 12 0 0 0 0 0 0
      ∷ [];
  report = row 51 0 1 1 0 0 0 0 ∷ row 59 0 0 0 0 0 0 0 ∷ [];
}

-- "START in a loop of a routine that WRITEs: shared with itself"
abbrev pub with_itself : Case
with_itself = record {
  lines =
      row 1 1 1 1 2 4 0 0
      ∷ row 2 1 1 1 0 0 0 0
      ∷ row 3 2 0 0 0 0 0 0
      ∷ row 3 2 0 0 0 0 0 0
      ∷ row 4 9 1 0 0 0 0 0
      ∷ row 4 10 0 0 0 0 0 0
      ∷ row 4 2 0 0 0 0 0 0
      ∷ row 4 12 0 0 0 0 0 0
      ∷ [];
  report = row 51 0 0 1 1 0 1 0 ∷ row 59 1 0 0 0 0 0 0 ∷ [];
}

-- "Both accesses between TAKE and GIVE of lock 0: common locks 1, unguarded 0"
abbrev pub both_guarded : Case
both_guarded = record {
  lines =
      row 1 1 1 4 2 9 0 0
      ∷ row 2 0 1 1 0 0 0 0
      ∷ row 2 0 2 1 0 0 0 0
      ∷ row 2 1 1 1 0 0 0 0
      ∷ row 2 1 2 1 0 0 0 0
      ∷ row 3 5 0 0 0 0 0 0
      ∷ row 3 4 0 0 0 0 0 0
      ∷ row 4 9 1 0 0 0 0 0
      ∷ row 4 5 1 0 0 0 0 0
      ∷ row 4 2 0 0 0 0 0 0
      ∷ row 4 6 1 0 0 0 0 0
      ∷ row 4 12 0 0 0 0 0 0
      ∷ row 4 5 3 0 0 0 0 0
      ∷ row 4 1 2 0 0 0 0 0
      ∷ row 4 6 3 0 0 0 0 0
      ∷ row 4 12 0 0 0 0 0 0
      ∷ [];
  report = row 51 0 1 1 1 1 0 0 ∷ row 59 0 0 0 0 0 0 0 ∷ [];
}

-- "A TAKE whose handle may be lock 0 or 1 adds none". In front of this table, and of those below that have no START of their own, stands a START of a
-- routine that only RETURNs: C-13 leaves out what no START can precede
abbrev pub take_of_two : Case
take_of_two = record {
  lines =
      row 1 1 2 3 2 6 0 0
      ∷ row 2 0 1 1 0 0 0 0
      ∷ row 2 0 2 1 0 0 0 0
      ∷ row 2 0 2 1 1 0 0 0
      ∷ row 3 5 0 0 0 0 0 0
      ∷ row 3 1 0 0 0 0 0 0
      ∷ row 4 9 1 0 0 0 0 0
      ∷ row 4 7 1 2 0 0 0 0
      ∷ row 4 5 1 0 0 0 0 0
      ∷ row 4 2 0 0 0 0 0 0
      ∷ row 4 12 0 0 0 0 0 0
      ∷ row 4 12 0 0 0 0 0 0
      ∷ [];
  report = row 51 0 0 1 0 0 0 0 ∷ row 59 0 0 0 0 0 0 0 ∷ [];
}

-- "a GIVE through it is stray and removes both": both are held at the READ of cell 1 before it, none at the WRITE behind it
abbrev pub give_of_two : Case
give_of_two = record {
  lines =
      row 1 2 2 5 2 9 0 0
      ∷ row 2 0 1 1 0 0 0 0
      ∷ row 2 0 2 1 0 0 0 0
      ∷ row 2 0 2 1 1 0 0 0
      ∷ row 2 0 2 1 0 0 0 0
      ∷ row 2 0 1 1 1 0 0 0
      ∷ row 3 8 0 0 0 0 0 0
      ∷ row 3 1 0 0 0 0 0 0
      ∷ row 4 9 1 0 0 0 0 0
      ∷ row 4 7 1 2 0 0 0 0
      ∷ row 4 5 2 0 0 0 0 0
      ∷ row 4 5 3 0 0 0 0 0
      ∷ row 4 1 4 0 0 0 0 0
      ∷ row 4 6 1 0 0 0 0 0
      ∷ row 4 2 0 0 0 0 0 0
      ∷ row 4 12 0 0 0 0 0 0
      ∷ row 4 12 0 0 0 0 0 0
      ∷ [];
  report = row 51 0 0 1 0 0 0 0 ∷ row 51 1 1 0 0 3 0 0 ∷ row 52 5 0 0 0 0 0 0 ∷ row 59 0 1 0 0 0 0 0 ∷ [];
}

-- "TAKE, CALL of a routine with no GIVE, WRITE: still held"
abbrev pub held_over_call : Case
held_over_call = record {
  lines =
      row 1 1 1 2 3 7 0 0
      ∷ row 2 0 1 1 0 0 0 0
      ∷ row 2 0 2 1 0 0 0 0
      ∷ row 3 5 0 0 0 0 0 0
      ∷ row 3 1 0 0 0 0 0 0
      ∷ row 3 1 0 0 0 0 0 0
      ∷ row 4 9 2 0 0 0 0 0
      ∷ row 4 5 1 0 0 0 0 0
      ∷ row 4 8 1 0 0 0 0 0
      ∷ row 4 2 0 0 0 0 0 0
      ∷ row 4 12 0 0 0 0 0 0
      ∷ row 4 12 0 0 0 0 0 0
      ∷ row 4 12 0 0 0 0 0 0
      ∷ [];
  report = row 51 0 0 1 0 1 0 0 ∷ row 59 0 0 0 0 0 0 0 ∷ [];
}

-- ---- document 02, C-18: locks held for reading

-- main WRITEs a cell between its `main` and GIVE, a started routine READs it between its `other` and GIVE: 5 is TAKE, 13 is TAKER. "A lock is now common to a
-- cell if it is surely held for writing at each counted WRITE and surely held either way at each counted READ"
abbrev pub under : ℕ → ℕ → ℕ → ℕ → Case
under main other common unguarded = record {
  lines =
      row 1 1 1 4 2 9 0 0
      ∷ row 2 0 1 1 0 0 0 0
      ∷ row 2 0 2 1 0 0 0 0
      ∷ row 2 1 1 1 0 0 0 0
      ∷ row 2 1 2 1 0 0 0 0
      ∷ row 3 5 0 0 0 0 0 0
      ∷ row 3 4 0 0 0 0 0 0
      ∷ row 4 9 1 0 0 0 0 0
      ∷ row 4 main 1 0 0 0 0 0
      ∷ row 4 2 0 0 0 0 0 0
      ∷ row 4 6 1 0 0 0 0 0
      ∷ row 4 12 0 0 0 0 0 0
      ∷ row 4 other 3 0 0 0 0 0
      ∷ row 4 1 2 0 0 0 0 0
      ∷ row 4 6 3 0 0 0 0 0
      ∷ row 4 12 0 0 0 0 0 0
      ∷ [];
  report = row 51 0 1 1 1 common unguarded 0 ∷ row 59 unguarded 0 0 0 0 0 0 ∷ [];
}

-- "TAKE adds to both sets; TAKER adds only to the second set": TAKE of lock 0, TAKER of lock 1, and an access
abbrev pub both_kinds : ℕ → ℕ → ℕ → ℕ → Case
both_kinds access reads writes common = record {
  lines =
      row 1 1 2 3 2 6 0 0
      ∷ row 2 0 1 1 0 0 0 0
      ∷ row 2 0 2 1 0 0 0 0
      ∷ row 2 0 2 1 1 0 0 0
      ∷ row 3 5 0 0 0 0 0 0
      ∷ row 3 1 0 0 0 0 0 0
      ∷ row 4 9 1 0 0 0 0 0
      ∷ row 4 5 1 0 0 0 0 0
      ∷ row 4 13 2 0 0 0 0 0
      ∷ row 4 access 0 0 0 0 0 0
      ∷ row 4 12 0 0 0 0 0 0
      ∷ row 4 12 0 0 0 0 0 0
      ∷ [];
  report = row 51 0 reads writes 0 common 0 0 ∷ row 59 0 0 0 0 0 0 0 ∷ [];
}

-- "under TAKE's one-lock condition": a TAKER whose handle may be lock 0 or 1 adds none
abbrev pub taker_of_two : Case
taker_of_two = record {
  lines =
      row 1 1 2 3 2 6 0 0
      ∷ row 2 0 1 1 0 0 0 0
      ∷ row 2 0 2 1 0 0 0 0
      ∷ row 2 0 2 1 1 0 0 0
      ∷ row 3 5 0 0 0 0 0 0
      ∷ row 3 1 0 0 0 0 0 0
      ∷ row 4 9 1 0 0 0 0 0
      ∷ row 4 7 1 2 0 0 0 0
      ∷ row 4 13 1 0 0 0 0 0
      ∷ row 4 1 0 0 0 0 0 0
      ∷ row 4 12 0 0 0 0 0 0
      ∷ row 4 12 0 0 0 0 0 0
      ∷ [];
  report = row 51 0 1 0 0 0 0 0 ∷ row 59 0 0 0 0 0 0 0 ∷ [];
}

-- "GIVE ends either hold; it is stray unless its flow set is one lock surely held either way": behind a TAKER the first GIVE is not stray, the second is
abbrev pub gives_reading : Case
gives_reading = record {
  lines =
      row 1 1 1 2 2 7 0 0
      ∷ row 2 0 1 1 0 0 0 0
      ∷ row 2 0 2 1 0 0 0 0
      ∷ row 3 6 0 0 0 0 0 0
      ∷ row 3 1 0 0 0 0 0 0
      ∷ row 4 9 1 0 0 0 0 0
      ∷ row 4 13 1 0 0 0 0 0
      ∷ row 4 1 0 0 0 0 0 0
      ∷ row 4 6 1 0 0 0 0 0
      ∷ row 4 6 1 0 0 0 0 0
      ∷ row 4 12 0 0 0 0 0 0
      ∷ row 4 12 0 0 0 0 0 0
      ∷ [];
  report = row 51 0 1 0 0 1 0 0 ∷ row 52 4 0 0 0 0 0 0 ∷ row 59 0 1 0 0 0 0 0 ∷ [];
}

abbrev pub for_reading : List Case
for_reading =
    under 5 13 1 0 ∷ under 13 13 0 1 ∷ under 13 5 0 1 ∷ both_kinds 2 0 1 1 ∷ both_kinds 1 1 0 3 ∷ taker_of_two ∷ gives_reading ∷ []

abbrev pub notebook : List Case
notebook =
    the_table ∷ main_reads ∷ writes_before ∷ with_itself ∷ both_guarded ∷ take_of_two ∷ give_of_two ∷ held_over_call ∷ for_reading

pub notebook_holds : as_computed notebook ≡ as_given notebook
unfolding as_computed
notebook_holds = refl

-- ---- traps

-- "counting a lock kept over a call that may give it up": the lock is handed to the routine, which GIVEs it
abbrev pub given_by_call : Case
given_by_call = record {
  lines =
      row 1 1 1 3 3 8 0 0
      ∷ row 2 0 1 1 0 0 0 0
      ∷ row 2 0 2 1 0 0 0 0
      ∷ row 2 1 2 0 0 0 0 0
      ∷ row 3 5 0 0 0 0 0 0
      ∷ row 3 2 0 0 0 0 0 0
      ∷ row 3 1 0 0 0 0 0 0
      ∷ row 4 9 2 0 0 0 0 0
      ∷ row 4 5 1 0 0 0 0 0
      ∷ row 4 8 1 1 0 0 0 0
      ∷ row 4 2 0 0 0 0 0 0
      ∷ row 4 12 0 0 0 0 0 0
      ∷ row 4 6 2 0 0 0 0 0
      ∷ row 4 12 0 0 0 0 0 0
      ∷ row 4 12 0 0 0 0 0 0
      ∷ [];
  report = row 51 0 0 1 0 0 0 0 ∷ row 59 0 0 0 0 0 0 0 ∷ [];
}

-- "forgetting that a started thread's own STARTs belong to its effect": the routine that is started starts the one that READs
abbrev pub starts_in_effect : Case
starts_in_effect = record {
  lines =
      row 1 1 0 2 3 7 0 0
      ∷ row 2 0 1 1 0 0 0 0
      ∷ row 2 2 1 1 0 0 0 0
      ∷ row 3 3 0 0 0 0 0 0
      ∷ row 3 2 0 0 0 0 0 0
      ∷ row 3 2 0 0 0 0 0 0
      ∷ row 4 9 1 0 0 0 0 0
      ∷ row 4 2 0 0 0 0 0 0
      ∷ row 4 12 0 0 0 0 0 0
      ∷ row 4 9 2 0 0 0 0 0
      ∷ row 4 12 0 0 0 0 0 0
      ∷ row 4 1 1 0 0 0 0 0
      ∷ row 4 12 0 0 0 0 0 0
      ∷ [];
  report = row 51 0 1 1 1 0 1 0 ∷ row 59 1 0 0 0 0 0 0 ∷ [];
}

-- the futures of all CALLs of a routine belong to the future of its STARTs: main WRITEs after the CALL of a routine with a START
abbrev pub future_of_callers : Case
future_of_callers = record {
  lines =
      row 1 1 0 2 3 7 0 0
      ∷ row 2 0 1 1 0 0 0 0
      ∷ row 2 2 1 1 0 0 0 0
      ∷ row 3 3 0 0 0 0 0 0
      ∷ row 3 2 0 0 0 0 0 0
      ∷ row 3 2 0 0 0 0 0 0
      ∷ row 4 8 1 0 0 0 0 0
      ∷ row 4 2 0 0 0 0 0 0
      ∷ row 4 12 0 0 0 0 0 0
      ∷ row 4 9 2 0 0 0 0 0
      ∷ row 4 12 0 0 0 0 0 0
      ∷ row 4 1 1 0 0 0 0 0
      ∷ row 4 12 0 0 0 0 0 0
      ∷ [];
  report = row 51 0 1 1 1 0 1 0 ∷ row 59 1 0 0 0 0 0 0 ∷ [];
}

-- the locks that a routine may give up go down CALLs, not STARTs: the lock is held over the CALL though a thread started there GIVEs it
abbrev pub given_by_start : Case
given_by_start = record {
  lines =
      row 1 1 1 4 3 9 0 0
      ∷ row 2 0 1 1 0 0 0 0
      ∷ row 2 0 2 1 0 0 0 0
      ∷ row 2 1 2 0 0 0 0 0
      ∷ row 2 2 2 0 0 0 0 0
      ∷ row 3 5 0 0 0 0 0 0
      ∷ row 3 2 0 0 0 0 0 0
      ∷ row 3 2 0 0 0 0 0 0
      ∷ row 4 8 1 1 0 0 0 0
      ∷ row 4 5 1 0 0 0 0 0
      ∷ row 4 8 1 1 0 0 0 0
      ∷ row 4 2 0 0 0 0 0 0
      ∷ row 4 12 0 0 0 0 0 0
      ∷ row 4 9 2 2 0 0 0 0
      ∷ row 4 12 0 0 0 0 0 0
      ∷ row 4 6 3 0 0 0 0 0
      ∷ row 4 12 0 0 0 0 0 0
      ∷ [];
  report = row 51 0 0 1 0 1 0 0 ∷ row 52 7 0 0 0 0 0 0 ∷ row 59 0 1 0 0 0 0 0 ∷ [];
}

-- "At the first statement of a routine every way in counts, the entry included": a loop back to it has given up the lock that the CALL holds
abbrev pub every_way_in : Case
every_way_in = record {
  lines =
      row 1 1 1 3 3 8 0 0
      ∷ row 2 0 2 1 0 0 0 0
      ∷ row 2 1 2 0 0 0 0 0
      ∷ row 2 1 1 1 0 0 0 0
      ∷ row 3 4 0 0 0 0 0 0
      ∷ row 3 3 0 0 0 0 0 0
      ∷ row 3 1 0 0 0 0 0 0
      ∷ row 4 9 2 0 0 0 0 0
      ∷ row 4 5 0 0 0 0 0 0
      ∷ row 4 8 1 0 0 0 0 0
      ∷ row 4 12 0 0 0 0 0 0
      ∷ row 4 1 2 0 0 0 0 0
      ∷ row 4 6 1 0 0 0 0 0
      ∷ row 4 10 4 0 0 0 0 0
      ∷ row 4 12 0 0 0 0 0 0
      ∷ [];
  report = row 51 0 1 0 0 0 0 0 ∷ row 52 5 0 0 0 0 0 0 ∷ row 59 0 1 0 0 0 0 0 ∷ [];
}

-- the entry is empty for a routine named by a START, though a CALL of it holds a lock
abbrev pub called_and_started : Case
called_and_started = record {
  lines =
      row 1 1 1 2 2 6 0 0
      ∷ row 2 0 2 1 0 0 0 0
      ∷ row 2 1 1 1 0 0 0 0
      ∷ row 3 4 0 0 0 0 0 0
      ∷ row 3 2 0 0 0 0 0 0
      ∷ row 4 5 0 0 0 0 0 0
      ∷ row 4 8 1 0 0 0 0 0
      ∷ row 4 9 1 0 0 0 0 0
      ∷ row 4 12 0 0 0 0 0 0
      ∷ row 4 1 1 0 0 0 0 0
      ∷ row 4 12 0 0 0 0 0 0
      ∷ [];
  report = row 51 0 1 0 0 0 0 0 ∷ row 59 0 0 0 0 0 0 0 ∷ [];
}

-- "all locks if there is none": behind a CALL of a routine that has no RETURN all locks are held
abbrev pub no_return : Case
no_return = record {
  lines =
      row 1 1 2 1 3 6 0 0
      ∷ row 2 0 1 1 0 0 0 0
      ∷ row 3 4 0 0 0 0 0 0
      ∷ row 3 1 0 0 0 0 0 0
      ∷ row 3 1 0 0 0 0 0 0
      ∷ row 4 9 2 0 0 0 0 0
      ∷ row 4 8 1 0 0 0 0 0
      ∷ row 4 2 0 0 0 0 0 0
      ∷ row 4 12 0 0 0 0 0 0
      ∷ row 4 10 4 0 0 0 0 0
      ∷ row 4 12 0 0 0 0 0 0
      ∷ [];
  report = row 51 0 0 1 0 3 0 0 ∷ row 59 0 0 0 0 0 0 0 ∷ [];
}

-- a statement that no way leads to counts as an access, and all locks are held there: it stands in a routine that is STARTed
abbrev pub never_reached : Case
never_reached = record {
  lines =
      row 1 1 2 1 2 5 0 0
      ∷ row 2 1 1 1 0 0 0 0
      ∷ row 3 2 0 0 0 0 0 0
      ∷ row 3 3 0 0 0 0 0 0
      ∷ row 4 9 1 0 0 0 0 0
      ∷ row 4 12 0 0 0 0 0 0
      ∷ row 4 10 4 0 0 0 0 0
      ∷ row 4 2 0 0 0 0 0 0
      ∷ row 4 12 0 0 0 0 0 0
      ∷ [];
  report = row 51 0 0 1 0 3 0 0 ∷ row 59 0 0 0 0 0 0 0 ∷ [];
}

-- a statement counts once for each cell that its handle may be: READ, WRITE by a handle of cells 0 and 2, READ of cell 2, WRITE of cell 3
abbrev pub two_cells : Case
two_cells = record {
  lines =
      row 1 4 0 3 1 6 0 0
      ∷ row 2 0 1 1 0 0 0 0
      ∷ row 2 0 1 1 2 0 0 0
      ∷ row 2 0 1 1 3 0 0 0
      ∷ row 3 6 0 0 0 0 0 0
      ∷ row 4 7 0 1 0 0 0 0
      ∷ row 4 1 0 0 0 0 0 0
      ∷ row 4 2 0 0 0 0 0 0
      ∷ row 4 1 1 0 0 0 0 0
      ∷ row 4 2 2 0 0 0 0 0
      ∷ row 4 12 0 0 0 0 0 0
      ∷ [];
  report =
      row 51 0 1 1 0 0 0 0
      ∷ row 51 1 0 0 0 0 0 0
      ∷ row 51 2 2 1 0 0 0 0
      ∷ row 51 3 0 1 0 0 0 0
      ∷ row 59 0 0 0 0 0 0 0
      ∷ [];
}

-- so does the walk of C-20
pub two_cells_walked : walk_of two_cells ≡ record { reads = 1 ∷ 0 ∷ 2 ∷ 0 ∷ []; writes = 1 ∷ 0 ∷ 1 ∷ 1 ∷ [] }
unfolding walk_of
two_cells_walked = refl

abbrev pub traps : List Case
traps =
    two_cells ∷ given_by_call ∷ starts_in_effect ∷ future_of_callers ∷ given_by_start ∷ every_way_in ∷ called_and_started ∷ no_return ∷ never_reached ∷ []

pub traps_hold : as_computed traps ≡ as_given traps
unfolding as_computed
traps_hold = refl
