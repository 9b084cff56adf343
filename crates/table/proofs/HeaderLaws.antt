-- The limits that a header's rule gives, and the order of the lines. Assumes nothing.
use Rattle.std.proofs.lemmas.Bool.{and_parts}
use Rattle.std.specs.Prelude.{◌≡◌, List, true, ◌&&◌, ℕ, ◌+◌, ◌≤◌, leb, eqb, ℤ}
use Rattle.std.proofs.Common.{arith, leb-true}
use Rattle.table.specs.Fields.{field, unused}
use Rattle.table.specs.Header.{header_ok, within, cells, locks, handles, routines, statements, statement_line}
use Rattle.table.specs.HeaderLaws.{Sized}

-- the statements' lines follow each other
pub statement_line_lem : (f : List ℤ) (s : ℕ) → statement_line f 0 + s ≡ statement_line f s
statement_line_lem f s = omega arith

-- a number from low to high
pub between : (low high n : ℕ) → within low high n ≡ true → (low ≤ n) × (n ≤ high)
between low high n e = let p = and_parts (leb low n) (leb n high) e in (leb-true low n p.0, leb-true n high p.1)

pub header_sized : (f : List ℤ) → header_ok f ≡ true → Sized f
unfolding header_ok
header_sized f e =
    let lead = eqb (field f 0 0) 1 in
    let to_cells = lead && within 1 64 (cells f) in
    let to_locks = to_cells && within 0 16 (locks f) in
    let to_handles = to_locks && within 0 128 (handles f) in
    let to_routines = to_handles && within 1 32 (routines f) in
    let to_statements = to_routines && within 1 512 (statements f) in
    let p6 = and_parts to_statements (unused f 0 6) e in
    let p5 = and_parts to_routines (within 1 512 (statements f)) p6.0 in
    let p4 = and_parts to_handles (within 1 32 (routines f)) p5.0 in
    let p3 = and_parts to_locks (within 0 128 (handles f)) p4.0 in
    let p2 = and_parts to_cells (within 0 16 (locks f)) p3.0 in
    let p1 = and_parts lead (within 1 64 (cells f)) p2.0 in
    let c = between 1 64 (cells f) p1.1 in
    let l = between 0 16 (locks f) p2.1 in
    let h = between 0 128 (handles f) p3.1 in
    let r = between 1 32 (routines f) p4.1 in
    let s = between 1 512 (statements f) p5.1 in
    record {
      cells_some = c.0;
      cells_most = c.1;
      locks_most = l.1;
      handles_most = h.1;
      routines_some = r.0;
      routines_most = r.1;
      statements_some = s.0;
      statements_most = s.1;
    }
